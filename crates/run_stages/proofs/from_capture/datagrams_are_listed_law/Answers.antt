use Rattle.run_stages.proofs.FromCapture.{items, all_items, items_values}
use Rattle.run_stages.proofs.from_capture.datagrams_are_listed_law.Goals as goal

pub returns : goal.returns
returns c = λ rules bytes tasks groups ascend. (items rules bytes tasks groups, all_items rules bytes tasks groups (record { named = c.member_law.ensures.named; each = c.member_law.ensures.each; only = c.member_law.ensures.only; complete = c.member_law.ensures.complete }) ascend, items_values rules bytes tasks groups)
