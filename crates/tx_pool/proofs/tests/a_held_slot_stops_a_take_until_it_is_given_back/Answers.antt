use Rattle.std.proofs.Common.{List, ap, ◌∙◌, arith}
use Rattle.attempt_lists.specs.Parts.{Waiting, waiting_of}
use Rattle.cell_table.specs.Pass.{PassState}
use Rattle.tx_pool.proofs.tests.a_held_slot_stops_a_take_until_it_is_given_back.Goals as goal

pub expect_commit-requires-clause-draws : goal.expect_commit-requires-clause-draws
expect_commit-requires-clause-draws g c = omega (arith, c.expect_take-2.ensures.draws, ap (λ (p : PassState _ _). p.view.draws) c.in-Ok-begin-2.ensures.pass, c.expect_held-back.ensures.draws)

pub expect_commit-requires-clause-nothing : goal.expect_commit-requires-clause-nothing
expect_commit-requires-clause-nothing g c part = ap (λ (w : List Waiting). waiting_of w part) c.expect_take-2.ensures.stays.additions ∙ c.in-Ok-begin-2.ensures.fresh.4 part
