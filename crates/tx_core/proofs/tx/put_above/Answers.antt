use Rattle.std.proofs.Common.{◌≤◌, Bool, true, false, is_some, if◌then◌else◌, length, ap, ◌∙◌, arith}
use Rattle.attempt_lists.specs.Cells.{word_at}
use Rattle.attempt_lists.specs.Levels.{Levels, merged}
use Rattle.attempt_lists.specs.Laid.{merged_put, length-put}
use Rattle.tx_core.proofs.tx.put_above.Goals as goal

pub returns-then-in_child-clause-merged : goal.returns-then-in_child-clause-merged
returns-then-in_child-clause-merged c = ap merged c.in_ok-put_in_child.ensures.ok ∙ merged_put c.args.writes.now c.args.cell c.args.value c.ascending_law.ensures.child

one_more : (b : Bool) → (if b then 0 else 1) ≤ 1
one_more true = omega arith
one_more false = omega arith

pub returns-then-in_child-clause-len : goal.returns-then-in_child-clause-len
returns-then-in_child-clause-len c =
    omega (arith, ap (λ (l : Levels). length l.parent) c.in_ok-put_in_child.ensures.ok, ap (λ (l : Levels). length l.child) c.in_ok-put_in_child.ensures.ok, length-put c.args.writes.now.child c.args.cell c.args.value c.ascending_law.ensures.child, one_more (is_some (word_at c.args.writes.now.child c.args.cell)))
