use Rattle.std.proofs.Common.{◌≡◌, ℕ, ◌<◌, true, List, [], ◌∷◌, length, Some, ap, ◌∙◌, arith}
use mathlib.Core.Logic.{dite}
use native.Mathlib.Decide.{ℕ_discrete}
use Rattle.cell_table.specs.Cells.{has}
use Rattle.cell_table.specs.Rule.{cells_of}
use Rattle.attempt_lists.specs.Cells.{Entries, word_at}
use Rattle.attempt_lists.specs.Parts.{waiting_of}
use Rattle.tx_core.specs.Tx.{Attempt}
use Rattle.tx_core.specs.Calls.{HoldsWrites}
use Rattle.tx_log.proofs.tests.commit.Goals as goal

some_there : (ws : Entries) (c x : ℕ) → word_at ws c ≡ Some x → 0 < length ws
some_there [] c x is = absurd (cc)
some_there (w ∷ ws) c x is = omega arith

held_none : (held : List (ℕ × ℕ)) (c : ℕ) → has c (cells_of held) ≡ true → held ≡ [] → ⊥
held_none [] c here none = cc
held_none (t ∷ ts) c here none = cc

pub draw_and_check-requires-clause-holds : goal.draw_and_check-requires-clause-holds
draw_and_check-requires-clause-holds g c =
    let same = ap (λ (a : Attempt _ _). a.additions) c.in-Ok.ensures.same in
    held_none _ 0 (c.in-Ok-resolve.ensures.settled.extended (rw same c.requires.some)).held

pub draw_and_check-requires-clause-undrawn : goal.draw_and_check-requires-clause-undrawn
draw_and_check-requires-clause-undrawn g c =
    c.in-Ok-resolve.ensures.leaves.does.pass.stage ∙ c.in-Ok.ensures.leaves.does.pass.stage ∙ c.vouched_law.ensures.undrawn c.requires.callable.before_commit

pub publish-requires-clause-checked : goal.publish-requires-clause-checked
publish-requires-clause-checked g c = (c.in-Ok-draw_and_check.field-0, c.in-Ok-draw_and_check.ensures.drawn.0)

pub publish-requires-clause-all_held : goal.publish-requires-clause-all_held
publish-requires-clause-all_held g c =
    let placed : HoldsWrites c.resolve.new.tx = c.in-Ok-resolve.ensures.settled.writes_held c.in-Ok.ensures.all_held in
    rw (ap (λ (a : Attempt _ _). a.writes) c.in-Ok-draw_and_check.ensures.same, c.draw_and_check.ensures.held) placed

pub publish-requires-clause-resolved : goal.publish-requires-clause-resolved
publish-requires-clause-resolved g c part =
    let drawn = ap (λ (a : Attempt _ _). waiting_of a.additions part) c.in-Ok-draw_and_check.ensures.same in
    let locked = ap (λ (a : Attempt _ _). waiting_of a.additions part) c.in-Ok.ensures.same in
    drawn ∙ dite (ℕ_discrete part 0) (λ same. rw same c.in-Ok-resolve.ensures.settled.emptied) (λ off. c.in-Ok-resolve.ensures.leaves.others.others part off ∙ locked ∙ c.requires.alone part off)

pub publish-requires-clause-some_write : goal.publish-requires-clause-some_write
publish-requires-clause-some_write g c =
    let same = ap (λ (a : Attempt _ _). a.additions) c.in-Ok.ensures.same in
    let there = some_there c.resolve.new.tx.writes 0 _ (c.in-Ok-resolve.ensures.settled.extended (rw same c.requires.some)).written in
    rw (ap (λ (a : Attempt _ _). a.writes) c.in-Ok-draw_and_check.ensures.same) there
