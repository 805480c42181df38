use Rattle.std.proofs.Common.{◌≡◌, ◌<◌, true, length, ap, sym, arith, IsSome, refl, ◌∙◌}
use Rattle.std.specs.Option.{option_or}
use Rattle.cell_table.specs.Pass.{PassState}
use Rattle.cell_table.specs.declared.view.Stage.TheVariants.{Open}
use Rattle.attempt_lists.specs.Levels.{merged}
use Rattle.attempt_lists.specs.Cells.{word_at}
use Rattle.tx_core.specs.Additions.{IsProvided}
use Rattle.tx_core.specs.Tx.{Attempt}
use Rattle.tx_core.proofs.Looks.{not_both}
use Rattle.tx_core.proofs.AttemptFacts.{attempt_looks}
use Rattle.tx_core.proofs.Providing.{provided_places, provided_locks}
use Rattle.tx_core.proofs.Locking.{attempt_locks_known}
use Rattle.tx_core.proofs.Nesting.{nested_free}
use Rattle.tx_core.proofs.tx.Tx.late_known.Goals as goal

-- the lock has its place, and the observation of the cell its version
pub invariant_of-self : goal.invariant_of-self
invariant_of-self g c =
    let there : c.args.cell < length c.self.inside.table.now.opening = rw (ap (λ (a : Attempt _ _). a.table) c.self.view_is) c.requires.cell in
    let committing : c.self.inside.committing ≡ true = ap (λ (a : Attempt _ _). a.committing) c.self.view_is ∙ c.requires.committing in
    let stage : c.self.inside.pass.view.stage ≡ Open = ap (λ (a : Attempt _ _). a.pass.view.stage) c.self.view_is ∙ c.requires.undrawn in
    let some : IsSome (option_or (word_at (merged c.self.inside.writes) c.args.cell) (word_at c.self.inside.reads.observations c.args.cell)) = rw (ap (λ (a : Attempt _ _). a.writes) c.self.view_is, ap (λ (a : Attempt _ _). a.observations) c.self.view_is) c.requires.known in
    let spare : 0 < c.self.inside.spare.locks = rw (ap (λ (a : Attempt _ _). a.spare.locks) c.self.view_is) c.requires.spare in
    let room : IsProvided c.self.inside.pass c.self.inside.reads c.self.inside.writes c.self.inside.held c.self.inside.additions c.self.inside.spare true = rw (← committing) c.self.invariant.1 in
    let takes = c.in-Ok.ensures.takes.0 in (
      attempt_locks_known _ _ c.self.inside.pass c.self.inside.pass c.lock_late.new.pass _ _ c.self.inside.held c.self.inside.held c.push_reserved.new.self _ c.args.cell c.in-Ok.version
          c.self.invariant.0 refl refl takes c.in-Ok.ensures.of stage c.push_reserved.ensures.entries there (λ r w. not_both (rw (w, r) at some) refl) c.in-Ok.ensures.seen,
      rw committing (provided_locks c.self.inside.pass c.lock_late.new.pass _ _ c.self.inside.held c.push_reserved.new.self _ _ room (omega (arith, ap (λ (s : PassState _ _). s.places) takes.is, room.locks, room.spare_locks, spare)) c.push_reserved.ensures.reserved spare),
      nested_free _ _ _ _ _ _ _ _ _ _ _ _ _ _ refl (c.self.invariant.2.before_commit committing) (λ e. e) c.self.invariant.2,
    )

pub invariant_of-self-in-Err : goal.invariant_of-self-in-Err
invariant_of-self-in-Err g c = (
  attempt_looks _ _ _ c.lock_late.new.pass _ _ _ _ c.in-Err.ensures.looks c.in-Err.ensures.of c.self.invariant.0,
  provided_places _ _ _ _ _ _ _ _ (ap (λ (s : PassState _ _). s.places) c.in-Err.ensures.looks.0) c.self.invariant.1,
  c.self.invariant.2,
)

pub returns-in-Ok-clause-takes : goal.returns-in-Ok-clause-takes
returns-in-Ok-clause-takes g c = rw (ap (λ (a : Attempt _ _). a.pass) (sym c.self.view_is)) (c.in-Ok.version, c.in-Ok.ensures.takes.0.held)
