use Rattle.std.proofs.Common.{◌≡◌, ◌++◌, ◌∷◌, [], false, ◌<◌, length, ap, sym, arith, IsSome, refl, ◌∙◌}
use Rattle.std.specs.Option.{option_or}
use Rattle.cell_table.specs.Sorted.{insert_by}
use Rattle.cell_table.specs.Steps.{cell_key}
use Rattle.cell_table.specs.Pass.{PassState}
use Rattle.cell_table.specs.declared.view.Stage.TheVariants.{Open}
use Rattle.attempt_lists.specs.Levels.{merged}
use Rattle.attempt_lists.specs.Cells.{Entries, word_at}
use Rattle.tx_core.specs.Tx.{Attempt}
use Rattle.tx_core.proofs.Looks.{not_both}
use Rattle.tx_core.proofs.AttemptFacts.{attempt_looks, attempt_widens}
use Rattle.tx_core.proofs.Providing.{provided_moves}
use Rattle.tx_core.proofs.Locking.{attempt_locks_known}
use Rattle.tx_core.proofs.Nesting.{nested_grows, more_none, more_one}
use Rattle.tx_core.proofs.tx.Tx.lock_known.Goals as goal

-- the lock has its place, and the observation of the cell its version
pub invariant_of-self-in-Ok-lock_seen : goal.invariant_of-self-in-Ok-lock_seen
invariant_of-self-in-Ok-lock_seen g c =
    let there : c.args.cell < length c.self.inside.table.now.opening = rw (ap (λ (a : Attempt _ _). a.table) c.self.view_is) c.requires.cell in
    let before : c.self.inside.committing ≡ false = ap (λ (a : Attempt _ _). a.committing) c.self.view_is ∙ c.requires.before_commit in
    let stage : c.self.inside.pass.view.stage ≡ Open = c.self.invariant.0.nothing_drawn before in
    let some : IsSome (option_or (word_at (merged c.self.inside.writes) c.args.cell) (word_at c.self.inside.reads.observations c.args.cell)) = rw (ap (λ (a : Attempt _ _). a.writes) c.self.view_is, ap (λ (a : Attempt _ _). a.observations) c.self.view_is) c.requires.known in (
      attempt_locks_known _ _ c.self.inside.pass c.reserve_lock.new.pass c.lock_seen.new.pass _ _ c.self.inside.held c.reserve_lock.new.held c.push_reserved.new.self _ c.args.cell c.in-Ok-lock_seen.version
          c.self.invariant.0 c.in-Ok.ensures.pass c.in-Ok.ensures.entries c.in-Ok-lock_seen.ensures.takes c.in-Ok-lock_seen.ensures.of stage
          c.push_reserved.ensures.entries there (λ r w. not_both (rw (w, r) at some) refl) c.in-Ok-lock_seen.ensures.seen,
      provided_moves _ _ _ _ _ _ _ c.push_reserved.new.self _ _ _ c.self.invariant.1
          (omega (arith, c.push_reserved.ensures.reserved, c.in-Ok.ensures.locks, ap (λ (s : PassState _ _). s.places) c.in-Ok-lock_seen.ensures.takes.is))
          (omega (arith, c.self.invariant.1.room before, c.in-Ok.ensures.ok, c.push_reserved.ensures.reserved)) c.self.invariant.1.spare_observations c.self.invariant.1.spare_writes
          (λ early. omega (arith, c.in-Ok.ensures.ok, c.push_reserved.ensures.reserved)),
      nested_grows _ _ _ _ _ _ _ _ _ c.self.inside.held.entries c.push_reserved.new.self.entries _ _ refl (more_none _)
          (more_one _ _ _ (c.push_reserved.ensures.entries ∙ ap (λ (es : Entries). es ++ (c.args.cell, c.in-Ok-lock_seen.version) ∷ []) c.in-Ok.ensures.entries)) (more_none _) (λ some. refl) c.self.invariant.2.alone c.self.invariant.2,
    )

pub invariant_of-self-in-Err : goal.invariant_of-self-in-Err
invariant_of-self-in-Err g c = (
  attempt_looks _ _ _ c.lock_seen.new.pass _ _ _ _ c.in-Err.ensures.looks c.in-Err.ensures.of
      (attempt_widens _ _ c.self.inside.pass c.reserve_lock.new.pass _ _ c.self.inside.held c.reserve_lock.new.held _ c.self.invariant.0 c.in-Ok.ensures.pass c.in-Ok.ensures.entries),
  provided_moves _ _ _ _ _ _ _ c.reserve_lock.new.held _ _ _ c.self.invariant.1
      (rw (ap (λ (s : PassState _ _). s.places) c.in-Err.ensures.looks.0) c.in-Ok.ensures.locks)
      (omega (arith, c.self.invariant.1.spare_locks, c.in-Ok.ensures.kept)) c.self.invariant.1.spare_observations c.self.invariant.1.spare_writes
      (λ early. omega (arith, c.self.invariant.1.room early, c.in-Ok.ensures.kept)),
  rw c.in-Ok.ensures.entries c.self.invariant.2,
)

pub lock_seen-requires-clause-early : goal.lock_seen-requires-clause-early
lock_seen-requires-clause-early g c = c.self.invariant.0.early (ap (λ (a : Attempt _ _). a.committing) c.self.view_is ∙ c.requires.before_commit)

pub returns-in-Ok-lock_seen-clause-takes : goal.returns-in-Ok-lock_seen-clause-takes
returns-in-Ok-lock_seen-clause-takes g c =
    let t = c.in-Ok-lock_seen.ensures.takes in
    rw (ap (λ (a : Attempt _ _). a.pass) (sym c.self.view_is), ap (λ (a : Attempt _ _). a.version) (sym c.self.view_is))
    (c.in-Ok-lock_seen.version, c.in-Ok-lock_seen.ensures.low, t.held ∙ ap (λ (s : PassState _ _). insert_by cell_key (c.args.cell, c.in-Ok-lock_seen.version) s.view.held) c.in-Ok.ensures.pass)
