use Rattle.std.proofs.Common.{◌≡◌, List, subst, false, ◌<◌, List, subst, ◌++◌, ◌∷◌, [], length, None, refl, ap, sym, ◌∙◌, arith}
use Rattle.cell_table.specs.declared.view.View.{View}
use Rattle.cell_table.specs.declared.view.Stage.TheVariants.{Open}
use Rattle.cell_table.specs.Sorted.{insert_by}
use Rattle.cell_table.specs.Steps.{cell_key}
use Rattle.cell_table.specs.Pass.{PassState, trail_of}
use Rattle.attempt_lists.specs.Cells.{Entries, word_at}
use Rattle.cell_table.specs.declared.view.Event.{Event}
use Rattle.tx_core.specs.Causes.{GrewBy}
use Rattle.tx_core.proofs.Found.{grew_step}
use Rattle.tx_core.specs.Tx.{Attempt}
use Rattle.tx_core.specs.Seen.{StandsAt}
use Rattle.tx_core.proofs.Looks.{valued_is, looks_by, seen_stands}
use Rattle.tx_core.proofs.Providing.{provided_moves}
use Rattle.tx_core.proofs.AttemptFacts.{attempt_looks, attempt_widens, attempt_reserves}
use Rattle.tx_core.proofs.Locking.{attempt_locks_new, holds_only_takes, takes_then_looks, among_inserted, word_at-new}
use Rattle.tx_core.proofs.Nesting.{nested_grows, more_none, more_one, marked_locks}
use Rattle.tx_core.proofs.tx.Tx.lock_new.Goals as goal

-- the value that was loaded under the lock is that of the version which the lock replaced
stands_new : (g : _) (c : goal.After-push_reserved-in-Ok-lock_cell g) → StandsAt c.look_value-value.new.pass.view c.self.inside.version c.args.cell c.look_value-value.result c.in-Ok-lock_cell.version
stands_new g c =
    let t = c.in-Ok-lock_cell.ensures.takes in
    let at = c.in-Ok-lock_cell.ensures.version in
    let looks = looks_by c.lock_cell.new.pass c.look_value-value.new.pass _ c.look_value-value.ensures.view (valued_is _ _ _) in
    let same : c.reserve_lock.new.pass.view ≡ c.self.inside.pass.view = ap (λ (s : PassState _ _). s.view) c.in-Ok.ensures.pass in
    let before : c.self.inside.committing ≡ false = ap (λ (a : Attempt _ _). a.committing) c.self.view_is ∙ c.requires.before_commit in
    let stage : c.lock_cell.new.pass.view.stage ≡ Open = t.stage ∙ ap (λ (v : View _ _). v.stage) same ∙ c.self.invariant.0.nothing_drawn before in
    let known : c.lock_cell.new.pass.view.known ≡ c.self.inside.pass.view.known = t.known ∙ ap (λ (v : View _ _). v.known) same in
    let there : c.args.cell < length c.self.inside.table.now.opening = rw (ap (λ (a : Attempt _ _). a.table) c.self.view_is) c.requires.cell in
    let begun = c.self.invariant.0.begun.1 in
    record {
      there = rw (c.look_value-value.ensures.of.2) there;
      reads = c.look_value-value.ensures.held_value c.in-Ok-lock_cell.version (rw t.held (among_inserted (c.args.cell, c.in-Ok-lock_cell.version) c.reserve_lock.new.pass.view.held)) (rw stage tt);
      low = at.0;
      small = at.1;
      upto = c.lock_cell.new.pass.view.known;
      far = omega arith;
      near = omega (arith, looks.1.known);
      validated = looks.1.grows.validations _ at.2;
    }

pub invariant_of-self-in-Ok-lock_cell : goal.invariant_of-self-in-Ok-lock_cell
invariant_of-self-in-Ok-lock_cell g c =
    let there : c.args.cell < length c.self.inside.table.now.opening = rw (ap (λ (a : Attempt _ _). a.table) c.self.view_is) c.requires.cell in
    let before : c.self.inside.committing ≡ false = ap (λ (a : Attempt _ _). a.committing) c.self.view_is ∙ c.requires.before_commit in
    let stage : c.self.inside.pass.view.stage ≡ Open = c.self.invariant.0.nothing_drawn before in
    let unobserved : word_at c.self.inside.reads.observations c.args.cell ≡ None = rw (ap (λ (a : Attempt _ _). a.observations) c.self.view_is) c.requires.unobserved in
    let t = takes_then_looks _ _ _ _ _ c.in-Ok-lock_cell.ensures.takes (looks_by c.lock_cell.new.pass c.look_value-value.new.pass _ c.look_value-value.ensures.view (valued_is _ _ _)) in (
      attempt_locks_new _ _ c.self.inside.pass c.reserve_lock.new.pass c.look_value-value.new.pass c.self.inside.reads c.push_reserved-in-Ok-lock_cell.new.self _ c.self.inside.held c.reserve_lock.new.held c.push_reserved.new.self _ c.args.cell c.in-Ok-lock_cell.version c.look_value-value.result
          c.self.invariant.0 c.in-Ok.ensures.pass c.in-Ok.ensures.entries t c.look_value-value.ensures.of stage
          c.push_reserved.ensures.entries there unobserved
          (c.push_reserved-in-Ok-lock_cell.ensures.observations ∙ ap (λ es. es ++ (c.args.cell, c.look_value-value.result) ∷ []) c.reserve.ensures.observations)
          (c.push_reserved-in-Ok-lock_cell.ensures.versions ∙ ap (λ vs. vs ++ c.in-Ok-lock_cell.version ∷ []) c.reserve.ensures.versions)
          (seen_stands _ _ _ _ _ (stands_new g c)) (λ early. c.in-Ok-lock_cell.ensures.version.0),
      provided_moves _ _ _ c.push_reserved-in-Ok-lock_cell.new.self _ _ _ c.push_reserved.new.self _ _ _ c.self.invariant.1
          (omega (arith, c.push_reserved.ensures.reserved, c.in-Ok.ensures.locks, ap (λ (s : PassState _ _). s.places) t.is))
          (omega (arith, c.self.invariant.1.room before, c.in-Ok.ensures.ok, c.push_reserved.ensures.reserved))
          (omega (arith, c.self.invariant.1.spare_observations, c.in-Ok-reserve.ensures.ok, c.push_reserved-in-Ok-lock_cell.ensures.reserved)) c.self.invariant.1.spare_writes
          (λ early. omega (arith, c.in-Ok.ensures.ok, c.push_reserved.ensures.reserved)),
      nested_grows _ _ _ _ _ c.self.inside.reads.observations c.push_reserved-in-Ok-lock_cell.new.self.observations _ _ c.self.inside.held.entries c.push_reserved.new.self.entries _ _ refl
          (more_one _ _ _ (c.push_reserved-in-Ok-lock_cell.ensures.observations ∙ ap (λ (es : Entries). es ++ (c.args.cell, c.look_value-value.result) ∷ []) c.reserve.ensures.observations))
          (more_one _ _ _ (c.push_reserved.ensures.entries ∙ ap (λ (es : Entries). es ++ (c.args.cell, c.in-Ok-lock_cell.version) ∷ []) c.in-Ok.ensures.entries)) (more_none _) (λ some. refl) c.self.invariant.2.alone c.self.invariant.2,
    )

pub returns-in-Ok-lock_cell-clause-observes : goal.returns-in-Ok-lock_cell-clause-observes
returns-in-Ok-lock_cell-clause-observes g c = record {
  version = c.in-Ok-lock_cell.version;
  is = rw (c.push_reserved.ensures.entries, c.in-Ok.ensures.entries, marked_locks c.self.inside.mark c.self.inside.writes.parent c.self.inside.held.entries (c.args.cell, c.in-Ok-lock_cell.version) (λ m is. (c.self.invariant.2.marked m is).held), c.push_reserved-in-Ok-lock_cell.ensures.observations, c.push_reserved-in-Ok-lock_cell.ensures.versions, c.reserve.ensures.observations, c.reserve.ensures.versions)
      (ap (λ (a : Attempt _ _). record a { pass = c.look_value-value.new.pass; observations = a.observations ++ (c.args.cell, c.look_value-value.result) ∷ []; versions = a.versions ++ c.in-Ok-lock_cell.version ∷ [] }) c.self.view_is);
  stands = rw (ap (λ (a : Attempt _ _). a.version) (sym c.self.view_is)) (stands_new g c);
}

pub invariant_of-self-in-Err : goal.invariant_of-self-in-Err
invariant_of-self-in-Err g c = (
  attempt_looks _ _ _ c.lock_cell.new.pass _ _ _ _ c.in-Err.ensures.looks c.in-Err.ensures.of
      (attempt_reserves _ _ _ _ c.reserve.new.self _ _ _ c.reserve.ensures.observations c.reserve.ensures.versions
      (attempt_widens _ _ c.self.inside.pass c.reserve_lock.new.pass _ _ c.self.inside.held c.reserve_lock.new.held _ c.self.invariant.0 c.in-Ok.ensures.pass c.in-Ok.ensures.entries)),
  provided_moves _ _ _ c.reserve.new.self _ _ _ c.reserve_lock.new.held _ _ _ c.self.invariant.1
      (rw (ap (λ (s : PassState _ _). s.places) c.in-Err.ensures.looks.0) c.in-Ok.ensures.locks)
      (omega (arith, c.self.invariant.1.spare_locks, c.in-Ok.ensures.kept)) (omega (arith, c.self.invariant.1.spare_observations, c.in-Ok-reserve.ensures.ok)) c.self.invariant.1.spare_writes
      (λ early. omega (arith, c.self.invariant.1.room early, c.in-Ok.ensures.kept)),
  rw (c.in-Ok.ensures.entries, c.reserve.ensures.observations) c.self.invariant.2,
)

pub returns-in-Ok-lock_cell-clause-value : goal.returns-in-Ok-lock_cell-clause-value
returns-in-Ok-lock_cell-clause-value g c =
    rw (c.requires.unwritten, c.push_reserved-in-Ok-lock_cell.ensures.observations, c.reserve.ensures.observations, ap (λ (a : Attempt _ _). a.observations) c.self.view_is)
    (word_at-new c.args.self.now.observations c.args.cell c.look_value-value.result c.requires.unobserved)

pub returns-in-Ok-lock_cell-clause-takes : goal.returns-in-Ok-lock_cell-clause-takes
returns-in-Ok-lock_cell-clause-takes g c =
    let t = takes_then_looks _ _ _ _ _ c.in-Ok-lock_cell.ensures.takes (looks_by c.lock_cell.new.pass c.look_value-value.new.pass _ c.look_value-value.ensures.view (valued_is _ _ _)) in
    rw (ap (λ (a : Attempt _ _). a.pass) (sym c.self.view_is), ap (λ (a : Attempt _ _). a.version) (sym c.self.view_is))
    (c.in-Ok-lock_cell.version, c.in-Ok-lock_cell.ensures.version.0, t.held ∙ ap (λ (s : PassState _ _). insert_by cell_key (c.args.cell, c.in-Ok-lock_cell.version) s.view.held) c.in-Ok.ensures.pass)

pub returns-in-Ok-lock_cell-clause-pass : goal.returns-in-Ok-lock_cell-clause-pass
returns-in-Ok-lock_cell-clause-pass g c = rw (ap (λ (a : Attempt _ _). a.pass) (sym c.self.view_is)) (holds_only_takes c.self.inside.pass c.reserve_lock.new.pass _ _ _ c.in-Ok.ensures.pass (takes_then_looks _ _ _ _ _ c.in-Ok-lock_cell.ensures.takes (looks_by c.lock_cell.new.pass c.look_value-value.new.pass _ c.look_value-value.ensures.view (valued_is _ _ _))))

pub returns-in-Ok-lock_cell-clause-steps : goal.returns-in-Ok-lock_cell-clause-steps
returns-in-Ok-lock_cell-clause-steps g c =
    subst (λ (t : List Event). GrewBy 3 t (trail_of c.look_value-value.new.pass)) (ap trail_of c.in-Ok.ensures.pass ∙ ap (λ (a : Attempt _ _). trail_of a.pass) c.self.view_is)
    (grew_step 2 _ _ _ _ c.in-Ok-lock_cell.ensures.steps c.look_value-value.ensures.step)
