use Rattle.std.proofs.Common.{◌≡◌, ◌<◌, ◌-◌, ◌++◌, ◌∷◌, [], true, false, None, length, ap, sym, arith, refl, ◌∙◌}
use Rattle.cell_table.specs.Steps.{Reads}
use Rattle.cell_table.specs.Pass.{PassState}
use Rattle.cell_table.specs.declared.view.Stage.TheVariants.{Open}
use Rattle.attempt_lists.specs.Cells.{word_at}
use Rattle.tx_core.specs.Additions.{IsProvided}
use Rattle.tx_core.specs.Seen.{IsSeen, Takes}
use Rattle.tx_core.specs.Tx.{Attempt}
use Rattle.tx_core.proofs.Looks.{valued_is, looks_by}
use Rattle.tx_core.proofs.AttemptFacts.{attempt_looks}
use Rattle.tx_core.proofs.Providing.{provided_places, provided_locks, provided_observes}
use Rattle.tx_core.proofs.Locking.{attempt_locks_new, takes_then_looks, holds_only_takes, held_takes, among_inserted, word_at-new}
use Rattle.tx_core.proofs.Nesting.{nested_free, marked_none}
use Rattle.tx_core.proofs.tx.Tx.late_new.Goals.{After-push_reserved-in-Ok}
use Rattle.tx_core.proofs.tx.Tx.late_new.Goals as goal

-- the lock, and the load of the value under it
locked : (g : _) (c : After-push_reserved-in-Ok g) → Takes c.self.inside.pass c.look_value-value.new.pass c.args.cell c.in-Ok.version
locked g c = takes_then_looks _ _ _ _ _ c.in-Ok.ensures.takes.0 (looks_by c.lock_newest.new.pass c.look_value-value.new.pass _ c.look_value-value.ensures.view (valued_is _ _ _))

stage_open : (g : _) (c : After-push_reserved-in-Ok g) → c.self.inside.pass.view.stage ≡ Open
stage_open g c = ap (λ (a : Attempt _ _). a.pass.view.stage) c.self.view_is ∙ c.requires.undrawn

reads_new : (g : _) (c : After-push_reserved-in-Ok g) → Reads c.look_value-value.new.pass.view c.args.cell c.in-Ok.version c.look_value-value.result
reads_new g c =
    let t = c.in-Ok.ensures.takes.0 in
    let stage : c.lock_newest.new.pass.view.stage ≡ Open = t.stage ∙ stage_open g c in
    c.look_value-value.ensures.held_value c.in-Ok.version (rw t.held (among_inserted (c.args.cell, c.in-Ok.version) c.self.inside.pass.view.held)) (rw stage tt)

-- the value stands at the attempt's version where its own version isn't newer, and the cell is held
seen_new : (g : _) (c : After-push_reserved-in-Ok g) → IsSeen c.look_value-value.new.pass.view c.self.inside.version c.args.cell c.look_value-value.result c.in-Ok.version
seen_new g c =
    let t = locked g c in
    let looks = looks_by c.lock_newest.new.pass c.look_value-value.new.pass _ c.look_value-value.ensures.view (valued_is _ _ _) in
    let there : c.args.cell < length c.look_value-value.new.pass.view.opening = rw (c.look_value-value.ensures.of.2, ap (λ (a : Attempt _ _). a.table) c.self.view_is) c.requires.cell in
    let begun = c.self.invariant.0.begun.1 in
    record {
      there = there;
      reads = reads_new g c;
      small = c.in-Ok.ensures.takes.1;
      stands = λ low. record {
        there = there;
        reads = reads_new g c;
        low = low;
        small = c.in-Ok.ensures.takes.1;
        upto = c.self.inside.pass.view.known;
        far = begun;
        near = t.grows.known;
        validated = looks.1.grows.validations _ (c.in-Ok.ensures.newest (omega (arith, low, begun)));
      };
      held = λ above. held_takes _ _ _ _ t;
    }

pub invariant_of-self : goal.invariant_of-self
invariant_of-self g c =
    let there : c.args.cell < length c.self.inside.table.now.opening = rw (ap (λ (a : Attempt _ _). a.table) c.self.view_is) c.requires.cell in
    let committing : c.self.inside.committing ≡ true = ap (λ (a : Attempt _ _). a.committing) c.self.view_is ∙ c.requires.committing in
    let unobserved : word_at c.self.inside.reads.observations c.args.cell ≡ None = rw (ap (λ (a : Attempt _ _). a.observations) c.self.view_is) c.requires.unobserved in
    let locks : 0 < c.self.inside.spare.locks = rw (ap (λ (a : Attempt _ _). a.spare.locks) c.self.view_is) c.requires.spare.0 in
    let observations : 0 < c.self.inside.spare.observations = rw (ap (λ (a : Attempt _ _). a.spare.observations) c.self.view_is) c.requires.spare.1 in
    let room : IsProvided c.self.inside.pass c.self.inside.reads c.self.inside.writes c.self.inside.held c.self.inside.additions c.self.inside.spare true = rw (← committing) c.self.invariant.1 in
    let t = locked g c in (
      attempt_locks_new _ _ c.self.inside.pass c.self.inside.pass c.look_value-value.new.pass c.self.inside.reads c.push_reserved-in-Ok.new.self _ c.self.inside.held c.self.inside.held c.push_reserved.new.self _ c.args.cell c.in-Ok.version c.look_value-value.result
          c.self.invariant.0 refl refl t c.look_value-value.ensures.of (stage_open g c) c.push_reserved.ensures.entries there unobserved c.push_reserved-in-Ok.ensures.observations c.push_reserved-in-Ok.ensures.versions
          (seen_new g c) (λ early. absurd (true_false (sym committing ∙ early))),
      rw committing (provided_observes _ _ _ _ _ _ _ (provided_locks c.self.inside.pass c.look_value-value.new.pass _ _ c.self.inside.held c.push_reserved.new.self _ _ room (omega (arith, ap (λ (s : PassState _ _). s.places) t.is, room.locks, room.spare_locks, locks)) c.push_reserved.ensures.reserved locks) c.push_reserved-in-Ok.ensures.reserved observations),
      nested_free _ _ _ _ _ _ _ _ _ _ _ _ _ _ refl (c.self.invariant.2.before_commit committing) (λ e. e) c.self.invariant.2,
    )
  where
    true_false : true ≡ false → ⊥
    true_false e = cc

pub invariant_of-self-in-Err : goal.invariant_of-self-in-Err
invariant_of-self-in-Err g c = (
  attempt_looks _ _ _ c.lock_newest.new.pass _ _ _ _ c.in-Err.ensures.looks c.in-Err.ensures.of c.self.invariant.0,
  provided_places _ _ _ _ _ _ _ _ (ap (λ (s : PassState _ _). s.places) c.in-Err.ensures.looks.0) c.self.invariant.1,
  c.self.invariant.2,
)

pub returns-in-Ok-clause-takes : goal.returns-in-Ok-clause-takes
returns-in-Ok-clause-takes g c = rw (ap (λ (a : Attempt _ _). a.pass) (sym c.self.view_is)) (c.in-Ok.version, (locked g c).held)

pub returns-in-Ok-clause-value : goal.returns-in-Ok-clause-value
returns-in-Ok-clause-value g c =
    rw (c.push_reserved-in-Ok.ensures.observations, ap (λ (a : Attempt _ _). a.observations) c.self.view_is)
    (word_at-new c.args.self.now.observations c.args.cell c.look_value-value.result c.requires.unobserved)

pub returns-in-Ok-clause-observes : goal.returns-in-Ok-clause-observes
returns-in-Ok-clause-observes g c = record {
  version = c.in-Ok.version;
  is = rw (marked_none c.self.inside.mark c.self.inside.writes.parent c.self.inside.writes.parent c.push_reserved.new.self.entries c.self.inside.held.entries (c.self.invariant.2.before_commit (ap (λ (a : Attempt _ _). a.committing) c.self.view_is ∙ c.requires.committing)), c.push_reserved-in-Ok.ensures.observations, c.push_reserved-in-Ok.ensures.versions)
      (ap (λ (a : Attempt _ _). record a { pass = c.look_value-value.new.pass; observations = a.observations ++ (c.args.cell, c.look_value-value.result) ∷ []; versions = a.versions ++ c.in-Ok.version ∷ []; spare = record a.spare { locks = a.spare.locks - 1; observations = a.spare.observations - 1 } }) c.self.view_is
      ∙ ap (λ b. record c.args.self.now { pass = c.look_value-value.new.pass; observations = c.args.self.now.observations ++ (c.args.cell, c.look_value-value.result) ∷ []; versions = c.args.self.now.versions ++ c.in-Ok.version ∷ []; spare = record c.args.self.now.spare { locks = c.args.self.now.spare.locks - 1; observations = c.args.self.now.spare.observations - 1 }; committing = b }) c.requires.committing);
  reads = reads_new g c;
}

pub returns-in-Ok-clause-pass : goal.returns-in-Ok-clause-pass
returns-in-Ok-clause-pass g c = rw (ap (λ (a : Attempt _ _). a.pass) (sym c.self.view_is)) (holds_only_takes c.self.inside.pass c.self.inside.pass _ _ _ refl (locked g c))
