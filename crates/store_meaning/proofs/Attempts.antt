-- How an attempt goes on.
use Rattle.std.proofs.Common.{◌≡◌, List, [], ◌∷◌, ◌++◌, ap, sym, ◌∙◌, subst}
use mathlib.Core.Path.{fun_ext}
use Rattle.cell_table.specs.Cells.{after}
use Rattle.serial_terms.specs.Histories.{Runs}
use Rattle.serial_terms.specs.Renaming.{NamedDone, named, by_name}
use Rattle.serial_terms.specs.Serial.{State, IsReplied, step}
use Rattle.store_layout.specs.Shapes.{Shape}
use Rattle.store_layout.specs.States.{state_in}
use Rattle.store_meaning.specs.Follows.{Progress, state_with, Follows}
use Rattle.store_meaning.specs.Laws.{NothingWaitsBehind, ChangesStayInObject, AttemptsFollow}

-- calls, and one more
runs_more : (s t u : State) (ds : List NamedDone) (d : NamedDone) → Runs s (by_name ds) t → IsReplied t (named d) → step t (named d) ≡ u → Runs s (by_name (ds ++ d ∷ [])) u
runs_more s t u [] d runs replied leaves = (subst (λ (z : State). IsReplied z (named d)) (sym runs) replied, ap (λ (z : State). step z (named d)) runs ∙ leaves)
runs_more s t u (x ∷ ds) d runs replied leaves = (runs.0, runs_more (step s (named x)) t u ds d runs.1 replied leaves)

progress_is : (a b : Progress) → a.observations ≡ b.observations → a.writes ≡ b.writes → a.waiting ≡ b.waiting → a ≡ b
progress_is a b o w t = λ i. record { observations = o i; writes = w i; waiting = t i }

pub attempts_follow : NothingWaitsBehind → ChangesStayInObject → (s : Shape) → AttemptsFollow s
attempts_follow nothing stay s = record {
  begun = λ a observes writes none.
      let e : a ≡ record { observations = []; writes = []; waiting = a.waiting } = progress_is a (record { observations = []; writes = []; waiting = a.waiting }) observes writes (λ i. a.waiting) in
      subst (λ (z : Progress). Follows s z []) (sym e) (λ cells formed hold. (formed, sym (nothing s cells a.waiting none)));
  observed = λ old new ds earlier writes waits follows.
      let e : record { observations = new.observations; writes = old.writes; waiting = old.waiting } ≡ new = progress_is (record { observations = new.observations; writes = old.writes; waiting = old.waiting }) new (λ i. new.observations) (sym writes) (fun_ext (λ p. sym (waits p))) in
      subst (λ (z : Progress). Follows s z ds) e (λ cells formed hold. follows cells formed (earlier cells hold));
  called = λ o old new ds d call follows cells formed hold.
      let was = follows cells formed (call.earlier cells hold) in
      let changes = call.changes cells hold was.0 in
      let steps = call.steps cells hold was.0 in (
        stay.formed s o (after cells old.writes) (after cells new.writes) old.waiting new.waiting changes was.0,
        runs_more (state_in s cells) (state_with s (after cells old.writes) old.waiting) (state_with s (after cells new.writes) new.waiting) ds d was.1 steps.replied
            (steps.leaves ∙ sym (stay.state s o (after cells old.writes) (after cells new.writes) old.waiting new.waiting changes)),
      );
  placed = λ o old new ds placed follows cells formed hold.
      let was = follows cells formed (placed.earlier cells hold) in
      let changes = placed.changes cells hold was.0 in
      let same = placed.same cells hold was.0 in (
        stay.formed s o (after cells old.writes) (after cells new.writes) old.waiting new.waiting changes was.0,
        subst (λ (z : State). Runs (state_in s cells) (by_name ds) z) (sym (stay.state s o (after cells old.writes) (after cells new.writes) old.waiting new.waiting changes ∙ same)) was.1,
      );
  ends = λ a ds none follows cells formed hold.
      let was = follows cells formed hold in
      (was.0, subst (λ (z : State). Runs (state_in s cells) (by_name ds) z) (nothing s (after cells a.writes) a.waiting none) was.1);
}
