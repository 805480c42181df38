-- The keys of a map's contents.
use Rattle.std.proofs.Common.{◌≡◌, ◌≢◌, ℕ, ◌<◌, eqb, List, [], ◌∷◌, length, sym, refl, ◌∙◌, subst, arith, eq-eqb, ne_eqb, get_or}
use Rattle.std.specs.Prelude.{Option, Some, None, IsSome}
use Rattle.std.proofs.lemmas.Bool.{cond-true, cond-false}
use mathlib.Core.Logic.{dite}
use native.Mathlib.Decide.{ℕ_discrete}
use Rattle.capture_terms.specs.Datagram.{incomplete}
use Rattle.capture_terms.specs.declared.plan.Group.{Group}
use Rattle.capture_terms.specs.declared.plan.Task.{Task}
use Rattle.rule_terms.specs.Rule.{Rule}
use Rattle.serial_terms.specs.declared.store.Layout.{Layout}
use Rattle.serial_terms.specs.declared.store.StoreState.{StoreState}
use Rattle.serial_terms.specs.Counts.{times}
use Rattle.serial_terms.specs.Entries.{Each, OrderedBy}
use Rattle.serial_terms.specs.Stores.{state_of, value_in}
use Rattle.run_stages.specs.Work.{IsSoundWork}
use Rattle.run_stages.specs.Ends.{IsFinished}
use Rattle.run_stages.specs.FromCapture.{work_of}
use Rattle.run_stages.specs.Stages.{IsLawful}
use Rattle.run_stages.proofs.Counting.{times_cons_same, times_cons_other}
use Rattle.run_stages.proofs.Finishing.{incomplete_alone}
use Rattle.run_stages.proofs.FromTasks.{MembersAre, incomplete_counted}

abbrev keys_in : List (ℕ × ℕ) → List ℕ
keys_in [] = []
keys_in (p ∷ ps) = p.0 ∷ keys_in ps

as_many : (ps : List (ℕ × ℕ)) → length (keys_in ps) ≡ length ps
as_many [] = refl
as_many (p ∷ ps) = let i = as_many ps in omega arith

none_below : (h : ℕ) (ps : List (ℕ × ℕ)) → Each (λ q. h < q.0) ps → times h (keys_in ps) ≡ 0
none_below h [] a = refl
none_below h (p ∷ ps) a = let l = a.0 in times_cons_other h p.0 (keys_in ps) (λ e. omega arith) ∙ none_below h ps a.1

here : (h : ℕ) (p : ℕ × ℕ) (ps : List (ℕ × ℕ)) → p.0 ≡ h → value_in (p ∷ ps) h ≡ Some p.1
here h p ps e = cond-true (eqb p.0 h) (Some p.1) (value_in ps h) (eq-eqb p.0 h e)

there : (h : ℕ) (p : ℕ × ℕ) (ps : List (ℕ × ℕ)) → p.0 ≢ h → value_in (p ∷ ps) h ≡ value_in ps h
there h p ps n = cond-false (eqb p.0 h) (Some p.1) (value_in ps h) (ne_eqb p.0 h n)

-- a key with a value stands once among ascending keys
once : (h x : ℕ) (ps : List (ℕ × ℕ)) → OrderedBy (λ p q. p.0 < q.0) ps → value_in ps h ≡ Some x → times h (keys_in ps) ≡ 1
once h x [] o e = absurd (cc)
once h x (p ∷ ps) o e = dite (ℕ_discrete p.0 h)
    (λ y. let a = times_cons_same h p.0 (keys_in ps) (sym y) in let b = none_below h ps (subst (λ (z : ℕ). Each (λ q. z < q.0) ps) y o.0) in omega arith)
    (λ n. times_cons_other h p.0 (keys_in ps) (λ z. n (sym z)) ∙ once h x ps o.1 (sym (there h p ps n) ∙ e))

has_value : (h : ℕ) (ps : List (ℕ × ℕ)) → 0 < times h (keys_in ps) → (x : ℕ) × (value_in ps h ≡ Some x)
has_value h [] l = absurd (omega arith)
has_value h (p ∷ ps) l = dite (ℕ_discrete p.0 h)
    (λ y. (p.1, here h p ps y))
    (λ n. let a = times_cons_other h p.0 (keys_in ps) (λ z. n (sym z)) in let r = has_value h ps (omega arith) in (r.0, there h p ps n ∙ r.1))

some_value : (o : Option ℕ) → IsSome o → (x : ℕ) × (o ≡ Some x)
some_value None i = absurd (cc)
some_value (Some x) i = (x, refl)

word_of : (layout : Layout) (contents : StoreState) (h : ℕ) → (state_of layout contents).maps 0 h ≡ value_in (get_or contents.maps 0 []) h
unfolding state_of
word_of layout contents h = refl

module _ (rules : List Rule) (bytes : List ℕ) (tasks : List Task) (groups : List Group) (p : IsSoundWork (work_of rules bytes tasks groups)) (layout : Layout) (contents : StoreState)
    (o : OrderedBy (λ p q. p.0 < q.0) (get_or contents.maps 0 [])) (l : IsLawful (work_of rules bytes tasks groups) (state_of layout contents)) (f : IsFinished (work_of rules bytes tasks groups) (state_of layout contents)) (m : MembersAre) where
  pub keys_incomplete : length (get_or contents.maps 0 []) ≡ incomplete tasks groups
  keys_incomplete =
      let ps : List (ℕ × ℕ) = get_or contents.maps 0 [] in
      let alone = incomplete_alone (work_of rules bytes tasks groups) (state_of layout contents) l f p in
      sym (as_many ps) ∙ incomplete_counted rules bytes tasks groups m (keys_in ps)
      (λ h n. let v = some_value ((state_of layout contents).maps 0 h) (alone.1 h n) in once h v.0 ps o (sym (word_of layout contents h) ∙ v.1))
      (λ h at. let v = has_value h ps at in alone.0 h v.0 (word_of layout contents h ∙ v.1))
