-- Histories and sights with keys under other names.
use Rattle.std.proofs.Common.{◌≡◌, ℕ, ◌+◌, eqb, leb, List, [], ◌∷◌, ⊎_elim, sym, refl, ap, ◌∙◌, subst}
use Rattle.std.specs.Prelude.{Option, Some, None}
use mathlib.Core.Path.{fun_ext}
use Rattle.serial_terms.specs.declared.call.Done.{Done}
use Rattle.serial_terms.specs.declared.sight.SightEnd.{SightEnd}
use Rattle.serial_terms.specs.declared.sight.SightEnd.TheVariants.{Aborted, Refused, Full, Child}
use Rattle.serial_terms.specs.declared.store.Layout.{Layout}
use Rattle.serial_terms.specs.Entries.{Entry, Each, OrderedBy, by_caller, up_to, IsCountedFrom}
use Rattle.serial_terms.specs.Histories.{IsLegalRun, IsLegalHistory}
use Rattle.serial_terms.specs.Laws.{RenamingKeepsHistories, NamesChangeKeys}
use Rattle.serial_terms.specs.Names.{of_key_map, own_calls}
use Rattle.serial_terms.specs.Purposes.{RenamedStayAllowed}
use Rattle.serial_terms.specs.Renaming.{IsOneToOne, value_at, by_keys, NamedDone, AreNamesOfKeys, by_key, by_name, entry_with, entries_with, seen_with, AreNamesIn, MayName, SameButKeys}
use Rattle.serial_terms.specs.Serial.{State, IsWithinCapacity}
use Rattle.serial_terms.specs.Sights.{Seen, EndsAs, IsConsistent}
use Rattle.serial_terms.specs.Stores.{opening_of}
use Rattle.serial_terms.proofs.Renaming.{runs_keyed}
use Rattle.std.proofs.lemmas.Bool.{cases_Bool, cond-true, cond-false}

-- ---- records with other calls

module _ {A B : Type 0} (f : List A → List B) where
  up_to_with : (t : ℕ) (es : List (Entry A)) → up_to t (entries_with f es) ≡ entries_with f (up_to t es)
  up_to_with t [] = refl
  up_to_with t (e ∷ es) = ⊎_elim
      (λ y. cond-true (leb e.place t) (entry_with f e ∷ up_to t (entries_with f es)) (up_to t (entries_with f es)) y
      ∙ (ap (λ (z : List (Entry B)). entry_with f e ∷ z) (up_to_with t es) ∙ ap (entries_with f) (sym (cond-true (leb e.place t) (e ∷ up_to t es) (up_to t es) y))))
      (λ y. cond-false (leb e.place t) (entry_with f e ∷ up_to t (entries_with f es)) (up_to t (entries_with f es)) y
      ∙ (up_to_with t es ∙ ap (entries_with f) (sym (cond-false (leb e.place t) (e ∷ up_to t es) (up_to t es) y))))
      (cases_Bool (leb e.place t))

  by_caller_with : (k : ℕ) (es : List (Entry A)) → by_caller k (entries_with f es) ≡ entries_with f (by_caller k es)
  by_caller_with k [] = refl
  by_caller_with k (e ∷ es) = ⊎_elim
      (λ y. cond-true (eqb e.caller k) (entry_with f e ∷ by_caller k (entries_with f es)) (by_caller k (entries_with f es)) y
      ∙ (ap (λ (z : List (Entry B)). entry_with f e ∷ z) (by_caller_with k es) ∙ ap (entries_with f) (sym (cond-true (eqb e.caller k) (e ∷ by_caller k es) (by_caller k es) y))))
      (λ y. cond-false (eqb e.caller k) (entry_with f e ∷ by_caller k (entries_with f es)) (by_caller k (entries_with f es)) y
      ∙ (by_caller_with k es ∙ ap (entries_with f) (sym (cond-false (eqb e.caller k) (e ∷ by_caller k es) (by_caller k es) y))))
      (cases_Bool (eqb e.caller k))

up_to_each : {A : Type 0} (P : Entry A → Type 0) (t : ℕ) (es : List (Entry A)) → Each P es → Each P (up_to t es)
up_to_each P t [] a = tt
up_to_each P t (e ∷ es) a = ⊎_elim
    (λ y. subst (Each P) (sym (cond-true (leb e.place t) (e ∷ up_to t es) (up_to t es) y)) (a.0, up_to_each P t es a.1))
    (λ y. subst (Each P) (sym (cond-false (leb e.place t) (e ∷ up_to t es) (up_to t es) y)) (up_to_each P t es a.1))
    (cases_Bool (leb e.place t))

-- what looks at no calls is true of the records with other calls too
module _ {A B : Type 0} (f g : List A → List B) where
  each_with : (P Q : Entry B → Type 0) → ((e : Entry A) → P (entry_with f e) → Q (entry_with g e)) → (es : List (Entry A)) → Each P (entries_with f es) → Each Q (entries_with g es)
  each_with P Q h [] a = tt
  each_with P Q h (e ∷ es) a = (h e a.0, each_with P Q h es a.1)

  ordered_with : (R : Entry B → Entry B → Type 0) → ((e x : Entry A) → R (entry_with f e) (entry_with f x) → R (entry_with g e) (entry_with g x)) → (es : List (Entry A)) → OrderedBy R (entries_with f es) → OrderedBy R (entries_with g es)
  ordered_with R h [] a = tt
  ordered_with R h (e ∷ es) a = (each_with (R (entry_with f e)) (R (entry_with g e)) (h e) es a.0, ordered_with R h es a.1)

  counted_with : (n : ℕ) (es : List (Entry A)) → IsCountedFrom n (entries_with f es) → IsCountedFrom n (entries_with g es)
  counted_with n [] a = tt
  counted_with n (e ∷ es) a = (a.0, counted_with (n + 1) es a.1)

-- ---- by key and by name

opening_keyed : (name : ℕ → ℕ → Option ℕ) (layout : Layout) → by_keys name (opening_of layout) ≡ opening_of layout
unfolding opening_of
opening_keyed name layout = let e : (λ m k. value_at (λ j. None) (name m k)) ≡ (λ m k. None) = fun_ext (λ (m : ℕ). fun_ext (λ (k : ℕ). nowhere (name m k))) in λ i. record (opening_of layout) { maps = e i }
  where
    nowhere : (o : Option ℕ) → value_at (λ j. None) o ≡ None
    nowhere None = refl
    nowhere (Some n) = refl

module _ (name : ℕ → ℕ → Option ℕ) (one : IsOneToOne name) where
  abbrev K : State → State
  K = by_keys name

  within_keyed : (s : State) → IsWithinCapacity s → IsWithinCapacity (K s)
  within_keyed s w = record { queues = w.queues; logs = w.logs }

  legal_keyed : (es : List (Entry NamedDone)) → AreNamesIn name es → (s t : State) → IsLegalRun s (entries_with by_name es) t → IsLegalRun (K s) (entries_with by_key es) (K t)
  legal_keyed [] a s t r = ap K r
  legal_keyed (e ∷ es) a s t r = (K r.0, runs_keyed name one e.dones a.0 s r.0 r.1, within_keyed r.0 r.2, (λ w. ap K (r.3 w)), legal_keyed es a.1 r.0 t r.4)

  history_keyed : (es : List (Entry NamedDone)) → AreNamesIn name es → (s t : State) → IsLegalHistory s (entries_with by_name es) t → IsLegalHistory (K s) (entries_with by_key es) (K t)
  history_keyed es a s t h = record {
    order = ordered_with by_name by_key _ (λ e x p. p) es h.order;
    run = legal_keyed es a s t h.run;
    counted = λ k. subst (IsCountedFrom 0) (sym (by_caller_with by_key k es)) (counted_with by_name by_key 0 (by_caller k es) (subst (IsCountedFrom 0) (by_caller_with by_name k es) (h.counted k)));
    apart = ordered_with by_name by_key _ (λ e x p. p) es h.apart;
    placed = each_with by_name by_key _ _ (λ e p. p) es h.placed;
  }

  ends_keyed : (queues : ℕ) (t : State) (end : SightEnd) → EndsAs queues t end → EndsAs queues (K t) end
  ends_keyed queues t Aborted a = tt
  ends_keyed queues t Refused a = tt
  ends_keyed queues t Child a = tt
  ends_keyed queues t (Full part values adding) a = a

  sight_keyed : (es : List (Entry NamedDone)) → AreNamesIn name es → (v : Seen NamedDone) → AreNamesOfKeys name v.dones → (queues : ℕ) (s : State)
      → IsConsistent queues s (entries_with by_name es) (seen_with by_name v) → IsConsistent queues (K s) (entries_with by_key es) (seen_with by_key v)
  sight_keyed es a v b queues s c =
      let there : IsLegalRun s (entries_with by_name (up_to v.place es)) c.0 = subst (λ (z : List (Entry Done)). IsLegalRun s z c.0) (up_to_with by_name v.place es) c.1 in
      let at : IsLegalRun (K s) (up_to v.place (entries_with by_key es)) (K c.0) = subst (λ (z : List (Entry Done)). IsLegalRun (K s) z (K c.0)) (sym (up_to_with by_key v.place es)) (legal_keyed (up_to v.place es) (up_to_each (λ e. AreNamesOfKeys name e.dones) v.place es a) s c.0 there) in
      (K c.0, at, (K c.2.0, runs_keyed name one v.dones b c.0 c.2.0 c.2.1, ends_keyed queues c.2.0 v.end c.2.2))

pub renamed_histories : (name : ℕ → ℕ → Option ℕ) → IsOneToOne name → RenamingKeepsHistories name
renamed_histories name one = record { opening = opening_keyed name; runs = legal_keyed name one; histories = history_keyed name one; sights = sight_keyed name one }

-- ---- the same calls but for keys

module _ (passes : ℕ → ℕ → Type 0) where
  renamed_calls : (name : ℕ → ℕ → Option ℕ) → ((m k n : ℕ) → name m k ≡ Some n → MayName passes n k) → (ds : List NamedDone) → AreNamesOfKeys name ds → SameButKeys passes (by_key ds) (by_name ds)
  renamed_calls name may [] a = tt
  renamed_calls name may (d ∷ ds) a = ((d.name, of_key_map (λ m k. name m k ≡ Some d.name) (λ m k. MayName passes d.name k) (λ m k e. may m k d.name e) d.done.call a.0, refl), renamed_calls name may ds a.1)

  pub names_change : NamesChangeKeys passes
  names_change = record { renamed = renamed_calls; own = own_calls passes }

  pub stay_allowed : (allowed : List Done → Type 0) → RenamedStayAllowed allowed passes
  stay_allowed allowed law name may [] a b = tt
  stay_allowed allowed law name may (e ∷ es) a b = (law (by_key e.dones) (by_name e.dones) (renamed_calls name may e.dones a.0) b.0, stay_allowed allowed law name may es a.1 b.1)
