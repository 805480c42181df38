-- A record behind others, as it is decided.
use Rattle.std.proofs.Common.{◌≡◌, ◌↔◌, ℕ, ◌+◌, ◌<◌, inl, inr, Bool, true, false, IsTrue, IsFalse, eqb, cond, List, [], ◌∷◌, ◌++◌, length, refl, sym, ap, ◌∙◌, subst, Option, Some, None, arith}
use Rattle.std.proofs.lemmas.Bool.{cond-true, cond-false, eqb-true}
use Rattle.std.specs.Option.{option_map}
use Rattle.serial_terms.specs.declared.call.Done.{Done}
use Rattle.serial_terms.specs.Entries.{Entry, Precedes, by_caller}
use Rattle.std.specs.Prelude.{min}
use Rattle.serial_terms.specs.Counts.{numbers_from}
use Rattle.serial_terms.specs.RunLayout.{layout_by}
use Rattle.serial_terms.specs.Stores.{opening_of}
use Rattle.journal_terms.specs.Growing.{last_of, IsBehind, place_of}
use Rattle.history_audit.specs.declared.lines.RecordHead.{RecordHead}
use Rattle.history_audit.specs.Ledgers.{as_entry, bare}
use Rattle.history_audit.specs.Structures.{IsListed}

abbrev Follows : Entry Done → Entry Done → Type 0
Follows a e = Precedes a e × (IsTrue e.writer → a.place < e.place)

pub follows_later : (a e : Entry Done) → a.place < e.place → Follows a e
follows_later a e l = (inl l, λ w. l)

pub not_earlier : (a e : Entry Done) → e.place < a.place → Follows a e → ⊥
not_earlier a e l f = by_order f.0
  where
    by_order : Precedes a e → ⊥
    by_order (inl h) = omega arith
    by_order (inr h) = let same = h.0 in omega arith

pub no_writer_there : (a e : Entry Done) → (a.place < e.place → ⊥) → IsTrue e.writer → Follows a e → ⊥
no_writer_there a e l w f = l (f.1 w)

same_place : (m n : ℕ) → (m < n → ⊥) → (n < m → ⊥) → m ≡ n
same_place m n a b = omega (arith, a, b)

pub follows_writer : (a e : Entry Done) → (a.place < e.place → ⊥) → (e.place < a.place → ⊥) → IsFalse e.writer → IsTrue a.writer → Follows a e
follows_writer a e p q r w = (inr (same_place a.place e.place p q, inl (w, r)), λ t. let bad : true ≡ false = sym t ∙ r in absurd (cc bad))

readers : (a e : Entry Done) → IsFalse e.writer → IsFalse a.writer → a.writer ≡ e.writer
readers a e r w = w ∙ sym r

pub follows_caller : (a e : Entry Done) → (a.place < e.place → ⊥) → (e.place < a.place → ⊥) → IsFalse e.writer → IsFalse a.writer → a.caller < e.caller → Follows a e
follows_caller a e p q r w l = (inr (same_place a.place e.place p q, inr (readers a e r w, inl l)), λ t. let bad : true ≡ false = sym t ∙ r in absurd (cc bad))

pub follows_index : (a e : Entry Done) → (a.place < e.place → ⊥) → (e.place < a.place → ⊥) → IsFalse e.writer → IsFalse a.writer → a.caller ≡ e.caller → a.index < e.index → Follows a e
follows_index a e p q r w c l = (inr (same_place a.place e.place p q, inr (readers a e r w, inr (c, l))), λ t. let bad : true ≡ false = sym t ∙ r in absurd (cc bad))

pub last_ways : (a e : Entry Done) → (a.place < e.place → ⊥) → IsFalse a.writer → (a.caller < e.caller → ⊥) → Follows a e → (a.caller ≡ e.caller) × (a.index < e.index)
last_ways a e p w c f = by_order f.0
  where
    by_order : Precedes a e → (a.caller ≡ e.caller) × (a.index < e.index)
    by_order (inl h) = absurd (p h)
    by_order (inr (same, inl h)) = let bad : true ≡ false = sym h.0 ∙ w in absurd (cc bad)
    by_order (inr (same, inr (ws, inl h))) = absurd (c h)
    by_order (inr (same, inr (ws, inr h))) = h

-- ---- one record more

pub caller_more : (k : ℕ) (xs : List (Entry Done)) (e : Entry Done) → length (by_caller k (xs ++ e ∷ [])) ≡ cond (eqb e.caller k) (length (by_caller k xs) + 1) (length (by_caller k xs))
caller_more k [] e = by_case (eqb e.caller k)
  where
    by_case : (t : Bool) → length (cond t (e ∷ []) []) ≡ cond t (0 + 1) 0
    by_case true = refl
    by_case false = refl
caller_more k (x ∷ xs) e = by_case (eqb x.caller k) (eqb e.caller k) (caller_more k xs e)
  where
    by_case : (t u : Bool) → length (by_caller k (xs ++ e ∷ [])) ≡ cond u (length (by_caller k xs) + 1) (length (by_caller k xs))
        → length (cond t (x ∷ by_caller k (xs ++ e ∷ [])) (by_caller k (xs ++ e ∷ []))) ≡ cond u (length (cond t (x ∷ by_caller k xs) (by_caller k xs)) + 1) (length (cond t (x ∷ by_caller k xs) (by_caller k xs)))
    by_case true true h = omega (arith, h)
    by_case true false h = omega (arith, h)
    by_case false true h = h
    by_case false false h = h

pub last_more : (xs : List (Entry Done)) (e : Entry Done) → last_of (xs ++ e ∷ []) ≡ Some e
last_more [] e = refl
last_more (x ∷ []) e = refl
last_more (x ∷ y ∷ ys) e = last_more (y ∷ ys) e

-- calls make no difference to what stands behind a record
pub behind_bare : (o : Option (Entry Done)) (h : Option RecordHead) (e : Entry Done) → option_map as_entry h ≡ option_map bare o
    → (IsBehind (option_map as_entry h) e × (IsTrue e.writer → place_of (option_map as_entry h) < e.place)) ↔ (IsBehind o e × (IsTrue e.writer → place_of o < e.place))
behind_bare o h e same = subst (λ (z : Option (Entry Done)). (IsBehind z e × (IsTrue e.writer → place_of z < e.place)) ↔ (IsBehind o e × (IsTrue e.writer → place_of o < e.place))) (sym same) (by_last o)
  where
    by_last : (o : Option (Entry Done)) → (IsBehind (option_map bare o) e × (IsTrue e.writer → place_of (option_map bare o) < e.place)) ↔ (IsBehind o e × (IsTrue e.writer → place_of o < e.place))
    by_last None = ((λ p. p), (λ p. p))
    by_last (Some x) = ((λ p. p), (λ p. p))

pub counts_more : (k : ℕ) (xs : List (Entry Done)) (e : Entry Done) (n count old : ℕ) → n ≡ cond (eqb e.caller k) (count + 1) old → count ≡ length (by_caller e.caller xs) → old ≡ length (by_caller k xs)
    → n ≡ length (by_caller k (xs ++ e ∷ []))
counts_more k xs e n count old a b c = by_case (eqb e.caller k) refl
  where
    by_case : (t : Bool) → eqb e.caller k ≡ t → n ≡ length (by_caller k (xs ++ e ∷ []))
    by_case true h = a ∙ (cond-true (eqb e.caller k) (count + 1) old h ∙ (ap (λ (m : ℕ). m + 1) (b ∙ ap (λ (m : ℕ). length (by_caller m xs)) (eqb-true e.caller k h))
        ∙ sym (caller_more k xs e ∙ cond-true (eqb e.caller k) (length (by_caller k xs) + 1) (length (by_caller k xs)) h)))
    by_case false h = a ∙ (cond-false (eqb e.caller k) (count + 1) old h ∙ (c ∙ sym (caller_more k xs e ∙ cond-false (eqb e.caller k) (length (by_caller k xs) + 1) (length (by_caller k xs)) h)))

pub opening_listed : (n g f : ℕ) → IsListed (opening_of (layout_by n g f))
unfolding opening_of layout_by
opening_listed n g f = record { items = numbers_from 0 (min n 4096); are = refl }
