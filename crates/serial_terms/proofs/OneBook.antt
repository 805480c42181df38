-- The records of one caller as a history.
use Rattle.std.proofs.Common.{◌≡◌, ◌≢◌, ℕ, ◌+◌, ◌<◌, ◌≤◌, true, false, eqb, List, [], ◌∷◌, inl, inr, ⊎_elim, sym, refl, ap, ◌∙◌, subst, arith, eq-eqb, ne_eqb}
use mathlib.Core.Logic.{dite}
use native.Mathlib.Decide.{ℕ_discrete}
use Rattle.serial_terms.specs.Entries.{Entry, Each, Precedes, IsInOrder, by_caller, IsCountedFrom, OneWriterAPlace, IsBookFrom}
use Rattle.serial_terms.specs.Laws.{OneBookIsAHistory}
use Rattle.std.proofs.lemmas.Bool.{cases_Bool, cond-true, cond-false}
use Rattle.serial_terms.proofs.Basics.{each_map}

module _ {D : Type 0} (k : ℕ) where
  -- what a record of the book is, with the index n and the place p before it
  record Above (n p : ℕ) (e : Entry D) : Type 0 where
    caller : e.caller ≡ k
    index : n ≤ e.index
    place : p ≤ e.place
    writes : e.writer ≡ true → p < e.place

  above : (n p : ℕ) (es : List (Entry D)) → IsBookFrom k n p es → Each (Above n p) es
  above n p [] b = tt
  above n p (e ∷ es) b =
      let i = b.1 in let l = b.2 in (
        record { caller = b.0; index = omega arith; place = b.2; writes = b.3 },
        each_map (Above (n + 1) e.place) (Above n p) (λ x a. let j = a.index in let m = a.place in record { caller = a.caller; index = omega arith; place = omega arith; writes = λ w. let q = a.writes w in omega arith }) es (above (n + 1) e.place es b.4),
      )

  behind : (n : ℕ) (e x : Entry D) → e.caller ≡ k → e.index ≡ n → Above (n + 1) e.place x → Precedes e x
  behind n e x c i a = dite (ℕ_discrete e.place x.place)
      (λ y. let plain : x.writer ≡ false = ⊎_elim (λ w. let l = a.writes w in absurd (omega arith)) (λ w. w) (cases_Bool x.writer) in
      inr (y, ⊎_elim (λ w. inl (w, plain)) (λ w. inr (w ∙ sym plain, inr (c ∙ sym a.caller, let j = a.index in omega arith))) (cases_Bool e.writer)))
      (λ y. let l = a.place in inl (omega arith))

  in_order : (n p : ℕ) (es : List (Entry D)) → IsBookFrom k n p es → IsInOrder es
  in_order n p [] b = tt
  in_order n p (e ∷ es) b = (each_map (Above (n + 1) e.place) (Precedes e) (λ x a. behind n e x b.0 b.1 a) es (above (n + 1) e.place es b.4), in_order (n + 1) e.place es b.4)

  apart : (n p : ℕ) (es : List (Entry D)) → IsBookFrom k n p es → OneWriterAPlace es
  apart n p [] b = tt
  apart n p (e ∷ es) b = (each_map (Above (n + 1) e.place) (λ x. e.writer ≡ true → x.writer ≡ true → e.place ≢ x.place) (λ x a v w y. let l = a.writes w in omega arith) es (above (n + 1) e.place es b.4), apart (n + 1) e.place es b.4)

  of_itself : (j n p : ℕ) (es : List (Entry D)) → k ≡ j → IsBookFrom k n p es → by_caller j es ≡ es
  of_itself j n p [] y b = refl
  of_itself j n p (e ∷ es) y b = cond-true (eqb e.caller j) (e ∷ by_caller j es) (by_caller j es) (eq-eqb e.caller j (b.0 ∙ y)) ∙ ap (λ (z : List (Entry D)). e ∷ z) (of_itself j (n + 1) e.place es y b.4)

  of_others : (j n p : ℕ) (es : List (Entry D)) → k ≢ j → IsBookFrom k n p es → by_caller j es ≡ []
  of_others j n p [] y b = refl
  of_others j n p (e ∷ es) y b = cond-false (eqb e.caller j) (e ∷ by_caller j es) (by_caller j es) (ne_eqb e.caller j (λ z. y (sym b.0 ∙ z))) ∙ of_others j (n + 1) e.place es y b.4

  counted : (n p : ℕ) (es : List (Entry D)) → IsBookFrom k n p es → IsCountedFrom n es
  counted n p [] b = tt
  counted n p (e ∷ es) b = (b.1, counted (n + 1) e.place es b.4)

  each_counted : (j : ℕ) (es : List (Entry D)) → IsBookFrom k 0 0 es → IsCountedFrom 0 (by_caller j es)
  each_counted j es b = dite (ℕ_discrete k j)
      (λ y. subst (IsCountedFrom 0) (sym (of_itself j 0 0 es y b)) (counted 0 0 es b))
      (λ y. subst (IsCountedFrom 0) (sym (of_others j 0 0 es y b)) tt)

pub one_book : OneBookIsAHistory
one_book k es b = (in_order k 0 0 es b, (λ j. each_counted k j es b), apart k 0 0 es b, each_map (Above k 0 0) (λ x. x.writer ≡ true → 0 < x.place) (λ x a. a.writes) es (above k 0 0 es b))
