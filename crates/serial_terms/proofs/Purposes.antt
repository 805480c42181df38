-- Histories through the lawful states of a purpose.
use Rattle.std.proofs.Common.{refl, ◌≡◌, ◌≢◌, ℕ, ◌+◌, ◌<◌, ◌≤◌, true, eqb, List, [], ◌∷◌, inl, inr, ⊎_elim, sym, ap, ◌∙◌, subst, arith, eq-eqb, ne_eqb}
use mathlib.Core.Logic.{dite}
use native.Mathlib.Decide.{ℕ_discrete}
use Rattle.serial_terms.specs.declared.call.Done.{Done}
use Rattle.serial_terms.specs.Counts.{with_at}
use Rattle.serial_terms.specs.Entries.{Entry, Each, OrderedBy, Precedes, StandsBefore, OneWriterAPlace, by_caller, IsCountedFrom, numbered, up_to}
use Rattle.serial_terms.specs.Histories.{IsLegalRun, RunsLawfully, IsLegalHistory, IsRunning}
use Rattle.serial_terms.specs.Purposes.{MergedIsRunning, RunningIsLegal, RunningStaysLawful, AllowedRunsLawfully, LawfulRunsAreLegal}
use Rattle.serial_terms.specs.Runs.{LegalBy}
use Rattle.serial_terms.specs.Serial.{State, IsReplied, step, IsWithinCapacity}
use Rattle.serial_terms.proofs.Legal.{below, behind, merged_legal, legal_at}
use Rattle.serial_terms.proofs.Ordering.{stands_low, merged_order, merged_apart, merged_placed, up_to_merged}
use Rattle.std.proofs.lemmas.Bool.{cond-true, cond-false}
use Rattle.serial_terms.specs.Facts.{with_at_same, with_at_other}
use Rattle.serial_terms.proofs.Basics.{each_map}

-- ---- legal runs, whatever a good state is

module _ {S D : Type 0} (IsReplied : S → D → Type 0) (step : S → D → S) (G H : S → Type 0) where
  weaker : ((s : S) → G s → H s) → (es : List (Entry D)) (s t : S) → LegalBy IsReplied step G s es t → LegalBy IsReplied step H s es t
  weaker f [] s t l = l
  weaker f (e ∷ es) s t l = (l.0, l.1, f l.0 l.2, l.3, weaker f es l.0 t l.4)

  ends_good : ((s : S) → G s → H s) → (es : List (Entry D)) (s t : S) → H s → LegalBy IsReplied step G s es t → H t
  ends_good f [] s t h l = subst H l h
  ends_good f (e ∷ es) s t h l = ends_good f es l.0 t (f l.0 l.2) l.4

  numbered_legal : ((s : S) → G s → H s) → (n : ℕ → ℕ) (es : List (Entry D)) (s t : S) → LegalBy IsReplied step G s es t → LegalBy IsReplied step H s (numbered n es) t
  numbered_legal f n [] s t l = l
  numbered_legal f n (e ∷ es) s t l = (l.0, l.1, f l.0 l.2, l.3, numbered_legal f (with_at n e.caller (n e.caller + 1)) es l.0 t l.4)

-- ---- records with new indices

more_is : (n : ℕ → ℕ) (c k : ℕ) → c ≡ k → with_at n c (n c + 1) k ≡ n k + 1
more_is n c k q = with_at_same n c (n c + 1) k (sym q) ∙ ap (λ (z : ℕ). n z + 1) q

module _ {D : Type 0} where
  -- what looks at no index is true of the records with new indices
  numbered_each : (P Q : Entry D → Type 0) → ((e : Entry D) (i : ℕ) → P e → Q (record e { index = i })) → (n : ℕ → ℕ) (es : List (Entry D)) → Each P es → Each Q (numbered n es)
  numbered_each P Q f n [] a = tt
  numbered_each P Q f n (e ∷ es) a = (f e (n e.caller) a.0, numbered_each P Q f (with_at n e.caller (n e.caller + 1)) es a.1)

  abbrev Apart : Entry D → Entry D → Type 0
  Apart e x = e.writer ≡ true → x.writer ≡ true → e.place ≢ x.place

  numbered_apart : (n : ℕ → ℕ) (es : List (Entry D)) → OneWriterAPlace es → OneWriterAPlace (numbered n es)
  numbered_apart n [] a = tt
  numbered_apart n (e ∷ es) a = (numbered_each (Apart e) (Apart e) (λ x i p. p) (with_at n e.caller (n e.caller + 1)) es a.0, numbered_apart (with_at n e.caller (n e.caller + 1)) es a.1)

  numbered_counted : (k : ℕ) (n : ℕ → ℕ) (es : List (Entry D)) → IsCountedFrom (n k) (by_caller k (numbered n es))
  numbered_counted k n [] = tt
  numbered_counted k n (e ∷ es) =
      let m : ℕ → ℕ = with_at n e.caller (n e.caller + 1) in let x : Entry D = record e { index = n e.caller } in let i = numbered_counted k m es in
      dite (ℕ_discrete e.caller k)
      (λ q. subst (IsCountedFrom (n k)) (sym (cond-true (eqb e.caller k) (x ∷ by_caller k (numbered m es)) (by_caller k (numbered m es)) (eq-eqb e.caller k q)))
      (ap n q, subst (λ (z : ℕ). IsCountedFrom z (by_caller k (numbered m es))) (more_is n e.caller k q) i))
      (λ q. subst (IsCountedFrom (n k)) (sym (cond-false (eqb e.caller k) (x ∷ by_caller k (numbered m es)) (by_caller k (numbered m es)) (ne_eqb e.caller k q)))
      (subst (λ (z : ℕ). IsCountedFrom z (by_caller k (numbered m es))) (with_at_other n e.caller (n e.caller + 1) k (λ z. q (sym z))) i))

  -- no index is below what its caller began with
  numbered_above : (n : ℕ → ℕ) (es : List (Entry D)) → Each (λ x. n x.caller ≤ x.index) (numbered n es)
  numbered_above n [] = tt
  numbered_above n (e ∷ es) = let m : ℕ → ℕ = with_at n e.caller (n e.caller + 1) in (
    omega arith,
    each_map (λ x. m x.caller ≤ x.index) (λ x. n x.caller ≤ x.index)
        (λ x l. dite (ℕ_discrete e.caller x.caller) (λ q. let a = more_is n e.caller x.caller q in omega arith) (λ q. let a = with_at_other n e.caller (n e.caller + 1) x.caller (λ z. q (sym z)) in omega arith))
        (numbered m es) (numbered_above m es),
  )

  each_with : (P Q R : Entry D → Type 0) → (es : List (Entry D)) → Each P es → Each Q es → Each R es → Each (λ e. P e × Q e × R e) es
  each_with P Q R [] a b c = tt
  each_with P Q R (e ∷ es) a b c = ((a.0, b.0, c.0), each_with P Q R es a.1 b.1 c.1)

  strictly : (n : ℕ → ℕ) (e x : Entry D) → StandsBefore e x → Apart e x → with_at n e.caller (n e.caller + 1) x.caller ≤ x.index → Precedes (record e { index = n e.caller }) x
  strictly n e x p a l = ⊎_elim
      (λ q. inl q)
      (λ q. inr (
        q.0,
        ⊎_elim (λ w. inl w)
            (λ w. inr (w.0, dite (ℕ_discrete e.caller x.caller) (λ c. let m = more_is n e.caller x.caller c in let y : n e.caller ≡ n x.caller = ap n c in inr (c, omega arith)) (λ c. let m = w.1 in inl (omega arith))))
            q.1,
      ))
      p

  numbered_order : (n : ℕ → ℕ) (es : List (Entry D)) → OrderedBy StandsBefore es → OneWriterAPlace es → OrderedBy Precedes (numbered n es)
  numbered_order n [] o a = tt
  numbered_order n (e ∷ es) o a =
      let m : ℕ → ℕ = with_at n e.caller (n e.caller + 1) in (
        each_map (λ x. StandsBefore e x × Apart e x × (m x.caller ≤ x.index)) (Precedes (record e { index = n e.caller })) (λ x p. strictly n e x p.0 p.1 p.2) (numbered m es)
            (each_with (StandsBefore e) (Apart e) (λ x. m x.caller ≤ x.index) (numbered m es)
            (numbered_each (StandsBefore e) (StandsBefore e) (λ x i p. p) m es o.0) (numbered_each (Apart e) (Apart e) (λ x i p. p) m es a.0) (numbered_above m es)),
        numbered_order m es o.1 a.1,
      )

  -- records that are counted already are numbered so
  counted_same : (n : ℕ → ℕ) (es : List (Entry D)) → ((k : ℕ) → IsCountedFrom (n k) (by_caller k es)) → numbered n es ≡ es
  counted_same n [] c = refl
  counted_same n (e ∷ es) c =
      let m : ℕ → ℕ = with_at n e.caller (n e.caller + 1) in
      let mine : (k : ℕ) → e.caller ≡ k → IsCountedFrom (n k) (e ∷ by_caller k es) = λ k q. subst (IsCountedFrom (n k)) (cond-true (eqb e.caller k) (e ∷ by_caller k es) (by_caller k es) (eq-eqb e.caller k q)) (c k) in
      let index : n e.caller ≡ e.index = sym (mine e.caller refl).0 in
      let behind : numbered m es ≡ es = counted_same m es (λ k. dite (ℕ_discrete e.caller k)
      (λ q. subst (λ (z : ℕ). IsCountedFrom z (by_caller k es)) (sym (more_is n e.caller k q)) (mine k q).1)
      (λ q. subst (λ (z : ℕ). IsCountedFrom z (by_caller k es)) (sym (with_at_other n e.caller (n e.caller + 1) k (λ z. q (sym z)))) (subst (IsCountedFrom (n k)) (cond-false (eqb e.caller k) (e ∷ by_caller k es) (by_caller k es) (ne_eqb e.caller k q)) (c k)))) in
      λ i. record e { index = index i } ∷ behind i

-- ---- for a purpose

module _ (lawful : State → Type 0) where
  abbrev Good : State → Type 0
  Good s = IsWithinCapacity s × lawful s

  pub merged_running : MergedIsRunning lawful
  merged_running writer readers state own x p = (
    record {
      order = merged_order StandsBefore below behind writer readers own p;
      run = merged_legal IsReplied step Good StandsBefore state writer readers own x p;
      apart = merged_apart StandsBefore below behind writer readers own p;
      placed = merged_placed StandsBefore below behind writer readers own p;
    },
    λ t l. subst (λ (z : List (Entry Done)). RunsLawfully lawful (state 0) z (state t)) (sym (up_to_merged StandsBefore below behind writer readers own t p l)) (merged_legal IsReplied step Good StandsBefore state writer readers own x t),
  )

  as_numbered : (start end : State) (h : List (Entry Done)) → IsRunning lawful start h end → IsLegalHistory start (numbered (λ k. 0) h) end
  as_numbered start end h r = record {
    order = numbered_order (λ k. 0) h r.order r.apart;
    run = numbered_legal IsReplied step Good IsWithinCapacity (λ s g. g.0) (λ k. 0) h start end r.run;
    counted = λ k. numbered_counted k (λ j. 0) h;
    apart = numbered_apart (λ k. 0) h r.apart;
    placed = numbered_each (λ e. e.writer ≡ true → 0 < e.place) (λ e. e.writer ≡ true → 0 < e.place) (λ e i p. p) (λ k. 0) h r.placed;
  }

  pub running_legal : RunningIsLegal lawful
  running_legal start end h r = (as_numbered start end h r, λ c. subst (λ (z : List (Entry Done)). IsLegalHistory start z end) (counted_same (λ k. 0) h c) (as_numbered start end h r))

  pub stays_lawful : RunningStaysLawful lawful
  stays_lawful start end h r l = (
    ends_good IsReplied step Good lawful (λ s g. g.1) h start end l r.run,
    λ t. let a = legal_at IsReplied step Good StandsBefore stands_low t h start end r.order r.run in
        (a.2.0, a.2.1, ends_good IsReplied step Good lawful (λ s g. g.1) (up_to t h) start a.2.0 l a.2.1),
  )

  pub allowed_lawfully : (allowed : List Done → Type 0) → AllowedRunsLawfully lawful allowed
  allowed_lawfully allowed keeps start end h l a r = along h start end l a r
    where
      along : (es : List (Entry Done)) (s t : State) → lawful s → Each (λ e. allowed e.dones) es → IsLegalRun s es t → RunsLawfully lawful s es t
      along [] s t l a r = r
      along (e ∷ es) s t l a r = let m : lawful r.0 = keeps e.dones s r.0 l a.0 r.1 in (r.0, r.1, (r.2, m), r.3, along es r.0 t m a.1 r.4)

  pub lawful_legal : LawfulRunsAreLegal lawful
  lawful_legal start end h r = weaker IsReplied step Good IsWithinCapacity (λ s g. g.0) h start end r
