-- Legal runs of records.
use Rattle.std.proofs.Common.{◌≡◌, ℕ, zero, suc, ◌<◌, ◌≤◌, true, false, List, [], ◌∷◌, ◌++◌, inl, inr, ⊎_elim, sym, refl, ap, ◌∙◌, subst, arith}
use Rattle.std.specs.Prelude.{Option, Some, None, option_to_list}
use Rattle.serial_terms.specs.declared.call.Done.{Done}
use Rattle.serial_terms.specs.Entries.{Entry, Each, OrderedBy, StandsBefore, Precedes, IsIn, up_to, merged, IsWriterAt, AreOfTheirPlaces}
use Rattle.serial_terms.specs.Histories.{IsLegalRun}
use Rattle.serial_terms.specs.Laws.{MergedIsSeen, OrderIsUnique, MergedIsInOrder, MergedIsLegal, StatesAtPlaces, RecordsRunInParts, RecordsLeaveOneState, RecordsKeepSizes, LastReadsSeeEnd, OrderIsByPlace}
use Rattle.serial_terms.specs.Runs.{RunsBy, LegalBy, WriterRuns, ExplainThemselves}
use Rattle.serial_terms.specs.Serial.{State, IsReplied, step, IsWithinCapacity}
use Rattle.serial_terms.proofs.Ordering.{unique, up_to_begins, precedes_low, stands, merged_order, merged_apart, up_to_merged}
use Rattle.serial_terms.proofs.Running.{run_once, kinds, sizes}
use Rattle.std.proofs.lemmas.Bool.{cases_Bool}
use Rattle.serial_terms.proofs.Basics.{true_or_false, each_map}

module _ {S D : Type 0} (IsReplied : S → D → Type 0) (step : S → D → S) (Good : S → Type 0) where
  abbrev L : S → List (Entry D) → S → Type 0
  L = LegalBy IsReplied step Good

  pub legal_append : (xs ys : List (Entry D)) (s t u : S) → L s xs t → L t ys u → L s (xs ++ ys) u
  legal_append [] ys s t u e l = subst (λ (z : S). L z ys u) (sym e) l
  legal_append (x ∷ xs) ys s t u e l = (e.0, e.1, e.2, e.3, legal_append xs ys e.0 t u e.4 l)

  pub legal_split : (xs ys : List (Entry D)) (s u : S) → L s (xs ++ ys) u → (t : S) × L s xs t × L t ys u
  legal_split [] ys s u l = (s, refl, l)
  legal_split (x ∷ xs) ys s u l = let r = legal_split xs ys l.0 u l.4 in (r.0, (l.0, l.1, l.2, l.3, r.1), r.2)

  pub legal_once : (es : List (Entry D)) (s t u : S) → L s es t → L s es u → t ≡ u
  legal_once [] s t u a b = sym a ∙ b
  legal_once (e ∷ es) s t u a b = let same : a.0 ≡ b.0 = run_once IsReplied step e.dones s a.0 b.0 a.1 b.1 in legal_once es b.0 t u (subst (λ (z : S). L z es t) same a.4) b.4

  pub legal_at : (R : Entry D → Entry D → Type 0) → ((a b : Entry D) → R a b → a.place ≤ b.place) → (t : ℕ) (es : List (Entry D)) (s u : S) → OrderedBy R es → L s es u
      → (later : List (Entry D)) × (es ≡ up_to t es ++ later) × ((v : S) × L s (up_to t es) v × L v later u)
  legal_at R low t es s u o l = let b = up_to_begins R low t es o in (b.0, b.1, legal_split (up_to t es) b.0 s u (subst (λ (z : List (Entry D)). L s z u) b.1 l))

  -- records of which none is a writer leave the state
  pub only_reads : (es : List (Entry D)) (s t : S) → Each (λ e. e.writer ≡ false) es → L s es t → t ≡ s
  only_reads [] s t a l = sym l
  only_reads (e ∷ es) s t a l = only_reads es l.0 t a.1 l.4 ∙ l.3 a.0

  -- a reader in a list whose places never fall, in which no writer has a later place, is followed by readers alone
  pub sees_end : (es : List (Entry D)) (s t : S) → OrderedBy StandsBefore es → L s es t → (e : Entry D) → IsIn e es → e.writer ≡ false → Each (λ x. x.writer ≡ true → x.place ≤ e.place) es → RunsBy IsReplied step t e.dones t
  sees_end [] s t o l e i r b = absurd i
  sees_end (x ∷ xs) s t o l e i r b = ⊎_elim
      (λ y. let w : x.writer ≡ false = subst (λ (z : Entry D). z.writer ≡ false) (sym y) r in
      let readers : Each (λ z. z.writer ≡ false) xs = behind xs o.0 b.1 y in
      let same : t ≡ l.0 = only_reads xs l.0 t readers l.4 in let stays : l.0 ≡ s = l.3 w in
      let there : RunsBy IsReplied step s e.dones l.0 = subst (λ (z : Entry D). RunsBy IsReplied step s z.dones l.0) y l.1 in
      let now : RunsBy IsReplied step l.0 e.dones l.0 = subst (λ (z : S). RunsBy IsReplied step z e.dones l.0) (sym stays) there in
      subst (λ (z : S). RunsBy IsReplied step z e.dones z) (sym same) now)
      (λ j. sees_end xs l.0 t o.1 l.4 e j r b.1)
      i
    where
      one : (z : Entry D) → StandsBefore x z → (z.writer ≡ true → z.place ≤ e.place) → x ≡ e → z.writer ≡ false
      one z p q y = ⊎_elim
          (λ w. let k : z.place ≤ e.place = q w in let same : x.place ≡ e.place = ap (λ (v : Entry D). v.place) y in let plain : x.writer ≡ false = subst (λ (v : Entry D). v.writer ≡ false) (sym y) r in
          absurd (⊎_elim (λ m. omega arith) (λ m. ⊎_elim (λ n. true_or_false x.writer n.0 plain) (λ n. true_or_false z.writer w (sym n.0 ∙ plain)) m.1) p))
          (λ w. w)
          (cases_Bool z.writer)

      behind : (zs : List (Entry D)) → Each (StandsBefore x) zs → Each (λ z. z.writer ≡ true → z.place ≤ e.place) zs → x ≡ e → Each (λ z. z.writer ≡ false) zs
      behind [] p q y = tt
      behind (z ∷ zs) p q y = (one z p.0 q.0 y, behind zs p.1 q.1 y)

  module _ (R : Entry D → Entry D → Type 0) (state : ℕ → S) (writer : ℕ → Option (Entry D)) (readers : ℕ → List (Entry D)) (own : AreOfTheirPlaces R writer readers) (x : ExplainThemselves IsReplied step Good state writer readers) where
    readers_legal : (es : List (Entry D)) (s : S) → Good s → Each (λ e. RunsBy IsReplied step s e.dones s) es → L s es s
    readers_legal [] s g a = refl
    readers_legal (e ∷ es) s g a = (s, a.0, g, (λ _. refl), readers_legal es s g a.1)

    writer_legal : (o : Option (Entry D)) (p : ℕ) (s t : S) → Good t → Each (IsWriterAt p) (option_to_list o) → WriterRuns IsReplied step s o t → L s (option_to_list o) t
    writer_legal None p s t g w r = sym r
    writer_legal (Some e) p s t g w r = (t, r, g, (λ f. absurd (true_or_false e.writer w.0.1 f)), refl)

    pub merged_legal : (p : ℕ) → L (state 0) (merged writer readers p) (state p)
    merged_legal zero = readers_legal (readers 0) (state 0) (x.are_good 0) (x.readers_run 0)
    merged_legal (suc p) = legal_append (merged writer readers p) (option_to_list (writer (suc p)) ++ readers (suc p)) (state 0) (state p) (state (suc p)) (merged_legal p)
        (legal_append (option_to_list (writer (suc p))) (readers (suc p)) (state p) (state (suc p)) (state (suc p))
        (writer_legal (writer (suc p)) (suc p) (state p) (state (suc p)) (x.are_good (suc p)) (own.of_writers (suc p)) (x.writer_runs p))
        (readers_legal (readers (suc p)) (state (suc p)) (x.are_good (suc p)) (x.readers_run (suc p))))

module _ {D : Type 0} where
  pub strict_below : (a b : Entry D) → a.place < b.place → Precedes a b
  strict_below a b l = inl l

  pub strict_behind : (a b : Entry D) → a.place ≡ b.place → a.writer ≡ true → b.writer ≡ false → Precedes a b
  strict_behind a b e w r = inr (e, inl (w, r))

  pub below : (a b : Entry D) → a.place < b.place → StandsBefore a b
  below a b l = inl l

  pub behind : (a b : Entry D) → a.place ≡ b.place → a.writer ≡ true → b.writer ≡ false → StandsBefore a b
  behind a b e w r = inr (e, inl (w, r))

  pub by_place : (es : List (Entry D)) → OrderedBy Precedes es → OrderedBy StandsBefore es
  by_place [] o = tt
  by_place (e ∷ es) o = (each_map (Precedes e) (StandsBefore e) (stands e) es o.0, by_place es o.1)

pub order_unique : OrderIsUnique
order_unique = unique

pub order_by_place : OrderIsByPlace
order_by_place = by_place

pub at_places : StatesAtPlaces
at_places history start end t o l = legal_at IsReplied step IsWithinCapacity Precedes precedes_low t history start end o l

pub run_in_parts : RecordsRunInParts
run_in_parts xs ys s u = (legal_split IsReplied step IsWithinCapacity xs ys s u, λ r. legal_append IsReplied step IsWithinCapacity xs ys s r.0 u r.1 r.2)

pub leave_one : RecordsLeaveOneState
leave_one = legal_once IsReplied step IsWithinCapacity

pub keep_sizes : RecordsKeepSizes
keep_sizes [] s t l = record {
  sizes = λ n. (ap (λ (z : State). (z.queues n).capacity) (sym l), ap (λ (z : State). (z.pools n).slots) (sym l), ap (λ (z : State). (z.logs n).capacity) (sym l));
  kinds = tt;
  within = λ w. subst IsWithinCapacity l w;
}
keep_sizes (e ∷ es) s t l = let r = keep_sizes es l.0 t l.4 in record {
  sizes = λ n. let a = r.sizes n in let b = sizes e.dones s l.0 l.1 n in (a.0 ∙ b.0, a.1 ∙ b.1, a.2 ∙ b.2);
  kinds = (kinds e.dones s l.0 l.1, r.kinds);
  within = λ w. r.within l.2;
}

pub reads_see_end : LastReadsSeeEnd
reads_see_end history start end o l e i r b = sees_end IsReplied step IsWithinCapacity history start end o l e i r b

pub in_order : MergedIsInOrder
in_order writer readers own p = (merged_order Precedes strict_below strict_behind writer readers own p, merged_apart Precedes strict_below strict_behind writer readers own p, λ t l. up_to_merged Precedes strict_below strict_behind writer readers own t p l)

pub merged_runs : MergedIsLegal
merged_runs writer readers state own x p = merged_legal IsReplied step IsWithinCapacity StandsBefore state writer readers own x p

pub merged_seen : MergedIsSeen
merged_seen writer readers state own x t p l =
    subst (λ (z : List (Entry Done)). IsLegalRun (state 0) z (state t)) (sym (up_to_merged StandsBefore below behind writer readers own t p l)) (merged_legal IsReplied step IsWithinCapacity StandsBefore state writer readers own x t)
