-- What a step of one caller guarantees to the views of all others: each of them that fitted still fits.
use Rattle.std.proofs.Common.{◌≡◌, ◌≢◌, ℕ, ◌+◌, ◌*◌, ◌<◌, ◌≤◌, List, [], ◌∷◌, ◌⊎◌, set, ⊎_elim, sym, ap, ◌∙◌, subst, arith}
use mathlib.Core.Option.{some}
use lib.ListN.{get_elem?}
use Rattle.atomic_table.proofs.Lists.{at_set}
use Rattle.cell_table.specs.Sorted.{Each}
use Rattle.cell_table.specs.History.{Outcome, pending, decided, value_at, version_at, records_by, Unheld, IsVersion, IsValue, IsNewest}
use Rattle.cell_table.specs.declared.view.Record.{Record}
use Rattle.cell_table.specs.declared.view.Book.{Book}
use Rattle.cell_table.specs.declared.view.Event.{Event}
use Rattle.cell_table.specs.declared.view.Event.TheVariants.{ClockLoaded, LockLoaded, ValueLoaded, LockExchanged, VersionDrawn, ValueStored, LockStored, SeatMoved}
use Rattle.cell_table.specs.declared.view.View.{View}
use Rattle.cell_table.specs.declared.view.Stage.{Stage}
use Rattle.cell_table.specs.declared.view.Stage.TheVariants.{Open, Drawn, Decided}
use Rattle.cell_table.specs.declared.view.OpenRead.{OpenRead}
use Rattle.cell_table.specs.declared.view.OpenRead.TheVariants.{NoRead, LockRead, ValueRead}
use Rattle.cell_table.proofs.Sorted.{each_map, each_both}
use Rattle.cell_table.specs.Rule.{clock_of, lock_of, word_of, actor, newest, value_now, IsClean, IsUnstored, IsSettled, FitsStage, FitsRead, FitsEvent, Fits}

module _ {A : Type 0} where
  -- a fact of each view
  pub seats_stay : (K L : ℕ → A → Type 0) (vs : List A) (me : ℕ) (w : A) → L me w → ((j : ℕ) (v : A) → j ≢ me → get_elem? vs j ≡ some v → K j v → L j v)
      → ((j : ℕ) (v : A) → get_elem? vs j ≡ some v → K j v) → (j : ℕ) (v : A) → get_elem? (set vs me w) j ≡ some v → L j v
  seats_stay K L vs me w mine others was j v e = ⊎_elim (λ (t : (j ≡ me) × (w ≡ v)). subst (λ (x : ℕ × A). L x.0 x.1) (λ i. (sym t.0 i, t.1 i)) mine)
      (λ (t : (j ≢ me) × (get_elem? vs j ≡ some v)). others j v t.0 t.1 (was j v t.1)) (at_set vs me j w v e)

-- the caller k makes a step
pub record Guarantee {D : Type 0} (opening : List ℕ) (k : ℕ) (h h' : ℕ → Outcome D) (ws ws' : List ℕ) : Type 0 where
  pub grows : clock_of ws ≤ clock_of ws'
  pub past : (c p : ℕ) → p ≤ clock_of ws → Unheld h c p → ((x : ℕ) → value_at x h' c p ≡ value_at x h c p) × (version_at h' c p ≡ version_at h c p) × Unheld h' c p
  pub versions : (c u : ℕ) → u ≤ clock_of ws → IsVersion h c u → IsVersion h' c u × ((x : ℕ) → value_at x h' c u ≡ value_at x h c u)
  pub pending_kept : (w j : ℕ) (H : List ℕ) → j ≢ k → h w ≡ pending j H → h' w ≡ pending j H
  pub pending_was : (w j : ℕ) (H : List ℕ) → j ≢ k → h' w ≡ pending j H → h w ≡ pending j H
  pub decided_kept : (w j : ℕ) (r : Record D) → h w ≡ decided j r → h' w ≡ decided j r
  pub decided_was : (w j : ℕ) (r : Record D) → j ≢ k → h' w ≡ decided j r → h w ≡ decided j r
  pub records : (j : ℕ) → j ≢ k → records_by j h' (clock_of ws') ≡ records_by j h (clock_of ws)
  pub now : (c : ℕ) → ((newest opening h' ws' c ≡ newest opening h ws c) × (value_now opening h' ws' c ≡ value_now opening h ws c)) ⊎ ((newest opening h ws c < newest opening h' ws' c) × (lock_of ws c ≡ 2 * k + 1))
  pub lock_kept : (c j : ℕ) → j ≢ k → lock_of ws c ≡ 2 * j + 1 → lock_of ws' c ≡ 2 * j + 1
  pub lock_was : (c j : ℕ) → j ≢ k → lock_of ws' c ≡ 2 * j + 1 → lock_of ws c ≡ 2 * j + 1
  pub words : (c : ℕ) → (word_of ws' c ≡ word_of ws c) ⊎ ((lock_of ws c ≡ 2 * k + 1) × (word_of ws' c ≡ value_now opening h' ws' c))

module _ {D : Type 0} (opening : List ℕ) (k : ℕ) (h h' : ℕ → Outcome D) (ws ws' : List ℕ) (q : Guarantee opening k h h' ws ws') where
  -- a cell that another caller holds
  pub held_stays : (c j : ℕ) → j ≢ k → lock_of ws c ≡ 2 * j + 1 → (newest opening h' ws' c ≡ newest opening h ws c) × (value_now opening h' ws' c ≡ value_now opening h ws c) × (word_of ws' c ≡ word_of ws c)
  held_stays c j ne e = let no : (A : Type 0) → lock_of ws c ≡ 2 * k + 1 → A = λ A f. absurd (ne (omega arith)) in
      ⊎_elim (λ a. ⊎_elim (λ b. (a.0, a.1, b)) (λ b. no _ b.0) (q.words c)) (λ a. no _ a.1) (q.now c)

  pub clean_stays : (j : ℕ) → j ≢ k → (t : ℕ × ℕ) → lock_of ws t.0 ≡ 2 * j + 1 → IsClean opening h ws t → IsClean opening h' ws' t
  clean_stays j ne t e c = let s = held_stays t.0 j ne e in (s.0 ∙ c.0, s.2 ∙ (c.1 ∙ sym s.1))

  pub unstored_stays : (t : ℕ × ℕ) → word_of ws' t.0 ≡ word_of ws t.0 → IsUnstored opening h ws t → IsUnstored opening h' ws' t
  unstored_stays t same f = let g = q.grows in let low = f.0 in let a = q.versions t.0 t.1 f.0 f.1.0 in (omega arith, (a.0, a.1 _ ∙ (f.1.1 ∙ sym same)))

  settled_stays : (j : ℕ) → j ≢ k → (u : ℕ) (r : Record D) (stored : List ℕ) (t : ℕ × ℕ) → lock_of ws t.0 ≡ 2 * j + 1 → IsSettled opening h ws u r stored t → IsSettled opening h' ws' u r stored t
  settled_stays j ne u r stored t e c = let s = held_stays t.0 j ne e in (
    λ y. let a = c.0 y in (s.0 ∙ a.0, (λ b. s.2 ∙ (a.1 b ∙ sym s.1)), λ b. unstored_stays t s.2 (a.2 b)),
    λ n. clean_stays j ne t e (c.1 n),
  )

  stage_stays : (j : ℕ) → j ≢ k → (held : List (ℕ × ℕ)) → Each (λ t. lock_of ws t.0 ≡ 2 * j + 1) held → (st : Stage D) → FitsStage opening h ws j held st → FitsStage opening h' ws' j held st
  stage_stays j ne held locks Open f = each_both _ _ _ (λ t e c. clean_stays j ne t e c) held locks f
  stage_stays j ne held locks (Drawn u) f = let g = q.grows in let a = f.0 in let b = f.1 in (
    a,
    omega arith,
    q.pending_kept u j _ ne f.2,
    each_both _ _ _ (λ t e c. (clean_stays j ne t e c.0, c.1)) held locks f.3,
    λ w r l is. f.4 w r l (q.decided_was w j r ne is),
  )
  stage_stays j ne held locks (Decided u r stored) f = let g = q.grows in let a = f.0 in let b = f.1 in (a, omega arith, q.decided_kept u j r f.2, each_both _ _ _ (λ t e c. settled_stays j ne u r stored t e c) held locks f.3)

  pub read_stays : (l : OpenRead) → FitsRead opening h ws l → FitsRead opening h' ws' l
  read_stays NoRead f = tt
  read_stays (LockRead c u) f = let a = f.0 in let b = f.1 in ⊎_elim
      (λ s. let e = s.0 in (a, omega arith, λ is. let was = f.2 (sym s.0 ∙ is) in ⊎_elim (λ w. w ∙ (was ∙ sym s.1)) (λ w. w.1) (q.words c)))
      (λ s. let e = s.0 in (a, omega arith, λ is. absurd (omega arith))) (q.now c)
  read_stays (ValueRead c u x) f = let a = f.0 in let b = f.1 in ⊎_elim
      (λ s. let e = s.0 in (a, omega arith, λ is. f.2 (sym s.0 ∙ is) ∙ sym s.1))
      (λ s. let e = s.0 in (a, omega arith, λ is. absurd (omega arith))) (q.now c)

  event_stays : (e : Event) → FitsEvent h (clock_of ws) e → FitsEvent h' (clock_of ws') e
  event_stays (ClockLoaded n) f = let g = q.grows in omega arith
  event_stays (LockLoaded c n) f = λ u is. let g = q.grows in let a = f u is in let l = a.0 in (omega arith, (q.versions c u a.0 a.1).0)
  event_stays (ValueLoaded c n) f = tt
  event_stays (LockExchanged c n) f = λ u is. let g = q.grows in let a = f u is in let l = a.0 in (omega arith, (q.versions c u a.0 a.1).0)
  event_stays (VersionDrawn n) f = let g = q.grows in omega arith
  event_stays (ValueStored c n) f = tt
  event_stays (LockStored c n) f = tt
  event_stays SeatMoved f = tt

  pub values_stay : (vs : List (ℕ × ℕ × ℕ)) → Each (λ t. (t.1 ≤ clock_of ws) × IsValue opening h t.0 t.1 t.2) vs → Each (λ t. (t.1 ≤ clock_of ws') × IsValue opening h' t.0 t.1 t.2) vs
  values_stay = each_map _ _ (λ t f. let g = q.grows in let l = f.0 in let a = q.versions t.0 t.1 f.0 f.1.0 in (omega arith, (a.0, a.1 _ ∙ f.1.1)))

  pub validations_stay : (vs : List (ℕ × ℕ × ℕ)) → Each (λ t. (t.2 ≤ clock_of ws) × IsNewest h t.0 t.1 t.2) vs → Each (λ t. (t.2 ≤ clock_of ws') × IsNewest h' t.0 t.1 t.2) vs
  validations_stay = each_map _ _ (λ t f. let g = q.grows in let l = f.0 in let a = q.past t.0 t.2 f.0 f.1.1 in (omega arith, (a.1 ∙ f.1.0, a.2)))

  pub trail_stays : (es : List Event) → Each (FitsEvent h (clock_of ws)) es → Each (FitsEvent h' (clock_of ws')) es
  trail_stays = each_map _ _ event_stays

-- the seat of a view whose books are these is not that of k
actor_apart : {D : Type 0} (d total k id j : ℕ) (owner : ℕ → ℕ) (P : Book D → Type 0) → k < total → total ≤ d → owner k ≡ id → j ≢ id → (bs : List (Book D)) → Each (λ b. (owner b.caller ≡ j) × (b.caller < total) × P b) bs → actor bs d ≢ k
actor_apart d total k id j owner P l m e ne [] f is = absurd (omega arith)
actor_apart d total k id j owner P l m e ne (b ∷ bs) f is = ne (sym f.0.0 ∙ (ap owner is ∙ e))

books_apart : {D : Type 0} (total k id j : ℕ) (owner : ℕ → ℕ) → owner k ≡ id → j ≢ id → (b : Book D) → owner b.caller ≡ j → b.caller ≢ k
books_apart total k id j owner e ne b f is = ne (sym f ∙ (ap owner is ∙ e))

-- a view of another seat still fits
pub other_fits : {M D : Type 0} (m : M) (opening : List ℕ) (total : ℕ) (owner : ℕ → ℕ) (k id : ℕ) → k < total → owner k ≡ id → (h h' : ℕ → Outcome D) (ws ws' : List ℕ) → Guarantee opening k h h' ws ws'
    → (j : ℕ) (v : View M D) → j ≢ id → Fits m opening total owner h ws j v → Fits m opening total owner h' ws' j v
other_fits m opening total owner k id small own h h' ws ws' q j v ne f =
    let apart : actor v.books v.total ≢ k = actor_apart v.total total k id j owner _ small f.high own ne v.books f.books in record {
      same = f.same;
      high = f.high;
      spent = f.spent;
      books = each_map _ _ (λ b g. (g.0, g.1, g.2 ∙ sym (q.records b.caller (books_apart total k id j owner own ne b g.0)))) v.books f.books;
      order = f.order;
      known = (let g = q.grows in let l = f.known in omega arith);
      values = values_stay opening k h h' ws ws' q v.values f.values;
      validations = validations_stay opening k h h' ws ws' q v.validations f.validations;
      trail = trail_stays opening k h h' ws ws' q v.trail f.trail;
      locks = each_map _ _ (λ t e. q.lock_kept t.0 _ apart e) v.held f.locks;
      mine = λ i c o e. let there : i ≢ k = λ same. ne (sym o ∙ (ap owner same ∙ own)) in f.mine i c o (q.lock_was c i there e);
      stage = stage_stays opening k h h' ws ws' q _ apart v.held f.locks v.stage f.stage;
      stale = λ i w H e is. let there : i ≢ k = λ same. ne (sym e ∙ (ap owner same ∙ own)) in f.stale i w H e (q.pending_was w i H there is);
      reading = read_stays opening k h h' ws ws' q v.reading f.reading;
    }
