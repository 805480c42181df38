-- What a change of one version does to a history.
use Rattle.std.proofs.Common.{◌≡◌, ◌≢◌, ℕ, zero, suc, ◌<◌, ◌≤◌, Bool, true, false, cond, eqb, List, [], ◌∷◌, ◌⊎◌, inl, inr, ⊎_elim, sym, refl, ap, ◌∙◌, subst, arith, eq-eqb, ne_eqb}
use mathlib.Core.Logic.{dite}
use native.Mathlib.Decide.{ℕ_discrete}
use Rattle.cell_table.specs.Cells.{writes_to, written}
use Rattle.cell_table.specs.declared.view.Record.{Record}
use Rattle.cell_table.specs.History.{Outcome, unused, pending, decided, upd, touches, left_in, effect, cells_at, value_at, version_at, noted, records_by, IsVersion}

pub bool_cases : (b : Bool) → (b ≡ true) ⊎ (b ≡ false)
bool_cases true = inl refl
bool_cases false = inr refl

written_untouched : (ws : List (ℕ × ℕ)) (x c : ℕ) → writes_to ws c ≡ false → written x ws c ≡ x
written_untouched [] x c n = refl
written_untouched (w ∷ ws) x c n = dite (ℕ_discrete w.0 c)
    (λ e. let t : cond (eqb w.0 c) true (writes_to ws c) ≡ true = ap (λ (b : Bool). cond b true (writes_to ws c)) (eq-eqb w.0 c e) in let f : true ≡ false = sym t ∙ n in absurd (cc))
    (λ ne. let b = ne_eqb w.0 c ne in let m : writes_to ws c ≡ false = sym (ap (λ (b : Bool). cond b true (writes_to ws c)) b) ∙ n in
    ap (λ (b : Bool). written (cond b w.1 x) ws c) b ∙ written_untouched ws x c m)

pub written_touched : (ws : List (ℕ × ℕ)) (x y c : ℕ) → writes_to ws c ≡ true → written x ws c ≡ written y ws c
written_touched [] x y c n = absurd (cc)
written_touched (w ∷ ws) x y c n = dite (ℕ_discrete w.0 c)
    (λ e. let b = eq-eqb w.0 c e in ap (λ (b : Bool). written (cond b w.1 x) ws c) b ∙ sym (ap (λ (b : Bool). written (cond b w.1 y) ws c) b))
    (λ ne. let b = ne_eqb w.0 c ne in let m : writes_to ws c ≡ true = sym (ap (λ (b : Bool). cond b true (writes_to ws c)) b) ∙ n in
    ap (λ (b : Bool). written (cond b w.1 x) ws c) b ∙ (written_touched ws x y c m ∙ sym (ap (λ (b : Bool). written (cond b w.1 y) ws c) b)))

cond_false : {A : Type 0} (b : Bool) (x y : A) → b ≡ false → cond b x y ≡ y
cond_false b x y e = ap (λ (z : Bool). cond z x y) e

cond_true : {A : Type 0} (b : Bool) (x y : A) → b ≡ true → cond b x y ≡ x
cond_true b x y e = ap (λ (z : Bool). cond z x y) e

module _ {D : Type 0} where
  pub upd_same : (h : ℕ → Outcome D) (u : ℕ) (d : Outcome D) → upd h u d u ≡ d
  upd_same h u d = ap (λ (b : Bool). cond b d (h u)) (eq-eqb u u refl)

  pub upd_other : (h : ℕ → Outcome D) (u : ℕ) (d : Outcome D) (w : ℕ) → w ≢ u → upd h u d w ≡ h w
  upd_other h u d w ne = ap (λ (b : Bool). cond b d (h w)) (ne_eqb w u ne)

  -- below the version, nothing changes
  pub value_below : (x : ℕ) (h : ℕ → Outcome D) (u : ℕ) (d : Outcome D) (c p : ℕ) → p < u → value_at x (upd h u d) c p ≡ value_at x h c p
  value_below x h u d c zero l = refl
  value_below x h u d c (suc p) l = let e = upd_other h u d (suc p) (λ e. omega arith) in let i = value_below x h u d c p (omega arith) in
      ap (λ (z : Outcome D). left_in z c (value_at x (upd h u d) c p)) e ∙ ap (left_in (h (suc p)) c) i

  pub version_below : (h : ℕ → Outcome D) (u : ℕ) (d : Outcome D) (c p : ℕ) → p < u → version_at (upd h u d) c p ≡ version_at h c p
  version_below h u d c zero l = refl
  version_below h u d c (suc p) l = let e = upd_other h u d (suc p) (λ e. omega arith) in let i = version_below h u d c p (omega arith) in
      ap (λ (z : Outcome D). cond (touches z c) (suc p) (version_at (upd h u d) c p)) e ∙ ap (cond (touches (h (suc p)) c) (suc p)) i

  pub cells_below : (o : List ℕ) (h : ℕ → Outcome D) (u : ℕ) (d : Outcome D) (p : ℕ) → p < u → cells_at o (upd h u d) p ≡ cells_at o h p
  cells_below o h u d zero l = refl
  cells_below o h u d (suc p) l = let e = upd_other h u d (suc p) (λ e. omega arith) in let i = cells_below o h u d p (omega arith) in
      ap (λ (z : Outcome D). effect z (cells_at o (upd h u d) p)) e ∙ ap (effect (h (suc p))) i

  pub left_untouched : (d : Outcome D) (c x : ℕ) → touches d c ≡ false → left_in d c x ≡ x
  left_untouched unused c x n = refl
  left_untouched (pending k H) c x n = refl
  left_untouched (decided k r) c x n = written_untouched r.writes x c n

  pub left_touched : (d : Outcome D) (c x y : ℕ) → touches d c ≡ true → left_in d c x ≡ left_in d c y
  left_touched unused c x y n = absurd (cc)
  left_touched (pending k H) c x y n = absurd (cc)
  left_touched (decided k r) c x y n = written_touched r.writes x y c n

  -- a change at a version that neither writes the cell before nor after
  pub value_aside : (x : ℕ) (h : ℕ → Outcome D) (u : ℕ) (d : Outcome D) (c : ℕ) → touches (h u) c ≡ false → touches d c ≡ false → (p : ℕ) → value_at x (upd h u d) c p ≡ value_at x h c p
  value_aside x h u d c a b zero = refl
  value_aside x h u d c a b (suc p) = let i = value_aside x h u d c a b p in dite (ℕ_discrete (suc p) u)
      (λ e. let was : touches (h (suc p)) c ≡ false = subst (λ (z : ℕ). touches (h z) c ≡ false) (sym e) a in
      let now : upd h u d (suc p) ≡ d = subst (λ (z : ℕ). upd h u d z ≡ d) (sym e) (upd_same h u d) in
      ap (λ (z : Outcome D). left_in z c (value_at x (upd h u d) c p)) now ∙ (left_untouched d c _ b ∙ (i ∙ sym (left_untouched (h (suc p)) c _ was))))
      (λ ne. ap (λ (z : Outcome D). left_in z c (value_at x (upd h u d) c p)) (upd_other h u d (suc p) ne) ∙ ap (left_in (h (suc p)) c) i)

  pub version_aside : (h : ℕ → Outcome D) (u : ℕ) (d : Outcome D) (c : ℕ) → touches (h u) c ≡ false → touches d c ≡ false → (p : ℕ) → version_at (upd h u d) c p ≡ version_at h c p
  version_aside h u d c a b zero = refl
  version_aside h u d c a b (suc p) = let i = version_aside h u d c a b p in dite (ℕ_discrete (suc p) u)
      (λ e. let was : touches (h (suc p)) c ≡ false = subst (λ (z : ℕ). touches (h z) c ≡ false) (sym e) a in
      let now : touches (upd h u d (suc p)) c ≡ false = subst (λ (z : ℕ). touches (upd h u d z) c ≡ false) (sym e) (ap (λ (z : Outcome D). touches z c) (upd_same h u d) ∙ b) in
      cond_false _ (suc p) _ now ∙ (i ∙ sym (cond_false _ (suc p) _ was)))
      (λ ne. ap (λ (z : Outcome D). cond (touches z c) (suc p) (version_at (upd h u d) c p)) (upd_other h u d (suc p) ne) ∙ ap (cond (touches (h (suc p)) c) (suc p)) i)

  pub version_le : (h : ℕ → Outcome D) (c p : ℕ) → version_at h c p ≤ p
  version_le h c zero = omega arith
  version_le h c (suc p) = let i = version_le h c p in ⊎_elim (λ t. subst (λ (n : ℕ). n ≤ suc p) (sym (cond_true _ (suc p) _ t)) (omega arith))
      (λ f. subst (λ (n : ℕ). n ≤ suc p) (sym (cond_false _ (suc p) _ f)) (omega arith)) (bool_cases (touches (h (suc p)) c))

  pub version_grows : (h : ℕ → Outcome D) (c p q : ℕ) → p ≤ q → version_at h c p ≤ version_at h c q
  version_grows h c p zero l = let e : p ≡ 0 = omega arith in subst (λ (z : ℕ). version_at h c z ≤ 0) (sym e) (omega arith)
  version_grows h c p (suc q) l = dite (ℕ_discrete p (suc q)) (λ e. subst (λ (z : ℕ). version_at h c z ≤ version_at h c (suc q)) (sym e) (omega arith))
      (λ ne. let i = version_grows h c p q (omega arith) in let m = version_le h c p in ⊎_elim (λ t. subst (λ (n : ℕ). version_at h c p ≤ n) (sym (cond_true _ (suc q) _ t)) (omega arith))
      (λ f. subst (λ (n : ℕ). version_at h c p ≤ n) (sym (cond_false _ (suc q) _ f)) i) (bool_cases (touches (h (suc q)) c)))

  -- a version is at most the newest one of every later place
  pub version_top : (h : ℕ → Outcome D) (c u n : ℕ) → u ≤ n → IsVersion h c u → u ≤ version_at h c n
  version_top h c zero n l is = omega arith
  version_top h c (suc u) n l is = let grows = version_grows h c (suc u) n l in ⊎_elim (λ e. absurd (omega arith))
      (λ t. let here : version_at h c (suc u) ≡ suc u = cond_true _ (suc u) _ t.1 in omega arith) is

  -- between the newest version and q the value stays
  pub stays : (x : ℕ) (h : ℕ → Outcome D) (c p q : ℕ) → version_at h c q ≤ p → p ≤ q → (value_at x h c p ≡ value_at x h c q) × (version_at h c p ≡ version_at h c q)
  stays x h c p zero l m = let e : p ≡ 0 = omega arith in subst (λ (z : ℕ). (value_at x h c z ≡ x) × (version_at h c z ≡ 0)) (sym e) (refl, refl)
  stays x h c p (suc q) l m = dite (ℕ_discrete p (suc q)) (λ e. (ap (value_at x h c) e, ap (version_at h c) e))
      (λ ne. ⊎_elim (λ t. let n : version_at h c (suc q) ≡ suc q = cond_true _ (suc q) _ t in absurd (omega arith))
      (λ f. let n : version_at h c (suc q) ≡ version_at h c q = cond_false _ (suc q) _ f in let i = stays x h c p q (omega arith) (omega arith) in
      (i.0 ∙ sym (left_untouched (h (suc q)) c _ f), i.1 ∙ sym n)) (bool_cases (touches (h (suc q)) c)))

  -- a newer version of the cell
  pub newer : (x : ℕ) (h : ℕ → Outcome D) (u : ℕ) (d : Outcome D) (c p : ℕ) → 0 < u → u ≤ p → version_at h c p < u → touches d c ≡ true
      → (version_at (upd h u d) c p ≡ u) × (value_at x (upd h u d) c p ≡ left_in d c x)
  newer x h u d c zero z l m t = absurd (omega arith)
  newer x h u d c (suc p) z l m t = dite (ℕ_discrete (suc p) u)
      (λ e. let now : upd h u d (suc p) ≡ d = subst (λ (z : ℕ). upd h u d z ≡ d) (sym e) (upd_same h u d) in let yes : touches (upd h u d (suc p)) c ≡ true = ap (λ (z : Outcome D). touches z c) now ∙ t in
      (cond_true _ (suc p) _ yes ∙ e, ap (λ (z : Outcome D). left_in z c (value_at x (upd h u d) c p)) now ∙ left_touched d c _ x t))
      (λ ne. let same = upd_other h u d (suc p) ne in ⊎_elim (λ y. let n : version_at h c (suc p) ≡ suc p = cond_true _ (suc p) _ y in absurd (omega arith))
      (λ f. let n : version_at h c (suc p) ≡ version_at h c p = cond_false _ (suc p) _ f in let i = newer x h u d c p z (omega arith) (omega arith) t in
      let f' : touches (upd h u d (suc p)) c ≡ false = ap (λ (z : Outcome D). touches z c) same ∙ f in
      (cond_false _ (suc p) _ f' ∙ i.0, left_untouched _ c _ f' ∙ i.1)) (bool_cases (touches (h (suc p)) c)))

  -- a version's value, whatever was before it
  pub value_of_version : (x : ℕ) (h : ℕ → Outcome D) (c u : ℕ) → 0 < u → touches (h u) c ≡ true → value_at x h c u ≡ left_in (h u) c x
  value_of_version x h c zero z t = absurd (omega arith)
  value_of_version x h c (suc u) z t = left_touched (h (suc u)) c _ x t

  -- records of other callers
  noted_other : (k : ℕ) (d : Outcome D) (p : ℕ) (rs : List (ℕ × Record D)) → ((r : Record D) → d ≢ decided k r) → noted k d p rs ≡ rs
  noted_other k unused p rs n = refl
  noted_other k (pending j H) p rs n = refl
  noted_other k (decided j r) p rs n = dite (ℕ_discrete j k) (λ e. absurd (n r (ap (λ (z : ℕ). decided z r) e))) (λ ne. cond_false _ ((p, r) ∷ rs) rs (ne_eqb j k ne))

  pub records_aside : (k : ℕ) (h : ℕ → Outcome D) (u : ℕ) (d : Outcome D) → ((r : Record D) → h u ≢ decided k r) → ((r : Record D) → d ≢ decided k r) → (p : ℕ) → records_by k (upd h u d) p ≡ records_by k h p
  records_aside k h u d a b zero = refl
  records_aside k h u d a b (suc p) = let i = records_aside k h u d a b p in dite (ℕ_discrete (suc p) u)
      (λ e. let was : (r : Record D) → h (suc p) ≢ decided k r = subst (λ (z : ℕ). (r : Record D) → h z ≢ decided k r) (sym e) a in
      let now : upd h u d (suc p) ≡ d = subst (λ (z : ℕ). upd h u d z ≡ d) (sym e) (upd_same h u d) in
      ap (λ (z : Outcome D). noted k z (suc p) (records_by k (upd h u d) p)) now ∙ (noted_other k d (suc p) _ b ∙ (i ∙ sym (noted_other k (h (suc p)) (suc p) _ was))))
      (λ ne. ap (λ (z : Outcome D). noted k z (suc p) (records_by k (upd h u d) p)) (upd_other h u d (suc p) ne) ∙ ap (noted k (h (suc p)) (suc p)) i)

  pub records_before : (k : ℕ) (h : ℕ → Outcome D) (u : ℕ) (d : Outcome D) (p : ℕ) → p < u → records_by k (upd h u d) p ≡ records_by k h p
  records_before k h u d zero l = refl
  records_before k h u d (suc p) l = ap (λ (z : Outcome D). noted k z (suc p) (records_by k (upd h u d) p)) (upd_other h u d (suc p) (λ e. omega arith)) ∙ ap (noted k (h (suc p)) (suc p)) (records_before k h u d p (omega arith))

  pub records_more : (k : ℕ) (h : ℕ → Outcome D) (u : ℕ) (r : Record D) → 0 < u → ((t : Record D) → h u ≢ decided k t) → ((w : ℕ) (t : Record D) → u < w → h w ≢ decided k t)
      → (p : ℕ) → u ≤ p → records_by k (upd h u (decided k r)) p ≡ (u, r) ∷ records_by k h p
  records_more k h u r z none later zero l = absurd (omega arith)
  records_more k h u r z none later (suc p) l = let h' : ℕ → Outcome D = upd h u (decided k r) in dite (ℕ_discrete (suc p) u)
      (λ e. let now : h' (suc p) ≡ decided k r = subst (λ (z : ℕ). h' z ≡ decided k r) (sym e) (upd_same h u (decided k r)) in
      let was : (t : Record D) → h (suc p) ≢ decided k t = subst (λ (z : ℕ). (t : Record D) → h z ≢ decided k t) (sym e) none in
      let below : records_by k h' p ≡ records_by k h p = records_before k h u (decided k r) p (omega arith) in
      ap (λ (z : Outcome D). noted k z (suc p) (records_by k h' p)) now ∙ (cond_true _ ((suc p, r) ∷ records_by k h' p) _ (eq-eqb k k refl)
      ∙ ((λ i. (e i, r) ∷ below i) ∙ ap (λ (z : List (ℕ × Record D)). (u, r) ∷ z) (sym (noted_other k (h (suc p)) (suc p) _ was)))))
      (λ ne. let i = records_more k h u r z none later p (omega arith) in
      ap (λ (z : Outcome D). noted k z (suc p) (records_by k h' p)) (upd_other h u (decided k r) (suc p) ne)
      ∙ (noted_other k (h (suc p)) (suc p) _ (λ t. later (suc p) t (omega arith)) ∙ (i ∙ ap (λ (z : List (ℕ × Record D)). (u, r) ∷ z) (sym (noted_other k (h (suc p)) (suc p) _ (λ t. later (suc p) t (omega arith)))))))
