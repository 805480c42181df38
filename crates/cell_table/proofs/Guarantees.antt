-- Each kind of change that a step makes to the history and the words meets the guarantee.
use Rattle.std.proofs.Common.{◌≡◌, ◌≢◌, ℕ, suc, ◌+◌, ◌*◌, ◌<◌, ◌≤◌, Bool, true, false, cond, List, ◌⊎◌, get_or, inl, inr, ⊎_elim, sym, refl, ap, ◌∙◌, subst, arith}
use mathlib.Core.Logic.{dite}
use native.Mathlib.Decide.{ℕ_discrete, dec_lt}
use Rattle.cell_table.specs.Cells.{writes_to, has}
use Rattle.cell_table.specs.History.{Outcome, unused, pending, decided, upd, touches, left_in, value_at, version_at, records_by, Unheld, IsVersion, IsValue, IsNewest, Stands}
use Rattle.cell_table.specs.declared.view.Record.{Record}
use Rattle.cell_table.specs.Rule.{clock_of, lock_of, word_of, newest, value_now}
use Rattle.cell_table.proofs.Histories.{bool_cases, upd_same, upd_other, value_below, version_below, value_aside, version_aside, newer, value_of_version, records_aside}
use Rattle.cell_table.proofs.Guarantee.{Guarantee}

pub true_false : {A : Type 0} (b : Bool) → b ≡ true → b ≡ false → A
true_false b t f = let e : true ≡ false = sym t ∙ f in absurd (cc)

not_true : (b : Bool) → (b ≡ true → ⊥) → b ≡ false
not_true b n = ⊎_elim (λ t. absurd (n t)) (λ f. f) (bool_cases b)

module _ {D : Type 0} where
  pub at_upd : (h : ℕ → Outcome D) (u : ℕ) (d : Outcome D) (w : ℕ) (e : Outcome D) → upd h u d w ≡ e → ((w ≡ u) × (d ≡ e)) ⊎ ((w ≢ u) × (h w ≡ e))
  at_upd h u d w e is = dite (ℕ_discrete w u) (λ s. inl (s, sym (subst (λ (z : ℕ). upd h u d z ≡ d) (sym s) (upd_same h u d)) ∙ is)) (λ ne. inr (ne, sym (upd_other h u d w ne) ∙ is))

  abbrev IsOf : ℕ → Outcome D → Type 0
  IsOf k d = (d ≡ unused) ⊎ ((H : List ℕ) × (d ≡ pending k H))

  not_decided : (k : ℕ) (d : Outcome D) → IsOf k d → (j : ℕ) (r : Record D) → d ≢ decided j r
  not_decided k d o j r e = ⊎_elim (λ (b : d ≡ unused). absurd (cc)) (λ p. let f = p.1 in absurd (cc)) o

  not_pending : (k : ℕ) (d : Outcome D) → IsOf k d → (j : ℕ) (H : List ℕ) → j ≢ k → d ≢ pending j H
  not_pending k d o j H ne e = ⊎_elim (λ (b : d ≡ unused). absurd (cc)) (λ p. let f = p.1 in let same : j ≡ k = cc in absurd (ne same)) o

  untouched : (k : ℕ) (d : Outcome D) → IsOf k d → (c : ℕ) → touches d c ≡ false
  untouched k d o c = ⊎_elim (λ b. ap (λ (z : Outcome D). touches z c) b) (λ p. ap (λ (z : Outcome D). touches z c) p.1) o

  pub guarantee_words : (opening : List ℕ) (k : ℕ) (h : ℕ → Outcome D) (ws ws' : List ℕ) → clock_of ws' ≡ clock_of ws
      → ((c j : ℕ) → j ≢ k → lock_of ws c ≡ 2 * j + 1 → lock_of ws' c ≡ 2 * j + 1) → ((c j : ℕ) → j ≢ k → lock_of ws' c ≡ 2 * j + 1 → lock_of ws c ≡ 2 * j + 1)
      → ((c : ℕ) → (word_of ws' c ≡ word_of ws c) ⊎ ((lock_of ws c ≡ 2 * k + 1) × (word_of ws' c ≡ value_now opening h ws c))) → Guarantee opening k h h ws ws'
  guarantee_words opening k h ws ws' e kept was words = record {
    grows = omega arith;
    past = λ c p l f. ((λ x. refl), refl, f);
    versions = λ c u l v. (v, λ x. refl);
    pending_kept = λ w j H n e. e;
    pending_was = λ w j H n e. e;
    decided_kept = λ w j r e. e;
    decided_was = λ w j r n e. e;
    records = λ j n. ap (records_by j h) e;
    now = λ c. inl (ap (version_at h c) e, ap (value_at (get_or opening c 0) h c) e);
    lock_kept = kept;
    lock_was = was;
    words = λ c. ⊎_elim (λ s. inl s) (λ s. inr (s.0, s.1 ∙ sym (ap (value_at (get_or opening c 0) h c) e))) (words c);
  }

  -- a draw at the version after the clock, or a pending draw that lets cells go
  module _ (opening : List ℕ) (k : ℕ) (h : ℕ → Outcome D) (ws ws' : List ℕ) (u : ℕ) (H : List ℕ) (old : IsOf k (h u)) where
    abbrev d : Outcome D
    d = pending k H

    mine : IsOf k d
    mine = inr (H, refl)

    versions' : (c w : ℕ) → IsVersion h c w → IsVersion (upd h u d) c w × ((x : ℕ) → value_at x (upd h u d) c w ≡ value_at x h c w)
    versions' c w v = (
      ⊎_elim (λ z. inl z) (λ t. let ne : w ≢ u = λ e. true_false _ t.1 (subst (λ (z : ℕ). touches (h z) c ≡ false) (sym e) (untouched k (h u) old c)) in
          inr (t.0, ap (λ (z : Outcome D). touches z c) (upd_other h u d w ne) ∙ t.1)) v,
      λ x. value_aside x h u d c (untouched k (h u) old c) (untouched k d mine c) w,
    )

    pub guarantee_pending : ((c p : ℕ) → p ≤ clock_of ws → Unheld h c p → Unheld (upd h u d) c p)
        → clock_of ws ≤ clock_of ws'
        → ((j : ℕ) → records_by j h (clock_of ws') ≡ records_by j h (clock_of ws)) → ((c : ℕ) → version_at h c (clock_of ws') ≡ version_at h c (clock_of ws))
        → ((x c : ℕ) → value_at x h c (clock_of ws') ≡ value_at x h c (clock_of ws))
        → ((c j : ℕ) → j ≢ k → lock_of ws c ≡ 2 * j + 1 → lock_of ws' c ≡ 2 * j + 1) → ((c j : ℕ) → j ≢ k → lock_of ws' c ≡ 2 * j + 1 → lock_of ws c ≡ 2 * j + 1)
        → ((c : ℕ) → word_of ws' c ≡ word_of ws c) → Guarantee opening k h (upd h u d) ws ws'
    guarantee_pending free grows recs vers vals kept was words = record {
      grows = grows;
      past = λ c p l f. ((λ x. value_aside x h u d c (untouched k (h u) old c) (untouched k d mine c) p), version_aside h u d c (untouched k (h u) old c) (untouched k d mine c) p, free c p l f);
      versions = λ c w l v. versions' c w v;
      pending_kept = λ w j G n e. let ne : w ≢ u = λ s. not_pending k (h u) old j G n (subst (λ (z : ℕ). h z ≡ pending j G) s e) in upd_other h u d w ne ∙ e;
      pending_was = λ w j G n e. ⊎_elim (λ t. absurd (not_pending k d mine j G n t.1)) (λ t. t.1) (at_upd h u d w _ e);
      decided_kept = λ w j r e. let ne : w ≢ u = λ s. not_decided k (h u) old j r (subst (λ (z : ℕ). h z ≡ decided j r) s e) in upd_other h u d w ne ∙ e;
      decided_was = λ w j r n e. ⊎_elim (λ t. absurd (not_decided k d mine j r t.1)) (λ t. t.1) (at_upd h u d w _ e);
      records = λ j n. records_aside j h u d (λ r. not_decided k (h u) old j r) (λ r. not_decided k d mine j r) (clock_of ws') ∙ recs j;
      now = λ c. inl (
        version_aside h u d c (untouched k (h u) old c) (untouched k d mine c) (clock_of ws') ∙ vers c,
        value_aside _ h u d c (untouched k (h u) old c) (untouched k d mine c) (clock_of ws') ∙ vals _ c,
      );
      lock_kept = kept;
      lock_was = was;
      words = λ c. inl (words c);
    }

  pub guarantee_draw : (opening : List ℕ) (k : ℕ) (h : ℕ → Outcome D) (ws ws' : List ℕ) (H : List ℕ) → h (suc (clock_of ws)) ≡ unused → clock_of ws' ≡ suc (clock_of ws)
      → ((c : ℕ) → lock_of ws' c ≡ lock_of ws c) → ((c : ℕ) → word_of ws' c ≡ word_of ws c) → Guarantee opening k h (upd h (suc (clock_of ws)) (pending k H)) ws ws'
  guarantee_draw opening k h ws ws' H none e locks words = let n : ℕ = clock_of ws in guarantee_pending opening k h ws ws' (suc n) H (inl none)
      (λ c p l f w j G m is. ⊎_elim (λ t. let s = t.0 in absurd (omega arith)) (λ t. f w j G m t.1) (at_upd h (suc n) (pending k H) w _ is))
      (omega arith)
      (λ j. ap (records_by j h) e ∙ ap (λ (z : Outcome D). Rattle.cell_table.specs.History.noted j z (suc n) (records_by j h n)) none)
      (λ c. ap (version_at h c) e ∙ ap (λ (z : Outcome D). cond (touches z c) (suc n) (version_at h c n)) none)
      (λ x c. ap (value_at x h c) e ∙ ap (λ (z : Outcome D). left_in z c (value_at x h c n)) none)
      (λ c j ne is. locks c ∙ is)
      (λ c j ne is. sym (locks c) ∙ is)
      words

  pub guarantee_release : (opening : List ℕ) (k : ℕ) (h : ℕ → Outcome D) (ws ws' : List ℕ) (u : ℕ) (H G : List ℕ) → h u ≡ pending k H → ((c : ℕ) → has c G ≡ true → has c H ≡ true) → clock_of ws' ≡ clock_of ws
      → ((c j : ℕ) → j ≢ k → lock_of ws c ≡ 2 * j + 1 → lock_of ws' c ≡ 2 * j + 1) → ((c j : ℕ) → j ≢ k → lock_of ws' c ≡ 2 * j + 1 → lock_of ws c ≡ 2 * j + 1)
      → ((c : ℕ) → word_of ws' c ≡ word_of ws c) → Guarantee opening k h (upd h u (pending k G)) ws ws'
  guarantee_release opening k h ws ws' u H G was less e kept back words = guarantee_pending opening k h ws ws' u G (inr (H, was))
      (λ c p l f w j K m is. ⊎_elim
      (λ t. let g : pending k G ≡ pending j K = t.1 in let same : G ≡ K = cc in let low : u ≤ p = (let s = t.0 in omega arith) in
      not_true (has c K) (λ y. true_false _ (less c (subst (λ (z : List ℕ). has c z ≡ true) (sym same) y)) (f u k H low was)))
      (λ t. f w j K m t.1) (at_upd h u (pending k G) w _ is))
      (omega arith)
      (λ j. ap (records_by j h) e)
      (λ c. ap (version_at h c) e)
      (λ x c. ap (value_at x h c) e)
      kept
      back
      words

  -- the first store of a value
  pub guarantee_decide : (opening : List ℕ) (k : ℕ) (h : ℕ → Outcome D) (ws ws' : List ℕ) (u : ℕ) (H : List ℕ) (r : Record D) → 0 < u → u ≤ clock_of ws → h u ≡ pending k H
      → ((c : ℕ) → writes_to r.writes c ≡ true → (has c H ≡ true) × (newest opening h ws c < u) × (lock_of ws c ≡ 2 * k + 1)) → clock_of ws' ≡ clock_of ws
      → ((c : ℕ) → lock_of ws' c ≡ lock_of ws c)
      → ((c : ℕ) → (word_of ws' c ≡ word_of ws c) ⊎ ((lock_of ws c ≡ 2 * k + 1) × (word_of ws' c ≡ value_now opening (upd h u (decided k r)) ws c)))
      → Guarantee opening k h (upd h u (decided k r)) ws ws'
  guarantee_decide opening k h ws ws' u H r pos low was owns e locks words = let d : Outcome D = decided k r in let h' : ℕ → Outcome D = upd h u d in
      let old : IsOf k (h u) = inr (H, was) in let quiet = untouched k (h u) old in record {
        grows = omega arith;
        past = λ c p l f. dite (dec_lt p u)
            (λ b. (
              (λ x. value_below x h u d c p b),
              version_below h u d c p b,
              λ w j G m is. ⊎_elim (λ t. let s = t.0 in absurd (omega arith)) (λ t. f w j G m t.1) (at_upd h u d w _ is),
            ))
            (λ nb. let out : writes_to r.writes c ≡ false = not_true _ (λ y. true_false _ (owns c y).0 (f u k H (omega arith) was)) in (
              (λ x. value_aside x h u d c (quiet c) out p),
              version_aside h u d c (quiet c) out p,
              λ w j G m is. ⊎_elim (λ t. let g : decided k r ≡ pending j G = t.1 in absurd (cc)) (λ t. f w j G m t.1) (at_upd h u d w _ is),
            ));
        versions = λ c w l v. ⊎_elim
            (λ z. (inl z, λ x. subst (λ (y : ℕ). value_at x h' c y ≡ value_at x h c y) (sym z) refl))
            (λ t. let ne : w ≢ u = λ e. true_false _ t.1 (subst (λ (z : ℕ). touches (h z) c ≡ false) (sym e) (quiet c)) in let same : h' w ≡ h w = upd_other h u d w ne in let yes : touches (h' w) c ≡ true = ap (λ (z : Outcome D). touches z c) same ∙ t.1 in (
              inr (t.0, yes),
              λ x. value_of_version x h' c w t.0 yes ∙ (ap (λ (z : Outcome D). left_in z c x) same ∙ sym (value_of_version x h c w t.0 t.1)),
            )) v;
        pending_kept = λ w j G n e. let ne : w ≢ u = λ s. not_pending k (h u) old j G n (subst (λ (z : ℕ). h z ≡ pending j G) s e) in upd_other h u d w ne ∙ e;
        pending_was = λ w j G n e. ⊎_elim (λ t. let g : decided k r ≡ pending j G = t.1 in absurd (cc)) (λ t. t.1) (at_upd h u d w _ e);
        decided_kept = λ w j t e. let ne : w ≢ u = λ s. not_decided k (h u) old j t (subst (λ (z : ℕ). h z ≡ decided j t) s e) in upd_other h u d w ne ∙ e;
        decided_was = λ w j t n e. ⊎_elim (λ q. let g : decided k r ≡ decided j t = q.1 in let same : j ≡ k = cc in absurd (n same)) (λ q. q.1) (at_upd h u d w _ e);
        records = λ j n. records_aside j h u d (λ t. not_decided k (h u) old j t) (λ t g. let f : decided k r ≡ decided j t = g in let same : j ≡ k = cc in n same) (clock_of ws') ∙ ap (records_by j h) e;
        now = λ c. ⊎_elim
            (λ y. let o = owns c y in let m = newer (get_or opening c 0) h u d c (clock_of ws) pos low o.1 y in
            inr (let now : newest opening h' ws' c ≡ u = ap (version_at h' c) e ∙ m.0 in let less = o.1 in omega arith, o.2))
            (λ n. inl (version_aside h u d c (quiet c) n (clock_of ws') ∙ ap (version_at h c) e, value_aside _ h u d c (quiet c) n (clock_of ws') ∙ ap (value_at _ h c) e)) (bool_cases (writes_to r.writes c));
        lock_kept = λ c j ne is. locks c ∙ is;
        lock_was = λ c j ne is. sym (locks c) ∙ is;
        words = λ c. ⊎_elim (λ s. inl s) (λ s. inr (s.0, s.1 ∙ sym (ap (value_at _ h' c) e))) (words c);
      }
