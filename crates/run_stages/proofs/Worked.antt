-- The worked runs.
use Rattle.std.proofs.Common.{◌≡◌, ℕ, zero, suc, ◌+◌, ◌<◌, ◌≤◌, true, List, [], ◌∷◌, sym, refl, ap, ◌∙◌, subst, arith, cond, eqb, ne_eqb, lit<, lit≤}
use Rattle.std.specs.Prelude.{Some, None}
use Rattle.std.proofs.lemmas.Bool.{cond-false}
use mathlib.Core.Logic.{dite}
use native.Mathlib.Decide.{ℕ_discrete}
use Rattle.serial_terms.specs.declared.call.Call.TheVariants.{AppendPlaced}
use Rattle.serial_terms.specs.declared.call.Reply.TheVariants.{Value}
use Rattle.serial_terms.specs.declared.store.Layout.{Layout}
use Rattle.serial_terms.specs.Entries.{Each}
use Rattle.serial_terms.specs.Serial.{in_child}
use Rattle.serial_terms.specs.Stores.{state_of}
use Rattle.serial_terms.specs.Worked.{WorkedHistories, one_frame_records, two_fragments_records, found_alone}
use Rattle.run_stages.specs.Work.{IsSoundWork, IsWhole, IsMember, task, end_of, group_bytes}
use Rattle.run_stages.specs.Allowed.{IsAllowed, take_whole, take_fragment, match_whole, match_group, nothing_queued, nothing_pooled}
use Rattle.run_stages.specs.Ends.{IsFinished}
use Rattle.run_stages.specs.Laws.{RunsEndLawful}
use Rattle.run_stages.specs.Opening.{layout_of}
use Rattle.run_stages.specs.Worked.{one_frame, two_fragments, IsWholeRun, WorkedRuns}

one_group : (i : ℕ) → (task one_frame i).group ≡ None
one_group zero = refl
one_group (suc i) = refl

no_member : (h i : ℕ) → IsMember one_frame h i → ⊥
no_member h i m = let e : None ≡ Some h = sym (one_group i) ∙ m.belongs in absurd (cc)

one_frame_sound : IsSoundWork one_frame
one_frame_sound = record {
  numbered = λ h i m. absurd (no_member h i m);
  inhabited = λ h l. absurd (omega arith);
  filled = λ h i m. absurd (no_member h i m);
  short = λ h i m. absurd (no_member h i m);
  one_last = λ h i j m. absurd (no_member h i m);
  packed = λ h i m. absurd (no_member h i m);
  bounded = λ h. lit< tt;
}

one_frame_whole : IsWhole one_frame 0
one_frame_whole = record { below = lit< tt; alone = refl }

one_frame_allowed : Each (λ e. IsAllowed one_frame e.dones) one_frame_records
one_frame_allowed = (
  nothing_queued refl,
  (
    take_whole 0 one_frame_whole refl,
    (
      match_whole 0 _ one_frame_whole (refl, refl, tt) refl,
      (nothing_queued refl, (nothing_pooled refl, (nothing_queued refl, (nothing_pooled refl, tt)))),
    ),
  ),
)

-- ---- two fragments

two_groups : (i h : ℕ) → IsMember two_fragments h i → (i < 2) × (h ≡ 0)
two_groups zero h m = (lit< tt, let e : Some 0 ≡ Some h = m.belongs in let z : 0 ≡ h = cc in sym z)
two_groups (suc zero) h m = (lit< tt, let e : Some 0 ≡ Some h = m.belongs in let z : 0 ≡ h = cc in sym z)
two_groups (suc (suc i)) h m = let l = m.below in absurd (omega arith)

two_cases : (P : ℕ → Type 0) → P 0 → P 1 → (i : ℕ) → i < 2 → P i
two_cases P a b zero l = a
two_cases P a b (suc zero) l = b
two_cases P a b (suc (suc i)) l = absurd (omega arith)

member0 : IsMember two_fragments 0 0
member0 = record { below = lit< tt; belongs = refl }

member1 : IsMember two_fragments 0 1
member1 = record { below = lit< tt; belongs = refl }

last_is_first : (i : ℕ) → i < 2 → (task two_fragments i).last ≡ true → i ≡ 0
last_is_first zero l e = refl
last_is_first (suc zero) l e = absurd (cc)
last_is_first (suc (suc i)) l e = absurd (omega arith)

two_bytes : (h : ℕ) → group_bytes two_fragments h ≤ 12
two_bytes h = dite (ℕ_discrete 0 h) (λ e. subst (λ (z : ℕ). group_bytes two_fragments z ≤ 12) e (lit≤ tt)) (λ n. few (cond (eqb 0 h) 4 0) (cond (eqb 0 h) 8 0) (cond-false {A = ℕ} (eqb 0 h) 4 0 (ne_eqb 0 h n)) (cond-false {A = ℕ} (eqb 0 h) 8 0 (ne_eqb 0 h n)))
  where
    few : (a b : ℕ) → a ≡ 0 → b ≡ 0 → 0 + a + b ≤ 12
    few a b e f = omega arith

two_fragments_sound : IsSoundWork two_fragments
two_fragments_sound = record {
  numbered = λ h i m. let e = (two_groups i h m).1 in omega arith;
  inhabited = λ h l. (0, record { below = lit< tt; belongs = (let e : 0 ≡ h = omega arith in ap (λ (z : ℕ). Some z) e) });
  filled = λ h i m. two_cases (λ i. 0 < (task two_fragments i).size) (lit< tt) (lit< tt) i (two_groups i h m).0;
  short = λ h i m. two_cases (λ i. end_of two_fragments i < 65536) (lit< tt) (lit< tt) i (two_groups i h m).0;
  one_last = λ h i j a b x y. last_is_first i (two_groups i h a).0 x ∙ sym (last_is_first j (two_groups j h b).0 y);
  packed = λ h i m l. let e = last_is_first i (two_groups i h m).0 l in subst (λ (z : ℕ). group_bytes two_fragments h ≤ end_of two_fragments z) (sym e) (two_bytes h);
  bounded = λ h. let b = two_bytes h in omega arith;
}

two_fragments_allowed : Each (λ e. IsAllowed two_fragments e.dones) two_fragments_records
two_fragments_allowed = (
  nothing_queued refl,
  (
    take_fragment 0 0 None member0 refl,
    (
      nothing_queued refl,
      (
        take_fragment 0 1 (Some 262156) member1 refl,
        (
          match_group 0 4295753740 (0 ∷ []) (in_child (AppendPlaced 0 6) (Value 0) ∷ []) (lit< tt) (refl, refl, tt) refl,
          (nothing_queued refl, (nothing_pooled refl, (nothing_queued refl, (nothing_pooled refl, tt)))),
        ),
      ),
    ),
  ),
)

-- ---- both

one_frame_finished : IsFinished one_frame (state_of (layout_of one_frame 65536) (found_alone (8 ∷ [])))
unfolding state_of
one_frame_finished = record { pool = refl; queue = refl; given = lit≤ tt }

two_fragments_finished : IsFinished two_fragments (state_of (layout_of two_fragments 65536) (found_alone (6 ∷ [])))
unfolding state_of
two_fragments_finished = record { pool = refl; queue = refl; given = lit≤ tt }

log_of : (layout : Layout) (values : List ℕ) → ((state_of layout (found_alone values)).logs 0).items ≡ values
unfolding state_of
log_of layout values = refl

module _ (worked : WorkedHistories) (ends : RunsEndLawful) where
  one_frame_run : IsWholeRun one_frame 65536 one_frame_records
  one_frame_run = record {
    sound = one_frame_sound;
    end = state_of (layout_of one_frame 65536) (found_alone (8 ∷ []));
    history = worked.one_frame.legal;
    allowed = one_frame_allowed;
    lawful = ends one_frame one_frame_sound 65536 one_frame_records (state_of (layout_of one_frame 65536) (found_alone (8 ∷ []))) (record { run = worked.one_frame.legal.run; allowed = one_frame_allowed });
    finished = one_frame_finished;
  }

  two_fragments_run : IsWholeRun two_fragments 65536 two_fragments_records
  two_fragments_run = record {
    sound = two_fragments_sound;
    end = state_of (layout_of two_fragments 65536) (found_alone (6 ∷ []));
    history = worked.two_fragments.legal;
    allowed = two_fragments_allowed;
    lawful = ends two_fragments two_fragments_sound 65536 two_fragments_records (state_of (layout_of two_fragments 65536) (found_alone (6 ∷ []))) (record { run = worked.two_fragments.legal.run; allowed = two_fragments_allowed });
    finished = two_fragments_finished;
  }

  pub worked_runs : WorkedRuns
  unfolding one_frame_run two_fragments_run
  worked_runs = record {
    frame = one_frame_run;
    frame_found = log_of (layout_of one_frame 65536) (8 ∷ []);
    fragments = two_fragments_run;
    fragments_found = log_of (layout_of two_fragments 65536) (6 ∷ []);
  }
