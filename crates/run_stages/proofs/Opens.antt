-- The opening.
use Rattle.std.proofs.Common.{◌≡◌, ℕ, ◌<◌, ◌≤◌, [], length, inr, ⊎_elim, sym, refl, ◌∙◌, arith}
use Rattle.serial_terms.specs.Counts.{numbers_from, times}
use Rattle.serial_terms.specs.Stores.{opening_of}
use Rattle.run_stages.specs.Work.{Work, given_count}
use Rattle.run_stages.specs.Stages.{IsAdded, IsLawful}
use Rattle.run_stages.specs.Opening.{opening}
use Rattle.run_stages.specs.Laws.{OpeningIsLawful}
use Rattle.run_stages.proofs.Counting.{below_or, total_times, numbers_length, times_numbers, times_no_numbers}
use Rattle.serial_terms.specs.RunLayout.{layout_by}

module _ (w : Work) (findings : ℕ) where
  n : ℕ
  n = given_count w 0

  once_pooled : (i : ℕ) → i < given_count w 0 → times i (numbers_from 0 (given_count w 0)) ≡ 1
  once_pooled i l = times_numbers i 0 (given_count w 0) (omega arith) (omega arith)

  pooled : (i : ℕ) → 0 < times i (numbers_from 0 (given_count w 0)) → i < given_count w 0
  pooled i l = ⊎_elim (λ m. m) (λ m. let x = times_no_numbers i 0 (given_count w 0) (inr (omega arith)) in absurd (omega arith)) (below_or i (given_count w 0))

  at_most_once : (i : ℕ) → times i (numbers_from 0 (given_count w 0)) ≤ 1
  at_most_once i = ⊎_elim (λ m. let x = once_pooled i m in omega arith) (λ m. let x = times_no_numbers i 0 (given_count w 0) (inr (omega arith)) in omega arith) (below_or i (given_count w 0))

  none_added : (h i : ℕ) → IsAdded w 0 ((opening w findings).pools 0) h i → ⊥
  unfolding opening_of layout_by
  none_added h i a = let x = once_pooled i a.given in let y = a.taken in omega arith

  pub opens : IsLawful w (opening w findings)
  unfolding opening_of layout_by
  opens = record {
    matched = [];
    chain = λ h. [];
    stages = record {
      slots = refl;
      capacity = refl;
      fits = let l = numbers_length 0 (given_count w 0) in omega arith;
      pooled = pooled;
      once = at_most_once;
      held = numbers_length 0 (given_count w 0) ∙ sym (total_times (numbers_from 0 (given_count w 0)) (length w.tasks) (λ i l. let m = pooled i l in omega arith) ∙ numbers_length 0 (given_count w 0));
      whole = λ i a g. let x = once_pooled i g in omega arith;
      only_whole = λ i l. absurd (omega arith);
      group = λ h c a. absurd (none_added h c.ender (a c.ender c.member));
      only_group = λ h l. absurd (omega arith);
      found = refl;
      chained = λ h i a m. absurd (none_added h i a);
      only_chained = λ h i l. absurd (omega arith);
      word = λ h. refl;
      lead = λ h. tt;
      only_linked = λ i j e. absurd (cc);
    };
  }

pub opening_lawful : OpeningIsLawful
opening_lawful w findings = opens w findings
