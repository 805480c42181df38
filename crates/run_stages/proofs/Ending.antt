-- What is told of fills, of the end of a run, and of a full log.
use Rattle.std.proofs.Common.{◌≡◌, ℕ, ◌+◌, ◌-◌, ◌*◌, ◌<◌, ◌≤◌, List, [], ◌∷◌, ◌++◌, length, length-append, sym, refl, ap, subst, arith}
use Rattle.std.proofs.lemmas.List.Sorted.{length_permutation}
use Rattle.serial_terms.specs.declared.call.Reply.TheVariants.{Absent, Value}
use Rattle.serial_terms.specs.declared.call.Done.{Done}
use Rattle.serial_terms.specs.Entries.{Each}
use Rattle.serial_terms.specs.Histories.{Runs}
use Rattle.serial_terms.specs.Laws.{LastReadsSeeEnd, RecordsKeepSizes, CapacitiesStay}
use Rattle.serial_terms.specs.RunLayout.{layout_by}
use Rattle.serial_terms.specs.Serial.{State, first, put_cell}
use Rattle.serial_terms.specs.Stores.{opening_of}
use Rattle.serial_terms.specs.Worked.{no_item, no_task}
use Rattle.run_stages.specs.Work.{Work, given_count}
use Rattle.run_stages.specs.Allowed.{next_batch}
use Rattle.run_stages.specs.Opening.{opening, layout_of}
use Rattle.run_stages.specs.Laws.{AllowedKeepsLawful, RunsEndLawful, FinishedFindsAll}
use Rattle.run_stages.specs.Stages.{IsLawful}
use Rattle.run_stages.specs.Told.{filling, FillFits, NothingIsLeft, FullIsTheLog, FinishedFitsLog, LogIsPartOfAll}
use Rattle.run_stages.proofs.Counting.{numbers_length}
use Rattle.run_stages.proofs.Runs.{gives_run, gives_fit, given_to}

-- ---- fills

module _ (w : Work) (s : State) (l : IsLawful w s) (empty : (s.pools 0).held ≡ 0) where
  -- a batch is never greater than the pool
  batch_fits : length (next_batch w (s.cells 0)) ≤ (s.pools 0).slots
  batch_fits = let a = l.stages.slots in let b = numbers_length (4096 * (s.cells 0 + 1)) (given_count w (s.cells 0 + 1) - 4096 * (s.cells 0 + 1)) in omega arith

  slot_free : (before : List ℕ) (i : ℕ) (behind : List ℕ) (t : State) → next_batch w (s.cells 0) ≡ before ++ i ∷ behind → Runs s (filling w (s.cells 0) before) t → (t.pools 0).held < (t.pools 0).slots
  slot_free before i behind t e r =
      let g = (gives_run w before (put_cell s 0 (s.cells 0 + 1)) t (omega arith) r.1.1.1).0 in
      let h = ap (λ (z : State). (z.pools 0).held) g in let k = ap (λ (z : State). (z.pools 0).slots) g in
      let f = batch_fits in let n = ap length e in let m = length-append before (i ∷ behind) in omega arith

  fill_runs : (s.queues 0).items ≡ [] → (t : State) × Runs s (filling w (s.cells 0) (next_batch w (s.cells 0))) t
  fill_runs q = (
    given_to (put_cell s 0 (s.cells 0 + 1)) (next_batch w (s.cells 0)),
    (ap (λ (z : List ℕ). Value (length z)) (sym q), (refl, (refl, gives_fit w (next_batch w (s.cells 0)) (put_cell s 0 (s.cells 0 + 1)) (let f = batch_fits in omega arith)))),
  )

  pub fill_fits : FillFits w s
  fill_fits = record { each = slot_free; whole = fill_runs }

-- ---- the end

nothing_first : (xs : List ℕ) → Absent ≡ first xs → xs ≡ []
nothing_first [] e = refl
nothing_first (x ∷ xs) e = let c : Absent ≡ Value x = e in absurd (cc)

each_with : {A : Type 0} (P Q : A → Type 0) → ((x : A) → P x → Q x) → (xs : List A) → Each P xs → Each Q xs
each_with P Q f [] a = tt
each_with P Q f (x ∷ xs) a = (f x a.0, each_with P Q f xs a.1)

pub nothing_left : LastReadsSeeEnd → NothingIsLeft
nothing_left sees w findings records end order r a b i j p q x y last =
    let one : Runs end (no_item ∷ []) end = subst (λ (z : List Done). Runs end z end) x (sees records (opening w findings) end order r.run a i p (each_with _ _ (λ e f v. (f v).0) records last)) in
    let two : Runs end (no_task ∷ []) end = subst (λ (z : List Done). Runs end z end) y (sees records (opening w findings) end order r.run b j q (each_with _ _ (λ e f v. (f v).1) records last)) in
    (nothing_first (end.queues 0).items one.0, two.0)

-- ---- the log

pub full_log : AllowedKeepsLawful → LogIsPartOfAll → FullIsTheLog
full_log keeps part w p s t l ds a r values adding =
    let m = keeps w p ds a s t l r in (
      (λ f. let c = m.stages.capacity in let d = m.stages.fits in let e = f.0 in let g = f.1 in omega arith),
      (λ items all f. let e = f.0 in let g = f.1 in let k = (part w t m items all).0 in omega arith),
    )

opening_log : (w : Work) (findings : ℕ) → ((opening w findings).logs 0).capacity ≡ findings
unfolding opening_of layout_by
opening_log w findings = refl

pub fits_log : RecordsKeepSizes → CapacitiesStay → RunsEndLawful → FinishedFindsAll → FinishedFitsLog
fits_log keep stay ends finds w p findings records end r f items a =
    let k = keep records (opening w findings) end r.run in
    let c = (k.sizes 0).2 in let o = opening_log w findings in
    let h = (k.within (stay.opening (layout_of w findings))).logs 0 in
    let e = length_permutation _ _ (finds w end (ends w p findings records end r) f items a) in omega arith
