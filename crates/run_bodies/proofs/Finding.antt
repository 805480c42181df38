-- The findings of a datagram.
use Rattle.std.proofs.Common.{◌≡◌, ℕ, List, sym, ap, ◌∙◌, subst}
use Rattle.std.specs.Prelude.{All, Result, Ok, Err, IfOk}
use Rattle.std.specs.Global.{Vec}
use Rattle.std.specs.List.{AllZip}
use Rattle.std.proofs.lemmas.List.Elements.{same_from_all_zip}
use Rattle.serial_terms.specs.Ranges.{IsKept}
use Rattle.run_findings.specs.Slots.{IsFilled}
use Rattle.run_purpose.specs.declared.item.Item.{Item}
use Rattle.run_purpose.specs.declared.item.Item.TheVariants.{Whole}
use Rattle.run_purpose.specs.declared.purpose.RunPurpose.{RunPurpose}
use Rattle.run_stages.specs.Work.{Work}
use Rattle.run_bodies.specs.Matching.{AreFoundIn}
use Rattle.run_bodies.specs.Records.{values_at}
use Rattle.run_bodies.specs.RunStores.{work_of_run}

module _ {E : Type 0} (w : Work) (item : Item) where
  pub are_found : (r : Result (Vec ℕ) E) → IfOk r (λ v. v.items ≡ values_at w item) → IfOk r (λ v. All IsKept v.items) → IfOk r (λ v. AreFoundIn w item v.items)
  are_found (Ok v) are kept = record { values_are = are; kept = kept }
  are_found (Err e) are kept = tt

  -- copies of values that were found
  pub are_copied : (IsCopy : ℕ → ℕ → Type 0) → ((x y : ℕ) → IsCopy x y → y ≡ x) → (r : Result (Vec ℕ) E) (values : List ℕ) → AreFoundIn w item values → IfOk r (λ v. AllZip IsCopy values v.items)
      → IfOk r (λ v. AreFoundIn w item v.items)
  are_copied IsCopy same (Ok v) values found copied = subst (λ (xs : List ℕ). AreFoundIn w item xs) (sym (same_from_all_zip IsCopy values v.items copied same)) found
  are_copied IsCopy same (Err e) values found copied = tt

  -- the item is that of another name
  pub found_for : (other : Item) (r : Result (Vec ℕ) E) → other ≡ item → IfOk r (λ v. AreFoundIn w item v.items) → IfOk r (λ v. AreFoundIn w other v.items)
  found_for other r same found = subst (λ (i : Item). IfOk r (λ v. AreFoundIn w i v.items)) (sym same) found

-- what is in the slot of a task was found for it
pub filled_is_found : (run : RunPurpose) (number task : ℕ) (values : Vec ℕ) → number ≡ task → IsFilled run.rules.now run.bytes.now run.plan.now number values → AreFoundIn (work_of_run run) (Whole task) values.items
filled_is_found run number task values same filled = record {
  values_are = filled.values_are ∙ ap (work_of_run run).task_values same;
  kept = filled.kept;
}
