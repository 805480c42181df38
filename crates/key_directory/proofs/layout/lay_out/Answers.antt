use Rattle.std.proofs.Common.{arith, ◌≡◌, ◌+◌, sum, take, ℕ, List, [], ◌∷◌, ◌++◌, sym, ◌∙◌, get_or}
use Rattle.std.proofs.lemmas.List.Sums.{sum_by_more}
use Rattle.key_directory.specs.Words.{laid_out}
use Rattle.key_directory.proofs.Places.{laid_step}
use Rattle.key_directory.proofs.layout.lay_out.Goals as goal

pub loop-capacity-preserved : goal.loop-capacity-preserved
loop-capacity-preserved c = let i : ℕ = c.loop-capacity.capacity-index in let xs : List ℕ = c.args.capacities.now in let s = sum_by_more (λ x. x) xs i 0 c.loop-capacity-test.true in let was = c.loop-capacity.invariant in let b = was.1 in
    let joined : c.loop-capacity.regions.items ++ record { start = c.loop-capacity.words; capacity = get_or xs i 0 } ∷ [] ≡ laid_out 1 (take i xs) ++ record { start = 1 + sum (take i xs); capacity = get_or xs i 0 } ∷ [] =
    (λ j. was.0 j ++ record { start = was.1 j; capacity = get_or xs i 0 } ∷ []) in
    (c.in_ok-push.ensures.items ∙ (joined ∙ sym (laid_step xs i c.loop-capacity-test.true)), omega arith)
