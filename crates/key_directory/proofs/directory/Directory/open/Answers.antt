use Rattle.std.proofs.Common.{arith, ◌≡◌, ℕ, ◌+◌, List, [], sum, sym, refl, ap, ◌∙◌, subst, replicate}
use Rattle.atomic_table.specs.Table.{opening, Me}
use Rattle.key_directory.specs.declared.layout.Layout.{Layout}
use Rattle.key_directory.specs.declared.view.View.{View}
use Rattle.key_directory.specs.Words.{laid_out, capacities_of}
use Rattle.key_directory.specs.Rule.{Rule, newcomer}
use Rattle.key_directory.specs.Layouts.{IsPass}
use Rattle.key_directory.proofs.Places.{laid_capacities}
use Rattle.key_directory.proofs.Ends.{starts, start_knows}
use Rattle.key_directory.proofs.directory.Directory.open.Goals as goal

pub of_words-requires : goal.of_words-requires
of_words-requires g c = let cs : List ℕ = capacities_of c.in_ok-layout.layout.regions.items in let e : cs ≡ c.args.regions.now = ap capacities_of c.in_ok-layout.ensures.0 ∙ laid_capacities 1 c.args.regions.now in
    let n : c.in_ok-layout.layout.words ≡ 1 + sum cs = c.in_ok-layout.ensures.1 ∙ sym (ap (λ (z : List ℕ). 1 + sum z) e) in
    let zeros : c.as_slice.result.now ≡ replicate c.in_ok-layout.layout.words 0 = c.as_slice.ensures.value ∙ c.in_ok-words.ensures.items_if_clones_equal (λ y e. e) in
    subst (λ (z : List ℕ). Rule g.K.KeyTest.passes cs c.in_ok-layout.layout.callers (opening z [] (newcomer cs c.in_ok-layout.layout.callers))) (sym zeros)
    (starts g.K.KeyTest.passes cs c.in_ok-layout.layout.callers c.in_ok-layout.layout.words n)

pub new-pass-requires : goal.new-pass-requires
new-pass-requires g c = let cs : List ℕ = capacities_of c.in_ok-layout.layout.regions.items in let e : cs ≡ c.args.regions.now = ap capacities_of c.in_ok-layout.ensures.0 ∙ laid_capacities 1 c.args.regions.now in
    let n : c.in_ok-layout.layout.words ≡ 1 + sum cs = c.in_ok-layout.ensures.1 ∙ sym (ap (λ (z : List ℕ). 1 + sum z) e) in let t = c.in_ok-table.ensures in
    subst (λ (z : Me (Unit {0}) View × ℕ). IsPass g.K.KeyTest.passes z.0 z.1) (λ i. (sym t.4 i, c.in_ok-layout.ensures.2 i))
    record { counted = refl; acting = (let p = c.requires.callers.0 in let q = c.in_ok-layout.ensures.2 in omega arith); slots = refl; knows = start_knows g.K.KeyTest.passes cs c.in_ok-layout.layout.callers c.in_ok-layout.layout.words n }

pub invariant_of-result : goal.invariant_of-result
invariant_of-result g c = let cs : List ℕ = capacities_of c.in_ok-layout.layout.regions.items in let e : cs ≡ c.args.regions.now = ap capacities_of c.in_ok-layout.ensures.0 ∙ laid_capacities 1 c.args.regions.now in
    let total = ap (λ (z : List ℕ). sum z) e in let key = c.in_ok-table.ensures.5 in let zeros = c.as_slice.ensures.value in let l = c.as_slice.ensures.len in let m = c.in_ok-words.ensures.len in record {
      told = (ap (λ (z : Layout). capacities_of z.regions.items) key, ap (λ (z : Layout). z.callers) key);
      regions = c.in_ok-layout.ensures.0 ∙ ap (laid_out 1) (sym e);
      words = (let w = c.in_ok-table.ensures.0 in let n = c.in_ok-layout.ensures.1 in omega arith);
      none = c.in_ok-table.ensures.1;
      small = (let s = c.requires.sum in omega arith);
    }

pub returns-clause-directory : goal.returns-clause-directory
returns-clause-directory g c = (ap capacities_of c.in_ok-layout.ensures.0 ∙ laid_capacities 1 c.args.regions.now, c.in_ok-layout.ensures.2)
