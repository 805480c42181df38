use Rattle.std.proofs.Common.{arith, ◌≡◌, ℕ, List, sym, ap, ◌∙◌, subst, All, Contains, slice_index}
use Rattle.std.specs.Mem.Slots.{slots_items}
use Rattle.key_directory.specs.declared.view.View.{View}
use Rattle.key_directory.specs.Words.{capacities_of, IsPosition, HoldsKey, word_number}
use Rattle.key_directory.specs.Rule.{IsKept, Stands}
use Rattle.key_directory.specs.Directory.{DirectoryView, PassView, claim_of}
use Rattle.key_directory.proofs.Ends.{closes}
use Rattle.key_directory.proofs.Closing.{each_once, held, word_of}
use Rattle.key_directory.proofs.directory.Directory.close.Goals as goal

pub invariant_of-result : goal.invariant_of-result
invariant_of-result g c = let n = c.close_with-closed.ensures.counts in record {
  full = c.close_with-closed.ensures.values.0;
  none = n.1 ∙ c.self.invariant.none;
  words = n.0 ∙ c.self.invariant.words;
  laid = c.self.invariant.regions;
  small = c.self.invariant.small;
}

pub returns-clause-held : goal.returns-clause-held
returns-clause-held g c = let v : View = c.into_seat.result.me.0 in let ws : List ℕ = slots_items c.close_with-closed.result.words in let n = c.into_seat.ensures.seat.counted in let p = c.into_seat.ensures.seat.acting in
    let sole : v.callers ≡ c.self.inside.table.shared.key.callers = (let a = c.requires.sole in let b = c.self.invariant.told.1 in let d = ap (λ (z : DirectoryView). z.callers) c.self.view_is in omega arith) in
    let f = closes g.K.KeyTest.passes (capacities_of c.self.inside.table.shared.key.regions.items) _ ws _ _ v (omega arith) sole c.close_with-closed.ensures.values.2 in
    let stands : All (Stands (capacities_of c.self.inside.layout.regions.items) ws) c.args.pass.claims = subst (λ (z : List ℕ × PassView). All (Stands z.0 ws) z.1.claims) (λ i. (c.self.invariant.told.0 i, c.into_seat.ensures.view i)) f.1 in
    held g.K.KeyTest.passes (capacities_of c.self.inside.layout.regions.items) ws c.args.pass.claims stands

pub returns-clause-each_once : goal.returns-clause-each_once
returns-clause-each_once g c = let v : View = c.into_seat.result.me.0 in let ws : List ℕ = slots_items c.close_with-closed.result.words in let n = c.into_seat.ensures.seat.counted in let p = c.into_seat.ensures.seat.acting in
    let sole : v.callers ≡ c.self.inside.table.shared.key.callers = (let a = c.requires.sole in let b = c.self.invariant.told.1 in let d = ap (λ (z : DirectoryView). z.callers) c.self.view_is in omega arith) in
    let f = closes g.K.KeyTest.passes (capacities_of c.self.inside.table.shared.key.regions.items) _ ws _ _ v (omega arith) sole c.close_with-closed.ensures.values.2 in
    each_once g.K.KeyTest.passes (capacities_of c.self.inside.layout.regions.items) ws (subst (λ (z : List ℕ). IsKept g.K.KeyTest.passes z ws) c.self.invariant.told.0 f.0)

pub returns-clause-no_other : goal.returns-clause-no_other
returns-clause-no_other g c = let v : View = c.into_seat.result.me.0 in let ws : List ℕ = slots_items c.close_with-closed.result.words in let n = c.into_seat.ensures.seat.counted in let p = c.into_seat.ensures.seat.acting in
    let sole : v.callers ≡ c.self.inside.table.shared.key.callers = (let a = c.requires.sole in let b = c.self.invariant.told.1 in let d = ap (λ (z : DirectoryView). z.callers) c.self.view_is in omega arith) in
    let f = closes g.K.KeyTest.passes (capacities_of c.self.inside.table.shared.key.regions.items) _ ws _ _ v (omega arith) sole c.close_with-closed.ensures.values.2 in
    let cs : List ℕ = capacities_of c.self.inside.layout.regions.items in
    let only : (r p k : ℕ) → IsPosition cs r p → HoldsKey cs ws r p k → Contains c.args.pass.claims (claim_of r k p) =
    subst (λ (z : List ℕ × PassView). (r p k : ℕ) → IsPosition z.0 r p → HoldsKey z.0 ws r p k → Contains z.1.claims (claim_of r k p)) (λ i. (c.self.invariant.told.0 i, c.into_seat.ensures.view i)) f.2 in
    λ r k p there e. only r p k (subst (λ (z : DirectoryView). IsPosition z.capacities r p) (sym c.self.view_is) there) (word_of (slice_index ws (word_number cs r p)) k e)
