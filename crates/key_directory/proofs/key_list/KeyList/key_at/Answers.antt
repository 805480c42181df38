use Rattle.std.proofs.Common.{arith, ◌≡◌, ℕ, ◌+◌, List, length, sym, ap, ◌∙◌, subst, get_or}
use Rattle.std.specs.Mem.Slots.{slots_items}
use Rattle.key_directory.specs.Words.{capacities_of, IsPosition, word_number}
use Rattle.key_directory.specs.Directory.{KeyListView, key_in, key_held}
use Rattle.key_directory.proofs.Places.{region_at, capacities_length, word_inside}
use Rattle.key_directory.proofs.Closing.{key_of, at_get}
use Rattle.key_directory.proofs.key_list.KeyList.key_at.Goals as goal

pub index-requires : goal.index-requires
index-requires c = let e = ap (λ (z : KeyListView). length z.capacities) c.self.view_is in let l = capacities_length c.self.inside.layout.regions.items in let r = c.requires.there.0 in omega arith

pub overflow_add-start : goal.overflow_add-start
overflow_add-start c = let cs : List ℕ = capacities_of c.self.inside.layout.regions.items in let r : ℕ = c.args.region in
    let there : IsPosition cs r c.args.position = subst (λ (z : KeyListView). IsPosition z.capacities r c.args.position) (sym c.self.view_is) c.requires.there in
    let low = word_inside cs r c.args.position there in let small = c.self.invariant.small in let s = (region_at c.self.inside.layout.regions.items r c.index.result.now c.self.invariant.laid there.0 c.index.ensures).0 in omega arith

pub word-word-requires : goal.word-word-requires
word-word-requires c = let cs : List ℕ = capacities_of c.self.inside.layout.regions.items in let r : ℕ = c.args.region in
    let there : IsPosition cs r c.args.position = subst (λ (z : KeyListView). IsPosition z.capacities r c.args.position) (sym c.self.view_is) c.requires.there in
    let low = word_inside cs r c.args.position there in let n = c.self.invariant.words in let s = (region_at c.self.inside.layout.regions.items r c.index.result.now c.self.invariant.laid there.0 c.index.ensures).0 in (omega arith, c.self.invariant.full)

pub returns : goal.returns
returns c = let cs : List ℕ = capacities_of c.self.inside.layout.regions.items in let r : ℕ = c.args.region in
    let there : IsPosition cs r c.args.position = subst (λ (z : KeyListView). IsPosition z.capacities r c.args.position) (sym c.self.view_is) c.requires.there in
    let s = (region_at c.self.inside.layout.regions.items r c.index.result.now c.self.invariant.laid there.0 c.index.ensures).0 in
    let word : c.word-word.result ≡ get_or (slots_items c.self.inside.closed.words) (word_number cs r c.args.position) 0 = at_get (slots_items c.self.inside.closed.words) (c.index.result.now.start + c.args.position) c.word-word.result c.word-word.ensures
    ∙ ap (λ (z : ℕ). get_or (slots_items c.self.inside.closed.words) (z + c.args.position) 0) s in record {
      exactly = key_of c.word-word.result c.checked_sub.result c.checked_sub.ensures ∙ (ap key_in word ∙ ap (λ (z : KeyListView). key_held z r c.args.position) c.self.view_is);
    }
