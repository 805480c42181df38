-- What the first entries of a list keep of the whole, and how promised places add up.
use Rattle.std.proofs.Common.{◌≡◌, ℕ, ◌+◌, ◌<◌, ◌≤◌, true, false, List, [], ◌∷◌, ◌++◌, length, take, None, sym, ◌∙◌, le_trans, arith}
use Rattle.std.proofs.lemmas.Grind.{common_steps}
use Rattle.attempt_lists.specs.Cells.{Entries, word_at, cell_at, NoCellTwice}
use Rattle.attempt_lists.specs.Buckets.{AreChains}
use Rattle.attempt_lists.specs.Index.{Passes, AllPass, Indexes, Holds, HasRoom}
use Rattle.attempt_lists.specs.declared.chains.Chains.{Chains}
use Rattle.attempt_lists.specs.declared.cell_index.CellIndex.{CellIndex}
use Rattle.attempt_lists.specs.Words.{none_from_word}
use Rattle.attempt_lists.proofs.Buckets.{chains_same}

-- the first n entries are entries of the list
taken : (es : Entries) (n i : ℕ) → i < length (take n es) → (i < length es) × (cell_at (take n es) i ≡ cell_at es i)
taken es n i in_range = grind (arith, common_steps)

module _ (es : Entries) (n : ℕ) where
  pub once_taken : NoCellTwice es → NoCellTwice (take n es)
  once_taken once i j lt in_range same =
      let last = taken es n j in_range in
      let first = taken es n i (omega arith) in
      once i j lt last.0 (grind (arith, first.1, last.1, same))

  pub pass_taken : (filter : ℕ) → AllPass filter es → AllPass filter (take n es)
  pass_taken filter pass i in_range =
      let at = taken es n i in_range in
      rw at.1 (pass i at.0)

  -- an index of the first entries, by their order or by chains that lost the others
  pub indexes_taken : (old new : CellIndex) → Indexes old es → new.active ≡ old.active → new.ordered ≡ old.ordered
      → (old.active ≡ true → AreChains new.chains.heads.items new.chains.links.items es (length (take n es))) → Indexes new (take n es)
  indexes_taken old new indexes same_active same_ordered chained = record {
    few = λ inactive unordered. let few = indexes.few (sym same_active ∙ inactive) (sym same_ordered ∙ unordered) in grind (arith, common_steps, few);
    ascending = λ ordered i j lt in_range.
        let last = taken es n j in_range in
        let first = taken es n i (omega arith) in
        rw (first.1, last.1) (indexes.ascending (sym same_ordered ∙ ordered) i j lt last.0);
    chained = λ active. chains_same _ _ es (take n es) _ (λ i lt. (taken es n i lt).1) (chained (sym same_active ∙ active));
  }

-- the list with one more entry at its end
module _ (es : Entries) (cell word : ℕ) where
  pub once_pushed : NoCellTwice es → word_at es cell ≡ None → NoCellTwice (es ++ (cell, word) ∷ [])
  once_pushed once absent i j lt in_range = grind (arith, common_steps, once i j, none_from_word es cell absent i)

  pub pass_pushed : (filter more : ℕ) → AllPass filter es → Passes more cell → ((q : ℕ) → Passes filter q → Passes more q) → AllPass more (es ++ (cell, word) ∷ [])
  pass_pushed filter more pass added kept i in_range = grind (arith, common_steps, pass i, kept (cell_at es i), added)

  -- its chains, where those of the list take one entry more
  pub chains_grown : (heads links more_heads more_links : List ℕ)
      → ((entries : Entries) (n : ℕ) → cell_at entries n ≡ cell → AreChains heads links entries n → AreChains more_heads more_links entries (n + 1))
      → AreChains heads links es (length es) → AreChains more_heads more_links (es ++ (cell, word) ∷ []) (length (es ++ (cell, word) ∷ []))
  chains_grown heads links more_heads more_links grows are =
      let as_long : length (es ++ (cell, word) ∷ []) ≡ length es + 1 = grind (arith, common_steps) in
      rw as_long (grows (es ++ (cell, word) ∷ []) (length es) (grind (arith, common_steps)) (chains_same heads links es _ (length es) (λ i lt. grind (arith, common_steps, lt)) are))

-- room for more entries is room for fewer
holds_fewer : (chains : Chains) (m n : ℕ) → m ≤ n → Holds chains n → Holds chains m
holds_fewer chains m n le holds = record { links = le_trans le holds.links; heads = holds.heads }

pub room_for_fewer : (index : CellIndex) (a b r s : ℕ) → a + r ≤ b + s → HasRoom index b s → HasRoom index a r
room_for_fewer index a b r s le room = record {
  chained = λ active. holds_fewer index.chains _ _ le (room.chained active);
  many = λ above. holds_fewer index.chains _ _ le (room.many (omega (arith, above, le)));
}

-- a list that is put in order owes its chains no more room
pub room_ordered : (old new : CellIndex) (a b r s : ℕ) → new.chains ≡ old.chains → new.active ≡ false → a + r ≤ b + s → HasRoom old b s → HasRoom new a r
room_ordered old new a b r s same inactive le room = record {
  chained = λ active. absurd (grind (arith, active, inactive));
  many = λ above. rw same (holds_fewer old.chains _ _ le (room.many (omega (arith, above, le))));
}
