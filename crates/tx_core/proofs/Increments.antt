-- What an attempt of a pass with every caller number reads, and what its record makes of the cells.
use Rattle.std.proofs.Common.{◌≡◌, ℕ, ◌<◌, ◌≤◌, ltb, Bool, true, false, cond, List, [], ◌∷◌, ◌++◌, length, slice_index, slice_set, refl, sym, ap, ◌∙◌, arith}
use Rattle.std.proofs.lemmas.Bool.{ltb-true}
use Rattle.cell_table.specs.Sorted.{Each, insert_by, merge_by}
use Rattle.cell_table.specs.Cells.{after}
use Rattle.cell_table.specs.declared.view.Record.{Record}
use Rattle.cell_table.specs.declared.view.Noted.{Noted}
use Rattle.cell_table.specs.declared.view.NotedBook.{NotedBook}
use Rattle.cell_table.specs.IsPass.{writers_after, writer_books}
use Rattle.cell_table.specs.Pass.{PassState, note}
use Rattle.cell_table.specs.Writers.{Alone, place_key, replay, writers_in}
use Rattle.tx_core.specs.Seen.{LooksOnly, StandsAt}
use Rattle.tx_core.specs.Stored.{cells_left}
use Rattle.tx_core.proofs.Looks.{observes_of}

module _ {M D : Type 0} where
  -- the value that is read is the one which the books leave
  pub read_alone : (p q : PassState M D) (version cell x u : ℕ) → LooksOnly p q → Alone q → q.seen ≤ version → StandsAt q.view version cell x u → slice_index (cells_left p) cell ≡ x
  read_alone p q version cell x u looks alone begun stands =
      let same : cells_left q ≡ cells_left p = ap (λ (o : List ℕ). replay o (writers_in q.books)) looks.1.grows.opening ∙ ap (λ (s : PassState M D). replay p.view.opening (writers_in s.books)) looks.0 in
      ap (λ (cells : List ℕ). slice_index cells cell) (sym same) ∙ ap (λ (ts : List (ℕ × Record D)). slice_index (replay q.view.opening ts) cell) (sym (alone.all version begun)) ∙ alone.observed cell x version stands.there (observes_of q.view version cell x u stands)

module _ {D : Type 0} where
  each_insert : (P : ℕ × Record D → Type 0) (t : ℕ × Record D) (ts : List (ℕ × Record D)) → P t → Each P ts → Each P (insert_by place_key t ts)
  each_insert P t [] h e = (h, tt)
  each_insert P t (s ∷ ts) h e = at (ltb t.0 s.0) (each_insert P t ts h e.1)
    where
      at : (b : Bool) → Each P (insert_by place_key t ts) → Each P (cond b (t ∷ s ∷ ts) (s ∷ insert_by place_key t ts))
      at true rest = (h, e)
      at false rest = (e.0, rest)

  each_merge : (P : ℕ × Record D → Type 0) (ts us : List (ℕ × Record D)) → Each P ts → Each P us → Each P (merge_by place_key ts us)
  each_merge P [] us e f = f
  each_merge P (t ∷ ts) us e f = each_insert P t (merge_by place_key ts us) e.0 (each_merge P ts us e.1 f)

  -- the writer with the greatest place goes to the end
  insert_last : (t : ℕ × Record D) (ts : List (ℕ × Record D)) → Each (λ s. s.0 ≤ t.0) ts → insert_by place_key t ts ≡ ts ++ t ∷ []
  insert_last t [] low = refl
  insert_last t (s ∷ ts) low = later (ltb t.0 s.0) (λ above. omega (arith, low.0, ltb-true t.0 s.0 above)) (insert_last t ts low.1)
    where
      later : (b : Bool) → (b ≡ true → ⊥) → insert_by place_key t ts ≡ ts ++ t ∷ [] → cond b (t ∷ s ∷ ts) (s ∷ insert_by place_key t ts) ≡ s ∷ ts ++ t ∷ []
      later true low rest = absurd (low refl)
      later false low rest = ap (λ us. s ∷ us) rest

  writers_low : (seen d : ℕ) → seen ≤ d → (es : List (Noted D)) (rs : List (ℕ × Record D)) → Each (λ e. e.place ≤ seen) es → Each (λ t. t.0 ≤ d) rs → Each (λ t. t.0 ≤ d) (writers_after rs es)
  writers_low seen d le [] rs low e = e
  writers_low seen d le (x ∷ es) rs low e = writers_low seen d le es (cond x.writer ((x.place, x.content) ∷ rs) rs) low.1 (at x.writer)
    where
      at : (b : Bool) → Each (λ t. t.0 ≤ d) (cond b ((x.place, x.content) ∷ rs) rs)
      at true = (omega (arith, low.0, le), e)
      at false = e

  all_low : (seen d : ℕ) → seen ≤ d → (bs : List (NotedBook D)) → Each (λ b. Each (λ e. e.place ≤ seen) b.entries) bs → Each (λ t. t.0 ≤ d) (writers_in bs)
  all_low seen d le [] low = tt
  all_low seen d le (b ∷ bs) low = each_merge (λ t. t.0 ≤ d) (writers_after [] b.entries) (writers_in bs) (writers_low seen d le b.entries [] low.0 tt) (all_low seen d le bs low.1)

  newest_first : (es : List (Noted D)) (rs : List (ℕ × Record D)) (d : ℕ) (r : Record D) → writers_after rs (es ++ record { place = d; writer = true; content = r } ∷ []) ≡ (d, r) ∷ writers_after rs es
  newest_first [] rs d r = refl
  newest_first (x ∷ es) rs d r = newest_first es (cond x.writer ((x.place, x.content) ∷ rs) rs) d r

  -- a writer at a place above all that was seen is the last one of all
  pub writers_noted : (seen d : ℕ) (r : Record D) (bs : List (NotedBook D)) → seen ≤ d → 0 < length (writer_books bs) → Each (λ b. Each (λ e. e.place ≤ seen) b.entries) bs → writers_in (note d true r bs) ≡ writers_in bs ++ (d, r) ∷ []
  writers_noted seen d r [] le some low = absurd (omega (arith, some))
  writers_noted seen d r (b ∷ bs) le some low =
      ap (λ (ts : List (ℕ × Record D)). merge_by place_key ts (writers_in bs)) (newest_first b.entries [] d r)
      ∙ insert_last (d, r) (merge_by place_key (writers_after [] b.entries) (writers_in bs)) (all_low seen d le (b ∷ bs) low)

  pub replay_last : (cells : List ℕ) (ts : List (ℕ × Record D)) (t : ℕ × Record D) → replay cells (ts ++ t ∷ []) ≡ after (replay cells ts) t.1.writes
  replay_last cells [] t = refl
  replay_last cells (s ∷ ts) t = replay_last (after cells s.1.writes) ts t

module _ {M D : Type 0} where
  -- a record that writes one cell, noted at a place above all that was seen
  pub one_write : (p q : PassState M D) (d : ℕ) (r : Record D) (cell x : ℕ) → q.view.opening ≡ p.view.opening → q.books ≡ note d true r p.books → p.seen ≤ d → 0 < length (writer_books p.books) → Each (λ b. Each (λ e. e.place ≤ p.seen) b.entries) p.books → r.writes ≡ (cell, x) ∷ [] → cells_left q ≡ slice_set (cells_left p) cell x
  one_write p q d r cell x opening books le some low writes =
      ap (λ (o : List ℕ). replay o (writers_in q.books)) opening
      ∙ ap (λ (bs : List (NotedBook D)). replay p.view.opening (writers_in bs)) books
      ∙ ap (λ (ts : List (ℕ × Record D)). replay p.view.opening ts) (writers_noted p.seen d r p.books le some low)
      ∙ replay_last p.view.opening (writers_in p.books) (d, r)
      ∙ ap (λ (ws : List (ℕ × ℕ)). after (cells_left p) ws) writes
