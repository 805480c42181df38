-- The records of a table place by place: at each place its writer, and then the readers there.
use Rattle.std.specs.Prelude.{ℕ, true, cond, eqb, leb, List, [], ◌∷◌, ◌++◌, Option, Some, None}
use Rattle.serial_terms.specs.Entries.{Entry, merged}
use Rattle.cell_table.specs.History.{Outcome, unused, pending, decided}
use Rattle.cell_table.specs.declared.view.Noted.{Noted}
use Rattle.cell_table.specs.declared.view.NotedBook.{NotedBook}

module _ {D : Type 0} where
  -- the writers of a book at a place, and its readers there
  abbrev pub writers_there : ℕ → List (Noted D) → List (Noted D)
  writers_there p [] = []
  writers_there p (e ∷ es) = cond e.writer (cond (eqb e.place p) (e ∷ writers_there p es) (writers_there p es)) (writers_there p es)

  abbrev pub readers_there : ℕ → List (Noted D) → List (Noted D)
  readers_there p [] = []
  readers_there p (e ∷ es) = cond e.writer (readers_there p es) (cond (eqb e.place p) (e ∷ readers_there p es) (readers_there p es))

  -- the entries of a book at p or below it
  abbrev pub below : ℕ → List (Noted D) → List (Noted D)
  below p [] = []
  below p (e ∷ es) = cond (leb e.place p) (e ∷ below p es) (below p es)

-- with these calls, and the index 0
module _ {D X : Type 0} (calls : List D → List X) where
  abbrev pub entry : ℕ → Noted D → Entry X
  entry k e = record { caller = k; index = 0; place = e.place; writer = e.writer; dones = calls e.content.dones }

  abbrev pub entries : ℕ → List (Noted D) → List (Entry X)
  entries k [] = []
  entries k (e ∷ es) = entry k e ∷ entries k es

  abbrev pub writer_at : ℕ → Outcome D → Option (Entry X)
  writer_at p unused = None
  writer_at p (pending k H) = None
  writer_at p (decided k r) = Some (record { caller = k; index = 0; place = p; writer = true; dones = calls r.dones })

  abbrev pub readers_of : List (NotedBook D) → ℕ → List (Entry X)
  readers_of [] p = []
  readers_of (b ∷ bs) p = entries b.caller (readers_there p b.entries) ++ readers_of bs p

  abbrev pub all_of : (ℕ → Outcome D) → List (NotedBook D) → ℕ → List (Entry X)
  all_of h bs = merged (λ p. writer_at p (h p)) (readers_of bs)
