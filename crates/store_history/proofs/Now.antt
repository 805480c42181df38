-- What a pass knows of the history of its store, at any moment and at the end.
use Rattle.std.proofs.Common.{◌≡◌, ℕ, true, List, Some, sym, subst}
use Rattle.serial_terms.specs.declared.call.Done.{Done}
use Rattle.serial_terms.specs.Purposes.{MergedIsRunning, RunningIsLegal, RunningStaysLawful}
use Rattle.serial_terms.specs.Renaming.{NamedDone, by_key, by_name}
use Rattle.serial_terms.specs.Serial.{State, IsWithinCapacity}
use Rattle.cell_table.specs.Cells.{has}
use Rattle.cell_table.specs.History.{cells_at}
use Rattle.cell_table.specs.IsPass.{IsPass, writer_books}
use Rattle.cell_table.specs.Moments.{Moments}
use Rattle.cell_table.specs.Pass.{PassState, IsSole}
use Rattle.cell_table.specs.Rule.{callers_of}
use Rattle.cell_table.specs.Settled.{Settled, Words}
use Rattle.cell_table.specs.declared.view.Book.{Book}
use Rattle.store_history.specs.Meanings.{Explains, IsLawful}
use Rattle.store_history.specs.Histories.{IsWholeHistory, OneHistory, WholeHistory, LastHistory}
use Rattle.store_history.proofs.Fitting.{at_one, every, fits_now, fits_last}
use Rattle.store_history.proofs.Telling.{history, one_history, whole_history, book_of_caller}

module _ {M D : Type 0} (lawful : M → List ℕ → Type 0) (explains : M → List (ℕ × ℕ) → List (ℕ × ℕ) → List D → Type 0)
    (named : List D → List NamedDone) (formed : M → List ℕ → Type 0) (state_of : M → List ℕ → State) (lawful_state : M → State → Type 0) (allows : M → List Done → Type 0)
    (within : (m : M) (cells : List ℕ) → formed m cells → IsWithinCapacity (state_of m cells))
    (lawful_means : (m : M) (cells : List ℕ) → lawful m cells → IsLawful (formed m) (state_of m) (lawful_state m) cells)
    (explains_means : (m : M) (os ws : List (ℕ × ℕ)) (ds : List D) → explains m os ws ds → (allows m (by_key (named ds)) × allows m (by_name (named ds))) × Explains (formed m) (state_of m) os ws (by_name (named ds)))
    (m : M) (p : PassState M D)
    (running : MergedIsRunning (lawful_state m)) (legal : RunningIsLegal (lawful_state m)) (stays : RunningStaysLawful (lawful_state m))
    (f : IsPass lawful explains p) where
  pub now : Moments lawful explains f.legal.meaning p.view f.legal.history → p.view.meaning ≡ Some m → OneHistory lawful named state_of lawful_state allows m p
  now there is = let k = f.legal in let t = at_one lawful explains p f m is k.meaning k.history k.is there in
      let fits = fits_now lawful explains p f m is t in (
        history lawful explains named formed state_of lawful_state allows within lawful_means explains_means m p k.history k.clock fits running legal stays,
        state_of m (cells_at p.view.opening k.history k.clock),
        one_history lawful explains named formed state_of lawful_state allows within lawful_means explains_means m p k.history k.clock fits running legal stays k.known t,
      )

  book_there : (k : ℕ) → has k (callers_of p.view.books) ≡ true → has k (callers_of (writer_books p.books)) ≡ true
  book_there k = subst (λ (z : List (Book D)). has k (callers_of z) ≡ true) (sym f.books)

  -- with every caller number
  pub whole : Moments lawful explains f.legal.meaning p.view f.legal.history → p.view.meaning ≡ Some m → IsSole p → WholeHistory lawful named state_of lawful_state allows m p
  whole there is sole = let k = f.legal in let t = at_one lawful explains p f m is k.meaning k.history k.is there in
      let fits = fits_now lawful explains p f m is t in (
        history lawful explains named formed state_of lawful_state allows within lawful_means explains_means m p k.history k.clock fits running legal stays,
        state_of m (cells_at p.view.opening k.history k.clock),
        whole_history lawful explains named formed state_of lawful_state allows within lawful_means explains_means m p k.history k.clock fits running legal stays
            (λ w j r e. book_of_caller named j p.books (book_there j (every lawful explains p f sole j (k.callers w j r e).1))) f.places k.known t,
      )

  pub last : (words : Words) → p.view.meaning ≡ Some m → Settled lawful explains p words → LastHistory lawful named state_of lawful_state allows m p words.values
  last words is s = let t = at_one lawful explains p f m is s.meaning s.history s.is s.moments in
      let fits = fits_last lawful explains p f m is words s t in
      let h = history lawful explains named formed state_of lawful_state allows within lawful_means explains_means m p s.history s.clock fits running legal stays in (
        h,
        subst (λ (z : List ℕ). IsWholeHistory lawful named state_of lawful_state allows m p h (state_of m z)) (sym s.values)
            (whole_history lawful explains named formed state_of lawful_state allows within lawful_means explains_means m p s.history s.clock fits running legal stays
            (λ w k r e. book_of_caller named k p.books (book_there k (s.every k (s.callers w k r e).2))) f.places s.known t),
      )
