-- The places of the records of a pass with every caller number.
use Rattle.std.proofs.Common.{ℕ, ◌+◌, ◌≤◌, inl, inr, List, [], ◌∷◌, refl, subst}
use Rattle.cell_table.specs.declared.view.Noted.{Noted}
use Rattle.serial_terms.specs.Entries.{Entry, Book, Each, IsIn, IsHistoryOf}
use Rattle.serial_terms.specs.Renaming.{NamedDone}
use Rattle.store_history.specs.Books.{records_from, books_of}
use Rattle.inspect_workers.specs.Noted.{Books, HasNoneAfter}

pub each_in : {A : Type 0} (P : A → Type 0) (xs : List A) (x : A) → Each P xs → IsIn x xs → P x
each_in P [] x a i = absurd i
each_in P (y ∷ ys) x a (inl e) = subst P e a.0
each_in P (y ∷ ys) x a (inr i) = each_in P ys x a.1 i

pub all_in : {A : Type 0} (P : A → Type 0) (xs : List A) → ((x : A) → IsIn x xs → P x) → Each P xs
all_in P [] f = tt
all_in P (x ∷ xs) f = (f x (inl refl), all_in P xs (λ y i. f y (inr i)))

abbrev pub unnamed : List NamedDone → List NamedDone
unnamed notes = notes

module _ (place : ℕ) where
  noted : (caller n : ℕ) (es : List (Noted NamedDone)) → Each (λ (e : Entry NamedDone). e.place ≤ place) (records_from unnamed caller n es) → Each (λ e. e.place ≤ place) es
  noted caller n [] a = tt
  noted caller n (e ∷ es) a = (a.0, noted caller (n + 1) es a.1)

  in_books : (books : Books) → ((b : Book NamedDone) → IsIn b (books_of unnamed books) → Each (λ e. e.place ≤ place) b.records) → HasNoneAfter place books
  in_books [] f = tt
  in_books (b ∷ bs) f = (noted b.caller 0 b.entries (f _ (inl refl)), in_books bs (λ c i. f c (inr i)))

  pub none_after : (books : Books) (history : List (Entry NamedDone)) → IsHistoryOf (books_of unnamed books) history → Each (λ e. e.place ≤ place) history → HasNoneAfter place books
  none_after books history is low = in_books books (λ b i. all_in _ b.records (λ e j. each_in (λ (x : Entry NamedDone). x.place ≤ place) history e low (is.all b e i j)))
