-- The books at run time are those of the view.
use Rattle.std.proofs.Common.{◌≡◌, ℕ, zero, suc, ◌+◌, ◌-◌, ◌<◌, Bool, cond, ltb, List, [], ◌∷◌, ◌++◌, length, take, drop, get_or, set, ⊎_elim, sym, refl, ap, ◌∙◌, subst, arith, vec_len, vec_capacity}
use Rattle.std.proofs.lemmas.Bool.{lt-leb, le-leb}
use Rattle.cell_table.specs.Sorted.{insert_by, merge_by}
use Rattle.cell_table.specs.declared.view.Book.{Book}
use Rattle.cell_table.specs.declared.view.Noted.{Noted}
use Rattle.cell_table.specs.declared.view.NotedBook.{NotedBook}
use Rattle.cell_table.specs.declared.entry.Entry.{Entry}
use Rattle.cell_table.specs.declared.entry.Ledger.{Ledger}
use Rattle.cell_table.specs.Rule.{new_books}
use Rattle.cell_table.specs.Steps.{caller_key, first_books, last_books}
use Rattle.cell_table.specs.Pass.{note, book_key, new_noted}
use Rattle.cell_table.specs.IsPass.{writer_books, writers_after}
use Rattle.cell_table.specs.Seats.{noted_of, noted_all, noted_book, noted_books, reserved_in, ledger_key, IsGap, AreFresh}
use Rattle.cell_table.proofs.Histories.{bool_cases}

module _ {D : Type 0} where
  noted_more : (es : List (Entry D)) (e : Entry D) → noted_all (es ++ e ∷ []) ≡ noted_all es ++ noted_of e ∷ []
  noted_more [] e = refl
  noted_more (x ∷ xs) e = ap (λ (z : List (Noted D)). noted_of x ∷ z) (noted_more xs e)

  -- an entry behind the others of the first ledger
  pub entry_added : (ls : List (Ledger D)) (l l' : Ledger D) (e : Entry D) → 0 < reserved_in ls → l ≡ get_or ls 0 l → l'.caller ≡ l.caller → l'.entries.items ≡ l.entries.items ++ e ∷ [] → noted_books (set ls 0 l') ≡ note (noted_of e).place (noted_of e).writer (noted_of e).content (noted_books ls)
  entry_added [] l l' e room is same items = absurd (omega arith)
  entry_added (x ∷ xs) l l' e room is same items = let more : noted_all l'.entries.items ≡ noted_all x.entries.items ++ noted_of e ∷ [] = ap noted_all items ∙ (noted_more l.entries.items e ∙ ap (λ (z : Ledger D). noted_all z.entries.items ++ noted_of e ∷ []) is) in
      λ i. record { caller = (same ∙ ap (λ (z : Ledger D). z.caller) is) i; entries = more i } ∷ noted_books xs

  -- the first ledger with other room
  pub entry_kept : (ls : List (Ledger D)) (l l' : Ledger D) → 0 < length ls → l ≡ get_or ls 0 l → l'.caller ≡ l.caller → l'.entries.items ≡ l.entries.items → noted_books (set ls 0 l') ≡ noted_books ls
  entry_kept [] l l' some is same items = absurd (omega arith)
  entry_kept (x ∷ xs) l l' some is same items = λ i. record { caller = (same ∙ ap (λ (z : Ledger D). z.caller) is) i; entries = (ap noted_all items ∙ ap (λ (z : Ledger D). noted_all z.entries.items) is) i } ∷ noted_books xs

  pub room_is : (ls : List (Ledger D)) (l l' : Ledger D) → 0 < length ls → l ≡ get_or ls 0 l → (reserved_in ls ≡ vec_capacity l.entries - vec_len l.entries) × (reserved_in (set ls 0 l') ≡ vec_capacity l'.entries - vec_len l'.entries)
  room_is [] l l' some is = absurd (omega arith)
  room_is (x ∷ xs) l l' some is = (ap (λ (z : Ledger D). vec_capacity z.entries - vec_len z.entries) (sym is), refl)

  shift_gap : (k : ℕ) (x : Ledger D) (xs : List (Ledger D)) (at : ℕ) → IsGap k (x ∷ xs) (suc at) → IsGap k xs at
  shift_gap k x xs at p = let l = p.0 in (omega arith, (λ i d m. p.1 (suc i) d (omega arith)), λ m d. p.2 (omega arith) d)

  pub ledger_inserted : (l : Ledger D) (ls : List (Ledger D)) (at : ℕ) → IsGap l.caller ls at → take at ls ++ l ∷ drop at ls ≡ insert_by ledger_key l ls
  ledger_inserted l [] zero p = refl
  ledger_inserted l [] (suc at) p = let m = p.0 in absurd (omega arith)
  ledger_inserted l (x ∷ xs) zero p = let m = p.2 (omega arith) x in sym (ap (λ (b : Bool). cond b (l ∷ x ∷ xs) (x ∷ insert_by ledger_key l xs)) (le-leb (suc l.caller) x.caller (omega arith)))
  ledger_inserted l (x ∷ xs) (suc at) p = let m = p.1 0 x (omega arith) in
      ap (λ (z : List (Ledger D)). x ∷ z) (ledger_inserted l xs at (shift_gap l.caller x xs at p)) ∙ sym (ap (λ (b : Bool). cond b (l ∷ x ∷ xs) (x ∷ insert_by ledger_key l xs)) (lt-leb (suc l.caller) x.caller (omega arith)))

module _ {A : Type 0} (key : A → ℕ) where
  pub merge_last : (xs ys : List A) (x : A) → merge_by key (xs ++ x ∷ []) ys ≡ merge_by key xs (insert_by key x ys)
  merge_last [] ys x = refl
  merge_last (y ∷ xs) ys x = ap (insert_by key y) (merge_last xs ys x)

  pub insert_length : (x : A) (ys : List A) → length (insert_by key x ys) ≡ suc (length ys)
  insert_length x [] = refl
  insert_length x (y ∷ ys) = let P : Bool → Type 0 = λ b. length (cond b (x ∷ y ∷ ys) (y ∷ insert_by key x ys)) ≡ suc (suc (length ys)) in ⊎_elim (λ t. subst P (sym t) refl) (λ f. subst P (sym f) (ap suc (insert_length x ys))) (bool_cases (ltb (key x) (key y)))

  pub merge_length : (xs ys : List A) → length (merge_by key xs ys) ≡ length xs + length ys
  merge_length [] ys = omega arith
  merge_length (x ∷ xs) ys = let i = merge_length xs ys in insert_length x (merge_by key xs ys) ∙ (omega arith)

module _ {D : Type 0} where
  noted_insert : (l : Ledger D) (ls : List (Ledger D)) → noted_books (insert_by ledger_key l ls) ≡ insert_by book_key (noted_book l) (noted_books ls)
  noted_insert l [] = refl
  noted_insert l (x ∷ xs) = let P : Bool → Type 0 = λ b. noted_books (cond b (l ∷ x ∷ xs) (x ∷ insert_by ledger_key l xs)) ≡ cond b (noted_book l ∷ noted_book x ∷ noted_books xs) (noted_book x ∷ insert_by book_key (noted_book l) (noted_books xs)) in
      ⊎_elim (λ t. subst P (sym t) refl) (λ f. subst P (sym f) (ap (λ (z : List (NotedBook D)). noted_book x ∷ z) (noted_insert l xs))) (bool_cases (ltb l.caller x.caller))

  pub noted_merge : (ks ls : List (Ledger D)) → noted_books (merge_by ledger_key ks ls) ≡ merge_by book_key (noted_books ks) (noted_books ls)
  noted_merge [] ls = refl
  noted_merge (k ∷ ks) ls = noted_insert k (merge_by ledger_key ks ls) ∙ ap (insert_by book_key (noted_book k)) (noted_merge ks ls)

  abbrev writer_book : NotedBook D → Book D
  writer_book b = record { caller = b.caller; records = writers_after [] b.entries }

  writer_insert : (b : NotedBook D) (bs : List (NotedBook D)) → writer_books (insert_by book_key b bs) ≡ insert_by caller_key (writer_book b) (writer_books bs)
  writer_insert b [] = refl
  writer_insert b (x ∷ xs) = let P : Bool → Type 0 = λ z. writer_books (cond z (b ∷ x ∷ xs) (x ∷ insert_by book_key b xs)) ≡ cond z (writer_book b ∷ writer_book x ∷ writer_books xs) (writer_book x ∷ insert_by caller_key (writer_book b) (writer_books xs)) in
      ⊎_elim (λ t. subst P (sym t) refl) (λ f. subst P (sym f) (ap (λ (z : List (Book D)). writer_book x ∷ z) (writer_insert b xs))) (bool_cases (ltb b.caller x.caller))

  pub writer_merge : (cs bs : List (NotedBook D)) → writer_books (merge_by book_key cs bs) ≡ merge_by caller_key (writer_books cs) (writer_books bs)
  writer_merge [] bs = refl
  writer_merge (c ∷ cs) bs = writer_insert c (merge_by book_key cs bs) ∙ ap (insert_by caller_key (writer_book c)) (writer_merge cs bs)

  pub noted_length : (ls : List (Ledger D)) → length (noted_books ls) ≡ length ls
  noted_length [] = refl
  noted_length (l ∷ ls) = ap suc (noted_length ls)

  pub noted_take : (n : ℕ) (ls : List (Ledger D)) → noted_books (take n ls) ≡ take n (noted_books ls)
  noted_take zero ls = refl
  noted_take (suc n) [] = refl
  noted_take (suc n) (l ∷ ls) = ap (λ (z : List (NotedBook D)). noted_book l ∷ z) (noted_take n ls)

  pub noted_drop : (n : ℕ) (ls : List (Ledger D)) → noted_books (drop n ls) ≡ drop n (noted_books ls)
  noted_drop zero ls = refl
  noted_drop (suc n) [] = refl
  noted_drop (suc n) (l ∷ ls) = noted_drop n ls

  pub writer_take : (n : ℕ) (bs : List (NotedBook D)) → writer_books (take n bs) ≡ first_books n (writer_books bs)
  writer_take zero bs = refl
  writer_take (suc n) [] = refl
  writer_take (suc n) (b ∷ bs) = ap (λ (z : List (Book D)). writer_book b ∷ z) (writer_take n bs)

  pub writer_drop : (n : ℕ) (bs : List (NotedBook D)) → writer_books (drop n bs) ≡ last_books n (writer_books bs)
  writer_drop zero bs = refl
  writer_drop (suc n) [] = refl
  writer_drop (suc n) (b ∷ bs) = writer_drop n bs

  pub fresh_noted : (k n : ℕ) (ls : List (Ledger D)) → AreFresh k n ls → (noted_books ls ≡ new_noted k n) × (length ls ≡ n) × (0 < n → reserved_in ls ≡ 0)
  fresh_noted k zero [] f = (refl, refl, λ l. refl)
  fresh_noted k (suc n) [] f = absurd (omega arith)
  fresh_noted k zero (l ∷ ls) f = let p = f.0 in absurd (omega arith)
  fresh_noted k (suc n) (l ∷ ls) f = let back : suc n - 1 ≡ n = omega arith in let i = fresh_noted (suc k) n ls (subst (λ (z : ℕ). AreFresh (suc k) z ls) back f.4) in let cap = f.3 in (
    (λ j. record { caller = f.1 j; entries = ap noted_all f.2 j } ∷ i.0 j),
    ap suc i.1,
    λ p. omega arith,
  )

  pub fresh_more : (k n : ℕ) (ls : List (Ledger D)) (l : Ledger D) → AreFresh k n ls → l.caller ≡ k + n → l.entries.items ≡ [] → vec_capacity l.entries ≡ 0 → AreFresh k (n + 1) (ls ++ l ∷ [])
  fresh_more k n [] l f a b c = let z = f in (omega arith, (omega arith), b, c, (omega arith))
  fresh_more k n (x ∷ xs) l f a b c = let p = f.0 in let e : n - 1 + 1 ≡ n + 1 - 1 = omega arith in (omega arith, f.1, f.2, f.3, subst (λ (z : ℕ). AreFresh (suc k) z (xs ++ l ∷ [])) e (fresh_more (suc k) (n - 1) xs l f.4 (omega arith) b c))

  pub fresh_writers : (k n : ℕ) → writer_books {D = D} (new_noted k n) ≡ new_books k n
  fresh_writers k zero = refl
  fresh_writers k (suc n) = ap (λ (z : List (Book D)). record { caller = k; records = [] } ∷ z) (fresh_writers (suc k) n)

  pub noted_at : (ls : List (Ledger D)) (i : ℕ) (l : Ledger D) (d : NotedBook D) → i < length ls → l ≡ get_or ls i l → noted_all l.entries.items ≡ (get_or (noted_books ls) i d).entries
  noted_at [] i l d inside e = absurd (omega arith)
  noted_at (x ∷ xs) zero l d inside e = ap (λ (z : Ledger D). noted_all z.entries.items) e
  noted_at (x ∷ xs) (suc i) l d inside e = noted_at xs i l d (omega arith) e
