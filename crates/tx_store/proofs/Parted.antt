-- A pass of a store that is split, and one that is joined with another.
use Rattle.std.proofs.Common.{refl, ◌≡◌, ℕ, zero, suc, ◌+◌, ◌-◌, ◌<◌, ltb, cond, true, false, Bool, List, [], ◌∷◌, ◌++◌, length, take, drop, ap, sym, ◌∙◌, subst, arith}
use Rattle.std.specs.Prelude.{Contains}
use Rattle.std.proofs.lemmas.List.{length-take-le, length-drop}
use Rattle.std.proofs.lemmas.List.Elements.{Contains-append_left, Contains-append_right}
use Rattle.cell_table.specs.Pass.{PassState, IsPassOf, split_kept, split_new, joined, book_key}
use Rattle.cell_table.specs.Sorted.{Each, insert_by, merge_by}
use Rattle.cell_table.specs.Steps.{Grows, IsIdle}
use Rattle.key_directory.specs.Directory as keys
use Rattle.key_directory.specs.declared.view.Claim.{Claim}
use Rattle.serial_terms.specs.Renaming.{NamedDone}
use Rattle.store_meaning.specs.Claims.{BooksAreClaimed}
use Rattle.store_meaning.specs.ClaimFacts.{books_more}
use Rattle.tx_store.specs.Parting.{IsKeptPart, IsNewPart, IsJoined}
use Rattle.tx_store.specs.Stores.{StoreView, PassView, AreClaimed, ArePaired, IsPassOfStore}

-- ---- lists

module _ {A : Type 0} (P : A → Type 0) where
  pub each_take : (n : ℕ) (xs : List A) → Each P xs → Each P (take n xs)
  each_take zero xs a = tt
  each_take (suc n) [] a = tt
  each_take (suc n) (x ∷ xs) a = (a.0, each_take n xs a.1)

  each_drop : (n : ℕ) (xs : List A) → Each P xs → Each P (drop n xs)
  each_drop zero xs a = a
  each_drop (suc n) [] a = tt
  each_drop (suc n) (x ∷ xs) a = each_drop n xs a.1

  each_chosen : (b : Bool) (xs ys : List A) → Each P xs → Each P ys → Each P (cond b xs ys)
  each_chosen true xs ys a c = a
  each_chosen false xs ys a c = c

  each_inserted : (key : A → ℕ) (x : A) (ys : List A) → P x → Each P ys → Each P (insert_by key x ys)
  each_inserted key x [] p a = (p, tt)
  each_inserted key x (y ∷ ys) p a = each_chosen (ltb (key x) (key y)) (x ∷ y ∷ ys) (y ∷ insert_by key x ys) (p, a) (a.0, each_inserted key x ys p a.1)

  each_merged : (key : A → ℕ) (xs ys : List A) → Each P xs → Each P ys → Each P (merge_by key xs ys)
  each_merged key [] ys a b = b
  each_merged key (x ∷ xs) ys a b = each_inserted key x (merge_by key xs ys) a.0 (each_merged key xs ys a.1 b)

-- a pass of the directory that has claimed more goes with the same pass of the cells
pub paired_more : {M : Type 0} (p : PassState M NamedDone) (k l : keys.PassView) → l.callers ≡ k.callers → l.room ≡ k.room → ((c : Claim) → Contains k.claims c → Contains l.claims c)
    → ArePaired p k → ArePaired p l
paired_more p k l callers room more pair = record { callers = callers ∙ pair.callers; room = room ∙ pair.room; claimed = books_more k.claims l.claims more p.books pair.claimed }

same_claims : (a b : List Claim) → b ≡ a → (c : Claim) → Contains a c → Contains b c
same_claims a b same c has = subst (λ (z : List Claim). Contains z c) (sym same) has

module _ {M : Type 0} where
  -- ---- a split

  pub kept_part : (store : StoreView M) (old new : PassView M) (n : ℕ) → IsPassOfStore store old → n < length old.pass.books → IsIdle old.pass.view → IsPassOf store.table new.pass → new.pass ≡ split_kept old.pass n
      → new.keys.directory ≡ old.keys.directory → new.keys.callers ≡ old.keys.callers - n → new.keys.room ≡ old.keys.room → new.keys.claims ≡ old.keys.claims → Grows old.pass.view new.pass.view
      → IsPassOfStore store new × IsKeptPart old new n
  kept_part store old new n of less idle cells pass directory callers room claims grows =
      let books = ap (λ (p : PassState M NamedDone). p.books) pass in let count = length-take-le (length old.pass.books - n) old.pass.books (omega arith) in let size = ap length books in
      let counted = of.paired.callers in let both = same_claims old.keys.claims new.keys.claims claims in (
        record {
          cells = cells;
          keys = directory ∙ of.keys;
          paired = record {
            callers = omega arith;
            room = room ∙ (of.paired.room ∙ sym (ap (λ (p : PassState M NamedDone). p.room) pass));
            claimed = books_more old.keys.claims new.keys.claims both new.pass.books
                (subst (BooksAreClaimed old.keys.claims) (sym books)
                (each_take (λ b. Each (λ e. AreClaimed old.keys.claims e.content.dones) b.entries) (length old.pass.books - n) old.pass.books of.paired.claimed));
          };
        },
        record {
          pass = pass;
          callers = omega arith;
          room = ap (λ (p : PassState M NamedDone). p.room) pass;
          idle = subst (λ (p : PassState M NamedDone). IsIdle p.view) (sym pass) idle;
          claims = claims;
          extends = record { view = grows; claims = both };
        },
      )

  pub new_part : (store : StoreView M) (old new : PassView M) (n : ℕ) → IsPassOfStore store old → n < length old.pass.books → IsPassOf store.table new.pass
      → new.pass ≡ split_new old.pass n new.pass.reserved
      → new.keys.directory ≡ old.keys.directory → new.keys.callers ≡ n → new.keys.room ≡ n → new.keys.claims ≡ old.keys.claims → Grows old.pass.view new.pass.view
      → IsPassOfStore store new × IsNewPart old new n
  new_part store old new n of less cells pass directory callers room claims grows =
      let books = ap (λ (p : PassState M NamedDone). p.books) pass in let count = length-drop (length old.pass.books - n) old.pass.books in let size = ap length books in
      let both = same_claims old.keys.claims new.keys.claims claims in (
        record {
          cells = cells;
          keys = directory ∙ of.keys;
          paired = record {
            callers = omega arith;
            room = room ∙ sym (ap (λ (p : PassState M NamedDone). p.room) pass);
            claimed = books_more old.keys.claims new.keys.claims both new.pass.books
                (subst (BooksAreClaimed old.keys.claims) (sym books)
                (each_drop (λ b. Each (λ e. AreClaimed old.keys.claims e.content.dones) b.entries) (length old.pass.books - n) old.pass.books of.paired.claimed));
          };
        },
        record {
          pass = pass;
          callers = omega arith;
          room = ap (λ (p : PassState M NamedDone). p.room) pass;
          idle = subst (λ (p : PassState M NamedDone). IsIdle p.view) (sym pass) (refl, refl);
          claims = claims;
          extends = record { view = grows; claims = both };
        },
      )

  -- ---- a join

  pub joined_pass : (store : StoreView M) (first second new : PassView M) (place : ℕ) → IsPassOfStore store first → IsPassOfStore store second → IsIdle first.pass.view
      → IsPassOf store.table new.pass → new.pass ≡ joined first.pass second.pass place new.pass.reserved → length new.pass.books ≡ length first.pass.books + length second.pass.books
      → new.keys.directory ≡ first.keys.directory → new.keys.callers ≡ first.keys.callers + second.keys.callers → new.keys.room ≡ first.keys.room → new.keys.claims ≡ first.keys.claims ++ second.keys.claims
      → Grows first.pass.view new.pass.view → Grows second.pass.view new.pass.view → IsPassOfStore store new × IsJoined first second new
  joined_pass store first second new place one two idle cells pass counted directory callers room claims grows more =
      let books = ap (λ (p : PassState M NamedDone). p.books) pass in let a = one.paired.callers in let b = two.paired.callers in
      let left : (c : Claim) → Contains first.keys.claims c → Contains new.keys.claims c = λ c has. subst (λ (z : List Claim). Contains z c) (sym claims) (Contains-append_left first.keys.claims second.keys.claims c has) in
      let right : (c : Claim) → Contains second.keys.claims c → Contains new.keys.claims c = λ c has. subst (λ (z : List Claim). Contains z c) (sym claims) (Contains-append_right first.keys.claims second.keys.claims c has) in (
        record {
          cells = cells;
          keys = directory ∙ one.keys;
          paired = record {
            callers = omega arith;
            room = room ∙ (one.paired.room ∙ sym (ap (λ (p : PassState M NamedDone). p.room) pass));
            claimed = subst (BooksAreClaimed new.keys.claims) (sym books)
                (each_merged (λ b. Each (λ e. AreClaimed new.keys.claims e.content.dones) b.entries) book_key second.pass.books first.pass.books
                (books_more second.keys.claims new.keys.claims right second.pass.books two.paired.claimed) (books_more first.keys.claims new.keys.claims left first.pass.books one.paired.claimed));
          };
        },
        record {
          pass = (place, pass);
          callers = counted;
          room = ap (λ (p : PassState M NamedDone). p.room) pass;
          idle = subst (λ (p : PassState M NamedDone). IsIdle p.view) (sym pass) idle;
          extends = record { view = grows; claims = left };
          other = record { view = more; claims = right };
        },
      )

-- ---- the same of a store and of passes as contracts see them

module _ {M : Type 0} (inner store : StoreView M) (same : inner ≡ store) where
  at_inner : (in_pass p : PassView M) → in_pass ≡ p → IsPassOfStore store p → IsPassOfStore inner in_pass
  at_inner in_pass p is of = subst (λ (z : StoreView M). IsPassOfStore z in_pass) (sym same) (subst (IsPassOfStore store) (sym is) of)

  pub kept_seen : (in_old old new : PassView M) (n : ℕ) → in_old ≡ old → IsPassOfStore store old → n < length old.pass.books → IsIdle old.pass.view → IsPassOf inner.table new.pass → new.pass ≡ split_kept in_old.pass n
      → new.keys.directory ≡ in_old.keys.directory → new.keys.callers ≡ in_old.keys.callers - n → new.keys.room ≡ in_old.keys.room → new.keys.claims ≡ in_old.keys.claims
      → Grows in_old.pass.view new.pass.view → IsPassOfStore store new × IsKeptPart old new n
  kept_seen in_old old new n is of less idle cells pass directory callers room claims grows =
      subst (λ (z : StoreView M). IsPassOfStore z new × IsKeptPart old new n) same (subst (λ (z : PassView M). IsPassOfStore inner new × IsKeptPart z new n) is
      (kept_part inner in_old new n (at_inner in_old old is of) (subst (λ (z : PassView M). n < length z.pass.books) (sym is) less) (subst (λ (z : PassView M). IsIdle z.pass.view) (sym is) idle) cells pass directory callers room claims grows))

  pub new_seen : (in_old old new : PassView M) (n : ℕ) → in_old ≡ old → IsPassOfStore store old → n < length old.pass.books → IsPassOf inner.table new.pass
      → new.pass ≡ split_new in_old.pass n new.pass.reserved → new.keys.directory ≡ in_old.keys.directory → new.keys.callers ≡ n → new.keys.room ≡ n → new.keys.claims ≡ in_old.keys.claims
      → Grows in_old.pass.view new.pass.view → IsPassOfStore store new × IsNewPart old new n
  new_seen in_old old new n is of less cells pass directory callers room claims grows =
      subst (λ (z : StoreView M). IsPassOfStore z new × IsNewPart old new n) same (subst (λ (z : PassView M). IsPassOfStore inner new × IsNewPart z new n) is
      (new_part inner in_old new n (at_inner in_old old is of) (subst (λ (z : PassView M). n < length z.pass.books) (sym is) less) cells pass directory callers room claims grows))

  pub joined_seen : (in_first first in_second second new : PassView M) (place : ℕ) → in_first ≡ first → in_second ≡ second → IsPassOfStore store first → IsPassOfStore store second → IsIdle first.pass.view
      → IsPassOf inner.table new.pass → new.pass ≡ joined in_first.pass in_second.pass place new.pass.reserved → length new.pass.books ≡ length in_first.pass.books + length in_second.pass.books
      → new.keys.directory ≡ in_first.keys.directory → new.keys.callers ≡ in_first.keys.callers + in_second.keys.callers → new.keys.room ≡ in_first.keys.room
      → new.keys.claims ≡ in_first.keys.claims ++ in_second.keys.claims → Grows in_first.pass.view new.pass.view → Grows in_second.pass.view new.pass.view
      → IsPassOfStore store new × IsJoined first second new
  joined_seen in_first first in_second second new place f g one two idle cells pass counted directory callers room claims grows more =
      subst (λ (z : StoreView M). IsPassOfStore z new × IsJoined first second new) same
      (subst (λ (z : PassView M). IsPassOfStore inner new × IsJoined z second new) f (subst (λ (z : PassView M). IsPassOfStore inner new × IsJoined in_first z new) g
      (joined_pass inner in_first in_second new place (at_inner in_first first f one) (at_inner in_second second g two) (subst (λ (z : PassView M). IsIdle z.pass.view) (sym f) idle)
      cells pass counted directory callers room claims grows more)))
