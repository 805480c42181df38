-- Facts of claims, for the proofs of this crate and of those above.
use Rattle.std.proofs.Common.{ℕ, zero, suc, List, [], ◌∷◌, take}
use Rattle.std.specs.Prelude.{Contains}
use Rattle.cell_table.specs.Sorted.{Each}
use Rattle.cell_table.specs.declared.view.NotedBook.{NotedBook}
use Rattle.key_directory.specs.Directory.{Claimed, claim_of}
use Rattle.key_directory.specs.declared.view.Claim.{Claim}
use Rattle.serial_terms.specs.declared.call.Call.{Call}
use Rattle.serial_terms.specs.declared.call.Call.TheVariants.{MapGet, MapPut, MapRemove, MapPutIfAbsent, Enqueue, Dequeue, QueueLen, Take, Give, Append, AppendPlaced, LogRead, LogLen, CellGet, CellPut}
use Rattle.serial_terms.specs.Renaming.{NamedDone, OfKey}
use Rattle.store_meaning.specs.Claims.{AreClaimed, BooksAreClaimed}

pub of_key : (P Q : ℕ → ℕ → Type 0) → ((m k : ℕ) → P m k → Q m k) → (c : Call) → OfKey P c → OfKey Q c
of_key P Q f (MapGet m k) p = f m k p
of_key P Q f (MapPut m k v) p = f m k p
of_key P Q f (MapRemove m k) p = f m k p
of_key P Q f (MapPutIfAbsent m k v) p = f m k p
of_key P Q f (Enqueue q v) p = tt
of_key P Q f (Dequeue q) p = tt
of_key P Q f (QueueLen q) p = tt
of_key P Q f (Take q) p = tt
of_key P Q f (Give q v) p = tt
of_key P Q f (Append l v) p = tt
of_key P Q f (AppendPlaced l v) p = tt
of_key P Q f (LogRead l i) p = tt
of_key P Q f (LogLen l) p = tt
of_key P Q f (CellGet c) p = tt
of_key P Q f (CellPut c v) p = tt

pub each_wider : {A : Type 0} (P Q : A → Type 0) → ((x : A) → P x → Q x) → (xs : List A) → Each P xs → Each Q xs
each_wider P Q f [] a = tt
each_wider P Q f (x ∷ xs) a = (f x a.0, each_wider P Q f xs a.1)

-- what is claimed stays so with more claims
module _ (old new : List Claim) (more : (c : Claim) → Contains old c → Contains new c) where
  pub claimed_more : (ds : List NamedDone) → AreClaimed old ds → AreClaimed new ds
  claimed_more [] a = tt
  claimed_more (d ∷ ds) a = (
    of_key (λ m k. Claimed old m k d.name) (λ m k. Claimed new m k d.name) (λ m k c. more (claim_of m k d.name) c) d.done.call a.0,
    claimed_more ds a.1,
  )

  pub books_more : (bs : List (NotedBook NamedDone)) → BooksAreClaimed old bs → BooksAreClaimed new bs
  books_more bs a = each_wider (λ b. Each (λ e. AreClaimed old e.content.dones) b.entries) (λ b. Each (λ e. AreClaimed new e.content.dones) b.entries)
      (λ b. each_wider (λ e. AreClaimed old e.content.dones) (λ e. AreClaimed new e.content.dones) (λ e. claimed_more e.content.dones) b.entries) bs a

-- a beginning of the calls
pub claimed_take : (claims : List Claim) (n : ℕ) (ds : List NamedDone) → AreClaimed claims ds → AreClaimed claims (take n ds)
claimed_take claims zero ds a = tt
claimed_take claims (suc n) [] a = tt
claimed_take claims (suc n) (d ∷ ds) a = (a.0, claimed_take claims n ds a.1)
