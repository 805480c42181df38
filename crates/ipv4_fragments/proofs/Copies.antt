-- One task more is copied, and what was copied stands.
use Rattle.std.proofs.Common.{◌≡◌, ℕ, ◌+◌, ◌<◌, ◌≤◌, Bool, true, false, List, Option, None, Some, refl, sym, ◌∙◌, subst, arith, length, get_or, take, length-take}
use Rattle.std.specs.Prelude.{All, IsSomeAnd, Contains, slice_get, max}
use Rattle.std.proofs.lemmas.List.{get_or_default, get_or-take}
use Rattle.std.proofs.lemmas.List.Elements.{All-more}
use Rattle.capture_terms.specs.Datagram.{holds, end_of_task}
use Rattle.capture_terms.specs.declared.plan.Task.{Task}
use Rattle.ipv4_fragments.specs.Payload.{byte_of, Stands, Agree, end_at}

pub some_and : {X : Type 0} (P : X → Type 0) (o : Option X) → IsSomeAnd o P → (x : X) × (o ≡ Some x) × P x
some_and P None none = absurd none
some_and P (Some x) here = (x, refl, here)

pub contains_at : (numbers : List ℕ) (i d : ℕ) → i < length numbers → Contains numbers (get_or numbers i d)
contains_at numbers i d within = (i, within, get_or_default numbers i (get_or numbers i d) d within)

pub contains_taken : (numbers : List ℕ) (i k d : ℕ) → i < length numbers → k < length (take i numbers) → Contains numbers (get_or (take i numbers) k d)
contains_taken numbers i k d within lt =
    let before : k < i = omega (arith, lt, length-take i numbers) in
    subst (Contains numbers) (sym (get_or-take i numbers k d before)) (contains_at numbers k d (omega arith))

module _ (tasks : List Task) (numbers : List ℕ) (i : ℕ) (within : i < length numbers) (task : Task) (there : slice_get tasks (get_or numbers i 0) ≡ Some task) where
  pub stands_more : (bytes old new : List ℕ) → Agree bytes tasks numbers
      → All (λ number. IsSomeAnd (slice_get tasks number) (Stands bytes old)) (take i numbers)
      → Stands bytes new task
      → ((place : ℕ) → holds place task ≡ false → get_or new place 0 ≡ get_or old place 0)
      → All (λ number. IsSomeAnd (slice_get tasks number) (Stands bytes new)) (take (i + 1) numbers)
  stands_more bytes old new agree before here others =
      All-more (λ number. IsSomeAnd (slice_get tasks number) (Stands bytes new)) numbers i 0 within
      (λ k d lt. still (get_or (take i numbers) k d) (contains_taken numbers i k d within lt) (before k d lt))
      (rw there here)
    where
      still : (number : ℕ) → Contains numbers number → IsSomeAnd (slice_get tasks number) (Stands bytes old) → IsSomeAnd (slice_get tasks number) (Stands bytes new)
      still number among stood =
          let found = some_and (Stands bytes old) (slice_get tasks number) stood in
          rw found.1 (λ place held. keeps found.0 found.1 found.2 place held (holds place task) refl)
        where
          keeps : (s : Task) → slice_get tasks number ≡ Some s → Stands bytes old s → (place : ℕ) → holds place s ≡ true → (b : Bool) → holds place task ≡ b → get_or new place 0 ≡ byte_of bytes s place
          keeps s at stands place held false away = others place away ∙ stands place held
          keeps s at stands place held true meets = here place meets ∙ agree place (get_or numbers i 0) number task s (contains_at numbers i 0 within) among there at meets held

  pub ends_more : (greatest now : ℕ) → now ≡ max greatest (end_of_task task) → All (λ number. end_at tasks number ≤ greatest) (take i numbers) → All (λ number. end_at tasks number ≤ now) (take (i + 1) numbers)
  ends_more greatest now is before =
      All-more (λ number. end_at tasks number ≤ now) numbers i 0 within
      (λ k d lt. omega (arith, before k d lt))
      (rw there (omega arith))

  pub ends_least : (greatest now : ℕ) → now ≡ max greatest (end_of_task task) → ((end : ℕ) → All (λ number. end_at tasks number ≤ end) numbers → greatest ≤ end) → (end : ℕ) → All (λ number. end_at tasks number ≤ end) numbers → now ≤ end
  ends_least greatest now is least end all =
      let here : end_of_task task ≤ end = rw there at (all i 0 within) in
      omega (arith, least end all)
