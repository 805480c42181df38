-- Lists that an attempt may begin with.
use Rattle.std.specs.Prelude.{◌≡◌, ℕ, true, []}
use Rattle.attempt_lists.specs.Parts.{waiting_of, marked_of}
use Rattle.attempt_lists.specs.declared.kept_lists.KeptLists.{KeptLists}

-- nothing is in the lists and no place is promised; how much room they have isn't said
pub record IsEmptied (lists : KeptLists) : Type 0 where
  pub observations : lists.reads.observations ≡ []
  pub versions : lists.reads.versions ≡ []
  pub parent : lists.writes.parent ≡ []
  pub child : lists.writes.child ≡ []
  pub sorted : lists.writes.sorted ≡ true
  pub held : lists.held.entries ≡ []
  pub reserved : (lists.reads.reserved ≡ 0) × (lists.writes.reserved ≡ 0) × (lists.held.reserved ≡ 0)
  pub waiting : (part : ℕ) → waiting_of lists.additions part ≡ []
  pub marked : (part : ℕ) → marked_of lists.additions part ≡ []
