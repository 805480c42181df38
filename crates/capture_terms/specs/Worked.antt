-- Worked cases of cooked headers and of generations.
use Rattle.std.specs.Prelude.{◌≡◌, ℕ, false, List, [], ◌∷◌, ◌++◌, Some, None}
use Rattle.capture_terms.specs.Classes.{datagram_start}
use Rattle.capture_terms.specs.Generations.{Timed, generation_at, in_generations}
use Rattle.capture_terms.specs.Kept.{classes_of}
use Rattle.capture_terms.specs.declared.capture.Link.TheVariants.{CookedV1, CookedV2}
use Rattle.capture_terms.specs.declared.datagram.Class.{Class}
use Rattle.capture_terms.specs.declared.datagram.Class.TheVariants as class
use Rattle.capture_terms.specs.declared.datagram.Kind.{Kind}
use Rattle.capture_terms.specs.declared.datagram.Kind.TheVariants.{Fragment}

-- a cooked header of the first version but its type, and the same of the second version behind its type
abbrev pub cooked_v1 : List ℕ
cooked_v1 = 0 ∷ 0 ∷ 0 ∷ 1 ∷ 0 ∷ 6 ∷ 2 ∷ 0 ∷ 0 ∷ 0 ∷ 0 ∷ 1 ∷ 0 ∷ 0 ∷ []

abbrev pub cooked_v2 : List ℕ
cooked_v2 = 0 ∷ 0 ∷ 0 ∷ 0 ∷ 0 ∷ 1 ∷ 0 ∷ 1 ∷ 0 ∷ 6 ∷ 2 ∷ 0 ∷ 0 ∷ 0 ∷ 0 ∷ 1 ∷ 0 ∷ 0 ∷ []

-- where datagrams begin behind cooked headers
pub record CookedStarts : Type 0 where
  pub first : (datagram : List ℕ) → datagram_start CookedV1 (cooked_v1 ++ 8 ∷ 0 ∷ datagram) ≡ Some 16
  pub second : (datagram : List ℕ) → datagram_start CookedV2 (8 ∷ 0 ∷ cooked_v2 ++ datagram) ≡ Some 20
  -- another type, a tag's, and headers that are a byte short
  pub other : (datagram : List ℕ) → datagram_start CookedV1 (cooked_v1 ++ 8 ∷ 6 ∷ datagram) ≡ None
  pub tag : (datagram : List ℕ) → datagram_start CookedV1 (cooked_v1 ++ 0x81 ∷ 0 ∷ 0 ∷ 1 ∷ 8 ∷ 0 ∷ datagram) ≡ None
  pub first_short : datagram_start CookedV1 (cooked_v1 ++ 8 ∷ []) ≡ None
  pub second_short : datagram_start CookedV2 (8 ∷ 0 ∷ 0 ∷ 0 ∷ 0 ∷ 0 ∷ 0 ∷ 1 ∷ 0 ∷ 1 ∷ 0 ∷ 6 ∷ 2 ∷ 0 ∷ 0 ∷ 0 ∷ 0 ∷ 1 ∷ 0 ∷ []) ≡ None

-- the generations of the last of fragments of one key at these times, parted by a window of 30
pub record Generations : Type 0 where
  pub first : generation_at 30 (5 ∷ []) ≡ 0
  -- as late as the window allows, and later
  pub within : generation_at 30 (0 ∷ 30 ∷ []) ≡ 0
  pub later : generation_at 30 (0 ∷ 31 ∷ []) ≡ 1
  -- the last beginning counts, neither the first one nor the fragment before
  pub behind_last : generation_at 30 (0 ∷ 31 ∷ 61 ∷ []) ≡ 1
  pub behind_other : generation_at 30 (0 ∷ 30 ∷ 31 ∷ []) ≡ 1
  pub third : generation_at 30 (0 ∷ 31 ∷ 62 ∷ []) ≡ 2
  -- a time that goes back begins nothing, and what is later than it is compared with the beginning still
  pub back : generation_at 30 (40 ∷ 0 ∷ []) ≡ 0
  pub behind_back : generation_at 30 (40 ∷ 0 ∷ 41 ∷ []) ≡ 0

-- a fragment of identification 1, from a place on, of 8 bytes
abbrev pub fragment : ℕ → ℕ → Kind
fragment id start = Fragment record {
  header = record { source = 1; destination = 2; protocol = 1 };
  id = id;
  generation = 0;
  start = start;
  length = 8;
  last = false;
  from = 0;
}

abbrev pub at : ℕ → Kind → Timed
at time kind = record { time = time; kind = kind }

-- the classes of these frames, with a window of 30
abbrev pub classes_at : List Timed → List Class
classes_at frames = classes_of (in_generations 30 frames)

-- fragments clash within a generation alone
pub record ClashesWithin : Type 0 where
  pub one : classes_at (at 0 (fragment 1 0) ∷ at 30 (fragment 1 0) ∷ []) ≡ class.Kept ∷ class.Aside ∷ []
  pub two : classes_at (at 0 (fragment 1 0) ∷ at 31 (fragment 1 0) ∷ at 31 (fragment 1 0) ∷ []) ≡ class.Kept ∷ class.Kept ∷ class.Aside ∷ []
  -- a fragment that is set aside begins no generation, and those of another key don't count
  pub aside : classes_at (at 0 (fragment 1 0) ∷ at 30 (fragment 1 0) ∷ at 60 (fragment 1 0) ∷ []) ≡ class.Kept ∷ class.Aside ∷ class.Kept ∷ []
  pub other_key : classes_at (at 0 (fragment 1 0) ∷ at 31 (fragment 2 0) ∷ at 30 (fragment 1 0) ∷ []) ≡ class.Kept ∷ class.Kept ∷ class.Aside ∷ []
