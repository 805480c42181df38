-- The first resolution among options, found one option after the other.
use Rattle.std.proofs.Common.{◌≡◌, ℕ, zero, suc, ◌+◌, ◌≤◌, true, false, List, refl, arith}
use Rattle.std.specs.Prelude.{find, slice_index}
use Rattle.std.proofs.lemmas.Bool.Decides.{nat_tests}
use Rattle.capture_terms.specs.declared.capture.Endianness.{Endianness}
use Rattle.pcapng_blocks.specs.Options.{option_end, is_option, options, is_resolution, value_at}

-- the value of the first resolution among so many options at most from a place on
abbrev pub first_value : Endianness → List ℕ → ℕ → ℕ → ℕ → ℕ
first_value order bytes end more at = value_at bytes (find (is_resolution order bytes) (options more order bytes end at))

room_of : (order : Endianness) (bytes : List ℕ) (end at : ℕ) → is_option order bytes end at ≡ true → at + 4 ≤ end
room_of order bytes end at one = grind (arith, nat_tests)

-- no option stands at a place
pub none_there : (more : ℕ) (order : Endianness) (bytes : List ℕ) (end at : ℕ) → is_option order bytes end at ≡ false → first_value order bytes end more at ≡ 6
unfolding options
none_there zero order bytes end at none = refl
none_there (suc more) order bytes end at none = rw none

-- a resolution stands there
pub found_there : (more : ℕ) (order : Endianness) (bytes : List ℕ) (end at : ℕ) → end ≤ at + more → is_option order bytes end at ≡ true → is_resolution order bytes at ≡ true → first_value order bytes end more at ≡ slice_index bytes (at + 4)
unfolding options
found_there zero order bytes end at enough one found = let room = room_of order bytes end at one in absurd (omega arith)
found_there (suc more) order bytes end at enough one found = rw (one, found)

-- another option stands there
pub passed_there : (more : ℕ) (order : Endianness) (bytes : List ℕ) (end at : ℕ) → end ≤ at + more → is_option order bytes end at ≡ true → is_resolution order bytes at ≡ false → (rest : ℕ) × (end ≤ option_end order bytes at + rest) × (first_value order bytes end more at ≡ first_value order bytes end rest (option_end order bytes at))
unfolding options
passed_there zero order bytes end at enough one other = let room = room_of order bytes end at one in absurd (omega arith)
passed_there (suc more) order bytes end at enough one other = let room = room_of order bytes end at one in (more, omega arith, rw (one, other))
