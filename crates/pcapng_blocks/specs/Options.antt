-- The options of a block (section 3.5 of the draft): each is a code, the length of its value, and the
-- value, padded to a multiple of four bytes. Of them one is read: the resolution of an interface's times.
use Rattle.std.specs.Prelude.{ℕ, zero, suc, ◌+◌, ◌-◌, ◌*◌, ◌/◌, Bool, not, ◌&&◌, ◌==◌, nat_le, List, [], ◌∷◌, slice_index, Option, Some, None, find, if◌then◌else◌}
use Rattle.capture_terms.specs.Numbers.{number16}
use Rattle.capture_terms.specs.declared.capture.Endianness.{Endianness}

abbrev pub code_at : Endianness → List ℕ → ℕ → ℕ
code_at order bytes at = number16 order bytes at

abbrev pub value_length : Endianness → List ℕ → ℕ → ℕ
value_length order bytes at = number16 order bytes (at + 2)

-- where the option at a place ends
abbrev pub option_end : Endianness → List ℕ → ℕ → ℕ
option_end order bytes at = at + 4 + (value_length order bytes at + 3) / 4 * 4

-- an option stands at a place, and no byte of it behind the end of the options' room. Code 0 is none.
abbrev pub is_option : Endianness → List ℕ → ℕ → ℕ → Bool
is_option order bytes end at = nat_le (option_end order bytes at) end && not (code_at order bytes at == 0)

-- the places of the options, each where the one before it ends; at most so many
unfoldable pub options : ℕ → Endianness → List ℕ → ℕ → ℕ → List ℕ
options zero order bytes end at = []
options (suc more) order bytes end at =
    if is_option order bytes end at then at ∷ options more order bytes end (option_end order bytes at) else []

-- the option is a resolution (if_tsresol): code 9, with a value of one byte
abbrev pub is_resolution : Endianness → List ℕ → ℕ → Bool
is_resolution order bytes at = (code_at order bytes at == 9) && (value_length order bytes at == 1)

-- the value of an option at a place; microseconds where there is none
abbrev pub value_at : List ℕ → Option ℕ → ℕ
value_at bytes None = 6
value_at bytes (Some at) = slice_index bytes (at + 4)

-- the first resolution among the options that stand from one place up to another. No option has fewer
-- than four bytes, so there are no more of them than bytes.
unfoldable pub resolution_in : Endianness → List ℕ → ℕ → ℕ → ℕ
resolution_in order bytes end from =
    value_at bytes (find (is_resolution order bytes) (options (end - from) order bytes end from))
