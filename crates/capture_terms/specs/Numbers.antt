-- Numbers of two and four bytes in a file.
use Rattle.std.specs.Prelude.{ℕ, ◌+◌, ◌*◌, List, slice_index}
use Rattle.capture_terms.specs.declared.capture.Endianness.{Endianness}
use Rattle.capture_terms.specs.declared.capture.Endianness.TheVariants.{Little, Big}

-- the number in the two bytes at a place
unfoldable pub number16 : Endianness → List ℕ → ℕ → ℕ
number16 Little bytes at = slice_index bytes at + 256 * slice_index bytes (at + 1)
number16 Big bytes at = 256 * slice_index bytes at + slice_index bytes (at + 1)

-- the number in the four bytes at a place
unfoldable pub number32 : Endianness → List ℕ → ℕ → ℕ
number32 Little bytes at =
    slice_index bytes at + 256 * slice_index bytes (at + 1) + 65536 * slice_index bytes (at + 2)
    + 16777216 * slice_index bytes (at + 3)
number32 Big bytes at =
    16777216 * slice_index bytes at + 65536 * slice_index bytes (at + 1) + 256 * slice_index bytes (at + 2)
    + slice_index bytes (at + 3)
