-- How the bytes of a pattern are written between quotation marks.
use Rattle.std.specs.Prelude.{◌≡◌, ◌⊎◌, ℕ, ◌+◌, ◌*◌, ◌<◌, ◌≤◌, Bool, true, ◌&&◌, not, ◌==◌, nat_le, List, [], ◌∷◌, ◌++◌, length}
use Rattle.std.specs.List.{list_all}

-- a byte that may stand for itself: printable ASCII, but no quotation mark and no bar
abbrev pub is_plain : ℕ → Bool
is_plain c = nat_le 32 c && nat_le c 126 && not (c == 34) && not (c == 124)

abbrev pub is_space : ℕ → Bool
is_space c = c == 32

-- the hexadecimal digit, in either case, of a value below 16
abbrev pub IsHexDigit : ℕ → ℕ → Type 0
IsHexDigit digit value = ((value < 10) × (digit ≡ 48 + value)) ⊎ (10 ≤ value) × (value < 16) × ((digit ≡ 87 + value) ⊎ (digit ≡ 55 + value))

-- spaces, and then the two digits of a byte, the higher first
pub record BeginsWithPair (text : List ℕ) (byte : ℕ) (rest : List ℕ) : Type 0 where
  pub gap : List ℕ
  pub spaces : list_all is_space gap ≡ true
  pub high : ℕ
  pub low : ℕ
  pub high_value : ℕ
  pub low_value : ℕ
  pub high_is : IsHexDigit high high_value
  pub low_is : IsHexDigit low low_value
  pub value : byte ≡ 16 * high_value + low_value
  pub split : text ≡ gap ++ (high ∷ low ∷ rest)

-- the text is the pairs of digits of these bytes, with any number of spaces before, between and behind them
abbrev pub ArePairs : List ℕ → List ℕ → Type 0
ArePairs text [] = list_all is_space text ≡ true
ArePairs text (byte ∷ bytes) = (rest : List ℕ) × BeginsWithPair text byte rest × ArePairs rest bytes

-- a piece of a pattern's text: a byte that stands for itself, or bytes that are written as pairs between bars
pub data Piece : Type 0 where
  itself : ℕ → Piece
  pairs : List ℕ → Piece

-- the text begins with this piece
abbrev pub BeginsWithPiece : List ℕ → Piece → List ℕ → Type 0
BeginsWithPiece text (itself b) rest = (is_plain b ≡ true) × (text ≡ b ∷ rest)
BeginsWithPiece text (pairs bytes) rest = (1 ≤ length bytes) × ((inside : List ℕ) × ArePairs inside bytes × (text ≡ 124 ∷ (inside ++ 124 ∷ rest)))

-- the text is these pieces, one behind the other
abbrev pub ArePieces : List ℕ → List Piece → Type 0
ArePieces text [] = text ≡ []
ArePieces text (piece ∷ pieces) = (rest : List ℕ) × BeginsWithPiece text piece rest × ArePieces rest pieces

abbrev pub bytes_of : List Piece → List ℕ
bytes_of [] = []
bytes_of (itself b ∷ pieces) = b ∷ bytes_of pieces
bytes_of (pairs bytes ∷ pieces) = bytes ++ bytes_of pieces

-- the text gives these 1 to 64 bytes
pub record IsPatternText (text bytes : List ℕ) : Type 0 where
  pub pieces : List Piece
  pub are : ArePieces text pieces
  pub gives : bytes_of pieces ≡ bytes
  pub some : 1 ≤ length bytes
  pub few : length bytes ≤ 64
