-- A line as words with blanks between them.
use Rattle.std.specs.Prelude.{◌≡◌, ℕ, Bool, true, ◌||◌, ◌&&◌, not, ◌==◌, nat_le, List, [], ◌∷◌, ◌++◌, length}
use Rattle.std.specs.List.{list_all}

-- a space or a tab
abbrev pub is_blank : ℕ → Bool
is_blank b = b == 32 || b == 9

-- the bytes are blanks alone, if there are any
abbrev pub are_blanks : List ℕ → Bool
are_blanks bytes = list_all is_blank bytes

-- nothing stands here, or a blank
abbrev pub is_word_end : List ℕ → Bool
is_word_end [] = true
is_word_end (b ∷ bytes) = is_blank b

-- the line is blanks, if there are any, then the word, and then the rest, before which the word is at its end
pub record BeginsWithWord (line word rest : List ℕ) : Type 0 where
  pub gap : List ℕ
  pub blanks : are_blanks gap ≡ true
  pub split : line ≡ gap ++ (word ++ rest)
  pub ends : is_word_end rest ≡ true

-- the line is these words in order, with blanks between them, and maybe blanks before the first and behind the last
abbrev pub AreWords : List ℕ → List (List ℕ) → Type 0
AreWords line [] = are_blanks line ≡ true
AreWords line (word ∷ words) = (rest : List ℕ) × BeginsWithWord line word rest × AreWords rest words
