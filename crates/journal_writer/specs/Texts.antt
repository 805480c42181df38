-- The texts of words and lines with what parts them.
use Rattle.std.specs.Prelude.{ℕ, List, [], ◌∷◌, ◌++◌}
use Rattle.std.specs.Fmt.{decimal}
use Rattle.std.specs.List.{flat_map}
use Rattle.serial_terms.specs.declared.call.Reply.{Reply}
use Rattle.journal_terms.specs.Text.{line_feed, reply_word, semicolon, space}

-- a word behind a space
abbrev pub spaced : List ℕ → List ℕ
spaced word = space ∷ word

-- numbers behind spaces, and then a reply
abbrev pub answered : List ℕ → Reply → List ℕ
answered numbers reply = flat_map (λ n. spaced (decimal n)) numbers ++ spaced (reply_word reply)

-- a call behind another one
abbrev pub separated : List ℕ → List ℕ
separated call = semicolon ∷ space ∷ call

-- a line with its line feed
abbrev pub ended : List ℕ → List ℕ
ended line = line ++ line_feed ∷ []
