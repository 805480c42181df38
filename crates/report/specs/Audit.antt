-- What is told of a legal journal. It is this project's own.
use Rattle.std.specs.Prelude.{ℕ, List, [], ◌∷◌, ◌++◌, codes}
use Rattle.std.specs.Fmt.{decimal}

-- its line, with the numbers of its records and sights and the line feed
abbrev pub audit_text : ℕ → ℕ → List ℕ
audit_text records sights = codes "yes " ++ decimal records ++ codes " " ++ decimal sights ++ 10 ∷ []
