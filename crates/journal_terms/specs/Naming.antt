-- Which line of a text is named as its first bad one, from the lines before it; and a further sight from what the sights before it come to.
use Rattle.std.specs.Prelude.{◌≡◌, ◌↔◌, ◌⊎◌, ℕ, ◌+◌, ◌<◌, ◌≤◌, ◌==◌, max, List, [], ◌∷◌, ◌++◌, length, if◌then◌else◌, codes}
use Rattle.serial_terms.specs.declared.call.Done.{Done}
use Rattle.serial_terms.specs.Entries.{by_caller, up_to}
use Rattle.serial_terms.specs.Sights.{Seen, IsConsistent}
use Rattle.journal_terms.specs.Growing.{SuitsAsSight}
use Rattle.journal_terms.specs.Laws.{IsWritableSight}
use Rattle.journal_terms.specs.Legal.{IsSightIn, IsLegalJournal, BeginsLegal, IsFirstBadLine, layout_of, lines_of, start_of}
use Rattle.journal_terms.specs.Text.{Journal, begun_lines, journal_lines, journal_text, sights_in}

pub record LinesAreNamed : Type 0 where
  -- an ended line is the first bad one where the lines before it begin a legal journal, and with it they begin none
  pub wrong : (text : List ℕ) (before : List (List ℕ)) (line next : List ℕ) (behind : List (List ℕ))
      → lines_of text ≡ before ++ line ∷ next ∷ behind → BeginsLegal before → (BeginsLegal (before ++ line ∷ []) → ⊥)
      → IsFirstBadLine text (length before + 1)
  -- a line that isn't ended is the first bad one where the lines before it begin a legal journal, and are none
  pub short : (text : List ℕ) (before : List (List ℕ)) (last : List ℕ)
      → lines_of text ≡ before ++ last ∷ [] → BeginsLegal before → ((j : Journal) → IsLegalJournal j → journal_lines j ≡ before → ⊥)
      → IsFirstBadLine text (length before + 1)
  -- and where they are one, but it isn't empty
  pub behind : (text : List ℕ) (j : Journal) (last : List ℕ)
      → lines_of text ≡ journal_lines j ++ last ∷ [] → IsLegalJournal j → (last ≡ [] → ⊥) → IsFirstBadLine text (length (journal_lines j) + 1)
  -- a text with the lines of a journal, each of them ended, is its text
  pub whole : (text : List ℕ) (j : Journal) → lines_of text ≡ journal_lines j ++ [] ∷ [] → journal_text j ≡ text
  -- a journal has one line more than it began with, and without that it is none
  pub last : (j : Journal) → journal_lines j ≡ begun_lines j ++ codes "end" ∷ []
  pub unended : (j k : Journal) → IsLegalJournal j → IsLegalJournal k → journal_lines k ≡ begun_lines j → ⊥

-- ---- sights

-- place and caller of the last sight, and 0 where there is none
abbrev pub latest : List (Seen Done) → ℕ × ℕ
latest [] = (0, 0)
latest (v ∷ []) = (v.place, v.caller)
latest (v ∷ w ∷ ws) = latest (w ∷ ws)

-- no sight at this place of this caller stands behind v
abbrev pub IsNotBelow : ℕ × ℕ → Seen Done → Type 0
IsNotBelow p v = (p.0 < v.place) ⊎ ((p.0 ≡ v.place) × (p.1 ≤ v.caller))

-- the most records that the caller had before a sight of its own
abbrev pub most_after : ℕ → List (Seen Done) → ℕ
most_after k [] = 0
most_after k (v ∷ vs) = if v.caller == k then max v.after (most_after k vs) else most_after k vs

-- the sight may stand behind the sights of a journal: its caller had no more records than it has up to the sight's place
pub record FollowsAsSight (j : Journal) (v : Seen Done) : Type 0 where
  pub writable : IsWritableSight v
  pub within : IsSightIn (layout_of j) v
  pub order : IsNotBelow (latest (sights_in j.sights)) v
  pub rising : most_after v.caller (sights_in j.sights) ≤ v.after
  pub consistent : IsConsistent 1 (start_of j) j.records v
  pub after : v.after ≤ length (by_caller v.caller (up_to v.place j.records))

abbrev pub SightsFollow : Type 0
SightsFollow = (j : Journal) → IsLegalJournal j → (v : Seen Done) → SuitsAsSight j v ↔ FollowsAsSight j v
