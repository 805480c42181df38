-- What the reader's own types stand for.
use Rattle.std.specs.Prelude.{ℕ, Bool, true, false, List, [], ◌∷◌}
use Rattle.journal_terms.specs.Strict as read
use Rattle.history_audit.specs.declared.lines.RecordHead.{RecordHead}
use Rattle.history_audit.specs.declared.lines.Sizes.{Sizes}

abbrev pub sizes_of : Sizes → ℕ × ℕ × ℕ
sizes_of s = (s.tasks, s.groups, s.findings)

abbrev pub record_head_of : RecordHead → read.RecordHead
record_head_of h = record { place = h.place; writer = h.writer; caller = h.caller; index = h.index }

abbrev pub are_two : List (List ℕ) → Bool
are_two (head ∷ calls ∷ []) = true
are_two _ = false
