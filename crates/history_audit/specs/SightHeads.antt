-- What the head of a sight stands for.
use Rattle.journal_terms.specs.Strict as read
use Rattle.history_audit.specs.declared.sights.SightHead.{SightHead}

abbrev pub sight_head_of : SightHead → read.SightHead
sight_head_of h = record { place = h.place; end = h.end; caller = h.caller; after = h.after }
