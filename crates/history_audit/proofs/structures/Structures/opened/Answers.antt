use Rattle.std.proofs.Common.{ℕ, List, refl, ap, ◌∙◌}
use Rattle.std.specs.Map.{lookup}
use Rattle.serial_terms.specs.Counts.{times, numbers_from}
use Rattle.history_audit.specs.Structures.{is_same_key}
use Rattle.history_audit.proofs.Openings.{opening_is}
use Rattle.history_audit.proofs.structures.Structures.opened.Goals as goal

pub returns : goal.returns
returns c = opening_is _ c.args.sizes.tasks c.args.sizes.groups c.args.sizes.findings
    (λ q. ap (λ (es : List ((ℕ × ℕ) × ℕ)). lookup (is_same_key q) es) c.new.ensures.empty)
    c.new-2.ensures.items
    c.room_for.ensures
    (λ x. c.in_ok-first_items.ensures x ∙ ap (λ (n : ℕ). times x (numbers_from 0 n)) c.first_batch-given.ensures)
    c.first_batch-given.ensures
    c.new-3.ensures.items
    refl
    refl
