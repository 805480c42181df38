use Rattle.std.proofs.Common.{◌∙◌, ℕ, List, [], ◌∷◌, ◌++◌, refl, ap, sym}
use Rattle.history_audit.proofs.Stated.{log_put, items_of_log}
use Rattle.history_audit.proofs.structures.Structures.push_entry.Goals as goal

pub returns : goal.returns
returns c = log_put c.args.self.now _ _ refl (c.in_ok-push.ensures.items ∙ ap (λ (xs : List ℕ). xs ++ c.args.value ∷ []) (sym (items_of_log c.args.self.now)))
