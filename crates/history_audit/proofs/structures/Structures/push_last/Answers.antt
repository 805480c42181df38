use Rattle.std.proofs.Common.{◌∙◌, ℕ, List, [], ◌∷◌, ◌++◌, refl, ap, sym}
use Rattle.history_audit.proofs.Stated.{queue_put, items_of_queue}
use Rattle.history_audit.proofs.structures.Structures.push_last.Goals as goal

pub returns : goal.returns
returns c = queue_put c.args.self.now _ _ refl (c.in_ok-push_back.ensures.items ∙ ap (λ (xs : List ℕ). xs ++ c.args.value ∷ []) (sym (items_of_queue c.args.self.now)))
