use Rattle.std.proofs.Common.{◌≡◌, ◌∙◌, ℕ, ◌-◌, List, length, take, refl, ap, sym, rules, deque_len}
use Rattle.history_audit.proofs.Stated.{queue_put, items_of_queue}
use Rattle.history_audit.proofs.structures.Structures.drop_last.Goals as goal

pub returns : goal.returns
returns c =
    let e : deque_len c.args.self.now.queue ≡ length c.args.self.now.queue.items = search rules in
    queue_put c.args.self.now _ _ refl (c.pop_back.ensures.rest ∙ (ap (λ (n : ℕ). take (n - 1) c.args.self.now.queue.items) e ∙ ap (λ (xs : List ℕ). take (length xs - 1) xs) (sym (items_of_queue c.args.self.now))))
