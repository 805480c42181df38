use Rattle.std.proofs.Common.{◌≡◌, ◌∙◌, ℕ, ◌-◌, List, length, take, refl, ap, sym, rules, vec_len}
use Rattle.history_audit.proofs.Stated.{log_put, items_of_log}
use Rattle.history_audit.proofs.structures.Structures.drop_entry.Goals as goal

pub returns : goal.returns
returns c =
    let e : vec_len c.args.self.now.log ≡ length c.args.self.now.log.items = search rules in
    log_put c.args.self.now _ _ refl (c.pop.ensures.rest ∙ (ap (λ (n : ℕ). take (n - 1) c.args.self.now.log.items) e ∙ ap (λ (xs : List ℕ). take (length xs - 1) xs) (sym (items_of_log c.args.self.now))))
