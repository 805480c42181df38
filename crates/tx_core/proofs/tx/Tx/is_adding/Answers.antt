use Rattle.std.proofs.Common.{◌≡◌, true, false, ap, sym, ◌∙◌}
use Rattle.tx_core.specs.Tx.{Attempt}
use Rattle.tx_core.proofs.tx.Tx.is_adding.Goals as goal

pub returns : goal.returns
returns g c = (λ e. never e, λ none. sym (c.is_empty.ensures.1 (rw (ap (λ (a : Attempt _ _). a.additions) c.self.view_is) none)) ∙ c.if-is_empty.false)
  where
    never : {P : Type 0} → true ≡ false → P
    never e = cc
