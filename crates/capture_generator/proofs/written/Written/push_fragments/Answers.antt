use Rattle.std.proofs.Common.{[], ◌∷◌}
use Rattle.capture_generator.proofs.Gained.{gains_then}
use Rattle.capture_generator.proofs.written.Written.push_fragments.Goals as goal

pub returns : goal.returns
returns c =
    gains_then _ _ _ (_ ∷ _ ∷ []) (_ ∷ []) (gains_then _ _ _ (_ ∷ []) (_ ∷ []) c.in_ok-push_ipv4.ensures c.in_ok-push_ipv4-2.ensures) c.in_ok-push_ipv4-3.ensures
