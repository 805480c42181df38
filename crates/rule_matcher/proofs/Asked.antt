-- Rules that ask for another protocol find nothing.
use Rattle.std.proofs.Common.{◌≡◌, ℕ, ◌+◌, Bool, true, false, List, [], ◌∷◌, refl}
use Rattle.std.specs.Prelude.{◌||◌}
use Rattle.std.specs.List.{list_any}
use Rattle.capture_terms.specs.declared.datagram.Header.{Header}
use Rattle.rule_terms.specs.Rule.{Rule}
use Rattle.rule_terms.specs.Match.{is_protocol, is_for, finding_of, findings_from}

-- the rule asks for this protocol or for none
abbrev asks_for : ℕ → Rule → Bool
asks_for protocol rule = is_protocol rule.protocol protocol

pub none_found : (rules : List Rule) (n : ℕ) (header : Header) (payload : List ℕ) → list_any (asks_for header.protocol) rules ≡ false → findings_from n rules header payload ≡ []
unfolding findings_from finding_of is_for
none_found [] n header payload none = refl
none_found (rule ∷ rules) n header payload none = by_case (asks_for header.protocol rule) refl none (none_found rules (n + 1) header payload)
  where
    by_case : (b : Bool) → asks_for header.protocol rule ≡ b → (asks_for header.protocol rule || list_any (asks_for header.protocol) rules) ≡ false
        → (list_any (asks_for header.protocol) rules ≡ false → findings_from (n + 1) rules header payload ≡ []) → findings_from n (rule ∷ rules) header payload ≡ []
    by_case true here none rest = absurd (cc (here, none))
    by_case false away none rest =
        let others : list_any (asks_for header.protocol) rules ≡ false = (rw away at none) in
        rw away (rest others)
