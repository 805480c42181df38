-- The findings of the rules that were looked at, and of those that are left.
use Rattle.std.proofs.Common.{◌≡◌, ℕ, suc, ◌+◌, ◌<◌, ◌≤◌, List, [], ◌∷◌, ◌++◌, length, get_or, drop, Option, sym, ◌∙◌, ap, append_assoc, add-one}
use Rattle.std.proofs.Math.Seq.{drop-cons}
use Rattle.std.proofs.lemmas.List.{append-nil, drop_all}
use Rattle.capture_terms.specs.declared.datagram.Header.{Header}
use Rattle.rule_terms.specs.Rule.{Rule}
use Rattle.rule_terms.specs.Match.{finding_of, numbered, findings_from}

module _ (rules : List Rule) (header : Header) (payload : List ℕ) (old whole : List (ℕ × ℕ)) (n : ℕ) (before : old ++ findings_from n (drop n rules) header payload ≡ whole) where
  pub findings_more : (rule : Rule) (place : Option ℕ) (new : List (ℕ × ℕ)) → n < length rules → rule ≡ get_or rules n rule → place ≡ finding_of rule header payload → new ≡ old ++ numbered n place → new ++ findings_from (n + 1) (drop (n + 1) rules) header payload ≡ whole
  unfolding findings_from
  findings_more rule place new within is found added =
      let split : drop n rules ≡ rule ∷ drop (n + 1) rules = rw add-one (drop-cons rules n rule within ∙ ap (λ (r : Rule). r ∷ drop (suc n) rules) (sym is)) in
      let here : numbered n place ≡ numbered n (finding_of rule header payload) = ap (numbered n) found in
      ap (λ (l : List (ℕ × ℕ)). l ++ findings_from (n + 1) (drop (n + 1) rules) header payload) (added ∙ ap (λ (l : List (ℕ × ℕ)). old ++ l) here)
      ∙ append_assoc old (numbered n (finding_of rule header payload)) (findings_from (n + 1) (drop (n + 1) rules) header payload)
      ∙ ap (λ (l : List Rule). old ++ findings_from n l header payload) (sym split) ∙ before

  pub findings_all : length rules ≤ n → old ≡ whole
  unfolding findings_from
  findings_all done =
      let none : drop n rules ≡ [] = drop_all n rules done in
      sym (append-nil old) ∙ ap (λ (l : List Rule). old ++ findings_from n l header payload) (sym none) ∙ before
