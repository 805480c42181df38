-- A line behind others that gave rules.
use Rattle.std.proofs.Common.{◌≡◌, ℕ, ◌+◌, ◌<◌, ◌≤◌, Bool, true, false, List, [], ◌∷◌, ◌++◌, length, Option, Some, None, refl, sym, ◌∙◌, ap, subst, inr}
use Rattle.rule_terms.specs.Rule.{Pattern, Rule}
use Rattle.rule_terms.specs.Grammar.{IsRuleLine}
use Rattle.rule_terms.specs.Laws.{LinesReadAsWritten}
use Rattle.rule_terms.specs.Reader.{◌>>=◌, Head, read_head, read_patterns, read_rule, read_has, read_others}
use Rattle.rule_terms.specs.RuleText.{without_return, is_skipped, IsLineOf, IsTaken, IsBadLine}
use Rattle.rule_matcher.specs.Ends.{IsNewRule, IsReadBehind}

-- the line less its carriage return, which isn't skipped
pub record IsLookedAt (line cut : List ℕ) : Type 0 where
  pub cut_is : cut ≡ without_return line
  pub looked_at : is_skipped cut ≡ false

pub no_front : (cut : List ℕ) → read_head cut ≡ None → read_rule cut ≡ None
unfolding read_rule
no_front cut none = rw none

pub front_then : (cut : List ℕ) (head : Head) (rule : Option Rule) → read_head cut ≡ Some head → rule ≡ read_patterns head → read_rule cut ≡ rule
unfolding read_rule
front_then cut head rule front is = rw front (sym is)

module _ (law : LinesReadAsWritten) (line cut : List ℕ) (rules : List Rule) (is : IsLookedAt line cut) where
  looked : is_skipped (without_return line) ≡ false
  looked = ap is_skipped (sym is.cut_is) ∙ is.looked_at

  read_as : (rule : Rule) → IsLineOf line rule → read_rule cut ≡ Some rule
  read_as rule is_line = ap read_rule is.cut_is ∙ (law (without_return line) rule).1 is_line.is

  pub bad_none : read_rule cut ≡ None → IsBadLine line rules
  bad_none none = record { looked_at = looked; no_rule = λ rule is_line. absurd (cc (none, read_as rule is_line)) }

  pub bad_taken : (rule : Rule) → read_rule cut ≡ Some rule → IsTaken rule.name rules → IsBadLine line rules
  bad_taken rule read taken = record {
    looked_at = looked;
    no_rule = λ other is_line.
        let same : rule ≡ other = cc (read, read_as other is_line) in
        subst (λ (r : Rule). IsTaken r.name rules) same taken;
  }

  pub new_rule : (rule : Rule) → read_rule cut ≡ Some rule → ¬ IsTaken rule.name rules → IsNewRule line rules
  new_rule rule read new = record {
    rule = rule;
    is = record { looked_at = looked; is = (law (without_return line) rule).0 (ap read_rule (sym is.cut_is) ∙ read) };
    new = new;
  }

  pub read_behind : (rule : Rule) (new : List Rule) → read_rule cut ≡ Some rule → ¬ IsTaken rule.name rules → length rules < 1024 → new ≡ rules ++ rule ∷ [] → IsReadBehind line rules new
  unfolding new_rule
  read_behind rule new read untaken room added = inr (new_rule rule read untaken, room, added)

-- a rule has the name of its front
pub named_as : (head : Head) (rule : Rule) → Some rule ≡ read_patterns head → rule.name ≡ head.name
unfolding read_patterns
named_as head rule is = first (read_has head.rest) is
  where
    made : List Pattern → Pattern → Rule
    made others first = record { name = head.name; protocol = head.protocol; source_port = head.source_port; destination_port = head.destination_port; first = first; others = others }

    others_then : (p : Pattern) (o : Option (List Pattern)) → Some rule ≡ (o >>= (λ (others : List Pattern). Some (made others p))) → rule.name ≡ head.name
    others_then p None is = absurd (cc is)
    others_then p (Some others) is =
        let same : rule ≡ made others p = cc is in
        ap (λ (r : Rule). r.name) same

    first : (o : Option (Pattern × List ℕ)) → Some rule ≡ (o >>= (λ (p : Pattern × List ℕ). read_others 7 p.1 >>= (λ (others : List Pattern). Some (made others p.0)))) → rule.name ≡ head.name
    first None is = absurd (cc is)
    first (Some p) is = others_then p.0 (read_others 7 p.1) is

pub true_not_false : (b : Bool) → b ≡ true → b ≡ false → ⊥
true_not_false b on off = cc (on, off)
