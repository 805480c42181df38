-- What a sight of a payload says of one rule.
use Rattle.std.proofs.Common.{◌≡◌, ℕ, zero, suc, ◌<◌, Bool, true, false, List, [], ◌∷◌, length, get_or, Option, Some, None, refl, sym, ◌∙◌, ap, arith}
use Rattle.std.specs.Prelude.{IfSome, ◌&&◌, ◌||◌, if◌then◌else◌}
use Rattle.std.specs.List.{list_all, list_any}
use Rattle.std.proofs.lemmas.Bool.{cases_Bool}
use Rattle.capture_terms.specs.declared.datagram.Header.{Header}
use Rattle.rule_terms.specs.Rule.{Pattern, Rule}
use Rattle.rule_terms.specs.Match.{place_of, finding_of, is_for, is_there}
use Rattle.rule_matcher.specs.Filter.{lowers, rule_lowers}
use Rattle.rule_matcher.specs.Sights.{IsSightOf, IsSightFor}
use Rattle.rule_matcher.specs.declared.findings.Sight.{Sight}

pub sight_for : (o : Option Sight) (rules : List Rule) (payload : List ℕ) (number : ℕ) (rule : Rule) → IfSome o (λ s. IsSightOf s rules payload) → number < length rules → rule ≡ get_or rules number rule → IfSome o (λ s. IsSightFor s number rule payload)
sight_for None rules payload number rule sight within is = tt
sight_for (Some s) rules payload number rule sight within is = record {
  mark = record { there = omega (arith, sight.count); small = sight.small number; seen = sight.seen };
  out = λ unseen. sight.out number rule within (sym is) unseen.some unseen.off;
}

pub nothing_there : (rule : Rule) (header : Header) (payload : List ℕ) → place_of rule.first payload ≡ None → None ≡ finding_of rule header payload
unfolding finding_of
nothing_there rule header payload none = either (is_for rule header payload && list_all (is_there payload) rule.others)
  where
    either : (t : Bool) → None ≡ (if t then place_of rule.first payload else None)
    either true = sym none
    either false = refl

-- what one of a list has, some of it has
pub any_at : {A : Type 0} (test : A → Bool) (items : List A) (k : ℕ) (item : A) → k < length items → item ≡ get_or items k item → test item ≡ true → list_any test items ≡ true
any_at test [] k item within is has = absurd (omega arith)
any_at test (x ∷ items) zero item within is has = rw (ap test (sym is) ∙ has)
any_at test (x ∷ items) (suc k) item within is has = either (test x) (any_at test items k item (omega arith) is has)
  where
    either : (t : Bool) → list_any test items ≡ true → (t || list_any test items) ≡ true
    either true later = refl
    either false later = later
