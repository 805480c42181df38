-- The rules of a trial are a text of rules.
use Rattle.std.proofs.Common.{◌≡◌, ◌≢◌, inr, ℕ, List, [], ◌∷◌, ◌++◌, get_or, Some, refl, ap, arith}
use Rattle.std.specs.Prelude.{codes, AllPairs}
use Rattle.std.proofs.lemmas.List.Elements.{All-cons, All-nil}
use Rattle.std.proofs.lemmas.List.Kept.{AllPairs-cons}
use Rattle.rule_terms.specs.Rule.{Rule}
use Rattle.rule_terms.specs.Grammar.{is_name}
use Rattle.rule_terms.specs.Laws.{LinesReadAsWritten}
use Rattle.rule_terms.specs.Reader.{behind_blanks, until_blank, first_word, behind_word, digits_from, number_of, read_number, read_flag, protocol_of, text_bytes, pattern_bytes, until_quote, read_quoted, read_has, read_others, read_ports, read_head, read_patterns, read_rule}
use Rattle.rule_terms.specs.RuleText.{lines_of, without_return, is_skipped, AreLinesOf, AreNamedApart, IsRuleText}
use Rattle.capture_generator.specs.TrialRules.{trial_text, first_rule, second_rule, third_rule, trial_list}

abbrev first_line : List ℕ
first_line = codes "rule a proto udp has " ++ 34 ∷ codes "ab" ++ 34 ∷ []

abbrev second_line : List ℕ
second_line = codes "rule b proto udp dport 53 has " ++ 34 ∷ codes "abc" ++ 34 ∷ codes " nocase"

abbrev third_line : List ℕ
third_line = codes "rule c proto any has " ++ 34 ∷ codes "|61 62|" ++ 34 ∷ codes " from 8 to 40"

cut : lines_of trial_text ≡ first_line ∷ second_line ∷ third_line ∷ []
unfolding lines_of
cut = refl

first_read : read_rule first_line ≡ Some first_rule
unfolding behind_blanks until_blank first_word behind_word digits_from number_of read_number read_flag protocol_of text_bytes pattern_bytes until_quote read_quoted read_has read_others read_ports read_head read_patterns read_rule is_name
first_read = refl

second_read : read_rule second_line ≡ Some second_rule
unfolding behind_blanks until_blank first_word behind_word digits_from number_of read_number read_flag protocol_of text_bytes pattern_bytes until_quote read_quoted read_has read_others read_ports read_head read_patterns read_rule is_name
second_read = refl

third_read : read_rule third_line ≡ Some third_rule
unfolding behind_blanks until_blank first_word behind_word digits_from number_of read_number read_flag protocol_of text_bytes pattern_bytes until_quote read_quoted read_has read_others read_ports read_head read_patterns read_rule is_name
third_read = refl

apart : (one other : Rule) → get_or one.name 0 0 ≢ get_or other.name 0 0 → AreNamedApart one other
apart one other differ = λ same. differ (ap (λ (name : List ℕ). get_or name 0 0) same)

named_apart : AllPairs AreNamedApart trial_list
named_apart =
    AllPairs-cons AreNamedApart first_rule (second_rule ∷ third_rule ∷ [])
    (All-cons (AreNamedApart first_rule) second_rule (third_rule ∷ []) (apart first_rule second_rule (λ same. omega (arith, same)))
    (All-cons (AreNamedApart first_rule) third_rule [] (apart first_rule third_rule (λ same. omega (arith, same))) (All-nil (AreNamedApart first_rule))))
    (AllPairs-cons AreNamedApart second_rule (third_rule ∷ [])
    (All-cons (AreNamedApart second_rule) third_rule [] (apart second_rule third_rule (λ same. omega (arith, same))) (All-nil (AreNamedApart second_rule)))
    (AllPairs-cons AreNamedApart third_rule [] (All-nil (AreNamedApart third_rule)) (λ i j d before below. absurd (omega arith))))

module _ (law : LinesReadAsWritten) where
  lines_are : AreLinesOf (first_line ∷ second_line ∷ third_line ∷ []) trial_list
  unfolding without_return is_skipped
  lines_are =
      inr (
        first_rule,
        second_rule ∷ third_rule ∷ [],
        record { looked_at = refl; is = (law first_line first_rule).0 first_read },
        refl,
        inr (
          second_rule,
          third_rule ∷ [],
          record { looked_at = refl; is = (law second_line second_rule).0 second_read },
          refl,
          inr (third_rule, [], record { looked_at = refl; is = (law third_line third_rule).0 third_read }, refl, refl),
        ),
      )

  pub trial_is_read : IsRuleText trial_text trial_list
  trial_is_read = record {
    each = rw cut lines_are;
    names = named_apart;
    few = omega arith;
  }
