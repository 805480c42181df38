use Rattle.std.proofs.Common.{◌≡◌, ℕ, List, ◌++◌, drop}
use Rattle.std.specs.Option.{option_map}
use Rattle.rule_terms.specs.Reader.{text_bytes, outside}
use Rattle.rule_matcher.specs.Spots.{IsSpot, spot_of}
use Rattle.rule_matcher.proofs.pattern_text.text_bytes.Given as goal

abbrev pub invariant-loop-c : goal.invariant-loop-c
invariant-loop-c l = record {
  fits : IsSpot l.spot;
  read : option_map (λ (rest : List ℕ). l.bytes.items ++ rest) (text_bytes (spot_of l.spot) (drop l.c-index l.text)) ≡ text_bytes outside l.text;
}
