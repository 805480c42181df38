-- The rules that a trial uses. The choice is ours alone.
use Rattle.std.specs.Prelude.{ℕ, true, false, List, [], ◌∷◌, ◌++◌, Some, None, codes}
use Rattle.rule_terms.specs.Rule.{Rule}

-- three rules, each on a line of its own; 34 is a double quote, 10 a line feed
abbrev pub trial_text : List ℕ
trial_text =
    codes "rule a proto udp has " ++ 34 ∷ codes "ab" ++ 34 ∷ 10 ∷
    codes "rule b proto udp dport 53 has " ++ 34 ∷ codes "abc" ++ 34 ∷ codes " nocase" ++ 10 ∷
    codes "rule c proto any has " ++ 34 ∷ codes "|61 62|" ++ 34 ∷ codes " from 8 to 40" ++ 10 ∷ []

-- what they say
abbrev pub first_rule : Rule
first_rule = record {
  name = codes "a";
  protocol = Some 17;
  source_port = None;
  destination_port = None;
  first = record { bytes = codes "ab"; nocase = false; from = None; to = None };
  others = [];
}

abbrev pub second_rule : Rule
second_rule = record {
  name = codes "b";
  protocol = Some 17;
  source_port = None;
  destination_port = Some 53;
  first = record { bytes = codes "abc"; nocase = true; from = None; to = None };
  others = [];
}

abbrev pub third_rule : Rule
third_rule = record {
  name = codes "c";
  protocol = None;
  source_port = None;
  destination_port = None;
  first = record { bytes = codes "ab"; nocase = false; from = Some 8; to = Some 40 };
  others = [];
}

abbrev pub trial_list : List Rule
trial_list = first_rule ∷ second_rule ∷ third_rule ∷ []
