-- The spots of a reader of a pattern's text, as `rule_terms` calls them.
use Rattle.std.specs.Prelude.{ℕ, ◌<◌, List, Option}
use Rattle.std.specs.Global.{Vec}
use Rattle.rule_terms.specs.Reader as reader
use Rattle.rule_matcher.specs.declared.pattern_text.Spot.{Spot}
use Rattle.rule_matcher.specs.declared.pattern_text.Spot.TheVariants.{Outside, Between, Half}

-- the first digit of a pair is below 16
abbrev pub IsSpot : Spot → Type 0
IsSpot Outside = Unit {0}
IsSpot (Between paired) = Unit {0}
IsSpot (Half high) = high < 16

abbrev pub spot_of : Spot → reader.Spot
spot_of Outside = reader.outside
spot_of (Between paired) = reader.between paired
spot_of (Half high) = reader.half high

abbrev pub step_of : Spot × Option ℕ → reader.Spot × Option ℕ
step_of step = (spot_of step.0, step.1)

abbrev pub items_of : Vec ℕ → List ℕ
items_of bytes = bytes.items
