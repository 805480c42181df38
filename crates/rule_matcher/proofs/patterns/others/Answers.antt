use Rattle.std.proofs.Common.{◌≡◌, ◌∷◌, ◌++◌, [], ◌+◌, ◌-◌, suc, Some, false, true, sym, ◌∙◌, ap, arith}
use Rattle.std.specs.Option.{option_map}
use Rattle.rule_matcher.specs.Line.{found_of}
use Rattle.std.proofs.lemmas.Grind.{common_steps}
use Rattle.rule_terms.specs.Words.{are_blanks}
use Rattle.rule_matcher.proofs.Others.{others_done, others_more}
use Rattle.rule_matcher.proofs.patterns.others.Goals as goal

pub returns-then-are_blanks : goal.returns-then-are_blanks
returns-then-are_blanks c = others_done c.loop-taken.patterns.items _ c.loop-taken.rest.now _ c.loop-taken.invariant (sym c.are_blanks.ensures ∙ c.if-are_blanks.true)

pub loop-taken-preserved : goal.loop-taken-preserved
loop-taken-preserved c =
    let some : are_blanks c.loop-taken.rest.now ≡ false = sym c.are_blanks.ensures ∙ c.if-are_blanks.false in
    let pushed : c.push.new.self.items ≡ c.loop-taken.patterns.items ++ c.in-Some.found.pattern ∷ [] = grind (arith, common_steps) in
    let size : 7 - c.loop-taken._taken ≡ suc (7 - (c.loop-taken._taken + 1)) = omega arith in
    others_more c.loop-taken.patterns.items c.push.new.self.items _ _ c.loop-taken.rest.now c.in-Some.found.rest.now c.in-Some.found.pattern _ c.loop-taken.invariant size some (sym (ap (option_map found_of) c.in-Some.is) ∙ c.in_ok-found.ensures) pushed
