use Rattle.std.proofs.Common.{Option, subst}
use Rattle.std.specs.Prelude.{IfSome}
use Rattle.rule_matcher.specs.Sights.{IsSightFor}
use Rattle.rule_matcher.specs.declared.findings.Sight.{Sight}
use Rattle.rule_matcher.proofs.InSight.{nothing_there}
use Rattle.rule_matcher.proofs.findings.place_in_sight.Goals as goal

pub returns-then-is_ruled_out : goal.returns-then-is_ruled_out
returns-then-is_ruled_out c =
    let sight : IsSightFor c.in-Some.sight c.args.number c.args.rule.now c.args.payload.now =
    subst (λ (o : Option Sight). IfSome o (λ s. IsSightFor s c.args.number c.args.rule.now c.args.payload.now)) c.in-Some.is c.requires.sight in
    nothing_there c.args.rule.now c.args.header.now c.args.payload.now (sight.out (c.is_ruled_out.ensures c.if-is_ruled_out.true))
