use Rattle.ipv4_fragments.proofs.Clashes.{overlaps_none, overlaps_found}
use Rattle.ipv4_fragments.proofs.ranges.Ranges.overlaps.Goals as goal

pub returns-in-None : goal.returns-in-None
returns-in-None c = λ kept agrees. overlaps_none c.args.self.now kept agrees c.args.start c.args.end c.requires c.in-None.ensures

pub returns-in-Some : goal.returns-in-Some
returns-in-Some c = λ kept agrees. overlaps_found c.args.self.now kept agrees c.args.start c.args.end c.requires _ _ c.in-Some.ensures.0 c.in-Some.ensures.1 c.in-Some.ensures.2
