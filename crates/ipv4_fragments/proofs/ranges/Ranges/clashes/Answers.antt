use Rattle.std.proofs.Common.{sym, ◌∙◌}
use Rattle.ipv4_fragments.proofs.Clashes.{by_overlap, by_end, by_no_end, by_last, by_last_end}
use Rattle.ipv4_fragments.proofs.ranges.Ranges.clashes.Goals as goal

pub returns-then-overlaps : goal.returns-then-overlaps
returns-then-overlaps c = λ kept agrees. by_overlap c.args.self.now kept agrees c.args.piece.now (sym c.if-overlaps.true ∙ c.overlaps.ensures kept agrees)

pub returns-then-piece : goal.returns-then-piece
returns-then-piece c = λ kept agrees. by_end c.args.self.now kept agrees c.args.piece.now (sym c.if-overlaps.false ∙ c.overlaps.ensures kept agrees) c.in-None.is c.if-piece.true

pub returns-else-piece : goal.returns-else-piece
returns-else-piece c = λ kept agrees. by_no_end c.args.self.now kept agrees c.args.piece.now (sym c.if-overlaps.false ∙ c.overlaps.ensures kept agrees) c.in-None.is c.if-piece.false

pub returns-then-piece-2 : goal.returns-then-piece-2
returns-then-piece-2 c = λ kept agrees. by_last c.args.self.now kept agrees c.args.piece.now (sym c.if-overlaps.false ∙ c.overlaps.ensures kept agrees) c.in-Some.last c.in-Some.is c.if-piece-2.true

pub returns-else-piece-2 : goal.returns-else-piece-2
returns-else-piece-2 c = λ kept agrees. by_last_end c.args.self.now kept agrees c.args.piece.now (sym c.if-overlaps.false ∙ c.overlaps.ensures kept agrees) c.in-Some.last c.in-Some.is c.if-piece-2.false
