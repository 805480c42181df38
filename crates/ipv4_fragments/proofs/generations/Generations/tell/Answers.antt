use Rattle.std.proofs.Common.{refl, Some, ◌^◌, ◌-◌}
use Rattle.ipv4_fragments.specs.Generations.{key_of}
use Rattle.ipv4_fragments.proofs.GenerationSteps.{newest_few, told_right, tells_more, has_put}
use Rattle.ipv4_fragments.proofs.GroupPlaces.{numbered_with}
use Rattle.ipv4_fragments.proofs.generations.Generations.tell.Goals as goal

pub put-requires : goal.put-requires
put-requires c = newest_few c.args.self.now c.requires.0 (2 ^ 32 - 1) c.args.piece.now c.requires.1 c.requires.2

pub returns-clause-generation : goal.returns-clause-generation
returns-clause-generation c = λ frames tells. told_right c.generation_law.ensures.beginning c.args.self.now frames tells c.args.piece.now c.args.time c.args.next c.in_ok-newest.newest c.in_ok-newest.ensures.told

pub returns-clause-tells : goal.returns-clause-tells
returns-clause-tells c = λ frames tells.
    tells_more c.generation_law.ensures.beginning c.args.self.now frames tells c.args.piece.now c.args.time c.args.next c.in_ok-newest.newest c.in_ok-newest.ensures.told (record c.args.self.now { newest = c.put.new.newest; last = Some (key_of c.args.piece.now, c.in_ok-newest.newest) }) refl c.in_ok-newest.ensures.put
    (has_put c.args.self.now.newest c.put.new.newest (key_of c.args.piece.now) c.in_ok-newest.newest c.in_ok-newest.ensures.put)

pub returns-clause-group : goal.returns-clause-group
returns-clause-group c = λ frames groups tells numbered long.
    numbered_with c.args.self.now (record c.args.self.now { newest = c.put.new.newest; last = Some (key_of c.args.piece.now, c.in_ok-newest.newest) }) groups c.args.piece.now c.args.time c.args.next c.in_ok-newest.newest numbered long c.in_ok-newest.ensures.told c.in_ok-newest.ensures.put
