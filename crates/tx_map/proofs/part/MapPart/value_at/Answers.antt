use Rattle.std.proofs.Common.{◌≡◌, ℕ, ◌+◌, ◌<◌, length, ◌∙◌, sym, ap, arith}
use Rattle.cell_table.specs.Cells.{after}
use Rattle.tx_core.specs.Calls.{MayObserve}
use Rattle.tx_map.proofs.Looking.{read_observes, stays_looked, map_has, value_is}
use Rattle.tx_map.proofs.part.MapPart.value_at.Goals as goal

pub returns-clause-reply : goal.returns-clause-reply
returns-clause-reply g c cells all formed =
    let e = c.in_ok-word.ensures in
    let cell : ℕ = c.args.self.now.base + c.args.position in
    let looked : MayObserve c.args.tx.now c.read.new.self cell = read_observes _ _ _ c.in_ok-word.word e.own e.seen_before e.observes in
    let writes : c.read.new.self.writes ≡ c.args.tx.now.writes = (stays_looked _ _ _ looked).1 in
    let reach : cell < length cells = omega (arith, c.requires.position, formed, ap length (ap (after cells) writes), c.laid_over_law.ensures.sized cells) in
    let there = c.laid_over_law.ensures.shows cell c.in_ok-word.word e.value cells all reach in (
      value_is c.in_ok-word.word _ c.checked_sub.ensures ∙ sym (map_has c.args.self.now (after cells c.args.tx.now.writes) c.args.position c.in_ok-word.word c.requires.position (rw (← writes) there)),
      ap (after cells) writes,
    )

pub returns-clause-observes : goal.returns-clause-observes
returns-clause-observes g c = let e = c.in_ok-word.ensures in read_observes _ _ _ c.in_ok-word.word e.own e.seen_before e.observes

pub returns-clause-stays : goal.returns-clause-stays
returns-clause-stays g c = let e = c.in_ok-word.ensures in stays_looked _ _ _ (read_observes _ _ _ c.in_ok-word.word e.own e.seen_before e.observes)
