use Rattle.run_findings.proofs.Ahead.{slots_are}
use Rattle.run_findings.proofs.slots.find_ahead.Goals as goal

pub returns-clause-slots : goal.returns-clause-slots
returns-clause-slots g c = slots_are c.args.rules.now c.args.bytes.now c.args.plan.now c.in_ok-slots.slots.items c.fill_slots.new.slots.items c.args.first c.args.count c.in_ok-slots.ensures.empty c.in_ok-slots.ensures.count c.fill_slots.ensures.filled
