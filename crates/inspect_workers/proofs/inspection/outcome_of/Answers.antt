use Rattle.std.proofs.Common.{length, ap, arith}
use Rattle.serial_terms.specs.Histories.{entries_of}
use Rattle.inspect_workers.proofs.inspection.outcome_of.Goals as goal

pub overflow_cast-incomplete : goal.overflow_cast-incomplete
overflow_cast-incomplete c =
    let run = c.args.run.now in
    let told = c.tell_end.ensures (entries_of c.args.history.records) c.args.state c.requires.finished c.requires.keys in
    let few = (told.incomplete (length c.keys_of.result.now) (ap length c.keys_of.ensures)).few in
    let small = (c.run_opens_lawful_law.ensures run.rules.now run.bytes.now run.plan.now c.requires.planned).0.groups in
    omega (arith, few, small)

pub returns-clause-incomplete : goal.returns-clause-incomplete
returns-clause-incomplete c =
    (c.tell_end.ensures (entries_of c.args.history.records) c.args.state c.requires.finished c.requires.keys).incomplete (length c.keys_of.result.now) (ap length c.keys_of.ensures)
