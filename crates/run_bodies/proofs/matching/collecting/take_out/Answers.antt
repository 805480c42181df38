use Rattle.run_bodies.specs.RunStores.{work_of_run}
use Rattle.run_bodies.proofs.Walking.{out_whole}
use Rattle.run_bodies.proofs.matching.collecting.take_out.Goals as goal

pub returns-in-Whole-clause-out : goal.returns-in-Whole-clause-out
returns-in-Whole-clause-out g c = out_whole (work_of_run c.args.run.now) c.args.item c.in-Whole.field-0 c.args.tx.now c.args.chain.now.items c.in-Whole.is c.requires.datagram c.requires.running.before_commit
