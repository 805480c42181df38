use Rattle.run_bodies.proofs.Telling.{has_parts, runs_lawful}
use Rattle.run_bodies.proofs.told.told_law.Goals as goal

pub returns-clause-runs : goal.returns-clause-runs
returns-clause-runs c = runs_lawful c.args.run.now c.args.tx.now.store c.requires.store c.args.tx.now.attempt c.seen_law.ensures c.tells_law.ensures

pub returns-clause-small : goal.returns-clause-small
returns-clause-small c = (c.run_opens_lawful_law.ensures c.args.run.now.rules.now c.args.run.now.bytes.now c.args.run.now.plan.now c.requires.store.planned).0

pub returns-clause-parts : goal.returns-clause-parts
returns-clause-parts c = has_parts c.args.run.now c.args.tx.now.store c.requires.store
