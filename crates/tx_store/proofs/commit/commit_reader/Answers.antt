use Rattle.std.proofs.Common.{length, rules}
use Rattle.tx_store.proofs.Committing.{read, returns_read, reader_explained}
use Rattle.tx_store.proofs.commit.commit_reader.Goals as goal

pub commit_reads-requires-clause-explained : goal.commit_reads-requires-clause-explained
commit_reads-requires-clause-explained g c = reader_explained g.P.Purpose.allowed c.args.plan.now c.args.tx c.requires.reader.0 c.requires.reader.1 (c.attempts_follow_law.ensures c.args.plan.now) c.requires.follows
    c.requires.of c.requires.plan c.requires.allowed c.requires.placed

pub returns-clause-returns : goal.returns-clause-returns
returns-clause-returns g c = let e = c.commit_reads.ensures in
    returns_read c.args.plan.now c.args.tx c.requires.reader.0 c.requires.reader.1 c.commit_reads.result e.of e.idle e.pass.0 e.grows (length c.args.tx.pass.view.held) e.steps

pub returns-clause-commits : goal.returns-clause-commits
returns-clause-commits g c = let e = c.commit_reads.ensures in
    read c.args.plan.now c.args.tx c.requires.reader.0 c.requires.reader.1 (c.attempts_follow_law.ensures c.args.plan.now) c.requires.follows c.alone_law.ensures.begun c.commit_reads.result
    e.record e.seen e.pass.1 e.grows e.steps _ (search rules)
