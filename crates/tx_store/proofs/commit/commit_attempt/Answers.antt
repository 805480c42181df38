use Rattle.tx_store.proofs.commit.commit_attempt.Goals as goal

pub commit_writes-requires-clause-writer : goal.commit_writes-requires-clause-writer
commit_writes-requires-clause-writer g c = c.is_writer.ensures.writer c.if-is_writer.true

pub commit_reader-requires-clause-reader : goal.commit_reader-requires-clause-reader
commit_reader-requires-clause-reader g c = c.is_writer.ensures.reader c.if-is_writer.false
