use Rattle.transfer_example.proofs.transfer.try_once.Goals as goal

pub publish-requires-clause-explained : goal.publish-requires-clause-explained
publish-requires-clause-explained c m is = c.in-Ok-prepare.ensures.keeps m.total
