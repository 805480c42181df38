use Rattle.inspect_workers.proofs.Transacting.{tells_of_full}
use Rattle.inspect_workers.proofs.transactions.tell_full.Goals as goal

pub returns : goal.returns
returns c seen part values adding saw ended allowed there =
    tells_of_full c.args.run.now c.args.store.now c.requires.store c.records_keep_sizes_law.ensures c.sizes_stay_law.ensures c.capacities_stay_law.ensures c.full_is_the_log_law.ensures
    c.args.pass.now c.requires.of.cells c.history_law.ensures seen part values adding saw ended allowed there
