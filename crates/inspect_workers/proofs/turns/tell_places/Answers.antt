use Rattle.inspect_workers.proofs.Placing.{none_after}
use Rattle.inspect_workers.proofs.turns.tell_places.Goals as goal

pub returns-then-is_sole : goal.returns-then-is_sole
returns-then-is_sole c alone =
    let whole = c.whole_history_law.ensures in
    none_after c.args.pass.now.pass.seen c.args.pass.now.pass.books whole.0 whole.2.records whole.2.places
