use Rattle.std.proofs.Common.{ℕ, ◌<◌, subst}
use Rattle.inspect_workers.proofs.Bounding.{bounded_turns}
use Rattle.inspect_workers.proofs.works.tell_bound.Goals as goal

pub returns : goal.returns
returns c =
    bounded_turns c.args.run.now c.args.store.now c.requires.store c.tasks_have_facts_law.ensures c.runs_are_bounded_law.ensures c.one_caller_takes_less_law.ensures c.args.pass.now c.requires.of.cells
    (subst (λ (n : ℕ). 0 < n) c.callers_held.ensures.count c.callers_held.ensures.some) c.history_law.ensures
