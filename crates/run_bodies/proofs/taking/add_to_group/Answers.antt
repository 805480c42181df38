use Rattle.std.proofs.Common.{List, sym, subst}
use Rattle.serial_terms.specs.declared.call.Done.{Done}
use Rattle.run_bodies.proofs.Adding.{added_is}
use Rattle.run_bodies.proofs.ChildCalls.{does_then, stops_after}
use Rattle.run_bodies.proofs.taking.add_to_group.Goals as goal
use Rattle.run_bodies.specs.InChild.{DoesInChild}

pub returns-in-Ok-put_added : goal.returns-in-Ok-put_added
returns-in-Ok-put_added g c =
    subst (λ (ds : List Done). DoesInChild c.args.tx.now c.put_added.new.tx ds) (sym (added_is _ c.args.group c.args.task c.in-Ok.old c.adding-adding.result c.adding-adding.ensures))
    (does_then c.args.tx.now c.word_of.new.tx c.put_added.new.tx _ _ c.in-Ok.ensures.acts c.in-Ok-put_added.ensures)

pub returns-in-Err-put_added : goal.returns-in-Err-put_added
returns-in-Err-put_added g c = stops_after c.args.tx.now c.word_of.new.tx c.put_added.new.tx _ c.in-Err-put_added.stop c.in-Ok.ensures.acts c.in-Err-put_added.ensures
