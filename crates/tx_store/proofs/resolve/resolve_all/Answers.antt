use Rattle.std.proofs.Common.{rules, ◌≡◌, ◌<◌, Bool, true, false, arith}
use Rattle.tx_store.specs.Resolves.{parts_of}
use Rattle.tx_store.proofs.Resolving.{few_parts, more_parts, next_spare, resolved_more}
use Rattle.tx_store.proofs.resolve.resolve_all.Goals as goal

differ : (b : Bool) → b ≡ false → b ≡ true → ⊥
differ b is_false is_true = cc

pub resolve_part-requires-clause-spare : goal.resolve_part-requires-clause-spare
resolve_part-requires-clause-spare g c = next_spare c.args.plan.now c.loop-tx.part c.args.tx.now c.loop-tx.tx c.loop-tx.invariant

pub returns-in-Err-clause-refused : goal.returns-in-Err-clause-refused
returns-in-Err-clause-refused g c =
    let r = c.in-Err.ensures.resolves in
    let in_range : c.loop-tx.part < parts_of c.args.plan.now = search rules in
    record {
      at = c.loop-tx.part;
      there = in_range;
      middle = c.loop-tx.tx;
      before = c.loop-tx.invariant;
      part = r.part;
      is = r.is;
      some = r.ends.0;
      leaves = r.leaves;
      refused = r.ends.1;
    }

-- something waits, so there is a part more
pub overflow_add-part : goal.overflow_add-part
overflow_add-part g c =
    let s = c.args.plan.now in
    let low : c.loop-tx.part < parts_of s = more_parts s c.loop-tx.part c.args.tx.now c.loop-tx.tx c.requires.waits c.loop-tx.invariant (λ none. differ c.is_adding.result (c.is_adding.ensures.1 none) c.loop-tx-test.true) in
    omega (arith, low, few_parts s (omega (arith, c.cells.ensures.cells, c.cells.ensures.within)))

pub loop-tx-preserved : goal.loop-tx-preserved
loop-tx-preserved g c = resolved_more c.args.plan.now (c.attempts_follow_law.ensures c.args.plan.now) c.loop-tx.part c.args.tx.now c.loop-tx.tx c.resolve_part.new.tx tt c.loop-tx.invariant c.in-Ok.ensures.resolves
