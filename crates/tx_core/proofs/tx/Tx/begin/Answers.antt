use Rattle.std.proofs.Common.{length, arith, refl, ap, rules}
use Rattle.tx_core.proofs.Providing.{two_none}
use Rattle.attempt_lists.specs.Parts.{waiting_of, marked_of}
use Rattle.tx_core.proofs.Nesting.{nested_alone}
use Rattle.tx_core.proofs.tx.Tx.begin.Goals as goal

pub invariant_of-result : goal.invariant_of-result
invariant_of-result g c = (
  search rules,
  record {
    locks = omega (arith, c.new-3.ensures.reserved);
    spare_locks = omega arith;
    spare_observations = omega arith;
    spare_writes = omega arith;
    few = (omega arith, omega arith, omega arith);
    room = λ before. omega (arith, c.new-3.ensures.reserved, ap length c.new-2.ensures.parent, ap length c.new-2.ensures.child);
    twice = λ before. two_none (waiting_of c.new-5.result) (λ part. rw c.new-5.ensures refl);
    marked = λ before. two_none (marked_of c.new-5.result) (λ part. rw c.new-5.ensures refl);
  },
  nested_alone _ _ _ _ _ _ _ _ refl refl c.new-2.ensures.child,
)
