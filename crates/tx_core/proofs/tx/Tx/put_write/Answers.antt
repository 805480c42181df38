use Rattle.std.proofs.Common.{◌≡◌, false, ◌<◌, length, ap, ◌∙◌, arith}
use Rattle.attempt_lists.specs.Levels.{merged}
use Rattle.tx_core.specs.Tx.{Attempt}
use Rattle.tx_core.proofs.AttemptFacts.{attempt_widens, attempt_writes}
use Rattle.tx_core.proofs.Providing.{provided_moves}
use Rattle.tx_core.proofs.Nesting.{nested_puts}
use Rattle.tx_core.proofs.tx.Tx.put_write.Goals as goal

-- the write has room for its lock
pub invariant_of-self-2 : goal.invariant_of-self-2
invariant_of-self-2 g c =
    let there : c.args.cell < length c.self.inside.table.now.opening = rw (ap (λ (a : Attempt _ _). a.table) c.self.view_is) c.requires.cell in
    let before : c.self.inside.committing ≡ false = ap (λ (a : Attempt _ _). a.committing) c.self.view_is ∙ c.requires.before_commit in
    let room = c.self.invariant.1.room before in
    let wide = attempt_widens _ _ c.self.inside.pass c.reserve_lock.new.pass _ _ c.self.inside.held c.reserve_lock.new.held _ c.self.invariant.0 c.in-Ok.ensures.pass c.in-Ok.ensures.entries in (
      attempt_writes _ _ c.reserve_lock.new.pass c.self.inside.reads (merged c.self.inside.writes) (merged c.put_above.new.writes) c.reserve_lock.new.held _ c.args.cell c.args.value wide there
          c.in-Ok-put_above.ensures.merged,
      provided_moves _ _ _ _ _ c.put_above.new.writes _ c.reserve_lock.new.held _ _ _ c.self.invariant.1 c.in-Ok.ensures.locks (omega (arith, c.self.invariant.1.spare_locks, c.in-Ok.ensures.kept)) c.self.invariant.1.spare_observations
          (omega (arith, c.self.invariant.1.spare_writes, c.put_above.ensures.reserved))
          (λ early. omega (arith, c.put_above.ensures.len, c.in-Ok.ensures.ok)),
      rw c.in-Ok.ensures.entries (nested_puts _ _ _ _ _ c.self.inside.writes c.put_above.new.writes _ _ c.is_some-in_child.result c.is_some-in_child.ensures c.put_above.ensures.parent c.put_above.ensures.child c.self.invariant.2),
    )
