use Rattle.std.proofs.Common.{◌≡◌, length, refl, sym, ap, subst, ◌∙◌, arith}
use Rattle.attempt_lists.specs.Cells.{Entries}
use Rattle.attempt_lists.specs.Levels.{merged}
use Rattle.attempt_lists.specs.Laid.{length-laid_over}
use Rattle.tx_core.specs.Tx.{IsAttempt}
use Rattle.tx_core.proofs.Providing.{provided_moves}
use Rattle.tx_core.proofs.Nesting.{alone_merged, nested_alone}
use Rattle.tx_core.proofs.tx.Tx.unmark.Goals as goal

-- the merged writes are those of the attempt now
pub invariant_of-self : goal.invariant_of-self
invariant_of-self g c =
    let a = c.self.invariant.1 in
    let same : merged c.merge_child.new.self ≡ merged c.self.inside.writes = alone_merged c.merge_child.new.self c.merge_child.ensures.child ∙ c.merge_child.ensures.parent in
    let long = (length-laid_over c.self.inside.writes.parent c.self.inside.writes.child c.ascending_law.ensures.parent).1 in (
      subst (λ (es : Entries). IsAttempt c.self.inside.table.now c.self.inside.pass c.self.inside.version c.self.inside.reads es c.self.inside.held c.self.inside.committing) (sym same) c.self.invariant.0,
      provided_moves _ _ _ _ _ c.merge_child.new.self _ _ _ _ _ a a.locks a.spare_locks a.spare_observations (omega (arith, a.spare_writes, c.merge_child.ensures.reserved))
          (λ before. omega (arith, a.room before, long, ap length c.merge_child.ensures.parent, ap length c.merge_child.ensures.child)),
      nested_alone _ _ _ _ _ _ _ _ refl refl c.merge_child.ensures.child,
    )
