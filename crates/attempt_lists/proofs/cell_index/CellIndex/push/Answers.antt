use Rattle.std.proofs.Common.{arith}
use Rattle.attempt_lists.proofs.Kept.{chains_grown}
use Rattle.attempt_lists.proofs.cell_index.CellIndex.push.Goals as goal

-- the chains take one entry more
pub returns-then-self-clause-indexes : goal.returns-then-self-clause-indexes
returns-then-self-clause-indexes c = λ word. record {
  few = λ inactive unordered. absurd (grind (arith, c.if-self.true, inactive));
  ascending = λ ordered. absurd (grind (arith, ordered));
  chained = λ active. chains_grown _ _ word _ _ _ _ c.push.ensures.chains (c.requires.indexes.chained c.if-self.true);
}

-- the entries come into chains, and then this one
pub returns-then-entries-ge-SCANNED-clause-indexes :
    goal.returns-then-entries-ge-SCANNED-clause-indexes
returns-then-entries-ge-SCANNED-clause-indexes c = λ word. record {
  few = λ inactive unordered. absurd (grind (arith, inactive));
  ascending = λ ordered. absurd (grind (arith, ordered));
  chained = λ active. chains_grown _ _ word _ _ _ _ c.push-then-entries-ge-SCANNED.ensures.chains c.fill.ensures.chains;
}
