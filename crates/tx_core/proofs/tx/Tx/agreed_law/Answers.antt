use Rattle.std.proofs.Common.{◌≡◌, ℕ, false, Some, ap, subst}
use Rattle.attempt_lists.specs.Cells.{word_at}
use Rattle.cell_table.specs.Steps.{Observes}
use Rattle.tx_core.specs.Tx.{Attempt}
use Rattle.tx_core.proofs.Looks.{observes_of}
use Rattle.tx_core.proofs.SeenWords.{observes_by}
use Rattle.tx_core.proofs.tx.Tx.agreed_law.Goals as goal

pub returns-clause-seen : goal.returns-clause-seen
returns-clause-seen g c =
    let early : c.self.inside.committing ≡ false = rw (ap (λ (a : Attempt _ _). a.committing) c.self.view_is) c.requires.before_commit in
    subst (λ (a : Attempt _ _). (cell x : ℕ) → word_at a.observations cell ≡ Some x → Observes a.pass.view cell x a.version) c.self.view_is
    (observes_by c.self.inside.pass.view c.self.inside.version c.self.inside.reads.observations (λ i lt. observes_of _ _ _ _ _ ((c.self.invariant.0.observed i lt).stands (c.self.invariant.0.early early i lt))))

pub returns-clause-one : goal.returns-clause-one
returns-clause-one g c = subst (λ (a : Attempt _ _). (cell x y : ℕ) → Observes a.pass.view cell x a.version → Observes a.pass.view cell y a.version → x ≡ y) c.self.view_is (λ cell x y a b. c.agrees_law.ensures cell x y c.self.inside.version a b)
