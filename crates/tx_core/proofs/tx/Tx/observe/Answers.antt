use Rattle.std.proofs.Common.{◌≡◌, [], ◌∷◌, ◌++◌, ap, ◌∙◌, refl, false, None, arith}
use Rattle.cell_table.specs.Cells.{has}
use Rattle.cell_table.specs.Rule.{cells_of}
use Rattle.cell_table.specs.Pass.{PassState}
use Rattle.attempt_lists.specs.Levels.{merged}
use Rattle.attempt_lists.specs.Cells.{Entries, word_at}
use Rattle.tx_core.specs.Tx.{Attempt}
use Rattle.tx_core.specs.Words.{known_last}
use Rattle.tx_core.proofs.Looks.{not_both, seen_stands}
use Rattle.tx_core.proofs.Providing.{provided_moves}
use Rattle.tx_core.proofs.AttemptFacts.{attempt_looks, attempt_observes, attempt_reserves}
use Rattle.tx_core.proofs.Nesting.{nested_grows, more_none, more_one}
use Rattle.tx_core.proofs.tx.Tx.observe.Goals as goal

-- the observation stands at the attempt's version, and its cell isn't held
pub invariant_of-self-in-Ok-read_cell : goal.invariant_of-self-in-Ok-read_cell
invariant_of-self-in-Ok-read_cell g c =
    let wide = attempt_reserves _ _ _ _ c.reserve.new.self _ _ _ c.reserve.ensures.observations c.reserve.ensures.versions c.self.invariant.0 in
    let looked = attempt_looks _ _ _ c.read_cell.new.pass _ _ _ _ c.in-Ok-read_cell.ensures.looks c.in-Ok-read_cell.ensures.of wide in
    let unobserved : word_at c.self.inside.reads.observations c.args.cell ≡ None = rw (ap (λ (a : Attempt _ _). a.observations) c.self.view_is) c.requires.unobserved in
    let unwritten : word_at (merged c.self.inside.writes) c.args.cell ≡ None = rw (ap (λ (a : Attempt _ _). a.writes) c.self.view_is) c.requires.unwritten in
    let unheld : has c.args.cell (cells_of c.self.inside.pass.view.held) ≡ false = c.self.invariant.0.met c.args.cell unobserved unwritten in (
      attempt_observes _ _ _ _ c.push_reserved.new.self _ _ _ _ _ _ looked c.push_reserved.ensures.observations c.push_reserved.ensures.versions (seen_stands _ _ _ _ _ c.in-Ok-read_cell.ensures.ok) (λ before. c.in-Ok-read_cell.ensures.ok.low) (λ held. not_both held (rw (c.in-Ok-read_cell.ensures.looks.1.held) unheld)),
      provided_moves _ _ _ c.push_reserved.new.self _ _ _ _ _ _ _ c.self.invariant.1 (rw (ap (λ (s : PassState _ _). s.places) c.in-Ok-read_cell.ensures.looks.0) c.self.invariant.1.locks) c.self.invariant.1.spare_locks (omega (arith, c.self.invariant.1.spare_observations, c.in-Ok.ensures.ok, c.push_reserved.ensures.reserved)) c.self.invariant.1.spare_writes c.self.invariant.1.room,
      nested_grows _ _ _ _ _ c.self.inside.reads.observations c.push_reserved.new.self.observations _ _ _ _ _ _ refl
          (more_one _ _ _ (c.push_reserved.ensures.observations ∙ ap (λ (es : Entries). es ++ (c.args.cell, c.in-Ok-read_cell.value) ∷ []) c.reserve.ensures.observations)) (more_none _) (more_none _) (λ some. refl) c.self.invariant.2.alone c.self.invariant.2,
    )

pub invariant_of-self-in-Err : goal.invariant_of-self-in-Err
invariant_of-self-in-Err g c =
    let wide = attempt_reserves _ _ _ _ c.reserve.new.self _ _ _ c.reserve.ensures.observations c.reserve.ensures.versions c.self.invariant.0 in (
      attempt_looks _ _ _ c.read_cell.new.pass _ _ _ _ c.in-Err.ensures.looks c.in-Err.ensures.of wide,
      provided_moves _ _ _ c.reserve.new.self _ _ _ _ _ _ _ c.self.invariant.1 (rw (ap (λ (s : PassState _ _). s.places) c.in-Err.ensures.looks.0) c.self.invariant.1.locks) c.self.invariant.1.spare_locks (omega (arith, c.self.invariant.1.spare_observations, c.in-Ok.ensures.ok)) c.self.invariant.1.spare_writes c.self.invariant.1.room,
      rw c.reserve.ensures.observations c.self.invariant.2,
    )

pub returns-in-Ok-read_cell-clause-value : goal.returns-in-Ok-read_cell-clause-value
returns-in-Ok-read_cell-clause-value g c =
    let unobserved : word_at c.self.inside.reads.observations c.args.cell ≡ None = rw (ap (λ (a : Attempt _ _). a.observations) c.self.view_is) c.requires.unobserved in
    let unwritten : word_at (merged c.self.inside.writes) c.args.cell ≡ None = rw (ap (λ (a : Attempt _ _). a.writes) c.self.view_is) c.requires.unwritten in
    let grown = c.push_reserved.ensures.observations ∙ ap (λ (es : Entries). es ++ (c.args.cell, c.in-Ok-read_cell.value) ∷ []) c.reserve.ensures.observations in
    known_last _ _ _ _ _ unwritten unobserved grown
