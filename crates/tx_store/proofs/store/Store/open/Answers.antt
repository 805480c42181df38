use Rattle.std.proofs.Common.{rules, ◌≤◌, ap, ◌∙◌, inl, inr}
use Rattle.std.proofs.lemmas.Bool.{cases_lt}
use Rattle.store_layout.specs.Shapes.{shape_of, cells_of, most_cells}
use Rattle.store_meaning.specs.declared.meaning.StoreMeaning.{StoreMeaning as Means}
use Rattle.tx_store.proofs.Opened.{opened_store}
use Rattle.tx_store.proofs.Pairing.{opened_pair}
use Rattle.tx_store.proofs.store.Store.open.Goals as goal

pub invariant_of-result : goal.invariant_of-result
invariant_of-result g c =
    let small : cells_of (shape_of c.args.layout.now) ≤ most_cells = elim (cases_lt most_cells (cells_of (shape_of c.args.layout.now))) [
      | inl over ↦ absurd (c.in_ok-plan.ensures.too_large.1 over)
      | inr fits ↦ fits
    ] in
    opened_store c.args.layout.now c.requires.layout small (c.opening_stands_law.ensures.formed c.args.layout.now c.requires.layout)
    c.in-Ok-open-2.table.meaning.plan (ap (λ (m : Means g.row.P.Denot g.row.P-Keys.Denot). m.plan) c.in-Ok-open-2.ensures.table.0 ∙ c.in_ok-plan.ensures.ok)
    c.in-Ok-open-2.table c.in-Ok-open.directory (search rules) (search rules) (search rules)

pub returns-clause-of : goal.returns-clause-of
returns-clause-of g c = record { cells = search rules; keys = search rules; paired = opened_pair c.in-Ok-open-2.table _ _ c.in-Ok-open-2.ensures.pass (search rules) (search rules) }
