use Rattle.std.proofs.Common.{arith, ap, sym, subst, ◌∙◌, ◌<◌, ◌≤◌, ◌^◌, refl, List, ℕ, Vec, Global, length}
use Rattle.atomic_table.specs.Table.{Me}
use Rattle.cell_table.specs.Rule.{values_in, first_view}
use Rattle.cell_table.specs.declared.view.View.{View}
use Rattle.cell_table.specs.declared.rule.About.{About}
use Rattle.cell_table.proofs.Opening.{starts_with, start_values, start_wide, opened_pass, opened_tied, opened_of}
use Rattle.cell_table.proofs.Ledgers.{fresh_noted}
use Rattle.cell_table.proofs.table.CellTable.open.Goals as goal

pub of_words-requires : goal.of_words-requires
of_words-requires g c = starts_with g.M.Meaning.lawful g.M.Meaning.explains c.args.meaning c.of.result.value c.args.opening.now (values_in c.of-2.result.value.items) c.as_slice.result.now c.args.callers c.of.ensures
    (ap (λ (v : Vec ℕ Global). values_in v.items) c.of-2.ensures ∙ (ap values_in c.in_ok-words.ensures ∙ start_values c.args.opening.now)) (c.as_slice.ensures.value ∙ c.in_ok-words.ensures) c.requires.lawful c.requires.callers.1

pub invariant_of-table : goal.invariant_of-table
invariant_of-table g c = let f = c.in_ok-words-2.ensures in let k = ap (λ (z : About g.row.M.Denot). values_in z.words.value.items) f.5 ∙ (ap (λ (v : Vec ℕ Global). values_in v.items) c.of-2.ensures ∙ (ap values_in c.in_ok-words.ensures ∙ start_values c.args.opening.now)) in (
  (let a = ap (λ (z : List ℕ). length z) k in let b = ap (λ (z : List ℕ). length z) (c.as_slice.ensures.value ∙ c.in_ok-words.ensures) in let d = start_wide c.args.opening.now in let e = f.0 in omega arith),
  f.1,
  ap (λ (z : About g.row.M.Denot). z.meaning.value) f.5 ∙ c.of.ensures,
  ap (λ (z : About g.row.M.Denot). z.callers) f.5,
  c.requires.callers.0,
  c.requires.callers.1,
  subst (λ (z : List ℕ). 0 < length z) (sym k) c.requires.cells.0,
  subst (λ (z : List ℕ). length z ≤ 2 ^ 24) (sym k) c.requires.cells.1,
)

pub invariant_of-pass : goal.invariant_of-pass
invariant_of-pass g c = let f = c.in_ok-words-2.ensures in
    let v = ap (λ (z : Me _ (View g.row.M.Denot g.row.M-Done.Denot)). z.0) f.4 ∙ (λ i. first_view (c.of.ensures i) ((ap (λ (v : Vec ℕ Global). values_in v.items) c.of-2.ensures ∙ (ap values_in c.in_ok-words.ensures ∙ start_values c.args.opening.now)) i) c.args.callers) in
    let b = fresh_noted 0 c.args.callers c.in_ok-ledgers.ledgers.items c.in_ok-ledgers.ensures.0 in (
      opened_pass g.M.Meaning.lawful g.M.Meaning.explains c.args.meaning c.args.opening.now c.args.callers _ _ _ _ _ _ c.requires.lawful c.requires.callers.1 c.requires.callers.0 v b.0,
      opened_tied c.args.meaning c.args.opening.now c.args.callers _ _ v c.in_ok-held.ensures.items,
      c.in_ok-ledgers.ensures.1,
      (let l = c.in_ok-held.ensures.len in omega arith),
      ap (λ (z : Me _ (View g.row.M.Denot g.row.M-Done.Denot)). z.1) f.4,
    )

pub returns-clause-table : goal.returns-clause-table
returns-clause-table g c = let f = c.in_ok-words-2.ensures in (refl, ap (λ (z : About g.row.M.Denot). values_in z.words.value.items) f.5 ∙ (ap (λ (v : Vec ℕ Global). values_in v.items) c.of-2.ensures ∙ (ap values_in c.in_ok-words.ensures ∙ start_values c.args.opening.now)), refl)

pub returns-clause-pass : goal.returns-clause-pass
returns-clause-pass g c = let f = c.in_ok-words-2.ensures in let o = ap (λ (v : Vec ℕ Global). values_in v.items) c.of-2.ensures ∙ (ap values_in c.in_ok-words.ensures ∙ start_values c.args.opening.now) in
    let v = ap (λ (z : Me _ (View g.row.M.Denot g.row.M-Done.Denot)). z.0) f.4 ∙ (λ i. first_view (c.of.ensures i) (o i) c.args.callers) in
    let b = fresh_noted 0 c.args.callers c.in_ok-ledgers.ledgers.items c.in_ok-ledgers.ensures.0 in
    opened_of _ _ c.args.meaning c.args.opening.now _ c.args.callers _ _ _ _ v (ap (λ (z : About g.row.M.Denot). values_in z.words.value.items) f.5 ∙ o) f.2 b.0 (b.2 c.requires.callers.0) (let a = c.in_ok-held.ensures.exact in let l = c.in_ok-held.ensures.len in omega arith)
