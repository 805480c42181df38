use Rattle.std.proofs.Common.{rules, ◌≡◌, ◌<◌, ap, ◌∙◌, arith}
use Rattle.cell_table.specs.Pass.{PassState}
use Rattle.serial_terms.specs.Renaming.{NamedDone}
use Rattle.tx_store.proofs.Pairing.{paired_seen}
use Rattle.tx_store.proofs.Telling.{begun}
use Rattle.tx_store.specs.Stores.{PassView}
use Rattle.tx_store.proofs.tx.StoreTx.begin.Goals as goal

pub invariant_of-result : goal.invariant_of-result
invariant_of-result g c =
    let fresh = c.in-Ok.ensures.fresh in
    let draws : c.in-Ok.tx.pass.view.draws ≡ c.args.pass.pass.view.draws = ap (λ (p : PassState _ NamedDone). p.view.draws) c.in-Ok.ensures.pass ∙ ap (λ (p : PassView _). p.pass.view.draws) c.pass.view_is in
    let left : 0 < c.in-Ok.tx.pass.view.draws = omega (arith, draws, c.requires.draw) in (
      search rules,
      search rules,
      begun g.P.Keys.KeyTest.passes c.args.store.now.table.meaning.plan (c.attempts_follow_law.ensures c.args.store.now.table.meaning.plan) c.in-Ok.tx fresh.1 fresh.2 fresh.3 fresh.4 fresh.6 fresh.5 left,
      paired_seen (record { pass = c.pass.inside.pass; keys = c.pass.inside.keys }) c.args.pass c.pass.view_is c.in-Ok.tx (ap (λ (p : PassState _ NamedDone). p.books) c.in-Ok.ensures.pass)
          (ap (λ (p : PassState _ NamedDone). p.room) c.in-Ok.ensures.pass) fresh.3 c.requires.of.paired,
    )
