use Rattle.std.proofs.Common.{◌≤◌, ◌∙◌, sym, subst, arith}
use Rattle.serial_terms.specs.declared.sight.SightEnd.TheVariants.{Aborted}
use Rattle.serial_terms.specs.Renaming.{by_key, by_name}
use Rattle.tx_store.specs.Known.{Vouches}
use Rattle.tx_store.specs.Resolves.{parts_of}
use Rattle.tx_store.specs.Runs.{IsAnswered}
use Rattle.tx_store.specs.Stores.{StoreView}
use Rattle.tx_store.proofs.Trying.{stopped_full, refused_full}
use Rattle.tx_store.proofs.Running.{begins, ends_aborted, ends_committed, ends_refused, left, refused, stopped, at_store}
use Rattle.tx_store.proofs.run.once.Goals as goal

pub returns-in-Ok-commit-clause-left : goal.returns-in-Ok-commit-clause-left
returns-in-Ok-commit-clause-left g c =
    let begun = begins c.args.store.now c.args.pass c.in-Ok.tx c.in-Ok.ensures.store c.in-Ok.ensures.pass c.in-Ok.ensures.version c.in-Ok.ensures.grows in
    left c.args.store.now c.args.pass c.in-Ok.tx c.body.new.tx c.in-Ok-commit.done.0 begun c.body.ensures.same (ends_committed c.body.new.tx c.in-Ok-commit.done.0 c.in-Ok-commit.done.1 c.in-Ok-commit.ensures.committed)

pub returns-in-Err-commit-clause-refused : goal.returns-in-Err-commit-clause-refused
returns-in-Err-commit-clause-refused g c =
    let begun = begins c.args.store.now c.args.pass c.in-Ok.tx c.in-Ok.ensures.store c.in-Ok.ensures.pass c.in-Ok.ensures.version c.in-Ok.ensures.grows in
    let is = c.in-Err-commit.ensures.refused in
    let tells = c.tells_law.ensures in
    let notes = c.body.new.tx.attempt.notes in
    let allowed : g.P.Purpose.allowed c.args.store.now.table.meaning.purpose (by_key c.body.new.tx.attempt.notes) = subst (λ (s : StoreView _). g.P.Purpose.allowed s.table.meaning.purpose (by_key c.body.new.tx.attempt.notes)) begun.store c.in-Ok-body.ensures.ok.1 in (
      is.refuses.books ∙ (c.body.ensures.same.books ∙ begun.books),
      rw c.after_refusal.ensures (refused g.P.Purpose.lawful_state c.args.store.now c.args.pass c.in-Ok.tx c.body.new.tx c.in-Err-commit.refused.0 begun c.body.ensures.same
          (parts_of c.args.store.now.table.meaning.plan) (IsAnswered (g.P.Purpose.allowed c.args.store.now.table.meaning.purpose) (g.B.Body.runs c.args.body.now))
          (λ part past. tells.waits.there part (subst (λ (s : StoreView _). parts_of s.table.meaning.plan ≤ part) (sym (c.body.ensures.same.store ∙ begun.store)) past))
          (record {
            allowed = allowed;
            placed = g.met.P.Purpose.renamed c.args.store.now.table.meaning.purpose (by_key notes) (by_name notes) tells.named allowed;
            answer = c.in-Ok-body.out;
            ran = c.in-Ok-body.ensures.ok.2;
          })
          c.in-Err-commit.refused.1 is),
    )

pub returns-in-Err-commit-clause-left_refused : goal.returns-in-Err-commit-clause-left_refused
returns-in-Err-commit-clause-left_refused g c =
    let begun = begins c.args.store.now c.args.pass c.in-Ok.tx c.in-Ok.ensures.store c.in-Ok.ensures.pass c.in-Ok.ensures.version c.in-Ok.ensures.grows in
    left c.args.store.now c.args.pass c.in-Ok.tx c.body.new.tx c.in-Err-commit.refused.0 begun c.body.ensures.same (ends_refused g.P.Purpose.lawful_state c.body.new.tx c.in-Err-commit.refused.0 c.in-Err-commit.refused.1 c.in-Err-commit.ensures.refused)

pub returns-in-Err-body-clause-refused : goal.returns-in-Err-body-clause-refused
returns-in-Err-body-clause-refused g c =
    let begun = begins c.args.store.now c.args.pass c.in-Ok.tx c.in-Ok.ensures.store c.in-Ok.ensures.pass c.in-Ok.ensures.version c.in-Ok.ensures.grows in
    let same = c.body.ensures.same in
    let gone = c.abort.ensures in
    let ended = ends_aborted c.body.new.tx c.abort.result _ gone.of gone.keys gone.idle gone.seen gone.books gone.pass gone.grows gone.steps in (
      gone.books ∙ (same.books ∙ begun.books),
      rw c.after_stop.ensures (stopped c.args.store.now c.args.pass c.in-Ok.tx c.body.new.tx c.abort.result begun same ended (Vouches g.P.Purpose.lawful_state c.args.store.now.table.meaning) (parts_of c.args.store.now.table.meaning.plan) (IsAnswered (g.P.Purpose.allowed c.args.store.now.table.meaning.purpose) (g.B.Body.runs c.args.body.now))
          (record { caller = 0; after = 0; place = c.body.new.tx.attempt.version; end = Aborted; dones = c.body.new.tx.attempt.notes }) (omega arith)
          (at_store g.P.Purpose.lawful_state c.args.store.now c.body.new.tx.store c.abort.result _ (same.store ∙ begun.store) (gone.sees 0 0)) c.in-Err-body.stop c.in-Err-body.ensures.stopped),
    )

pub returns-in-Err-body-clause-left_refused : goal.returns-in-Err-body-clause-left_refused
returns-in-Err-body-clause-left_refused g c =
    let begun = begins c.args.store.now c.args.pass c.in-Ok.tx c.in-Ok.ensures.store c.in-Ok.ensures.pass c.in-Ok.ensures.version c.in-Ok.ensures.grows in
    let gone = c.abort.ensures in
    left c.args.store.now c.args.pass c.in-Ok.tx c.body.new.tx c.abort.result begun c.body.ensures.same (ends_aborted c.body.new.tx c.abort.result _ gone.of gone.keys gone.idle gone.seen gone.books gone.pass gone.grows gone.steps)

pub returns-in-Err-commit-clause-full : goal.returns-in-Err-commit-clause-full
returns-in-Err-commit-clause-full g c = rw c.after_refusal.ensures (refused_full (g.B.Body.keys_full c.args.body.now) c.in-Err-commit.refused.1)

pub returns-in-Err-body-clause-full : goal.returns-in-Err-body-clause-full
returns-in-Err-body-clause-full g c = rw c.after_stop.ensures (stopped_full (g.B.Body.keys_full c.args.body.now) c.in-Err-body.stop c.in-Err-body.ensures.full)
