use Rattle.std.proofs.Common.{◌≡◌, ◌∙◌, refl, ap}
use Rattle.attempt_lists.specs.Cells.{word_at}
use Rattle.cell_table.specs.Pass.{PassState}
use Rattle.cell_table.specs.Rule.{callers_of}
use Rattle.tx_nest.specs.OverTxLaws.{mark_read}
use Rattle.tx_nest.proofs.nest_tests.ReadsBehindAnotherChildBodyTxUntold.body.Goals as goal

pub returns-in-Ok-clause-stays : goal.returns-in-Ok-clause-stays
returns-in-Ok-clause-stays c =
    let old = c.args.tx.now in
    let new = c.read.new.self in
    let looks = c.read.ensures.pass in
    let kept = mark_read old new 0 c.in-Ok.value (word_at old.writes 0) (word_at old.observations 0) refl refl c.requires.marked
    (λ y w. (c.read.ensures.own y w).1) (λ y w s. (c.read.ensures.seen_before y w s).1) (λ w s. c.in-Ok.ensures.observes w s) in
    let books : new.pass.books ≡ old.pass.books = ap (λ (p : PassState _ _). p.books) looks.0 in
    let room : new.pass.room ≡ old.pass.room = ap (λ (p : PassState _ _). p.room) looks.0 in (
      record {
        same = record { over = kept.3; fixed = rw (books, looks.1.books, looks.1.draws, looks.1.grows.total, room) refl; callers = ap callers_of looks.1.books; before_commit = kept.2 ∙ c.requires.child.before_commit };
        version = c.read.ensures.looks.does.version;
        marked = kept.0;
        trail = (c.read.ensures.looks.does.steps.0, c.read.ensures.looks.does.steps.1);
      },
      kept.1,
    )
