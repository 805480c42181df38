use Rattle.std.proofs.Common.{rules, List, [], ap, ◌∙◌, refl}
use Rattle.cell_table.specs.declared.view.Noted.{Noted}
use Rattle.serial_terms.specs.Renaming.{NamedDone, by_key, entries_with}
use Rattle.store_contents.proofs.Booking.{caller_is, book_more, all_books}
use Rattle.store_history.specs.Books.{records_from}
use Rattle.store_contents.proofs.books.record_books.Goals as goal

pub loop-caller-preserved : goal.loop-caller-preserved
loop-caller-preserved g c = book_more c.args.pass.now.books c.loop-caller.caller (record { caller = 0; entries = [] }) c.loop-caller.books.items _ _ (search rules)
    (caller_is _ _ c.args.pass.now c.legal_law.ensures c.requires c.loop-caller.caller (record { caller = 0; entries = [] }) (search rules)) refl
    (c.in_ok-records.ensures ∙ ap (λ (z : List (Noted NamedDone)). entries_with by_key (records_from (λ notes. notes) c.loop-caller.caller 0 z)) c.entries.ensures) c.loop-caller.invariant c.in_ok-push.ensures.items

pub returns : goal.returns
returns g c = all_books c.loop-caller.caller c.args.pass.now.books c.loop-caller.books.items (search rules) c.loop-caller.invariant
