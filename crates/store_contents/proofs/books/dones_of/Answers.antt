use Rattle.std.proofs.Common.{rules, [], ◌∷◌, ◌++◌, ap, ◌∙◌}
use Rattle.serial_terms.specs.declared.call.Done.{Done}
use Rattle.serial_terms.specs.Renaming.{NamedDone}
use Rattle.store_contents.proofs.Booking.{done_more}
use Rattle.store_contents.proofs.books.dones_of.Goals as goal

pub loop-note-preserved : goal.loop-note-preserved
loop-note-preserved c = done_more c.args.notes.now c.loop-note.note-index c.note-item.result c.loop-note.dones.items _ (search rules) (search rules) c.loop-note.invariant
    (c.in_ok-push.ensures.items ∙ ap (λ (d : Done). c.loop-note.dones.items ++ d ∷ []) (ap (λ (n : NamedDone). n.done) c.note.view_is))
