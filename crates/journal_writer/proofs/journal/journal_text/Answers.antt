use Rattle.journal_writer.specs.Journals.{journal_of}
use Rattle.journal_writer.proofs.Joined.{journal_joined}
use Rattle.journal_writer.proofs.journal.journal_text.Goals as goal

pub returns : goal.returns
returns c =
    journal_joined (journal_of c.args.sizes c.args.records.now c.args.sights.now c.args.format) _ _ _ _ _ _
    c.new-text.ensures.items (c.in_ok-push_title.ensures c.args.sights.now) c.in_ok-push_sizes.ensures c.in_ok-push_history.ensures c.in_ok-push_seen.ensures c.in_ok-extend_from_slice.ensures.items
