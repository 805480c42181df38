use Rattle.journal_writer.proofs.Tells.{tells}
use Rattle.journal_writer.proofs.laws.texts_tell_law.Goals as goal

pub returns : goal.returns
returns c = tells c.one_text_one_journal_law.ensures
