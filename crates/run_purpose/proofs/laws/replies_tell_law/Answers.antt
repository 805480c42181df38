use Rattle.run_purpose.proofs.Telling.{replies_tell}
use Rattle.run_purpose.proofs.laws.replies_tell_law.Goals as goal

pub returns : goal.returns
returns c = replies_tell c.taken_is_task_law.ensures c.added_word_fits_law.ensures c.queued_is_datagram_law.ensures
