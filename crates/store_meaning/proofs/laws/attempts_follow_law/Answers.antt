use Rattle.store_meaning.proofs.Attempts.{attempts_follow}
use Rattle.store_meaning.proofs.laws.attempts_follow_law.Goals as goal

pub returns : goal.returns
returns c = attempts_follow c.nothing_waits_behind_law.ensures c.changes_stay_in_object_law.ensures
