use Rattle.std.proofs.Common.{length}
use Rattle.command_words.proofs.command.+inspection_by.Given as goal

abbrev pub decreases-inspection_by : goal.decreases-inspection_by
decreases-inspection_by l = length l.words.now
