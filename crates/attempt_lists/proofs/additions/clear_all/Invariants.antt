use Rattle.std.proofs.Common.{◌≡◌, ◌++◌, take, drop, map}
use Rattle.attempt_lists.specs.Parts.{clears}
use Rattle.attempt_lists.proofs.additions.clear_all.Given as goal

abbrev pub invariant-loop-part : goal.invariant-loop-part
invariant-loop-part l = l.parts ≡ map clears (take l.part-index l.initial.parts) ++ drop l.part-index l.initial.parts
