use Rattle.std.proofs.Common.{◌≤◌, ◌-◌, List, length}
use Rattle.pcapng_blocks.specs.Answer.{AreBlocks, nothing}
use Rattle.pcapng_blocks.specs.Reader.{before_of}
use Rattle.pcapng_blocks.specs.declared.terms.Block.{Block}
use Rattle.pcapng_blocks.proofs.capture.walk.Given as goal

abbrev pub invariant-loop-block : goal.invariant-loop-block
invariant-loop-block l =
    (blocks : List Block) × AreBlocks l.bytes nothing 0 blocks (before_of l.reading) l.at × (l.at ≤ length l.bytes)

abbrev pub decreases-loop-block : goal.decreases-loop-block
decreases-loop-block l = length l.bytes - l.at
