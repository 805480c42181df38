use Rattle.std.proofs.Common.{◌≡◌, ℕ, ◌+◌, List, [], ◌∷◌, ◌++◌, sym, subst, arith}
use Rattle.pcapng_blocks.specs.Answer.{Before, AreBlocks, next_behind, nothing}
use Rattle.pcapng_blocks.specs.Reader.{before_of, Takes}
use Rattle.pcapng_blocks.specs.declared.capture.Reading.{Reading}
use Rattle.pcapng_blocks.specs.declared.terms.Block.{Block}
use Rattle.pcapng_blocks.specs.declared.terms.Next.TheVariants as next
use Rattle.pcapng_blocks.proofs.Chains.{AreBlocks-append}
use Rattle.pcapng_blocks.proofs.Sound.{IsSoundBlock, block_sound}
use Rattle.pcapng_blocks.proofs.capture.walk.Goals as goal

one_more : (bytes : List ℕ) (blocks : List Block) (old : Reading) (at : ℕ) (block : Block) (new : Reading) → AreBlocks bytes nothing 0 blocks (before_of old) at → next_behind (before_of old) bytes at ≡ next.Block block → Takes old at block.body new → AreBlocks bytes nothing 0 (blocks ++ block ∷ []) (before_of new) (at + block.size)
one_more bytes blocks old at block new all stands takes =
    let more = AreBlocks-append bytes nothing 0 blocks (before_of old) at block all record { stands = stands; fits = takes.fits } in
    subst (λ (before : Before). AreBlocks bytes nothing 0 (blocks ++ block ∷ []) before (at + block.size)) (sym takes.behind) more

pub loop-block-preserved : goal.loop-block-preserved
loop-block-preserved c =
    let stands : next_behind (before_of c.loop-block.reading) c.args.bytes.now c.loop-block.at ≡ next.Block c.in-Block.block = cc (c.deref.ensures.value, c.next_at.ensures, c.in-Block.is) in
    let sound : IsSoundBlock c.args.bytes.now c.loop-block.at c.in-Block.block = block_sound _ _ _ _ _ stands in
    (c.loop-block.invariant.0 ++ c.in-Block.block ∷ [], one_more _ _ _ _ _ _ c.loop-block.invariant.1 stands c.in_ok-take-in-Block.ensures.taken, sound.within)

pub loop-block-smaller : goal.loop-block-smaller
loop-block-smaller c =
    let stands : next_behind (before_of c.loop-block.reading) c.args.bytes.now c.loop-block.at ≡ next.Block c.in-Block.block = cc (c.deref.ensures.value, c.next_at.ensures, c.in-Block.is) in
    let sound : IsSoundBlock c.args.bytes.now c.loop-block.at c.in-Block.block = block_sound _ _ _ _ _ stands in
    omega (arith, sound.least, sound.within)
