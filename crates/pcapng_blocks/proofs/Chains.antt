-- Blocks one behind the other, as far as they go.
use Rattle.std.proofs.Common.{◌≡◌, ℕ, zero, suc, ◌+◌, ◌<◌, ◌≤◌, List, [], ◌∷◌, ◌++◌, length, Option, Some, None, refl, sym, ◌∙◌, ap, subst, arith}
use Rattle.capture_terms.specs.Capture.{Answer, captured, refused}
use Rattle.capture_terms.specs.declared.capture.CaptureFault.TheVariants as fault
use Rattle.pcapng_blocks.specs.Answer.{Before, nothing, behind, refusal_at, next_behind, IsTaken, AreBlocks, contents_behind, ending_of, IsBlocksAnswer}
use Rattle.pcapng_blocks.specs.declared.terms.Block.{Block}
use Rattle.pcapng_blocks.specs.declared.terms.Next.{Next}
use Rattle.pcapng_blocks.specs.declared.terms.Next.TheVariants as next
use Rattle.pcapng_blocks.proofs.Sound.{IsSoundBlock, block_sound}

-- the answer where the file goes on no further than to a place
abbrev pub ending_at : List ℕ → Before → ℕ → Option Answer
ending_at bytes before at = ending_of before at (next_behind before bytes at)

-- One block more.

-- a block behind others makes one more of them
pub AreBlocks-append : (bytes : List ℕ) (before : Before) (at : ℕ) (blocks : List Block) (mid : Before) (place : ℕ) (block : Block) → AreBlocks bytes before at blocks mid place → IsTaken bytes mid place block → AreBlocks bytes before at (blocks ++ block ∷ []) (behind mid block.body) (place + block.size)
AreBlocks-append bytes before at [] mid place block all taken =
    let there : IsTaken bytes mid at block = subst (λ (p : ℕ). IsTaken bytes mid p block) (sym all.1) taken in
    let here : IsTaken bytes before at block = subst (λ (b : Before). IsTaken bytes b at block) (sym all.0) there in
    (here, (ap (λ (b : Before). behind b block.body) all.0, ap (λ (p : ℕ). p + block.size) all.1))
AreBlocks-append bytes before at (first ∷ blocks) mid place block all taken =
    (all.0, AreBlocks-append bytes (behind before first.body) (at + first.size) blocks mid place block all.1 taken)

-- Each file has one answer.

-- where a block is taken the file goes on
goes_on : (bytes : List ℕ) (before : Before) (at : ℕ) (block : Block) → IsTaken bytes before at block → ending_at bytes before at ≡ None
goes_on bytes before at block taken = ap (ending_of before at) taken.stands ∙ taken.fits

same_block : (bytes : List ℕ) (before : Before) (at : ℕ) (one two : Block) → IsTaken bytes before at one → IsTaken bytes before at two → two ≡ one
same_block bytes before at one two h k =
    let both : next.Block two ≡ next.Block one = sym k.stands ∙ h.stands in
    cc

-- an ending is no taken block
not_ended : (bytes : List ℕ) (before : Before) (at : ℕ) (block : Block) (last : Before) (end : ℕ) (answer : Answer) → (before ≡ last) × (at ≡ end) → ending_at bytes last end ≡ Some answer → IsTaken bytes before at block → ⊥
not_ended bytes before at block last end answer same ends taken =
    let on : ending_at bytes before at ≡ None = goes_on bytes before at block taken in
    let here : ending_at bytes last at ≡ None = subst (λ (b : Before). ending_at bytes b at ≡ None) same.0 on in
    let there : ending_at bytes last end ≡ None = subst (λ (p : ℕ). ending_at bytes last p ≡ None) same.1 here in
    let clash : None ≡ Some answer = sym there ∙ ends in
    cc

same_ending : (bytes : List ℕ) (before : Before) (at : ℕ) (bs cs : List Block) (b c : Before) (here there : ℕ) (one two : Answer) → AreBlocks bytes before at bs b here → ending_at bytes b here ≡ Some one → AreBlocks bytes before at cs c there → ending_at bytes c there ≡ Some two → one ≡ two
same_ending bytes before at [] [] b c here there one two h ends k ends' =
    let state : b ≡ c = sym h.0 ∙ k.0 in
    let place : here ≡ there = sym h.1 ∙ k.1 in
    let both : ending_at bytes b here ≡ ending_at bytes c there = ap (λ (s : Before). ending_at bytes s here) state ∙ ap (λ (p : ℕ). ending_at bytes c p) place in
    let same : Some one ≡ Some two = sym ends ∙ both ∙ ends' in
    cc
same_ending bytes before at [] (x ∷ cs) b c here there one two h ends k ends' = absurd (not_ended bytes before at x b here one h ends k.0)
same_ending bytes before at (x ∷ bs) [] b c here there one two h ends k ends' = absurd (not_ended bytes before at x c there two k ends' h.0)
same_ending bytes before at (x ∷ bs) (y ∷ cs) b c here there one two h ends k ends' =
    let same : y ≡ x = same_block bytes before at x y h.0 k.0 in
    let rest : AreBlocks bytes (behind before x.body) (at + x.size) cs c there = subst (λ (z : Block). AreBlocks bytes (behind before z.body) (at + z.size) cs c there) same k.1 in
    same_ending bytes (behind before x.body) (at + x.size) bs cs b c here there one two h.1 ends rest ends'

pub same_answer : (bytes : List ℕ) (one two : Answer) → IsBlocksAnswer bytes one → IsBlocksAnswer bytes two → one ≡ two
same_answer bytes one two h k =
    same_ending bytes nothing 0 h.blocks k.blocks h.before k.before h.end k.end one two h.taken h.ends k.taken k.ends

-- Each file has an answer.

-- blocks from a place on, as far as they go
record Walk (bytes : List ℕ) (before : Before) (at : ℕ) : Type 0 where
  blocks : List Block
  after : Before
  end : ℕ
  answer : Answer
  taken : AreBlocks bytes before at blocks after end
  ends : ending_at bytes after end ≡ Some answer

-- what comes next at a place: the end, or a block that is taken
data Step (bytes : List ℕ) (before : Before) (at : ℕ) : Type 0 where
  step_ends : (answer : Answer) → ending_at bytes before at ≡ Some answer → Step bytes before at
  step_takes : (block : Block) → IsTaken bytes before at block → Step bytes before at

step_refusal : (bytes : List ℕ) (before : Before) (at : ℕ) (block : Block) → next_behind before bytes at ≡ next.Block block → (refusal : Option Answer) → refusal_at before at block.body ≡ refusal → Step bytes before at
step_refusal bytes before at block stands None fits = step_takes block record { stands = stands; fits = fits }
step_refusal bytes before at block stands (Some answer) refuses = step_ends answer (ap (ending_of before at) stands ∙ refuses)

step_next : (bytes : List ℕ) (before : Before) (at : ℕ) (found : Next) → next_behind before bytes at ≡ found → Step bytes before at
step_next bytes before at (next.Block block) stands = step_refusal bytes before at block stands (refusal_at before at block.body) refl
step_next bytes before at (next.Tail torn) stands = step_ends (captured (contents_behind before torn)) (ap (ending_of before at) stands)
step_next bytes before at next.Broken stands = step_ends (refused (fault.Block at)) (ap (ending_of before at) stands)
step_next bytes before at next.OtherVersion stands = step_ends (refused (fault.BlockVersion (at + 12))) (ap (ending_of before at) stands)

walk : (more : ℕ) (bytes : List ℕ) (before : Before) (at : ℕ) → at ≤ length bytes → length bytes < at + more → Walk bytes before at
walk zero bytes before at within enough = absurd (omega arith)
walk (suc more) bytes before at within enough = elim (step_next bytes before at (next_behind before bytes at) refl) [
  | step_ends answer ends ↦ record { blocks = []; after = before; end = at; answer = answer; taken = (refl, refl); ends = ends }
  | step_takes block taken ↦
      let sound : IsSoundBlock bytes at block = block_sound before.order before.interfaces bytes at block taken.stands in
      let rest = walk more bytes (behind before block.body) (at + block.size) sound.within (omega (arith, sound.least)) in
      record { blocks = block ∷ rest.blocks; after = rest.after; end = rest.end; answer = rest.answer; taken = (taken, rest.taken); ends = rest.ends }
]

pub right_answer : (bytes : List ℕ) → (answer : Answer) × IsBlocksAnswer bytes answer
right_answer bytes =
    let walked = walk (length bytes + 1) bytes nothing 0 (omega arith) (omega arith) in
    (walked.answer, record { blocks = walked.blocks; before = walked.after; end = walked.end; taken = walked.taken; ends = walked.ends })
