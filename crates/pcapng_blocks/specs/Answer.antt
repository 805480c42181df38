-- What a pcapng file is: a capture, or refused for the first reason that holds. Ours alone is that the
-- packets of a capture have one link type.
use Rattle.std.specs.Prelude.{◌≡◌, ℕ, ◌+◌, ◌≤◌, Bool, true, false, not, All, ◌==◌, nat_le, List, [], ◌∷◌, ◌++◌, length, Option, Some, None, is_none, Result, Ok, Err, if◌then◌else◌}
use Rattle.capture_terms.specs.Capture.{Answer, captured, refused, too_many_frames, Contents, contents_of, link_numbered, IsAcceptedLink, IsWithin}
use Rattle.capture_terms.specs.declared.capture.Capture.{Capture}
use Rattle.capture_terms.specs.declared.capture.CaptureFault.TheVariants as fault
use Rattle.capture_terms.specs.declared.capture.Endianness.{Endianness}
use Rattle.capture_terms.specs.declared.capture.Endianness.TheVariants.{Little}
use Rattle.capture_terms.specs.declared.capture.Frame.{Frame}
use Rattle.pcapng_blocks.specs.Blocks.{is_section, next_at}
use Rattle.pcapng_blocks.specs.Times.{IsTimed}
use Rattle.pcapng_blocks.specs.declared.capture.BlocksEnd.{BlocksEnd}
use Rattle.pcapng_blocks.specs.declared.capture.BlocksEnd.TheVariants as end
use Rattle.pcapng_blocks.specs.declared.terms.Block.{Block}
use Rattle.pcapng_blocks.specs.declared.terms.Body.{Body}
use Rattle.pcapng_blocks.specs.declared.terms.Body.TheVariants as body
use Rattle.pcapng_blocks.specs.declared.terms.Interface.{Interface}
use Rattle.pcapng_blocks.specs.declared.terms.Next.{Next}
use Rattle.pcapng_blocks.specs.declared.terms.Next.TheVariants as next
use Rattle.pcapng_blocks.specs.declared.terms.Packet.{Packet}

-- the file begins as pcapng files do, with the type of a section header
abbrev pub is_pcapng : List ℕ → Bool
is_pcapng bytes = is_section bytes 0

-- The blocks one behind the other.

-- what the blocks before a place say: the section's byte order and its interfaces so far, and the link
-- type and the frames of all packets
pub record Before : Type 0 where
  pub order : Endianness
  pub interfaces : List Interface
  pub link : Option ℕ
  pub frames : List Frame

-- nothing at the head of a file; its first block tells its byte order itself
abbrev pub nothing : Before
nothing = record { order = Little; interfaces = []; link = None; frames = [] }

-- what is said with one block more. A section has its own interfaces.
abbrev pub behind : Before → Body → Before
behind before (body.Section order) = record { order = order; interfaces = []; link = before.link; frames = before.frames }
behind before (body.Interface interface) = record before { interfaces = before.interfaces ++ interface ∷ [] }
behind before (body.Packet packet) = record before { link = Some packet.link; frames = before.frames ++ packet.frame ∷ [] }
behind before body.Passed = before

-- the packets before have another link type, if there are any
abbrev pub is_mixed : Option ℕ → ℕ → Bool
is_mixed None link = false
is_mixed (Some other) link = not (other == link)

-- why a packet, whose block stands at a place, is refused behind these, if it is
unfoldable pub packet_refusal : Before → ℕ → Packet → Option Answer
packet_refusal before at packet =
    if is_none (link_numbered packet.link) then Some (refused (fault.BlockLink packet.link packet.link_at))
    else if is_mixed before.link packet.link then Some (refused (fault.MixedLink at))
    else if nat_le 262144 (length before.frames) then Some too_many_frames
    else None

abbrev pub refusal_at : Before → ℕ → Body → Option Answer
refusal_at before at (body.Packet packet) = packet_refusal before at packet
refusal_at before at (body.Section order) = None
refusal_at before at (body.Interface interface) = None
refusal_at before at body.Passed = None

-- what stands at a place behind these
abbrev pub next_behind : Before → List ℕ → ℕ → Next
next_behind before bytes at = next_at before.order before.interfaces bytes at

-- a whole block that isn't refused stands at a place
pub record IsTaken (bytes : List ℕ) (before : Before) (at : ℕ) (block : Block) : Type 0 where
  pub stands : next_behind before bytes at ≡ next.Block block
  pub fits : refusal_at before at block.body ≡ None

-- such blocks stand from one place up to another, each where the one before it ends
abbrev pub AreBlocks : List ℕ → Before → ℕ → List Block → Before → ℕ → Type 0
AreBlocks bytes before at [] after end = (before ≡ after) × (at ≡ end)
AreBlocks bytes before at (block ∷ blocks) after end =
    IsTaken bytes before at block × AreBlocks bytes (behind before block.body) (at + block.size) blocks after end

-- The answer.

-- a capture without packets is of link type 1
abbrev pub link_of : Option ℕ → ℕ
link_of None = 1
link_of (Some link) = link

-- the capture of these packets. Its fractions are nanoseconds.
abbrev pub contents_behind : Before → ℕ → Contents
contents_behind before torn = record { nanos = true; link = link_of before.link; frames = before.frames; torn = torn }

-- what the file is if it goes on no further than to this place, where this stands
abbrev pub ending_of : Before → ℕ → Next → Option Answer
ending_of before at (next.Tail torn) = Some (captured (contents_behind before torn))
ending_of before at next.Broken = Some (refused (fault.Block at))
ending_of before at next.OtherVersion = Some (refused (fault.BlockVersion (at + 12)))
ending_of before at (next.Block block) = refusal_at before at block.body

-- the answer is the right one: it ends the file behind blocks from its first byte on
pub record IsBlocksAnswer (bytes : List ℕ) (answer : Answer) : Type 0 where
  pub blocks : List Block
  pub before : Before
  pub end : ℕ
  pub taken : AreBlocks bytes nothing 0 blocks before end
  pub ends : ending_of before end (next_behind before bytes end) ≡ Some answer

-- what holds of every capture: its frames are few and of an accepted link type, their bytes lie in the
-- file, and their times are in seconds and nanoseconds
pub record IsSound (bytes : List ℕ) (contents : Contents) : Type 0 where
  pub nanos : contents.nanos ≡ true
  pub link : IsAcceptedLink contents.link
  pub few : length contents.frames ≤ 262144
  pub within : All (IsWithin bytes) contents.frames
  pub times : All IsTimed contents.frames

-- What the answers of `blocks` say of a file.

-- the reason of a refusal; want of memory says nothing of the file
abbrev pub refusal_of : BlocksEnd → Option Answer
refusal_of (end.Block at) = Some (refused (fault.Block at))
refusal_of (end.Version at) = Some (refused (fault.BlockVersion at))
refusal_of (end.Link number at) = Some (refused (fault.BlockLink number at))
refusal_of (end.Mixed at) = Some (refused (fault.MixedLink at))
refusal_of end.TooMany = Some too_many_frames
refusal_of end.Memory = None

-- what a result says of the file
abbrev pub answer_of : Result Capture BlocksEnd → Option Answer
answer_of (Ok capture) = Some (captured (contents_of capture))
answer_of (Err reason) = refusal_of reason
