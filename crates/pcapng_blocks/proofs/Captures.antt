-- What holds of every capture.
use Rattle.std.proofs.Common.{◌≡◌, ℕ, ◌+◌, ◌<◌, ◌≤◌, Bool, true, false, cond, List, [], ◌∷◌, length, Option, Some, None, refl, subst, arith, length-append}
use Rattle.std.specs.Prelude.{All, is_none, nat_le}
use Rattle.std.proofs.lemmas.Bool.Decides.{nat_tests}
use Rattle.std.proofs.lemmas.List.Elements.{All-nil, All-cons, All-append}
use Rattle.capture_terms.specs.Capture.{captured, refused, too_many_frames, Contents, IsAcceptedLink, IsWithin, link_numbered}
use Rattle.capture_terms.specs.declared.capture.CaptureFault.TheVariants as fault
use Rattle.capture_terms.specs.declared.capture.Link.{Link}
use Rattle.pcapng_blocks.specs.Answer.{Before, nothing, behind, is_mixed, packet_refusal, refusal_at, next_behind, AreBlocks, link_of, contents_behind, ending_of, IsBlocksAnswer, IsSound}
use Rattle.pcapng_blocks.specs.Times.{IsTimed}
use Rattle.pcapng_blocks.specs.declared.terms.Block.{Block}
use Rattle.pcapng_blocks.specs.declared.terms.Body.{Body}
use Rattle.pcapng_blocks.specs.declared.terms.Body.TheVariants as body
use Rattle.pcapng_blocks.specs.declared.terms.Next.{Next}
use Rattle.pcapng_blocks.specs.declared.terms.Next.TheVariants as next
use Rattle.pcapng_blocks.specs.declared.terms.Packet.{Packet}
use Rattle.pcapng_blocks.proofs.Sound.{IsSoundBody, IsSoundBlock, block_sound}

-- of what is said before a place
record IsSoundBefore (bytes : List ℕ) (before : Before) : Type 0 where
  link : IsAcceptedLink (link_of before.link)
  few : length before.frames ≤ 262144
  within : All (IsWithin bytes) before.frames
  times : All IsTimed before.frames

sound_nothing : (bytes : List ℕ) → IsSoundBefore bytes nothing
sound_nothing bytes = record { link = refl; few = omega arith; within = All-nil (IsWithin bytes); times = All-nil IsTimed }

-- a packet that isn't refused has an accepted link, and there is room for its frame
record Fits (before : Before) (packet : Packet) : Type 0 where
  link : IsAcceptedLink packet.link
  few : length before.frames < 262144

fits_by : (before : Before) (at : ℕ) (packet : Packet) (found : Option Link) → link_numbered packet.link ≡ found → (mixed many : Bool) → nat_le 262144 (length before.frames) ≡ many → cond (is_none found) (Some (refused (fault.BlockLink packet.link packet.link_at))) (cond mixed (Some (refused (fault.MixedLink at))) (cond many (Some too_many_frames) None)) ≡ None → Fits before packet
fits_by before at packet None numbered mixed many few fits = absurd (cc)
fits_by before at packet (Some link) numbered true many few fits = absurd (cc)
fits_by before at packet (Some link) numbered false true few fits = absurd (cc)
fits_by before at packet (Some link) numbered false false few fits = record { link = rw numbered refl; few = grind (arith, nat_tests) }

packet_fits : (before : Before) (at : ℕ) (packet : Packet) → packet_refusal before at packet ≡ None → Fits before packet
unfolding packet_refusal
packet_fits before at packet fits =
    fits_by before at packet (link_numbered packet.link) refl (is_mixed before.link packet.link) (nat_le 262144 (length before.frames)) refl fits

sound_body : (bytes : List ℕ) (before : Before) (at : ℕ) (said : Body) → refusal_at before at said ≡ None → IsSoundBody bytes said → IsSoundBefore bytes before → IsSoundBefore bytes (behind before said)
sound_body bytes before at (body.Section order) fits sound all = record { link = all.link; few = all.few; within = all.within; times = all.times }
sound_body bytes before at (body.Interface interface) fits sound all = record { link = all.link; few = all.few; within = all.within; times = all.times }
sound_body bytes before at (body.Packet packet) fits sound all =
    let may : Fits before packet = packet_fits before at packet fits in
    record {
      link = may.link;
      few = omega (arith, may.few, length-append before.frames (packet.frame ∷ []));
      within = All-append (IsWithin bytes) before.frames (packet.frame ∷ []) all.within (All-cons (IsWithin bytes) packet.frame [] sound.0 (All-nil (IsWithin bytes)));
      times = All-append IsTimed before.frames (packet.frame ∷ []) all.times (All-cons IsTimed packet.frame [] sound.1 (All-nil IsTimed));
    }
sound_body bytes before at body.Passed fits sound all = all

sound_blocks : (bytes : List ℕ) (before : Before) (at : ℕ) (blocks : List Block) (after : Before) (end : ℕ) → AreBlocks bytes before at blocks after end → IsSoundBefore bytes before → IsSoundBefore bytes after
sound_blocks bytes before at [] after end taken all = subst (IsSoundBefore bytes) taken.0 all
sound_blocks bytes before at (block ∷ blocks) after end taken all =
    let sound : IsSoundBlock bytes at block = block_sound before.order before.interfaces bytes at block taken.0.stands in
    sound_blocks bytes (behind before block.body) (at + block.size) blocks after end taken.1 (sound_body bytes before at block.body taken.0.fits sound.body all)

-- no refusal is a capture
not_refused_by : (before : Before) (at : ℕ) (packet : Packet) (contents : Contents) (lacking mixed many : Bool) → cond lacking (Some (refused (fault.BlockLink packet.link packet.link_at))) (cond mixed (Some (refused (fault.MixedLink at))) (cond many (Some too_many_frames) None)) ≡ Some (captured contents) → ⊥
not_refused_by before at packet contents true mixed many same = cc
not_refused_by before at packet contents false true many same = cc
not_refused_by before at packet contents false false true same = cc
not_refused_by before at packet contents false false false same = cc

not_refused : (before : Before) (at : ℕ) (said : Body) (contents : Contents) → refusal_at before at said ≡ Some (captured contents) → ⊥
unfolding packet_refusal
not_refused before at (body.Section order) contents same = cc
not_refused before at (body.Interface interface) contents same = cc
not_refused before at (body.Packet packet) contents same =
    not_refused_by before at packet contents (is_none (link_numbered packet.link)) (is_mixed before.link packet.link) (nat_le 262144 (length before.frames)) same
not_refused before at body.Passed contents same = cc

-- a capture ends at a tail
contents_at : (before : Before) (at : ℕ) (found : Next) (contents : Contents) → ending_of before at found ≡ Some (captured contents) → (torn : ℕ) × (contents_behind before torn ≡ contents)
contents_at before at (next.Block block) contents same = absurd (not_refused before at block.body contents same)
contents_at before at (next.Tail torn) contents same = (torn, cc)
contents_at before at next.Broken contents same = absurd (cc)
contents_at before at next.OtherVersion contents same = absurd (cc)

pub sound_capture : (bytes : List ℕ) (contents : Contents) → IsBlocksAnswer bytes (captured contents) → IsSound bytes contents
sound_capture bytes contents right =
    let all : IsSoundBefore bytes right.before = sound_blocks bytes nothing 0 right.blocks right.before right.end right.taken (sound_nothing bytes) in
    let same = contents_at right.before right.end (next_behind right.before bytes right.end) contents right.ends in
    let sound : IsSound bytes (contents_behind right.before same.0) = record { nanos = refl; link = all.link; few = all.few; within = all.within; times = all.times } in
    subst (IsSound bytes) same.1 sound
