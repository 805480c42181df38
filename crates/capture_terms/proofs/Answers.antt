-- No two answers are right about one file.
use Rattle.std.proofs.Common.{◌≡◌, ℕ, ◌≤◌, ◌⊎◌, inl, inr, Bool, List, length, refl, sym, ◌∙◌, ap, subst, arith}
use Rattle.capture_terms.specs.Numbers.{number32}
use Rattle.capture_terms.specs.Capture.{HasMagic, has_nanos, IsHeader, IsAcceptedLink, link_of, HasFrames, IsTail, Contents, Says, HasShortHeader, HasOtherMagic, HasOtherVersion, HasOtherLink, HasLongRecord, HasTooManyFrames, Answer, captured, refused, too_many_frames, IsAnswer}
use Rattle.capture_terms.specs.declared.capture.CaptureFault.TheVariants as fault
use Rattle.capture_terms.specs.declared.capture.Endianness.{Endianness}
use Rattle.capture_terms.specs.declared.capture.Endianness.TheVariants.{Little, Big}
use Rattle.capture_terms.specs.declared.capture.Frame.{Frame}
use Rattle.capture_terms.proofs.Records.{HasNoRecord, tail_has_none, long_has_none, tail_not_long, same_records, no_more_records}

-- the magic number reads differently in the other byte order
not_both_orders : (bytes : List ℕ) → HasMagic Little bytes → HasMagic Big bytes → ⊥
unfolding number32
not_both_orders bytes (inl h) (inl k) = omega arith
not_both_orders bytes (inl h) (inr k) = omega arith
not_both_orders bytes (inr h) (inl k) = omega arith
not_both_orders bytes (inr h) (inr k) = omega arith

same_order : (bytes : List ℕ) (one two : Endianness) → HasMagic one bytes → HasMagic two bytes → one ≡ two
same_order bytes Little Little h k = refl
same_order bytes Little Big h k = absurd (not_both_orders bytes h k)
same_order bytes Big Little h k = absurd (not_both_orders bytes k h)
same_order bytes Big Big h k = refl

has_no_header : (bytes : List ℕ) (at : ℕ) → HasShortHeader bytes at ⊎ HasOtherMagic bytes at → (order : Endianness) → 24 ≤ length bytes → HasMagic order bytes → ⊥
has_no_header bytes at (inl h) order long magic = omega (arith, h.short)
has_no_header bytes at (inr h) Little long magic = h.little magic
has_no_header bytes at (inr h) Big long magic = h.big magic

has_no_version : (bytes : List ℕ) → HasOtherVersion bytes → (order : Endianness) → IsHeader order bytes → ⊥
has_no_version bytes h order header =
    let same : order ≡ h.order = same_order bytes order h.order header.magic h.magic in
    let theirs : IsHeader h.order bytes = subst (λ (o : Endianness). IsHeader o bytes) same header in
    h.other theirs.version

has_no_link : (bytes : List ℕ) (link : ℕ) → HasOtherLink bytes link → (order : Endianness) → IsHeader order bytes → IsAcceptedLink (link_of order bytes) → ⊥
has_no_link bytes link h order header accepted =
    let same : order ≡ h.order = same_order bytes order h.order header.magic h.header.magic in
    let ours : link_of order bytes ≡ link = ap (λ (o : Endianness). link_of o bytes) same ∙ sym h.network in
    h.other (subst IsAcceptedLink ours accepted)

same_bad_header : (bytes : List ℕ) (one two : ℕ) → HasShortHeader bytes one ⊎ HasOtherMagic bytes one → HasShortHeader bytes two ⊎ HasOtherMagic bytes two → one ≡ two
same_bad_header bytes one two (inl h) (inl k) = h.place ∙ sym k.place
same_bad_header bytes one two (inl h) (inr k) = absurd (omega (arith, h.short, k.long))
same_bad_header bytes one two (inr h) (inl k) = absurd (omega (arith, h.long, k.short))
same_bad_header bytes one two (inr h) (inr k) = h.place ∙ sym k.place

same_link : (bytes : List ℕ) (one two : ℕ) → HasOtherLink bytes one → HasOtherLink bytes two → one ≡ two
same_link bytes one two h k =
    let same : h.order ≡ k.order = same_order bytes h.order k.order h.header.magic k.header.magic in
    h.network ∙ ap (λ (o : Endianness). link_of o bytes) same ∙ sym k.network

-- frames that go on as far as they can, in whatever byte order
same_frames : (bytes : List ℕ) (one two : Endianness) (fs gs : List Frame) (here there : ℕ) → HasFrames one bytes fs here → HasNoRecord one bytes here → HasFrames two bytes gs there → HasNoRecord two bytes there → (one ≡ two) × (fs ≡ gs) × (here ≡ there)
same_frames bytes one two fs gs here there h stop k stop' =
    let same : two ≡ one = same_order bytes two one k.header.magic h.header.magic in
    let k' : HasFrames one bytes gs there = subst (λ (o : Endianness). HasFrames o bytes gs there) same k in
    let stop'' : HasNoRecord one bytes there = subst (λ (o : Endianness). HasNoRecord o bytes there) same stop' in
    let both = same_records one bytes 24 fs gs here there h.records stop k'.records stop'' in
    (sym same, both.0, both.1)

not_too_many : (bytes : List ℕ) → HasTooManyFrames bytes → (order : Endianness) (frames : List Frame) (end : ℕ) → HasFrames order bytes frames end → HasNoRecord order bytes end → ⊥
not_too_many bytes h order frames end k stop =
    let same : order ≡ h.order = same_order bytes order h.order k.header.magic h.before.header.magic in
    let k' : HasFrames h.order bytes frames end = subst (λ (o : Endianness). HasFrames o bytes frames end) same k in
    let stop' : HasNoRecord h.order bytes end = subst (λ (o : Endianness). HasNoRecord o bytes end) same stop in
    no_more_records h.order bytes 24 frames h.frames end h.end h.next k'.records stop' h.before.records h.more (omega (arith, h.many, k.few))

captured_not_too_many : (bytes : List ℕ) (contents : Contents) → Says bytes contents → HasTooManyFrames bytes → ⊥
captured_not_too_many bytes contents h k = not_too_many bytes k h.order contents.frames h.end h.before (tail_has_none h.order bytes h.end contents.torn h.tail)

long_not_too_many : (bytes : List ℕ) (at : ℕ) → HasLongRecord bytes at → HasTooManyFrames bytes → ⊥
long_not_too_many bytes at h k = not_too_many bytes k h.order h.frames at h.before (long_has_none h.order bytes at h.long)

captured_not_long : (bytes : List ℕ) (contents : Contents) (at : ℕ) → Says bytes contents → HasLongRecord bytes at → ⊥
captured_not_long bytes contents at h k =
    let both = same_frames bytes h.order k.order contents.frames k.frames h.end at h.before (tail_has_none h.order bytes h.end contents.torn h.tail) k.before (long_has_none k.order bytes at k.long) in
    let tail : IsTail k.order bytes h.end contents.torn = subst (λ (o : Endianness). IsTail o bytes h.end contents.torn) both.0 h.tail in
    let tail' : IsTail k.order bytes at contents.torn = subst (λ (p : ℕ). IsTail k.order bytes p contents.torn) both.2 tail in
    tail_not_long k.order bytes at contents.torn tail' k.long

same_long : (bytes : List ℕ) (one two : ℕ) → HasLongRecord bytes one → HasLongRecord bytes two → one ≡ two
same_long bytes one two h k =
    let both = same_frames bytes h.order k.order h.frames k.frames one two h.before (long_has_none h.order bytes one h.long) k.before (long_has_none k.order bytes two k.long) in
    both.2

contents_with : Bool → ℕ → List Frame → ℕ → Contents
contents_with nanos link frames torn = record { nanos = nanos; link = link; frames = frames; torn = torn }

same_parts : (one two : Contents) → one.nanos ≡ two.nanos → one.link ≡ two.link → one.frames ≡ two.frames → one.torn ≡ two.torn → one ≡ two
unfolding contents_with
same_parts one two nanos link frames torn =
    ap (λ (n : Bool). contents_with n one.link one.frames one.torn) nanos
    ∙ ap (λ (l : ℕ). contents_with two.nanos l one.frames one.torn) link
    ∙ ap (λ (f : List Frame). contents_with two.nanos two.link f one.torn) frames
    ∙ ap (λ (t : ℕ). contents_with two.nanos two.link two.frames t) torn

same_contents : (bytes : List ℕ) (one two : Contents) → Says bytes one → Says bytes two → one ≡ two
same_contents bytes one two h k =
    let both = same_frames bytes h.order k.order one.frames two.frames h.end k.end h.before (tail_has_none h.order bytes h.end one.torn h.tail) k.before (tail_has_none k.order bytes k.end two.torn k.tail) in
    same_parts one two (h.unit ∙ ap (λ (o : Endianness). has_nanos o bytes) both.0 ∙ sym k.unit) (h.link ∙ ap (λ (o : Endianness). link_of o bytes) both.0 ∙ sym k.link) both.1 (omega (arith, h.tail.left, k.tail.left, both.2))

-- two right answers are the same
pub same_answer : (bytes : List ℕ) (one two : Answer) → IsAnswer bytes one → IsAnswer bytes two → one ≡ two
same_answer bytes (refused (fault.Block p)) two h k = absurd h
same_answer bytes (refused (fault.MixedLink p)) two h k = absurd h
same_answer bytes (refused (fault.BlockVersion p)) two h k = absurd h
same_answer bytes (refused (fault.BlockLink n p)) two h k = absurd h
same_answer bytes one (refused (fault.Block q)) h k = absurd k
same_answer bytes one (refused (fault.MixedLink q)) h k = absurd k
same_answer bytes one (refused (fault.BlockVersion q)) h k = absurd k
same_answer bytes one (refused (fault.BlockLink n q)) h k = absurd k
same_answer bytes (captured a) (captured b) h k = ap captured (same_contents bytes a b h k)
same_answer bytes (captured a) (refused (fault.Header q)) h k = absurd (has_no_header bytes q k h.order h.before.header.long h.before.header.magic)
same_answer bytes (captured a) (refused fault.Version) h k = absurd (has_no_version bytes k h.order h.before.header)
same_answer bytes (captured a) (refused (fault.Link q)) h k = absurd (has_no_link bytes q k h.order h.before.header h.before.accepted)
same_answer bytes (captured a) (refused (fault.Record q)) h k = absurd (captured_not_long bytes a q h k)
same_answer bytes (captured a) too_many_frames h k = absurd (captured_not_too_many bytes a h k)
same_answer bytes (refused (fault.Header p)) (captured b) h k = absurd (has_no_header bytes p h k.order k.before.header.long k.before.header.magic)
same_answer bytes (refused (fault.Header p)) (refused (fault.Header q)) h k = ap (λ (n : ℕ). refused (fault.Header n)) (same_bad_header bytes p q h k)
same_answer bytes (refused (fault.Header p)) (refused fault.Version) h k = absurd (has_no_header bytes p h k.order k.long k.magic)
same_answer bytes (refused (fault.Header p)) (refused (fault.Link q)) h k = absurd (has_no_header bytes p h k.order k.header.long k.header.magic)
same_answer bytes (refused (fault.Header p)) (refused (fault.Record q)) h k = absurd (has_no_header bytes p h k.order k.before.header.long k.before.header.magic)
same_answer bytes (refused (fault.Header p)) too_many_frames h k = absurd (has_no_header bytes p h k.order k.before.header.long k.before.header.magic)
same_answer bytes (refused fault.Version) (captured b) h k = absurd (has_no_version bytes h k.order k.before.header)
same_answer bytes (refused fault.Version) (refused (fault.Header q)) h k = absurd (has_no_header bytes q k h.order h.long h.magic)
same_answer bytes (refused fault.Version) (refused fault.Version) h k = refl
same_answer bytes (refused fault.Version) (refused (fault.Link q)) h k = absurd (has_no_version bytes h k.order k.header)
same_answer bytes (refused fault.Version) (refused (fault.Record q)) h k = absurd (has_no_version bytes h k.order k.before.header)
same_answer bytes (refused fault.Version) too_many_frames h k = absurd (has_no_version bytes h k.order k.before.header)
same_answer bytes (refused (fault.Link p)) (captured b) h k = absurd (has_no_link bytes p h k.order k.before.header k.before.accepted)
same_answer bytes (refused (fault.Link p)) (refused (fault.Header q)) h k = absurd (has_no_header bytes q k h.order h.header.long h.header.magic)
same_answer bytes (refused (fault.Link p)) (refused fault.Version) h k = absurd (has_no_version bytes k h.order h.header)
same_answer bytes (refused (fault.Link p)) (refused (fault.Link q)) h k = ap (λ (n : ℕ). refused (fault.Link n)) (same_link bytes p q h k)
same_answer bytes (refused (fault.Link p)) (refused (fault.Record q)) h k = absurd (has_no_link bytes p h k.order k.before.header k.before.accepted)
same_answer bytes (refused (fault.Link p)) too_many_frames h k = absurd (has_no_link bytes p h k.order k.before.header k.before.accepted)
same_answer bytes (refused (fault.Record p)) (captured b) h k = absurd (captured_not_long bytes b p k h)
same_answer bytes (refused (fault.Record p)) (refused (fault.Header q)) h k = absurd (has_no_header bytes q k h.order h.before.header.long h.before.header.magic)
same_answer bytes (refused (fault.Record p)) (refused fault.Version) h k = absurd (has_no_version bytes k h.order h.before.header)
same_answer bytes (refused (fault.Record p)) (refused (fault.Link q)) h k = absurd (has_no_link bytes q k h.order h.before.header h.before.accepted)
same_answer bytes (refused (fault.Record p)) (refused (fault.Record q)) h k = ap (λ (n : ℕ). refused (fault.Record n)) (same_long bytes p q h k)
same_answer bytes (refused (fault.Record p)) too_many_frames h k = absurd (long_not_too_many bytes p h k)
same_answer bytes too_many_frames (captured b) h k = absurd (captured_not_too_many bytes b k h)
same_answer bytes too_many_frames (refused (fault.Header q)) h k = absurd (has_no_header bytes q k h.order h.before.header.long h.before.header.magic)
same_answer bytes too_many_frames (refused fault.Version) h k = absurd (has_no_version bytes k h.order h.before.header)
same_answer bytes too_many_frames (refused (fault.Link q)) h k = absurd (has_no_link bytes q k h.order h.before.header h.before.accepted)
same_answer bytes too_many_frames (refused (fault.Record q)) h k = absurd (long_not_too_many bytes q k h)
same_answer bytes too_many_frames too_many_frames h k = refl
