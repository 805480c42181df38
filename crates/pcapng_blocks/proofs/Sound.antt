-- What stands at a place lies within the file.
use Rattle.std.proofs.Common.{◌≡◌, ℕ, ◌+◌, ◌-◌, ◌≤◌, ◌⊎◌, inl, inr, Bool, true, false, not, ◌==◌, cond, List, length, Option, Some, None, refl, subst, arith}
use Rattle.std.specs.Prelude.{nat_lt, slice_get}
use Rattle.std.proofs.lemmas.Bool.{cases_Bool}
use Rattle.std.proofs.lemmas.Bool.Decides.{nat_tests}
use Rattle.std.proofs.lemmas.Nat.{mod_below}
use Rattle.capture_terms.specs.Capture.{IsWithin}
use Rattle.capture_terms.specs.Numbers.{number16, number32}
use Rattle.capture_terms.specs.declared.capture.Endianness.{Endianness}
use Rattle.pcapng_blocks.specs.Blocks.{section_at, enhanced_fields, simple_fields, packet_of, is_held, packet_at, packet_in, enhanced_at, simple_at, whole_at, least_size, is_size, sized_at, ordered_at, order_at, next_at}
use Rattle.pcapng_blocks.specs.Times.{seconds_of, fraction_of, units_per_second, IsTimed}
use Rattle.pcapng_blocks.specs.declared.terms.Block.{Block}
use Rattle.pcapng_blocks.specs.declared.terms.Body.{Body}
use Rattle.pcapng_blocks.specs.declared.terms.Body.TheVariants as body
use Rattle.pcapng_blocks.specs.declared.terms.Interface.{Interface}
use Rattle.pcapng_blocks.specs.declared.terms.Next.{Next}
use Rattle.pcapng_blocks.specs.declared.terms.Next.TheVariants as next
use Rattle.pcapng_blocks.specs.declared.terms.PacketFields.{PacketFields}
use Rattle.pcapng_blocks.proofs.Seconds.{fraction_small, units_positive}

-- a packet's bytes lie in the file, and its time is in seconds and nanoseconds
abbrev pub IsSoundBody : List ℕ → Body → Type 0
IsSoundBody bytes (body.Packet packet) = IsWithin bytes packet.frame × IsTimed packet.frame
IsSoundBody bytes (body.Section order) = Unit {0}
IsSoundBody bytes (body.Interface interface) = Unit {0}
IsSoundBody bytes body.Passed = Unit {0}

-- a block has twelve bytes at least, and lies in the file
pub record IsSoundBlock (bytes : List ℕ) (at : ℕ) (block : Block) : Type 0 where
  pub least : 12 ≤ block.size
  pub within : at + block.size ≤ length bytes
  pub body : IsSoundBody bytes block.body

abbrev pub IsSoundNext : List ℕ → ℕ → Next → Type 0
IsSoundNext bytes at (next.Block block) = IsSoundBlock bytes at block
IsSoundNext bytes at (next.Tail torn) = Unit {0}
IsSoundNext bytes at next.Broken = Unit {0}
IsSoundNext bytes at next.OtherVersion = Unit {0}

timed : (interface : Interface) (fields : PacketFields) → IsTimed (packet_of interface fields).frame
unfolding seconds_of fraction_of
timed interface fields = record {
  seconds = mod_below (_) 4294967296 (omega arith);
  fraction = fraction_small (units_per_second interface.resolution) fields.time (units_positive interface.resolution);
}

held_within : (fields : PacketFields) → is_held fields ≡ true → fields.length ≤ fields.room
held_within fields held = grind (arith, nat_tests)

packet_sound : (bytes : List ℕ) (at size : ℕ) (interface : Interface) (fields : PacketFields) → 12 ≤ size → at + size ≤ length bytes → fields.at + fields.room ≤ length bytes → IsSoundNext bytes at (packet_at interface fields size)
unfolding packet_at
packet_sound bytes at size interface fields least within room = by_case (cases_Bool (is_held fields))
  where
    by_case : (is_held fields ≡ true) ⊎ (is_held fields ≡ false) → IsSoundNext bytes at (packet_at interface fields size)
    by_case (inl held) =
        let short : fields.length ≤ fields.room = held_within fields held in
        let inside : IsWithin bytes (packet_of interface fields).frame = omega arith in
        rw held record { least = least; within = within; body = (inside, timed interface fields) }
    by_case (inr other) = rw other tt

found_sound : (bytes : List ℕ) (at size : ℕ) (found : Option Interface) (fields : Interface → PacketFields) → 12 ≤ size → at + size ≤ length bytes → ((interface : Interface) → (fields interface).at + (fields interface).room ≤ length bytes) → IsSoundNext bytes at (packet_in found fields size)
found_sound bytes at size None fields least within room = tt
found_sound bytes at size (Some interface) fields least within room = packet_sound bytes at size interface (fields interface) least within (room interface)

enhanced_sound : (order : Endianness) (interfaces : List Interface) (bytes : List ℕ) (at size : ℕ) → 32 ≤ size → at + size ≤ length bytes → IsSoundNext bytes at (enhanced_at order interfaces bytes at size)
unfolding enhanced_at enhanced_fields
enhanced_sound order interfaces bytes at size least within =
    found_sound bytes at size (slice_get interfaces (number32 order bytes (at + 8))) (λ interface. enhanced_fields order bytes at size) (omega arith) within (λ interface. omega arith)

simple_sound : (order : Endianness) (interfaces : List Interface) (bytes : List ℕ) (at size : ℕ) → 16 ≤ size → at + size ≤ length bytes → IsSoundNext bytes at (simple_at order interfaces bytes at size)
unfolding simple_at simple_fields
simple_sound order interfaces bytes at size least within =
    found_sound bytes at size (slice_get interfaces 0) (λ interface. simple_fields interface order bytes at size) (omega arith) within (λ interface. omega arith)

-- the choice between two, each of which is sound
choice_sound : (bytes : List ℕ) (at : ℕ) (test : Bool) (one other : Next) → (test ≡ true → IsSoundNext bytes at one) → (test ≡ false → IsSoundNext bytes at other) → IsSoundNext bytes at (cond test one other)
choice_sound bytes at true one other if_true if_false = if_true refl
choice_sound bytes at false one other if_true if_false = if_false refl

section_sound : (order : Endianness) (bytes : List ℕ) (at size : ℕ) → 12 ≤ size → at + size ≤ length bytes → IsSoundNext bytes at (section_at order bytes at size)
unfolding section_at
section_sound order bytes at size least within =
    choice_sound bytes at (number16 order bytes (at + 12) == 1) _ _ (λ _. record { least = least; within = within; body = tt }) (λ _. tt)

twelve : (kind : ℕ) → 12 ≤ least_size kind
unfolding least_size
twelve kind = grind (arith, nat_tests)

enhanced_least : (kind : ℕ) → (kind == 6) ≡ true → least_size kind ≡ 32
unfolding least_size
enhanced_least kind same = grind (arith, nat_tests)

simple_least : (kind : ℕ) → (kind == 3) ≡ true → least_size kind ≡ 16
unfolding least_size
simple_least kind same = grind (arith, nat_tests)

whole_sound : (order : Endianness) (interfaces : List Interface) (bytes : List ℕ) (at kind size : ℕ) → least_size kind ≤ size → at + size ≤ length bytes → IsSoundNext bytes at (whole_at order interfaces bytes at kind size)
unfolding whole_at
whole_sound order interfaces bytes at kind size least within =
    let small = twelve kind in
    choice_sound bytes at (kind == 0x0a0d0d0a) _ _ (λ _. section_sound order bytes at size (omega arith) within) (λ _.
    choice_sound bytes at (kind == 1) _ _ (λ _. record { least = omega arith; within = within; body = tt }) (λ _.
    choice_sound bytes at (kind == 6) _ _ (λ same. let size_is = enhanced_least kind same in enhanced_sound order interfaces bytes at size (omega arith) within) (λ _.
    choice_sound bytes at (kind == 3) _ _ (λ same. let size_is = simple_least kind same in simple_sound order interfaces bytes at size (omega arith) within) (λ _.
    record { least = omega arith; within = within; body = tt }))))

sized_sound : (order : Endianness) (interfaces : List Interface) (bytes : List ℕ) (at kind size : ℕ) → IsSoundNext bytes at (sized_at order interfaces bytes at kind size)
unfolding sized_at
sized_sound order interfaces bytes at kind size =
    choice_sound bytes at (not (is_size kind size)) _ _ (λ _. tt) (λ sized.
    choice_sound bytes at (nat_lt (length bytes) (at + size)) _ _ (λ _. tt) (λ whole.
    choice_sound bytes at (not (number32 order bytes (at + size - 4) == size)) _ _ (λ _. tt) (λ _.
    whole_sound order interfaces bytes at kind size (size_least kind size sized) (grind (arith, nat_tests)))))
  where
    size_least : (kind size : ℕ) → not (is_size kind size) ≡ false → least_size kind ≤ size
    size_least kind size sized = grind (arith, nat_tests)

ordered_sound : (found : Option Endianness) (interfaces : List Interface) (bytes : List ℕ) (at : ℕ) → IsSoundNext bytes at (ordered_at found interfaces bytes at)
ordered_sound None interfaces bytes at = tt
ordered_sound (Some order) interfaces bytes at = sized_sound order interfaces bytes at (number32 order bytes at) (number32 order bytes (at + 4))

next_sound : (order : Endianness) (interfaces : List Interface) (bytes : List ℕ) (at : ℕ) → IsSoundNext bytes at (next_at order interfaces bytes at)
unfolding next_at
next_sound order interfaces bytes at =
    choice_sound bytes at (nat_lt (length bytes) (at + 12)) _ _ (λ _. choice_sound bytes at (at == 0) _ _ (λ _. tt) (λ _. tt)) (λ _. ordered_sound (order_at order bytes at) interfaces bytes at)

-- the block that stands at a place lies within the file
pub block_sound : (order : Endianness) (interfaces : List Interface) (bytes : List ℕ) (at : ℕ) (block : Block) → next_at order interfaces bytes at ≡ next.Block block → IsSoundBlock bytes at block
block_sound order interfaces bytes at block stands = subst (IsSoundNext bytes at) stands (next_sound order interfaces bytes at)
