-- The blocks of a pcapng file, as the draft "PCAP Next Generation (pcapng) Capture File Format" lays them
-- out: a type, a total length, a body and the total length again (section 3.1), all in the byte order of
-- the section. What is read of them is this project's own profile: the least total lengths, the limit of
-- 262,144, the captured length of simple packets, what is done with a file that ends within a block, and
-- that blocks of other types and most options are passed over.
use Rattle.std.specs.Prelude.{ℕ, ◌+◌, ◌-◌, ◌*◌, ◌%◌, min, Bool, not, ◌&&◌, ◌==◌, nat_lt, nat_le, List, length, slice_get, Option, Some, None, if◌then◌else◌}
use Rattle.capture_terms.specs.Numbers.{number16, number32}
use Rattle.capture_terms.specs.declared.capture.Endianness.{Endianness}
use Rattle.capture_terms.specs.declared.capture.Endianness.TheVariants.{Little, Big}
use Rattle.pcapng_blocks.specs.Options.{resolution_in}
use Rattle.pcapng_blocks.specs.Times.{seconds_of, fraction_of}
use Rattle.pcapng_blocks.specs.declared.terms.Body.TheVariants as body
use Rattle.pcapng_blocks.specs.declared.terms.Interface.{Interface}
use Rattle.pcapng_blocks.specs.declared.terms.Next.{Next}
use Rattle.pcapng_blocks.specs.declared.terms.Next.TheVariants as next
use Rattle.pcapng_blocks.specs.declared.terms.Packet.{Packet}
use Rattle.pcapng_blocks.specs.declared.terms.PacketFields.{PacketFields}

-- The byte order.

-- the type of a section header stands at a place. It reads the same in either byte order.
abbrev pub is_section : List ℕ → ℕ → Bool
is_section bytes at = number32 Little bytes at == 0x0a0d0d0a

-- the order in which the byte-order magic of a section header reads right (section 4.1)
unfoldable pub section_order : List ℕ → ℕ → Option Endianness
section_order bytes at =
    if number32 Little bytes (at + 8) == 0x1a2b3c4d then Some Little
    else if number32 Big bytes (at + 8) == 0x1a2b3c4d then Some Big
    else None

-- the byte order of the block at a place, in a section of this order
unfoldable pub order_at : Endianness → List ℕ → ℕ → Option Endianness
order_at order bytes at = if is_section bytes at then section_order bytes at else Some order

-- The bodies of whole blocks, by their place and total length.

-- of a section header (section 4.1): only the major version is looked at
unfoldable pub section_at : Endianness → List ℕ → ℕ → ℕ → Next
section_at order bytes at size =
    if number16 order bytes (at + 12) == 1 then next.Block record { body = body.Section order; size = size } else next.OtherVersion

-- of the description of an interface (section 4.2)
unfoldable pub interface_at : Endianness → List ℕ → ℕ → ℕ → Interface
interface_at order bytes at size = record {
  link = number16 order bytes (at + 8);
  link_at = at + 8;
  snapshot = number32 order bytes (at + 12);
  resolution = resolution_in order bytes (at + size - 4) (at + 16);
}

-- of an enhanced packet (section 4.3)
unfoldable pub enhanced_fields : Endianness → List ℕ → ℕ → ℕ → PacketFields
enhanced_fields order bytes at size = record {
  time = number32 order bytes (at + 12) * 4294967296 + number32 order bytes (at + 16);
  at = at + 28;
  length = number32 order bytes (at + 20);
  original = number32 order bytes (at + 24);
  room = size - 32;
}

-- of a simple packet (section 4.4), which says no captured length: it's the original one, or the snapshot
-- length of the interface where that is less and isn't 0
abbrev pub captured_of : ℕ → ℕ → ℕ
captured_of snapshot original = if snapshot == 0 then original else min original snapshot

unfoldable pub simple_fields : Interface → Endianness → List ℕ → ℕ → ℕ → PacketFields
simple_fields interface order bytes at size = record {
  time = 0;
  at = at + 12;
  length = captured_of interface.snapshot (number32 order bytes (at + 8));
  original = number32 order bytes (at + 8);
  room = size - 16;
}

abbrev pub packet_of : Interface → PacketFields → Packet
packet_of interface fields = record {
  link = interface.link;
  link_at = interface.link_at;
  frame = record {
    seconds = seconds_of interface.resolution fields.time;
    fraction = fraction_of interface.resolution fields.time;
    at = fields.at;
    length = fields.length;
    original = fields.original;
  };
}

-- the packet's bytes have room in its block, and are not too many
abbrev pub is_held : PacketFields → Bool
is_held fields = nat_le fields.length fields.room && nat_le fields.length 262144

unfoldable pub packet_at : Interface → PacketFields → ℕ → Next
packet_at interface fields size =
    if is_held fields then next.Block record { body = body.Packet (packet_of interface fields); size = size } else next.Broken

-- by the interface of the packet's number, if the section has it
abbrev pub packet_in : Option Interface → (Interface → PacketFields) → ℕ → Next
packet_in None fields size = next.Broken
packet_in (Some interface) fields size = packet_at interface (fields interface) size

unfoldable pub enhanced_at : Endianness → List Interface → List ℕ → ℕ → ℕ → Next
enhanced_at order interfaces bytes at size =
    packet_in (slice_get interfaces (number32 order bytes (at + 8))) (λ interface. enhanced_fields order bytes at size) size

-- its interface is the section's first
unfoldable pub simple_at : Endianness → List Interface → List ℕ → ℕ → ℕ → Next
simple_at order interfaces bytes at size =
    packet_in (slice_get interfaces 0) (λ interface. simple_fields interface order bytes at size) size

-- of a block of this type
unfoldable pub whole_at : Endianness → List Interface → List ℕ → ℕ → ℕ → ℕ → Next
whole_at order interfaces bytes at kind size =
    if kind == 0x0a0d0d0a then section_at order bytes at size
    else if kind == 1 then next.Block record { body = body.Interface (interface_at order bytes at size); size = size }
    else if kind == 6 then enhanced_at order interfaces bytes at size
    else if kind == 3 then simple_at order interfaces bytes at size
    else next.Block record { body = body.Passed; size = size }

-- What stands at a place: the first of these that holds.

-- the least total length of a block of this type
unfoldable pub least_size : ℕ → ℕ
least_size kind =
    if kind == 0x0a0d0d0a then 28
    else if kind == 1 then 20
    else if kind == 6 then 32
    else if kind == 3 then 16
    else 12

-- a block of this type may have this total length
abbrev pub is_size : ℕ → ℕ → Bool
is_size kind size = (size % 4 == 0) && nat_le (least_size kind) size

-- twelve bytes at least, of a block of this type and total length
unfoldable pub sized_at : Endianness → List Interface → List ℕ → ℕ → ℕ → ℕ → Next
sized_at order interfaces bytes at kind size =
    if not (is_size kind size) then next.Broken
    else if nat_lt (length bytes) (at + size) then next.Tail (length bytes - at)
    else if not (number32 order bytes (at + size - 4) == size) then next.Broken
    else whole_at order interfaces bytes at kind size

-- the same, of a block in this byte order, if it has one
abbrev pub ordered_at : Option Endianness → List Interface → List ℕ → ℕ → Next
ordered_at None interfaces bytes at = next.Broken
ordered_at (Some order) interfaces bytes at =
    sized_at order interfaces bytes at (number32 order bytes at) (number32 order bytes (at + 4))

-- fewer than twelve bytes are the file's torn tail, but a file has a section header at least
abbrev pub short_at : List ℕ → ℕ → Next
short_at bytes at = if at == 0 then next.Broken else next.Tail (length bytes - at)

-- in a section of this byte order and with these interfaces
unfoldable pub next_at : Endianness → List Interface → List ℕ → ℕ → Next
next_at order interfaces bytes at =
    if nat_lt (length bytes) (at + 12) then short_at bytes at
    else ordered_at (order_at order bytes at) interfaces bytes at
