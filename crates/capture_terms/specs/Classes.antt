-- What a frame carries: an Ethernet frame, a raw IP packet or a packet behind a Linux cooked header,
-- and the internet header of RFC 791, section 3.1, with its fields as numbers. Ours alone are the
-- classes and their order.
use Rattle.std.specs.Prelude.{ℕ, ◌+◌, ◌-◌, ◌*◌, ◌/◌, ◌%◌, Bool, not, ◌||◌, ◌&&◌, ◌==◌, nat_lt, nat_le, List, length, drop, slice_index, Option, Some, None, if◌then◌else◌}
use Rattle.capture_terms.specs.Capture.{frame_bytes}
use Rattle.capture_terms.specs.Numbers.{number16, number32}
use Rattle.capture_terms.specs.declared.capture.Endianness.TheVariants.{Big}
use Rattle.capture_terms.specs.declared.capture.Frame.{Frame}
use Rattle.capture_terms.specs.declared.capture.Link.{Link}
use Rattle.capture_terms.specs.declared.capture.Link.TheVariants.{Ethernet, Raw, CookedV1, CookedV2}
use Rattle.capture_terms.specs.declared.datagram.Header.{Header}
use Rattle.capture_terms.specs.declared.datagram.Piece.{Piece}
use Rattle.capture_terms.specs.declared.datagram.Kind.{Kind}
use Rattle.capture_terms.specs.declared.datagram.Kind.TheVariants.{Other, Bad, Cut, Whole, Fragment}

-- Where a datagram begins in a frame.

-- a frame reaches as far as the type at a place, and the type is this one
abbrev pub has_type : List ℕ → ℕ → ℕ → Bool
has_type frame at type = nat_le (at + 2) (length frame) && (number16 Big frame at == type)

abbrev pub has_ipv4 : List ℕ → ℕ → Bool
has_ipv4 frame at = has_type frame at 0x0800

-- the type is that of a VLAN tag: of IEEE 802.1Q, or of an outer tag
abbrev pub has_tag : List ℕ → ℕ → Bool
has_tag frame at = has_type frame at 0x8100 || has_type frame at 0x88a8

-- in an Ethernet frame: behind the header of 14 bytes and at most two tags of 4 bytes each
unfoldable pub ethernet_start : List ℕ → Option ℕ
ethernet_start frame =
    if has_ipv4 frame 12 then Some 14
    else if has_tag frame 12 && has_ipv4 frame 16 then Some 18
    else if has_tag frame 12 && has_tag frame 16 && has_ipv4 frame 20 then Some 22
    else None

-- in a raw IP packet: at its first byte, whose high four bits are the version
unfoldable pub raw_start : List ℕ → Option ℕ
raw_start frame = if nat_lt 0 (length frame) && (slice_index frame 0 / 16 == 4) then Some 0 else None

-- in a packet of Linux's cooked captures: behind the header of 16 bytes, at whose end the type stands
unfoldable pub cooked_v1_start : List ℕ → Option ℕ
cooked_v1_start frame = if has_ipv4 frame 14 then Some 16 else None

-- the same of version 2: behind the header of 20 bytes, at whose head the type stands
unfoldable pub cooked_v2_start : List ℕ → Option ℕ
cooked_v2_start frame = if has_ipv4 frame 0 && nat_le 20 (length frame) then Some 20 else None

-- in a frame behind this link
abbrev pub datagram_start : Link → List ℕ → Option ℕ
datagram_start Ethernet frame = ethernet_start frame
datagram_start Raw frame = raw_start frame
datagram_start CookedV1 frame = cooked_v1_start frame
datagram_start CookedV2 frame = cooked_v2_start frame

-- The fields of the internet header at the head of a datagram.

abbrev pub version : List ℕ → ℕ
version datagram = slice_index datagram 0 / 16

-- the internet header length (IHL), in words of 4 bytes
abbrev pub header_words : List ℕ → ℕ
header_words datagram = slice_index datagram 0 % 16

abbrev pub total_length : List ℕ → ℕ
total_length datagram = number16 Big datagram 2

abbrev pub identification : List ℕ → ℕ
identification datagram = number16 Big datagram 4

-- the lowest of the three flags, more fragments (MF)
abbrev pub has_more_fragments : List ℕ → Bool
has_more_fragments datagram = number16 Big datagram 6 / 8192 % 2 == 1

-- in units of 8 bytes
abbrev pub fragment_offset : List ℕ → ℕ
fragment_offset datagram = number16 Big datagram 6 % 8192

abbrev pub header_of : List ℕ → Header
header_of datagram = record {
  source = number32 Big datagram 12;
  destination = number32 Big datagram 16;
  protocol = slice_index datagram 9;
}

-- What they say of the datagram's data.

-- in bytes
abbrev pub header_length : List ℕ → ℕ
header_length datagram = header_words datagram * 4

abbrev pub data_length : List ℕ → ℕ
data_length datagram = total_length datagram - header_length datagram

-- the place of this data in that of the whole datagram
abbrev pub data_start : List ℕ → ℕ
data_start datagram = fragment_offset datagram * 8

abbrev pub is_fragment : List ℕ → Bool
is_fragment datagram = not (fragment_offset datagram == 0) || has_more_fragments datagram

-- The conditions of the classes, in order.

abbrev pub lacks_header : List ℕ → Bool
lacks_header datagram = nat_lt (length datagram) 20

abbrev pub has_other_version : List ℕ → Bool
has_other_version datagram = not (version datagram == 4)

abbrev pub has_short_header : List ℕ → Bool
has_short_header datagram = nat_lt (header_words datagram) 5

abbrev pub has_short_total : List ℕ → Bool
has_short_total datagram = nat_lt (total_length datagram) (header_length datagram)

abbrev pub is_empty_fragment : List ℕ → Bool
is_empty_fragment datagram = is_fragment datagram && (data_length datagram == 0)

abbrev pub is_ragged_fragment : List ℕ → Bool
is_ragged_fragment datagram = has_more_fragments datagram && not (data_length datagram % 8 == 0)

abbrev pub is_past_greatest : List ℕ → Bool
is_past_greatest datagram = nat_lt 65535 (header_length datagram + data_start datagram + data_length datagram)

unfoldable pub has_bad_header : List ℕ → Bool
has_bad_header datagram =
    lacks_header datagram || has_other_version datagram || has_short_header datagram || has_short_total datagram

unfoldable pub has_bad_data : List ℕ → Bool
has_bad_data datagram = is_empty_fragment datagram || is_ragged_fragment datagram || is_past_greatest datagram

-- bytes behind the total length are padding, and no part of it
unfoldable pub is_cut : List ℕ → Bool
is_cut datagram = nat_lt (length datagram) (total_length datagram)

-- the data of a datagram that begins at a place in the file. By itself it is of generation 0.
unfoldable pub piece_of : ℕ → List ℕ → Piece
piece_of at datagram = record {
  header = header_of datagram;
  id = identification datagram;
  generation = 0;
  start = data_start datagram;
  length = data_length datagram;
  last = not (has_more_fragments datagram);
  from = at + header_length datagram;
}

-- what the datagram at a place in the file is: the first of these that holds
unfoldable pub datagram_kind : ℕ → List ℕ → Kind
datagram_kind at datagram =
    if has_bad_header datagram || has_bad_data datagram then Bad
    else if is_cut datagram then Cut
    else if is_fragment datagram then Fragment (piece_of at datagram)
    else Whole (piece_of at datagram)

-- what the bytes of a frame at a place in the file are, if a datagram begins so far behind their first
abbrev pub kind_from : ℕ → List ℕ → Option ℕ → Kind
kind_from at frame None = Other
kind_from at frame (Some start) = datagram_kind (at + start) (drop start frame)

-- what a frame of a file is, by the link of the capture, if that is one that is read
unfoldable pub kind_of : Option Link → List ℕ → Frame → Kind
kind_of None bytes frame = Other
kind_of (Some link) bytes frame =
    let taken = frame_bytes bytes frame in
    kind_from frame.at taken (datagram_start link taken)
