-- Captures in the pcap file format, version 2.4: a file header of 24 bytes, and packet records one
-- behind the other. Ours alone are the accepted link types, the limits of 262,144, and what is done
-- with a file that ends within a record.
use Rattle.std.specs.Prelude.{◌≡◌, ℕ, ◌+◌, ◌*◌, ◌%◌, ◌<◌, ◌≤◌, ◌⊎◌, ◌==◌, Bool, List, [], ◌∷◌, length, take, drop, Option, Some, None, IsSome, if◌then◌else◌}
use Rattle.capture_terms.specs.Numbers.{number16, number32}
use Rattle.capture_terms.specs.declared.capture.Endianness.{Endianness}
use Rattle.capture_terms.specs.declared.capture.Endianness.TheVariants.{Little, Big}
use Rattle.capture_terms.specs.declared.capture.Frame.{Frame}
use Rattle.capture_terms.specs.declared.capture.Link.{Link}
use Rattle.capture_terms.specs.declared.capture.Link.TheVariants.{Ethernet, Raw, CookedV1, CookedV2}
use Rattle.capture_terms.specs.declared.capture.Capture.{Capture}
use Rattle.capture_terms.specs.declared.capture.CaptureFault.{CaptureFault}
use Rattle.capture_terms.specs.declared.capture.CaptureFault.TheVariants as fault

-- The file header.

-- the magic number at the head of the file
abbrev pub magic_of : Endianness → List ℕ → ℕ
magic_of order bytes = number32 order bytes 0

-- it is that of fractions in microseconds, or that of nanoseconds; so it tells the file's byte order
abbrev pub HasMagic : Endianness → List ℕ → Type 0
HasMagic order bytes = (magic_of order bytes ≡ 0xa1b2c3d4) ⊎ (magic_of order bytes ≡ 0xa1b23c4d)

abbrev pub has_nanos : Endianness → List ℕ → Bool
has_nanos order bytes = magic_of order bytes == 0xa1b23c4d

-- the major and minor version
abbrev pub HasVersion : Endianness → List ℕ → Type 0
HasVersion order bytes = (number16 order bytes 4 ≡ 2) × (number16 order bytes 6 ≡ 4)

-- the link type: the low 16 bits of the network field
abbrev pub link_of : Endianness → List ℕ → ℕ
link_of order bytes = number32 order bytes 20 % 65536

-- the link whose link type has this number in the pcap file format, if it is one that is read
abbrev pub link_numbered : ℕ → Option Link
link_numbered number =
    if number == 1 then Some Ethernet
    else if number == 101 then Some Raw
    else if number == 113 then Some CookedV1
    else if number == 276 then Some CookedV2
    else None

-- the link type is accepted where its frames are read
abbrev pub IsAcceptedLink : ℕ → Type 0
IsAcceptedLink number = IsSome (link_numbered number)

-- the file begins with a header in this byte order and version 2.4, whatever its link type is
pub record IsHeader (order : Endianness) (bytes : List ℕ) : Type 0 where
  pub long : 24 ≤ length bytes
  pub magic : HasMagic order bytes
  pub version : HasVersion order bytes

-- The packet records.

-- how many bytes the record at a place says that it holds
abbrev pub captured_length : Endianness → List ℕ → ℕ → ℕ
captured_length order bytes at = number32 order bytes (at + 8)

-- the frame whose record stands at a place: four fields of four bytes, and then the frame's bytes
abbrev pub frame_at : Endianness → List ℕ → ℕ → Frame
frame_at order bytes at = record {
  seconds = number32 order bytes at;
  fraction = number32 order bytes (at + 4);
  at = at + 16;
  length = captured_length order bytes at;
  original = number32 order bytes (at + 12);
}

-- the whole record of a frame stands at a place
pub record IsRecord (order : Endianness) (bytes : List ℕ) (at : ℕ) (frame : Frame) : Type 0 where
  pub header : at + 16 ≤ length bytes
  pub fields : frame ≡ frame_at order bytes at
  pub short : frame.length ≤ 262144
  pub whole : at + 16 + frame.length ≤ length bytes

-- whole records stand from one place up to another, each where the one before it ends
abbrev pub AreRecords : Endianness → List ℕ → ℕ → List Frame → ℕ → Type 0
AreRecords order bytes at [] end = at ≡ end
AreRecords order bytes at (frame ∷ frames) end =
    IsRecord order bytes at frame × AreRecords order bytes (at + 16 + frame.length) frames end

-- the record at a place says that it holds more bytes than any record may
pub record IsLongRecord (order : Endianness) (bytes : List ℕ) (at : ℕ) : Type 0 where
  pub header : at + 16 ≤ length bytes
  pub long : 262144 < captured_length order bytes at

-- so many bytes are a record header and some of the bytes, but not all, that it announces
pub record IsCutRecord (order : Endianness) (bytes : List ℕ) (at torn : ℕ) : Type 0 where
  pub header : 16 ≤ torn
  pub short : captured_length order bytes at ≤ 262144
  pub cut : torn < 16 + captured_length order bytes at

-- from a place on the file holds so many bytes more, which are no whole record: none at all, fewer
-- than a record header, or a record that is cut
pub record IsTail (order : Endianness) (bytes : List ℕ) (at torn : ℕ) : Type 0 where
  pub left : at + torn ≡ length bytes
  pub cut : (torn < 16) ⊎ IsCutRecord order bytes at torn

-- the file has a header with an accepted link type, and at most 262,144 frames up to a place
pub record HasFrames (order : Endianness) (bytes : List ℕ) (frames : List Frame) (end : ℕ) : Type 0 where
  pub header : IsHeader order bytes
  pub accepted : IsAcceptedLink (link_of order bytes)
  pub records : AreRecords order bytes 24 frames end
  pub few : length frames ≤ 262144

-- when a frame was captured, in nanoseconds, where fractions are nanoseconds, or else microseconds
abbrev pub time_of : Bool → Frame → ℕ
time_of nanos frame = frame.seconds * 1000000000 + frame.fraction * (if nanos then 1 else 1000)

-- What a file is: a capture, or refused for the first reason that holds.

-- what a capture says, with its frames as a list
pub record Contents : Type 0 where
  pub nanos : Bool
  pub link : ℕ
  pub frames : List Frame
  pub torn : ℕ

abbrev pub contents_of : Capture → Contents
contents_of capture = record {
  nanos = capture.nanos;
  link = capture.link;
  frames = capture.frames.items;
  torn = capture.torn;
}

-- the file is a capture of these contents: a header, frames one behind the other, and a tail
pub record Says (bytes : List ℕ) (contents : Contents) : Type 0 where
  pub order : Endianness
  pub end : ℕ
  pub before : HasFrames order bytes contents.frames end
  pub tail : IsTail order bytes end contents.torn
  pub link : contents.link ≡ link_of order bytes
  pub unit : contents.nanos ≡ has_nanos order bytes

abbrev pub IsCapture : List ℕ → Capture → Type 0
IsCapture bytes capture = Says bytes (contents_of capture)

-- the file ends at a place within the file header
pub record HasShortHeader (bytes : List ℕ) (at : ℕ) : Type 0 where
  pub short : length bytes < 24
  pub place : at ≡ length bytes

-- the file has no known magic number in either byte order, which is said of place 0
pub record HasOtherMagic (bytes : List ℕ) (at : ℕ) : Type 0 where
  pub long : 24 ≤ length bytes
  pub little : ¬ HasMagic Little bytes
  pub big : ¬ HasMagic Big bytes
  pub place : at ≡ 0

-- the file has a known magic number and another version
pub record HasOtherVersion (bytes : List ℕ) : Type 0 where
  pub order : Endianness
  pub long : 24 ≤ length bytes
  pub magic : HasMagic order bytes
  pub other : ¬ HasVersion order bytes

-- the file has a header with a link type that is not accepted
pub record HasOtherLink (bytes : List ℕ) (link : ℕ) : Type 0 where
  pub order : Endianness
  pub header : IsHeader order bytes
  pub network : link ≡ link_of order bytes
  pub other : ¬ IsAcceptedLink link

-- behind frames stands a record that is too long
pub record HasLongRecord (bytes : List ℕ) (at : ℕ) : Type 0 where
  pub order : Endianness
  pub frames : List Frame
  pub before : HasFrames order bytes frames at
  pub long : IsLongRecord order bytes at

-- behind 262,144 frames stands another whole record
pub record HasTooManyFrames (bytes : List ℕ) : Type 0 where
  pub order : Endianness
  pub frames : List Frame
  pub end : ℕ
  pub next : Frame
  pub before : HasFrames order bytes frames end
  pub many : length frames ≡ 262144
  pub more : IsRecord order bytes end next

-- the file breaks the format in this way, and in no way that comes before it
abbrev pub HasFault : List ℕ → CaptureFault → Type 0
HasFault bytes (fault.Header at) = HasShortHeader bytes at ⊎ HasOtherMagic bytes at
HasFault bytes fault.Version = HasOtherVersion bytes
HasFault bytes (fault.Link number) = HasOtherLink bytes number
HasFault bytes (fault.Record at) = HasLongRecord bytes at
-- those of pcapng files, which have other rules
HasFault bytes (fault.Block at) = ⊥
HasFault bytes (fault.MixedLink at) = ⊥
HasFault bytes (fault.BlockVersion at) = ⊥
HasFault bytes (fault.BlockLink number at) = ⊥

-- what a reader answers about a file
pub data Answer : Type 0 where
  captured : Contents → Answer
  refused : CaptureFault → Answer
  too_many_frames : Answer

-- the answer is the right one. Each file has exactly one: no two of these hold of one file.
abbrev pub IsAnswer : List ℕ → Answer → Type 0
IsAnswer bytes (captured contents) = Says bytes contents
IsAnswer bytes (refused fault) = HasFault bytes fault
IsAnswer bytes too_many_frames = HasTooManyFrames bytes

-- The bytes of a frame.

-- the bytes of a frame lie in the file
abbrev pub IsWithin : List ℕ → Frame → Type 0
IsWithin bytes frame = frame.at + frame.length ≤ length bytes

abbrev pub frame_bytes : List ℕ → Frame → List ℕ
frame_bytes bytes frame = take frame.length (drop frame.at bytes)
