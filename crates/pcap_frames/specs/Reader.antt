-- What the parts of `frames` find in a file.
use Rattle.std.specs.Prelude.{◌≡◌, ℕ, List}
use Rattle.capture_terms.specs.Capture.{has_nanos, IsHeader, IsAcceptedLink, link_of, IsRecord, IsLongRecord, IsTail}
use Rattle.capture_terms.specs.declared.capture.Endianness.{Endianness}
use Rattle.pcap_frames.specs.declared.record_reader.FileHeader.{FileHeader}
use Rattle.pcap_frames.specs.declared.record_reader.Next.{Next}
use Rattle.pcap_frames.specs.declared.record_reader.Next.TheVariants as next

-- the file has a header with this byte order, unit of time and accepted link type
pub record IsAccepted (bytes : List ℕ) (found : FileHeader) : Type 0 where
  pub header : IsHeader found.order bytes
  pub unit : found.nanos ≡ has_nanos found.order bytes
  pub network : found.link ≡ link_of found.order bytes
  pub accepted : IsAcceptedLink found.link

-- what stands at a place where a record may begin
abbrev pub IsNext : Endianness → List ℕ → ℕ → Next → Type 0
IsNext order bytes at (next.Record frame) = IsRecord order bytes at frame
IsNext order bytes at next.TooLong = IsLongRecord order bytes at
IsNext order bytes at (next.Tail torn) = IsTail order bytes at torn
