-- What a reader of captures takes a generated one for.
use Rattle.std.specs.Prelude.{◌≡◌, ℕ, ◌≤◌, false, length, map}
use Rattle.capture_terms.specs.Capture.{Contents, Says, frame_bytes}
use Rattle.capture_generator.specs.Packets.{packets_of, generated_capture}

-- the bytes are a capture by Ethernet in which nothing is torn, with as many frames as were asked for, whose bytes are the packets
pub record IsReadAs (seed packets : ℕ) (contents : Contents) : Type 0 where
  pub says : Says (generated_capture seed packets) contents
  pub count : length contents.frames ≡ packets
  pub link : contents.link ≡ 1
  pub torn : contents.torn ≡ 0
  pub unit : contents.nanos ≡ false
  pub bytes : map (frame_bytes (generated_capture seed packets)) contents.frames ≡ packets_of seed packets

-- each generated capture is one, unless it has too many packets
abbrev pub GeneratedIsRead : Type 0
GeneratedIsRead = (seed packets : ℕ) → packets ≤ 262144 → (contents : Contents) × IsReadAs seed packets contents
