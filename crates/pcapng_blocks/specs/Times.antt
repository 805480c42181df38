-- Times of packets. The draft "PCAP Next Generation (pcapng) Capture File Format" counts them in units
-- since 1970 and lets each interface say how many units a second has (if_tsresol, section 4.2). The
-- reduction to seconds and nanoseconds is this project's own.
use Rattle.std.specs.Prelude.{ℕ, ◌-◌, ◌*◌, ◌/◌, ◌%◌, ◌^◌, ◌<◌, nat_lt, if◌then◌else◌}
use Rattle.capture_terms.specs.declared.capture.Frame.{Frame}

-- the units in a second: a power of ten, or where the resolution's highest bit is set, of two
unfoldable pub units_per_second : ℕ → ℕ
units_per_second resolution = if nat_lt resolution 128 then 10 ^ resolution else 2 ^ (resolution - 128)

-- the whole seconds in a time, of which the low 32 bits are kept
unfoldable pub seconds_of : ℕ → ℕ → ℕ
seconds_of resolution time = time / units_per_second resolution % 4294967296

-- the rest of the time, in whole nanoseconds
unfoldable pub fraction_of : ℕ → ℕ → ℕ
fraction_of resolution time = time % units_per_second resolution * 1000000000 / units_per_second resolution

-- a frame's time is one in seconds and nanoseconds
pub record IsTimed (frame : Frame) : Type 0 where
  pub seconds : frame.seconds < 4294967296
  pub fraction : frame.fraction < 1000000000
