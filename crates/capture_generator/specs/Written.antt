-- What a capture holds that is being written.
use Rattle.std.specs.Prelude.{◌≡◌, ℕ, ◌++◌, List, length, take}
use Rattle.capture_generator.specs.Headers.{file_header}
use Rattle.capture_generator.specs.Packets.{records_from}
use Rattle.capture_generator.specs.declared.written.Written.{Written}

-- the packets that it was given, up to its limit
pub record Holds (limit : ℕ) (written : Written) (packets : List (List ℕ)) : Type 0 where
  pub limit_is : written.limit ≡ limit
  pub count : written.packets ≡ length (take limit packets)
  pub bytes : written.bytes.items ≡ file_header ++ records_from 0 (take limit packets)

-- these packets came behind those that it held
abbrev pub Gains : Written → Written → List (List ℕ) → Type 0
Gains old new packets = (limit : ℕ) (before : List (List ℕ)) → Holds limit old before → Holds limit new (before ++ packets)
