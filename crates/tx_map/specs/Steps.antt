-- The calls of a map as calls of the serial structures.
use Rattle.std.specs.Prelude.{◌≡◌, ℕ, List}
use Rattle.serial_terms.specs.declared.call.Call.{Call}
use Rattle.serial_terms.specs.declared.call.Reply.{Reply}
use Rattle.serial_terms.specs.Counts.{with_at}
use Rattle.serial_terms.specs.Serial.{State, Allows, after as state_after}
use Rattle.tx_map.specs.declared.part.MapPart.{MapPart}
use Rattle.tx_map.specs.Map.{map_of}

-- Wherever the structures' map of this number is the part's before the call, they may reply so, and their map after is the part's
abbrev pub IsStep : MapPart → ℕ → Call → Reply → List ℕ → List ℕ → Type 0
IsStep part map call reply before after = (s : State) → s.maps map ≡ map_of part before → Allows s call reply × (state_after s call reply ≡ record s { maps = with_at s.maps map (map_of part after) })
