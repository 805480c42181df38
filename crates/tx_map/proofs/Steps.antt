-- What the map's calls make of the map is what the serial structures do.
use Rattle.std.proofs.Common.{◌≡◌, ℕ, List, Option, Some, None, refl, sym, ap, ◌∙◌}
use Rattle.serial_terms.specs.declared.call.Call.TheVariants.{MapGet, MapPut, MapRemove, MapPutIfAbsent}
use Rattle.serial_terms.specs.declared.call.Reply.TheVariants.{Nothing}
use Rattle.serial_terms.specs.Counts.{with_at}
use Rattle.serial_terms.specs.Facts.{with_at_own}
use Rattle.serial_terms.specs.Serial.{State, found}
use Rattle.tx_map.specs.declared.part.MapPart.{MapPart}
use Rattle.tx_map.specs.Map.{map_of, Finds, Puts, Fills}
use Rattle.tx_map.specs.Steps.{IsStep}

abbrev with_map : State → ℕ → (ℕ → Option ℕ) → State
with_map s map m = record s { maps = with_at s.maps map m }

-- the map that it has
own_map : (s : State) (map : ℕ) → s ≡ with_map s map (s.maps map)
own_map s map i = record s { maps = sym (with_at_own s.maps map) i }

module _ (part : MapPart) (map position : ℕ) (before after : List ℕ) where
  pub get_step : (there : Option ℕ) → Finds part position there before after → IsStep part map (MapGet map position) (found there) before after
  get_step there f s is = (
    ap found (f.0 ∙ ap (λ (m : ℕ → Option ℕ). m position) (sym is)),
    own_map s map ∙ ap (with_map s map) (is ∙ ap (map_of part) (sym f.1)),
  )

  -- a map with one value changed
  puts : (value : Option ℕ) → Puts part position value before after → (s : State) → s.maps map ≡ map_of part before → with_map s map (with_at (s.maps map) position value) ≡ with_map s map (map_of part after)
  puts value p s is = ap (with_map s map) (ap (λ (m : ℕ → Option ℕ). with_at m position value) is ∙ sym p.1)

  pub put_step : (value : ℕ) → Puts part position (Some value) before after → IsStep part map (MapPut map position value) Nothing before after
  put_step value p s is = (refl, puts (Some value) p s is)

  pub remove_step : Puts part position None before after → IsStep part map (MapRemove map position) Nothing before after
  remove_step p s is = (refl, puts None p s is)

  pub fill_step : (value : ℕ) (there : Option ℕ) → Fills part position value there before after → IsStep part map (MapPutIfAbsent map position value) (found there) before after
  fill_step value (Some there) f s is =
      let had : s.maps map position ≡ Some there = ap (λ (m : ℕ → Option ℕ). m position) is ∙ sym f.0 in
      let same : s.maps map ≡ with_at (s.maps map) position (Some there) = sym (with_at_own (s.maps map) position) ∙ ap (with_at (s.maps map) position) had in (
        ap found (sym had),
        own_map s map ∙ ap (with_map s map) same ∙ puts (Some there) f.1 s is,
      )
  fill_step value None f s is =
      (ap found (f.0 ∙ ap (λ (m : ℕ → Option ℕ). m position) (sym is)), puts (Some value) f.1 s is)
