-- The calls of a map.
use Rattle.std.proofs.Common.{◌≡◌, ℕ, zero, suc, ◌+◌, ◌-◌, ◌^◌, ◌<◌, Bool, true, false, cond, ltb, eqb, List, drop, get_or, Some, None, ap, sym, ◌∙◌, refl, inl, inr, subst, arith}
use Rattle.std.specs.Prelude.{Option, IfSome}
use Rattle.std.specs.Option.{option_or}
use Rattle.std.specs.List.{All}
use Rattle.std.proofs.lemmas.Bool.{cases_lt, cond-true, cond-false, lt-ltb, le-ltb}
use Rattle.std.proofs.lemmas.List.{get_or_past, length-take}
use Rattle.std.proofs.lemmas.List.Elements.{All-from_get_or}
use mathlib.Core.Path.{fun_ext}
use Rattle.cell_table.specs.Cells.{AllHold, after}
use Rattle.serial_terms.specs.declared.call.Call.TheVariants.{MapGet, MapPut, MapRemove, MapPutIfAbsent}
use Rattle.serial_terms.specs.declared.call.Reply.TheVariants.{Nothing}
use Rattle.serial_terms.specs.Counts.{with_at}
use Rattle.serial_terms.specs.Renaming.{NamedDone, named}
use Rattle.serial_terms.specs.Serial.{State, found}
use Rattle.store_layout.specs.Laws.{PartsAreApart, WordsAreCells}
use Rattle.store_layout.specs.Shapes.{Shape, the_map, first_of, size_of}
use Rattle.store_layout.specs.States.{words_of, state_in, IsFormed}
use Rattle.store_layout.specs.States as layout
use Rattle.store_meaning.specs.Follows.{Progress, state_with, IsCallOn}
use Rattle.store_parts.specs.Parts.{map_part, Touches, WaitsAlike, noted}
use Rattle.store_parts.specs.Laws.{MapCalls}
use Rattle.store_parts.proofs.Touching.{fits, words_below, word_below, changes_only}
use Rattle.tx_map.specs.declared.part.MapPart.{MapPart}
use Rattle.tx_map.specs.Map.{value_in, map_of, Finds, Puts, Fills}
use Rattle.tx_map.specs.Map as map
use Rattle.tx_map.specs.Steps.{IsStep}

-- a value as a map has it
abbrev IsWord : Option ℕ → Type 0
IsWord there = IfSome there (λ v. v < 2 ^ 64 - 1)

value_same : (w : ℕ) → layout.value_in w ≡ value_in w
value_same zero = refl
value_same (suc v) = refl

value_kept : (w : ℕ) → w < 2 ^ 64 → IsWord (layout.value_in w)
value_kept zero lt = tt
value_kept (suc v) lt = omega arith

word_kept : (w : ℕ) → IsWord (layout.value_in w) → w < 2 ^ 64
word_kept zero is = omega arith
word_kept (suc v) is = omega (arith, is)

either : (b : Bool) (x y : Option ℕ) → IsWord x → IsWord y → IsWord (cond b x y)
either true x y is other = is
either false x y is other = other

or_else : (x y : Option ℕ) → IsWord x → IsWord y → IsWord (option_or x y)
or_else (Some v) y is other = is
or_else None y is other = other

-- what a map's law says of its four calls
abbrev pub SerialGet : MapPart → Type 0
SerialGet part = (map position : ℕ) (there : Option ℕ) (before after : List ℕ) → Finds part position there before after → IsStep part map (MapGet map position) (found there) before after

abbrev pub SerialPut : MapPart → Type 0
SerialPut part = (map position value : ℕ) (before after : List ℕ) → Puts part position (Some value) before after → IsStep part map (MapPut map position value) Nothing before after

abbrev pub SerialRemove : MapPart → Type 0
SerialRemove part = (map position : ℕ) (before after : List ℕ) → Puts part position None before after → IsStep part map (MapRemove map position) Nothing before after

abbrev pub SerialFill : MapPart → Type 0
SerialFill part = (map position value : ℕ) (there : Option ℕ) (before after : List ℕ) → Fills part position value there before after → IsStep part map (MapPutIfAbsent map position value) (found there) before after

module _ (cells_law : WordsAreCells) (apart : PartsAreApart) (s : Shape) (m : ℕ) (part : MapPart) (is : part ≡ map_part s m) (some : 0 < part.capacity) where
  there : 0 < size_of s (the_map m)
  there = subst (λ (p : MapPart). 0 < p.capacity) is some

  own_map_at : (cells : List ℕ) (k : ℕ) → (state_in s cells).maps m k ≡ map_of (map_part s m) cells k
  unfolding state_in
  own_map_at cells k = elim (cases_lt k (get_or s.maps m 0)) [
    | inl lt ↦ ap layout.value_in (cells_law.words s (the_map m) cells k lt) ∙ (value_same (get_or cells (first_of s (the_map m) + k) 0)
        ∙ sym (cond-true (ltb k (get_or s.maps m 0)) (value_in (get_or cells (first_of s (the_map m) + k) 0)) None (lt-ltb k (get_or s.maps m 0) lt)))
    | inr ge ↦ ap layout.value_in (get_or_past (words_of s (the_map m) cells) k 0 (omega (arith, length-take (size_of s (the_map m)) (drop (first_of s (the_map m)) cells))))
        ∙ sym (cond-false (ltb k (get_or s.maps m 0)) (value_in (get_or cells (first_of s (the_map m) + k) 0)) None (le-ltb k (get_or s.maps m 0) ge))
  ]

  map_at : (cells : List ℕ) → (state_in s cells).maps m ≡ map_of part cells
  map_at cells = subst (λ (p : MapPart). (state_in s cells).maps m ≡ map_of p cells) (sym is) (fun_ext (own_map_at cells))

  formed : (cells : List ℕ) → IsFormed s cells → map.IsFormed part cells
  formed cells f = subst (λ (p : MapPart). map.IsFormed p cells) (sym is) (fits apart s (the_map m) there cells f)

  -- each value of the map of well-formed cells is one that a word may say
  kept : (cells : List ℕ) → IsFormed s cells → (k : ℕ) → IsWord (map_of part cells k)
  unfolding state_in
  kept cells f k = subst IsWord (ap (λ (f : ℕ → Option ℕ). f k) (map_at cells)) (value_kept (get_or (words_of s (the_map m) cells) k 0) (word_below (words_of s (the_map m) cells) k (words_below s (the_map m) cells f)))

  -- and where each value is one, so are the words
  below : (cells : List ℕ) → ((k : ℕ) → IsWord (map_of part cells k)) → All (λ w. w < 2 ^ 64) (words_of s (the_map m) cells)
  unfolding state_in
  below cells h = All-from_get_or (λ w. w < 2 ^ 64) (words_of s (the_map m) cells) 0 (λ k lt.
      word_kept (get_or (words_of s (the_map m) cells) k 0) (subst IsWord (sym (ap (λ (f : ℕ → Option ℕ). f k) (map_at cells))) (h k)))

  put_kept : (f : ℕ → Option ℕ) (p : ℕ) (v : Option ℕ) → ((k : ℕ) → IsWord (f k)) → IsWord v → (k : ℕ) → IsWord (with_at f p v k)
  put_kept f p v h own k = either (eqb k p) v (f k) own (h k)

  -- a step of the part's map is one of the store's map
  on_map : (old new : Progress) (d : NamedDone) → Touches s (the_map m) old new → WaitsAlike old new
      → ((cells : List ℕ) → AllHold cells new.observations → IsFormed s (after cells old.writes)
      → IsStep part m (named d).call (named d).reply (after cells old.writes) (after cells new.writes) × ((k : ℕ) → IsWord (map_of part (after cells new.writes) k)))
      → IsCallOn s (the_map m) old new d
  unfolding state_with
  on_map old new d touches waits step = record {
    earlier = touches.earlier;
    changes = λ cells hold f. changes_only s (the_map m) old new touches (λ p own. waits p) cells (below (after cells new.writes) (step cells hold f).1) tt;
    steps = λ cells hold f.
        let st : State = state_with s (after cells old.writes) old.waiting in
        let x = (step cells hold f).0 st (map_at (after cells old.writes)) in
        record {
          replied = x.0;
          leaves = x.1 ∙ ap (λ (own : ℕ → Option ℕ). let z : State = record st { maps = with_at st.maps m own } in z) (sym (map_at (after cells new.writes)));
        };
  }

  pub map_calls : SerialGet part → SerialPut part → SerialRemove part → SerialFill part → MapCalls s m part
  map_calls get put remove fill = record {
    formed = formed;
    get = λ old new key position there child touches waits explains. on_map old new (noted (MapGet m key) (found there) child position) touches waits (λ cells hold f.
        let x = explains cells hold (formed (after cells old.writes) f) in
        (get m position there (after cells old.writes) (after cells new.writes) x, subst (λ (z : List ℕ). (k : ℕ) → IsWord (map_of part z k)) (sym x.1) (kept (after cells old.writes) f)));
    put = λ old new key position value child touches waits small explains. on_map old new (noted (MapPut m key value) Nothing child position) touches waits (λ cells hold f.
        let x = explains cells hold (formed (after cells old.writes) f) in (
          put m position value (after cells old.writes) (after cells new.writes) x,
          λ k. subst (λ (g : ℕ → Option ℕ). IsWord (g k)) (sym x.1) (put_kept (map_of part (after cells old.writes)) position (Some value) (kept (after cells old.writes) f) small k),
        ));
    remove = λ old new key position child touches waits explains. on_map old new (noted (MapRemove m key) Nothing child position) touches waits (λ cells hold f.
        let x = explains cells hold (formed (after cells old.writes) f) in (
          remove m position (after cells old.writes) (after cells new.writes) x,
          λ k. subst (λ (g : ℕ → Option ℕ). IsWord (g k)) (sym x.1) (put_kept (map_of part (after cells old.writes)) position None (kept (after cells old.writes) f) tt k),
        ));
    put_if_absent = λ old new key position value there child touches waits small explains. on_map old new (noted (MapPutIfAbsent m key value) (found there) child position) touches waits (λ cells hold f.
        let x = explains cells hold (formed (after cells old.writes) f) in
        let own : IsWord (option_or there (Some value)) = or_else there (Some value) (subst IsWord (sym x.0) (kept (after cells old.writes) f position)) small in (
          fill m position value there (after cells old.writes) (after cells new.writes) x,
          λ k. subst (λ (g : ℕ → Option ℕ). IsWord (g k)) (sym x.1.1) (put_kept (map_of part (after cells old.writes)) position (option_or there (Some value)) (kept (after cells old.writes) f) own k),
        ));
  }
