-- The calls of a log.
use Rattle.std.proofs.Common.{◌≡◌, ℕ, ◌+◌, ◌-◌, ◌^◌, ◌<◌, ◌≤◌, ltb, List, ◌∷◌, ◌++◌, length, take, drop, get_or, ap, sym, ◌∙◌, refl, subst, arith}
use Rattle.std.specs.Prelude.{Option}
use Rattle.std.specs.List.{All}
use Rattle.std.proofs.lemmas.Bool.{cond-true, lt-ltb}
use Rattle.std.proofs.lemmas.List.{append-nil}
use Rattle.std.proofs.lemmas.List.Elements.{All-map, All-take, All-drop, All-weaker, All-append}
use Rattle.cell_table.specs.Cells.{AllHold, after}
use Rattle.serial_terms.specs.declared.call.Call.TheVariants.{Append, AppendPlaced, LogRead, LogLen}
use Rattle.serial_terms.specs.declared.call.Reply.TheVariants.{Nothing, Value}
use Rattle.serial_terms.specs.Counts.{with_at}
use Rattle.serial_terms.specs.Facts.{with_at_own}
use Rattle.serial_terms.specs.Ranges.{IsKept}
use Rattle.serial_terms.specs.Renaming.{NamedDone, named}
use Rattle.serial_terms.specs.Serial.{State, Sequence, IsReplied, step, put_log, found, Allows}
use Rattle.serial_terms.specs.Serial as serial
use Rattle.store_layout.specs.Laws.{PartsAreApart}
use Rattle.store_layout.specs.Shapes.{Shape, the_log, with_end, size_of, cells_of, most_cells}
use Rattle.store_layout.specs.States.{words_of, state_in, IsFormed}
use Rattle.store_layout.specs.States as layout
use Rattle.store_meaning.specs.Follows.{Progress, state_with, IsCallOn}
use Rattle.store_parts.specs.Parts.{log_part, Touches, WaitsAlikeBut, noted}
use Rattle.store_parts.specs.Laws.{LogCalls}
use Rattle.store_parts.proofs.Touching.{fits, words_below, changes_only}
use Rattle.store_parts.proofs.LogWords.{words_are, to_log, from_log, values_same, log_below}
use Rattle.tx_log.specs.declared.part.LogPart.{LogPart}
use Rattle.tx_core.specs.Sequences.{Appends, HasLength}
use Rattle.tx_log.specs.Log.{IsLog, values_in, AppendsAt, HasAt}

-- what the law of logs says of their calls
abbrev pub SerialAppend : Type 0
SerialAppend = (s : State) (l value : ℕ) (then : List ℕ) → Appends value (s.logs l).items then → Allows s (Append l value) Nothing × (serial.after s (Append l value) Nothing ≡ put_log s l then)

abbrev pub SerialPlaced : Type 0
SerialPlaced = (s : State) (l value place : ℕ) (then : List ℕ) → AppendsAt value place (s.logs l).items then → Allows s (AppendPlaced l value) (Value place) × (serial.after s (AppendPlaced l value) (Value place) ≡ put_log s l then)

abbrev pub SerialRead : Type 0
SerialRead = (s : State) (l i : ℕ) (x : Option ℕ) (then : List ℕ) → HasAt i x (s.logs l).items then → Allows s (LogRead l i) (found x) × (serial.after s (LogRead l i) (found x) ≡ put_log s l then)

abbrev pub SerialLen : Type 0
SerialLen = (s : State) (l n : ℕ) (then : List ℕ) → HasLength n (s.logs l).items then → Allows s (LogLen l) (Value n) × (serial.after s (LogLen l) (Value n) ≡ put_log s l then)

module _ (apart : PartsAreApart) (s : Shape) (l : ℕ) (there : l < length s.logs) (few : cells_of s ≤ most_cells) where
  abbrev part : LogPart
  part = log_part s l

  sized : size_of s (the_log l) ≡ get_or s.logs l 0 + 1
  sized = cond-true {A = ℕ} (ltb l (length s.logs)) (with_end (get_or s.logs l 0)) 0 (lt-ltb l (length s.logs) there)

  in_cells : (cells : List ℕ) → IsFormed s cells → part.end + part.capacity < length cells
  in_cells cells f = omega (arith, sized, fits apart s (the_log l) (omega (arith, sized)) cells f)

  words_here : (cells : List ℕ) → part.end + part.capacity < length cells → words_of s (the_log l) cells ≡ get_or cells part.end 0 ∷ take part.capacity (drop (part.end + 1) cells)
  words_here cells there = ap (λ (n : ℕ). take n (drop part.end cells)) sized ∙ words_are part cells there

  formed : (cells : List ℕ) → IsFormed s cells → IsLog part cells
  formed cells f = to_log part cells (in_cells cells f) (subst layout.IsLog (words_here cells (in_cells cells f)) (f.parts (the_log l)))

  are : (cells : List ℕ) → IsLog part cells → layout.IsLog (words_of s (the_log l) cells)
  are cells is = subst layout.IsLog (sym (words_here cells is.in_table)) (from_log part cells is.in_table is)

  items_here : (cells : List ℕ) → IsLog part cells → ((state_in s cells).logs l).items ≡ values_in part cells
  unfolding state_in
  items_here cells is = ap layout.log_in (words_here cells is.in_table) ∙ values_same part cells is.in_table is

  -- with what waits
  abbrev with_waiting : Progress → List ℕ → List ℕ
  with_waiting a cells = values_in part (after cells a.writes) ++ a.waiting part.part

  items_with : (a : Progress) (cells : List ℕ) → IsLog part (after cells a.writes) → ((state_with s (after cells a.writes) a.waiting).logs l).items ≡ with_waiting a cells
  unfolding state_with
  items_with a cells is = ap (λ (xs : List ℕ). xs ++ a.waiting part.part) (items_here (after cells a.writes) is)

  sequence_is : (a b : Sequence) → a.items ≡ b.items → a.capacity ≡ b.capacity → a ≡ b
  sequence_is a b items capacity = λ i. record { items = items i; capacity = capacity i }

  capacity_with : (a : Progress) (cells : List ℕ) → ((state_with s (after cells a.writes) a.waiting).logs l).capacity ≡ part.capacity
  unfolding state_with state_in
  capacity_with a cells = refl

  on_log : (old new : Progress) (d : NamedDone) → Touches s (the_log l) old new → new.writes ≡ old.writes → WaitsAlikeBut part.part old new
      → ((cells : List ℕ) → AllHold cells new.observations → IsLog part (after cells old.writes)
      → IsLog part (after cells new.writes) × ((st : State) → (st.logs l).items ≡ with_waiting old cells
      → IsReplied st (named d) × (step st (named d) ≡ put_log st l (with_waiting new cells))))
      → IsCallOn s (the_log l) old new d
  on_log old new d touches same waits step = record {
    earlier = touches.earlier;
    changes = λ cells hold f. changes_only s (the_log l) old new touches waits cells
        (subst (λ (ws : List (ℕ × ℕ)). All (λ w. w < 2 ^ 64) (words_of s (the_log l) (after cells ws))) (sym same) (words_below s (the_log l) (after cells old.writes) f))
        (are (after cells new.writes) (step cells hold (formed (after cells old.writes) f)).0);
    steps = λ cells hold f.
        let st : State = state_with s (after cells old.writes) old.waiting in
        let then : State = state_with s (after cells new.writes) new.waiting in
        let was = formed (after cells old.writes) f in
        let made = step cells hold was in
        let x = made.1 st (items_with old cells was) in
        let own : (let q : Sequence = record { items = with_waiting new cells; capacity = (st.logs l).capacity } in q) ≡ then.logs l =
        sequence_is (record { items = with_waiting new cells; capacity = (st.logs l).capacity }) (then.logs l) (sym (items_with new cells made.0)) (capacity_with old cells ∙ sym (capacity_with new cells)) in
        record { replied = x.0; leaves = x.1 ∙ ap (λ (q : Sequence). let z : State = record st { logs = with_at st.logs l q } in z) own };
  }

  -- the values of a log in well-formed cells are below 2^64 - 1
  values_below : (cells : List ℕ) → IsFormed s cells → All IsKept (values_in part cells)
  values_below cells f = All-map IsKept (λ (w : ℕ). w - 1) (take (get_or cells part.end 0) (drop (part.end + 1) cells))
      (All-weaker (λ w. w < 2 ^ 64) (λ w. w - 1 < 2 ^ 64 - 1) (λ w lt. omega arith) (take (get_or cells part.end 0) (drop (part.end + 1) cells))
      (All-take (λ w. w < 2 ^ 64) (get_or cells part.end 0) (drop (part.end + 1) cells) (All-drop (λ w. w < 2 ^ 64) (part.end + 1) cells f.words)))

  own_calls : SerialAppend → SerialPlaced → SerialRead → SerialLen → LogCalls s l part
  own_calls append placed read len = record {
    formed = formed;
    append = λ old new value child touches same waits makes. on_log old new (noted (Append l value) Nothing child 0) touches same waits (λ cells hold is.
        let x = makes cells hold is in
        (x.0, λ st items. append st l value (with_waiting new cells) (subst (λ (xs : List ℕ). Appends value xs (with_waiting new cells)) (sym items) x.1)));
    append_placed = λ old new value place child touches same waits makes. on_log old new (noted (AppendPlaced l value) (Value place) child 0) touches same waits (λ cells hold is.
        let x = makes cells hold is in
        (x.0, λ st items. placed st l value place (with_waiting new cells) (subst (λ (xs : List ℕ). AppendsAt value place xs (with_waiting new cells)) (sym items) x.1)));
    read = λ old new i found_there child touches same waits makes. on_log old new (noted (LogRead l i) (found found_there) child 0) touches same (λ p own. waits p) (λ cells hold is.
        let x = makes cells hold is in
        (x.0, λ st items. read st l i found_there (with_waiting new cells) (subst (λ (xs : List ℕ). HasAt i found_there xs (with_waiting new cells)) (sym items) x.1)));
    len = λ old new n child touches same waits makes. on_log old new (noted (LogLen l) (Value n) child 0) touches same (λ p own. waits p) (λ cells hold is.
        let x = makes cells hold is in
        (x.0, λ st items. len st l n (with_waiting new cells) (subst (λ (xs : List ℕ). HasLength n xs (with_waiting new cells)) (sym items) x.1)));
    resolve = λ old new touches waits emptied kept makes. record {
      earlier = touches.earlier;
      changes = λ cells hold f.
          let was = formed (after cells old.writes) f in
          let x = makes cells hold was in
          let values : values_in part (after cells new.writes) ≡ with_waiting old cells =
          sym (append-nil (values_in part (after cells new.writes))) ∙ (ap (λ (xs : List ℕ). values_in part (after cells new.writes) ++ xs) (sym emptied) ∙ x.1.0) in
          let all : All IsKept (values_in part (after cells new.writes)) = subst (All IsKept) (sym values)
          (All-append IsKept (values_in part (after cells old.writes)) (old.waiting part.part) (values_below (after cells old.writes) f) kept) in
          let small : part.capacity < 2 ^ 64 = omega (arith, was.in_table, f.sized, few) in
          changes_only s (the_log l) old new touches waits cells
          (subst (All (λ w. w < 2 ^ 64)) (sym (words_here (after cells new.writes) x.0.in_table)) (log_below part (after cells new.writes) x.0.in_table small x.0 all))
          (are (after cells new.writes) x.0);
      same = λ cells hold f.
          let st : State = state_with s (after cells old.writes) old.waiting in
          let then : State = state_with s (after cells new.writes) new.waiting in
          let was = formed (after cells old.writes) f in
          let x = makes cells hold was in
          let own : then.logs l ≡ st.logs l = sequence_is (then.logs l) (st.logs l) (items_with new cells x.0 ∙ (x.1.0 ∙ sym (items_with old cells was))) (capacity_with new cells ∙ sym (capacity_with old cells)) in
          ap (λ (q : Sequence). let z : State = record st { logs = with_at st.logs l q } in z) own ∙ ap (λ (g : ℕ → Sequence). let z : State = record st { logs = g } in z) (with_at_own st.logs l);
    };
    exceeds = λ old new n makes cells hold f.
        let was = formed (after cells old.writes) f in
        ap length (items_with old cells was) ∙ (makes cells hold was).1.0;
  }

  pub log_calls : (own : LogPart) → own ≡ part → SerialAppend → SerialPlaced → SerialRead → SerialLen → LogCalls s l own
  log_calls own is append placed read len = subst (λ (p : LogPart). LogCalls s l p) (sym is) (own_calls append placed read len)
