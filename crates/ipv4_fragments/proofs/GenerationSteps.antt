-- One fragment more among the generations of its key.
use Rattle.std.proofs.Common.{◌≡◌, ℕ, suc, ◌+◌, ◌<◌, ◌≤◌, Bool, true, false, List, [], ◌∷◌, ◌++◌, Option, None, Some, refl, sym, ◌∙◌, ap, subst, arith, length, length-append, append-nil}
use Rattle.std.specs.Prelude.{◌&&◌, ◌==◌, filter, map, fold, IfSome, if◌then◌else◌}
use Rattle.std.specs.List.{last_or}
use Rattle.std.specs.Ordering.{is_eq}
use Rattle.std.specs.Cmp.{unsigned_tied}
use Rattle.std.specs.BTreeMap.{BTreeMap, get}
use Rattle.std.proofs.lemmas.Bool.Decides.{nat_tests}
use Rattle.std.proofs.lemmas.List.{map-append, length-map}
use Rattle.std.proofs.lemmas.List.Elements.{filter-append}
use Rattle.std.proofs.lemmas.List.Sums.{length-filter, count_by-le-length}
use Rattle.capture_terms.specs.Generations.{Timed, is_same_header, is_of_key, begins, with_beginning, beginnings, generation_at, times_of, kinds_behind, in_generations}
use Rattle.capture_terms.specs.declared.datagram.Piece.{Piece}
use Rattle.ipv4_fragments.specs.Maps.{HasPut}
use Rattle.ipv4_fragments.specs.Generations.{key_of, key_cmp, fragment_at, is_later, newest_behind, IsNewest, Tells}
use Rattle.ipv4_fragments.specs.declared.generations.Generations.{Generations}
use Rattle.ipv4_fragments.specs.declared.generations.Key.{Key}
use Rattle.ipv4_fragments.specs.declared.generations.Newest.{Newest}
use Rattle.ipv4_fragments.proofs.GroupNumbers.{tied, same_headers}

-- Keys.

abbrev pub is_same : Key → Key → Bool
is_same k l = is_same_header k.header l.header && (k.id == l.id)

key_with : (s d p i : ℕ) → Key
key_with s d p i = record { header = record { source = s; destination = d; protocol = p }; id = i }

pub same_key : (k l : Key) → is_same k l ≡ true → k ≡ l
unfolding key_with
same_key k l same =
    let source : k.header.source ≡ l.header.source = grind (arith, nat_tests) in
    let destination : k.header.destination ≡ l.header.destination = grind (arith, nat_tests) in
    let protocol : k.header.protocol ≡ l.header.protocol = grind (arith, nat_tests) in
    let id : k.id ≡ l.id = grind (arith, nat_tests) in
    ap (λ (n : ℕ). key_with n k.header.destination k.header.protocol k.id) source
    ∙ ap (λ (n : ℕ). key_with l.header.source n k.header.protocol k.id) destination
    ∙ ap (λ (n : ℕ). key_with l.header.source l.header.destination n k.id) protocol
    ∙ ap (λ (n : ℕ). key_with l.header.source l.header.destination l.header.protocol n) id

pub same_itself : (k : Key) → is_same k k ≡ true
same_itself k = grind (arith, nat_tests)

pub same_keys : (k l : Key) → is_eq (key_cmp k l) ≡ is_same k l
same_keys k l = tied _ _ _ _ (same_headers k.header l.header) (unsigned_tied k.id l.id)

same_swapped : (k l : Key) (b : Bool) → is_same k l ≡ b → is_same l k ≡ b
same_swapped k l true same = ap (λ (m : Key). is_same l m) (same_key k l same) ∙ same_itself l
same_swapped k l false other = by_case (is_same l k) refl
  where
    by_case : (b : Bool) → is_same l k ≡ b → b ≡ false
    by_case false _ = refl
    by_case true same = sym (same_itself k) ∙ ap (λ (m : Key). is_same k m) (sym (same_key l k same)) ∙ other

-- The fragments of a key.

times_same : (q p : Piece) (frames : List Timed) (time : ℕ) → is_same (key_of q) (key_of p) ≡ true → times_of q (frames ++ fragment_at time p ∷ []) ≡ times_of q frames ++ time ∷ []
times_same q p frames time same =
    ap (map (λ (f : Timed). f.time)) (filter-append (λ (f : Timed). is_of_key q f.kind) frames (fragment_at time p ∷ []) ∙ ap (λ (l : List Timed). filter (λ (f : Timed). is_of_key q f.kind) frames ++ l) (rw same refl))
    ∙ map-append (λ (f : Timed). f.time) (filter (λ (f : Timed). is_of_key q f.kind) frames) (fragment_at time p ∷ [])

pub times_other : (q : Piece) (frames : List Timed) (frame : Timed) → is_of_key q frame.kind ≡ false → times_of q (frames ++ frame ∷ []) ≡ times_of q frames
times_other q frames frame other =
    ap (map (λ (f : Timed). f.time)) (filter-append (λ (f : Timed). is_of_key q f.kind) frames (frame ∷ []) ∙ ap (λ (l : List Timed). filter (λ (f : Timed). is_of_key q f.kind) frames ++ l) (rw other refl) ∙ append-nil (filter (λ (f : Timed). is_of_key q f.kind) frames))

times_few : (q : Piece) (frames : List Timed) → length (times_of q frames) ≤ length frames
times_few q frames =
    let one = length-map (filter (λ (f : Timed). is_of_key q f.kind) frames) (λ (f : Timed). f.time) in
    let two = length-filter (λ (f : Timed). is_of_key q f.kind) frames in
    let most = count_by-le-length (λ (f : Timed). is_of_key q f.kind) frames in
    omega (arith, one, two, most)

-- Beginnings.

begun_few : (window : ℕ) (times begun : List ℕ) → length (fold (with_beginning window) begun times) ≤ length begun + length times
begun_few window [] begun = omega arith
begun_few window (time ∷ times) begun =
    let rest = begun_few window times (with_beginning window begun time) in
    let one = by_case (begins window (last_or None begun) time) in
    omega (arith, rest, one)
  where
    by_case : (b : Bool) → length (if b then begun ++ time ∷ [] else begun) ≤ length begun + 1
    by_case true = omega (arith, length-append begun (time ∷ []))
    by_case false = omega arith

last_push : {A : Type 0} (o : Option A) (xs : List A) (x : A) → last_or o (xs ++ x ∷ []) ≡ Some x
last_push o [] x = refl
last_push o (y ∷ xs) x = last_push (Some y) xs x

module _ (law : (window : ℕ) (times : List ℕ) (time : ℕ) → beginnings window (times ++ time ∷ []) ≡ with_beginning window (beginnings window times) time) where
  newest_step : (next window : ℕ) (times : List ℕ) (o : Option Newest) (time : ℕ) → IsNewest window times o → IsNewest window (times ++ time ∷ []) (Some (newest_behind o window time next))
  newest_step next window times None time none =
      let now : beginnings window (times ++ time ∷ []) ≡ time ∷ [] = law window times time ∙ (rw none refl) in
      (ap (last_or None) now, ap (length {A = ℕ}) now)
  newest_step next window times (Some n) time is = by_case (is_later n window time) refl
    where
      begun : List ℕ
      begun = beginnings window times

      now : (b : Bool) → is_later n window time ≡ b → beginnings window (times ++ time ∷ []) ≡ (if b then begun ++ time ∷ [] else begun)
      now b later = law window times time ∙ ap (λ (o : Option ℕ). if begins window o time then begun ++ time ∷ [] else begun) is.0 ∙ ap (λ (b : Bool). if b then begun ++ time ∷ [] else begun) later

      by_case : (b : Bool) → is_later n window time ≡ b → IsNewest window (times ++ time ∷ []) (Some (if b then record { began = time; generation = n.generation + 1; group = next } else n))
      by_case true later =
          let long = ap (length {A = ℕ}) (now true later) ∙ length-append begun (time ∷ []) in
          (ap (last_or None) (now true later) ∙ last_push None begun time, omega (arith, long, is.1))
      by_case false later = (ap (last_or None) (now false later) ∙ is.0, ap (length {A = ℕ}) (now false later) ∙ is.1)

  -- a fragment more, of which the newest generation was told
  module _ (old : Generations) (frames : List Timed) (tells : Tells old frames) (p : Piece) (time next : ℕ) (told : Newest) (is : told ≡ newest_behind (get key_cmp old.newest (key_of p)) old.window time next) where
    pub told_right : told.generation ≡ generation_at old.window (times_of p frames ++ time ∷ [])
    told_right =
        let now = newest_step next old.window (times_of p frames) (get key_cmp old.newest (key_of p)) time (tells.newest p) in
        let same : told.generation ≡ (newest_behind (get key_cmp old.newest (key_of p)) old.window time next).generation = ap (λ (n : Newest). n.generation) is in
        omega (arith, now.1, same)

    pub tells_more : (new : Generations) → new.window ≡ old.window → HasPut key_cmp old.newest new.newest (key_of p) told → IfSome new.last (λ l. get key_cmp new.newest l.0 ≡ Some l.1) → Tells new (frames ++ fragment_at time p ∷ [])
    tells_more new window put last = record {
      newest = λ q. subst (λ (w : ℕ). IsNewest w (times_of q (frames ++ fragment_at time p ∷ [])) (get key_cmp new.newest (key_of q))) (sym window) (by_case q (is_same (key_of p) (key_of q)) refl);
      last = last;
    }
      where
        by_case : (q : Piece) (b : Bool) → is_same (key_of p) (key_of q) ≡ b → IsNewest old.window (times_of q (frames ++ fragment_at time p ∷ [])) (get key_cmp new.newest (key_of q))
        by_case q true same =
            let keys = same_key (key_of p) (key_of q) same in
            let here : get key_cmp new.newest (key_of q) ≡ Some told = put (key_of q) ∙ ap (λ (b : Bool). if b then Some told else get key_cmp old.newest (key_of q)) (same_keys (key_of p) (key_of q) ∙ same) in
            let now : Some (newest_behind (get key_cmp old.newest (key_of q)) old.window time next) ≡ get key_cmp new.newest (key_of q) = ap (λ (k : Key). Some (newest_behind (get key_cmp old.newest k) old.window time next)) (sym keys) ∙ ap Some (sym is) ∙ sym here in
            subst (λ (l : List ℕ). IsNewest old.window l (get key_cmp new.newest (key_of q))) (sym (times_same q p frames time (same_swapped (key_of p) (key_of q) true same)))
            (subst (IsNewest old.window (times_of q frames ++ time ∷ [])) now (newest_step next old.window (times_of q frames) (get key_cmp old.newest (key_of q)) time (tells.newest q)))
        by_case q false other =
            let here : get key_cmp new.newest (key_of q) ≡ get key_cmp old.newest (key_of q) = put (key_of q) ∙ ap (λ (b : Bool). if b then Some told else get key_cmp old.newest (key_of q)) (same_keys (key_of p) (key_of q) ∙ other) in
            subst (λ (l : List ℕ). IsNewest old.window l (get key_cmp new.newest (key_of q))) (sym (times_other q frames (fragment_at time p) (same_swapped (key_of p) (key_of q) false other)))
            (subst (IsNewest old.window (times_of q frames)) (sym here) (tells.newest q))

-- a frame more that carries no fragment
pub tells_other : (generations : Generations) (frames : List Timed) (frame : Timed) → ((q : Piece) → is_of_key q frame.kind ≡ false) → Tells generations frames → Tells generations (frames ++ frame ∷ [])
tells_other generations frames frame other tells = record {
  newest = λ q. subst (λ (l : List ℕ). IsNewest generations.window l (get key_cmp generations.newest (key_of q))) (sym (times_other q frames frame (other q))) (tells.newest q);
  last = tells.last;
}

-- a key of which this is the newest generation has it still
pub has_still : (newest : BTreeMap Key Newest) (key : Key) (n : Newest) → get key_cmp newest key ≡ Some n → HasPut key_cmp newest newest key n
has_still newest key n is other = by_case (is_same key other) refl
  where
    by_case : (b : Bool) → is_same key other ≡ b → get key_cmp newest other ≡ (if is_eq (key_cmp key other) then Some n else get key_cmp newest other)
    by_case true same = ap (get key_cmp newest) (sym (same_key key other same)) ∙ is ∙ sym (rw (same_keys key other ∙ same) refl)
    by_case false away = sym (rw (same_keys key other ∙ away) refl)

-- the key has the newest generation that was put
pub has_put : (old new : BTreeMap Key Newest) (key : Key) (n : Newest) → HasPut key_cmp old new key n → get key_cmp new key ≡ Some n
has_put old new key n put = put key ∙ (rw (same_keys key key ∙ same_itself key) refl)

-- there are fewer generations than frames
pub newest_few : (generations : Generations) (frames : List Timed) (most : ℕ) (p : Piece) → Tells generations frames → length frames < most → IfSome (get key_cmp generations.newest (key_of p)) (λ n. n.generation < most)
newest_few generations frames most p tells short = by_case (get key_cmp generations.newest (key_of p)) (tells.newest p)
  where
    by_case : (o : Option Newest) → IsNewest generations.window (times_of p frames) o → IfSome o (λ n. n.generation < most)
    by_case None is = tt
    by_case (Some n) is = omega (arith, is.1, begun_few generations.window (times_of p frames) [], times_few p frames, short)

-- as many frames are in generations as there are
length_behind : (window : ℕ) (before frames : List Timed) → length (kinds_behind window before frames) ≡ length frames
length_behind window before [] = refl
length_behind window before (f ∷ frames) = ap (λ (n : ℕ). suc n) (length_behind window (before ++ f ∷ []) frames)

pub length_in_generations : (window : ℕ) (frames : List Timed) → length (in_generations window frames) ≡ length frames
unfolding in_generations
length_in_generations window frames = length_behind window [] frames
