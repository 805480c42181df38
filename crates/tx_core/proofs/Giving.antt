-- Giving held cells back one by one.
use Rattle.std.proofs.Common.{◌≡◌, ◌≢◌, ℕ, zero, suc, ◌+◌, ◌-◌, ◌<◌, ◌≤◌, eqb, Bool, true, false, List, [], ◌∷◌, ◌++◌, length, take, is_some, if◌then◌else◌, None, All, refl, sym, ap, subst, ◌∙◌, append_assoc, append-nil, arith}
use Rattle.std.proofs.Math.Seq.{take-append_seam}
use Rattle.std.proofs.lemmas.Bool.Decides.{nat_tests}
use Rattle.std.proofs.lemmas.List.{length_push}
use Rattle.std.specs.Map.{keys_of}
use Rattle.cell_table.specs.Cells.{has}
use Rattle.cell_table.specs.Sorted.{Among}
use Rattle.cell_table.specs.Rule.{cells_of, without}
use Rattle.cell_table.specs.declared.view.View.{View}
use Rattle.cell_table.specs.declared.view.Event.{Event}
use Rattle.cell_table.specs.declared.view.Stage.{Stage}
use Rattle.cell_table.specs.declared.view.Stage.TheVariants.{Open, Drawn, Decided}
use Rattle.cell_table.specs.Steps.{IsUndecided, IsStoredOrUndecided, after_release}
use Rattle.cell_table.specs.Pass.{TableState, PassState, IsPassOf, IsHeld, after_give, trail_of}
use Rattle.attempt_lists.specs.Cells.{Entries, word_at}
use Rattle.tx_core.specs.Causes.{GrewBy, begun_of}
use Rattle.tx_core.specs.Children.{held_of}
use Rattle.tx_core.specs.Seen.{Releases}
use Rattle.tx_core.specs.Facts.{grows_none, grows_trans}
use Rattle.tx_core.proofs.HeldCells.{has_insert, has_held_of, has_without, held_of_more, without_insert, among_without}

-- what holds while the cells behind the first ones are given back
pub record IsGiving {M D : Type 0} (table : TableState M) (first : PassState M D) (all : Entries) (len : ℕ) (p : PassState M D) (held : Entries) : Type 0 where
  pub of : IsPassOf table p
  pub listed : p.view.held ≡ held_of held
  pub in_table : All (λ c. c < length table.opening) (keys_of held)
  pub rest : Entries
  pub split : all ≡ held ++ rest
  pub enough : len ≤ length held
  pub stored : IsStoredOrUndecided p.view.stage
  pub undrawn : p.view.held ≡ [] → p.view.stage ≡ Open
  pub releases : Releases first p
  pub more : List Event
  pub grew : trail_of p ≡ trail_of first ++ more
  pub left : length more + length held ≤ length all

pub stored_or_undecided : {D : Type 0} (st : Stage D) → IsUndecided st → IsStoredOrUndecided st
stored_or_undecided Open h = tt
stored_or_undecided (Drawn u) h = tt
stored_or_undecided (Decided u r stored) h = absurd h

stored_after : {D : Type 0} (hs : List (ℕ × ℕ)) (st : Stage D) → IsStoredOrUndecided st → IsStoredOrUndecided (after_release hs st)
stored_after [] st h = tt
stored_after (t ∷ ts) st h = h

open_after : {D : Type 0} (hs : List (ℕ × ℕ)) (st : Stage D) → hs ≡ [] → after_release hs st ≡ Open
open_after [] st none = refl
open_after (t ∷ ts) st none = cc

all_before : (n : ℕ) (es : Entries) (e : ℕ × ℕ) → All (λ c. c < n) (keys_of (es ++ e ∷ [])) → All (λ c. c < n) (keys_of es) × (e.0 < n)
all_before n [] e all = (λ k d lt. absurd (omega arith), all 0 0 (omega arith))
all_before n (x ∷ es) e all =
    let rest = all_before n es e (λ k d lt. all (suc k) d (omega arith)) in
    (first all rest.0, rest.1)
  where
    first : All (λ c. c < n) (keys_of ((x ∷ es) ++ e ∷ [])) → All (λ c. c < n) (keys_of es) → All (λ c. c < n) (keys_of (x ∷ es))
    first all tail zero d lt = all 0 d (omega arith)
    first all tail (suc k) d lt = tail k d (omega arith)

module _ {M D : Type 0} where
  pub releases_none : (p : PassState M D) → Releases p p
  releases_none p = record {
    gives = record { grows = grows_none p.view; known = refl; draws = refl; books = refl; seen = refl; room = refl; reserved = refl };
    callers = refl;
    opens = λ e. e;
    begun = refl;
    places = omega arith;
    fewer = λ c h. h;
    kept = λ t h g. h;
  }

  -- one more cell is given back
  pub releases_one : (first p q : PassState M D) (c : ℕ) → Releases first p → q ≡ after_give p c → Releases first q
  releases_one first p q c r is =
      let view = ap (λ (s : PassState M D). s.view) is in
      let kept : q.view.held ≡ without c p.view.held = ap (λ (v : View M D). v.held) view in
      let stage : q.view.stage ≡ after_release (without c p.view.held) p.view.stage = ap (λ (v : View M D). v.stage) view in
      let places : q.places ≡ p.places + 1 = ap (λ (s : PassState M D). s.places) is in
      let here : (d : ℕ) → has d (cells_of q.view.held) ≡ (if eqb c d then false else has d (cells_of p.view.held)) = λ d. ap (λ (h : List (ℕ × ℕ)). has d (cells_of h)) kept ∙ has_without d c p.view.held in
      record {
        gives = record {
          grows = grows_trans first.view p.view q.view r.gives.grows (rw view (record { meaning = refl; opening = refl; total = refl; known = omega arith; values = λ t h. h; validations = λ t h. h }));
          known = ap (λ (v : View M D). v.known) view ∙ r.gives.known;
          draws = ap (λ (v : View M D). v.draws) view ∙ r.gives.draws;
          books = ap (λ (s : PassState M D). s.books) is ∙ r.gives.books;
          seen = ap (λ (s : PassState M D). s.seen) is ∙ r.gives.seen;
          room = ap (λ (s : PassState M D). s.room) is ∙ r.gives.room;
          reserved = ap (λ (s : PassState M D). s.reserved) is ∙ r.gives.reserved;
        };
        callers = ap (λ (v : View M D). v.books) view ∙ r.callers;
        opens = λ e. stage ∙ still_open (without c p.view.held) p.view.stage (r.opens e);
        begun = ap (λ (v : View M D). begun_of v.trail) view ∙ r.begun;
        places = omega (arith, places, r.places);
        fewer = λ d h. r.fewer d (was d (sym (here d) ∙ h));
        kept = λ t h g. subst (λ (l : List (ℕ × ℕ)). Among t l) (sym kept) (among_without t c p.view.held (other t.0 (sym (here t.0) ∙ g)) (r.kept t h (was t.0 (sym (here t.0) ∙ g))));
      }
    where
      still_open : (hs : List (ℕ × ℕ)) (st : Stage D) → st ≡ Open → after_release hs st ≡ Open
      still_open [] st e = refl
      still_open (t ∷ ts) st e = e

      was : (d : ℕ) → (if eqb c d then false else has d (cells_of p.view.held)) ≡ true → has d (cells_of p.view.held) ≡ true
      was d e = at (eqb c d) e
        where
          at : (b : Bool) → (if b then false else has d (cells_of p.view.held)) ≡ true → has d (cells_of p.view.held) ≡ true
          at true f = cc
          at false f = f

      other : (d : ℕ) → (if eqb c d then false else has d (cells_of p.view.held)) ≡ true → d ≢ c
      other d e same = grind (arith, nat_tests, e, same)

module _ {M D : Type 0} (table : TableState M) (start : PassState M D) (all : Entries) (len : ℕ) where
  -- the last cell may be given back
  pub giving_cell : (p : PassState M D) (held rest : Entries) (e : ℕ × ℕ) → IsGiving table start all len p held → held ≡ rest ++ e ∷ [] → (e.0 < length table.opening) × IsHeld p e.0 × IsStoredOrUndecided p.view.stage
  giving_cell p held rest e g is = (
    (all_before _ rest e (rw is at g.in_table)).1,
    ap (λ (h : List (ℕ × ℕ)). has e.0 (cells_of h)) (g.listed ∙ ap held_of is ∙ held_of_more rest e) ∙ has_insert e.0 e.0 e.1 (held_of rest) ∙ here,
    g.stored,
  )
    where
      here : (if eqb e.0 e.0 then true else has e.0 (cells_of (held_of rest))) ≡ true
      here = grind (arith, nat_tests)

  -- and the others are left
  pub giving_step : (p q : PassState M D) (held rest : Entries) (e : ℕ × ℕ) (step : Event) → IsGiving table start all len p held → len < length held → held ≡ rest ++ e ∷ [] → word_at rest e.0 ≡ None → IsPassOf table q → q ≡ after_give p e.0 → trail_of q ≡ trail_of p ++ step ∷ [] → IsGiving table start all len q rest
  giving_step p q held rest e step g above is gone of given_is trail =
      let view = ap (λ (s : PassState M D). s.view) given_is in
      let kept : q.view.held ≡ without e.0 p.view.held = ap (λ (v : View M D). v.held) view in
      let stage : q.view.stage ≡ after_release (without e.0 p.view.held) p.view.stage = ap (λ (v : View M D). v.stage) view in
      let first : has e.0 (cells_of (held_of rest)) ≡ false = has_held_of rest e.0 ∙ ap is_some gone in
      record {
        of = of;
        listed = kept ∙ ap (λ (h : List (ℕ × ℕ)). without e.0 h) (g.listed ∙ ap held_of is ∙ held_of_more rest e) ∙ without_insert e (held_of rest) first;
        in_table = (all_before _ rest e (rw is at g.in_table)).0;
        rest = e ∷ g.rest;
        split = g.split ∙ ap (λ (h : Entries). h ++ g.rest) is ∙ append_assoc rest (e ∷ []) g.rest;
        enough = omega (arith, above, ap length is, length_push rest e);
        stored = rw stage (stored_after (without e.0 p.view.held) p.view.stage g.stored);
        undrawn = λ none. stage ∙ open_after (without e.0 p.view.held) p.view.stage (sym kept ∙ none);
        releases = releases_one start p q e.0 g.releases given_is;
        more = g.more ++ step ∷ [];
        grew = trail ∙ ap (λ (t : List Event). t ++ step ∷ []) g.grew ∙ append_assoc (trail_of start) g.more (step ∷ []);
        left = omega (arith, g.left, ap length is, length_push rest e, length_push g.more step);
      }

  pub giving_begins : IsPassOf table start → start.view.held ≡ held_of all → All (λ c. c < length table.opening) (keys_of all) → len ≤ length all → IsStoredOrUndecided start.view.stage → (start.view.held ≡ [] → start.view.stage ≡ Open) → IsGiving table start all len start all
  giving_begins of listed in_table enough stored undrawn = record {
    of = of;
    listed = listed;
    in_table = in_table;
    rest = [];
    split = sym (append-nil all);
    enough = enough;
    stored = stored;
    undrawn = undrawn;
    releases = releases_none start;
    more = [];
    grew = sym (append-nil (trail_of start));
    left = omega arith;
  }

  -- at the end the first cells are left
  pub giving_ends : (p : PassState M D) (held : Entries) → IsGiving table start all len p held → length held ≤ len → (held ≡ take len all) × GrewBy (length all - len) (trail_of start) (trail_of p)
  giving_ends p held g done =
      let at : length held ≡ len = omega (arith, done, g.enough) in
      (sym (ap (λ (es : Entries). take len es) g.split ∙ ap (λ (n : ℕ). take n (held ++ g.rest)) (sym at) ∙ take-append_seam held g.rest), (g.more, g.grew, omega (arith, g.left, at)))
