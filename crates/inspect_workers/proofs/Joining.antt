-- The passes of the seats, which are joined to one again.
use Rattle.std.proofs.Common.{◌≡◌, ℕ, ◌+◌, ◌<◌, ◌≤◌, List, length, length-set, Option, Some, None, sym, ap, ◌∙◌, subst, arith}
use Rattle.std.proofs.lemmas.List.Elements.{All-set}
use Rattle.std.proofs.lemmas.List.Sums.{sum_by-set}
use Rattle.std.proofs.lemmas.List.{get_or-set_same, get_or-set_other}
use Rattle.std.proofs.Math.Decide.{dec_lt}
use Rattle.std.proofs.Math.ListN.{get_or, set}
use Rattle.std.specs.Prelude.{All, IfSome}
use Rattle.tx_store.specs.Parting.{IsJoined}
use Rattle.tx_store.specs.Stores.{IsPassOfStore}
use Rattle.inspect_workers.specs.declared.seats.Seat.{Seat}
use Rattle.inspect_workers.specs.Noted.{fills_in}
use Rattle.inspect_workers.specs.Seats.{RunPass, RunStore, IsWholeAtRest, IsAtRest, HasRoom, at_pass, over_seats, callers_held, draws_left, fills_made}
use Rattle.inspect_workers.proofs.Seating.{fills_merged}
use Rattle.inspect_workers.proofs.Sharing.{none_held}

-- ---- two passes

pub draws_joined : (p q new : RunPass) → IsJoined p q new → draws_left new ≡ draws_left p + draws_left q
draws_joined p q new is = ap (λ x. x.view.draws) is.pass.1

pub fills_joined : (p q new : RunPass) → IsJoined p q new → fills_made new ≡ fills_made p + fills_made q
fills_joined p q new is = let all = fills_merged q.pass.books p.pass.books in let e : fills_made new ≡ _ = ap (λ x. fills_in x.books) is.pass.1 in omega (arith, all, e)

-- ---- a seat that its pass has left

module _ {G : Type 0} (xs : List (Seat G)) (k : ℕ) (gate : G) (here : k < length xs) where
  abbrev left : List (Seat G)
  left = set xs k (record { pass = None; gate = gate })

  sum_left : (f : RunPass → ℕ) (d : Seat G) → over_seats f left + at_pass f (get_or xs k d).pass ≡ over_seats f xs
  sum_left f d = let sum = sum_by-set (λ s. at_pass f s.pass) xs k (record { pass = None; gate = gate }) d here in omega (arith, sum)

  pub sum_taken : (f : RunPass → ℕ) (q : RunPass) (d : Seat G) → (get_or xs k d).pass ≡ Some q → over_seats f left + f q ≡ over_seats f xs
  sum_taken f q d is = let sum = sum_left f d in let e : at_pass f (get_or xs k d).pass ≡ f q = ap (at_pass f) is in omega (arith, sum, e)

  pub sum_none : (f : RunPass → ℕ) (d : Seat G) → (get_or xs k d).pass ≡ None → over_seats f left ≡ over_seats f xs
  sum_none f d is = let sum = sum_left f d in let e : at_pass f (get_or xs k d).pass ≡ 0 = ap (at_pass f) is in omega (arith, sum, e)

  pub each_left : (P : RunPass → Type 0) → All (λ s. IfSome s.pass P) xs → All (λ s. IfSome s.pass P) left
  each_left P each = All-set (λ s. IfSome s.pass P) xs k (record { pass = None; gate = gate }) tt each

  pub free_left : ((i : ℕ) (d : Seat G) → i < k → (get_or xs i d).pass ≡ None) → (i : ℕ) (d : Seat G) → i < k + 1 → (get_or left i d).pass ≡ None
  free_left free i d low = elim (dec_lt i k) [
    | yes less ↦ ap (λ s. s.pass) (get_or-set_other xs k i (record { pass = None; gate = gate }) d (λ e. omega (arith, e, less))) ∙ free i d less
    | no more ↦ let e : i ≡ k = omega (arith, more, low) in
        ap (λ j. (get_or left j d).pass) e ∙ ap (λ s. s.pass) (get_or-set_same xs k (record { pass = None; gate = gate }) d here)
  ]

-- ---- all passes

-- the seats below n have no pass any more: what they had, this one has
pub record IsJoining {G : Type 0} (store : RunStore) (old : List (Seat G)) (n : ℕ) (p : RunPass) (xs : List (Seat G)) : Type 0 where
  pub count : length xs ≡ store.table.callers
  pub rest : IsAtRest store p
  pub room : store.table.callers ≤ p.pass.room
  pub each : All (λ s. IfSome s.pass (IsAtRest store)) xs
  pub free : (i : ℕ) (d : Seat G) → i < n → (get_or xs i d).pass ≡ None
  pub callers : over_seats callers_held xs + callers_held p ≡ store.table.callers
  pub draws : over_seats draws_left xs + draws_left p ≡ over_seats draws_left old
  pub fills : over_seats fills_made xs + fills_made p ≡ over_seats fills_made old

at_rest : (store : RunStore) (o : Option RunPass) (q : RunPass) → o ≡ Some q → IfSome o (IsAtRest store) → IsAtRest store q
at_rest store o q e is = subst (λ x. IfSome x (IsAtRest store)) e is

room_of : (n : ℕ) (o : Option RunPass) (q : RunPass) → o ≡ Some q → HasRoom n o → n ≤ q.pass.room
room_of n o q e is = subst (HasRoom n) e is

module _ {G : Type 0} (store : RunStore) where
  -- the seat is left empty, and the pass is this one
  pub at_seat : (old xs : List (Seat G)) (n k : ℕ) (p q : RunPass) (gate : G) (o : Option RunPass) → o ≡ None → q ≡ p
      → IsJoining store old n p (set xs k (record { pass = None; gate = gate }))
      → IsJoining store old n q (set xs k (record { pass = o; gate = gate }))
  at_seat old xs n k p q gate o none same is =
      subst (λ x. IsJoining store old n q (set xs k (record { pass = x; gate = gate }))) (sym none)
      (subst (λ x. IsJoining store old n x (set xs k (record { pass = None; gate = gate }))) (sym same) is)

  pub first_joined : (old : List (Seat G)) (q : RunPass) (gate : G) (d : Seat G) → 0 < length old → length old ≡ store.table.callers
      → All (λ s. IfSome s.pass (IsAtRest store)) old
      → ((e : Seat G) → HasRoom store.table.callers (get_or old 0 e).pass) → over_seats callers_held old ≡ store.table.callers → (get_or old 0 d).pass ≡ Some q
      → IsJoining store old 1 q (set old 0 (record { pass = None; gate = gate }))
  first_joined old q gate d here count each room callers is = record {
    count = length-set old 0 (record { pass = None; gate = gate }) ∙ count;
    rest = at_rest store (get_or old 0 d).pass q is (each 0 d here);
    room = room_of store.table.callers (get_or old 0 d).pass q is (room d);
    each = each_left old 0 gate here (IsAtRest store) each;
    free = free_left old 0 gate here (λ i e less. absurd (omega (arith, less)));
    callers = sum_taken old 0 gate here callers_held q d is ∙ callers;
    draws = sum_taken old 0 gate here draws_left q d is;
    fills = sum_taken old 0 gate here fills_made q d is;
  }

  module _ (old : List (Seat G)) (n : ℕ) (p : RunPass) (xs : List (Seat G)) (so_far : IsJoining store old n p xs) (gate : G) (d : Seat G) (here : n < length xs) where
    pub other_rests : (q : RunPass) → (get_or xs n d).pass ≡ Some q → IsAtRest store q
    other_rests q is = at_rest store (get_or xs n d).pass q is (so_far.each n d here)

    pub fits : (q : RunPass) → (get_or xs n d).pass ≡ Some q → callers_held p + callers_held q ≤ p.pass.room
    fits q is = let sum = sum_taken xs n gate here callers_held q d is in let all = so_far.callers in let room = so_far.room in omega (arith, sum, all, room)

    pub one_joined : (q new : RunPass) → (get_or xs n d).pass ≡ Some q → IsPassOfStore store new → IsJoined p q new
        → IsJoining store old (n + 1) new (set xs n (record { pass = None; gate = gate }))
    one_joined q new is of joined = record {
      count = length-set xs n (record { pass = None; gate = gate }) ∙ so_far.count;
      rest = record { of = of; idle = joined.idle };
      room = let low = so_far.room in let same = joined.room in omega (arith, low, same);
      each = each_left xs n gate here (IsAtRest store) so_far.each;
      free = free_left xs n gate here so_far.free;
      callers = let sum = sum_taken xs n gate here callers_held q d is in let all = so_far.callers in let both = joined.callers in omega (arith, sum, all, both);
      draws = let sum = sum_taken xs n gate here draws_left q d is in let all = so_far.draws in let both = draws_joined p q new joined in omega (arith, sum, all, both);
      fills = let sum = sum_taken xs n gate here fills_made q d is in let all = so_far.fills in let both = fills_joined p q new joined in omega (arith, sum, all, both);
    }

    pub none_joined : (get_or xs n d).pass ≡ None → IsJoining store old (n + 1) p (set xs n (record { pass = None; gate = gate }))
    none_joined is = record {
      count = length-set xs n (record { pass = None; gate = gate }) ∙ so_far.count;
      rest = so_far.rest;
      room = so_far.room;
      each = each_left xs n gate here (IsAtRest store) so_far.each;
      free = free_left xs n gate here so_far.free;
      callers = ap (λ m. m + callers_held p) (sum_none xs n gate here callers_held d is) ∙ so_far.callers;
      draws = ap (λ m. m + draws_left p) (sum_none xs n gate here draws_left d is) ∙ so_far.draws;
      fills = ap (λ m. m + fills_made p) (sum_none xs n gate here fills_made d is) ∙ so_far.fills;
    }

  module _ (old : List (Seat G)) (n : ℕ) (p : RunPass) (xs : List (Seat G)) (all : IsJoining store old n p xs) (end : length xs ≤ n) where
    all_free : All (λ s. s.pass ≡ None) xs
    all_free i d here = all.free i d (omega (arith, here, end))

    pub whole_again : IsWholeAtRest store p
    whole_again = record {
      of = all.rest.of;
      sole = let none = none_held callers_held xs all_free in let sum = all.callers in let total = all.rest.of.cells.3 in omega (arith, none, sum, total);
      idle = all.rest.idle;
      room = all.room;
    }

    pub draws_again : draws_left p ≡ over_seats draws_left old
    draws_again = let none = none_held draws_left xs all_free in let sum = all.draws in omega (arith, none, sum)

    pub fills_again : fills_made p ≡ over_seats fills_made old
    fills_again = let none = none_held fills_made xs all_free in let sum = all.fills in omega (arith, none, sum)
