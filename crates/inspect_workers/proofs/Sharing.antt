-- A pass that is shared out among the seats.
use Rattle.std.proofs.Common.{◌≡◌, ℕ, suc, ◌+◌, ◌-◌, ◌*◌, ◌/◌, ◌^◌, ◌<◌, ◌≤◌, List, [], ◌∷◌, length, length-set, Some, None, refl, sym, ap, ◌∙◌, subst, arith, mul-le-mul}
use Rattle.std.proofs.lemmas.List.Elements.{All-set}
use Rattle.std.proofs.lemmas.List.Sums.{sum_by-cons, sum_by-set, sum_by-le}
use Rattle.std.proofs.lemmas.List.{get_or-set_same, get_or-set_other}
use Rattle.std.proofs.lemmas.Nat.{le-div}
use Rattle.std.proofs.Math.ListN.{get_or, set}
use Rattle.std.proofs.Math.Nat.{mul-div-le, div-le_self}
use Rattle.std.specs.Prelude.{All, IfSome}
use Rattle.tx_store.specs.Stores.{IsPassOfStore}
use Rattle.tx_store.specs.Parting.{IsKeptPart, IsNewPart}
use Rattle.inspect_workers.specs.declared.seats.Seat.{Seat}
use Rattle.inspect_workers.specs.Noted.{fills_in}
use Rattle.inspect_workers.specs.Seats.{RunPass, RunStore, IsWholeAtRest, IsAtRest, IsReady, AreFree, AreSharedOut, HasRoom, HasRunAt}
use Rattle.inspect_workers.specs.Seats.{at_pass, over_seats, callers_held, draws_left, fills_made}
use Rattle.inspect_workers.proofs.Seating.{fills_parted}

-- ---- a pass that is split

share_less : (draws callers : ℕ) → 0 < callers → callers * 2 ^ 32 ≤ draws → 2 ^ 32 ≤ draws / callers
share_less draws callers some enough = le-div (2 ^ 32) draws callers some (omega (arith, enough))

share_left : (draws callers : ℕ) → 1 < callers → callers * 2 ^ 32 ≤ draws → (callers - 1) * 2 ^ 32 ≤ draws - draws / callers
share_left draws callers some enough =
    let part = share_less draws callers (omega (arith, some)) enough in
    let all = mul-div-le draws callers in
    let more : (callers - 1) * 2 ^ 32 ≤ (callers - 1) * (draws / callers) = mul-le-mul (let x : callers - 1 ≤ callers - 1 = omega arith in x) part in
    let sum : callers * (draws / callers) ≡ (callers - 1) * (draws / callers) + draws / callers = one_less callers (draws / callers) some in omega arith
  where
    one_less : (n q : ℕ) → 1 < n → n * q ≡ (n - 1) * q + q
    one_less n q some = let m = n - 1 in let is : n ≡ m + 1 = omega arith in ap (λ k. k * q) is ∙ (let e : (m + 1) * q ≡ m * q + q = omega arith in e)

module _ (p new own : RunPass) (kept : IsKeptPart p new 1) (part : IsNewPart p own 1) (several : 1 < callers_held p) where
  pub callers_split : callers_held own + callers_held new ≡ callers_held p
  callers_split = let a = kept.callers in let b = part.callers in omega (arith, a, b, several)

  kept_draws : draws_left new ≡ draws_left p - 1 * (draws_left p / callers_held p)
  kept_draws = ap (λ q. q.view.draws) kept.pass

  own_draws : draws_left own ≡ 1 * (draws_left p / callers_held p)
  own_draws = ap (λ q. q.view.draws) part.pass

  pub draws_split : draws_left own + draws_left new ≡ draws_left p
  draws_split = let low = div-le_self (draws_left p) (callers_held p) in let a = kept_draws in let b = own_draws in omega (arith, a, b, low)

  pub fills_split : fills_made own + fills_made new ≡ fills_made p
  fills_split =
      let all = fills_parted (callers_held p - 1) p.pass.books in
      let a : fills_made new ≡ _ = ap (λ q. fills_in q.books) kept.pass in
      let b : fills_made own ≡ _ = ap (λ q. fills_in q.books) part.pass in omega (arith, a, b, all)

  pub own_enough : callers_held p * 2 ^ 32 ≤ draws_left p → 2 ^ 32 ≤ draws_left own
  own_enough enough = let low = share_less (draws_left p) (callers_held p) (omega (arith, several)) enough in let b = own_draws in omega (arith, b, low)

  pub kept_enough : callers_held p * 2 ^ 32 ≤ draws_left p → callers_held new * 2 ^ 32 ≤ draws_left new
  kept_enough enough =
      let low = share_left (draws_left p) (callers_held p) several enough in
      let a = kept_draws in
      let n = kept.callers in
      subst (λ k. k * 2 ^ 32 ≤ draws_left new) (sym n) (omega (arith, a, low))

-- ---- a pass at a seat

pub whole_callers : (store : RunStore) (p : RunPass) → IsWholeAtRest store p → callers_held p ≡ store.table.callers
whole_callers store p is = is.sole ∙ is.of.cells.3

module _ {G : Type 0} where
  pub none_held : (f : RunPass → ℕ) (xs : List (Seat G)) → All (λ s. s.pass ≡ None) xs → over_seats f xs ≡ 0
  none_held f xs free =
      let low = sum_by-le (λ s. at_pass f s.pass) 0 xs (λ i d here. let e : at_pass f (get_or xs i d).pass ≡ 0 = ap (at_pass f) (free i d here) in omega (arith, e)) in
      omega (arith, low)

  pub none_ready : (P : RunPass → Type 0) (xs : List (Seat G)) → All (λ s. s.pass ≡ None) xs → All (λ s. IfSome s.pass P) xs
  none_ready P xs free = λ i d here. subst (λ o. IfSome o P) (sym (free i d here)) tt

  module _ (xs : List (Seat G)) (k : ℕ) (p : RunPass) (gate : G) (here : k < length xs) where
    sum_seated : (f : RunPass → ℕ) → ((d : Seat G) → (get_or xs k d).pass ≡ None)
        → over_seats f (set xs k (record { pass = Some p; gate = gate })) ≡ over_seats f xs + f p
    sum_seated f free =
        let d : Seat G = record { pass = Some p; gate = gate } in
        let sum = sum_by-set (λ s. at_pass f s.pass) xs k d d here in
        let none : at_pass f (get_or xs k d).pass ≡ 0 = ap (at_pass f) (free d) in omega (arith, sum, none)

    pub sum_kept : (f : RunPass → ℕ) (old new : RunPass) (all : ℕ) → ((d : Seat G) → (get_or xs k d).pass ≡ None) → f p + f new ≡ f old → over_seats f xs + f old ≡ all
        → over_seats f (set xs k (record { pass = Some p; gate = gate })) + f new ≡ all
    sum_kept f old new all free parts so_far = let sum = sum_seated f free in omega (arith, sum, parts, so_far)

    pub sum_all : (f : RunPass → ℕ) (all : ℕ) → ((d : Seat G) → (get_or xs k d).pass ≡ None) → over_seats f xs + f p ≡ all
        → over_seats f (set xs k (record { pass = Some p; gate = gate })) ≡ all
    sum_all f all free so_far = sum_seated f free ∙ so_far

    pub each_seated : (P : RunPass → Type 0) → P p → All (λ s. IfSome s.pass P) xs → All (λ s. IfSome s.pass P) (set xs k (record { pass = Some p; gate = gate }))
    each_seated P is each = All-set (λ s. IfSome s.pass P) xs k (record { pass = Some p; gate = gate }) is each

    pub still_free : (n : ℕ) → n ≤ k → ((i : ℕ) (d : Seat G) → i < n → (get_or xs i d).pass ≡ None)
        → (i : ℕ) (d : Seat G) → i < n → (get_or (set xs k (record { pass = Some p; gate = gate })) i d).pass ≡ None
    still_free n low free i d less =
        ap (λ s. s.pass) (get_or-set_other xs k i (record { pass = Some p; gate = gate }) d (λ e. omega (arith, e, less, low))) ∙ free i d less

    pub room_seated : (n : ℕ) → n ≤ p.pass.room → (d : Seat G) → HasRoom n (get_or (set xs k (record { pass = Some p; gate = gate })) k d).pass
    room_seated n low d = subst (HasRoom n) (sym (ap (λ s. s.pass) (get_or-set_same xs k (record { pass = Some p; gate = gate }) d here))) low

-- Some seats have a caller of the whole pass each. The pass has the others, fewer than the number of the first of these seats
pub record IsSharingOut {G : Type 0} (store : RunStore) (whole p : RunPass) (xs : List (Seat G)) : Type 0 where
  pub count : length xs ≡ store.table.callers
  pub rest : IsAtRest store p
  pub room : p.pass.room ≡ whole.pass.room
  pub enough : callers_held p * 2 ^ 32 ≤ draws_left p
  pub each : All (λ s. IfSome s.pass (IsReady store)) xs
  pub free : (i : ℕ) (d : Seat G) → i < callers_held p → (get_or xs i d).pass ≡ None
  pub callers : over_seats callers_held xs + callers_held p ≡ callers_held whole
  pub draws : over_seats draws_left xs + draws_left p ≡ draws_left whole
  pub fills : over_seats fills_made xs + fills_made p ≡ fills_made whole

module _ {G : Type 0} (store : RunStore) (whole : RunPass) (is : IsWholeAtRest store whole) where
  pub none_shared : (xs : List (Seat G)) → AreFree store.table.callers xs → store.table.callers * 2 ^ 32 ≤ draws_left whole → IsSharingOut store whole whole xs
  none_shared xs seats enough =
      let all = whole_callers store whole is in
      let count = seats.count in
      let callers = none_held callers_held xs seats.free in
      let draws = none_held draws_left xs seats.free in
      let fills = none_held fills_made xs seats.free in
      record {
        count = count;
        rest = record { of = is.of; idle = is.idle };
        room = refl;
        enough = subst (λ n. n * 2 ^ 32 ≤ draws_left whole) (sym all) enough;
        each = none_ready (IsReady store) xs seats.free;
        free = λ i d less. seats.free i d (omega (arith, less, all, count));
        callers = omega (arith, callers);
        draws = omega (arith, draws);
        fills = omega (arith, fills);
      }

  pub within : (p : RunPass) (xs : List (Seat G)) → IsSharingOut store whole p xs → callers_held p ≤ length xs
  within p xs so_far = let all = whole_callers store whole is in let count = so_far.count in let callers = so_far.callers in omega (arith, all, count, callers)

  pub one_shared : (p new own : RunPass) (xs : List (Seat G)) (k : ℕ) (gate : G) → IsSharingOut store whole p xs → 1 < callers_held p
      → IsKeptPart p new 1 → IsPassOfStore store new
      → IsPassOfStore store own × IsNewPart p own 1 → k ≡ callers_held new → IsSharingOut store whole new (set xs k (record { pass = Some own; gate = gate }))
  one_shared p new own xs k gate so_far several kept of part at =
      let split = callers_split p new own kept part.1 several in
      let low = within p xs so_far in
      let one = part.1.callers in
      let less : k < callers_held p = omega (arith, split, one, at) in
      let here : k < length xs = omega (arith, low, less) in
      let free : (d : Seat G) → (get_or xs k d).pass ≡ None = λ d. so_far.free k d less in
      record {
        count = length-set xs k (record { pass = Some own; gate = gate }) ∙ so_far.count;
        rest = record { of = of; idle = kept.idle };
        room = kept.room ∙ so_far.room;
        enough = kept_enough p new own kept part.1 several so_far.enough;
        each = each_seated xs k own gate here (IsReady store)
            (record { rest = record { of = part.0; idle = part.1.idle }; draws = own_enough p new own kept part.1 several so_far.enough }) so_far.each;
        free = still_free xs k own gate here (callers_held new) (omega (arith, at)) (λ i d lower. so_far.free i d (omega (arith, lower, split, one)));
        callers = sum_kept xs k own gate here callers_held p new (callers_held whole) free split so_far.callers;
        draws = sum_kept xs k own gate here draws_left p new (draws_left whole) free (draws_split p new own kept part.1 several) so_far.draws;
        fills = sum_kept xs k own gate here fills_made p new (fills_made whole) free (fills_split p new own kept part.1 several) so_far.fills;
      }

  pub all_shared : (p : RunPass) (xs : List (Seat G)) (gate : G) → 0 < callers_held p → IsSharingOut store whole p xs
      → AreSharedOut store whole (set xs 0 (record { pass = Some p; gate = gate }))
  all_shared p xs gate some so_far =
      let low = within p xs so_far in
      let here : 0 < length xs = omega (arith, some, low) in
      let free : (d : Seat G) → (get_or xs 0 d).pass ≡ None = λ d. so_far.free 0 d some in
      let enough = so_far.enough in
      record {
        each = each_seated xs 0 p gate here (IsReady store) (record { rest = so_far.rest; draws = omega (arith, enough, some) }) so_far.each;
        room = room_seated xs 0 p gate here (callers_held whole)
            (let all = whole_callers store whole is in let room = is.room in let same = so_far.room in omega (arith, all, room, same));
        callers = sum_all xs 0 p gate here callers_held (callers_held whole) free so_far.callers;
        draws = sum_all xs 0 p gate here draws_left (draws_left whole) free so_far.draws;
        fills = sum_all xs 0 p gate here fills_made (fills_made whole) free so_far.fills;
      }

-- ---- the workers' runs

module _ {G : Type 0} where
  sums_less : (f : RunPass → ℕ) (n : ℕ) (xs ys : List (Seat G)) → length ys ≡ length xs
      → ((i : ℕ) (d : Seat G) → i < length xs → at_pass f (get_or xs i d).pass ≤ at_pass f (get_or ys i d).pass + n) → over_seats f xs ≤ over_seats f ys + length xs * n
  sums_less f n [] ys same each = omega arith
  sums_less f n (x ∷ xs) [] same each = absurd (omega (arith, same))
  sums_less f n (x ∷ xs) (y ∷ ys) same each =
      let first = each 0 x (omega arith) in
      let rest = sums_less f n xs ys (omega (arith, same)) (λ i d here. each (suc i) d (omega (arith, here))) in
      let a = sum_by-cons (λ s. at_pass f s.pass) x xs in
      let b = sum_by-cons (λ s. at_pass f s.pass) y ys in omega (arith, first, rest, a, b)

  same_sums : (f : RunPass → ℕ) (xs ys : List (Seat G)) → length ys ≡ length xs
      → ((i : ℕ) (d : Seat G) → i < length xs → at_pass f (get_or ys i d).pass ≡ at_pass f (get_or xs i d).pass) → over_seats f ys ≡ over_seats f xs
  same_sums f xs ys same each =
      let low = sums_less f 0 xs ys same (λ i d here. let e = each i d here in omega (arith, e)) in
      let high = sums_less f 0 ys xs (sym same) (λ i d here. let e = each i d (omega (arith, here, same)) in omega (arith, e)) in omega (arith, low, high)

  module _ (store : RunStore) (xs ys : List (Seat G)) (same : length ys ≡ length xs)
      (ran : (i : ℕ) (d : Seat G) → i < length xs → HasRunAt store (get_or xs i d).pass (get_or ys i d).pass) where
    pub all_rest : All (λ s. IfSome s.pass (IsAtRest store)) ys
    all_rest i d here = (ran i d (omega (arith, here, same))).rest

    pub still_room : (n : ℕ) → 0 < length xs → ((d : Seat G) → HasRoom n (get_or xs 0 d).pass) → (d : Seat G) → HasRoom n (get_or ys 0 d).pass
    still_room n some room d = (ran 0 d some).room n (room d)

    pub still_callers : over_seats callers_held ys ≡ over_seats callers_held xs
    still_callers = same_sums callers_held xs ys same (λ i d here. (ran i d here).callers)

    pub still_fills : over_seats fills_made ys ≡ over_seats fills_made xs
    still_fills = same_sums fills_made xs ys same (λ i d here. (ran i d here).fills)

    pub draws_spent : over_seats draws_left xs ≤ over_seats draws_left ys + length xs * 2 ^ 31
    draws_spent = sums_less draws_left (2 ^ 31) xs ys same (λ i d here. (ran i d here).draws)
