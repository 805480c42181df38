-- What a take and a put make of a pool is what the serial pool replies and becomes.
use Rattle.std.proofs.Common.{◌≡◌, ◌<◌, ℕ, Bool, true, false, Option, Some, None, sym, ap, ◌∙◌, arith}
use Rattle.std.specs.Prelude.{nat_lt}
use Rattle.std.proofs.lemmas.Bool.Decides.{nat_tests}
use Rattle.serial_terms.specs.Facts.{with_at_own}
use Rattle.serial_terms.specs.Serial.{State, Pool, put_pool, found, Allows}
use Rattle.serial_terms.specs.Serial as serial
use Rattle.serial_terms.specs.declared.call.Call.TheVariants.{Take, Give}
use Rattle.serial_terms.specs.declared.call.Reply.TheVariants.{Flag}
use Rattle.tx_pool.specs.Pool.{TakesFrom, PutsInto}

-- a pool that stays leaves the state
same_state : (s : State) (p : ℕ) (then : Pool) → then ≡ s.pools p → s ≡ put_pool s p then
same_state s p then is = ap (λ (f : ℕ → Pool). record s { pools = f }) (sym (with_at_own s.pools p)) ∙ ap (put_pool s p) (sym is)

pub serial_take : (s : State) (p : ℕ) (then : Pool) (item : Option ℕ) → TakesFrom (s.pools p) then item → Allows s (Take p) (found item) × (serial.after s (Take p) (found item) ≡ put_pool s p then)
serial_take s p then (Some x) (there, is) = (there, ap (put_pool s p) (sym is))
serial_take s p then None (none, is) = (none, same_state s p then is)

pub serial_put : (s : State) (p value : ℕ) (then : Pool) (done : Bool) → PutsInto value (s.pools p) then done → Allows s (Give p value) (Flag done) × (serial.after s (Give p value) (Flag done) ≡ put_pool s p then)
serial_put s p value then true (room, is) = (ap Flag (sym (room_is room)), ap (put_pool s p) (sym is))
  where
    room_is : (s.pools p).held < (s.pools p).slots → nat_lt (s.pools p).held (s.pools p).slots ≡ true
    room_is lt = grind (arith, nat_tests, lt)
serial_put s p value then false (full, is) = (ap Flag (sym full_is), same_state s p then is)
  where
    full_is : nat_lt (s.pools p).held (s.pools p).slots ≡ false
    full_is = grind (arith, nat_tests, full)
