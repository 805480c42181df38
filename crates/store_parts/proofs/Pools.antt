-- The calls of a pool.
use Rattle.std.proofs.Common.{◌≡◌, ℕ, zero, suc, ◌^◌, ◌<◌, Bool, List, [], ◌∷◌, get_or, ap, sym, ◌∙◌, refl, subst}
use Rattle.std.specs.Prelude.{Option}
use Rattle.std.specs.List.{All}
use Rattle.cell_table.specs.Cells.{AllHold, after}
use Rattle.serial_terms.specs.declared.call.Call.TheVariants.{Take, Give}
use Rattle.serial_terms.specs.declared.call.Reply.TheVariants.{Flag}
use Rattle.serial_terms.specs.Renaming.{NamedDone, named}
use Rattle.serial_terms.specs.Serial.{State, Pool, pool_of, put_pool, found, Allows}
use Rattle.serial_terms.specs.Serial as serial
use Rattle.store_layout.specs.Laws.{PartsAreApart}
use Rattle.store_layout.specs.Shapes.{Shape, the_pool, size_of}
use Rattle.store_layout.specs.States.{words_of, state_in, IsFormed}
use Rattle.store_layout.specs.States as layout
use Rattle.store_meaning.specs.Follows.{Progress, state_with, IsCallOn}
use Rattle.store_parts.specs.Parts.{pool_part, Touches, WaitsAlike, noted}
use Rattle.store_parts.specs.Laws.{PoolCalls}
use Rattle.store_parts.proofs.Touching.{fits, words_below, changes_only}
use Rattle.tx_pool.specs.declared.part.PoolPart.{PoolPart}
use Rattle.tx_pool.specs.Pool.{items_in, pool_in, TakesFrom, PutsInto}
use Rattle.tx_pool.specs.Pool as pool

items_same : (ws : List ℕ) → layout.items_in ws ≡ items_in ws
items_same [] = refl
items_same (zero ∷ ws) = items_same ws
items_same (suc v ∷ ws) = ap (λ (xs : List ℕ). v ∷ xs) (items_same ws)

-- what the law of pools says of their calls
abbrev pub SerialTake : Type 0
SerialTake = (s : State) (p : ℕ) (then : Pool) (item : Option ℕ) → TakesFrom (s.pools p) then item → Allows s (Take p) (found item) × (serial.after s (Take p) (found item) ≡ put_pool s p then)

abbrev pub SerialGive : Type 0
SerialGive = (s : State) (p value : ℕ) (then : Pool) (done : Bool) → PutsInto value (s.pools p) then done → Allows s (Give p value) (Flag done) × (serial.after s (Give p value) (Flag done) ≡ put_pool s p then)

module _ (apart : PartsAreApart) (s : Shape) (p : ℕ) (part : PoolPart) (is : part ≡ pool_part s p) (some : 0 < part.slots) where
  there : 0 < size_of s (the_pool p)
  there = subst (λ (q : PoolPart). 0 < q.slots) is some

  pool_at : (cells : List ℕ) → (state_in s cells).pools p ≡ pool_in part cells
  unfolding state_in
  pool_at cells = subst (λ (q : PoolPart). (state_in s cells).pools p ≡ pool_in q cells) (sym is) (ap (pool_of (get_or s.pools p 0)) (items_same (words_of s (the_pool p) cells)))

  formed : (cells : List ℕ) → IsFormed s cells → pool.IsFormed part cells
  formed cells f = subst (λ (q : PoolPart). pool.IsFormed q cells) (sym is) (fits apart s (the_pool p) there cells f, words_below s (the_pool p) cells f)

  below : (cells : List ℕ) → pool.IsFormed part cells → All (λ w. w < 2 ^ 64) (words_of s (the_pool p) cells)
  below cells f = (subst (λ (q : PoolPart). pool.IsFormed q cells) is f).1

  on_pool : (old new : Progress) (d : NamedDone) → Touches s (the_pool p) old new → WaitsAlike old new
      → ((cells : List ℕ) → AllHold cells new.observations → pool.IsFormed part (after cells old.writes)
      → pool.IsFormed part (after cells new.writes) × ((st : State) → st.pools p ≡ pool_in part (after cells old.writes)
      → Allows st (named d).call (named d).reply × (serial.after st (named d).call (named d).reply ≡ put_pool st p (pool_in part (after cells new.writes)))))
      → IsCallOn s (the_pool p) old new d
  unfolding state_with
  on_pool old new d touches waits step = record {
    earlier = touches.earlier;
    changes = λ cells hold f. changes_only s (the_pool p) old new touches (λ q own. waits q) cells (below (after cells new.writes) (step cells hold (formed (after cells old.writes) f)).0) tt;
    steps = λ cells hold f.
        let st : State = state_with s (after cells old.writes) old.waiting in
        let x = (step cells hold (formed (after cells old.writes) f)).1 st (pool_at (after cells old.writes)) in
        record { replied = x.0; leaves = x.1 ∙ ap (put_pool st p) (sym (pool_at (after cells new.writes))) };
  }

  pub pool_calls : SerialTake → SerialGive → PoolCalls s p part
  pool_calls take give = record {
    formed = formed;
    take = λ old new item child touches waits explains. on_pool old new (noted (Take p) (found item) child 0) touches waits (λ cells hold f.
        let x = explains cells hold f in
        (x.0, λ st same. take st p (pool_in part (after cells new.writes)) item (subst (λ (z : Pool). TakesFrom z (pool_in part (after cells new.writes)) item) (sym same) x.1)));
    put = λ old new value done child touches waits explains. on_pool old new (noted (Give p value) (Flag done) child 0) touches waits (λ cells hold f.
        let x = explains cells hold f in
        (x.0, λ st same. give st p value (pool_in part (after cells new.writes)) done (subst (λ (z : Pool). PutsInto value z (pool_in part (after cells new.writes)) done) (sym same) x.1)));
  }
