-- What the trail found.
use Rattle.std.proofs.Common.{◌≡◌, ℕ, ◌+◌, ◌≤◌, List, [], ◌∷◌, ◌++◌, length, slice_get, Some, inl, inr, refl, sym, ap, ◌∙◌, append_assoc, length-append, arith}
use Rattle.cell_table.specs.declared.view.Event.{Event}
use Rattle.cell_table.specs.declared.view.Event.TheVariants.{LockLoaded, LockExchanged}
use Rattle.tx_core.specs.declared.stop.Stop.{Stop}
use Rattle.tx_core.specs.declared.stop.Stop.TheVariants.{Held, Newer, Memory}
use Rattle.tx_core.specs.Causes.{FoundSince, IsFoundAt, IsFound, GrewBy}

slice_get_end : (xs : List Event) (e : Event) (n : ℕ) → n ≤ length xs → (k : ℕ) × (n ≤ k) × (slice_get (xs ++ e ∷ []) k ≡ Some e)
slice_get_end xs e n le = (length xs, le, at xs)
  where
    at : (xs : List Event) → slice_get (xs ++ e ∷ []) (length xs) ≡ Some e
    at [] = refl
    at (x ∷ xs) = at xs

-- the last step found the word
pub found_by_load : (n : ℕ) (old new : List Event) (c w : ℕ) → n ≤ length old → new ≡ old ++ LockLoaded c w ∷ [] → FoundSince n new c w
found_by_load n old new c w le is =
    let at = slice_get_end old (LockLoaded c w) n le in
    rw is (at.0, at.1, inl at.2)

pub found_by_exchange : (n : ℕ) (old new : List Event) (c w : ℕ) → n ≤ length old → new ≡ old ++ LockExchanged c w ∷ [] → FoundSince n new c w
found_by_exchange n old new c w le is =
    let at = slice_get_end old (LockExchanged c w) n le in
    rw is (at.0, at.1, inr at.2)

pub since_start : (n : ℕ) (trail : List Event) (c w : ℕ) → FoundSince n trail c w → FoundSince 0 trail c w
since_start n trail c w found = (found.0, omega arith, found.2)

pub grew_step : (n : ℕ) (t u w : List Event) (e : Event) → GrewBy n t u → w ≡ u ++ e ∷ [] → GrewBy (n + 1) t w
grew_step n t u w e grew is = (grew.0 ++ e ∷ [], is ∙ ap (λ (x : List Event). x ++ e ∷ []) grew.1 ∙ append_assoc t grew.0 (e ∷ []), omega (arith, length-append grew.0 (e ∷ []), grew.2))

pub found_from_at : (cell : ℕ) (stop : Stop) → IsFoundAt cell stop → IsFound stop
found_from_at cell (Held c k) h = tt
found_from_at cell (Newer c f) h = tt
found_from_at cell Memory h = absurd h

-- a stop is found at one cell
pub found_at_one : (c d : ℕ) (stop : Stop) → IsFoundAt c stop → IsFoundAt d stop → c ≡ d
found_at_one c d (Held e k) a b = sym a ∙ b
found_at_one c d (Newer e f) a b = sym a ∙ b
found_at_one c d Memory a b = absurd a
