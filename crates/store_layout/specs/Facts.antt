-- Facts of layouts, and of states that are changed in one structure, for the proofs of this crate and of those above.
use Rattle.std.proofs.Common.{◌≡◌, ◌≢◌, ℕ, ◌<◌, List, [], ◌∷◌, map, refl, ap, sym, ◌∙◌, subst}
use Rattle.std.specs.List.{All}
use Rattle.std.proofs.lemmas.List.Elements.{All-map, All-weaker}
use mathlib.Core.Logic.{dite}
use mathlib.Core.Path.{fun_ext}
use native.Mathlib.Decide.{ℕ_discrete}
use Rattle.serial_terms.specs.Counts.{with_at}
use Rattle.serial_terms.specs.Facts.{with_at_same, with_at_other}
use Rattle.serial_terms.specs.Serial.{State}
use Rattle.serial_terms.specs.Stores.{slots_of}
use Rattle.serial_terms.specs.declared.store.PoolLayout.{PoolLayout}
use Rattle.store_layout.specs.Shapes.{IsPool}

-- a function that has changed at one place alone
pub changed_at : {A : Type 0} (f g : ℕ → A) (n : ℕ) → ((m : ℕ) → m ≢ n → g m ≡ f m) → g ≡ with_at f n (g n)
changed_at f g n h = fun_ext (λ m. dite (ℕ_discrete m n)
    (λ e. ap g e ∙ sym (with_at_same f n (g n) m e))
    (λ ne. h m ne ∙ sym (with_at_other f n (g n) m ne)))

-- states with the same parts are one
pub state_is : (a b : State) → a.maps ≡ b.maps → a.queues ≡ b.queues → a.pools ≡ b.pools → a.logs ≡ b.logs → a.cells ≡ b.cells → a ≡ b
state_is a b m q p l c = λ i. record { maps = m i; queues = q i; pools = p i; logs = l i; cells = c i }

pub slots_map : (ps : List PoolLayout) → slots_of ps ≡ map (λ p. p.slots) ps
slots_map [] = refl
slots_map (p ∷ ps) = ap (λ (ns : List ℕ). p.slots ∷ ns) (slots_map ps)

-- each pool that is laid out has a slot
pub slots_count : (ps : List PoolLayout) → All IsPool ps → All (λ n. 0 < n) (slots_of ps)
slots_count ps h = subst (λ (ns : List ℕ). All (λ n. 0 < n) ns) (sym (slots_map ps)) (All-map (λ (n : ℕ). 0 < n) (λ (p : PoolLayout). p.slots) ps (All-weaker IsPool (λ p. 0 < p.slots) (λ p is. is.0) ps h))
