-- Numbers drawn from a seed: a linear congruential generator on 64 bits, of which a draw gives the
-- upper 31. Its multiplier and increment are Knuth's, for MMIX.
use Rattle.std.specs.Prelude.{ℕ, zero, suc, ◌+◌, ◌*◌, ◌/◌, ◌%◌, ◌^◌, List, [], ◌∷◌, ◌++◌}

-- the state after one draw
abbrev pub next_state : ℕ → ℕ
next_state state = (state * 6364136223846793005 + 1442695040888963407) % 2 ^ 64

-- what the draw gives that ends in a state
abbrev pub given_by : ℕ → ℕ
given_by state = state / 2 ^ 33

-- the state after so many draws
unfoldable pub state_after : ℕ → ℕ → ℕ
state_after state zero = state
state_after state (suc drawn) = next_state (state_after state drawn)

-- a small letter for what a draw gives
abbrev pub letter_of : ℕ → ℕ
letter_of draw = 97 + draw % 26

-- so many letters, each by one draw
unfoldable pub letters : ℕ → ℕ → List ℕ
letters state zero = []
letters state (suc drawn) = letters state drawn ++ letter_of (given_by (state_after state (suc drawn))) ∷ []
