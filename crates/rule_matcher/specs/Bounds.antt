-- The part of a payload within which a pattern has to stand.
use Rattle.std.specs.Prelude.{ℕ, min, Option, Some, None}

abbrev pub low_of : Option ℕ → ℕ
low_of None = 0
low_of (Some from) = from

abbrev pub high_of : Option ℕ → ℕ → ℕ
high_of None len = len
high_of (Some to) len = min len to
