-- A number for each caller.
use Rattle.std.specs.Prelude.{ℕ, get_or}
use Rattle.history_audit.specs.declared.counts.Counts.{Counts}

abbrev pub count_of : Counts → ℕ → ℕ
count_of c k = get_or c.of k 0
