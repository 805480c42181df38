use Rattle.std.proofs.Common.{◌≡◌, ℕ, ◌<◌, [], ◌∷◌, length, Some, ap, arith}
use Rattle.attempt_lists.specs.Cells.{Entries, word_at}
use Rattle.tx_core.specs.Tx.{Attempt}
use Rattle.tx_core.specs.Words.{put_same}
use Rattle.tx_core.proofs.tests.write_and_commit.Goals as goal

some_there : (es : Entries) (c x : ℕ) → word_at es c ≡ Some x → 0 < length es
some_there [] c x is = absurd (cc)
some_there (e ∷ es) c x is = omega arith

-- a cell is written
pub commit-requires-clause-some_write : goal.commit-requires-clause-some_write
commit-requires-clause-some_write c =
    rw (ap (λ (a : Attempt _ _). a.writes) c.in-Ok.ensures.ok) (some_there _ c.args.cell c.args.value (put_same c.args.tx.writes c.args.cell c.args.value))
