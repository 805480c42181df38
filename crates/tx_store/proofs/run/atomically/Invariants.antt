use Rattle.std.proofs.Common.{◌≡◌, ℕ}
use Rattle.cell_table.specs.Pass.{IsSole}
use Rattle.tx_store.specs.Known.{Vouches}
use Rattle.tx_store.specs.Runs.{IsLeft, AttemptsEnded}
use Rattle.tx_store.proofs.run.atomically.Given as goal

abbrev pub invariant-loop-tried : goal.invariant-loop-tried
invariant-loop-tried g l = record {
  left : IsLeft l.store l.tried l.initial.pass l.pass;
  books : l.pass.pass.books ≡ l.initial.pass.pass.books;
  ended : AttemptsEnded (Vouches g.P.Purpose.lawful_state l.store.table.meaning) l.tried l.initial.pass l.last l.pass;
  alone : IsSole l.initial.pass.pass → l.tried ≡ 0;
  can_run : g.B.Body.can_run l.body l.store;
  same_maps : (map capacity : ℕ) → g.B.Body.keys_full l.body map capacity → g.B.Body.keys_full l.initial.body map capacity;
  same_relation : (calls : _) (out : _) → g.B.Body.runs l.body calls out → g.B.Body.runs l.initial.body calls out;
}
