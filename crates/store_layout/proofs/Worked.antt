-- Worked cells and what they stand for, and words that stand for nothing.
use Rattle.std.proofs.Common.{refl, arith}
use Rattle.store_layout.specs.States.{state_in}
use Rattle.store_layout.specs.Worked.{WorkedState, WrongWords}

pub worked_state : WorkedState
unfolding state_in
worked_state = record { absent = refl; present = refl; no_map = refl; queue = refl; no_queue = refl; pool = refl; log = refl; cell = refl }

pub wrong_words : WrongWords
wrong_words = record {
  head_at_capacity = λ w. omega (arith, w.0);
  queue_over = λ w. omega (arith, w.1);
  entry_missing = λ w. omega (arith, w.1 1 0 (omega arith));
  entry_behind = λ w. omega (arith, w.2 0 0 (omega arith));
  log_over = λ w. omega (arith, w.0);
}
