-- The state that cells stand for is within its capacities: a fact for the meanings of tables, which are proved where they are stated.
use Rattle.std.proofs.Common.{◌≡◌, ℕ, zero, suc, ◌+◌, ◌-◌, ◌/◌, ◌%◌, ◌^◌, ◌≤◌, List, [], ◌∷◌, length, take, drop, get_or, cond, ltb, refl, arith}
use Rattle.std.proofs.lemmas.Bool.Decides.{nat_tests}
use Rattle.std.proofs.lemmas.List.{length-take, length-map}
use Rattle.store_layout.specs.Shapes.{Shape, Object, the_queue, the_log, first_of, size_of}
use Rattle.store_layout.specs.States.{round_from, queue_in, log_in, IsQueue, IsLog, words_of, state_in}
use Rattle.store_layout.specs.Laws.{FormedIsWithinCapacity}

-- a structure has no more words than cells
pub short : (s : Shape) (o : Object) (cells : List ℕ) → length (words_of s o cells) ≤ size_of s o
short s o cells = omega (arith, length-take (size_of s o) (drop (first_of s o) cells))

length-round : (ws : List ℕ) (at n : ℕ) → length (round_from ws at n) ≡ n
length-round ws at zero = refl
length-round ws at (suc n) = omega (arith, length-round ws (at + 1) n)

queue_fits : (ws : List ℕ) (capacity : ℕ) → length ws ≤ capacity + 1 → IsQueue ws → length (queue_in ws) ≤ capacity
queue_fits [] capacity h w = omega arith
queue_fits (end ∷ ws) capacity h w = omega (arith, length-round ws (end / 2 ^ 32) (end % 2 ^ 32), w.1)

log_fits : (ws : List ℕ) (capacity : ℕ) → length ws ≤ capacity + 1 → IsLog ws → length (log_in ws) ≤ capacity
log_fits [] capacity h w = omega arith
log_fits (n ∷ ws) capacity h w = omega (arith, length-map (take n ws) (λ (w : ℕ). w - 1), length-take n ws)

ended : (n : ℕ) (xs : List ℕ) (i : ℕ) → n ≤ cond (ltb i (length xs)) (get_or xs i 0 + 1) 0 → n ≤ get_or xs i 0 + 1
ended n xs i h = grind (arith, nat_tests)

pub formed_is_within_capacity : FormedIsWithinCapacity
unfolding state_in
formed_is_within_capacity s cells f = record {
  queues = λ q. queue_fits (words_of s (the_queue q) cells) (get_or s.queues q 0) (ended _ s.queues q (short s (the_queue q) cells)) (f.parts (the_queue q));
  logs = λ l. log_fits (words_of s (the_log l) cells) (get_or s.logs l 0) (ended _ s.logs l (short s (the_log l) cells)) (f.parts (the_log l));
}
