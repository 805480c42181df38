use Rattle.std.proofs.Common.{◌≡◌, ℕ, zero, suc, ◌≤◌, List, [], ◌∷◌, length, take, Result, Ok, Err, IfOk, Some, refl, ap, subst, arith}
use Rattle.byte_ends.specs.Told.{Grows}
use Rattle.tdsl_tool.proofs.failing_tests.SlowSinkSink.write.Goals as goal

-- of a beginning as many as it has at most are those of the whole
take-take : (n m : ℕ) (xs : List ℕ) → n ≤ length (take m xs) → take n (take m xs) ≡ take n xs
take-take zero m xs within = refl
take-take (suc n) zero xs within = absurd (omega arith)
take-take (suc n) (suc m) [] within = refl
take-take (suc n) (suc m) (x ∷ xs) within = ap (λ (l : List ℕ). x ∷ l) (take-take n m xs (omega arith))

of_whole : {E : Type 0} (r : Result ℕ E) (m : ℕ) (before after piece : List ℕ) → IfOk r (λ n. n ≤ length (take m piece)) → IfOk r (λ n. Grows (Some before) (Some after) (take n (take m piece))) → IfOk r (λ n. Grows (Some before) (Some after) (take n piece))
of_whole (Ok n) m before after piece within grows = subst (λ (l : List ℕ). Grows (Some before) (Some after) l) (take-take n m piece within) grows
of_whole (Err e) m before after piece within grows = tt

pub returns-clause-appended : goal.returns-clause-appended
returns-clause-appended c = of_whole c.write.result c.min.result c.args.self.now.sink.bytes c.write.new.self.bytes c.args.piece.now c.write.ensures.bound c.write.ensures.appended
