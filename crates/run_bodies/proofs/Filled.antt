use Rattle.std.proofs.Common.{◌≡◌, ℕ, zero, suc, ◌+◌, ◌*◌, ◌<◌, true, List, [], ◌∷◌, ◌++◌, length, ap, ◌∙◌, subst, arith}
use Rattle.std.specs.Prelude.{Bool, Result, Ok, Err, ◌==◌}
use Rattle.std.proofs.lemmas.Bool.Decides.{nat_tests}
use Rattle.serial_terms.specs.declared.call.Call.{Call}
use Rattle.serial_terms.specs.declared.call.Call.TheVariants.{Give, QueueLen, CellGet, CellPut}
use Rattle.serial_terms.specs.declared.call.Done.{Done}
use Rattle.serial_terms.specs.declared.call.Reply.TheVariants.{Nothing, Value, Flag}
use Rattle.serial_terms.specs.Counts.{numbers_from}
use Rattle.serial_terms.specs.Serial.{outside}
use Rattle.run_stages.specs.Allowed.{IsAllowed, fill, gives, next_batch}
use Rattle.run_stages.specs.Work.{Work}
use Rattle.run_bodies.specs.Fills.{GoesOnWhere}
use Rattle.run_bodies.proofs.Outside.{wants_memory}
use Rattle.tx_store.specs.Bodies.{NoMap, Does, Acts}
use Rattle.tx_store.specs.declared.run.BodyStop.{BodyStop}
use Rattle.tx_store.specs.Stores.{TxView}

module _ {M : Type 0} where
  -- a call whose reply is the one that was asked for, or the attempt is given up
  pub checked : (a b : TxView M) (x y : Done) (is : Bool) (result : Result (Unit {0}) BodyStop) → Does a b (x ∷ []) → (is ≡ true → x ≡ y) → GoesOnWhere is result → Acts NoMap a b (λ _. y ∷ []) result
  checked a b x y is (Ok answer) does same goes = subst (λ (d : Done). Does a b (d ∷ [])) (same goes) does
  checked a b x y is (Err stop) does same goes = rw goes (wants_memory a b (x ∷ []) does)

same_number : (x y : ℕ) → (x == y) ≡ true → x ≡ y
same_number x y e = grind (arith, nat_tests)

pub counted : (call : Call) (x y : ℕ) → (x == y) ≡ true → outside call (Value x) ≡ outside call (Value y)
counted call x y e = ap (λ (z : ℕ). outside call (Value z)) (same_number x y e)

pub given : (x y : ℕ) (flag : Bool) → x ≡ y → flag ≡ true → outside (Give 0 x) (Flag flag) ≡ outside (Give 0 y) (Flag true)
given x y flag same free = ap (λ (z : ℕ). outside (Give 0 z) (Flag flag)) same ∙ ap (λ (b : Bool). outside (Give 0 y) (Flag b)) free

pub gives_more : (w : Work) (a k : ℕ) → gives w (numbers_from a k) ++ outside (Give 0 (a + k)) (Flag true) ∷ [] ≡ gives w (numbers_from a (suc k))
gives_more w a zero = let e : a + 0 ≡ a = omega arith in ap (λ (n : ℕ). outside (Give 0 n) (Flag true) ∷ []) e
gives_more w a (suc k) =
    let e : a + suc k ≡ a + 1 + k = omega arith in
    ap (λ (z : ℕ). outside (Give 0 a) (Flag true) ∷ (gives w (numbers_from (a + 1) k) ++ outside (Give 0 z) (Flag true) ∷ [])) e
    ∙ ap (λ (ds : List Done). outside (Give 0 a) (Flag true) ∷ ds) (gives_more w (a + 1) k)

pub fill_allowed : (w : Work) (f n : ℕ) (all : List Done) → length w.tasks ≡ n → 4096 * (f + 1) < n
    → all ≡ outside (QueueLen 0) (Value 0) ∷ outside (CellGet 0) (Value f) ∷ outside (CellPut 0 (f + 1)) Nothing ∷ gives w (next_batch w f) → IsAllowed w all
fill_allowed w f n all is left e = fill f (rw is left) e
