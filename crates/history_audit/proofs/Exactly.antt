-- What is read exactly, where a reading gives it.
use Rattle.std.proofs.Common.{◌≡◌, ◌↔◌, sym, subst, Option, Some, Result, Ok, Err, IfOk}
use Rattle.std.specs.Option.{option_map}

module _ {X Y E : Type 0} (of : X → Y) (read : Option Y) (P : Y → Type 0) (law : (y : Y) → (read ≡ Some y) ↔ P y) where
  pub read_exactly : (r : Result (Option X) E) → IfOk r (λ found. option_map of found ≡ read) → IfOk r (λ found. (y : Y) → (option_map of found ≡ Some y) ↔ P y)
  read_exactly (Ok found) h = λ y. subst (λ (z : Option Y). (z ≡ Some y) ↔ P y) (sym h) (law y)
  read_exactly (Err e) h = tt
