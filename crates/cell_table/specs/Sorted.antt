-- Lists in ascending order of a key.
use Rattle.std.specs.Prelude.{◌≡◌, ℕ, ◌<◌, cond, ltb, ◌⊎◌, List, [], ◌∷◌}

module _ {A : Type 0} where
  abbrev pub Each : (A → Type 0) → List A → Type 0
  Each P [] = Unit {0}
  Each P (x ∷ xs) = P x × Each P xs

  abbrev pub Among : A → List A → Type 0
  Among a [] = ⊥
  Among a (x ∷ xs) = (x ≡ a) ⊎ Among a xs

module _ {A : Type 0} (key : A → ℕ) where
  -- x goes before the first item with a greater key
  abbrev pub insert_by : A → List A → List A
  insert_by x [] = x ∷ []
  insert_by x (y ∷ ys) = cond (ltb (key x) (key y)) (x ∷ y ∷ ys) (y ∷ insert_by x ys)

  abbrev pub merge_by : List A → List A → List A
  merge_by [] ys = ys
  merge_by (x ∷ xs) ys = insert_by x (merge_by xs ys)

  abbrev pub IsAscendingBy : List A → Type 0
  IsAscendingBy [] = Unit {0}
  IsAscendingBy (x ∷ xs) = Each (λ y. key x < key y) xs × IsAscendingBy xs
