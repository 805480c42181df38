-- An option before further words of an inspection.
use Rattle.std.proofs.Common.{◌≡◌, ℕ, ◌-◌, ◌≤◌, false, List, [], ◌∷◌, length, take, drop, get_or, Option, Some, sym, ◌∙◌, ap, arith}
use Rattle.std.specs.Prelude.{◌==◌, map}
use Rattle.std.specs.Option.{option_map_or}
use Rattle.std.proofs.Math.Seq.{take-length}
use Rattle.command_words.specs.Words.{unknown, with_option, inspection_by}
use Rattle.command_words.specs.declared.options.Options.{Options}

module _ {X : Type 0} (f : X → List ℕ) (options more : Options) where
  pub one_option : (words : List X) (word value : X) → 2 ≤ length words → (length (take (length words - 2) (drop 2 words)) == 0) ≡ false → word ≡ get_or words 0 word → value ≡ get_or words 1 value
      → with_option options (f word) (f value) ≡ Some more → inspection_by more (map f (take (length words - 2) (drop 2 words))) ≡ inspection_by options (map f words)
  unfolding inspection_by
  one_option [] word value two some is_word is_value is = absurd (omega arith)
  one_option (x ∷ []) word value two some is_word is_value is = absurd (omega arith)
  one_option (x ∷ y ∷ []) word value two some is_word is_value is = absurd (cc)
  one_option (x ∷ y ∷ z ∷ rest) word value two some is_word is_value is =
      let size : length (x ∷ y ∷ z ∷ rest) - 2 ≡ length (z ∷ rest) = omega arith in
      let whole : take (length (x ∷ y ∷ z ∷ rest) - 2) (z ∷ rest) ≡ z ∷ rest = ap (λ (n : ℕ). take n (z ∷ rest)) size ∙ take-length (z ∷ rest) in
      let given : with_option options (f x) (f y) ≡ Some more = ap (λ (w : X). with_option options (f w) (f y)) (sym is_word) ∙ ap (λ (v : X). with_option options (f word) (f v)) (sym is_value) ∙ is in
      ap (λ (l : List X). inspection_by more (map f l)) whole
      ∙ sym (ap (λ (o : Option Options). option_map_or (λ next. inspection_by next (map f (z ∷ rest))) o unknown) given)
