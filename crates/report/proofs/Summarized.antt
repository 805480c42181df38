-- The lines of a summary, one behind the other.
use Rattle.std.proofs.Common.{◌≡◌, List, [], ◌∷◌, ℕ, ◌++◌, sym, ◌∙◌, ap, append_assoc, append-nil}
use Rattle.std.specs.Prelude.{map}
use Rattle.std.specs.List.{flat_map}
use Rattle.std.proofs.lemmas.List.Folds.{flat_map-map}
use Rattle.std.proofs.lemmas.Grind.{flat_map-append}
use Rattle.report.specs.Report.{Line, ended, text_of, count_line}

pub summary_joined : {A : Type 0} (view : A → List ℕ × ℕ) (counts : List A) (shown : List (List ℕ × ℕ)) (top last : Line) (zero one two three : List ℕ) →
    map view counts ≡ shown → zero ≡ [] → one ≡ zero ++ ended top → two ≡ one ++ flat_map (λ (c : A). ended (count_line (view c))) counts → three ≡ two ++ ended last →
    three ≡ text_of (top ∷ (map count_line shown ++ last ∷ []))
summary_joined {A} view counts shown top last zero one two three are empty first second third =
    let lines : List ℕ = flat_map (λ (c : A). ended (count_line (view c))) counts in
    let middle : text_of (map count_line shown) ≡ lines =
    ap (λ (s : List (List ℕ × ℕ)). text_of (map count_line s)) (sym are)
    ∙ flat_map-map ended count_line (map view counts)
    ∙ flat_map-map (λ (c : List ℕ × ℕ). ended (count_line c)) view counts in
    let rest : text_of (map count_line shown ++ last ∷ []) ≡ lines ++ ended last =
    flat_map-append ended (map count_line shown) (last ∷ [])
    ∙ ap (λ (l : List ℕ). l ++ (ended last ++ [])) middle
    ∙ ap (λ (l : List ℕ). lines ++ l) (append-nil (ended last)) in
    third
    ∙ ap (λ (l : List ℕ). l ++ ended last) (second ∙ ap (λ (l : List ℕ). l ++ lines) (first ∙ ap (λ (l : List ℕ). l ++ ended top) empty))
    ∙ append_assoc (ended top) lines (ended last)
    ∙ ap (λ (l : List ℕ). ended top ++ l) (sym rest)
