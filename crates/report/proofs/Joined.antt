-- The lines of counts and those of findings, one behind the other.
use Rattle.std.proofs.Common.{◌≡◌, List, [], ℕ, ◌++◌, sym, ◌∙◌, ap}
use Rattle.std.specs.Prelude.{map}
use Rattle.std.specs.List.{flat_map}
use Rattle.std.proofs.lemmas.List.Folds.{flat_map-map}
use Rattle.std.proofs.lemmas.Grind.{flat_map-append}
use Rattle.report.specs.Report.{Line, ended, text_of, count_line}

pub lines_joined : {A : Type 0} (view : A → List ℕ × ℕ) (counts : List A) (shown : List (List ℕ × ℕ)) (line : ℕ → Line) (findings : List ℕ) (first second third : List ℕ) →
    map view counts ≡ shown → first ≡ [] → second ≡ first ++ flat_map (λ (c : A). ended (count_line (view c))) counts → third ≡ second ++ flat_map (λ (f : ℕ). ended (line f)) findings →
    third ≡ text_of (map count_line shown ++ map line findings)
lines_joined {A} view counts shown line findings first second third are empty counted found =
    let front : text_of (map count_line shown) ≡ second =
    ap (λ (s : List (List ℕ × ℕ)). text_of (map count_line s)) (sym are)
    ∙ flat_map-map ended count_line (map view counts)
    ∙ flat_map-map (λ (c : List ℕ × ℕ). ended (count_line c)) view counts
    ∙ ap (λ (l : List ℕ). l ++ flat_map (λ (c : A). ended (count_line (view c))) counts) (sym empty)
    ∙ sym counted in
    found ∙ ap (λ (l : List ℕ). l ++ flat_map (λ (f : ℕ). ended (line f)) findings) (sym front)
    ∙ ap (λ (l : List ℕ). text_of (map count_line shown) ++ l) (sym (flat_map-map ended line findings))
    ∙ sym (flat_map-append ended (map count_line shown) (map line findings))
