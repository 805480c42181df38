-- One frame more among the generations, and the worked cases.
use Rattle.std.proofs.Common.{◌≡◌, ℕ, ◌+◌, ◌≤◌, true, List, [], ◌∷◌, ◌++◌, Some, None, refl, sym, ◌∙◌, ap, arith, length, append_assoc}
use Rattle.std.specs.Prelude.{nat_le, ◌==◌, if◌then◌else◌}
use Rattle.std.proofs.lemmas.Bool.Decides.{nat_tests}
use Rattle.std.proofs.lemmas.List.{append-nil}
use Rattle.capture_terms.specs.Classes.{cooked_v1_start, cooked_v2_start}
use Rattle.capture_terms.specs.Generations.{Timed, kind_behind, kinds_behind, in_generations}
use Rattle.capture_terms.specs.Kept.{clash, classes_of}
use Rattle.capture_terms.specs.Numbers.{number16}
use Rattle.capture_terms.specs.Worked.{cooked_v1, cooked_v2, CookedStarts, ClashesWithin}
use Rattle.capture_terms.specs.declared.capture.Endianness.TheVariants.{Big}
use Rattle.capture_terms.specs.declared.datagram.Kind.{Kind}
use Rattle.capture_terms.specs.declared.datagram.Piece.{Piece}

kinds_more : (window : ℕ) (before frames : List Timed) (frame : Timed) → kinds_behind window before (frames ++ frame ∷ []) ≡ kinds_behind window before frames ++ kind_behind window (before ++ frames) frame.time frame.kind ∷ []
kinds_more window before [] frame = ap (λ (l : List Timed). kind_behind window l frame.time frame.kind ∷ []) (sym (append-nil before))
kinds_more window before (f ∷ frames) frame =
    ap (λ (l : List Kind). kind_behind window before f.time f.kind ∷ l)
    (kinds_more window (before ++ f ∷ []) frames frame
    ∙ ap (λ (l : List Timed). kinds_behind window (before ++ f ∷ []) frames ++ kind_behind window l frame.time frame.kind ∷ []) (append_assoc before (f ∷ []) frames))

pub frame_more : (window : ℕ) (before : List Timed) (frame : Timed) → in_generations window (before ++ frame ∷ []) ≡ in_generations window before ++ kind_behind window before frame.time frame.kind ∷ []
unfolding in_generations
frame_more window before frame = kinds_more window [] before frame

pub clash_same : (p q : Piece) → clash p q ≡ true → p.generation ≡ q.generation
unfolding clash
clash_same p q clashes = grind (arith, nat_tests)

-- where a datagram begins in a frame that is long enough, by the type that stands there
v1_start : (frame : List ℕ) (type : ℕ) → 16 ≤ length frame → number16 Big frame 14 ≡ type → cooked_v1_start frame ≡ (if type == 0x0800 then Some 16 else None)
unfolding cooked_v1_start
v1_start frame type long is =
    let reaches : nat_le (14 + 2) (length frame) ≡ true = grind (arith, nat_tests) in
    rw reaches (ap (λ (n : ℕ). if n == 0x0800 then Some 16 else None) is)

v2_start : (frame : List ℕ) → 20 ≤ length frame → number16 Big frame 0 ≡ 0x0800 → cooked_v2_start frame ≡ Some 20
unfolding cooked_v2_start
v2_start frame long is =
    let reaches : nat_le (0 + 2) (length frame) ≡ true = grind (arith, nat_tests) in
    let whole : nat_le 20 (length frame) ≡ true = grind (arith, nat_tests) in
    let ip : (number16 Big frame 0 == 0x0800) ≡ true = ap (λ (n : ℕ). n == 0x0800) is in
    rw reaches (rw ip (rw whole refl))

pub cooked_starts : CookedStarts
unfolding cooked_v1_start cooked_v2_start number16
cooked_starts = record {
  first = λ datagram. v1_start (cooked_v1 ++ 8 ∷ 0 ∷ datagram) 0x0800 (omega arith) refl;
  second = λ datagram. v2_start (8 ∷ 0 ∷ cooked_v2 ++ datagram) (omega arith) refl;
  other = λ datagram. v1_start (cooked_v1 ++ 8 ∷ 6 ∷ datagram) 0x0806 (omega arith) refl;
  tag = λ datagram. v1_start (cooked_v1 ++ 0x81 ∷ 0 ∷ 0 ∷ 1 ∷ 8 ∷ 0 ∷ datagram) 0x8100 (omega arith) refl;
  first_short = refl;
  second_short = refl;
}

pub clashes_within : ClashesWithin
unfolding clash classes_of in_generations
clashes_within = record { one = refl; two = refl; aside = refl; other_key = refl }
