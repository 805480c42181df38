-- What a frame's kind says of its piece, and so of its task.
use Rattle.std.proofs.Common.{◌≡◌, ℕ, ◌+◌, ◌-◌, ◌<◌, ◌≤◌, Bool, true, false, List, Option, None, Some, refl, arith, length, drop, length-take, length-drop}
use Rattle.std.specs.Prelude.{◌||◌, if◌then◌else◌}
use Rattle.std.proofs.lemmas.Bool.Decides.{nat_tests}
use Rattle.capture_terms.specs.declared.capture.Frame.{Frame}
use Rattle.capture_terms.specs.declared.datagram.Kind.{Kind}
use Rattle.capture_terms.specs.declared.datagram.Kind.TheVariants.{Bad, Cut, Whole, Fragment}
use Rattle.capture_terms.specs.declared.datagram.Piece.{Piece}
use Rattle.capture_terms.specs.declared.plan.Task.{Task}
use Rattle.capture_terms.specs.Capture.{IsWithin, frame_bytes}
use Rattle.capture_terms.specs.declared.capture.Link.{Link}
use Rattle.capture_terms.specs.Classes.{has_bad_header, has_bad_data, is_cut, is_fragment, piece_of, datagram_kind, kind_of, kind_from, datagram_start, header_length, total_length, data_length, data_start}
use Rattle.capture_terms.specs.Kept.{end_of}
use Rattle.capture_terms.specs.Datagram.{end_of_task}

pub record PieceSound (end : ℕ) (piece : Piece) : Type 0 where
  pub there : piece.from + piece.length ≤ end
  pub short : end_of piece ≤ 65535

abbrev pub KindSound : ℕ → Kind → Type 0
KindSound end (Whole piece) = PieceSound end piece × (piece.start ≡ 0)
KindSound end (Fragment piece) = PieceSound end piece × (0 < piece.length)
KindSound end _ = Unit {0}

-- what a datagram has whose header and data break no rule
record Unbroken (datagram : List ℕ) : Type 0 where
  long : 20 ≤ length datagram
  total : header_length datagram ≤ total_length datagram
  some : is_fragment datagram ≡ true → 0 < data_length datagram
  short : header_length datagram + data_start datagram + data_length datagram ≤ 65535

unbroken : (datagram : List ℕ) → (has_bad_header datagram || has_bad_data datagram) ≡ false → Unbroken datagram
unfolding has_bad_header has_bad_data
unbroken datagram ok = record {
  long = grind (arith, nat_tests);
  total = grind (arith, nat_tests);
  some = λ fragment. grind (arith, nat_tests);
  short = grind (arith, nat_tests);
}

datagram_sound : (at : ℕ) (datagram : List ℕ) (end : ℕ) → (20 ≤ length datagram → at + length datagram ≤ end) → KindSound end (datagram_kind at datagram)
unfolding datagram_kind is_cut piece_of
datagram_sound at datagram end fits = by_case (has_bad_header datagram || has_bad_data datagram) refl (is_cut datagram) refl (is_fragment datagram) refl
  where
    by_case : (bad : Bool) → (has_bad_header datagram || has_bad_data datagram) ≡ bad → (cut : Bool) → is_cut datagram ≡ cut → (part : Bool) → is_fragment datagram ≡ part
        → KindSound end (if bad then Bad else if cut then Cut else if part then Fragment (piece_of at datagram) else Whole (piece_of at datagram))
    by_case true _ cut _ part _ = tt
    by_case false _ true _ part _ = tt
    by_case false ok false whole true fragment =
        let u = unbroken datagram ok in
        let inside : at + length datagram ≤ end = fits u.long in
        let reach : total_length datagram ≤ length datagram = grind (arith, nat_tests) in
        (record { there = omega (arith, u.total); short = omega (arith, u.short) }, u.some fragment)
    by_case false ok false whole false all =
        let u = unbroken datagram ok in
        let inside : at + length datagram ≤ end = fits u.long in
        let reach : total_length datagram ≤ length datagram = grind (arith, nat_tests) in
        (record { there = omega (arith, u.total); short = omega (arith, u.short) }, grind (arith, nat_tests))

from_sound : (at : ℕ) (frame : List ℕ) (start : Option ℕ) (end : ℕ) → at + length frame ≤ end → KindSound end (kind_from at frame start)
from_sound at frame None end within = tt
from_sound at frame (Some start) end within = datagram_sound (at + start) (drop start frame) end (λ long. let left : length (drop start frame) ≡ length frame - start = length-drop start frame in omega arith)

pub kind_sound : (link : Option Link) (bytes : List ℕ) (frame : Frame) → IsWithin bytes frame → KindSound (length bytes) (kind_of link bytes frame)
unfolding kind_of
kind_sound None bytes frame within = tt
kind_sound (Some link) bytes frame within =
    let taken : length (frame_bytes bytes frame) ≤ frame.length = omega (arith, length-take frame.length (drop frame.at bytes)) in
    from_sound frame.at (frame_bytes bytes frame) (datagram_start link (frame_bytes bytes frame)) (length bytes) (omega arith)

pub record TaskSound (end : ℕ) (task : Task) : Type 0 where
  pub there : task.from + task.length ≤ end
  pub short : end_of_task task ≤ 65535
  pub whole : task.group ≡ None → task.start ≡ 0
  pub some : (group : ℕ) → task.group ≡ Some group → 0 < task.length
