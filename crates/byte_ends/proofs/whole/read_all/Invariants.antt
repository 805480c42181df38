use Rattle.std.proofs.Common.{◌≡◌, ℕ, ◌-◌, ◌<◌, ◌≤◌, List, vec_len}
use Rattle.byte_ends.specs.Told.{IfTold}
use Rattle.byte_ends.proofs.Pieces.{IsFront}
use Rattle.byte_ends.proofs.whole.read_all.Given as goal

abbrev pub invariant-loop-piece : goal.invariant-loop-piece
invariant-loop-piece g l = record {
  content : (file : List ℕ) → g.F.Files.content l.files file ≡ g.F.Files.content l.initial.files file;
  counts : (file : List ℕ) → g.F.Files.faults l.initial.files file ≤ g.F.Files.faults l.files file;
  length : vec_len l.content ≤ l.limit;
  some : 0 < l.room;
  front : IfTold (g.F.Files.content l.initial.files l.name) (λ file. IsFront l.content.items file);
}

abbrev pub decreases-loop-piece : goal.decreases-loop-piece
decreases-loop-piece g l = l.limit - vec_len l.content
