-- What is read of a group's old word, where it has one.
use Rattle.std.specs.Prelude.{ℕ, Option, Some, None}
use Rattle.run_stages.specs.Work.{head_of, bytes_of, total_of}

abbrev pub old_head : Option ℕ → Option ℕ
old_head None = None
old_head (Some x) = Some (head_of x)

abbrev pub old_bytes : Option ℕ → ℕ
old_bytes None = 0
old_bytes (Some x) = bytes_of x

abbrev pub old_end : Option ℕ → ℕ
old_end None = 0
old_end (Some x) = total_of x
