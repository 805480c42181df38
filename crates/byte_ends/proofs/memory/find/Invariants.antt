use Rattle.std.proofs.Common.{◌≡◌, drop}
use Rattle.byte_ends.specs.InMemory.{entries_of, bytes_of}
use Rattle.byte_ends.proofs.memory.find.Given as goal

abbrev pub invariant-loop-file : goal.invariant-loop-file
invariant-loop-file l = bytes_of (entries_of l.files) l.name ≡ bytes_of (entries_of (drop l.file-index l.files)) l.name
