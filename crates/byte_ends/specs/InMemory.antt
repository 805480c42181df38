-- What the objects in memory hold, as contracts see them.
use Rattle.std.specs.Prelude.{◌≡◌, ℕ, List, [], ◌∷◌, map, Option, Some, None, if◌then◌else◌, Vec, string_bytes}
use Rattle.std.specs.declared.string.String.{String}
use Rattle.std.specs.declared.alloc.Global.{Global}
use Rattle.std.specs.Str.{bytes_eq}

-- a file's name and its bytes
pub record Entry : Type 0 where
  pub name : List ℕ
  pub bytes : List ℕ

abbrev pub entry_of : String Global × Vec ℕ Global → Entry
entry_of file = record { name = string_bytes file.0; bytes = file.1.items }

abbrev pub entries_of : List (String Global × Vec ℕ Global) → List Entry
entries_of files = map entry_of files

-- files in memory: the numbers of the calls that are to fail, the calls that were made, and the faults
pub record FilesInMemory : Type 0 where
  pub entries : List Entry
  pub failing : List ℕ
  pub calls : ℕ
  pub faults : ℕ

-- a sink in memory: its bytes and the room for them, and the rest as for files
pub record SinkInMemory : Type 0 where
  pub bytes : List ℕ
  pub room : ℕ
  pub failing : List ℕ
  pub calls : ℕ
  pub faults : ℕ

-- the bytes of the file of this name
abbrev pub bytes_of : List Entry → List ℕ → Option (List ℕ)
bytes_of [] name = None
bytes_of (entry ∷ entries) name = if bytes_eq entry.name name then Some entry.bytes else bytes_of entries name

-- no two files have one name
abbrev pub NamesDiffer : List Entry → Type 0
NamesDiffer [] = Unit {0}
NamesDiffer (entry ∷ entries) = (bytes_of entries entry.name ≡ None) × NamesDiffer entries
