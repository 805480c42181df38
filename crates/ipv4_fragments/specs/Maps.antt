-- A map in which a key has a value now.
use Rattle.std.specs.Prelude.{◌≡◌, Some, if◌then◌else◌}
use Rattle.std.specs.BTreeMap.{BTreeMap, get}
use Rattle.std.specs.Ordering.{is_eq}
use Rattle.std.specs.declared.cmp.Ordering.{Ordering}

-- the key has this value now, and each other key has the one that it had
abbrev pub HasPut : {K V : Type 0} → (K → K → Ordering) → BTreeMap K V → BTreeMap K V → K → V → Type 0
HasPut {K} {V} cmp old new key value = (other : K) → get cmp new other ≡ (if is_eq (cmp key other) then Some value else get cmp old other)
