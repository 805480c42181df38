-- The words that a store opens with.
use Rattle.std.specs.Prelude.{ℕ, suc, ◌+◌, ◌-◌, List, ◌++◌, length, map, sum_by, replicate}
use Rattle.std.specs.List.{flat_map}
use Rattle.serial_terms.specs.declared.store.Layout.{Layout}
use Rattle.serial_terms.specs.declared.store.PoolLayout.{PoolLayout}
use Rattle.store_layout.specs.Shapes.{shape_of, with_end, pools_from}

-- a pool's items in its first slots, each plus 1, and 0 in the others
abbrev pub opening_slots : PoolLayout → List ℕ
opening_slots p = map (λ v. suc v) p.items ++ replicate (p.slots - length p.items) 0

-- every other cell is 0
abbrev pub opening_words : Layout → List ℕ
opening_words layout = replicate (pools_from (shape_of layout)) 0
    ++ (flat_map opening_slots layout.pools ++ replicate (sum_by with_end layout.logs + layout.cells) 0)
