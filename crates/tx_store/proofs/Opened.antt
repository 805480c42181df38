-- A store of a layout.
use Rattle.std.proofs.Common.{◌≡◌, ◌≤◌, length, ap, sym, ◌∙◌, subst}
use Rattle.cell_table.specs.Pass.{TableState}
use Rattle.key_directory.specs.Directory.{DirectoryView}
use Rattle.serial_terms.specs.declared.store.Layout.{Layout}
use Rattle.store_layout.specs.Facts.{slots_count}
use Rattle.store_layout.specs.Opening.{opening_words}
use Rattle.store_layout.specs.Shapes.{Shape, shape_of, cells_of, IsLayout, most_cells}
use Rattle.store_layout.specs.States.{IsFormed}
use Rattle.tx_store.specs.Stores.{IsStore}

pub opened_store : {M : Type 0} (layout : Layout) → IsLayout layout → cells_of (shape_of layout) ≤ most_cells → IsFormed (shape_of layout) (opening_words layout)
    → (plan : Shape) → plan ≡ shape_of layout → (table : TableState M) (directory : DirectoryView) → table.opening ≡ opening_words layout
    → directory.capacities ≡ layout.maps → directory.callers ≡ table.callers → IsStore plan table directory
opened_store layout is small formed plan same table directory opening regions callers = subst (λ (s : Shape). IsStore s table directory) (sym same) record {
  sized = ap length opening ∙ formed.sized;
  small = small;
  regions = regions;
  callers = callers;
  maps = is.maps;
  pools = slots_count layout.pools is.pools;
}
