use Rattle.std.proofs.Common.{◌≡◌, ◌<◌, length, slice_index_or, ap, sym, ◌∙◌, arith}
use Rattle.std.specs.Option.{option_copied}
use Rattle.attempt_lists.specs.Cells.{Entries}
use Rattle.tx_core.specs.Stored.{last_writes}
use Rattle.tx_core.proofs.Storing.{last_of_entries}
use Rattle.tx_core.proofs.stores.last_write.Goals as goal
use Rattle.tx_core.proofs.stores.last_write.Goals.{After-as_slice}

-- the entry is the newest one
found : (g : _) (c : After-as_slice g) → last_writes c.args.pass.now.books ≡ c.as_slice.result.now
found g c = last_of_entries c.entries.result.now c.in-Some.entry.now (sym c.last.ensures.value ∙ ap option_copied c.in-Some.is) c.args.pass.now.books c.entries.ensures ∙ sym c.as_slice.ensures.value

pub bounds-as_slice-index : goal.bounds-as_slice-index
bounds-as_slice-index g c = rw (← found g c) c.requires

pub offset_bounds-as_slice-index : goal.offset_bounds-as_slice-index
offset_bounds-as_slice-index g c =
    let below : c.args.index < length c.as_slice.result.now = rw (← found g c) c.requires in
    omega (arith, below, c.as_slice.type_inv)

pub returns : goal.returns
returns g c = ap (λ (es : Entries). slice_index_or es c.args.index (0, 0)) (sym (found g c.before))
