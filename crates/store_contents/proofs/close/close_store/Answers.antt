use Rattle.std.proofs.Common.{List, ℕ, ap, sym, ◌∙◌, subst}
use Rattle.key_directory.specs.Directory.{DirectoryView}
use Rattle.key_directory.specs.Words.{IsPosition}
use Rattle.serial_terms.specs.declared.call.Done.{Done}
use Rattle.serial_terms.specs.Entries.{Book, IsHistoryOf}
use Rattle.serial_terms.specs.Histories.{entries_of}
use Rattle.store_contents.proofs.Closing.{closed, lawful_ends}
use Rattle.store_contents.specs.Closed.{RoomView}
use Rattle.store_contents.specs.Contents.{AreContents}
use Rattle.store_layout.specs.Shapes.{Shape}
use Rattle.store_contents.proofs.close.close_store.Goals as goal

pub returns : goal.returns
returns g c =
    let room = c.room.view_is ∙ c.requires.room in
    let ends = lawful_ends _ _ c.args.table.meaning c.args.pass c.close_with_history-cells.result c.close_with_history-cells.ensures.settled c.requires.of.0.1 in
    closed g.P.Purpose.lawful_state g.P.Purpose.allowed c.args.table.meaning c.args.pass c.args.keys.claims c.close-list.result c.close_with_history-cells.result.values c.read_contents-state.result
    (entries_of c.merge_books-history.result.items) (g.P.Purpose.ends_lawful c.args.table.meaning.purpose) c.close_with_history-cells.ensures.keys ends.0.1 c.requires.claimed
    (λ r k q claimed. subst (λ (z : List ℕ). IsPosition z r q) (ap (λ (d : DirectoryView). d.capacities) c.requires.of.1 ∙ sym c.close-list.ensures.capacities) (c.claims_stand_law.ensures.claims.there r k q claimed))
    c.close-list.ensures.held c.close-list.ensures.each_once.once
    (subst (λ (s : Shape). AreContents s c.close_with_history-cells.result.values c.close-list.result c.read_contents-state.result) (ap (λ (r : RoomView). r.shape) room) c.read_contents-state.ensures)
    (subst (λ (bs : List (Book Done)). IsHistoryOf bs (entries_of c.merge_books-history.result.items)) (ap (λ (r : RoomView). r.books) room) c.merge_books-history.ensures)
    c.opening_stands_law.ensures c.records_keep_sizes_law.ensures c.renaming_keeps_histories_law.ensures
