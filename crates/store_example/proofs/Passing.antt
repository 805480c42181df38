-- What a closed store has.
use Rattle.std.proofs.Common.{◌≡◌, ℕ, ◌+◌, sum, get_or, List, [], ap, ◌∙◌}
use Rattle.serial_terms.specs.declared.call.Done.{Done}
use Rattle.serial_terms.specs.declared.store.Layout.{Layout}
use Rattle.serial_terms.specs.declared.store.StoreState.{StoreState}
use Rattle.serial_terms.specs.Entries.{Entry}
use Rattle.serial_terms.specs.Stores.{state_of, value_in}
use Rattle.store_bodies.specs.Bank.{IsBank, KeepsBank, OpensAsBank, total, the_layout}
use Rattle.store_bodies.specs.declared.bank.Bank.{Bank}
use Rattle.store_contents.specs.Closed.{IsClosed}
use Rattle.store_layout.specs.Opening.{opening_words}
use Rattle.store_layout.specs.Shapes.{shape_of}
use Rattle.store_meaning.specs.declared.meaning.StoreMeaning.{StoreMeaning}
use Rattle.tx_store.specs.Stores.{StoreView, PassView, IsPassOfStore}

-- what the contents say of that
pub record HasKept (contents : StoreState) : Type 0 where
  pub sums : total (value_in (get_or contents.maps 0 [])) + total (value_in (get_or contents.maps 1 [])) ≡ 800
  pub receipts : sum (get_or contents.logs 0 []) + 400 ≡ total (value_in (get_or contents.maps 1 []))

pub kept : (contents : StoreState) → IsBank (state_of the_layout contents) → HasKept contents
unfolding state_of
kept contents bank = record { sums = bank.sums; receipts = bank.receipts }

-- so a store that was laid out as a bank and closed holds one
pub closes : {K : Type 0} (store : StoreView (StoreMeaning Bank K)) (p : PassView (StoreMeaning Bank K)) (bank : Bank) (layout : Layout) (history : List (Entry Done)) (contents : StoreState)
    → (store.table.meaning ≡ record { purpose = bank; plan = shape_of layout }) × (store.table.opening ≡ opening_words layout) × (store.table.callers ≡ 2) → layout ≡ the_layout → IsPassOfStore store p → OpensAsBank
    → IsClosed (λ (b : Bank) s. IsBank s) (λ (b : Bank) ds. KeepsBank ds) store.table.meaning p.pass p.keys.claims history contents → HasKept contents
closes store p bank layout history contents laid is of opens closed =
    kept contents (closed.serial the_layout (record {
      is = opens.layout;
      shape = ap (λ (m : StoreMeaning Bank _). m.plan) laid.0 ∙ ap shape_of is;
      words = of.cells.2 ∙ (laid.1 ∙ ap opening_words is);
    })).lawful
