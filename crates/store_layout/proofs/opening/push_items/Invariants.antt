use Rattle.std.proofs.Common.{◌≡◌, suc, ◌++◌, take, map}
use Rattle.store_layout.proofs.opening.push_items.Given as goal

abbrev pub invariant-loop-item : goal.invariant-loop-item
invariant-loop-item l = l.words.items ≡ l.initial.words.items ++ map (λ v. suc v) (take l.item-index l.items)
