-- What is known of the fields of a store and a pass is known of the two as contracts see them.
use Rattle.std.proofs.Common.{◌≡◌, Some, sym, ap, ◌∙◌, subst}
use Rattle.cell_table.specs.Pass.{PassState}
use Rattle.serial_terms.specs.Renaming.{NamedDone}

pub as_seen : {M : Type 0} (K : M → PassState M NamedDone → Type 0) (m n : M) (p q : PassState M NamedDone) → m ≡ n → p ≡ q → q.view.meaning ≡ Some n → (p.view.meaning ≡ Some m → K m p) → K n q
as_seen {M} K m n p q e f is law = subst (λ (z : M). K z q) e (subst (K m) f (law (ap (λ (z : PassState M NamedDone). z.view.meaning) f ∙ (is ∙ ap (λ (z : M). Some z) (sym e)))))
