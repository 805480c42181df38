use Rattle.std.proofs.Common.{◌≡◌, Some, get_or, sym, take_all, subst, List, ℕ, All, IsSomeAnd}
use Rattle.std.specs.Prelude.{slice_get, All, IsSomeAnd}
use Rattle.std.proofs.lemmas.Option.{get_or_from_slice_get}
use Rattle.ipv4_fragments.specs.Payload.{Stands}
use Rattle.ipv4_fragments.proofs.Copies.{stands_more, some_and}
use Rattle.ipv4_fragments.proofs.assembly.copy_tasks.Goals as goal

pub loop-number-preserved : goal.loop-number-preserved
loop-number-preserved c =
    let found = some_and _ _ (c.requires.there c.loop-number.number-index 0 c.loop-number-test.true) in
    let here : slice_get c.args.tasks.now (get_or c.args.numbers.now c.loop-number.number-index 0) ≡ Some (get_or c.args.tasks.now (get_or c.args.numbers.now c.loop-number.number-index 0) _) = subst (λ t. slice_get c.args.tasks.now (get_or c.args.numbers.now c.loop-number.number-index 0) ≡ Some t) (sym (get_or_from_slice_get c.args.tasks.now (get_or c.args.numbers.now c.loop-number.number-index 0) found.0 _ found.1)) found.1 in
    stands_more c.args.tasks.now c.args.numbers.now c.loop-number.number-index c.loop-number-test.true _ here c.args.bytes.now _ _ c.requires.agree c.loop-number.invariant c.copy_task.ensures.here c.copy_task.ensures.others

pub returns : goal.returns
returns c = subst (λ (l : List ℕ). All (λ number. IsSomeAnd (slice_get c.args.tasks.now number) (Stands c.args.bytes.now c.loop-number.whole)) l) (take_all c.loop-number.number-index c.args.numbers.now c.loop-number-test.false) c.loop-number.invariant
