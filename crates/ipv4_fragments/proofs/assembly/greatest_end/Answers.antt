use Rattle.std.proofs.Common.{◌≡◌, ◌≤◌, arith, get_or, take_all, subst, List, ℕ, ap, None, false}
use Rattle.std.specs.Prelude.{All, max}
use Rattle.ipv4_fragments.specs.Payload.{end_at}
use Rattle.ipv4_fragments.proofs.Copies.{ends_more, ends_least, some_and}
use Rattle.std.proofs.lemmas.Option.{get_or_from_slice_get}
use Rattle.capture_terms.specs.declared.plan.Task.{Task}
use Rattle.capture_terms.specs.Datagram.{end_of_task}
use Rattle.ipv4_fragments.proofs.assembly.greatest_end.Goals.{then-greatest-end, else-greatest-end}
use Rattle.ipv4_fragments.proofs.assembly.greatest_end.Goals as goal

-- the task that a read gives behind the last one
abbrev nothing : Task
nothing = record { frame = 0; group = None; header = record { source = 0; destination = 0; protocol = 0 }; start = 0; from = 0; length = 0; last = false }

pub returns-clause-most : goal.returns-clause-most
returns-clause-most c = subst (λ (l : List ℕ). All (λ number. end_at c.args.tasks.now number ≤ c.loop-number.greatest) l) (take_all c.loop-number.number-index c.args.numbers.now c.loop-number-test.false) c.loop-number.invariant.most

pub loop-number-preserved : goal.loop-number-preserved
loop-number-preserved c =
    let found = some_and _ _ (c.requires c.loop-number.number-index 0 c.loop-number-test.true) in
    let same : get_or c.args.tasks.now (get_or c.args.numbers.now c.loop-number.number-index 0) nothing ≡ found.0 = get_or_from_slice_get c.args.tasks.now (get_or c.args.numbers.now c.loop-number.number-index 0) found.0 nothing found.1 in
    let ends : end_of_task (get_or c.args.tasks.now (get_or c.args.numbers.now c.loop-number.number-index 0) nothing) ≡ end_of_task found.0 = ap end_of_task same in
    let most : c.if-greatest-end.greatest ≡ max c.loop-number.greatest (end_of_task found.0) = elim c.if-greatest-end.branch [ then-greatest-end w ↦ omega (arith, ends) | else-greatest-end w ↦ omega (arith, ends) ] in
    record {
      most = ends_more c.args.tasks.now c.args.numbers.now c.loop-number.number-index c.loop-number-test.true found.0 found.1 c.loop-number.greatest c.if-greatest-end.greatest most c.loop-number.invariant.most;
      least = ends_least c.args.tasks.now c.args.numbers.now c.loop-number.number-index c.loop-number-test.true found.0 found.1 c.loop-number.greatest c.if-greatest-end.greatest most c.loop-number.invariant.least;
    }
