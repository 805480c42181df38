use Rattle.std.proofs.Common.{◌≡◌, ℕ, ◌+◌, ◌-◌, [], ◌∷◌, take, drop, None, ap, sym, refl, ◌∙◌, arith}
use Rattle.std.proofs.lemmas.List.Elements.{All-contains}
use Rattle.std.proofs.lemmas.Result.{IfOk-weaker}
use Rattle.capture_terms.specs.Datagram.{payload_of}
use Rattle.capture_terms.specs.declared.plan.Task.{Task}
use Rattle.run_findings.proofs.Found.{findings_first}
use Rattle.run_findings.proofs.datagrams.task_values.Goals as goal

pub returns-clause-values : goal.returns-clause-values
returns-clause-values c =
    let bytes = c.args.bytes.now in
    let tasks = c.args.plan.now.tasks.items in
    let task = c.args.task.now in
    let planned = c.requires.planned in
    let whole = All-contains (λ (t : Task). t.group ≡ None → payload_of bytes (t ∷ []) ≡ take t.length (drop t.from bytes)) tasks task
    (c.task_law.ensures.whole bytes planned.capture planned.window c.args.plan.now planned.fine planned.is) c.requires.member c.requires.alone in
    let length_is : task.from + task.length - task.from ≡ task.length = omega arith in
    let piece = ap (λ (n : ℕ). take n (drop task.from bytes)) length_is ∙ sym whole in
    IfOk-weaker c.values_in.result _ _
    (λ values is. is ∙ findings_first c.args.rules.now bytes (take (task.from + task.length - task.from) (drop task.from bytes)) (task ∷ []) task ([], refl) piece)
    c.values_in.ensures.values
