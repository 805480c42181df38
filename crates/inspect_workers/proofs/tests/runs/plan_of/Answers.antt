use Rattle.std.proofs.lemmas.Result.{IfOk-weaker}
use Rattle.inspect_workers.proofs.tests.runs.plan_of.Goals as goal

pub returns : goal.returns
returns g c = IfOk-weaker c.classify.result _ _ (λ plan is. record { capture = c.capture_of-capture.result; window = 30; fine = c.capture_of-capture.ensures; is = is }) c.classify.ensures
