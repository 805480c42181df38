use Rattle.std.proofs.Common.{List, ℕ, sym, subst}
use Rattle.capture_terms.specs.Plan.{IsPlanned}
use Rattle.ipv4_fragments.proofs.tests.data_of.Goals as goal

pub payload-requires-clause-plan : goal.payload-requires-clause-plan
payload-requires-clause-plan c =
    subst (λ (bytes : List ℕ). IsPlanned bytes c.args.plan.now) (sym c.deref.ensures.value)
    (record { capture = c.args.made.now.capture; window = 30; fine = c.requires.fine; is = c.requires.plan })
