use Rattle.std.proofs.Common.{ℕ, ◌<◌, length, sym, subst, arith}
use Rattle.run_purpose.specs.declared.purpose.RunPurpose.{RunPurpose}
use Rattle.run_purpose.specs.Lawful.{layout_for}
use Rattle.serial_terms.specs.RunLayout.{layout_by}
use Rattle.store_layout.specs.Shapes.{Shape, shape_of}
use Rattle.inspect_workers.proofs.tests.reading.tell_parts.Goals as goal

abbrev HasEach : Shape → Type 0
HasEach s = (0 < length s.logs) × (0 < length s.queues) × (0 < length s.pools)

has_each : (run : RunPurpose) (findings : ℕ) → HasEach (shape_of (layout_for run.plan.now findings))
unfolding layout_by
has_each run findings = (omega arith, omega arith, omega arith)

pub returns : goal.returns
returns c = subst HasEach (sym c.requires.1.laid) (has_each c.args.run.now c.requires.0)
