use Rattle.capture_generator.proofs.Lengths.{packets_counted}
use Rattle.capture_generator.proofs.capture.packets_law.Goals as goal

pub returns : goal.returns
returns c = packets_counted c.args.seed c.args.frames
