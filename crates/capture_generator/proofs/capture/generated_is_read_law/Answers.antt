use Rattle.capture_generator.proofs.FramesRead.{read}
use Rattle.capture_generator.proofs.capture.generated_is_read_law.Goals as goal

pub returns : goal.returns
returns c = read
