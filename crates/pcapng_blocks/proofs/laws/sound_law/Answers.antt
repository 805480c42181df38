use Rattle.pcapng_blocks.proofs.Captures.{sound_capture}
use Rattle.pcapng_blocks.proofs.laws.sound_law.Goals as goal

pub returns : goal.returns
returns c = sound_capture
