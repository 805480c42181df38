use Rattle.std.proofs.lemmas.Option.{IfSome_then}
use Rattle.pcapng_blocks.specs.Answer.{answer_of}
use Rattle.pcapng_blocks.proofs.capture.blocks.Goals as goal

pub returns-clause-only : goal.returns-clause-only
returns-clause-only c = λ answer right.
    IfSome_then (answer_of c.walk.result) c.walk.ensures (λ given found. c.one_answer_law.ensures c.args.bytes.now given answer found right)
