use Rattle.std.proofs.Common.{ℕ, List, Result, Ok, Err, IfOk, IfSome, All}
use Rattle.std.proofs.lemmas.Option.{IfSome_then}
use Rattle.capture_terms.specs.Capture.{Contents, IsAnswer, IsWithin, Says, contents_of}
use Rattle.capture_terms.specs.declared.capture.Capture.{Capture}
use Rattle.pcap_frames.specs.Answer.{answer_of}
use Rattle.pcap_frames.specs.declared.capture.CaptureEnd.{CaptureEnd}
use Rattle.pcap_frames.proofs.capture.frames.Goals as goal

pub returns-clause-only : goal.returns-clause-only
returns-clause-only c = λ answer right.
    IfSome_then (answer_of c.read.result) c.read.ensures (λ given found. c.one_answer.ensures c.args.bytes.now given answer found right)

within_file : (bytes : List ℕ) (r : Result Capture CaptureEnd) → ((contents : Contents) → Says bytes contents → All (IsWithin bytes) contents.frames) → IfSome (answer_of r) (IsAnswer bytes) → IfOk r (λ capture. All (IsWithin bytes) capture.frames.items)
within_file bytes (Ok capture) law found = law (contents_of capture) found
within_file bytes (Err end) law found = tt

pub returns-clause-within : goal.returns-clause-within
returns-clause-within c = within_file c.args.bytes.now c.read.result (c.frames_lie_within.ensures c.args.bytes.now) c.read.ensures
