-- What the answers of `frames` say of a file.
use Rattle.std.specs.Prelude.{Option, Some, None, Result, Ok, Err}
use Rattle.capture_terms.specs.Capture.{Answer, captured, refused, too_many_frames, contents_of}
use Rattle.capture_terms.specs.declared.capture.Capture.{Capture}
use Rattle.capture_terms.specs.declared.capture.CaptureFault.TheVariants as fault
use Rattle.pcap_frames.specs.declared.capture.CaptureEnd.{CaptureEnd}
use Rattle.pcap_frames.specs.declared.capture.CaptureEnd.TheVariants.{Header, Version, Link, Record, TooMany, Memory}

-- the reason of a refusal; want of memory says nothing of the file
abbrev pub refusal_of : CaptureEnd → Option Answer
refusal_of (Header at) = Some (refused (fault.Header at))
refusal_of Version = Some (refused fault.Version)
refusal_of (Link number) = Some (refused (fault.Link number))
refusal_of (Record at) = Some (refused (fault.Record at))
refusal_of TooMany = Some too_many_frames
refusal_of Memory = None

-- what a result says of the file
abbrev pub answer_of : Result Capture CaptureEnd → Option Answer
answer_of (Ok capture) = Some (captured (contents_of capture))
answer_of (Err end) = refusal_of end
