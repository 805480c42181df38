use Rattle.std.proofs.Common.{refl, ap}
use Rattle.pcap_frames.specs.Answer.{refusal_of}
use Rattle.tdsl_tool.proofs.Verdicts.{refused_under}
use Rattle.tdsl_tool.proofs.inspection.refused.Goals as goal

pub returns-in-Header : goal.returns-in-Header
returns-in-Header c = λ settings rules name bytes. refused_under settings rules name bytes _ _ _ (ap refusal_of c.in-Header.is) refl

pub returns-in-Version : goal.returns-in-Version
returns-in-Version c = λ settings rules name bytes. refused_under settings rules name bytes _ _ _ (ap refusal_of c.in-Version.is) refl

pub returns-in-Link : goal.returns-in-Link
returns-in-Link c = λ settings rules name bytes. refused_under settings rules name bytes _ _ _ (ap refusal_of c.in-Link.is) refl

pub returns-in-Record : goal.returns-in-Record
returns-in-Record c = λ settings rules name bytes. refused_under settings rules name bytes _ _ _ (ap refusal_of c.in-Record.is) refl

pub returns-in-TooMany : goal.returns-in-TooMany
returns-in-TooMany c = λ settings rules name bytes. refused_under settings rules name bytes _ _ _ (ap refusal_of c.in-TooMany.is) refl
