use Rattle.std.proofs.Common.{refl, ap}
use Rattle.pcapng_blocks.specs.Answer.{refusal_of}
use Rattle.tdsl_tool.proofs.Verdicts.{refused_under}
use Rattle.tdsl_tool.proofs.inspection.blocks_refused.Goals as goal

pub returns-in-Block : goal.returns-in-Block
returns-in-Block c = λ settings rules name bytes. refused_under settings rules name bytes _ _ _ (ap refusal_of c.in-Block.is) refl

pub returns-in-Version : goal.returns-in-Version
returns-in-Version c = λ settings rules name bytes. refused_under settings rules name bytes _ _ _ (ap refusal_of c.in-Version.is) refl

pub returns-in-Link : goal.returns-in-Link
returns-in-Link c = λ settings rules name bytes. refused_under settings rules name bytes _ _ _ (ap refusal_of c.in-Link.is) refl

pub returns-in-Mixed : goal.returns-in-Mixed
returns-in-Mixed c = λ settings rules name bytes. refused_under settings rules name bytes _ _ _ (ap refusal_of c.in-Mixed.is) refl

pub returns-in-TooMany : goal.returns-in-TooMany
returns-in-TooMany c = λ settings rules name bytes. refused_under settings rules name bytes _ _ _ (ap refusal_of c.in-TooMany.is) refl
