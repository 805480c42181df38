use Rattle.std.proofs.Common.{ℕ, arith, length-take}
use Rattle.ipv4_fragments.proofs.assembly.assembled.Goals as goal

pub returns-clause-least : goal.returns-clause-least
returns-clause-least c = λ end all. omega (arith, length-take {A = ℕ}, c.in_ok-whole.ensures.len, c.greatest_end-end.ensures.least end all)
