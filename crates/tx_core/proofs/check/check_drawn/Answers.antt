use Rattle.std.proofs.Common.{slice_index, arith}
use Rattle.tx_core.proofs.Looks.{stands_unheld}
use Rattle.tx_core.proofs.check.check_drawn.Goals as goal

-- nobody drew between, so it stands where it stood for the attempt
pub returns-then-drawn-version-eq1-clause-ok : goal.returns-then-drawn-version-eq1-clause-ok
returns-then-drawn-version-eq1-clause-ok g c = λ i lt free.
    let s = stands_unheld _ _ _ _ _ (c.requires.observed i lt) free in
    (slice_index c.args.reads.now.versions i, s.upto, s.reads, s.validated, omega (arith, s.low, c.if-drawn-version-eq1.true, c.requires.later), omega (arith, s.far, c.if-drawn-version-eq1.true, c.requires.later))

pub returns-in-Ok-clause-ok : goal.returns-in-Ok-clause-ok
returns-in-Ok-clause-ok g c = λ i lt free.
    let s = stands_unheld _ _ _ _ _ (c.requires.observed i lt) free in
    (slice_index c.args.reads.now.versions i, c.args.pass.now.view.known, c.in-Ok.ensures.looks.1.grows.values _ s.reads, c.in-Ok.ensures.ok i lt free, omega (arith, s.low, c.requires.later), omega (arith, c.requires.known))
