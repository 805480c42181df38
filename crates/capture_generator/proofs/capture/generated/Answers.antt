use Rattle.std.proofs.Common.{◌≡◌, ◌++◌, ℕ, take, refl, arith, ap, ◌∙◌}
use Rattle.capture_generator.specs.Headers.{file_header}
use Rattle.capture_generator.specs.Packets.{lines_of, line_state, datagrams_before, records_from, generated_capture}
use Rattle.std.proofs.Common.{List, length, ◌<◌, subst, sym}
use Rattle.capture_generator.proofs.Lengths.{capture_short}
use Rattle.capture_generator.proofs.Lines.{state_more, lines_more, datagrams_more, datagrams_same}
use Rattle.capture_generator.proofs.capture.generated.Goals as goal
use Rattle.capture_generator.proofs.capture.generated.Goals.{then-kind-ne4, else-kind-ne4}

pub loop-init : goal.loop-init
unfolding lines_of line_state datagrams_before
loop-init c = (c.in_ok-written.ensures, refl, refl, omega arith)

pub loop-preserved : goal.loop-preserved
loop-preserved c =
    let at = c.loop.invariant.1 in
    let moved = c.draw-kind.ensures.state in
    let gave = c.draw-kind.ensures.number in
    let lines = lines_more c.args.seed c.loop.counter _ _ _ at moved gave c.args.frames _ _ _ c.loop.invariant.2 c.loop.invariant.0 c.in_ok-push_line.ensures.packets in
    let state = state_more c.args.seed c.loop.counter _ _ _ at moved gave _ c.in_ok-push_line.ensures.state in
    elim c.if-kind-ne4.branch [
      | then-kind-ne4 w ↦ (lines, state, datagrams_more c.args.seed c.loop.counter _ _ _ at moved gave _ _ c.loop.invariant.2 w.if-kind-ne4.true w.datagram-is, omega (arith, w.datagram-is, c.loop.invariant.3))
      | else-kind-ne4 w ↦ (lines, state, datagrams_same c.args.seed c.loop.counter _ _ _ at moved gave _ _ c.loop.invariant.2 w.if-kind-ne4.false w.datagram-is, omega (arith, w.datagram-is, c.loop.invariant.3))
    ]

pub returns-clause-bytes : goal.returns-clause-bytes
unfolding generated_capture
returns-clause-bytes c =
    let ended : c.loop.counter ≡ c.args.frames = omega arith in
    c.loop.invariant.0.bytes ∙ ap (λ (n : ℕ). file_header ++ records_from 0 (take c.args.frames (lines_of c.args.seed n))) ended

pub returns-clause-short : goal.returns-clause-short
returns-clause-short c = subst (λ (l : List ℕ). length l < 32000000) (sym (returns-clause-bytes c)) (capture_short c.args.seed c.args.frames c.requires)
