use Rattle.std.proofs.Common.{◌≡◌, ◌-◌, refl, sym, ◌∙◌, arith}
use Rattle.pcapng_blocks.specs.Options.{option_end, resolution_in}
use Rattle.pcapng_blocks.proofs.Resolutions.{none_there, found_there, passed_there}
use Rattle.pcapng_blocks.proofs.options.resolution.Goals as goal

pub loop-next-init : goal.loop-next-init
unfolding resolution_in
loop-next-init c = (c.args.end - c.args.from, omega arith, refl)

pub returns-then-is_resolution : goal.returns-then-is_resolution
returns-then-is_resolution c =
    let found = found_there c.loop-next.invariant.0 c.args.order c.args.bytes.now c.args.end c.loop-next.at c.loop-next.invariant.1 c.in-Some.ensures.there (sym c.is_resolution.ensures ∙ c.if-is_resolution.true) in
    sym found ∙ c.loop-next.invariant.2

pub loop-next-preserved : goal.loop-next-preserved
loop-next-preserved c =
    let passed = passed_there c.loop-next.invariant.0 c.args.order c.args.bytes.now c.args.end c.loop-next.at c.loop-next.invariant.1 c.in-Some.ensures.there (sym c.is_resolution.ensures ∙ c.if-is_resolution.false) in
    let next : c.in-Some.next ≡ option_end c.args.order c.args.bytes.now c.loop-next.at = c.in-Some.ensures.next in
    (passed.0, rw next passed.1, rw next (sym passed.2 ∙ c.loop-next.invariant.2))

pub returns : goal.returns
returns c =
    let none = none_there c.loop-next.invariant.0 c.args.order c.args.bytes.now c.args.end c.loop-next.at c.in_default.ensures.none in
    sym none ∙ c.loop-next.invariant.2
