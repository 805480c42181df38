use Rattle.std.proofs.Common.{List, All, sym, subst}
use Rattle.std.proofs.lemmas.List.Elements.{All-push}
use Rattle.store_benchmark.specs.declared.measure.Job.{Job}
use Rattle.store_benchmark.specs.Passes.{IsAtWork}
use Rattle.store_benchmark.proofs.measure.jobs.Goals as goal

pub loop-thread-preserved : goal.loop-thread-preserved
loop-thread-preserved c = (
  subst (λ (jobs : List Job). All (λ j. IsAtWork c.args.store.now j.pass) jobs) (sym c.in_ok-push.ensures.items)
      (All-push (λ j. IsAtWork c.args.store.now j.pass) c.loop-thread.jobs.items _ c.loop-thread.invariant.0 (record { of = c.in_ok-pass.ensures.new.0; idle = c.in_ok-pass.ensures.new.1.idle })),
  record { of = c.in_ok-pass.ensures.of; idle = c.in_ok-pass.ensures.kept.idle },
)

pub returns : goal.returns
returns c =
    subst (λ (jobs : List Job). All (λ j. IsAtWork c.args.store.now j.pass) jobs) (sym c.in_ok-push-2.ensures.items)
    (All-push (λ j. IsAtWork c.args.store.now j.pass) c.loop-thread.jobs.items _ c.loop-thread.invariant.0 c.loop-thread.invariant.1)
