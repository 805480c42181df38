use Rattle.std.proofs.Common.{◌+◌, ◌*◌, length, sym}
use Rattle.run_bodies.specs.RunStores.{work_of_run}
use Rattle.inspect_workers.proofs.Seating.{ran_at}
use Rattle.inspect_workers.proofs.seats.SharedTaskSeat.perform.Goals as goal

pub returns-in-Some : goal.returns-in-Some
returns-in-Some g c =
    let run = c.args.self.now.run.now in
    ran_at c.args.self.now.store.now (work_of_run run) (4 * length run.plan.now.tasks.items + 2) c.args.seat.now.pass c.in-Some.pass c.work_ahead-pass.result.0
    (sym c.in-Some.ensures.value) c.work_ahead-pass.ensures.left c.work_ahead-pass.ensures.records
