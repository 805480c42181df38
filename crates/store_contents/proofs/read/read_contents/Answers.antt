use Rattle.std.proofs.Common.{ap, sym, ◌∙◌, subst}
use Rattle.store_contents.proofs.Stands.{maps_there, pools_there, queues_there, logs_there, contents_stand}
use Rattle.store_contents.specs.Contents.{AreContents}
use Rattle.store_layout.specs.Shapes.{Shape}
use Rattle.store_layout.specs.States.{IsFormed}
use Rattle.store_contents.proofs.read.read_contents.Goals as goal

pub read_maps-requires-clause-there : goal.read_maps-requires-clause-there
read_maps-requires-clause-there c = maps_there c.room.inside.maps c.room.inside.queues c.room.inside.pools c.room.inside.logs c.room.inside.cells c.args.cells.now.values c.room.invariant (subst (λ (s : Shape). IsFormed s c.args.cells.now.values) (sym c.room.view_is) c.requires.formed)

pub read_queues-requires : goal.read_queues-requires
read_queues-requires c = queues_there c.room.inside.maps c.room.inside.queues c.room.inside.pools c.room.inside.logs c.room.inside.cells c.args.cells.now.values c.room.invariant (subst (λ (s : Shape). IsFormed s c.args.cells.now.values) (sym c.room.view_is) c.requires.formed)

pub read_pools-requires : goal.read_pools-requires
read_pools-requires c = pools_there c.room.inside.maps c.room.inside.queues c.room.inside.pools c.room.inside.logs c.room.inside.cells c.args.cells.now.values c.room.invariant (subst (λ (s : Shape). IsFormed s c.args.cells.now.values) (sym c.room.view_is) c.requires.formed)

pub read_logs-requires : goal.read_logs-requires
read_logs-requires c = logs_there c.room.inside.maps c.room.inside.queues c.room.inside.pools c.room.inside.logs c.room.inside.cells c.args.cells.now.values c.room.invariant (subst (λ (s : Shape). IsFormed s c.args.cells.now.values) (sym c.room.view_is) c.requires.formed)

pub returns : goal.returns
returns c = subst (λ (s : Shape). AreContents s c.args.cells.now.values c.args.keys.now (record { maps = c.read_maps.result; queues = c.read_queues.result; pools = c.read_pools.result; logs = c.read_logs.result; cells = c.read_cells.result })) c.room.view_is
    (contents_stand c.room.inside.maps c.room.inside.queues c.room.inside.pools c.room.inside.logs c.room.inside.cells c.args.cells.now.values c.room.invariant (subst (λ (s : Shape). IsFormed s c.args.cells.now.values) (sym c.room.view_is) c.requires.formed) c.args.keys.now (record { maps = c.read_maps.result; queues = c.read_queues.result; pools = c.read_pools.result; logs = c.read_logs.result; cells = c.read_cells.result })
    (c.requires.regions ∙ ap (λ (s : Shape). s.maps) (sym c.room.view_is)) c.read_maps.ensures.count c.read_maps.ensures.maps c.read_queues.ensures c.read_pools.ensures c.read_logs.ensures c.read_cells.ensures)
