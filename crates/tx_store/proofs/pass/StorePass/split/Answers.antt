use Rattle.std.proofs.Common.{ap}
use Rattle.key_directory.specs.Directory.{PassView}
use Rattle.tx_store.proofs.Parted.{kept_seen, new_seen}
use Rattle.tx_store.proofs.pass.StorePass.split.Goals as goal

pub returns-clause-kept : goal.returns-clause-kept
returns-clause-kept g c = (kept_seen (record { table = c.store.inside.table; directory = c.store.inside.directory }) c.args.store.now c.store.view_is (record { pass = c.self.inside.pass; keys = c.self.inside.keys }) c.args.self.now
    (record { pass = c.split.new.self; keys = c.split-2.new.self }) c.args.n c.self.view_is c.requires.of c.requires.n.1 c.requires.idle c.in_ok-pass.ensures.of c.in_ok-pass.ensures.kept
    (ap (λ (k : PassView). k.directory) c.in-Ok.ensures.kept) (ap (λ (k : PassView). k.callers) c.in-Ok.ensures.kept) (ap (λ (k : PassView). k.room) c.in-Ok.ensures.kept) (ap (λ (k : PassView). k.claims) c.in-Ok.ensures.kept) c.in_ok-pass.ensures.grows.0).1

pub returns-clause-new : goal.returns-clause-new
returns-clause-new g c = new_seen (record { table = c.store.inside.table; directory = c.store.inside.directory }) c.args.store.now c.store.view_is (record { pass = c.self.inside.pass; keys = c.self.inside.keys }) c.args.self.now
    (record { pass = c.in_ok-pass.pass; keys = c.in-Ok.keys }) c.args.n c.self.view_is c.requires.of c.requires.n.1 c.in_ok-pass.ensures.new.0 c.in_ok-pass.ensures.new.1
    (ap (λ (k : PassView). k.directory) c.in-Ok.ensures.new_pass) (ap (λ (k : PassView). k.callers) c.in-Ok.ensures.new_pass) (ap (λ (k : PassView). k.room) c.in-Ok.ensures.new_pass) (ap (λ (k : PassView). k.claims) c.in-Ok.ensures.new_pass) c.in_ok-pass.ensures.grows.1
