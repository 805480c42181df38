use Rattle.std.proofs.Common.{ap}
use Rattle.key_directory.specs.Directory.{PassView}
use Rattle.tx_store.proofs.Parted.{joined_seen}
use Rattle.tx_store.proofs.pass.StorePass.join.Goals as goal

pub history_law-requires : goal.history_law-requires
history_law-requires g c = (joined_seen (record { table = c.store.inside.table; directory = c.store.inside.directory }) c.args.store.now c.store.view_is
    (record { pass = c.self.inside.pass; keys = c.self.inside.keys }) c.args.self.now (record { pass = c.other.inside.pass; keys = c.other.inside.keys }) c.args.other
    (record { pass = c.join.new.self; keys = c.join-2.new.self }) c.join.ensures.view.0 c.self.view_is c.other.view_is c.requires.of.0 c.requires.of.1 c.requires.idle.0
    c.join.ensures.of c.join.ensures.view.1 c.join.ensures.books (ap (λ (k : PassView). k.directory) c.join-2.ensures.joined) (ap (λ (k : PassView). k.callers) c.join-2.ensures.joined)
    (ap (λ (k : PassView). k.room) c.join-2.ensures.joined) (ap (λ (k : PassView). k.claims) c.join-2.ensures.joined) c.join.ensures.grows.0 c.join.ensures.grows.1).0

pub returns-clause-of : goal.returns-clause-of
returns-clause-of g c = (joined_seen (record { table = c.store.inside.table; directory = c.store.inside.directory }) c.args.store.now c.store.view_is
    (record { pass = c.self.inside.pass; keys = c.self.inside.keys }) c.args.self.now (record { pass = c.other.inside.pass; keys = c.other.inside.keys }) c.args.other
    (record { pass = c.join.new.self; keys = c.join-2.new.self }) c.join.ensures.view.0 c.self.view_is c.other.view_is c.requires.of.0 c.requires.of.1 c.requires.idle.0
    c.join.ensures.of c.join.ensures.view.1 c.join.ensures.books (ap (λ (k : PassView). k.directory) c.join-2.ensures.joined) (ap (λ (k : PassView). k.callers) c.join-2.ensures.joined)
    (ap (λ (k : PassView). k.room) c.join-2.ensures.joined) (ap (λ (k : PassView). k.claims) c.join-2.ensures.joined) c.join.ensures.grows.0 c.join.ensures.grows.1).0

pub returns-clause-joined : goal.returns-clause-joined
returns-clause-joined g c = (joined_seen (record { table = c.store.inside.table; directory = c.store.inside.directory }) c.args.store.now c.store.view_is
    (record { pass = c.self.inside.pass; keys = c.self.inside.keys }) c.args.self.now (record { pass = c.other.inside.pass; keys = c.other.inside.keys }) c.args.other
    (record { pass = c.join.new.self; keys = c.join-2.new.self }) c.join.ensures.view.0 c.self.view_is c.other.view_is c.requires.of.0 c.requires.of.1 c.requires.idle.0
    c.join.ensures.of c.join.ensures.view.1 c.join.ensures.books (ap (λ (k : PassView). k.directory) c.join-2.ensures.joined) (ap (λ (k : PassView). k.callers) c.join-2.ensures.joined)
    (ap (λ (k : PassView). k.room) c.join-2.ensures.joined) (ap (λ (k : PassView). k.claims) c.join-2.ensures.joined) c.join.ensures.grows.0 c.join.ensures.grows.1).1
