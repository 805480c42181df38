use Rattle.std.proofs.Common.{◌≡◌, ap, subst, ◌∙◌}
use Rattle.std.specs.Prelude.{None}
use Rattle.serial_terms.specs.Renaming.{NamedDone}
use Rattle.tx_core.specs.declared.stop.TxState.TheVariants.{Running}
use Rattle.tx_core.specs.Tx.{Attempt}
use Rattle.tx_nest.specs.OverTxCalls as cells
use Rattle.tx_store.specs.ChildLaws.{same_on, has_on, grows_on}
use Rattle.tx_store.specs.Stores.{TxView}
use Rattle.tx_store.proofs.Nesting.{merged, paired_kept}
use Rattle.tx_store.proofs.child.StoreTxAttempt.child_commit.Goals.{After-unmark}
use Rattle.tx_store.proofs.child.StoreTxAttempt.child_commit.Goals as goal

is : (g : _) (c : After-unmark g) → c.unmark.new.self ≡ record c.args.self.now.attempt { state = Running; mark = None }
is g c =
    let new = c.unmark.new.self in
    subst (λ (x : Attempt _ NamedDone). new ≡ record x { state = Running; mark = None }) (ap (λ (t : TxView _). t.attempt) c.self.view_is) c.unmark.ensures

pub returns-clause-same : goal.returns-clause-same
returns-clause-same g c =
    same_on c.args.self.now (record { store = c.self.inside.store.now; attempt = c.unmark.new.self; keys = c.self.inside.keys }) (ap (λ (t : TxView _). t.store) c.self.view_is) (ap (λ (t : TxView _). t.keys) c.self.view_is)
    (cells.same_of_pass c.args.self.now.attempt c.unmark.new.self (ap (λ (x : Attempt _ NamedDone). x.pass) (is g c)) (ap (λ (x : Attempt _ NamedDone). x.table) (is g c)) (ap (λ (x : Attempt _ NamedDone). x.committing) (is g c)) c.requires.child.before_commit)

pub returns-clause-grows : goal.returns-clause-grows
returns-clause-grows g c =
    grows_on c.args.self.now (record { store = c.self.inside.store.now; attempt = c.unmark.new.self; keys = c.self.inside.keys }) (ap (λ (t : TxView _). t.store) c.self.view_is) (ap (λ (t : TxView _). t.keys) c.self.view_is)
    (cells.grows_of_pass c.args.self.now.attempt c.unmark.new.self (ap (λ (x : Attempt _ NamedDone). x.pass) (is g c)))

pub returns-clause-merged : goal.returns-clause-merged
returns-clause-merged g c = (
  ap (λ (x : Attempt _ NamedDone). x.state) (is g c),
  has_on c.args.self.now (record { store = c.self.inside.store.now; attempt = c.unmark.new.self; keys = c.self.inside.keys }) (ap (λ (t : TxView _). t.store) c.self.view_is) (ap (λ (t : TxView _). t.keys) c.self.view_is) (cells.merged c.args.self.now.attempt c.unmark.new.self (is g c)),
)

pub invariant_of-self : goal.invariant_of-self
invariant_of-self g c = (
  ap (λ (x : Attempt _ NamedDone). x.table) c.unmark.ensures ∙ c.self.invariant.0,
  c.self.invariant.1,
  merged g.P.Keys.KeyTest.passes c.self.inside.store.now.table.meaning.plan c.self.inside.tx c.unmark.new.self (ap (λ (t : TxView _). t.attempt.state) c.self.view_is ∙ c.requires.child.child) c.unmark.ensures c.self.invariant.2,
  paired_kept c.self.inside.keys c.self.inside.tx c.unmark.new.self (ap (λ (x : Attempt _ NamedDone). x.pass) c.unmark.ensures) (ap (λ (x : Attempt _ NamedDone). x.notes) c.unmark.ensures) c.self.invariant.3,
)
