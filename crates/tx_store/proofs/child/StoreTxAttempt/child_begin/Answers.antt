use Rattle.std.proofs.Common.{◌≡◌, ap, subst, ◌∙◌, length}
use Rattle.std.specs.Prelude.{Some}
use Rattle.serial_terms.specs.Renaming.{NamedDone}
use Rattle.tx_core.specs.Calls.{MarksWaiting, mark_of}
use Rattle.tx_core.specs.declared.stop.TxState.TheVariants.{Child}
use Rattle.tx_core.specs.Tx.{Attempt}
use Rattle.tx_nest.specs.OverTxCalls as cells
use Rattle.tx_store.specs.ChildLaws.{same_on, opened_on, grows_on}
use Rattle.tx_store.specs.Stores.{TxView}
use Rattle.tx_store.proofs.Nesting.{opened, paired_kept}
use Rattle.tx_store.proofs.child.StoreTxAttempt.child_begin.Goals.{After-mark}
use Rattle.tx_store.proofs.child.StoreTxAttempt.child_begin.Goals as goal

at : (g : _) (c : After-mark g) → c.self.inside.tx ≡ c.args.self.now.attempt
at g c = ap (λ (t : TxView _). t.attempt) c.self.view_is

is : (g : _) (c : After-mark g) → c.mark.new.self ≡ record c.args.self.now.attempt { state = Child; additions = c.mark.new.self.additions; mark = Some (mark_of c.args.self.now.attempt) }
is g c =
    let new = c.mark.new.self in
    subst (λ (x : Attempt _ NamedDone). new ≡ record x { state = Child; additions = new.additions; mark = Some (mark_of x) }) (at g c) c.mark.ensures.marks

pub returns-clause-same : goal.returns-clause-same
returns-clause-same g c =
    same_on c.args.self.now (record { store = c.self.inside.store.now; attempt = c.mark.new.self; keys = c.self.inside.keys }) (ap (λ (t : TxView _). t.store) c.self.view_is) (ap (λ (t : TxView _). t.keys) c.self.view_is)
    (cells.same_of_pass c.args.self.now.attempt c.mark.new.self (ap (λ (x : Attempt _ NamedDone). x.pass) (is g c)) (ap (λ (x : Attempt _ NamedDone). x.table) (is g c)) (ap (λ (x : Attempt _ NamedDone). x.committing) (is g c)) c.requires.running.before_commit)

pub returns-clause-grows : goal.returns-clause-grows
returns-clause-grows g c =
    grows_on c.args.self.now (record { store = c.self.inside.store.now; attempt = c.mark.new.self; keys = c.self.inside.keys }) (ap (λ (t : TxView _). t.store) c.self.view_is) (ap (λ (t : TxView _). t.keys) c.self.view_is)
    (cells.grows_of_pass c.args.self.now.attempt c.mark.new.self (ap (λ (x : Attempt _ NamedDone). x.pass) (is g c)))

pub returns-clause-opened : goal.returns-clause-opened
returns-clause-opened g c =
    opened_on c.args.self.now (record { store = c.self.inside.store.now; attempt = c.mark.new.self; keys = c.self.inside.keys }) (ap (λ (t : TxView _). t.store) c.self.view_is) (ap (λ (t : TxView _). t.keys) c.self.view_is)
    (cells.opened c.args.self.now.attempt c.mark.new.self (is g c) (subst (λ (x : Attempt _ NamedDone). MarksWaiting x c.mark.new.self) (at g c) c.mark.ensures.waiting)
    (subst (λ (x : Attempt _ NamedDone). length x.versions ≡ length x.observations) (at g c) c.vouched_law.ensures.sized))

pub invariant_of-self : goal.invariant_of-self
invariant_of-self g c = (
  ap (λ (x : Attempt _ NamedDone). x.table) c.mark.ensures.marks ∙ c.self.invariant.0,
  c.self.invariant.1,
  opened g.P.Keys.KeyTest.passes c.self.inside.store.now.table.meaning.plan c.self.inside.tx c.mark.new.self (ap (λ (t : TxView _). t.attempt.state) c.self.view_is ∙ c.requires.running.running) c.mark.ensures.marks c.mark.ensures.waiting c.self.invariant.2,
  paired_kept c.self.inside.keys c.self.inside.tx c.mark.new.self (ap (λ (x : Attempt _ NamedDone). x.pass) c.mark.ensures.marks) (ap (λ (x : Attempt _ NamedDone). x.notes) c.mark.ensures.marks) c.self.invariant.3,
)
