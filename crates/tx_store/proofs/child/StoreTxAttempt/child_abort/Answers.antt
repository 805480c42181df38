use Rattle.std.proofs.Common.{◌≡◌, ◌<◌, ap, sym, subst, ◌∙◌, length}
use Rattle.std.specs.Prelude.{MatchOption}
use Rattle.attempt_lists.specs.Cells.{cell_at}
use Rattle.cell_table.specs.Pass.{PassState}
use Rattle.cell_table.specs.Steps.{Grows}
use Rattle.serial_terms.specs.Renaming.{NamedDone}
use Rattle.tx_core.specs.Calls.{GoesBack, is_open}
use Rattle.tx_core.specs.declared.stop.TxState.{TxState}
use Rattle.tx_core.specs.Tx.{Attempt}
use Rattle.tx_nest.specs.OverTxCalls as cells
use Rattle.tx_store.specs.Attempts.{Tells}
use Rattle.tx_store.specs.Children.{view_of}
use Rattle.tx_store.specs.ChildLaws.{same_on, dropped_on, raised_on, refused_on, grows_on}
use Rattle.tx_store.specs.Sights.{SawBy, saw_on}
use Rattle.tx_store.specs.Stores.{TxView, IsPairedAttempt}
use Rattle.tx_store.proofs.Nesting.{dropped, restated, saw_now, paired_dropped}
use Rattle.tx_store.proofs.child.StoreTxAttempt.child_abort.Goals.{After-raise}
use Rattle.tx_store.proofs.child.StoreTxAttempt.child_abort.Goals as goal

back : (g : _) (c : After-raise g) → GoesBack c.args.self.now.attempt c.back_to_mark.new.self c.requires.marked.0
back g c =
    let mid = c.back_to_mark.new.self in
    let at = ap (λ (t : TxView _). t.attempt) c.self.view_is in
    cells.at_some c.args.self.now.attempt.mark c.requires.marked.0 (λ m. GoesBack c.args.self.now.attempt mid m) c.requires.marked.1
    (subst (λ (x : Attempt _ NamedDone). MatchOption x.mark ⊥ (λ m. GoesBack x mid m)) at c.back_to_mark.ensures)

grown : (g : _) (c : After-raise g) → Grows c.args.self.now.attempt.pass.view c.raise.new.self.pass.view
grown g c =
    let raise = c.raise.ensures in let loads = raise.loads in let mid = c.back_to_mark.new.self in let new = c.raise.new.self in
    cells.dropped_grows c.args.self.now.attempt mid new c.requires.marked.0 c.requires.marked.1 (back g c) (cells.restated c.raise.result mid new raise.raised raise.stopped) raise.knows loads.0 loads.1 loads.2

pub returns-clause-same : goal.returns-clause-same
returns-clause-same g c =
    let raise = c.raise.ensures in let loads = raise.loads in let mid = c.back_to_mark.new.self in let new = c.raise.new.self in
    same_on c.args.self.now (record { store = c.self.inside.store.now; attempt = c.raise.new.self; keys = c.self.inside.keys }) (ap (λ (t : TxView _). t.store) c.self.view_is) (ap (λ (t : TxView _). t.keys) c.self.view_is)
    (cells.dropped_same c.args.self.now.attempt mid new c.requires.marked.0 c.requires.marked.1 (back g c) (cells.restated c.raise.result mid new raise.raised raise.stopped) raise.knows loads.0 loads.1 loads.2 c.requires.child.before_commit)

pub returns-clause-grows : goal.returns-clause-grows
returns-clause-grows g c = grows_on c.args.self.now (record { store = c.self.inside.store.now; attempt = c.raise.new.self; keys = c.self.inside.keys }) (ap (λ (t : TxView _). t.store) c.self.view_is) (ap (λ (t : TxView _). t.keys) c.self.view_is) (grown g c)

pub returns-clause-dropped : goal.returns-clause-dropped
returns-clause-dropped g c =
    let raise = c.raise.ensures in let loads = raise.loads in let mid = c.back_to_mark.new.self in let new = c.raise.new.self in
    dropped_on c.args.self.now (record { store = c.self.inside.store.now; attempt = c.raise.new.self; keys = c.self.inside.keys }) (ap (λ (t : TxView _). t.store) c.self.view_is) (ap (λ (t : TxView _). t.keys) c.self.view_is)
    (cells.dropped c.args.self.now.attempt mid new c.requires.marked.0 c.requires.marked.1 (back g c) (cells.restated c.raise.result mid new raise.raised raise.stopped) raise.knows loads.0 loads.1 loads.2
    (cells.raised_higher _ c.raise.result mid new raise.version raise.stopped))

pub returns-clause-ok : goal.returns-clause-ok
returns-clause-ok g c =
    let raise = c.raise.ensures in let loads = raise.loads in let mid = c.back_to_mark.new.self in let new = c.raise.new.self in
    cells.on_ok c.raise.result (λ is version. raised_on c.args.self.now (record { store = c.self.inside.store.now; attempt = c.raise.new.self; keys = c.self.inside.keys }) (ap (λ (t : TxView _). t.store) c.self.view_is) (ap (λ (t : TxView _). t.keys) c.self.view_is)
    (cells.raised c.args.self.now.attempt mid new c.requires.marked.0 c.requires.marked.1 (back g c) (cells.restated c.raise.result mid new raise.raised raise.stopped) raise.knows loads.0 loads.1 loads.2
    (ap (λ (a : Attempt _ _). a.state) is) (version.1 ∙ sym loads.3))) raise.raised raise.version

pub returns-clause-err : goal.returns-clause-err
returns-clause-err g c =
    let raise = c.raise.ensures in let loads = raise.loads in let mid = c.back_to_mark.new.self in let new = c.raise.new.self in
    cells.if_err c.raise.result (λ stop stopped cause. refused_on c.args.self.now (record { store = c.self.inside.store.now; attempt = c.raise.new.self; keys = c.self.inside.keys }) (ap (λ (t : TxView _). t.store) c.self.view_is) (ap (λ (t : TxView _). t.keys) c.self.view_is) stop
    (cells.refused c.args.self.now.attempt mid new c.requires.marked.0 c.requires.marked.1 (back g c) (cells.restated c.raise.result mid new raise.raised raise.stopped) raise.knows loads.0 loads.1 loads.2
    stop stopped.0 (ap (λ (a : Attempt _ _). a.state) stopped.1) (ap (λ (a : Attempt _ _). a.version) stopped.1) cause.0)) raise.stopped raise.cause

pub returns-clause-sole : goal.returns-clause-sole
returns-clause-sole g c =
    let b = back g c in
    λ sole. c.raise.ensures.sole (ap length b.pass.gives.books ∙ (sole ∙ sym b.pass.gives.grows.total))

pub returns-clause-sight : goal.returns-clause-sight
returns-clause-sight g c =
    let a = c.args.self.now in
    let at : c.self.inside.tx ≡ a.attempt = ap (λ (t : TxView _). t.attempt) c.self.view_is in
    let vouched = c.vouched_law.ensures in
    let early : c.self.inside.tx.committing ≡ _ = ap (λ (x : Attempt _ NamedDone). x.committing) at ∙ c.requires.child.before_commit in
    let there : (i : _) → i < length c.self.inside.tx.observations → cell_at c.self.inside.tx.observations i < length c.self.inside.tx.pass.view.opening = λ i lt. rw c.pass_law.ensures.of.2 (vouched.there i lt) in
    let seen = c.self.invariant.2.seen in
    saw_on g.P.Purpose.lawful_state a (record { store = c.self.inside.store.now; attempt = c.raise.new.self; keys = c.self.inside.keys }) (view_of a).content a.attempt.version (grows_on a (record { store = c.self.inside.store.now; attempt = c.raise.new.self; keys = c.self.inside.keys }) (ap (λ (t : TxView _). t.store) c.self.view_is) (ap (λ (t : TxView _). t.keys) c.self.view_is) (grown g c))
    (subst (λ (t : TxView _). SawBy g.P.Purpose.lawful_state t.store.table.meaning t.attempt.pass t.keys.claims t.attempt.version t.attempt.notes) c.self.view_is
    (saw_now g.P.Purpose.lawful_state c.self.inside.store.now.table.meaning c.self.inside.tx c.self.inside.keys.claims c.self.invariant.3.notes seen there (λ i lt. vouched.stands i lt (vouched.early early i lt)) c.pass_law.ensures.known))

pub invariant_of-self : goal.invariant_of-self
invariant_of-self g c =
    let raise = c.raise.ensures in let mid = c.back_to_mark.new.self in let new = c.raise.new.self in
    let passes = g.P.Keys.KeyTest.passes in
    let plan = c.self.inside.store.now.table.meaning.plan in
    let at : c.self.inside.tx ≡ c.args.self.now.attempt = ap (λ (t : TxView _). t.attempt) c.self.view_is in
    let told : Tells passes plan c.args.self.now.attempt = subst (λ (x : Attempt _ NamedDone). Tells passes plan x) at c.self.invariant.2 in
    let is = cells.restated c.raise.result mid new raise.raised raise.stopped in
    let gone : Tells passes plan mid = dropped passes plan c.args.self.now.attempt mid c.requires.marked.0 c.requires.marked.1 (back g c) (back g c).pass.gives.draws told in (
      ap (λ (x : Attempt _ NamedDone). x.table) is ∙ (ap (λ (x : Attempt _ NamedDone). x.table) (back g c).is ∙ (ap (λ (x : Attempt _ NamedDone). x.table) (sym at) ∙ c.self.invariant.0)),
      c.self.invariant.1,
      restated passes plan mid new is (λ open_now. ap (λ (s : TxState). is_open s) (ap (λ (x : Attempt _ NamedDone). x.state) (back g c).is)) raise.knows.draws gone,
      paired_dropped c.self.inside.keys c.args.self.now.attempt new c.requires.marked.0.notes (ap (λ (p : PassState _ NamedDone). p.books) raise.knows.is ∙ (back g c).pass.gives.books) (ap (λ (p : PassState _ NamedDone). p.room) raise.knows.is ∙ (back g c).pass.gives.room)
          (ap (λ (x : Attempt _ NamedDone). x.notes) is ∙ ap (λ (x : Attempt _ NamedDone). x.notes) (back g c).is) (subst (λ (x : Attempt _ NamedDone). IsPairedAttempt x c.self.inside.keys) at c.self.invariant.3),
    )
