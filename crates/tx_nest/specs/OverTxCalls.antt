-- What the calls for a child leave of an attempt over cells.
use Rattle.std.specs.Prelude.{◌≡◌, ℕ, ◌≤◌, false, List, [], ◌∷◌, ◌++◌, length, slice_get, Option, Some, None, MatchOption, Result, Ok, Err, OnOk, IfErr}
use Rattle.std.proofs.Common.{ap, refl, ◌∙◌, sym, arith}
use Rattle.std.proofs.Math.Path.{fun_ext}
use Rattle.std.proofs.Math.Seq.{take-length}
use Rattle.attempt_lists.specs.Parts.{waiting_of}
use Rattle.cell_table.specs.declared.view.Event.{Event}
use Rattle.cell_table.specs.declared.view.Event.TheVariants.{ClockLoaded}
use Rattle.cell_table.specs.Pass.{PassState, trail_of}
use Rattle.cell_table.specs.Rule.{callers_of}
use Rattle.cell_table.specs.Steps.{Grows}
use Rattle.tx_core.specs.Calls.{CausedIn, MarksWaiting, GoesBack, mark_of}
use Rattle.tx_core.specs.Causes.{IsFound}
use Rattle.tx_core.specs.Children.{Marked}
use Rattle.tx_core.specs.declared.stop.Stop.{Stop}
use Rattle.tx_core.specs.declared.stop.TxState.{TxState}
use Rattle.tx_core.specs.declared.stop.TxState.TheVariants.{Running, Child, Stopped}
use Rattle.tx_core.specs.Facts.{caused_earlier, grows_trans}
use Rattle.tx_core.specs.Seen.{KnowsMore}
use Rattle.tx_core.specs.Tx.{Attempt}
use Rattle.tx_nest.specs.Attempts.{IsSame, HasSame, IsOpened, IsDropped, IsRaised, IsRefused}
use Rattle.tx_nest.specs.AttemptLaws.{grew_trans, grew_length}
use Rattle.tx_nest.specs.Ends.{Grew, ClockedSince}
use Rattle.tx_nest.specs.OverTx.{content_of, remembered_by, view_of, HasMark}
use Rattle.tx_nest.specs.OverTxLaws.{same_content, grows_all}

pub on_ok : {T E P Q R : Type 0} (r : Result T E) → (P → Q → R) → OnOk r P → OnOk r Q → OnOk r R
on_ok (Ok x) f p q = f p q
on_ok (Err e) f p q = tt

pub if_err : {T E : Type 0} {P Q R : E → Type 0} (r : Result T E) → ((e : E) → P e → Q e → R e) → IfErr r P → IfErr r Q → IfErr r R
if_err (Ok x) f p q = tt
if_err (Err e) f p q = f e p q

pub at_some : {A : Type 0} (o : Option A) (m : A) (P : A → Type 0) → o ≡ Some m → MatchOption o ⊥ P → P m
at_some o m P e h = rw e at h

get_at_length : (t more : List Event) (e : Event) → slice_get (t ++ e ∷ more) (length t) ≡ Some e
get_at_length [] more e = refl
get_at_length (x ∷ t) more e = get_at_length t more e

-- a load of the clock that comes after what grew
clocked_after : (t u v more : List Event) (word : ℕ) → Grew t u → v ≡ u ++ ClockLoaded word ∷ more → ClockedSince (length t) v word
clocked_after t u v more word grew e = (length u, grew_length t u grew, rw e (get_at_length u more (ClockLoaded word)))

module _ {M D : Type 0} where
  -- the pass is as it was
  pub same_of_pass : (old new : Attempt M D) → new.pass ≡ old.pass → new.table ≡ old.table → new.committing ≡ old.committing → old.committing ≡ false → IsSame (view_of old) (view_of new)
  same_of_pass old new pass table committing early = record { over = table; fixed = rw pass refl; callers = ap (λ (p : PassState M D). callers_of p.view.books) pass; before_commit = committing ∙ early }

  pub grows_of_pass : (old new : Attempt M D) → new.pass ≡ old.pass → Grows old.pass.view new.pass.view
  grows_of_pass old new pass = rw pass (grows_all old.pass.view)

  -- ---- a child is opened

  module _ (old new : Attempt M D) (is : new ≡ record old { state = Child; additions = new.additions; mark = Some (mark_of old) }) (marks : MarksWaiting old new) (sized : length old.versions ≡ length old.observations) where
    pub opened : IsOpened (view_of old) (view_of new) × HasMark new
    opened =
        let mark : new.mark ≡ Some (mark_of old) = ap (λ (a : Attempt M D). a.mark) is in
        let seen : new.observations ≡ old.observations = ap (λ (a : Attempt M D). a.observations) is in
        let versions : new.versions ≡ old.versions = ap (λ (a : Attempt M D). a.versions) is in
        let notes : new.notes ≡ old.notes = ap (λ (a : Attempt M D). a.notes) is in
        let sized_versions : length old.observations ≤ length new.versions = rw versions (omega (arith, sized)) in (
          record {
            state = ap (λ (a : Attempt M D). a.state) is;
            marked = rw (mark) (same_content _ _ _ _ _ _ _ _ _ _ _ _
                (rw seen (take-length old.observations)) (rw (versions, ← sized) (take-length old.versions)) refl (rw notes (take-length old.notes)) refl (λ part. (marks part).1));
            has = record {
              version = ap (λ (a : Attempt M D). a.version) is;
              calls = notes;
              pending = fun_ext (λ part. (marks part).0);
              content = same_content _ _ _ _ _ _ _ _ _ _ _ _ seen versions (ap (λ (a : Attempt M D). a.writes) is) notes (ap (λ (a : Attempt M D). a.pass.view.held) is) (λ part. (marks part).0);
              trail = ap (λ (a : Attempt M D). trail_of a.pass) is;
            };
          },
          (mark_of old, mark, rw seen (omega arith), sized_versions, rw notes (omega arith)),
        )

  -- ---- a child is merged

  pub merged : (old new : Attempt M D) → new ≡ record old { state = Running; mark = None } → HasSame (view_of old) (view_of new)
  merged old new is = record {
    version = ap (λ (a : Attempt M D). a.version) is;
    calls = ap (λ (a : Attempt M D). a.notes) is;
    pending = ap (λ (a : Attempt M D). (λ (p : ℕ). waiting_of a.additions p)) is;
    content = ap content_of is;
    trail = ap (λ (a : Attempt M D). trail_of a.pass) is;
  }

  -- ---- a child is dropped: the attempt goes back to the mark, and raises its version

  pub restated : {T : Type 0} (r : Result T Stop) (mid new : Attempt M D) → OnOk r (new ≡ record mid { pass = new.pass; version = new.version }) → IfErr r (λ stop. IsFound stop × (new ≡ record mid { pass = new.pass; state = Stopped }))
      → new ≡ record mid { pass = new.pass; version = new.version; state = new.state }
  restated (Ok x) mid new raised stopped =
      let f : TxState → Attempt M D = λ s. record mid { pass = new.pass; version = new.version; state = s } in
      raised ∙ ap f (sym (ap (λ (a : Attempt M D). a.state) raised))
  restated (Err stop) mid new raised stopped =
      let is = stopped.1 in
      let f : ℕ → TxState → Attempt M D = λ v s. record mid { pass = new.pass; version = v; state = s } in
      is ∙ (ap (λ (v : ℕ). f v Stopped) (sym (ap (λ (a : Attempt M D). a.version) is)) ∙ ap (f new.version) (sym (ap (λ (a : Attempt M D). a.state) is)))

  module _ (old mid new : Attempt M D) (m : Marked) (marked : old.mark ≡ Some m) (back : GoesBack old mid m) (is : new ≡ record mid { pass = new.pass; version = new.version; state = new.state }) (knows : KnowsMore mid.pass new.pass)
      (word : ℕ) (more : List Event) (loads : trail_of new.pass ≡ trail_of mid.pass ++ ClockLoaded word ∷ more) where
    went : Grew (trail_of old.pass) (trail_of mid.pass)
    went = (back.steps.0, back.steps.1)

    clocked : ClockedSince (length (trail_of old.pass)) (trail_of new.pass) word
    clocked = clocked_after _ _ _ more word went loads

    pub dropped_grows : Grows old.pass.view new.pass.view
    dropped_grows = grows_trans old.pass.view mid.pass.view new.pass.view back.pass.gives.grows knows.grows

    pub dropped_same : old.committing ≡ false → IsSame (view_of old) (view_of new)
    dropped_same early =
        let books : new.pass.books ≡ old.pass.books = ap (λ (p : PassState M D). p.books) knows.is ∙ back.pass.gives.books in
        let room : new.pass.room ≡ old.pass.room = ap (λ (p : PassState M D). p.room) knows.is ∙ back.pass.gives.room in
        let told : new.pass.view.books ≡ old.pass.view.books = knows.books ∙ back.pass.callers in
        let draws : new.pass.view.draws ≡ old.pass.view.draws = knows.draws ∙ back.pass.gives.draws in
        record {
          over = ap (λ (a : Attempt M D). a.table) is ∙ ap (λ (a : Attempt M D). a.table) back.is;
          fixed = rw (books, told, draws, dropped_grows.total, room) refl;
          callers = ap callers_of told;
          before_commit = ap (λ (a : Attempt M D). a.committing) is ∙ (ap (λ (a : Attempt M D). a.committing) back.is ∙ early);
        }

    back_content : content_of mid ≡ remembered_by old old.mark
    back_content =
        let at = back.is in
        same_content _ _ _ _ _ _ _ _ _ _ _ _ (ap (λ (a : Attempt M D). a.observations) at) (ap (λ (a : Attempt M D). a.versions) at) (ap (λ (a : Attempt M D). a.writes) at) (ap (λ (a : Attempt M D). a.notes) at) back.held (λ p. (back.additions p).0)
        ∙ sym (ap (remembered_by old) marked)

    new_content : content_of new ≡ content_of mid
    new_content = same_content _ _ _ _ _ _ _ _ _ _ _ _ (ap (λ (a : Attempt M D). a.observations) is) (ap (λ (a : Attempt M D). a.versions) is) (ap (λ (a : Attempt M D). a.writes) is) (ap (λ (a : Attempt M D). a.notes) is) knows.held
        (λ p. ap (λ (a : Attempt M D). waiting_of a.additions p) is)

    pub dropped : mid.version ≤ new.version → IsDropped (view_of old) (view_of new)
    dropped higher =
        let version = ap (λ (a : Attempt M D). a.version) back.is in
        record { content = new_content ∙ back_content; version = omega (arith, version, higher); trail = grew_trans _ _ _ went (ClockLoaded word ∷ more, loads) }

    pub raised : new.state ≡ mid.state → new.version ≡ word → IsRaised (view_of old) (view_of new)
    raised state version = record { state = state ∙ ap (λ (a : Attempt M D). a.state) back.is; clocked = rw version clocked }

    pub refused : (stop : Stop) → IsFound stop → new.state ≡ Stopped → new.version ≡ mid.version → CausedIn mid new stop → IsRefused (view_of old) (view_of new) stop
    refused stop found state version cause =
        let callers : callers_of mid.pass.view.books ≡ callers_of old.pass.view.books = ap callers_of back.pass.callers in
        let before : mid.version ≡ old.version = ap (λ (a : Attempt M D). a.version) back.is in
        record {
          state = state;
          version = version ∙ before;
          cause = (found, (word, clocked), caused_earlier _ _ _ (length (trail_of mid.pass)) _ stop (grew_length _ _ went) (rw (← callers, ← before) cause));
        }

  -- the ends of a raise
  pub raised_higher : {T : Type 0} (Q : Type 0) (r : Result T Stop) (mid new : Attempt M D) → OnOk r ((mid.version ≤ new.version) × Q) → IfErr r (λ stop. IsFound stop × (new ≡ record mid { pass = new.pass; state = Stopped })) → mid.version ≤ new.version
  raised_higher Q (Ok x) mid new higher stopped = higher.0
  raised_higher Q (Err stop) mid new higher stopped = omega (arith, ap (λ (a : Attempt M D). a.version) stopped.1)
