-- What the calls on a store leave of an open child, and what the content of an attempt determines.
use Rattle.std.specs.Prelude.{◌≡◌, ℕ, false, List, [], ◌∷◌, ◌++◌, length, Option, Some, Result, Ok, Err}
use Rattle.std.proofs.Common.{ap, refl, ◌∙◌, sym, arith, subst, inr, length-append, append_assoc}
use Rattle.std.proofs.Math.Path.{fun_ext}
use Rattle.std.proofs.lemmas.List.{append-nil, take-append-le}
use Rattle.attempt_lists.specs.Cells.{Entries}
use Rattle.cell_table.specs.Pass.{PassState, IsSole}
use Rattle.cell_table.specs.Rule.{callers_of}
use Rattle.cell_table.specs.Steps.{Grows}
use Rattle.key_directory.specs.Directory as keys
use Rattle.key_directory.specs.Directory.{claim_of, steps_since}
use Rattle.key_directory.specs.declared.view.Claim.{Claim}
use Rattle.serial_terms.specs.Renaming.{NamedDone}
use Rattle.store_layout.specs.Shapes.{Shape, Object}
use Rattle.tx_core.specs.Calls.{StepsAt}
use Rattle.tx_core.specs.Children.{Marked}
use Rattle.tx_core.specs.declared.stop.Stop.{Stop}
use Rattle.tx_core.specs.Facts.{grows_trans}
use Rattle.tx_core.specs.declared.stop.TxState.TheVariants.{Child}
use Rattle.tx_map.specs.Calls.{Claims, ClaimsKey, UnlessFull, IfFull, position_of}
use Rattle.tx_map.specs.declared.part.MapPart.{MapPart}
use Rattle.tx_map.specs.declared.part.MapStop.{MapStop}
use Rattle.tx_map.specs.declared.part.MapStop.TheVariants as maps
use Rattle.tx_nest.specs.Attempts.{IsSame, HasSame, IsOpened, IsDropped, IsRaised, IsRefused, StaysInChild, IsBodyStop}
use Rattle.store_parts.specs.Parts.{map_part}
use Rattle.tx_store.specs.Calls.{KeepsMark, IsCalled}
use Rattle.tx_nest.specs.OverTx as cells
use Rattle.tx_store.specs.Children.{Content, Fixed, content_in, fixed_of, view_of, HasMark, KeysGrow, GrowsOn}
use Rattle.tx_store.specs.MapCalls.{Told, IsCalledWithKey}
use Rattle.tx_store.specs.Stores.{TxView}

grew_then : {A : Type 0} (a b c : List A) → ((more : List A) × (b ≡ a ++ more)) → ((more : List A) × (c ≡ b ++ more)) → (more : List A) × (c ≡ a ++ more)
grew_then a b c p q = (p.0 ++ q.0, q.1 ∙ (ap (λ x. x ++ q.0) p.1 ∙ append_assoc a p.0 q.0))

-- a pass of the directory knows what it knows
pub keys_all : (k : keys.PassView) → KeysGrow k k
keys_all k = record { directory = refl; callers = refl; room = refl; claims = ([], sym (append-nil k.claims)); trail = ([], sym (append-nil k.trail)) }

pub keys_then : (a b c : keys.PassView) → KeysGrow a b → KeysGrow b c → KeysGrow a c
keys_then a b c p q = record {
  directory = q.directory ∙ p.directory;
  callers = q.callers ∙ p.callers;
  room = q.room ∙ p.room;
  claims = grew_then a.claims b.claims c.claims p.claims q.claims;
  trail = grew_then a.trail b.trail c.trail p.trail q.trail;
}

pub keys_same : (a b : keys.PassView) → b ≡ a → KeysGrow a b
keys_same a b is = subst (λ (k : keys.PassView). KeysGrow a k) (sym is) (keys_all a)

-- a call with a key claims one position at most
claims_grew : {A : Type 0} (part : MapPart) (key : ℕ) (old new : keys.PassView) (result : Result A MapStop) → UnlessFull result (Claims part key old new)
    → IfFull result (λ capacity. (capacity ≡ part.capacity) × (new.claims ≡ old.claims)) → (more : List Claim) × (new.claims ≡ old.claims ++ more)
claims_grew part key old new (Ok answer) claimed refused = (claim_of part.region key (position_of part new key) ∷ [], claimed.claims)
claims_grew part key old new (Err (maps.Stop stop)) claimed refused = (claim_of part.region key (position_of part new key) ∷ [], claimed.claims)
claims_grew part key old new (Err (maps.KeysFull capacity)) claimed refused = ([], refused.1 ∙ sym (append-nil old.claims))

pub keys_claimed : {A : Type 0} (part : MapPart) (passes : ℕ → ℕ → Type 0) (key : ℕ) (old new : keys.PassView) (result : Result A MapStop) → ClaimsKey part passes key old new result → KeysGrow old new
keys_claimed part passes key old new result is = record {
  directory = ap (λ (k : keys.PassView). k.directory) is.pass;
  callers = ap (λ (k : keys.PassView). k.callers) is.pass;
  room = ap (λ (k : keys.PassView). k.room) is.pass;
  claims = claims_grew part key old new result is.claimed is.refused;
  trail = (steps_since old new, is.trail);
}

-- contents are the same by their lists, and by what waits for each part
pub same_content : (o p : Entries) (x y : Entries) (n k : List NamedDone) (h l : List (ℕ × ℕ)) (f g : ℕ → List ℕ)
    → o ≡ p → x ≡ y → n ≡ k → h ≡ l → ((part : ℕ) → f part ≡ g part)
    → ◌≡◌ {A = Content} (record { observations = o; writes = x; notes = n; held = h; waiting = f }) (record { observations = p; writes = y; notes = k; held = l; waiting = g })
same_content o p x y n k h l f g a c d e each =
    let waits : f ≡ g = fun_ext each in
    rw (a, c, d, e, waits) refl

module _ {M : Type 0} where
  pub calls_of : (a b : TxView M) → (view_of a).content ≡ (view_of b).content → a.attempt.notes ≡ b.attempt.notes
  calls_of a b e = ap (λ (c : Content). c.notes) e

  pub pending_of : (a b : TxView M) → (view_of a).content ≡ (view_of b).content → (view_of a).pending ≡ (view_of b).pending
  pending_of a b e = ap (λ (c : Content). c.waiting) e

  pub sole_of : (a b : TxView M) → fixed_of a ≡ fixed_of b → IsSole b.attempt.pass → IsSole a.attempt.pass
  sole_of a b e s = ap (λ (f : Fixed). length f.cells.books) e ∙ (s ∙ sym (ap (λ (f : Fixed). f.cells.callers) e))

  pub grows_all : (a : TxView M) → GrowsOn a a
  grows_all a = record { store = refl; cells = record { meaning = refl; opening = refl; total = refl; known = omega arith; values = λ t among. among; validations = λ t among. among }; keys = keys_all a.keys }

  pub grows_then : (a b c : TxView M) → GrowsOn a b → GrowsOn b c → GrowsOn a c
  grows_then a b c p q = record { store = q.store ∙ p.store; cells = grows_trans a.attempt.pass.view b.attempt.pass.view c.attempt.pass.view p.cells q.cells; keys = keys_then a.keys b.keys c.keys p.keys q.keys }

  -- an attempt that only observed and noted more since goes back to what it did
  pub mark_kept : (a b : TxView M) (o : Entries) (n : List NamedDone) → HasMark a → b.attempt.observations ≡ a.attempt.observations ++ o → b.attempt.notes ≡ a.attempt.notes ++ n
      → KeepsMark a.attempt b.attempt → ((view_of b).marked ≡ (view_of a).marked) × HasMark b
  mark_kept a b o n has eo en kept =
      let m = has.0 in
      let is : b.attempt.mark ≡ Some m = kept.mark ∙ has.1 in
      let lo = length-append a.attempt.observations o in
      let ln = length-append a.attempt.notes n in (
        ap (λ (x : Option Marked). content_in (cells.remembered_by b.attempt x)) is
            ∙ (same_content _ _ _ _ _ _ _ _ _ _ (rw eo (take-append-le m.observations a.attempt.observations o has.2)) refl (rw en (take-append-le m.notes a.attempt.notes n has.3)) refl kept.marked
            ∙ sym (ap (λ (x : Option Marked). content_in (cells.remembered_by a.attempt x)) has.1)),
        (m, is, rw eo (omega (arith, lo, has.2)), rw en (omega (arith, ln, has.3))),
      )

  -- What stays where an attempt on a store made steps, noted calls and may have claimed positions: its child goes on with the mark that it had
  pub stays_in_child : (P : ℕ → Type 0) (n : ℕ) (a b : TxView M) (dones : List NamedDone) → b.store ≡ a.store → KeysGrow a.keys b.keys → StepsAt P n a.attempt b.attempt → b.attempt.notes ≡ a.attempt.notes ++ dones
      → b.attempt.committing ≡ a.attempt.committing → KeepsMark a.attempt b.attempt → a.attempt.committing ≡ false → HasMark a
      → StaysInChild (view_of a) (view_of b) × HasMark b × GrowsOn a b
  stays_in_child P n a b dones store keys does notes committing kept early has =
      let p = a.attempt.pass in
      let q = b.attempt.pass in
      let is : q ≡ record p { view = q.view; places = q.places } = does.pass.is in
      let books : q.books ≡ p.books = ap (λ (x : PassState M NamedDone). x.books) is in
      let room : q.room ≡ p.room = ap (λ (x : PassState M NamedDone). x.room) is in
      let mark = mark_kept a b does.touches.observed.0 dones has does.touches.observed.1 notes kept in (
        record {
          same = record {
            over = store;
            fixed = rw (books, does.pass.books, does.pass.draws, does.pass.grows.total, room, keys.directory, keys.callers, keys.room) refl;
            callers = ap callers_of does.pass.books;
            before_commit = committing ∙ early;
          };
          version = does.version;
          marked = mark.0;
          trail = (does.steps.0, does.steps.1);
        },
        mark.1,
        record { store = store; cells = does.pass.grows; keys = keys },
      )

  pub called_in_child : (s : Shape) (o : Object) (n : ℕ) (a b : TxView M) (dones : List NamedDone) (stop : Option Stop) → IsCalled s o n a b dones stop → a.attempt.committing ≡ false → HasMark a
      → StaysInChild (view_of a) (view_of b) × HasMark b × GrowsOn a b
  called_in_child s o n a b dones stop called early has = stays_in_child _ n a b dones called.same.store (keys_same a.keys b.keys called.same.keys) called.holds.does called.notes called.same.committing called.same.child early has

  -- a call that was stopped in an open child
  pub stopped_in_child : (s : Shape) (o : Object) (n : ℕ) (a b : TxView M) (dones : List NamedDone) (stop : Stop) → IsCalled s o n a b dones (Some stop) → a.attempt.state ≡ Child
      → IsBodyStop (view_of a) (view_of b) stop
  stopped_in_child s o n a b dones stop called child =
      let ends = called.holds.ends in
      record { child = inr (rw child at ends.state); cause = ends.cause }

  -- the same of calls on a map
  pub called_with_key_in_child : {A : Type 0} (passes : ℕ → ℕ → Type 0) (s : Shape) (m key n : ℕ) (a b : TxView M) (told : A → Told) (result : Result A MapStop)
      → IsCalledWithKey passes s m key n a b told result → a.attempt.committing ≡ false → HasMark a → StaysInChild (view_of a) (view_of b) × HasMark b × GrowsOn a b
  called_with_key_in_child passes s m key n a b told result called early has =
      stays_in_child _ n a b _ called.same.store (keys_claimed (map_part s m) passes key a.keys b.keys result called.keys) called.looks.does called.notes called.same.committing called.same.child early has

  pub stopped_with_key_in_child : {A : Type 0} (passes : ℕ → ℕ → Type 0) (s : Shape) (m key n : ℕ) (a b : TxView M) (told : A → Told) (stop : Stop)
      → IsCalledWithKey passes s m key n a b told (Err (maps.Stop stop)) → a.attempt.state ≡ Child → IsBodyStop (view_of a) (view_of b) stop
  stopped_with_key_in_child passes s m key n a b told stop called child =
      let ends = called.looks.ends in
      record { child = inr (rw child at ends.state); cause = ends.cause }

  -- ---- what an attempt on the cells says of the one on the store, which has the same pass of the directory

  module _ (a b : TxView M) (store : b.store ≡ a.store) (same_keys : b.keys ≡ a.keys) where
    pub same_on : IsSame (cells.view_of a.attempt) (cells.view_of b.attempt) → IsSame (view_of a) (view_of b)
    same_on same =
        let f : cells.Fixed NamedDone → keys.PassView → Fixed = λ x k. record { cells = x; directory = k.directory; key_callers = k.callers; key_room = k.room } in
        record {
          over = store;
          fixed = ap (λ (x : cells.Fixed NamedDone). f x b.keys) same.fixed ∙ ap (λ (k : keys.PassView). f (cells.fixed_of a.attempt) k) same_keys;
          callers = same.callers;
          before_commit = same.before_commit;
        }

    pub has_on : HasSame (cells.view_of a.attempt) (cells.view_of b.attempt) → HasSame (view_of a) (view_of b)
    has_on has = record { version = has.version; calls = has.calls; pending = has.pending; content = ap content_in has.content; trail = has.trail }

    pub opened_on : IsOpened (cells.view_of a.attempt) (cells.view_of b.attempt) × cells.HasMark b.attempt → IsOpened (view_of a) (view_of b) × HasMark b
    opened_on (opened, mark) = (record { state = opened.state; marked = ap content_in opened.marked; has = has_on opened.has }, (mark.0, mark.1, mark.2, mark.4))

    pub dropped_on : IsDropped (cells.view_of a.attempt) (cells.view_of b.attempt) → IsDropped (view_of a) (view_of b)
    dropped_on dropped = record { content = ap content_in dropped.content; version = dropped.version; trail = dropped.trail }

    pub raised_on : IsRaised (cells.view_of a.attempt) (cells.view_of b.attempt) → IsRaised (view_of a) (view_of b)
    raised_on raised = record { state = raised.state; clocked = raised.clocked }

    pub refused_on : (stop : Stop) → IsRefused (cells.view_of a.attempt) (cells.view_of b.attempt) stop → IsRefused (view_of a) (view_of b) stop
    refused_on stop refused = record { state = refused.state; version = refused.version; cause = refused.cause }

    pub grows_on : Grows a.attempt.pass.view b.attempt.pass.view → GrowsOn a b
    grows_on grows = record { store = store; cells = grows; keys = keys_same a.keys b.keys same_keys }
