use Rattle.std.proofs.Common.{ℕ, List, [], ◌∷◌, ◌++◌, append_assoc, refl, sym, ap, ◌∙◌}
use Rattle.std.proofs.lemmas.List.{append-nil}
use Rattle.std.specs.Prelude.{Result, Ok, Err, true}
use Rattle.serial_terms.specs.declared.call.Done.{Done}
use Rattle.serial_terms.specs.Renaming.{NamedDone, by_key}
use Rattle.store_layout.specs.Shapes.{Shape}
use Rattle.store_parts.specs.Parts.{map_part, noted}
use Rattle.tx_core.specs.declared.stop.Stop.{Stop}
use Rattle.tx_map.specs.Calls.{IsFull, position_of}
use Rattle.tx_map.specs.declared.part.MapStop.{MapStop}
use Rattle.tx_map.specs.declared.part.MapStop.TheVariants as maps
use Rattle.tx_nest.specs.Attempts.{IsInChild}
use Rattle.tx_nest.specs.AttemptLaws.{stays_then, stopped_then}
use Rattle.tx_store.specs.BodyFacts.{by_key_append, done_of}
use Rattle.tx_store.specs.Calls.{in_child}
use Rattle.tx_store.specs.ChildLaws.{grows_all, grows_then, sole_of, called_with_key_in_child, stopped_with_key_in_child}
use Rattle.tx_store.specs.Children.{view_of, HasMark}
use Rattle.tx_store.specs.MapCalls.{Told, IsCalledWithKey}
use Rattle.tx_store.specs.Stores.{TxView}
use Rattle.run_bodies.specs.InChild.{GoesOnInChild, DoesInChild, StopsInChild, ActsInChild, unless_full}

module _ {M : Type 0} where
  -- the child of an attempt that a call left is open
  pub still_in_child : (a b : TxView M) (calls : List Done) → DoesInChild a b calls → IsInChild (view_of b)
  still_in_child a b calls does = record { child = does.state; before_commit = does.goes.stays.same.before_commit }

  goes_then : (a b d : TxView M) → GoesOnInChild a b → GoesOnInChild b d → GoesOnInChild a d
  goes_then a b d x y = record {
    stays = stays_then (view_of a) (view_of b) (view_of d) x.stays y.stays;
    mark = y.mark;
    grows = grows_then a b d x.grows y.grows;
  }

  pub does_nothing : (a : TxView M) → IsInChild (view_of a) → HasMark a → DoesInChild a a []
  does_nothing a child mark = record {
    goes = record {
      stays = record {
        same = record { over = refl; fixed = refl; callers = refl; before_commit = child.before_commit };
        version = refl;
        marked = refl;
        trail = ([], sym (append-nil _));
      };
      mark = mark;
      grows = grows_all a;
    };
    state = child.child;
    added = [];
    notes = sym (append-nil a.attempt.notes);
    keyed = refl;
  }

  pub does_then : (a b d : TxView M) (xs ys : List Done) → DoesInChild a b xs → DoesInChild b d ys → DoesInChild a d (xs ++ ys)
  does_then a b d xs ys x y = record {
    goes = goes_then a b d x.goes y.goes;
    state = y.state;
    added = x.added ++ y.added;
    notes = y.notes ∙ (ap (λ (n : List NamedDone). n ++ y.added) x.notes ∙ append_assoc a.attempt.notes x.added y.added);
    keyed = by_key_append x.added y.added ∙ (ap (λ (l : List Done). l ++ by_key y.added) x.keyed ∙ ap (λ (l : List Done). xs ++ l) y.keyed);
  }

  pub stops_after : (a b d : TxView M) (calls : List Done) (stop : Stop) → DoesInChild a b calls → StopsInChild b d stop → StopsInChild a d stop
  stops_after a b d calls stop x y = record {
    goes = goes_then a b d x.goes y.goes;
    cause = stopped_then (view_of a) (view_of b) (view_of d) stop x.goes.stays y.cause;
    sole = λ alone. y.sole (sole_of b a x.goes.stays.same.fixed alone);
  }

  pub acts_then : {A : Type 0} (a b d : TxView M) (xs : List Done) (calls : A → List Done) (result : Result A Stop) → DoesInChild a b xs → ActsInChild b d calls result
      → ActsInChild a d (λ answer. xs ++ calls answer) result
  acts_then a b d xs calls (Ok answer) first next = does_then a b d xs (calls answer) first next
  acts_then a b d xs calls (Err stop) first next = stops_after a b d xs stop first next

  -- a call on a map that has a place for its key
  pub acts_keyed : {A : Type 0} (passes : ℕ → ℕ → Type 0) (s : Shape) (m key n : ℕ) (a b : TxView M) (told : A → Told) (result : Result A MapStop) → IsInChild (view_of a) → HasMark a
      → (IsFull result → ⊥) → IsCalledWithKey passes s m key n a b told result → ActsInChild a b (λ answer. done_of (told answer) true ∷ []) (unless_full result)
  acts_keyed passes s m key n a b told (Ok answer) child mark free is =
      let went = called_with_key_in_child passes s m key n a b told (Ok answer) is child.before_commit mark in
      record {
        goes = record { stays = went.0; mark = went.1; grows = went.2 };
        state = is.looks.ends ∙ child.child;
        added = noted (told answer).call (told answer).reply (in_child a.attempt.state) (position_of (map_part s m) b.keys key) ∷ [];
        notes = is.notes;
        keyed = rw child.child refl;
      }
  acts_keyed passes s m key n a b told (Err (maps.Stop stop)) child mark free is =
      let went = called_with_key_in_child passes s m key n a b told (Err (maps.Stop stop)) is child.before_commit mark in
      record {
        goes = record { stays = went.0; mark = went.1; grows = went.2 };
        cause = stopped_with_key_in_child passes s m key n a b told stop is child.child;
        sole = is.looks.ends.sole;
      }
  acts_keyed passes s m key n a b told (Err (maps.KeysFull capacity)) child mark free is = absurd (free tt)
