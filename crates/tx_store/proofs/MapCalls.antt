-- Maps of a store, whose parts are told by a plan.
use Rattle.std.proofs.Common.{◌≡◌, ℕ, ◌+◌, ◌<◌, List, [], ◌∷◌, ◌++◌, get_or, refl, ap, sym, ◌∙◌, subst, arith}
use Rattle.std.specs.Prelude.{Result, Ok, Err, Some, None}
use Rattle.std.proofs.lemmas.List.{append-nil}
use Rattle.attempt_lists.specs.Parts.{marked_of}
use Rattle.key_directory.specs.Directory.{PassView}
use Rattle.key_directory.specs.Words.{capacity_of}
use Rattle.serial_terms.specs.Renaming.{NamedDone, MayName}
use Rattle.store_layout.specs.Shapes.{Shape, the_map, first_of, IsCellOf}
use Rattle.store_meaning.specs.declared.meaning.StoreMeaning.{StoreMeaning}
use Rattle.store_parts.specs.Parts.{map_part, noted}
use Rattle.tx_core.specs.Calls.{LooksAt, stopped_from}
use Rattle.tx_core.specs.declared.stop.Stop.{Stop as AttemptStop}
use Rattle.tx_core.specs.declared.stop.Stop.TheVariants.{Memory}
use Rattle.tx_core.specs.Facts.{looks_none, looks_wider}
use Rattle.tx_core.specs.Tx.{Attempt}
use Rattle.tx_map.specs.Calls.{ClaimsKey, position_of, stop_in}
use Rattle.tx_map.specs.Facts.{claims_go_on, claims_full}
use Rattle.tx_map.specs.declared.part.MapPart.{MapPart}
use Rattle.tx_map.specs.declared.part.MapStop.{MapStop}
use Rattle.tx_map.specs.declared.part.MapStop.TheVariants.{Stop, KeysFull}
use Rattle.tx_store.specs.Calls.{in_child, Makes}
use Rattle.tx_store.specs.MapCalls.{Told, SameAttempt, IsCalledWithKey, IfStopMemory}
use Rattle.tx_store.specs.Stores.{TxView}

module _ (s : Shape) (m : ℕ) (part : MapPart) (is : part ≡ map_part s m) (position : ℕ) where
  at_base : part.base ≡ first_of s (the_map m)
  at_base = ap (λ (p : MapPart). p.base) is

  -- the key's cell is one of the map's
  pub key_inside : position < get_or s.maps m 0 → (c : ℕ) → c ≡ part.base + position → IsCellOf s (the_map m) c
  key_inside low c own = (omega (arith, own, at_base), omega (arith, own, at_base, low))

  pub some : position < get_or s.maps m 0 → 0 < part.capacity
  some low = omega (arith, low, ap (λ (p : MapPart). p.capacity) is)

  module _ {M D : Type 0} (n : ℕ) (old made : Attempt M D) where
    at_key : (stop : _) → LooksAt (λ c. c ≡ part.base + position) n old made stop → LooksAt (λ c. c ≡ first_of s (the_map m) + position) n old made stop
    at_key stop looks = looks_wider (λ c. c ≡ part.base + position) (λ c. c ≡ first_of s (the_map m) + position) n n old made stop (λ c own. omega (arith, own, at_base)) (omega arith) looks

    -- a call that looked at the key's cell, and was noted
    pub looked_noted : (new : Attempt M D) (ds : List D) → LooksAt (λ c. c ≡ part.base + position) n old made None → new ≡ record made { notes = ds } → LooksAt (λ c. c ≡ first_of s (the_map m) + position) n old new None
    looked_noted new ds looks noted_so = subst (λ (a : Attempt M D). LooksAt (λ c. c ≡ first_of s (the_map m) + position) n old a None) (sym noted_so) (let l = at_key None looks in record {
      ends = l.ends;
      does = record { version = l.does.version; touches = record { observed = l.does.touches.observed; written = l.does.touches.written; held = l.does.touches.held; kept = l.does.touches.kept; others = l.does.touches.others }; pass = l.does.pass; steps = l.does.steps };
      known = l.known;
      began = l.began;
      held = l.held;
    })

    -- or whose note was refused
    pub looked_refused : (new : Attempt M D) → LooksAt (λ c. c ≡ part.base + position) n old made None → new ≡ record made { state = stopped_from made.state } → LooksAt (λ c. c ≡ first_of s (the_map m) + position) n old new (Some Memory)
    looked_refused new looks stopped = subst (λ (a : Attempt M D). LooksAt (λ c. c ≡ first_of s (the_map m) + position) n old a (Some Memory)) (sym stopped) (let l = at_key None looks in record {
      ends = record { state = ap stopped_from l.ends; of = tt; cause = tt; sole = λ sole. refl };
      does = record { version = l.does.version; touches = record { observed = l.does.touches.observed; written = l.does.touches.written; held = l.does.touches.held; kept = l.does.touches.kept; others = l.does.touches.others }; pass = l.does.pass; steps = l.does.steps };
      known = l.known;
      began = l.began;
      held = l.held;
    })

    pub looked_stopped : (stop : AttemptStop) → LooksAt (λ c. c ≡ part.base + position) n old made (Some stop) → LooksAt (λ c. c ≡ first_of s (the_map m) + position) n old made (Some stop)
    looked_stopped stop looks = at_key (Some stop) looks

module _ {M A : Type 0} (passes : ℕ → ℕ → Type 0) (s : Shape) (m key n : ℕ) (part : MapPart) (is : part ≡ map_part s m) (old new : TxView M) (told : A → Told) (store : new.store ≡ old.store) where
  same : {dones : List NamedDone} {stop : _} → Makes passes s (the_map m) n old.attempt new.attempt dones stop → SameAttempt old new
  same made = record { store = store; committing = made.keeps.committing; child = made.keeps.child }

  module _ (position : ℕ) (claims : ClaimsKey part {A = ℕ} passes key old.keys new.keys (Ok position)) (named : position ≡ position_of part new.keys key) where
    placed : position ≡ position_of (map_part s m) new.keys key
    placed = named ∙ ap (λ (p : MapPart). position_of p new.keys key) is

    own : ClaimsKey (map_part s m) {A = ℕ} passes key old.keys new.keys (Ok position)
    own = subst (λ (p : MapPart). ClaimsKey p {A = ℕ} passes key old.keys new.keys (Ok position)) is claims

    at_cell : (stop : _) → LooksAt (λ c. c ≡ first_of s (the_map m) + position) n old.attempt new.attempt stop
        → LooksAt (λ c. c ≡ first_of s (the_map m) + position_of (map_part s m) new.keys key) n old.attempt new.attempt stop
    at_cell stop looks = subst (λ (p : ℕ). LooksAt (λ c. c ≡ first_of s (the_map m) + p) n old.attempt new.attempt stop) placed looks

    pub key_called : (answer : A) → Makes passes s (the_map m) n old.attempt new.attempt (noted (told answer).call (told answer).reply (in_child old.attempt.state) position ∷ []) None
        → LooksAt (λ c. c ≡ first_of s (the_map m) + position) n old.attempt new.attempt None → IsCalledWithKey passes s m key n old new told (Ok answer)
    key_called answer made looks = record {
      notes = made.notes ∙ ap (λ (p : ℕ). old.attempt.notes ++ noted (told answer).call (told answer).reply (in_child old.attempt.state) p ∷ []) placed;
      looks = at_cell None looks;
      keys = claims_go_on (map_part s m) passes key old.keys new.keys position (Ok answer) tt own;
      full = tt;
      same = same made;
    }

    pub key_stopped : (stop : AttemptStop) → Makes passes s (the_map m) n old.attempt new.attempt [] (Some stop)
        → LooksAt (λ c. c ≡ first_of s (the_map m) + position) n old.attempt new.attempt (Some stop) → IsCalledWithKey passes s m key n old new told (Err (Stop stop))
    key_stopped stop made looks = record {
      notes = made.notes;
      looks = at_cell (Some stop) looks;
      keys = claims_go_on (map_part s m) passes key old.keys new.keys position (Err (Stop stop)) tt own;
      full = tt;
      same = same made;
    }

  -- the number of its keys is that of its positions in the directory
  number : (capacity : ℕ) → ClaimsKey part {A = ℕ} passes key old.keys new.keys (Err (KeysFull capacity)) → old.keys.directory.capacities ≡ s.maps → capacity ≡ capacity_of new.keys.directory.capacities m
  number capacity claims regions = claims.refused.0 ∙ ap (λ (p : MapPart). p.capacity) is ∙ ap (λ (cs : List ℕ). capacity_of cs m) (sym (ap (λ (k : PassView). k.directory.capacities) claims.pass ∙ regions))

  pub key_full : (capacity : ℕ) → ClaimsKey part {A = ℕ} passes key old.keys new.keys (Err (KeysFull capacity)) → old.keys.directory.capacities ≡ s.maps → new.attempt ≡ old.attempt
      → IsCalledWithKey passes s m key n old new told (Err (KeysFull capacity))
  key_full capacity claims regions unchanged = record {
    notes = ap (λ (a : Attempt M NamedDone). a.notes) unchanged ∙ sym (append-nil old.attempt.notes);
    looks = subst (λ (a : Attempt M NamedDone). LooksAt (λ c. c ≡ first_of s (the_map m) + position_of (map_part s m) new.keys key) n old.attempt a None) (sym unchanged)
        (looks_wider (λ c. ⊥) (λ c. c ≡ first_of s (the_map m) + position_of (map_part s m) new.keys key) 0 n old.attempt old.attempt None (λ c none. absurd none) (omega arith) (looks_none (λ c. ⊥) old.attempt));
    keys = claims_full (map_part s m) passes key capacity old.keys new.keys (subst (λ (p : MapPart). ClaimsKey p {A = ℕ} passes key old.keys new.keys (Err (KeysFull capacity))) is claims);
    full = (number capacity claims regions, unchanged);
    same = record {
      store = store;
      committing = ap (λ (a : Attempt M NamedDone). a.committing) unchanged;
      child = record { mark = ap (λ (a : Attempt M NamedDone). a.mark) unchanged; marked = λ p. ap (λ (a : Attempt M NamedDone). marked_of a.additions p) unchanged };
    };
  }

  -- KeysFull is all that a claim is refused by
  pub key_refused : (full : MapStop) → stop_in {A = ℕ} (Err full) ≡ None → ClaimsKey part {A = ℕ} passes key old.keys new.keys (Err full) → old.keys.directory.capacities ≡ s.maps → new.attempt ≡ old.attempt
      → IsCalledWithKey passes s m key n old new told (Err full)
  key_refused (Stop stop) never claims regions unchanged = absurd (cc)
  key_refused (KeysFull capacity) never claims regions unchanged = key_full capacity claims regions unchanged

-- the position is one that may stand for the key
pub may_name : (passes : ℕ → ℕ → Type 0) (key : ℕ) (part : MapPart) (old new : PassView) (position : ℕ) → ClaimsKey part {A = ℕ} passes key old new (Ok position) → position ≡ position_of part new key → MayName passes position key
may_name passes key part old new position claims named all = named ∙ (claims.own_number (λ j may. all part.capacity j may)).1

pub refused_blind : (A : Type 0) (full : MapStop) → stop_in {A = ℕ} (Err full) ≡ None → IfStopMemory {A = A} (Err full)
refused_blind A (Stop stop) never = absurd (cc)
refused_blind A (KeysFull capacity) never = tt

-- what is known of the fields of an attempt is known of it as contracts see it
pub as_seen : {P K A : Type 0} (passes : ℕ → ℕ → Type 0) (m key n : ℕ) (was old new : TxView (StoreMeaning P K)) (told : A → Told) (result : Result A MapStop) (s : Shape) → was ≡ old → s ≡ was.store.table.meaning.plan
    → IsCalledWithKey passes s m key n was new told result → IsCalledWithKey passes old.store.table.meaning.plan m key n old new told result
as_seen {P} {K} passes m key n was old new told result s seen plan called = subst (λ (t : TxView (StoreMeaning P K)). IsCalledWithKey passes t.store.table.meaning.plan m key n t new told result) seen
    (subst (λ (z : Shape). IsCalledWithKey passes z m key n was new told result) plan called)
