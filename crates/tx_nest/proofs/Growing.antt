use Rattle.std.proofs.Common.{◌≡◌, ℕ, zero, suc, ◌<◌, ◌≤◌, List, [], length, refl, sym, subst, arith}
use Rattle.std.proofs.lemmas.List.{append-nil}
use Rattle.cell_table.specs.declared.view.Event.{Event}
use Rattle.tx_core.specs.declared.stop.Stop.{Stop}
use Rattle.tx_core.specs.declared.stop.Stop.TheVariants.{Held, Newer, Memory}
use Rattle.tx_core.specs.Causes.{CausedSince, IsFound}
use Rattle.tx_core.specs.Facts.{caused_earlier, caused_longer}
use Rattle.std.specs.Prelude.{false}
use Rattle.tx_nest.specs.AttemptLaws.{grew_trans, grew_length, same_then}
use Rattle.tx_nest.specs.Attempts.{AttemptView, IsSame, HasSame, IsDropped, StaysInChild, GoesOn}
use Rattle.tx_nest.specs.Ends.{Grew, ChildrenEnded, LastCaused, IsRefusedRaise}

pub grew_refl : (t : List Event) → Grew t t
grew_refl t = ([], sym (append-nil t))

pub found_of : (s : Stop) → (s ≡ Memory → ⊥) → IsFound s
found_of (Held cell owner) h = tt
found_of (Newer cell found) h = tt
found_of Memory h = h refl

-- a cause stays one where the trail has grown, and in a longer stretch of it
pub caused_more : (callers : List ℕ) (version n m : ℕ) (t u : List Event) (s : Stop) → m ≤ n → Grew t u → CausedSince callers version n t s → CausedSince callers version m u s
caused_more callers version n m t u s le a h =
    let P : List Event → Type 0 = λ x. CausedSince callers version m x s in
    subst P (sym a.1) (caused_longer callers version m t a.0 s (caused_earlier callers version m n t s le h))

-- after the children the version is no less, and the trail has grown
pub children_grew : (callers : List ℕ) (n version : ℕ) (t : List Event) (s : Stop) (next : ℕ) (u : List Event) → ChildrenEnded callers n version t s next u → (version ≤ next) × Grew t u
children_grew callers zero version t s next u h = (omega (arith, h.0), rw h.1 (grew_refl t))
children_grew callers (suc n) version t s next u (v, w, r, before, last) =
    let b = children_grew callers n version t r w v before in
    (omega (arith, b.0, last.higher), grew_trans t v u b.1 (grew_trans v last.ended u last.ran last.aborted))

-- the last of some children was stopped with a cause
pub last_caused : (callers : List ℕ) (n version : ℕ) (t : List Event) (s : Stop) (next : ℕ) (u : List Event) → 0 < n → ChildrenEnded callers n version t s next u → LastCaused callers version t s next u
last_caused callers zero version t s next u pos h = absurd (omega arith)
last_caused callers (suc n) version t s next u pos (v, w, r, before, last) =
    let b = children_grew callers n version t r w v before in
    (w, b.0, last.higher, caused_more callers w (length v) (length t) last.ended u s (grew_length t v b.1) last.aborted last.caused)

-- a refusal after the first n steps is one after fewer
pub refused_earlier : (callers : List ℕ) (version n m : ℕ) (u : List Event) (s : Stop) → m ≤ n → IsRefusedRaise callers version n u s → IsRefusedRaise callers version m u s
refused_earlier callers version n m u s le h =
    let w = h.1.1 in
    (h.0, (h.1.0, (w.0, omega (arith, le, w.1), w.2)), caused_more callers version n m u u s le (grew_refl u) h.2)

module _ {O F C K : Type 0} (a b : AttemptView O F C K) where
  pub goes_then : (c : AttemptView O F C K) → GoesOn a b → GoesOn b c → GoesOn a c
  goes_then c p q = record { same = same_then a b c p.same q.same; version = omega (arith, p.version, q.version); trail = grew_trans a.trail b.trail c.trail p.trail q.trail }

  -- so it is where a child is opened or merged, where a body runs in it, and where it is dropped
  pub same_goes : IsSame a b → HasSame a b → GoesOn a b
  same_goes same has = record { same = same; version = omega (arith, has.version); trail = rw has.trail (grew_refl a.trail) }

  pub body_goes : StaysInChild a b → GoesOn a b
  body_goes stays = record { same = stays.same; version = omega (arith, stays.version); trail = stays.trail }

  pub dropped_goes : IsSame a b → IsDropped a b → GoesOn a b
  dropped_goes same dropped = record { same = same; version = dropped.version; trail = dropped.trail }

pub goes_all : {O F C K : Type 0} (a : AttemptView O F C K) → a.committing ≡ false → GoesOn a a
goes_all a early = record { same = record { over = refl; fixed = refl; callers = refl; before_commit = early }; version = omega arith; trail = grew_refl a.trail }
