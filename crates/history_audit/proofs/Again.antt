-- Whether the state before some changes is the one after them.
use Rattle.std.proofs.Common.{◌≡◌, ◌↔◌, ℕ, ◌-◌, ◌⊎◌, inl, inr, Bool, true, false, IsTrue, IsFalse, List, [], ◌∷◌, ◌++◌, length, take, drop, map, refl, sym, ap, ◌∙◌, subst, Option, arith}
use Rattle.std.proofs.Common.{append_assoc, append-nil, length-append}
use Rattle.std.proofs.lemmas.List.{take-append-drop}
use mathlib.Core.Logic.{dite}
use mathlib.Core.Path.{fun_ext}
use native.Mathlib.Decide.{ℕ_discrete}
use Rattle.serial_terms.specs.declared.call.Done.{Done}
use Rattle.serial_terms.specs.Counts.{with_at}
use Rattle.serial_terms.specs.Entries.{Entry, Each}
use Rattle.serial_terms.specs.Facts.{with_at_same, with_at_other}
use Rattle.serial_terms.specs.Histories.{Runs, IsLegalRun}
use Rattle.serial_terms.specs.Serial.{State, IsWithinCapacity}
use Rattle.serial_terms.specs.Sights.{Seen, EndsAs}
use Rattle.history_audit.specs.declared.structures.Structures.{Structures}
use Rattle.history_audit.specs.declared.structures.Change.{Change}
use Rattle.history_audit.specs.declared.structures.Change.TheVariants.{Same, Key, Enqueued, Dequeued, Item, Appended, Cell}
use Rattle.history_audit.specs.Structures.{state_of, alone, no_sequence, no_pool, undone, now_at, Has, IsAs, IsSameAgain, HasCommitted}

abbrev HaveNow : State → State → List Change → Type 0
HaveNow s u cs = Each (Has s) (map (now_at u) cs)

maps_agree : (cs : List Change) (s u : State) (m k : ℕ) → HaveNow s u cs → ((undone cs u).maps m k ≡ u.maps m k) ⊎ (s.maps m k ≡ u.maps m k)
maps_agree [] s u m k h = inl refl
maps_agree (Same ∷ cs) s u m k h = maps_agree cs s u m k h.1
maps_agree (Key a b v ∷ cs) s u m k h = by_key (maps_agree cs s u m k h.1)
  where
    t : State
    t = undone cs u

    by_key : ((undone cs u).maps m k ≡ u.maps m k) ⊎ (s.maps m k ≡ u.maps m k) → ((undone (Key a b v ∷ cs) u).maps m k ≡ u.maps m k) ⊎ (s.maps m k ≡ u.maps m k)
    by_key (inr e) = inr e
    by_key (inl e) = dite (ℕ_discrete m a)
        (λ p. dite (ℕ_discrete k b)
        (λ q. inr (λ i. ((λ j. s.maps (p j) (q j)) ∙ (h.0 ∙ (λ j. u.maps (sym p j) (sym q j)))) i))
        (λ q. inl (ap (λ (f : ℕ → Option ℕ). f k) (with_at_same (undone cs u).maps a (with_at ((undone cs u).maps a) b v) m p) ∙ (with_at_other ((undone cs u).maps a) b v k q ∙ (ap (λ (n : ℕ). (undone cs u).maps n k) (sym p) ∙ e)))))
        (λ p. inl (ap (λ (f : ℕ → Option ℕ). f k) (with_at_other (undone cs u).maps a (with_at ((undone cs u).maps a) b v) m p) ∙ e))
maps_agree (Enqueued ∷ cs) s u m k h = maps_agree cs s u m k h.1
maps_agree (Dequeued x ∷ cs) s u m k h = maps_agree cs s u m k h.1
maps_agree (Item x c n ∷ cs) s u m k h = maps_agree cs s u m k h.1
maps_agree (Appended ∷ cs) s u m k h = maps_agree cs s u m k h.1
maps_agree (Cell v ∷ cs) s u m k h = maps_agree cs s u m k h.1

counts_agree : (cs : List Change) (s u : State) (y : ℕ) → HaveNow s u cs → (((undone cs u).pools 0).count y ≡ (u.pools 0).count y) ⊎ ((s.pools 0).count y ≡ (u.pools 0).count y)
counts_agree [] s u y h = inl refl
counts_agree (Same ∷ cs) s u y h = counts_agree cs s u y h.1
counts_agree (Key a b v ∷ cs) s u y h = counts_agree cs s u y h.1
counts_agree (Enqueued ∷ cs) s u y h = counts_agree cs s u y h.1
counts_agree (Dequeued x ∷ cs) s u y h = counts_agree cs s u y h.1
counts_agree (Item x c n ∷ cs) s u y h = by_item (counts_agree cs s u y h.1)
  where
    by_item : (((undone cs u).pools 0).count y ≡ (u.pools 0).count y) ⊎ ((s.pools 0).count y ≡ (u.pools 0).count y)
        → (((undone (Item x c n ∷ cs) u).pools 0).count y ≡ (u.pools 0).count y) ⊎ ((s.pools 0).count y ≡ (u.pools 0).count y)
    by_item (inr e) = inr e
    by_item (inl e) = dite (ℕ_discrete y x)
        (λ p. inr (ap (s.pools 0).count p ∙ (h.0 ∙ ap (u.pools 0).count (sym p))))
        (λ p. inl (with_at_other ((undone cs u).pools 0).count x c y p ∙ e))
counts_agree (Appended ∷ cs) s u y h = counts_agree cs s u y h.1
counts_agree (Cell v ∷ cs) s u y h = counts_agree cs s u y h.1

pub record KeepsRooms (s u : State) : Type 0 where
  pub queue : (s.queues 0).capacity ≡ (u.queues 0).capacity
  pub log : (s.logs 0).capacity ≡ (u.logs 0).capacity

rooms : (cs : List Change) (u : State) → KeepsRooms (undone cs u) u
rooms [] u = record { queue = refl; log = refl }
rooms (Same ∷ cs) u = rooms cs u
rooms (Key a b v ∷ cs) u = let r = rooms cs u in record { queue = r.queue; log = r.log }
rooms (Enqueued ∷ cs) u = let r = rooms cs u in record { queue = r.queue; log = r.log }
rooms (Dequeued x ∷ cs) u = let r = rooms cs u in record { queue = r.queue; log = r.log }
rooms (Item x c n ∷ cs) u = let r = rooms cs u in record { queue = r.queue; log = r.log }
rooms (Appended ∷ cs) u = let r = rooms cs u in record { queue = r.queue; log = r.log }
rooms (Cell v ∷ cs) u = let r = rooms cs u in record { queue = r.queue; log = r.log }

record IsBegun (xs ys : List ℕ) : Type 0 where
  others : List ℕ
  all : ys ≡ xs ++ others

less_begun : (xs ys : List ℕ) (n : ℕ) → IsBegun xs ys → IsBegun (take n xs) ys
less_begun xs ys n b = record { others = drop n xs ++ b.others; all = b.all ∙ (ap (λ (z : List ℕ). z ++ b.others) (sym (take-append-drop n xs)) ∙ append_assoc (take n xs) (drop n xs) b.others) }

log_begins : (cs : List Change) (u : State) → IsBegun ((undone cs u).logs 0).items (u.logs 0).items
log_begins [] u = record { others = []; all = sym (append-nil (u.logs 0).items) }
log_begins (Same ∷ cs) u = log_begins cs u
log_begins (Key a b v ∷ cs) u = log_begins cs u
log_begins (Enqueued ∷ cs) u = log_begins cs u
log_begins (Dequeued x ∷ cs) u = log_begins cs u
log_begins (Item x c n ∷ cs) u = log_begins cs u
log_begins (Appended ∷ cs) u = less_begun ((undone cs u).logs 0).items (u.logs 0).items (length ((undone cs u).logs 0).items - 1) (log_begins cs u)
log_begins (Cell v ∷ cs) u = log_begins cs u

whole_begun : (xs ys : List ℕ) → IsBegun xs ys → length xs ≡ length ys → xs ≡ ys
whole_begun xs ys b e = by_others b.others b.all
  where
    by_others : (os : List ℕ) → ys ≡ xs ++ os → xs ≡ ys
    by_others [] a = sym (a ∙ append-nil xs)
    by_others (o ∷ os) a = let size = ap length a ∙ length-append xs (o ∷ os) in absurd (omega (arith, e, size))

pub same_again : (a b : Structures) (cs : List Change) → state_of a ≡ undone cs (state_of b) → HaveNow (state_of a) (state_of b) cs
    → ((state_of a).queues 0).items ≡ ((state_of b).queues 0).items → length ((state_of a).logs 0).items ≡ length ((state_of b).logs 0).items
    → ((state_of a).pools 0).held ≡ ((state_of b).pools 0).held → (state_of a).cells 0 ≡ (state_of b).cells 0 → state_of a ≡ state_of b
unfolding state_of
same_again a b cs e h q l p c = λ i. record {
  maps = fun_ext {A = ℕ} (λ m. fun_ext {A = ℕ} (λ k. by_two ((state_of a).maps m k) ((state_of b).maps m k) ((undone cs (state_of b)).maps m k) (ap (λ (s : State). s.maps m k) e) (maps_agree cs (state_of a) (state_of b) m k h))) i;
  queues = alone no_sequence (record { items = q i; capacity = room i });
  pools = alone no_pool (record { count = fun_ext {A = ℕ} (λ y. by_two (((state_of a).pools 0).count y) (((state_of b).pools 0).count y) (((undone cs (state_of b)).pools 0).count y) (ap (λ (s : State). (s.pools 0).count y) e) (counts_agree cs (state_of a) (state_of b) y h)) i; held = p i; slots = room i });
  logs = alone no_sequence (record { items = whole_begun a.log.items b.log.items (subst (λ (s : State). IsBegun (s.logs 0).items b.log.items) (sym e) (log_begins cs (state_of b))) l i; capacity = (ap (λ (s : State). (s.logs 0).capacity) e ∙ (rooms cs (state_of b)).log) i });
  cells = alone 0 (c i);
}
  where
    by_two : {X : Type 0} (x y z : X) → x ≡ z → (z ≡ y) ⊎ (x ≡ y) → x ≡ y
    by_two x y z f (inl g) = f ∙ g
    by_two x y z f (inr g) = g

    room : a.room ≡ b.room
    room = ap (λ (s : State). (s.queues 0).capacity) e ∙ (rooms cs (state_of b)).queue

-- a state has what it has
pub has_own : (u : State) (cs : List Change) → HaveNow u u cs
has_own u [] = tt
has_own u (Same ∷ cs) = (tt, has_own u cs)
has_own u (Key m k v ∷ cs) = (refl, has_own u cs)
has_own u (Enqueued ∷ cs) = (tt, has_own u cs)
has_own u (Dequeued x ∷ cs) = (tt, has_own u cs)
has_own u (Item x c n ∷ cs) = (refl, has_own u cs)
has_own u (Appended ∷ cs) = (tt, has_own u cs)
has_own u (Cell v ∷ cs) = (tt, has_own u cs)

pub test_again : (a b : Structures) (cs noted : List Change) (queue : List ℕ) (log held cell : ℕ) (t : Bool) → state_of a ≡ undone cs (state_of b) → noted ≡ map (now_at (state_of b)) cs
    → queue ≡ ((state_of b).queues 0).items → log ≡ length ((state_of b).logs 0).items → held ≡ ((state_of b).pools 0).held → cell ≡ (state_of b).cells 0
    → IsTrue t ↔ IsAs (state_of a) noted queue log held cell → IsSameAgain t (undone cs (state_of b)) (state_of b) (state_of a)
test_again a b cs noted queue log held cell true e n q l p c h = let f = h.0 refl in
    let same : state_of a ≡ state_of b = same_again a b cs e (subst (Each (Has (state_of a))) n f.0) (f.1 ∙ q) (f.2 ∙ l) (f.3 ∙ p) (f.4 ∙ c) in
    (sym e ∙ same, same)
test_again a b cs noted queue log held cell false e n q l p c h = λ s.
    let same : state_of a ≡ state_of b = e ∙ s in
    let bad : false ≡ true = h.1 (
      subst (Each (Has (state_of a))) (sym n) (subst (λ (z : State). HaveNow z (state_of b) cs) (sym same) (has_own (state_of b) cs)),
      ap (λ (z : State). (z.queues 0).items) same ∙ sym q,
      ap (λ (z : State). length (z.logs 0).items) same ∙ sym l,
      ap (λ (z : State). (z.pools 0).held) same ∙ sym p,
      ap (λ (z : State). z.cells 0) same ∙ sym c,
    ) in
    absurd (cc bad)

-- ---- a record, and a sight

pub reader : (one : (ds : List Done) (s t u : State) → Runs s ds t → Runs s ds u → t ≡ u) (s v t : State) (e : Entry Done) (b : Bool) → Runs s e.dones v → IsWithinCapacity v → IsFalse e.writer → IsSameAgain b s v t → HasCommitted b s e t
reader one s v t e true r w f h = (v, r, w, (λ x. sym h.0), sym h.1)
reader one s v t e false r w f h = λ u l. h (sym (l.3 f) ∙ one e.dones s l.0 v l.1 r)

pub committed : (s v t : State) (e : Entry Done) → Runs s e.dones v → IsWithinCapacity v → (IsFalse e.writer → v ≡ s) → v ≡ t → IsLegalRun s (e ∷ []) t
committed s v t e r w f a = (v, r, w, f, a)

module _ (one : (ds : List Done) (s t u : State) → Runs s ds t → Runs s ds u → t ≡ u) where
  pub not_within : (s v : State) (e : Entry Done) → Runs s e.dones v → (IsWithinCapacity v → ⊥) → (u : State) → IsLegalRun s (e ∷ []) u → ⊥
  not_within s v e r w u l = w (subst IsWithinCapacity (one e.dones s l.0 v l.1 r) l.2)

  pub not_same : (s v : State) (e : Entry Done) → Runs s e.dones v → IsFalse e.writer → (s ≡ v → ⊥) → (u : State) → IsLegalRun s (e ∷ []) u → ⊥
  not_same s v e r f d u l = d (sym (l.3 f) ∙ one e.dones s l.0 v l.1 r)

  pub not_ended : (s w : State) (v : Seen Done) → Runs s v.dones w → (EndsAs 1 w v.end → ⊥) → (u : State) → Runs s v.dones u → EndsAs 1 u v.end → ⊥
  not_ended s w v r d u q h = d (subst (λ (z : State). EndsAs 1 z v.end) (one v.dones s u w q r) h)
