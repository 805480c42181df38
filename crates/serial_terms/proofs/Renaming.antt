-- Keys under other names, one to one.
use Rattle.std.proofs.Common.{◌≡◌, ◌≢◌, ℕ, true, false, List, [], ◌∷◌, sym, refl, ap, ◌∙◌, subst}
use Rattle.std.specs.Prelude.{Option, Some, None}
use mathlib.Core.Logic.{dite}
use mathlib.Core.Path.{fun_ext}
use native.Mathlib.Decide.{ℕ_discrete}
use Rattle.serial_terms.specs.declared.call.Call.{Call}
use Rattle.serial_terms.specs.declared.call.Call.TheVariants.{MapGet, MapPut, MapRemove, MapPutIfAbsent, Enqueue, Dequeue, QueueLen, Take, Give, Append, AppendPlaced, LogRead, LogLen, CellGet, CellPut}
use Rattle.serial_terms.specs.declared.call.Reply.{Reply}
use Rattle.serial_terms.specs.declared.call.Reply.TheVariants.{Nothing, Absent, Value, Flag}
use Rattle.serial_terms.specs.Counts.{with_at}
use Rattle.serial_terms.specs.Laws.{RenamingKeepsRuns, OwnNamesAreKeys}
use Rattle.serial_terms.specs.Names.{own_key, of_key_map}
use Rattle.serial_terms.specs.Renaming.{with_key, IsNameOfKey, IsOneToOne, value_at, by_keys, NamedDone, named, AreNamesOfKeys, by_key, by_name}
use Rattle.serial_terms.specs.Histories.{Runs}
use Rattle.serial_terms.specs.Serial.{State, Allows, after, found, put_map, by_value, after_take, after_give, step}
use Rattle.serial_terms.specs.Facts.{with_at_same, with_at_other}

module _ (name : ℕ → ℕ → Option ℕ) (one : IsOneToOne name) where
  abbrev K : State → State
  K = by_keys name

  -- the value of a key after the value of a name was changed
  value_of : (f : ℕ → Option ℕ) (n : ℕ) (v : Option ℕ) (m k j : ℕ) (o : Option ℕ) → name m k ≡ Some n → name m j ≡ o → with_at (λ i. value_at f (name m i)) k v j ≡ value_at (with_at f n v) o
  value_of f n v m k j None a b = dite (ℕ_discrete j k)
      (λ e. let c : None ≡ Some n = sym b ∙ (ap (name m) e ∙ a) in absurd (cc))
      (λ far. with_at_other (λ i. value_at f (name m i)) k v j far ∙ ap (value_at f) b)
  value_of f n v m k j (Some q) a b = dite (ℕ_discrete j k)
      (λ e. let c : Some q ≡ Some n = sym b ∙ (ap (name m) e ∙ a) in let d : q ≡ n = cc in with_at_same (λ i. value_at f (name m i)) k v j e ∙ sym (with_at_same f n v q d))
      (λ far. let apart : q ≢ n = λ e. far (one m j k n (b ∙ ap (λ (z : ℕ). Some z) e) a) in with_at_other (λ i. value_at f (name m i)) k v j far ∙ (ap (value_at f) b ∙ sym (with_at_other f n v q apart)))

  put_keyed : (s : State) (m k n : ℕ) (v : Option ℕ) → name m k ≡ Some n → put_map (K s) m k v ≡ K (put_map s m n v)
  put_keyed s m k n v a = let maps : with_at (λ j i. value_at (s.maps j) (name j i)) m (with_at (λ i. value_at (s.maps m) (name m i)) k v) ≡ (λ j i. value_at (with_at s.maps m (with_at (s.maps m) n v) j) (name j i)) = fun_ext (λ j. dite (ℕ_discrete j m)
      (λ e. with_at_same (λ j i. value_at (s.maps j) (name j i)) m _ j e ∙ fun_ext (λ i. value_of (s.maps m) n v m k i (name m i) a refl ∙ ((λ x. value_at (with_at (s.maps m) n v) (name (sym e x) i)) ∙ sym (ap (λ (f : ℕ → Option ℕ). value_at f (name j i)) (with_at_same s.maps m _ j e)))))
      (λ no. with_at_other (λ j i. value_at (s.maps j) (name j i)) m _ j no ∙ fun_ext (λ i. sym (ap (λ (f : ℕ → Option ℕ). value_at f (name j i)) (with_at_other s.maps m _ j no))))) in
      λ i. record s { maps = maps i }

  value_here : (s : State) (m k n : ℕ) → name m k ≡ Some n → value_at (s.maps m) (name m k) ≡ s.maps m n
  value_here s m k n a = ap (value_at (s.maps m)) a

  either_keyed : (r : Reply) (s t u : State) → K t ≡ u → by_value r (K s) u ≡ K (by_value r s t)
  either_keyed (Value x) s t u e = refl
  either_keyed Absent s t u e = sym e
  either_keyed Nothing s t u e = sym e
  either_keyed (Flag b) s t u e = sym e

  dequeue_keyed : (r : Reply) (s t : State) → by_value r (K t) (K s) ≡ K (by_value r t s)
  dequeue_keyed (Value x) s t = refl
  dequeue_keyed Absent s t = refl
  dequeue_keyed Nothing s t = refl
  dequeue_keyed (Flag b) s t = refl

  take_keyed : (r : Reply) (s : State) (p : ℕ) → after_take (K s) p r ≡ K (after_take s p r)
  take_keyed (Value x) s p = refl
  take_keyed Absent s p = refl
  take_keyed Nothing s p = refl
  take_keyed (Flag b) s p = refl

  give_keyed : (r : Reply) (s : State) (p v : ℕ) → after_give (K s) p v r ≡ K (after_give s p v r)
  give_keyed (Flag true) s p v = refl
  give_keyed (Flag false) s p v = refl
  give_keyed Nothing s p v = refl
  give_keyed Absent s p v = refl
  give_keyed (Value x) s p v = refl

  -- a call by key may be replied what the call by name may be replied
  pub allows_keyed : (c : Call) (r : Reply) (s : State) (n : ℕ) → IsNameOfKey name n c → Allows s (with_key n c) r → Allows (K s) c r
  allows_keyed (MapGet m k) r s n a h = h ∙ ap found (sym (value_here s m k n a))
  allows_keyed (MapPut m k v) r s n a h = h
  allows_keyed (MapRemove m k) r s n a h = h
  allows_keyed (MapPutIfAbsent m k v) r s n a h = h ∙ ap found (sym (value_here s m k n a))
  allows_keyed (Enqueue q v) r s n a h = h
  allows_keyed (Dequeue q) r s n a h = h
  allows_keyed (QueueLen q) r s n a h = h
  allows_keyed (Take q) r s n a h = h
  allows_keyed (Give q v) r s n a h = h
  allows_keyed (Append l v) r s n a h = h
  allows_keyed (AppendPlaced l v) r s n a h = h
  allows_keyed (LogRead l i) r s n a h = h
  allows_keyed (LogLen l) r s n a h = h
  allows_keyed (CellGet c) r s n a h = h
  allows_keyed (CellPut c v) r s n a h = h

  -- and leaves the state by keys of what that call leaves
  pub after_keyed : (c : Call) (r : Reply) (s : State) (n : ℕ) → IsNameOfKey name n c → after (K s) c r ≡ K (after s (with_key n c) r)
  after_keyed (MapGet m k) r s n a = refl
  after_keyed (MapPut m k v) r s n a = put_keyed s m k n (Some v) a
  after_keyed (MapRemove m k) r s n a = put_keyed s m k n None a
  after_keyed (MapPutIfAbsent m k v) r s n a = either_keyed r s (put_map s m n (Some v)) (put_map (K s) m k (Some v)) (sym (put_keyed s m k n (Some v) a))
  after_keyed (Enqueue q v) r s n a = refl
  after_keyed (Dequeue q) r s n a = dequeue_keyed r s _
  after_keyed (QueueLen q) r s n a = refl
  after_keyed (Take q) r s n a = take_keyed r s q
  after_keyed (Give q v) r s n a = give_keyed r s q v
  after_keyed (Append l v) r s n a = refl
  after_keyed (AppendPlaced l v) r s n a = refl
  after_keyed (LogRead l i) r s n a = refl
  after_keyed (LogLen l) r s n a = refl
  after_keyed (CellGet c) r s n a = refl
  after_keyed (CellPut c v) r s n a = refl

  pub runs_keyed : (ds : List NamedDone) → AreNamesOfKeys name ds → (s t : State) → Runs s (by_name ds) t → Runs (K s) (by_key ds) (K t)
  runs_keyed [] a s t r = ap K r
  runs_keyed (d ∷ ds) a s t r = (
    allows_keyed d.done.call d.done.reply s d.name a.0 r.0,
    subst (λ (z : State). Runs z (by_key ds) (K t)) (sym (after_keyed d.done.call d.done.reply s d.name a.0)) (runs_keyed ds a.1 (step s (named d)) t r.1),
  )

  -- and the other way round
  pub allows_named : (c : Call) (r : Reply) (s : State) (n : ℕ) → IsNameOfKey name n c → Allows (K s) c r → Allows s (with_key n c) r
  allows_named (MapGet m k) r s n a h = h ∙ ap found (value_here s m k n a)
  allows_named (MapPut m k v) r s n a h = h
  allows_named (MapRemove m k) r s n a h = h
  allows_named (MapPutIfAbsent m k v) r s n a h = h ∙ ap found (value_here s m k n a)
  allows_named (Enqueue q v) r s n a h = h
  allows_named (Dequeue q) r s n a h = h
  allows_named (QueueLen q) r s n a h = h
  allows_named (Take q) r s n a h = h
  allows_named (Give q v) r s n a h = h
  allows_named (Append l v) r s n a h = h
  allows_named (AppendPlaced l v) r s n a h = h
  allows_named (LogRead l i) r s n a h = h
  allows_named (LogLen l) r s n a h = h
  allows_named (CellGet c) r s n a h = h
  allows_named (CellPut c v) r s n a h = h

  pub runs_named : (ds : List NamedDone) → AreNamesOfKeys name ds → (s u : State) → Runs (K s) (by_key ds) u → (t : State) × Runs s (by_name ds) t × (u ≡ K t)
  runs_named [] a s u r = (s, refl, sym r)
  runs_named (d ∷ ds) a s u r = let i = runs_named ds a.1 (step s (named d)) u (subst (λ (z : State). Runs z (by_key ds) u) (after_keyed d.done.call d.done.reply s d.name a.0) r.1) in
      (i.0, (allows_named d.done.call d.done.reply s d.name a.0 r.0, i.1), i.2)

pub renamed : RenamingKeepsRuns
renamed name one ds a s = (λ t r. runs_keyed name one ds a s t r, λ u r. runs_named name one ds a s u r)

-- what is true of the call's key, if it has a key
pub own_names : OwnNamesAreKeys
own_names name own [] a = refl
own_names name own (d ∷ ds) a =
    let c = own_key d.name d.done.call (of_key_map (λ m k. name m k ≡ Some d.name) (λ m k. d.name ≡ k) (λ m k e. own m k d.name e) d.done.call a.0) in
    let r = own_names name own ds a.1 in λ i. record { call = c i; reply = d.done.reply; child = d.done.child } ∷ r i
