-- Runs of calls.
use Rattle.std.proofs.Common.{◌≡◌, ℕ, true, false, List, [], ◌∷◌, ◌++◌, sym, refl, ap, ◌∙◌, subst}
use Rattle.std.specs.Prelude.{Option, Some, None}
use Rattle.serial_terms.specs.declared.call.Call.{Call}
use Rattle.serial_terms.specs.declared.call.Call.TheVariants.{MapGet, MapPut, MapRemove, MapPutIfAbsent, Enqueue, Dequeue, QueueLen, Take, Give, Append, AppendPlaced, LogRead, LogLen, CellGet, CellPut}
use Rattle.serial_terms.specs.declared.call.Reply.{Reply}
use Rattle.serial_terms.specs.declared.call.Reply.TheVariants.{Nothing, Absent, Value, Flag}
use Rattle.serial_terms.specs.Kinds.{IsOfKind, IsValueOrAbsent, IsNothing, IsValue, IsFlag}
use Rattle.serial_terms.specs.Laws.{RunsInParts, RunsToOneState, ReadingLeavesState, RepliesHaveKinds, SizesStay}
use Rattle.serial_terms.specs.Parts.{OnlyReads}
use Rattle.serial_terms.specs.Runs.{RunsBy}
use Rattle.serial_terms.specs.Serial.{State, Sequence, Pool, Allows, after, found, first, less, more, IsReplied, step, after_take, after_give, by_value}
use Rattle.serial_terms.proofs.Basics.{with_at_kept}

module _ {S D : Type 0} (IsReplied : S → D → Type 0) (step : S → D → S) where
  abbrev R : S → List D → S → Type 0
  R = RunsBy IsReplied step

  pub run_on : (xs ys : List D) (s t u : S) → R s xs t → R t ys u → R s (xs ++ ys) u
  run_on [] ys s t u a b = subst (λ (z : S). R z ys u) (sym a) b
  run_on (x ∷ xs) ys s t u a b = (a.0, run_on xs ys (step s x) t u a.1 b)

  pub run_split : (xs ys : List D) (s u : S) → R s (xs ++ ys) u → (t : S) × R s xs t × R t ys u
  run_split [] ys s u a = (s, refl, a)
  run_split (x ∷ xs) ys s u a = let r = run_split xs ys (step s x) u a.1 in (r.0, (a.0, r.1), r.2)

  pub run_once : (ds : List D) (s t u : S) → R s ds t → R s ds u → t ≡ u
  run_once [] s t u a b = sym a ∙ b
  run_once (d ∷ ds) s t u a b = run_once ds (step s d) t u a.1 b.1

pub in_parts : RunsInParts
in_parts xs ys s u = (run_split IsReplied step xs ys s u, λ r. run_on IsReplied step xs ys s r.0 u r.1 r.2)

pub to_one : RunsToOneState
to_one = run_once IsReplied step

-- ---- calls that change nothing

reads_take : (s : State) (p : ℕ) (r : Reply) → OnlyReads (Take p) r → after_take s p r ≡ s
reads_take s p Absent o = refl
reads_take s p Nothing o = refl
reads_take s p (Flag b) o = refl
reads_take s p (Value x) o = absurd o

reads_give : (s : State) (p v : ℕ) (r : Reply) → OnlyReads (Give p v) r → after_give s p v r ≡ s
reads_give s p v (Flag false) o = refl
reads_give s p v (Flag true) o = absurd o
reads_give s p v Nothing o = refl
reads_give s p v Absent o = refl
reads_give s p v (Value x) o = refl

reads_absent : (s t : State) (q : ℕ) (r : Reply) → OnlyReads (Dequeue q) r → by_value r t s ≡ s
reads_absent s t q Absent o = refl
reads_absent s t q Nothing o = refl
reads_absent s t q (Flag b) o = refl
reads_absent s t q (Value x) o = absurd o

reads_value : (s t : State) (m k v : ℕ) (r : Reply) → OnlyReads (MapPutIfAbsent m k v) r → by_value r s t ≡ s
reads_value s t m k v (Value x) o = refl
reads_value s t m k v Absent o = absurd o
reads_value s t m k v Nothing o = absurd o
reads_value s t m k v (Flag b) o = absurd o

pub reading_call : (c : Call) (r : Reply) (s : State) → OnlyReads c r → after s c r ≡ s
reading_call (MapGet m k) r s o = refl
reading_call (MapPut m k v) r s o = absurd o
reading_call (MapRemove m k) r s o = absurd o
reading_call (MapPutIfAbsent m k v) r s o = reads_value s _ m k v r o
reading_call (Enqueue q v) r s o = absurd o
reading_call (Dequeue q) r s o = reads_absent s _ q r o
reading_call (QueueLen q) r s o = refl
reading_call (Take p) r s o = reads_take s p r o
reading_call (Give p v) r s o = reads_give s p v r o
reading_call (Append l v) r s o = absurd o
reading_call (AppendPlaced l v) r s o = absurd o
reading_call (LogRead l i) r s o = refl
reading_call (LogLen l) r s o = refl
reading_call (CellGet c) r s o = refl
reading_call (CellPut c v) r s o = absurd o

pub reading : ReadingLeavesState
reading [] s t e r = sym r
reading (d ∷ ds) s t e r = reading ds (step s d) t e.1 r.1 ∙ reading_call d.call d.reply s e.0

-- ---- kinds

found_kind : (o : Option ℕ) (r : Reply) → r ≡ found o → IsValueOrAbsent r
found_kind (Some v) r e = subst IsValueOrAbsent (sym e) tt
found_kind None r e = subst IsValueOrAbsent (sym e) tt

first_kind : (xs : List ℕ) (r : Reply) → r ≡ first xs → IsValueOrAbsent r
first_kind [] r e = subst IsValueOrAbsent (sym e) tt
first_kind (x ∷ xs) r e = subst IsValueOrAbsent (sym e) tt

taken_kind : (s : State) (p : ℕ) (r : Reply) → Allows s (Take p) r → IsValueOrAbsent r
taken_kind s p (Value x) a = tt
taken_kind s p Absent a = tt
taken_kind s p Nothing a = absurd a
taken_kind s p (Flag b) a = absurd a

pub kind : (c : Call) (r : Reply) (s : State) → Allows s c r → IsOfKind c r
kind (MapGet m k) r s a = found_kind _ r a
kind (MapPut m k v) r s a = subst IsNothing (sym a) tt
kind (MapRemove m k) r s a = subst IsNothing (sym a) tt
kind (MapPutIfAbsent m k v) r s a = found_kind _ r a
kind (Enqueue q v) r s a = subst IsNothing (sym a) tt
kind (Dequeue q) r s a = first_kind _ r a
kind (QueueLen q) r s a = subst IsValue (sym a) tt
kind (Take p) r s a = taken_kind s p r a
kind (Give p v) r s a = subst IsFlag (sym a) tt
kind (Append l v) r s a = subst IsNothing (sym a) tt
kind (AppendPlaced l v) r s a = subst IsValue (sym a) tt
kind (LogRead l i) r s a = found_kind _ r a
kind (LogLen l) r s a = subst IsValue (sym a) tt
kind (CellGet c) r s a = subst IsValue (sym a) tt
kind (CellPut c v) r s a = subst IsNothing (sym a) tt

pub kinds : RepliesHaveKinds
kinds [] s t r = tt
kinds (d ∷ ds) s t r = (kind d.call d.reply s r.0, kinds ds (step s d) t r.1)

-- ---- capacities and numbers of slots

abbrev pub Same : State → State → ℕ → Type 0
Same s t n = ((t.queues n).capacity ≡ (s.queues n).capacity) × ((t.pools n).slots ≡ (s.pools n).slots) × ((t.logs n).capacity ≡ (s.logs n).capacity)

taken_size : (s : State) (p : ℕ) (r : Reply) (n : ℕ) → Same s (after_take s p r) n
taken_size s p (Value x) n = (refl, with_at_kept (λ (z : Pool). z.slots) s.pools p (less (s.pools p) x) n refl, refl)
taken_size s p Absent n = (refl, refl, refl)
taken_size s p Nothing n = (refl, refl, refl)
taken_size s p (Flag b) n = (refl, refl, refl)

given_size : (s : State) (p v : ℕ) (r : Reply) (n : ℕ) → Same s (after_give s p v r) n
given_size s p v (Flag true) n = (refl, with_at_kept (λ (z : Pool). z.slots) s.pools p (more (s.pools p) v) n refl, refl)
given_size s p v (Flag false) n = (refl, refl, refl)
given_size s p v Nothing n = (refl, refl, refl)
given_size s p v Absent n = (refl, refl, refl)
given_size s p v (Value x) n = (refl, refl, refl)

either_size : (s t u : State) (r : Reply) (n : ℕ) → Same s t n → Same s u n → Same s (by_value r t u) n
either_size s t u (Value x) n a b = a
either_size s t u Absent n a b = b
either_size s t u Nothing n a b = b
either_size s t u (Flag x) n a b = b

call_size : (c : Call) (r : Reply) (s : State) (n : ℕ) → Same s (after s c r) n
call_size (MapGet m k) r s n = (refl, refl, refl)
call_size (MapPut m k v) r s n = (refl, refl, refl)
call_size (MapRemove m k) r s n = (refl, refl, refl)
call_size (MapPutIfAbsent m k v) r s n = either_size s s _ r n (refl, refl, refl) (refl, refl, refl)
call_size (Enqueue q v) r s n = (with_at_kept (λ (z : Sequence). z.capacity) s.queues q _ n refl, refl, refl)
call_size (Dequeue q) r s n = either_size s _ s r n (with_at_kept (λ (z : Sequence). z.capacity) s.queues q _ n refl, refl, refl) (refl, refl, refl)
call_size (QueueLen q) r s n = (refl, refl, refl)
call_size (Take p) r s n = taken_size s p r n
call_size (Give p v) r s n = given_size s p v r n
call_size (Append l v) r s n = (refl, refl, with_at_kept (λ (z : Sequence). z.capacity) s.logs l _ n refl)
call_size (AppendPlaced l v) r s n = (refl, refl, with_at_kept (λ (z : Sequence). z.capacity) s.logs l _ n refl)
call_size (LogRead l i) r s n = (refl, refl, refl)
call_size (LogLen l) r s n = (refl, refl, refl)
call_size (CellGet c) r s n = (refl, refl, refl)
call_size (CellPut c v) r s n = (refl, refl, refl)

pub sizes : SizesStay
sizes [] s t r n = (ap (λ (z : State). (z.queues n).capacity) (sym r), ap (λ (z : State). (z.pools n).slots) (sym r), ap (λ (z : State). (z.logs n).capacity) (sym r))
sizes (d ∷ ds) s t r n = let a = sizes ds (step s d) t r.1 n in let b = call_size d.call d.reply s n in (a.0 ∙ b.0, a.1 ∙ b.1, a.2 ∙ b.2)
