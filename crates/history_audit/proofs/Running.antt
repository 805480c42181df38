-- Calls that run, and how they are taken back.
use Rattle.std.proofs.Common.{◌≡◌, ℕ, ◌+◌, ◌<◌, Bool, true, false, eqb, cond, List, [], ◌∷◌, ◌++◌, length, drop, get_or, refl, sym, ap, ◌∙◌, subst, arith, add-one}
use Rattle.std.proofs.Math.Seq.{drop-cons}
use Rattle.std.proofs.lemmas.Bool.{eqb-true}
use Rattle.serial_terms.specs.declared.call.Call.{Call}
use Rattle.serial_terms.specs.declared.call.Call.TheVariants.{MapGet, MapPut, MapRemove, MapPutIfAbsent, Enqueue, Dequeue, QueueLen, Take, Give, Append, AppendPlaced, LogRead, LogLen, CellGet, CellPut}
use Rattle.serial_terms.specs.declared.call.Reply.{Reply}
use Rattle.serial_terms.specs.declared.call.Reply.TheVariants.{Nothing, Absent, Value, Flag}
use Rattle.serial_terms.specs.declared.call.Done.{Done}
use Rattle.serial_terms.specs.Counts.{times}
use Rattle.serial_terms.specs.Entries.{Each}
use Rattle.serial_terms.specs.Histories.{Runs}
use Rattle.serial_terms.specs.Serial.{State, Pool, pool_of, less, more, step, Allows, after, after_take, after_give, put_pool}
use Rattle.history_audit.specs.declared.structures.Change.{Change}
use Rattle.history_audit.specs.Structures.{back, undone, IsFirst, IsListed}

pub undone_more : (cs : List Change) (c : Change) (s : State) → undone (cs ++ c ∷ []) s ≡ undone cs (back c s)
undone_more [] c s = refl
undone_more (d ∷ cs) c s = ap (back d) (undone_more cs c s)

-- ---- the pool keeps being one of a list's items

-- an item that is there stands somewhere
record StandsIn (x : ℕ) (xs : List ℕ) : Type 0 where
  before : List ℕ
  behind : List ℕ
  all : xs ≡ before ++ x ∷ behind

stands : (x : ℕ) (xs : List ℕ) → 0 < times x xs → StandsIn x xs
stands x [] h = absurd (omega arith)
stands x (y ∷ ys) h = by_case (eqb x y) refl (stands x ys) h
  where
    by_case : (t : Bool) → eqb x y ≡ t → (0 < times x ys → StandsIn x ys) → 0 < cond t 1 0 + times x ys → StandsIn x (y ∷ ys)
    by_case true e others l = record { before = []; behind = ys; all = ap (λ (z : ℕ). z ∷ ys) (sym (eqb-true x y e)) }
    by_case false e others l = let r = others (omega (arith, l)) in record { before = y ∷ r.before; behind = r.behind; all = ap (λ (zs : List ℕ). y ∷ zs) r.all }

module _ (law : (n x : ℕ) (before behind : List ℕ) → (less (pool_of n (before ++ x ∷ behind)) x ≡ pool_of n (before ++ behind)) × (more (pool_of n (before ++ behind)) x ≡ pool_of n (before ++ x ∷ behind))) where
  listed_less : (s : State) (x : ℕ) → IsListed s → 0 < (s.pools 0).count x → IsListed (put_pool s 0 (less (s.pools 0) x))
  listed_less s x l h = let r = stands x l.items (subst (λ (p : Pool). 0 < p.count x) l.are h) in record {
    items = r.before ++ r.behind;
    are = ap (λ (p : Pool). less p x) (l.are ∙ ap (pool_of (s.pools 0).slots) r.all) ∙ (law (s.pools 0).slots x r.before r.behind).0;
  }

  listed_more : (s : State) (x : ℕ) → IsListed s → IsListed (put_pool s 0 (more (s.pools 0) x))
  listed_more s x l = record { items = x ∷ l.items; are = ap (λ (p : Pool). more p x) l.are ∙ (law (s.pools 0).slots x [] l.items).1 }

  same_pool : (s t : State) → t.pools 0 ≡ s.pools 0 → IsListed s → IsListed t
  same_pool s t e l = record { items = l.items; are = e ∙ (l.are ∙ ap (λ (p : Pool). pool_of p.slots l.items) (sym e)) }

  taken : (s : State) (p : ℕ) (r : Reply) → p ≡ 0 → Allows s (Take p) r → IsListed s → IsListed (after_take s p r)
  taken s p (Value x) e a l = let Q : ℕ → Type 0 = λ n. 0 < (s.pools n).count x in
      subst (λ (n : ℕ). IsListed (put_pool s n (less (s.pools n) x))) (sym e) (listed_less s x l (subst Q e a))
  taken s p Absent e a l = l
  taken s p Nothing e a l = l
  taken s p (Flag b) e a l = l

  given : (s : State) (p v : ℕ) (r : Reply) → p ≡ 0 → IsListed s → IsListed (after_give s p v r)
  given s p v (Flag true) e l = subst (λ (n : ℕ). IsListed (put_pool s n (more (s.pools n) v))) (sym e) (listed_more s v l)
  given s p v (Flag false) e l = l
  given s p v (Value x) e l = l
  given s p v Absent e l = l
  given s p v Nothing e l = l

  pub listed_step : (s : State) (c : Call) (r : Reply) → IsFirst c → Allows s c r → IsListed s → IsListed (after s c r)
  listed_step s (MapGet m k) r f a l = l
  listed_step s (MapPut m k v) r f a l = same_pool s _ refl l
  listed_step s (MapRemove m k) r f a l = same_pool s _ refl l
  listed_step s (MapPutIfAbsent m k v) (Value x) f a l = l
  listed_step s (MapPutIfAbsent m k v) Absent f a l = same_pool s _ refl l
  listed_step s (MapPutIfAbsent m k v) Nothing f a l = same_pool s _ refl l
  listed_step s (MapPutIfAbsent m k v) (Flag b) f a l = same_pool s _ refl l
  listed_step s (Enqueue q v) r f a l = same_pool s _ refl l
  listed_step s (Dequeue q) (Value x) f a l = same_pool s _ refl l
  listed_step s (Dequeue q) Absent f a l = l
  listed_step s (Dequeue q) Nothing f a l = l
  listed_step s (Dequeue q) (Flag b) f a l = l
  listed_step s (QueueLen q) r f a l = l
  listed_step s (Take p) r f a l = taken s p r f a l
  listed_step s (Give p v) r f a l = given s p v r f l
  listed_step s (Append x v) r f a l = same_pool s _ refl l
  listed_step s (AppendPlaced x v) r f a l = same_pool s _ refl l
  listed_step s (LogRead x i) r f a l = l
  listed_step s (LogLen x) r f a l = l
  listed_step s (CellGet x) r f a l = l
  listed_step s (CellPut x v) r f a l = same_pool s _ refl l

  pub listed_run : (ds : List Done) (s t : State) → Each (λ d. IsFirst d.call) ds → Runs s ds t → IsListed s → IsListed t
  listed_run [] s t f r l = subst IsListed r l
  listed_run (d ∷ ds) s t f r l = listed_run ds (step s d) t f.1 r.1 (listed_step s d.call d.reply f.0 r.0 l)

-- ---- a run so far: what is left of it runs on from here exactly where the whole runs

pub record IsOnItsWay (start here : State) (all left : List Done) : Type 0 where
  pub on : (t : State) → Runs here left t → Runs start all t
  pub from : (t : State) → Runs start all t → Runs here left t

pub goes_on : (start s t : State) (all left rest : List Done) (d : Done) → IsOnItsWay start s all left → left ≡ d ∷ rest → Allows s d.call d.reply → t ≡ step s d → IsOnItsWay start t all rest
goes_on start s t all left rest d w e a at = record {
  on = λ u r. w.on u (subst (λ (z : List Done). Runs s z u) (sym e) (a, subst (λ (z : State). Runs z rest u) at r));
  from = λ u r. subst (λ (z : State). Runs z rest u) (sym at) (subst (λ (z : List Done). Runs s z u) e (w.from u r)).1;
}

pub stops : (start s : State) (all left rest : List Done) (d : Done) → IsOnItsWay start s all left → left ≡ d ∷ rest → (Allows s d.call d.reply → ⊥) → (u : State) → Runs start all u → ⊥
stops start s all left rest d w e refused u r = refused (subst (λ (z : List Done). Runs s z u) e (w.from u r)).0

pub drop_next : {A : Type 0} (xs : List A) (i : ℕ) (d : A) → i < length xs → drop i xs ≡ get_or xs i d ∷ drop (i + 1) xs
drop_next xs i d l = rw add-one (drop-cons xs i d l)

-- one call more
pub record HasGoneOn (start t : State) (all rest : List Done) : Type 0 where
  pub way : IsOnItsWay start t all rest
  pub about : Each (λ d. IsFirst d.call) rest
  pub listed : IsListed t

pub one_more : (law : (n x : ℕ) (before behind : List ℕ) → (less (pool_of n (before ++ x ∷ behind)) x ≡ pool_of n (before ++ behind)) × (more (pool_of n (before ++ behind)) x ≡ pool_of n (before ++ x ∷ behind)))
    → (start s t : State) (all : List Done) (i : ℕ) (d : Done) → i < length all → IsOnItsWay start s all (drop i all) → Each (λ d. IsFirst d.call) (drop i all) → IsListed s
    → Allows s (get_or all i d).call (get_or all i d).reply → t ≡ after s (get_or all i d).call (get_or all i d).reply → HasGoneOn start t all (drop (i + 1) all)
one_more law start s t all i d l w f p a at =
    let next : drop i all ≡ get_or all i d ∷ drop (i + 1) all = drop_next all i d l in
    let here : Each (λ (d : Done). IsFirst d.call) (get_or all i d ∷ drop (i + 1) all) = subst (Each (λ (d : Done). IsFirst d.call)) next f in
    record {
      way = goes_on start s t all (drop i all) (drop (i + 1) all) (get_or all i d) w next a at;
      about = here.1;
      listed = subst IsListed (sym at) (listed_step law s (get_or all i d).call (get_or all i d).reply here.0 a p);
    }
