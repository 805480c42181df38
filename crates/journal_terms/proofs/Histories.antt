-- Beginnings of legal histories are legal, and a legal history goes on by a record that may stand behind it.
use Rattle.std.proofs.Common.{append-nil, ◌≡◌, ◌≢◌, ℕ, ◌+◌, ◌<◌, ◌≤◌, ◌⊎◌, inl, inr, Bool, true, false, IsTrue, IsFalse, cond, eqb, List, [], ◌∷◌, ◌++◌, length, sym, refl, ap, ◌∙◌, subst, arith}
use Rattle.std.proofs.lemmas.Bool.{cond-true, eqb-true, eq-eqb}
use Rattle.serial_terms.specs.declared.call.Done.{Done}
use Rattle.serial_terms.specs.Entries.{Entry, Each, OrderedBy, Precedes, PrecedesThere, IsInOrder, by_caller, IsCountedFrom}
use Rattle.serial_terms.specs.Facts.{each_append}
use Rattle.serial_terms.specs.Histories.{Runs, IsLegalRun, IsLegalHistory}
use Rattle.serial_terms.specs.Serial.{State, step}
use Rattle.journal_terms.specs.Growing.{last_of, IsBehind, place_of, IsNext, HistoriesGrow}

-- ---- lists

module _ {A : Type 0} (P : A → Type 0) where
  pub each_front : (xs ys : List A) → Each P (xs ++ ys) → Each P xs
  each_front [] ys e = tt
  each_front (x ∷ xs) ys e = (e.0, each_front xs ys e.1)

  pub each_back : (xs ys : List A) → Each P (xs ++ ys) → Each P ys
  each_back [] ys e = e
  each_back (x ∷ xs) ys e = each_back xs ys e.1

module _ {A : Type 0} (R : A → A → Type 0) where
  pub ordered_front : (xs ys : List A) → OrderedBy R (xs ++ ys) → OrderedBy R xs
  ordered_front [] ys o = tt
  ordered_front (x ∷ xs) ys o = (each_front (R x) xs ys o.0, ordered_front xs ys o.1)

  -- one more behind an ordered list
  pub ordered_more : (xs : List A) (y : A) → OrderedBy R xs → Each (λ x. R x y) xs → OrderedBy R (xs ++ y ∷ [])
  ordered_more [] y o e = (tt, tt)
  ordered_more (x ∷ xs) y o e = (each_append (R x) xs (y ∷ []) o.0 (e.0, tt), ordered_more xs y o.1 e.1)

  pub ordered_last : (xs : List A) (y : A) → OrderedBy R (xs ++ y ∷ []) → Each (λ x. R x y) xs
  ordered_last [] y o = tt
  ordered_last (x ∷ xs) y o = ((each_back (R x) xs (y ∷ []) o.0).0, ordered_last xs y o.1)

-- ---- runs in parts

run_front : (xs ys : List (Entry Done)) (s u : State) → IsLegalRun s (xs ++ ys) u → (t : State) × IsLegalRun s xs t × IsLegalRun t ys u
run_front [] ys s u r = (s, refl, r)
run_front (x ∷ xs) ys s u r = let rest = run_front xs ys r.0 u r.4 in (rest.0, (r.0, r.1, r.2, r.3, rest.1), rest.2)

run_both : (xs ys : List (Entry Done)) (s t u : State) → IsLegalRun s xs t → IsLegalRun t ys u → IsLegalRun s (xs ++ ys) u
run_both [] ys s t u a b = subst (λ (z : State). IsLegalRun z ys u) (sym a) b
run_both (x ∷ xs) ys s t u a b = (a.0, a.1, a.2, a.3, run_both xs ys a.0 t u a.4 b)

-- calls and records leave one state
one_run : (ds : List Done) (s t u : State) → Runs s ds t → Runs s ds u → t ≡ u
one_run [] s t u a b = sym a ∙ b
one_run (d ∷ ds) s t u a b = one_run ds (step s d) t u a.1 b.1

one_end : (es : List (Entry Done)) (s t u : State) → IsLegalRun s es t → IsLegalRun s es u → t ≡ u
one_end [] s t u a b = sym a ∙ b
one_end (e ∷ es) s t u a b = let same = one_run e.dones s a.0 b.0 a.1 b.1 in one_end es b.0 t u (subst (λ (z : State). IsLegalRun z es t) same a.4) b.4

-- ---- the records of a caller

caller_append : (k : ℕ) (xs ys : List (Entry Done)) → by_caller k (xs ++ ys) ≡ by_caller k xs ++ by_caller k ys
caller_append k [] ys = refl
caller_append k (x ∷ xs) ys = by_case (eqb x.caller k) (caller_append k xs ys)
  where
    by_case : (t : Bool) → by_caller k (xs ++ ys) ≡ by_caller k xs ++ by_caller k ys
        → cond t (x ∷ by_caller k (xs ++ ys)) (by_caller k (xs ++ ys)) ≡ cond t (x ∷ by_caller k xs) (by_caller k xs) ++ by_caller k ys
    by_case true e = ap (λ (z : List (Entry Done)). x ∷ z) e
    by_case false e = e

own_record : (e : Entry Done) → by_caller e.caller (e ∷ []) ≡ e ∷ []
own_record e = cond-true (eqb e.caller e.caller) (e ∷ []) [] (eq-eqb e.caller e.caller refl)

counted_front : (n : ℕ) (xs ys : List (Entry Done)) → IsCountedFrom n (xs ++ ys) → IsCountedFrom n xs
counted_front n [] ys c = tt
counted_front n (x ∷ xs) ys c = (c.0, counted_front (n + 1) xs ys c.1)

counted_last : (n : ℕ) (xs : List (Entry Done)) (e : Entry Done) → IsCountedFrom n (xs ++ e ∷ []) → e.index ≡ n + length xs
counted_last n [] e c = let here = c.0 in omega arith
counted_last n (x ∷ xs) e c = let rest = counted_last (n + 1) xs e c.1 in omega arith

counted_more : (n : ℕ) (xs : List (Entry Done)) (e : Entry Done) → IsCountedFrom n xs → e.index ≡ n + length xs → IsCountedFrom n (xs ++ e ∷ [])
counted_more n [] e c i = (omega arith, tt)
counted_more n (x ∷ xs) e c i = (c.0, counted_more (n + 1) xs e c.1 (omega arith))

-- ---- beginnings of histories

pub history_front : (start u : State) (xs ys : List (Entry Done)) → IsLegalHistory start (xs ++ ys) u → (t : State) × IsLegalHistory start xs t × IsLegalRun t ys u
history_front start u xs ys h = let r = run_front xs ys start u h.run in (
  r.0,
  record {
    order = ordered_front Precedes xs ys h.order;
    run = r.1;
    counted = λ k. counted_front 0 (by_caller k xs) (by_caller k ys) (subst (IsCountedFrom 0) (caller_append k xs ys) (h.counted k));
    apart = ordered_front _ xs ys h.apart;
    placed = each_front _ xs ys h.placed;
  },
  r.2,
)

-- ---- one more record

clash : (t : Bool) → IsFalse t → IsTrue t → ⊥
clash t low high = let both : true ≡ false = sym high ∙ low in absurd (cc)

precedes_on : (a b c : Entry Done) → Precedes a b → Precedes b c → Precedes a c
precedes_on a b c (inl p) (inl q) = inl (omega arith)
precedes_on a b c (inl p) (inr q) = let same = q.0 in inl (omega arith)
precedes_on a b c (inr p) (inl q) = let same = p.0 in inl (omega arith)
precedes_on a b c (inr p) (inr q) = inr (p.0 ∙ q.0, there p.1 q.1)
  where
    there : PrecedesThere a b → PrecedesThere b c → PrecedesThere a c
    there (inl x) (inl y) = absurd (clash b.writer x.1 y.0)
    there (inl x) (inr y) = inl (x.0, subst IsFalse y.0 x.1)
    there (inr x) (inl y) = inl (subst IsTrue (sym x.0) y.0, y.1)
    there (inr x) (inr y) = inr (x.0 ∙ y.0, callers x.1 y.1)
      where
        callers : (a.caller < b.caller) ⊎ ((a.caller ≡ b.caller) × (a.index < b.index)) → (b.caller < c.caller) ⊎ ((b.caller ≡ c.caller) × (b.index < c.index)) → (a.caller < c.caller) ⊎ ((a.caller ≡ c.caller) × (a.index < c.index))
        callers (inl u) (inl v) = inl (omega arith)
        callers (inl u) (inr v) = let same = v.0 in inl (omega arith)
        callers (inr u) (inl v) = let same = u.0 in inl (omega arith)
        callers (inr u) (inr v) = let same = u.0 in let more = v.0 in let low = u.1 in let high = v.1 in inr (u.0 ∙ v.0, omega arith)

-- what stands behind the last record stands behind all
behind_all : (xs : List (Entry Done)) (e : Entry Done) → IsInOrder xs → IsBehind (last_of xs) e → Each (λ x. Precedes x e) xs
behind_all [] e o b = tt
behind_all (x ∷ []) e o b = (b, tt)
behind_all (x ∷ y ∷ ys) e o b = let rest = behind_all (y ∷ ys) e o.1 b in (precedes_on x y e o.0.0 rest.0, rest)

behind_last : (xs : List (Entry Done)) (e : Entry Done) → Each (λ x. Precedes x e) xs → IsBehind (last_of xs) e
behind_last [] e h = tt
behind_last (x ∷ []) e h = h.0
behind_last (x ∷ y ∷ ys) e h = behind_last (y ∷ ys) e h.1

-- no place is above the last one
places_below : (xs : List (Entry Done)) → IsInOrder xs → Each (λ x. x.place ≤ place_of (last_of xs)) xs
places_below [] o = tt
places_below (x ∷ []) o = (omega arith, tt)
places_below (x ∷ y ∷ ys) o = let rest = places_below (y ∷ ys) o.1 in (below x y o.0.0 rest.0, rest)
  where
    below : (a b : Entry Done) → Precedes a b → b.place ≤ place_of (last_of (y ∷ ys)) → a.place ≤ place_of (last_of (y ∷ ys))
    below a b (inl p) h = omega arith
    below a b (inr p) h = let same = p.0 in omega arith

each_of : {A : Type 0} (P Q : A → Type 0) → ((x : A) → P x → Q x) → (xs : List A) → Each P xs → Each Q xs
each_of P Q f [] e = tt
each_of P Q f (x ∷ xs) e = (f x e.0, each_of P Q f xs e.1)

abbrev Meets : Entry Done → Entry Done → Type 0
Meets x e = IsTrue x.writer → IsTrue e.writer → x.place ≢ e.place

-- a writer whose place isn't above that of the record before it shares it with a writer
above_one : (x e : Entry Done) → Precedes x e → Meets x e → IsTrue e.writer → x.place < e.place
above_one x e (inl p) m w = p
above_one x e (inr p) m w = absurd (there p.1)
  where
    there : PrecedesThere x e → ⊥
    there (inl q) = clash e.writer q.1 w
    there (inr q) = m (subst IsTrue (sym q.0) w) w p.0

above_last : (xs : List (Entry Done)) (e : Entry Done) → Each (λ x. Precedes x e) xs → Each (λ x. Meets x e) xs → (IsTrue e.writer → 0 < e.place) → IsTrue e.writer → place_of (last_of xs) < e.place
above_last [] e b m p w = p w
above_last (x ∷ []) e b m p w = above_one x e b.0 m.0 w
above_last (x ∷ y ∷ ys) e b m p w = above_last (y ∷ ys) e b.1 m.1 p w

module _ (start end : State) (history : List (Entry Done)) (h : IsLegalHistory start history end) (e : Entry Done) (u : State) where
  grown : IsNext (last_of history) (length (by_caller e.caller history)) e → IsLegalRun end (e ∷ []) u → IsLegalHistory start (history ++ e ∷ []) u
  grown n r = let all = behind_all history e h.order n.order in record {
    order = ordered_more Precedes history e h.order all;
    run = run_both history (e ∷ []) start end u h.run r;
    counted = counted;
    apart = ordered_more Meets history e h.apart (each_of (λ x. x.place ≤ place_of (last_of history)) (λ x. Meets x e) (λ x low w v same. let up = n.above v in absurd (omega arith)) history (places_below history h.order));
    placed = each_append (λ x. IsTrue x.writer → 0 < x.place) history (e ∷ []) h.placed ((λ w. let up = n.above w in omega arith), tt);
  }
    where
      counted_by : (k : ℕ) (t : Bool) → eqb e.caller k ≡ t → IsCountedFrom 0 (by_caller k history ++ cond t (e ∷ []) [])
      counted_by k true same = let here : e.caller ≡ k = eqb-true e.caller k same in
          counted_more 0 (by_caller k history) e (h.counted k) (let size = ap (λ (z : ℕ). length (by_caller z history)) here in let index = n.counted in omega arith)
      counted_by k false other = subst (IsCountedFrom 0) (sym (append-nil (by_caller k history))) (h.counted k)

      counted : (k : ℕ) → IsCountedFrom 0 (by_caller k (history ++ e ∷ []))
      counted k = subst (IsCountedFrom 0) (sym (caller_append k history (e ∷ []))) (counted_by k (eqb e.caller k) refl)

  shrunk : IsLegalHistory start (history ++ e ∷ []) u → IsNext (last_of history) (length (by_caller e.caller history)) e
  shrunk g = let all = ordered_last Precedes history e g.order in record {
    order = behind_last history e all;
    above = above_last history e all (ordered_last Meets history e g.apart) (each_back (λ x. IsTrue x.writer → 0 < x.place) history (e ∷ []) g.placed).0;
    counted = counted_last 0 (by_caller e.caller history) e (subst (λ (z : List (Entry Done)). IsCountedFrom 0 (by_caller e.caller history ++ z)) (own_record e) (subst (IsCountedFrom 0) (caller_append e.caller history (e ∷ [])) (g.counted e.caller))) ∙ zero_plus (length (by_caller e.caller history));
  }
    where
      zero_plus : (n : ℕ) → 0 + n ≡ n
      zero_plus n = omega arith

  pub step_run : IsLegalHistory start (history ++ e ∷ []) u → IsLegalRun end (e ∷ []) u
  step_run g = let r = run_front history (e ∷ []) start u g.run in subst (λ (z : State). IsLegalRun z (e ∷ []) u) (one_end history start r.0 end r.1 h.run) r.2

pub histories_grow : HistoriesGrow
histories_grow start end history h e u = ((λ g. (shrunk start end history h e u g, step_run start end history h e u g)), (λ n. grown start end history h e u n.0 n.1))
