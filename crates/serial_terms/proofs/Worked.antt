-- The worked histories.
use Rattle.std.proofs.Common.{◌≡◌, ◌≢◌, ℕ, zero, suc, ◌<◌, true, List, [], ◌∷◌, length, inl, inr, refl, ◌∙◌, subst, arith, get_or, lit<, lit≤}
use Rattle.std.specs.Prelude.{Option, Some, None}
use Rattle.std.proofs.lemmas.Bool.Decides.{nat_tests}
use mathlib.Core.Path.{fun_ext}
use Rattle.serial_terms.specs.declared.call.Done.{Done}
use Rattle.serial_terms.specs.declared.store.Layout.{Layout}
use Rattle.serial_terms.specs.declared.store.StoreState.{StoreState}
use Rattle.serial_terms.specs.Counts.{times, with_at}
use Rattle.serial_terms.specs.Entries.{Entry, Each, by_caller, IsCountedFrom}
use Rattle.serial_terms.specs.Histories.{IsLegalRun}
use Rattle.serial_terms.specs.Sights.{Seen, IsConsistent, AreSightsOf, IsAfterItsCallers}
use Rattle.serial_terms.specs.RunLayout.{layout_by}
use Rattle.serial_terms.specs.Serial.{State, Sequence, pool_of, less}
use Rattle.serial_terms.specs.Stores.{opening_of, state_of, value_in}
use Rattle.serial_terms.specs.Worked.{IsWorked, RefusedCommit, ReadersAtOnePlace, ItemTakenAgain, ChildMadeAgain, ChildrenDropped, EntryCameSince, AppendsByCommit, QueueFull, TwoKeys, EachCall, OneFrame, TwoFragments, WorkedHistories, maps_alone, map_and_log}
use Rattle.serial_terms.proofs.Stepping.{after_records, AreLegal, legal, opening_within, queue_within, log_within, pool_within, counted_both}
use Rattle.serial_terms.proofs.Showing.{in_order, order_test, all_apart, apart_test}
use Rattle.serial_terms.specs.Facts.{with_at_other}
use Rattle.serial_terms.proofs.Basics.{each_all}

-- two functions that agree at 0 and beyond are one
at_each : {A : Type 0} (f g : ℕ → A) → f 0 ≡ g 0 → ((n : ℕ) → f (suc n) ≡ g (suc n)) → f ≡ g
at_each f g a b = fun_ext each
  where
    each : (n : ℕ) → f n ≡ g n
    each zero = a
    each (suc n) = b n

-- a change at 0 is none beyond
beyond : {A : Type 0} (f : ℕ → A) (x : A) (n : ℕ) → with_at f 0 x (suc n) ≡ f (suc n)
beyond f x n = with_at_other f 0 x (suc n) (λ e. omega arith)

states : (s t : State) → s.maps ≡ t.maps → s.queues ≡ t.queues → s.pools ≡ t.pools → s.logs ≡ t.logs → s.cells ≡ t.cells → s ≡ t
states s t a b c d e i = record { maps = a i; queues = b i; pools = c i; logs = d i; cells = e i }

-- a history of the callers 0 and 1 that is shown record by record
worked : (layout : Layout) (h : List (Entry Done)) (contents : StoreState) (sights : List (Seen Done)) → order_test h ≡ true → apart_test h ≡ true → AreLegal (opening_of layout) h → after_records (opening_of layout) h ≡ state_of layout contents
    → ((k : ℕ) → 0 ≢ k → 1 ≢ k → Each (λ e. e.caller ≢ k) h) → IsCountedFrom 0 (by_caller 0 h) → IsCountedFrom 0 (by_caller 1 h) → Each (λ e. e.writer ≡ true → 0 < e.place) h → AreSightsOf (length layout.queues) (opening_of layout) h sights → IsWorked layout h contents sights
worked layout h contents sights o a l e b c d p v = record {
  legal = record { order = in_order h o; run = subst (λ (t : State). IsLegalRun (opening_of layout) h t) e (legal h (opening_of layout) l); counted = counted_both h b c d; apart = all_apart h a; placed = p };
  seen = v;
}

-- a sight before all records of its caller
first_of_all : (h : List (Entry Done)) (v : Seen Done) → v.after ≡ 0 → IsAfterItsCallers h v
first_of_all h v z = record { counted = omega arith; placed = each_all _ (by_caller v.caller h) (λ e y. absurd (omega arith)) }

no_sights : {queues : ℕ} {start : State} {h : List (Entry Done)} → AreSightsOf queues start h []
no_sights = record { order = tt; consistent = tt; after = tt; rising = tt }

one_sight : (queues : ℕ) (start : State) (h : List (Entry Done)) (v : Seen Done) → IsConsistent queues start h v → IsAfterItsCallers h v → AreSightsOf queues start h (v ∷ [])
one_sight queues start h v c a = record { order = (tt, tt); consistent = (c, tt); after = (a, tt); rising = (tt, tt) }

-- ---- maps

one_pair : (k : ℕ) → with_at (λ j. None) 1 (Some 11) k ≡ value_in ((1, 11) ∷ []) k
one_pair k = grind (arith, nat_tests)

pairs_78 : (k : ℕ) → with_at (with_at (λ j. None) 7 (Some 70)) 8 (Some 80) k ≡ value_in ((7, 70) ∷ (8, 80) ∷ []) k
pairs_78 k = grind (arith, nat_tests)

pairs_12 : (k : ℕ) → with_at (with_at (λ j. None) 1 (Some 10)) 2 (Some 20) k ≡ value_in ((1, 10) ∷ (2, 20) ∷ []) k
pairs_12 k = grind (arith, nat_tests)

-- what the structures beyond 0 are from the opening on
abbrev no_keys : ℕ → ℕ → Option ℕ
no_keys m k = None

abbrev empty : List ℕ → ℕ → Sequence
empty cs q = record { items = []; capacity = get_or cs q 0 }

beyond2 : {A : Type 0} (f : ℕ → A) (x y : A) (n : ℕ) → with_at (with_at f 0 x) 0 y (suc n) ≡ f (suc n)
beyond2 f x y n = beyond (with_at f 0 x) y n ∙ beyond f x n

beyond3 : {A : Type 0} (f : ℕ → A) (x y z : A) (n : ℕ) → with_at (with_at (with_at f 0 x) 0 y) 0 z (suc n) ≡ f (suc n)
beyond3 f x y z n = beyond (with_at (with_at f 0 x) 0 y) z n ∙ beyond2 f x y n

refused_commit : RefusedCommit
unfolding opening_of state_of
refused_commit =
    let c = opening_within (maps_alone 16) in
    worked _ _ _ _ refl refl
    ((refl, tt), record { queues = c.queues; logs = c.logs }, (λ e. absurd (cc)), ((refl, (refl, tt)), record { queues = c.queues; logs = c.logs }, (λ e. absurd (cc)), tt))
    (states _ _ (at_each _ _ (fun_ext pairs_78) (λ n. beyond2 no_keys _ _ n)) refl refl refl refl)
    (λ k n m. (m, (n, tt))) (refl, tt) (refl, tt)
    ((λ e. lit< tt), ((λ e. lit< tt), tt))
    (one_sight _ _ _ _ (opening_of (maps_alone 16), refl, (_, (refl, (refl, refl)), tt)) (first_of_all _ _ refl))

readers_at_one_place : ReadersAtOnePlace
unfolding opening_of state_of
readers_at_one_place =
    let c = opening_within (maps_alone 16) in
    worked _ _ _ _ refl refl (
      (refl, tt),
      record { queues = c.queues; logs = c.logs },
      (λ e. absurd (cc)),
      (
        (refl, tt),
        record { queues = c.queues; logs = c.logs },
        (λ e. absurd (cc)),
        ((refl, tt), record { queues = c.queues; logs = c.logs }, (λ e. refl), ((refl, tt), record { queues = c.queues; logs = c.logs }, (λ e. refl), tt)),
      ),
    )
    (states _ _ (at_each _ _ (fun_ext pairs_78) (λ n. beyond2 no_keys _ _ n)) refl refl refl refl)
    (λ k n m. (n, (m, (n, (m, tt))))) (refl, (refl, tt)) (refl, (refl, tt))
    ((λ e. lit< tt), ((λ e. lit< tt), ((λ e. absurd (cc)), ((λ e. absurd (cc)), tt))))
    no_sights

-- the pool after its one item was taken
one_taken : (x : ℕ) → with_at (λ y. times y (9 ∷ [])) 9 0 x ≡ times x []
one_taken x = grind (arith, nat_tests)

item_taken_again : ItemTakenAgain
unfolding opening_of state_of
item_taken_again =
    worked _ _ _ _ refl refl
    ((lit< tt, tt), record { queues = λ q. omega arith; logs = λ q. omega arith }, (λ e. absurd (cc)), tt)
    (states _ _ refl refl (at_each _ _ (let e = fun_ext one_taken in λ i. record { count = e i; held = 0; slots = 1 }) (λ n. beyond (λ p. pool_of (get_or (1 ∷ []) p 0) (get_or ((9 ∷ []) ∷ []) p [])) _ n)) refl refl)
    (λ k n m. (m, tt)) tt (refl, tt)
    ((λ e. lit< tt), tt)
    (record {
      order = ((inr (refl, lit≤ tt), tt), (tt, tt));
      consistent = ((_, refl, (_, (lit< tt, refl), tt)), ((_, refl, (_, refl, tt)), tt));
      after = (first_of_all _ _ refl, (first_of_all _ _ refl, tt));
      rising = (((λ e. lit≤ tt), tt), (tt, tt));
    })

child_made_again : ChildMadeAgain
unfolding opening_of state_of
child_made_again =
    let c1 = log_within _ 0 (90 ∷ []) (opening_within map_and_log) (lit≤ tt) in
    let c2 = log_within _ 0 (90 ∷ 80 ∷ []) c1 (lit≤ tt) in
    worked _ _ _ _ refl refl
    ((refl, tt), c1, (λ e. absurd (cc)), ((refl, (refl, (refl, tt))), record { queues = c2.queues; logs = c2.logs }, (λ e. absurd (cc)), tt))
    (states _ _ (at_each _ _ (fun_ext one_pair) (λ n. beyond no_keys _ n)) refl refl (at_each _ _ refl (λ n. beyond2 (empty (4 ∷ [])) _ _ n)) refl)
    (λ k n m. (m, (n, tt))) (refl, tt) (refl, tt)
    ((λ e. lit< tt), ((λ e. lit< tt), tt))
    (one_sight _ _ _ _ (_, refl, (_, (refl, (refl, refl)), tt)) (first_of_all _ _ refl))

children_dropped : ChildrenDropped
unfolding opening_of state_of
children_dropped =
    let c = opening_within map_and_log in
    worked _ _ _ _ refl refl
    ((refl, tt), record { queues = c.queues; logs = c.logs }, (λ e. absurd (cc)), tt)
    (states _ _ (at_each _ _ (fun_ext one_pair) (λ n. beyond no_keys _ n)) refl refl (at_each _ _ refl (λ n. refl)) refl)
    (λ k n m. (n, tt)) (refl, tt) tt
    ((λ e. lit< tt), tt)
    (record {
      order = ((inr (refl, lit≤ tt), (inr (refl, lit≤ tt), tt)), ((inr (refl, lit≤ tt), tt), (tt, tt)));
      consistent = ((_, refl, (_, (refl, refl), tt)), ((_, refl, (_, (refl, refl), tt)), ((_, refl, (_, (refl, refl), tt)), tt)));
      after = (first_of_all _ _ refl, (first_of_all _ _ refl, (first_of_all _ _ refl, tt)));
      rising = (((λ e. lit≤ tt), ((λ e. lit≤ tt), tt)), (((λ e. lit≤ tt), tt), (tt, tt)));
    })

entry_came_since : EntryCameSince
unfolding opening_of state_of
entry_came_since =
    worked _ _ _ _ refl refl
    ((refl, tt), log_within _ 0 (5 ∷ []) (opening_within map_and_log) (lit≤ tt), (λ e. absurd (cc)), tt)
    (states _ _ (at_each _ _ refl (λ n. refl)) refl refl (at_each _ _ refl (λ n. beyond (empty (4 ∷ [])) _ n)) refl)
    (λ k n m. (m, tt)) tt (refl, tt)
    ((λ e. lit< tt), tt)
    (one_sight _ _ _ _ (_, refl, (_, (refl, (refl, refl)), tt)) (first_of_all _ _ refl))

appends_by_commit : AppendsByCommit
unfolding opening_of state_of
appends_by_commit =
    let c1 = log_within _ 0 (20 ∷ []) (opening_within map_and_log) (lit≤ tt) in
    worked _ _ _ _ refl refl
    ((refl, tt), c1, (λ e. absurd (cc)), ((refl, tt), log_within _ 0 (20 ∷ 10 ∷ []) c1 (lit≤ tt), (λ e. absurd (cc)), tt))
    (states _ _ (at_each _ _ refl (λ n. refl)) refl refl (at_each _ _ refl (λ n. beyond2 (empty (4 ∷ [])) _ _ n)) refl)
    (λ k n m. (m, (n, tt))) (refl, tt) (refl, tt)
    ((λ e. lit< tt), ((λ e. lit< tt), tt))
    no_sights

two_keys : TwoKeys
unfolding opening_of state_of
two_keys =
    let c = opening_within (maps_alone 2) in
    worked _ _ _ _ refl refl
    ((refl, (refl, tt)), record { queues = c.queues; logs = c.logs }, (λ e. absurd (cc)), tt)
    (states _ _ (at_each _ _ (fun_ext pairs_12) (λ n. beyond2 no_keys _ _ n)) refl refl refl refl)
    (λ k n m. (n, tt)) (refl, tt) tt
    ((λ e. lit< tt), tt)
    no_sights

beyond4 : {A : Type 0} (f : ℕ → A) (x y z v : A) (n : ℕ) → with_at (with_at (with_at (with_at f 0 x) 0 y) 0 z) 0 v (suc n) ≡ f (suc n)
beyond4 f x y z v n = beyond (with_at (with_at (with_at f 0 x) 0 y) 0 z) v n ∙ beyond3 f x y z n

queue_full : QueueFull
unfolding opening_of state_of
queue_full =
    let l : Layout = record { maps = []; queues = 2 ∷ []; pools = []; logs = []; cells = 0 } in
    let c1 = queue_within _ 0 [] (queue_within _ 0 (5 ∷ []) (opening_within l) (lit≤ tt)) (lit≤ tt) in
    let c2 = queue_within _ 0 (6 ∷ 7 ∷ []) (queue_within _ 0 (6 ∷ []) c1 (lit≤ tt)) (lit≤ tt) in
    worked _ _ _ _ refl refl
    ((refl, (refl, tt)), c1, (λ e. states _ _ refl (at_each _ _ refl (λ n. beyond2 (empty (2 ∷ [])) _ _ n)) refl refl refl), ((refl, (refl, tt)), c2, (λ e. absurd (cc)), tt))
    (states _ _ refl (at_each _ _ refl (λ n. beyond4 (empty (2 ∷ [])) _ _ _ _ n)) refl refl refl)
    (λ k n m. (n, (n, tt))) (refl, (refl, tt)) tt
    ((λ e. absurd (cc)), ((λ e. lit< tt), tt))
    (record {
      order = ((inl (lit< tt), tt), (tt, tt));
      consistent = (
        (_, (_, (refl, (refl, refl)), c1, (λ e. states _ _ refl (at_each _ _ refl (λ n. beyond2 (empty (2 ∷ [])) _ _ n)) refl refl refl), refl), (_, (refl, (refl, (refl, refl))), (refl, lit< tt))),
        ((_, (_, (refl, (refl, refl)), c1, (λ e. states _ _ refl (at_each _ _ refl (λ n. beyond2 (empty (2 ∷ [])) _ _ n)) refl refl refl), (_, (refl, (refl, refl)), c2, (λ e. absurd (cc)), refl)), (_, (refl, refl), (refl, lit< tt))), tt),
      );
      after = (record { counted = lit≤ tt; placed = ((λ e. lit≤ tt), ((λ e. absurd (omega arith)), tt)) }, (record { counted = lit≤ tt; placed = ((λ e. absurd (omega arith)), ((λ e. lit≤ tt), tt)) }, tt));
      rising = (((λ e. lit≤ tt), tt), (tt, tt));
    })

key_gone : (k : ℕ) → with_at (with_at (λ j. None) 5 (Some 50)) 5 None k ≡ value_in [] k
key_gone k = grind (arith, nat_tests)

items_68 : (x : ℕ) → with_at (with_at (with_at (λ y. times y (9 ∷ [])) 9 0) 8 1) 6 1 x ≡ times x (6 ∷ 8 ∷ [])
items_68 x = grind (arith, nat_tests)

each_call : EachCall
unfolding opening_of state_of
each_call =
    let l : Layout = record { maps = 4 ∷ []; queues = 2 ∷ []; pools = record { slots = 2; items = 9 ∷ [] } ∷ []; logs = 3 ∷ []; cells = 1 } in
    let c = log_within _ 0 (3 ∷ 4 ∷ []) (log_within _ 0 (3 ∷ []) (queue_within _ 0 (7 ∷ []) (opening_within l) (lit≤ tt)) (lit≤ tt)) (lit≤ tt) in
    worked _ _ _ _ refl refl
    ((refl, (refl, (refl, (refl, (refl, (refl, (lit< tt, (refl, (refl, (refl, (refl, (refl, (refl, (refl, (refl, (refl, (refl, tt))))))))))))))))), record { queues = c.queues; logs = c.logs }, (λ e. absurd (cc)), tt)
    (states _ _
    (at_each _ _ (fun_ext key_gone) (λ n. beyond2 no_keys _ _ n))
    (at_each _ _ refl (λ n. beyond (empty (2 ∷ [])) _ n))
    (at_each _ _ (let e = fun_ext items_68 in λ i. record { count = e i; held = 2; slots = 2 }) (λ n. beyond3 (λ p. pool_of (get_or (2 ∷ []) p 0) (get_or ((9 ∷ []) ∷ []) p [])) _ _ _ n))
    (at_each _ _ refl (λ n. beyond2 (empty (3 ∷ [])) _ _ n))
    (at_each _ _ refl (λ n. beyond (λ k. 0) _ n)))
    (λ k n m. (n, tt)) (refl, tt) tt
    ((λ e. lit< tt), tt)
    no_sights

-- ---- runs of a worker

at_two : {A : Type 0} (f g : ℕ → A) → f 0 ≡ g 0 → f 1 ≡ g 1 → ((n : ℕ) → f (suc (suc n)) ≡ g (suc (suc n))) → f ≡ g
at_two f g a b c = at_each f g a each
  where
    each : (n : ℕ) → f (suc n) ≡ g (suc n)
    each zero = b
    each (suc n) = c n

beyond_one : {A : Type 0} (f : ℕ → A) (x : A) (n : ℕ) → with_at f 1 x (suc (suc n)) ≡ f (suc (suc n))
beyond_one f x n = with_at_other f 1 x (suc (suc n)) (λ e. omega arith)

maps_beyond : (a b c d e : ℕ → Option ℕ) (n : ℕ) → with_at (with_at (with_at (with_at (with_at no_keys 0 a) 0 b) 1 c) 0 d) 1 e (suc (suc n)) ≡ no_keys (suc (suc n))
maps_beyond a b c d e n =
    let two : ℕ → ℕ → Option ℕ = with_at (with_at no_keys 0 a) 0 b in
    beyond_one (with_at (with_at two 1 c) 0 d) e n ∙ (beyond (with_at two 1 c) d (suc n) ∙ (beyond_one two c n ∙ beyond2 no_keys a b (suc n)))

task_gone : (x : ℕ) → with_at (λ y. times y (0 ∷ [])) 0 0 x ≡ times x []
task_gone x = grind (arith, nat_tests)

tasks_gone : (x : ℕ) → with_at (with_at (λ y. times y (0 ∷ 1 ∷ [])) 0 0) 1 0 x ≡ times x []
tasks_gone x = grind (arith, nat_tests)

word_gone : (k : ℕ) → with_at (with_at (with_at (λ j. None) 0 (Some 262156)) 0 (Some 4295753740)) 0 None k ≡ value_in [] k
word_gone k = grind (arith, nat_tests)

link_gone : (k : ℕ) → with_at (with_at (λ j. None) 1 (Some 0)) 1 None k ≡ value_in [] k
link_gone k = grind (arith, nat_tests)

one_frame : OneFrame
unfolding opening_of state_of layout_by
one_frame =
    let c0 = opening_within (layout_by 1 0 65536) in
    let c1 = queue_within _ 0 (0 ∷ []) (pool_within _ 0 (less ((opening_of (layout_by 1 0 65536)).pools 0) 0) c0) (lit≤ tt) in
    let c2 = log_within _ 0 (8 ∷ []) (queue_within _ 0 [] c1 (lit≤ tt)) (lit≤ tt) in
    worked _ _ _ _ refl refl (
      (refl, tt),
      c0,
      (λ _. refl),
      (
        (lit< tt, (refl, tt)),
        c1,
        (λ e. absurd (cc)),
        ((refl, (refl, tt)), c2, (λ e. absurd (cc)), ((refl, tt), c2, (λ _. refl), ((refl, tt), c2, (λ _. refl), ((refl, tt), c2, (λ _. refl), ((refl, tt), c2, (λ _. refl), tt))))),
      ),
    )
    (states _ _
    (at_two _ _ refl refl (λ n. refl))
    (at_each _ _ refl (λ n. beyond2 (empty (1 ∷ [])) _ _ n))
    (at_each _ _ (let e = fun_ext task_gone in λ i. record { count = e i; held = 0; slots = 1 }) (λ n. beyond (λ p. pool_of (get_or (1 ∷ []) p 0) (get_or ((0 ∷ []) ∷ []) p [])) _ n))
    (at_each _ _ refl (λ n. beyond (empty (65536 ∷ [])) _ n))
    (at_each _ _ refl (λ n. refl)))
    (λ k n m. (n, (n, (n, (n, (n, (n, (n, tt)))))))) (refl, (refl, (refl, (refl, (refl, (refl, (refl, tt))))))) tt
    ((λ e. absurd (cc)), ((λ e. lit< tt), ((λ e. lit< tt), ((λ e. absurd (cc)), ((λ e. absurd (cc)), ((λ e. absurd (cc)), ((λ e. absurd (cc)), tt)))))))
    no_sights

two_fragments : TwoFragments
unfolding opening_of state_of layout_by
two_fragments =
    let c0 = opening_within (layout_by 2 1 65536) in
    let c2 = queue_within _ 0 (1 ∷ []) c0 (lit≤ tt) in
    let c3 = log_within _ 0 (6 ∷ []) (queue_within _ 0 [] c2 (lit≤ tt)) (lit≤ tt) in
    worked _ _ _ _ refl refl (
      (refl, tt),
      c0,
      (λ _. refl),
      (
        (lit< tt, (refl, (refl, tt))),
        record { queues = c0.queues; logs = c0.logs },
        (λ e. absurd (cc)),
        (
          (refl, tt),
          record { queues = c0.queues; logs = c0.logs },
          (λ _. refl),
          (
            (lit< tt, (refl, (refl, (refl, (refl, tt))))),
            record { queues = c2.queues; logs = c2.logs },
            (λ e. absurd (cc)),
            (
              (refl, (refl, (refl, (refl, (refl, (refl, (refl, tt))))))),
              record { queues = c3.queues; logs = c3.logs },
              (λ e. absurd (cc)),
              (
                (refl, tt),
                record { queues = c3.queues; logs = c3.logs },
                (λ _. refl),
                (
                  (refl, tt),
                  record { queues = c3.queues; logs = c3.logs },
                  (λ _. refl),
                  ((refl, tt), record { queues = c3.queues; logs = c3.logs }, (λ _. refl), ((refl, tt), record { queues = c3.queues; logs = c3.logs }, (λ _. refl), tt)),
                ),
              ),
            ),
          ),
        ),
      ),
    )
    (states _ _
    (at_two _ _ (fun_ext word_gone) (fun_ext link_gone) (λ n. maps_beyond _ _ _ _ _ n))
    (at_each _ _ refl (λ n. beyond2 (empty (2 ∷ [])) _ _ n))
    (at_each _ _ (let e = fun_ext tasks_gone in λ i. record { count = e i; held = 0; slots = 2 }) (λ n. beyond2 (λ p. pool_of (get_or (2 ∷ []) p 0) (get_or ((0 ∷ 1 ∷ []) ∷ []) p [])) _ _ n))
    (at_each _ _ refl (λ n. beyond (empty (65536 ∷ [])) _ n))
    (at_each _ _ refl (λ n. refl)))
    (λ k n m. (n, (n, (n, (n, (n, (n, (n, (n, (n, tt)))))))))) (refl, (refl, (refl, (refl, (refl, (refl, (refl, (refl, (refl, tt))))))))) tt
    ((λ e. absurd (cc)), ((λ e. lit< tt), ((λ e. absurd (cc)), ((λ e. lit< tt), ((λ e. lit< tt), ((λ e. absurd (cc)), ((λ e. absurd (cc)), ((λ e. absurd (cc)), ((λ e. absurd (cc)), tt)))))))))
    no_sights

pub worked_histories : WorkedHistories
worked_histories = record {
  refused_commit = refused_commit;
  readers_at_one_place = readers_at_one_place;
  item_taken_again = item_taken_again;
  child_made_again = child_made_again;
  children_dropped = children_dropped;
  entry_came_since = entry_came_since;
  appends_by_commit = appends_by_commit;
  queue_full = queue_full;
  two_keys = two_keys;
  each_call = each_call;
  one_frame = one_frame;
  two_fragments = two_fragments;
}
