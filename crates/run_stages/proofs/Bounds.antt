-- How much the records of a run take.
use Rattle.std.proofs.Common.{◌≡◌, ℕ, ◌+◌, ◌-◌, ◌*◌, ◌<◌, ◌≤◌, List, [], ◌∷◌, ◌++◌, ◌⊎◌, length, inl, inr, ⊎_elim, sym, refl, ap, ◌∙◌, subst, arith, eqb, eq-eqb, ne_eqb}
use Rattle.std.specs.Prelude.{Option, Some, None}
use mathlib.Core.Logic.{dite}
use native.Mathlib.Decide.{ℕ_discrete}
use Rattle.serial_terms.specs.declared.call.Call.{Call}
use Rattle.serial_terms.specs.declared.call.Call.TheVariants.{MapGet, MapPut, MapRemove, MapPutIfAbsent, Enqueue, Dequeue, QueueLen, Take, Give, Append, AppendPlaced, LogRead, LogLen, CellGet, CellPut}
use Rattle.serial_terms.specs.declared.call.Reply.{Reply}
use Rattle.serial_terms.specs.declared.call.Reply.TheVariants.{Nothing, Absent, Value}
use Rattle.serial_terms.specs.declared.call.Done.{Done}
use Rattle.serial_terms.specs.Entries.{Entry, Each}
use Rattle.serial_terms.specs.Histories.{Runs, IsLegalRun}
use Rattle.serial_terms.specs.Serial.{State, found, Pool, Sequence, after, rest, step, put_cell, outside, in_child}
use Rattle.serial_terms.specs.Stores.{opening_of}
use Rattle.serial_terms.specs.Laws.{RunsInParts}
use Rattle.run_stages.specs.Work.{Work, IsSoundWork, given_count, head_of, task_item, group_item}
use Rattle.run_stages.specs.Allowed.{IsAllowed, take_whole, take_fragment, match_whole, match_group, nothing_queued, nothing_pooled, fill, linked, ready, walk, Appends, gives, next_batch, new_bytes, new_total, new_word}
use Rattle.run_stages.specs.Stages.{IsLawful}
use Rattle.run_stages.specs.Opening.{opening, IsRunOfWork}
use Rattle.run_stages.specs.Ends.{took_task, took_item, tasks_taken, items_taken, all_tasks_taken, all_items_taken, is_fill, fills_made}
use Rattle.run_stages.specs.Laws.{AllowedKeepsLawful, RunsEndLawful, RunsAreBounded, FillsAreCounted}
use Rattle.run_stages.proofs.Counting.{numbers_length, push_length}
use Rattle.run_stages.proofs.Opens.{opens}
use Rattle.run_stages.proofs.Runs.{first_value, gives_run}
use Rattle.run_stages.proofs.Taking.{some_held}
use Rattle.std.proofs.lemmas.Bool.{cond-true, cond-false}
use Rattle.serial_terms.specs.Facts.{each_append}
use Rattle.serial_terms.specs.RunLayout.{layout_by}

-- ---- calls that touch neither pools nor queues nor plain cells

abbrev IsAside : Call → Type 0
IsAside (MapGet m k) = Unit {0}
IsAside (MapPut m k v) = Unit {0}
IsAside (MapRemove m k) = Unit {0}
IsAside (AppendPlaced l v) = Unit {0}
IsAside (MapPutIfAbsent m k v) = ⊥
IsAside (Enqueue q v) = ⊥
IsAside (Dequeue q) = ⊥
IsAside (QueueLen q) = ⊥
IsAside (Take p) = ⊥
IsAside (Give p v) = ⊥
IsAside (Append l v) = ⊥
IsAside (LogRead l i) = ⊥
IsAside (LogLen l) = ⊥
IsAside (CellGet c) = ⊥
IsAside (CellPut c v) = ⊥

record Beside (s t : State) : Type 0 where
  pools : t.pools ≡ s.pools
  queues : t.queues ≡ s.queues
  cells : t.cells ≡ s.cells

record Aside (c : Call) (r : Reply) : Type 0 where
  leaves : (s : State) → Beside s (after s c r)
  no_task : took_task c r ≡ 0
  no_item : took_item c r ≡ 0

same : (s : State) → Beside s s
same s = record { pools = refl; queues = refl; cells = refl }

aside : (c : Call) (r : Reply) → IsAside c → Aside c r
aside (MapGet m k) r a = record { leaves = same; no_task = refl; no_item = refl }
aside (MapPut m k v) r a = record { leaves = λ s. record { pools = refl; queues = refl; cells = refl }; no_task = refl; no_item = refl }
aside (MapRemove m k) r a = record { leaves = λ s. record { pools = refl; queues = refl; cells = refl }; no_task = refl; no_item = refl }
aside (AppendPlaced l v) r a = record { leaves = λ s. record { pools = refl; queues = refl; cells = refl }; no_task = refl; no_item = refl }
aside (MapPutIfAbsent m k v) r a = absurd a
aside (Enqueue q v) r a = absurd a
aside (Dequeue q) r a = absurd a
aside (QueueLen q) r a = absurd a
aside (Take p) r a = absurd a
aside (Give p v) r a = absurd a
aside (Append l v) r a = absurd a
aside (LogRead l i) r a = absurd a
aside (LogLen l) r a = absurd a
aside (CellGet c) r a = absurd a
aside (CellPut c v) r a = absurd a

asides_leave : (ds : List Done) (s t : State) → Each (λ d. IsAside d.call) ds → Runs s ds t → Beside s t
asides_leave [] s t a r = subst (Beside s) r (same s)
asides_leave (d ∷ ds) s t a r = let h = (aside d.call d.reply a.0).leaves s in let i = asides_leave ds (step s d) t a.1 r.1 in record { pools = i.pools ∙ h.pools; queues = i.queues ∙ h.queues; cells = i.cells ∙ h.cells }

asides_no_task : (ds : List Done) → Each (λ d. IsAside d.call) ds → tasks_taken ds ≡ 0
asides_no_task [] a = refl
asides_no_task (d ∷ ds) a = let h = (aside d.call d.reply a.0).no_task in let i = asides_no_task ds a.1 in omega arith

asides_no_item : (ds : List Done) → Each (λ d. IsAside d.call) ds → items_taken ds ≡ 0
asides_no_item [] a = refl
asides_no_item (d ∷ ds) a = let h = (aside d.call d.reply a.0).no_item in let i = asides_no_item ds a.1 in omega arith

tasks_append : (xs ys : List Done) → tasks_taken (xs ++ ys) ≡ tasks_taken xs + tasks_taken ys
tasks_append [] ys = omega arith
tasks_append (x ∷ xs) ys = let i = tasks_append xs ys in omega arith

items_append : (xs ys : List Done) → items_taken (xs ++ ys) ≡ items_taken xs + items_taken ys
items_append [] ys = omega arith
items_append (x ∷ xs) ys = let i = items_append xs ys in omega arith

module _ (w : Work) where
  walk_aside : (i : ℕ) (before : List ℕ) → Each (λ d. IsAside d.call) (walk w i before)
  walk_aside i [] = (tt, tt)
  walk_aside i (j ∷ js) = (tt, (tt, walk_aside j js))

  appends_aside : (vs : List ℕ) (ds : List Done) → Appends w vs ds → Each (λ d. IsAside d.call) ds
  appends_aside [] [] a = tt
  appends_aside [] (d ∷ ds) a = absurd a
  appends_aside (v ∷ vs) [] a = absurd a
  appends_aside (v ∷ vs) (d ∷ ds) a = (subst IsAside (sym a.0) tt, appends_aside vs ds a.2)

  linked_aside : (i : ℕ) (old : Option ℕ) → Each (λ d. IsAside d.call) (linked w i old)
  linked_aside i None = tt
  linked_aside i (Some x) = (tt, tt)

  gives_no_task : (xs : List ℕ) → (tasks_taken (gives w xs) ≡ 0) × (items_taken (gives w xs) ≡ 0)
  gives_no_task [] = (refl, refl)
  gives_no_task (x ∷ xs) = let i = gives_no_task xs in let a = i.0 in let b = i.1 in (omega arith, omega arith)

  -- what a record takes, against what it leaves
  record Balance (s : State) (ds : List Done) (t : State) : Type 0 where
    tasks : tasks_taken ds + (t.pools 0).held + given_count w (s.cells 0) ≡ (s.pools 0).held + given_count w (t.cells 0)
    items : items_taken ds + length (t.queues 0).items ≤ length (s.queues 0).items + tasks_taken ds
    fills : t.cells 0 ≡ is_fill ds + s.cells 0

  -- at the most one item is put into queue 0
  abbrev MayEnqueue : List Done → Type 0
  MayEnqueue es = (es ≡ []) ⊎ ((x : ℕ) × (es ≡ in_child (Enqueue 0 x) Nothing ∷ []))

  ready_may : (h bytes total : ℕ) → MayEnqueue (ready w h bytes total)
  ready_may h b n = dite (ℕ_discrete b n)
      (λ e. dite (ℕ_discrete n 0)
      (λ z. inl (cond-true (eqb b n) _ _ (eq-eqb b n e) ∙ cond-true (eqb n 0) _ _ (eq-eqb n 0 z)))
      (λ z. inr (group_item h, cond-true (eqb b n) _ _ (eq-eqb b n e) ∙ cond-false (eqb n 0) _ _ (ne_eqb n 0 z))))
      (λ z. inl (cond-false (eqb b n) _ _ (ne_eqb b n z)))

  module _ (parts : RunsInParts) (s t : State) (l : IsLawful w s) where
    held_some : (i : ℕ) → 0 < (s.pools 0).count i → 0 < (s.pools 0).held
    held_some i m = some_held l.stages i m

    -- a task was taken, calls aside were made, and an item was put into the queue or not
    took : (i : ℕ) (bs es : List Done) → Each (λ d. IsAside d.call) bs → MayEnqueue es → Runs s (outside (Take 0) (Value i) ∷ (bs ++ es)) t → Balance s (outside (Take 0) (Value i) ∷ (bs ++ es)) t
    took i bs es a m r =
        let h = held_some i r.0 in
        let u : State = step s (outside (Take 0) (Value i)) in
        let two = (parts bs es u t).0 r.1 in
        let b = asides_leave bs u two.0 a two.1 in
        let x = tasks_append bs es in let y = items_append bs es in let z = asides_no_task bs a in let v = asides_no_item bs a in
        let pools = ap (λ (p : ℕ → Pool). (p 0).held) b.pools in let queues = ap (λ (q : ℕ → Sequence). length (q 0).items) b.queues in let cells = ap (λ (c : ℕ → ℕ). given_count w (c 0)) b.cells in
        ⊎_elim
        (λ e. let end : two.0 ≡ t = subst (λ (k : List Done). Runs two.0 k t) e two.2 in let p = ap (λ (k : State). (k.pools 0).held) end in let q = ap (λ (k : State). length (k.queues 0).items) end in let c = ap (λ (k : State). given_count w (k.cells 0)) end in
        let f = ap tasks_taken e in let g = ap items_taken e in record { tasks = omega arith; items = omega arith; fills = kept two.0 b.cells end })
        (λ e. let run : Runs two.0 (in_child (Enqueue 0 e.0) Nothing ∷ []) t = subst (λ (k : List Done). Runs two.0 k t) e.1 two.2 in let end = run.1 in let p = ap (λ (k : State). (k.pools 0).held) end in let q = ap (λ (k : State). length (k.queues 0).items) end in let c = ap (λ (k : State). given_count w (k.cells 0)) end in
        let n = push_length (two.0.queues 0).items e.0 in
        let f = ap tasks_taken e.1 in let g = ap items_taken e.1 in record { tasks = omega arith; items = omega arith; fills = put two.0 e.0 b.cells end })
        m
      where
        kept : (u : State) → u.cells ≡ s.cells → u ≡ t → t.cells 0 ≡ 0 + s.cells 0
        kept u a e = let c = ap (λ (z : ℕ → ℕ). z 0) a in let d = ap (λ (z : State). z.cells 0) e in omega arith

        put : (u : State) (x : ℕ) → u.cells ≡ s.cells → step u (in_child (Enqueue 0 x) Nothing) ≡ t → t.cells 0 ≡ 0 + s.cells 0
        put u x a e = let c = ap (λ (z : ℕ → ℕ). z 0) a in let d = ap (λ (z : State). z.cells 0) e in omega arith

    -- an item was taken, and calls aside were made
    matched : (x : ℕ) (bs : List Done) → Each (λ d. IsAside d.call) bs → Runs s (outside (Dequeue 0) (Value x) ∷ bs) t → Balance s (outside (Dequeue 0) (Value x) ∷ bs) t
    matched x bs a r =
        let q = first_value x (s.queues 0).items r.0 in
        let b = asides_leave bs (step s (outside (Dequeue 0) (Value x))) t a r.1 in
        let z = asides_no_task bs a in let v = asides_no_item bs a in
        let pools = ap (λ (p : ℕ → Pool). (p 0).held) b.pools in let queues = ap (λ (k : ℕ → Sequence). length (k 0).items) b.queues in let cells = ap (λ (c : ℕ → ℕ). given_count w (c 0)) b.cells in
        let m = ap length q.1 in let n = ap (λ (k : List ℕ). length (rest k)) q.1 in
        record { tasks = omega arith; items = omega arith; fills = let j = ap (λ (c : ℕ → ℕ). c 0) b.cells in omega arith }

    -- the state stayed
    stayed : (ds : List Done) → tasks_taken ds ≡ 0 → items_taken ds ≡ 0 → is_fill ds ≡ 0 → s ≡ t → Balance s ds t
    stayed ds a b n e = let p = ap (λ (k : State). (k.pools 0).held) e in let q = ap (λ (k : State). length (k.queues 0).items) e in let c = ap (λ (k : State). given_count w (k.cells 0)) e in record { tasks = omega arith; items = omega arith; fills = let j = ap (λ (k : State). k.cells 0) e in omega arith }

    filled : (f : ℕ) → 4096 * (f + 1) < length w.tasks → Runs s (outside (QueueLen 0) (Value 0) ∷ outside (CellGet 0) (Value f) ∷ outside (CellPut 0 (f + 1)) Nothing ∷ gives w (next_batch w f)) t
        → Balance s (outside (QueueLen 0) (Value 0) ∷ outside (CellGet 0) (Value f) ∷ outside (CellPut 0 (f + 1)) Nothing ∷ gives w (next_batch w f)) t
    filled f short r =
        let same : s.cells 0 ≡ f = (let z : Value f ≡ Value (s.cells 0) = r.1.0 in let y : f ≡ s.cells 0 = cc in sym y) in
        let room : (s.pools 0).held ≤ (s.pools 0).slots = (let a = l.stages.fits in let b = l.stages.slots in omega arith) in
        let e = (gives_run w (next_batch w f) (put_cell s 0 (f + 1)) t room r.1.1.1).0 in
        let n = gives_no_task (next_batch w f) in let n0 = n.0 in let n1 = n.1 in
        let p = ap (λ (k : State). (k.pools 0).held) e in let q = ap (λ (k : State). length (k.queues 0).items) e in let c = ap (λ (k : State). k.cells 0) e in
        let m = numbers_length (4096 * (f + 1)) (given_count w (f + 1) - 4096 * (f + 1)) in
        let g : given_count w (s.cells 0) ≡ given_count w f = ap (given_count w) same in let h : given_count w (t.cells 0) ≡ given_count w (f + 1) = ap (given_count w) (sym c) in
        record { tasks = omega arith; items = omega arith; fills = omega arith }

    balance : (ds : List Done) → IsAllowed w ds → Runs s ds t → Balance s ds t
    balance ds (take_whole i a e) r = subst (λ (z : List Done). Balance s z t) (sym e) (took i [] (in_child (Enqueue 0 (task_item i)) Nothing ∷ []) tt (inr (task_item i, refl)) (subst (λ (z : List Done). Runs s z t) e r))
    balance ds (take_fragment h i old m e) r = subst (λ (z : List Done). Balance s z t) (sym e)
        (took i (in_child (MapGet 0 h) (found old) ∷ in_child (MapPut 0 h (new_word w i old)) Nothing ∷ linked w i old) (ready w h (new_bytes w i old) (new_total w i old)) (tt, (tt, linked_aside i old)) (ready_may h (new_bytes w i old) (new_total w i old)) (subst (λ (z : List Done). Runs s z t) e r))
    balance ds (match_whole i more a v e) r = subst (λ (z : List Done). Balance s z t) (sym e) (matched (task_item i) more (appends_aside (w.task_values i) more v) (subst (λ (z : List Done). Runs s z t) e r))
    balance ds (match_group h x before more b v e) r = subst (λ (z : List Done). Balance s z t) (sym e)
        (matched (group_item h) (outside (MapGet 0 h) (Value x) ∷ outside (MapRemove 0 h) Nothing ∷ (walk w (head_of x) before ++ more)) (tt, (tt, each_append (λ d. IsAside d.call) (walk w (head_of x) before) more (walk_aside (head_of x) before) (appends_aside (w.group_values h) more v))) (subst (λ (z : List Done). Runs s z t) e r))
    balance ds (nothing_queued e) r = subst (λ (z : List Done). Balance s z t) (sym e) (stayed (outside (Dequeue 0) Absent ∷ []) refl refl refl (subst (λ (z : List Done). Runs s z t) e r).1)
    balance ds (nothing_pooled e) r = subst (λ (z : List Done). Balance s z t) (sym e) (stayed (outside (Take 0) Absent ∷ []) refl refl refl (subst (λ (z : List Done). Runs s z t) e r).1)
    balance ds (fill f short e) r = subst (λ (z : List Done). Balance s z t) (sym e) (filled f short (subst (λ (z : List Done). Runs s z t) e r))

  -- ---- over a run

  record Bound (s : State) (es : List (Entry Done)) (t : State) : Type 0 where
    lawful : IsLawful w t
    tasks : all_tasks_taken es + (t.pools 0).held + given_count w (s.cells 0) ≡ (s.pools 0).held + given_count w (t.cells 0)
    items : all_items_taken es + length (t.queues 0).items ≤ length (s.queues 0).items + all_tasks_taken es
    fills : t.cells 0 ≡ fills_made es + s.cells 0

  module _ (parts : RunsInParts) (keeps : AllowedKeepsLawful) where
    over_run : IsSoundWork w → (es : List (Entry Done)) (s t : State) → IsLawful w s → Each (λ e. IsAllowed w e.dones) es → IsLegalRun s es t → Bound s es t
    over_run p [] s t l a r = let b = stayed parts s t l [] refl refl refl r in let x = b.tasks in let y = b.items in record { lawful = subst (IsLawful w) r l; tasks = omega arith; items = omega arith; fills = b.fills }
    over_run p (e ∷ es) s t l a r = let m = keeps w p e.dones a.0 s r.0 l r.1 in let b = balance parts s r.0 l e.dones a.0 r.1 in let i = over_run p es r.0 t m a.1 r.4 in
        let x = b.tasks in let y = b.items in let z = i.tasks in let v = i.items in record { lawful = i.lawful; tasks = omega arith; items = omega arith; fills = let f = b.fills in let h = i.fills in omega arith }

    from_opening : IsSoundWork w → (findings : ℕ) (es : List (Entry Done)) (t : State) → IsRunOfWork w findings es t → Bound (opening w findings) es t
    from_opening p findings es t r = over_run p es (opening w findings) t (opens w findings) r.allowed r.run

  opening_held : (findings : ℕ) → ((opening w findings).pools 0).held ≡ given_count w 0
  unfolding opening_of layout_by
  opening_held findings = numbers_length 0 (given_count w 0)

  opening_queue : (findings : ℕ) → length ((opening w findings).queues 0).items ≡ 0
  unfolding opening_of layout_by
  opening_queue findings = refl

  opening_cell : (findings : ℕ) → (opening w findings).cells 0 ≡ 0
  unfolding opening_of layout_by
  opening_cell findings = refl

module _ (parts : RunsInParts) (keeps : AllowedKeepsLawful) where
  pub end_lawful : RunsEndLawful
  end_lawful w p findings es t r = (from_opening w parts keeps p findings es t r).lawful

  pub bounded : RunsAreBounded
  bounded w p findings es t r = let b = from_opening w parts keeps p findings es t r in
      let held = opening_held w findings in let queue = opening_queue w findings in let cell = ap (given_count w) (opening_cell w findings) in
      let x = b.tasks in let y = b.items in let fits = b.lawful.stages.fits in
      (omega arith, omega arith, omega arith, omega arith, omega arith)

  pub fills_counted : FillsAreCounted
  fills_counted w p findings es t r = let b = from_opening w parts keeps p findings es t r in let f = b.fills in let o = opening_cell w findings in
      let same : t.cells 0 ≡ fills_made es = omega arith in
      (same, λ l. let g : given_count w (t.cells 0) ≡ given_count w (fills_made es) = ap (given_count w) same in omega arith)
