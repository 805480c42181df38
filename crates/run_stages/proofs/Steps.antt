-- Each record that a worker may commit leads from a lawful state to a lawful state.
use Rattle.std.proofs.Common.{◌≡◌, ◌≢◌, ℕ, ◌+◌, ◌*◌, ◌<◌, ◌≤◌, List, [], ◌∷◌, ◌++◌, ◌⊎◌, length, inl, inr, ⊎_elim, sym, refl, ap, ◌∙◌, subst, arith}
use Rattle.std.specs.Prelude.{Option, Some, None}
use Rattle.serial_terms.specs.declared.call.Call.TheVariants.{MapGet, MapRemove, Enqueue, Dequeue, QueueLen, Take, CellGet, CellPut}
use Rattle.serial_terms.specs.declared.call.Reply.TheVariants.{Nothing, Value}
use Rattle.serial_terms.specs.declared.call.Done.{Done}
use Rattle.serial_terms.specs.Counts.{times, with_at}
use Rattle.serial_terms.specs.Histories.{Runs}
use Rattle.serial_terms.specs.Serial.{put_log, State, less, put_map, put_queue, put_cell, rest, outside, in_child}
use Rattle.serial_terms.specs.Laws.{RunsInParts}
use Rattle.run_stages.specs.Work.{Work, IsSoundWork, IsWhole, IsMember, task_item, group_item, group_word, head_of}
use Rattle.run_stages.specs.Allowed.{take_whole, take_fragment, match_whole, match_group, nothing_queued, nothing_pooled, fill, added, ready, walk, Appends, gives, next_batch, new_bytes, new_total, new_word}
use Rattle.run_stages.specs.Stages.{Stages, IsLawful, LeadThrough, chain_bytes, chain_total, chain_word}
use Rattle.run_stages.specs.Laws.{AllowedKeepsLawful}
use Rattle.run_stages.proofs.Taking.{whole_taken}
use Rattle.run_stages.proofs.Matching.{whole_matched, group_matched, lead_same}
use Rattle.run_stages.proofs.Adding.{heads, chain_once, not_chained, not_linked, bytes_now, total_now, ready_if, ready_then, fragment_added, IsReady}
use Rattle.run_stages.proofs.Filling.{filled}
use Rattle.run_stages.proofs.Runs.{found_same, found_value, first_value, appends_run, gives_run, ready_run, walk_run, with_links}
use Rattle.serial_terms.specs.Facts.{with_at_same, with_at_other, with_at_own}

no_chain : (w : Work) (c : List ℕ) → chain_word w c ≡ None → c ≡ []
no_chain w [] e = refl
no_chain w (j ∷ js) e = absurd (cc)

module _ (w : Work) (p : IsSoundWork w) (s : State) (l : IsLawful w s) where
  took_whole : (i : ℕ) (t : State) → IsWhole w i → Runs s (outside (Take 0) (Value i) ∷ in_child (Enqueue 0 (task_item i)) Nothing ∷ []) t → IsLawful w t
  took_whole i t a r = subst (IsLawful w) r.1.1 (record {
    matched = l.matched;
    chain = l.chain;
    stages = whole_taken l.stages i r.0 a;
  })

  matched_whole : (i : ℕ) (more : List Done) (t : State) → Appends w (w.task_values i) more → Runs s (outside (Dequeue 0) (Value (task_item i)) ∷ more) t → IsLawful w t
  matched_whole i more t a r = let q = first_value (task_item i) (s.queues 0).items r.0 in
      let e = appends_run w (w.task_values i) more (put_queue s 0 (rest (s.queues 0).items)) t a r.1 in
      subst (IsLawful w) e (record {
        matched = l.matched ++ task_item i ∷ [];
        chain = l.chain;
        stages = whole_matched l.stages (rest (s.queues 0).items) i (q.1 ∙ ap (λ (z : List ℕ). task_item i ∷ z) (sym (ap rest q.1)));
      })

  matched_group : RunsInParts → (h x : ℕ) (before : List ℕ) (more : List Done) (t : State) → Appends w (w.group_values h) more
      → Runs s (outside (Dequeue 0) (Value (group_item h)) ∷ outside (MapGet 0 h) (Value x) ∷ outside (MapRemove 0 h) Nothing ∷ (walk w (head_of x) before ++ more)) t → IsLawful w t
  matched_group parts h x before more t a r =
      let g = l.stages in
      let q = first_value (group_item h) (s.queues 0).items r.0 in
      let c = heads g p h x (found_value x (s.maps 0 h) r.1.0) in
      let once : (j : ℕ) → times j (head_of x ∷ c.0) ≤ 1 = λ j. (let o = chain_once g h j in let b = ap (times j) c.1 in omega arith) in
      let u : State = put_map (put_queue s 0 (rest (s.queues 0).items)) 0 h None in
      let two = (parts (walk w (head_of x) before) more u t).0 r.1.1.1 in
      let v = walk_run w c.0 (head_of x) before u two.0 (subst (LeadThrough w (s.maps 1)) c.1 (g.lead h)) once two.1 in
      let e = appends_run w (w.group_values h) more (with_links u v.fewer) t a (subst (λ (z : State). Runs z more t) (sym v.state) two.2) in
      subst (IsLawful w) {x = put_log (with_links u v.fewer) 0 ((s.logs 0).items ++ w.group_values h)} e (record {
        matched = l.matched ++ group_item h ∷ [];
        chain = with_at l.chain h [];
        stages = group_matched g (rest (s.queues 0).items) h (q.1 ∙ ap (λ (z : List ℕ). group_item h ∷ z) (sym (ap rest q.1))) v.fewer
            (λ j m. v.cleared j (let b = ap (times j) c.1 in omega arith)) (λ j m. v.kept j (let b = ap (times j) c.1 in omega arith));
      })

  filled_up : (f : ℕ) (t : State) → 4096 * (f + 1) < length w.tasks
      → Runs s (outside (QueueLen 0) (Value 0) ∷ outside (CellGet 0) (Value f) ∷ outside (CellPut 0 (f + 1)) Nothing ∷ gives w (next_batch w f)) t → IsLawful w t
  filled_up f t short r =
      let g = l.stages in
      let empty : length (s.queues 0).items ≡ 0 = (let z : Value 0 ≡ Value (length (s.queues 0).items) = r.0 in let y : 0 ≡ length (s.queues 0).items = cc in sym y) in
      let same : s.cells 0 ≡ f = (let z : Value f ≡ Value (s.cells 0) = r.1.0 in let y : f ≡ s.cells 0 = cc in sym y) in
      let room : (s.pools 0).held ≤ (s.pools 0).slots = (let a = g.fits in let b = g.slots in omega arith) in
      let e = gives_run w (next_batch w f) (put_cell s 0 (f + 1)) t room r.1.1.1 in
      let stages = subst (λ (z : ℕ). Stages w z (s.pools 0) (s.queues 0) (s.maps 0) (s.maps 1) (s.logs 0).items l.matched l.chain) same g in
      subst (IsLawful w) e.0 (record {
        matched = l.matched;
        chain = l.chain;
        stages = filled stages short empty e.1;
      })

  -- ---- a fragment is added

  module _ (h i : ℕ) (m : IsMember w h i) (there : 0 < (s.pools 0).count i) where
    -- what is left once the links are as they are to be
    module _ (old : Option ℕ) (is : old ≡ s.maps 0 h) (links : ℕ → Option ℕ) (lead : LeadThrough w links (i ∷ l.chain h)) (kept : (j : ℕ) → j ≢ i → links j ≡ s.maps 1 j) where
      bytes : new_bytes w i old ≡ chain_bytes w (i ∷ l.chain h)
      bytes = ap (new_bytes w i) is ∙ bytes_now l.stages p h i m there

      total : new_total w i old ≡ chain_total w (i ∷ l.chain h)
      total = ap (new_total w i) is ∙ total_now l.stages p h i m there

      word : Some (new_word w i old) ≡ chain_word w (i ∷ l.chain h)
      word = λ x. Some (group_word i (bytes x) (total x))

      abbrev Ready : Type 0
      Ready = IsReady l.stages p h i m there

      -- the state before the group's item may be put into the queue
      abbrev before : State
      before = record s { pools = with_at s.pools 0 (less (s.pools 0) i); maps = with_at (with_at s.maps 0 (with_at (s.maps 0) h (Some (new_word w i old)))) 1 links }

      lawful_with : (items : List ℕ) → (Ready × (items ≡ (s.queues 0).items ++ group_item h ∷ [])) ⊎ ((Ready → ⊥) × (items ≡ (s.queues 0).items))
          → Stages w (s.cells 0) (less (s.pools 0) i) (record { items = items; capacity = (s.queues 0).capacity }) (with_at (s.maps 0) h (Some (new_word w i old))) links (s.logs 0).items l.matched (with_at l.chain h (i ∷ l.chain h))
      lawful_with items q = fragment_added l.stages p h i m there (new_word w i old) word links lead kept items q

      pub then_ready : (t : State) → Runs before (ready w h (new_bytes w i old) (new_total w i old)) t → IsLawful w t
      then_ready t r = ⊎_elim
          (λ y. subst (IsLawful w) y.2 (record {
            matched = l.matched;
            chain = with_at l.chain h (i ∷ l.chain h);
            stages = lawful_with ((s.queues 0).items ++ group_item h ∷ [])
                (inl (ready_if l.stages p h i m there (sym bytes ∙ (y.0 ∙ total)) (λ z. y.1 (total ∙ z)), refl));
          }))
          (λ y. subst (IsLawful w) y.1 (record {
            matched = l.matched;
            chain = with_at l.chain h (i ∷ l.chain h);
            stages = lawful_with (s.queues 0).items
                (inr ((λ k. let z = ready_then l.stages p h i m there k in y.0 (bytes ∙ (z.0 ∙ sym total)) (λ x. z.1 (sym total ∙ x))), refl));
          }))
          (ready_run w h (new_bytes w i old) (new_total w i old) before t r)

    option_cases : (o : Option ℕ) → ((j : ℕ) → o ≡ Some j → ⊥) → o ≡ None
    option_cases None n = refl
    option_cases (Some j) n = absurd (n j refl)

    took_fragment : (old : Option ℕ) (t : State) → Runs s (outside (Take 0) (Value i) ∷ added w h i old) t → IsLawful w t
    took_fragment None t r =
        let e : None ≡ s.maps 0 h = found_same None (s.maps 0 h) r.1.0 in
        let c : l.chain h ≡ [] = no_chain w (l.chain h) (sym (l.stages.word h) ∙ sym e) in
        let lead : LeadThrough w (s.maps 1) (i ∷ l.chain h) = subst (λ (z : List ℕ). LeadThrough w (s.maps 1) (i ∷ z)) (sym c) (option_cases (s.maps 1 i) (not_linked l.stages p h i m there)) in
        let words : ℕ → ℕ → Option ℕ = with_at s.maps 0 (with_at (s.maps 0) h (Some (new_word w i None))) in
        let back : record s { pools = with_at s.pools 0 (less (s.pools 0) i); maps = words } ≡ before None e (s.maps 1) lead (λ j n. refl) = λ x. record s { pools = with_at s.pools 0 (less (s.pools 0) i); maps = sym (with_at_own words 1) x } in
        then_ready None e (s.maps 1) lead (λ j n. refl) t (subst (λ (z : State). Runs z (ready w h (new_bytes w i None) (new_total w i None)) t) back r.1.1.1)
    took_fragment (Some x) t r =
        let e : Some x ≡ s.maps 0 h = found_same (Some x) (s.maps 0 h) r.1.0 in
        let c = heads l.stages p h x (sym e) in
        let far : (j : ℕ) → 0 < times j (head_of x ∷ c.0) → j ≢ i = λ j y z. (let a = not_chained l.stages p h i m there h in let b = ap (times j) c.1 in let d = ap (λ (k : ℕ). times k (l.chain h)) z in omega arith) in
        let lead : LeadThrough w (with_at (s.maps 1) i (Some (head_of x))) (i ∷ l.chain h) = subst (λ (z : List ℕ). LeadThrough w (with_at (s.maps 1) i (Some (head_of x))) (i ∷ z)) (sym c.1) (
          with_at_same (s.maps 1) i (Some (head_of x)) i refl,
          lead_same w (s.maps 1) (with_at (s.maps 1) i (Some (head_of x))) (head_of x ∷ c.0) (λ j y. with_at_other (s.maps 1) i (Some (head_of x)) j (far j y)) (subst (LeadThrough w (s.maps 1)) c.1 (l.stages.lead h)),
        ) in
        then_ready (Some x) e (with_at (s.maps 1) i (Some (head_of x))) lead (λ j n. with_at_other (s.maps 1) i (Some (head_of x)) j n) t r.1.1.1.1

pub steps : RunsInParts → AllowedKeepsLawful
steps parts w p ds (take_whole i a e) s t l r = took_whole w p s l i t a (subst (λ (z : List Done). Runs s z t) e r)
steps parts w p ds (take_fragment h i old m e) s t l r = let x = subst (λ (z : List Done). Runs s z t) e r in took_fragment w p s l h i m x.0 old t x
steps parts w p ds (match_whole i more a v e) s t l r = matched_whole w p s l i more t v (subst (λ (z : List Done). Runs s z t) e r)
steps parts w p ds (match_group h x before more b v e) s t l r = matched_group w p s l parts h x before more t v (subst (λ (z : List Done). Runs s z t) e r)
steps parts w p ds (nothing_queued e) s t l r = subst (IsLawful w) (subst (λ (z : List Done). Runs s z t) e r).1 l
steps parts w p ds (nothing_pooled e) s t l r = subst (IsLawful w) (subst (λ (z : List Done). Runs s z t) e r).1 l
steps parts w p ds (fill f short e) s t l r = filled_up w p s l f t short (subst (λ (z : List Done). Runs s z t) e r)
