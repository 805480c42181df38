-- From the values of places to the state of all cells.
use Rattle.std.proofs.Common.{◌≡◌, ℕ, zero, suc, ◌+◌, ◌<◌, ◌≤◌, ltb, List, [], ◌∷◌, length, take, drop, map, get_or, ap, sym, ◌∙◌, subst, ⊎_elim, arith}
use Rattle.std.proofs.lemmas.Bool.{cond-true, cond-false, lt-ltb, le-ltb, cases_lt}
use Rattle.std.proofs.lemmas.List.{get_or_past, get_or-map, get_or-take, get_or-drop, length-map, length-take}
use Rattle.std.proofs.lemmas.List.Elements.{All-from_get_or}
use Rattle.std.proofs.lemmas.List.Sums.{sum_by-cons}
use Rattle.std.specs.List.{All, sum_by}
use mathlib.Core.Path.{fun_ext}
use Rattle.key_directory.specs.Directory.{KeyListView}
use Rattle.serial_terms.specs.declared.store.Layout.{Layout}
use Rattle.serial_terms.specs.declared.store.StoreState.{StoreState}
use Rattle.serial_terms.specs.Entries.{Each}
use Rattle.serial_terms.specs.Renaming.{by_keys, value_at}
use Rattle.serial_terms.specs.Serial.{pool_of}
use Rattle.serial_terms.specs.Stores.{state_of, slots_of}
use Rattle.serial_terms.specs.Stores as stores
use Rattle.store_contents.proofs.Words.{sized}
use Rattle.store_contents.specs.Contents.{position_below, name_in, AreByKey, AreContents}
use Rattle.store_contents.specs.Places.{words_at, AreThere, AreOfMap, pool_at, queue_at, log_at, IsPoolAt, IsQueueAt, IsLogAt}
use Rattle.store_layout.specs.declared.place.Place.{Place}
use Rattle.store_layout.specs.Facts.{state_is}
use Rattle.store_layout.specs.Plans.{StandFrom, IsPlan, shape_by}
use Rattle.store_layout.specs.Shapes.{Shape, the_map, the_queue, the_pool, the_log, the_cell, shape_of, with_end, first_of, queues_from, pools_from, logs_from, plain_from, cells_of, most_cells}
use Rattle.store_layout.specs.States.{words_of, value_in, items_in, queue_in, log_in, IsQueue, IsLog, state_in, IsFormed}

zero_place : Place
zero_place = record { first = 0; capacity = 0 }

-- a part of a sum
within_sum : (f : ℕ → ℕ) (ns : List ℕ) (i : ℕ) → i < length ns → sum_by f (take i ns) + f (get_or ns i 0) ≤ sum_by f ns
within_sum f [] i less = absurd (omega arith)
within_sum f (n ∷ ns) zero less = omega (arith, sum_by-cons f n ns)
within_sum f (n ∷ ns) (suc i) less = omega (arith, sum_by-cons f n ns, sum_by-cons f n (take i ns), within_sum f ns i (omega arith))

-- ---- places that stand one behind the other

module _ (f : ℕ → ℕ) (from : ℕ) (sizes : List ℕ) (places : List Place) (stand : StandFrom f from sizes places) where
  pub counted : length places ≡ length sizes
  counted = sym (length-map places (λ (p : Place). p.capacity)) ∙ ap length stand.sized

  capacity_at : (i : ℕ) (d : Place) → i < length sizes → (get_or places i d).capacity ≡ get_or sizes i 0
  capacity_at i d less = let n = counted in sym (get_or-map (λ (p : Place). p.capacity) places i d 0 (omega arith)) ∙ ap (λ (z : List ℕ). get_or z i 0) stand.sized

  first_at : (i : ℕ) (d : Place) → i < length sizes → (get_or places i d).first ≡ from + sum_by f (take i sizes)
  first_at i d less = let n = counted in sym (get_or-map (λ (p : Place). p.first) places i d 0 (omega arith)) ∙ stand.firsts i less

  pub all_there : (cells : List ℕ) (end : ℕ) → from + sum_by f sizes ≤ end → length cells ≡ end → end ≤ most_cells → (i : ℕ) (d : Place) → i < length sizes
      → AreThere (get_or places i d).first (f (get_or places i d).capacity) cells
  all_there cells end fits sized small i d less =
      let a = first_at i d less in let c = ap f (capacity_at i d less) in let w = within_sum f sizes i less in
      record { within = omega arith; small = omega arith }

  -- the words of a place, by the number of the structure
  pub words_there : (cells : List ℕ) (i : ℕ) (d : Place) → i < length sizes
      → words_at (get_or places i d).first (f (get_or places i d).capacity) cells ≡ words_at (from + sum_by f (take i sizes)) (f (get_or sizes i 0)) cells
  words_there cells i d less = λ j. words_at (first_at i d less j) (f (capacity_at i d less j)) cells

-- ---- the structures of each kind

module _ (s : Shape) (cells : List ℕ) where
  queue_words : (q : ℕ) → q < length s.queues → words_at (queues_from s + sum_by with_end (take q s.queues)) (with_end (get_or s.queues q 0)) cells ≡ words_of s (the_queue q) cells
  queue_words q less = ap (λ (n : ℕ). take n (drop (first_of s (the_queue q)) cells)) (sym (cond-true {A = ℕ} (ltb q (length s.queues)) (with_end (get_or s.queues q 0)) 0 (lt-ltb q (length s.queues) less)))

  no_queue : (q : ℕ) → length s.queues ≤ q → words_of s (the_queue q) cells ≡ []
  no_queue q past = ap (λ (n : ℕ). take n (drop (first_of s (the_queue q)) cells)) (cond-false {A = ℕ} (ltb q (length s.queues)) (with_end (get_or s.queues q 0)) 0 (le-ltb q (length s.queues) past))

  log_words : (l : ℕ) → l < length s.logs → words_at (logs_from s + sum_by with_end (take l s.logs)) (with_end (get_or s.logs l 0)) cells ≡ words_of s (the_log l) cells
  log_words l less = ap (λ (n : ℕ). take n (drop (first_of s (the_log l)) cells)) (sym (cond-true {A = ℕ} (ltb l (length s.logs)) (with_end (get_or s.logs l 0)) 0 (lt-ltb l (length s.logs) less)))

  no_log : (l : ℕ) → length s.logs ≤ l → words_of s (the_log l) cells ≡ []
  no_log l past = ap (λ (n : ℕ). take n (drop (first_of s (the_log l)) cells)) (cond-false {A = ℕ} (ltb l (length s.logs)) (with_end (get_or s.logs l 0)) 0 (le-ltb l (length s.logs) past))

  no_pool : (p : ℕ) → length s.pools ≤ p → words_of s (the_pool p) cells ≡ []
  no_pool p past = ap (λ (n : ℕ). take n (drop (first_of s (the_pool p)) cells)) (get_or_past s.pools p 0 past)

  map_words : (m : ℕ) → words_at (0 + sum_by (λ c. c) (take m s.maps)) (get_or s.maps m 0) cells ≡ words_of s (the_map m) cells
  map_words m = let e : 0 + sum_by (λ c. c) (take m s.maps) ≡ first_of s (the_map m) = omega arith in ap (λ (n : ℕ). words_at n (get_or s.maps m 0) cells) e

  module _ (places : List Place) where
    pub at_queue : StandFrom with_end (queues_from s) s.queues places → (q : ℕ) → get_or (map (λ p. queue_at cells p) places) q [] ≡ queue_in (words_of s (the_queue q) cells)
    at_queue stand q = let n = counted with_end (queues_from s) s.queues places stand in
        ⊎_elim
        (λ less. get_or-map (λ p. queue_at cells p) places q zero_place [] (omega arith) ∙ ap queue_in (words_there with_end (queues_from s) s.queues places stand cells q zero_place less ∙ queue_words q less))
        (λ past. get_or_past (map (λ p. queue_at cells p) places) q [] (omega (arith, length-map places (λ p. queue_at cells p))) ∙ sym (ap queue_in (no_queue q past)))
        (cases_lt q (length s.queues))

    pub at_log : StandFrom with_end (logs_from s) s.logs places → (l : ℕ) → get_or (map (λ p. log_at cells p) places) l [] ≡ log_in (words_of s (the_log l) cells)
    at_log stand l = let n = counted with_end (logs_from s) s.logs places stand in
        ⊎_elim
        (λ less. get_or-map (λ p. log_at cells p) places l zero_place [] (omega arith) ∙ ap log_in (words_there with_end (logs_from s) s.logs places stand cells l zero_place less ∙ log_words l less))
        (λ past. get_or_past (map (λ p. log_at cells p) places) l [] (omega (arith, length-map places (λ p. log_at cells p))) ∙ sym (ap log_in (no_log l past)))
        (cases_lt l (length s.logs))

    pub at_pool : StandFrom (λ c. c) (pools_from s) s.pools places → (p : ℕ) → get_or (map (λ p. pool_at cells p) places) p [] ≡ items_in (words_of s (the_pool p) cells)
    at_pool stand p = let n = counted (λ c. c) (pools_from s) s.pools places stand in
        ⊎_elim
        (λ less. get_or-map (λ p. pool_at cells p) places p zero_place [] (omega arith) ∙ ap items_in (words_there (λ c. c) (pools_from s) s.pools places stand cells p zero_place less))
        (λ past. get_or_past (map (λ p. pool_at cells p) places) p [] (omega (arith, length-map places (λ p. pool_at cells p))) ∙ sym (ap items_in (no_pool p past)))
        (cases_lt p (length s.pools))

    -- a key's value in the contents of a map
    pub at_map : StandFrom (λ c. c) 0 s.maps places → (keys : KeyListView) → keys.capacities ≡ s.maps → (maps : List (List (ℕ × ℕ))) → length maps ≡ length places
        → ((m : ℕ) (d : Place) → m < length places → AreOfMap cells keys m (get_or places m d) (get_or maps m []))
        → (m key : ℕ) → stores.value_in (get_or maps m []) key ≡ value_at (λ p. value_in (get_or (words_of s (the_map m) cells) p 0)) (name_in keys m key)
    at_map stand keys regions maps size are m key = let n = counted (λ c. c) 0 s.maps places stand in
        ⊎_elim
        (λ less. (are m zero_place (omega arith)).values key
        ∙ ap (λ (ws : List ℕ). value_at (λ p. value_in (get_or ws p 0)) (name_in keys m key)) (words_there (λ c. c) 0 s.maps places stand cells m zero_place less ∙ map_words m))
        (λ past. ap (λ (z : List (ℕ × ℕ)). stores.value_in z key) (get_or_past maps m [] (omega arith))
        ∙ sym (ap (λ (c : ℕ). value_at (λ p. value_in (get_or (words_of s (the_map m) cells) p 0)) (position_below keys m key c)) (get_or_past keys.capacities m 0 (let r = ap length regions in omega arith))))
        (cases_lt m (length s.maps))

  at_cell : length cells ≡ cells_of s → (c : ℕ) → get_or (words_at (plain_from s) s.cells cells) c 0 ≡ get_or (words_of s (the_cell c) cells) 0 0
  at_cell size c = ⊎_elim
      (λ less. let e : plain_from s + c + 0 ≡ plain_from s + c = omega arith in
      get_or-take s.cells (drop (plain_from s) cells) c 0 less ∙ (get_or-drop (plain_from s) cells c 0
      ∙ sym (ap (λ (n : ℕ). get_or (take n (drop (plain_from s + c) cells)) 0 0) (cond-true {A = ℕ} (ltb c s.cells) 1 0 (lt-ltb c s.cells less))
      ∙ (get_or-take 1 (drop (plain_from s + c) cells) 0 0 (omega arith) ∙ (get_or-drop (plain_from s + c) cells 0 0 ∙ ap (λ (n : ℕ). get_or cells n 0) e)))))
      (λ past. get_or_past (words_at (plain_from s) s.cells cells) c 0 (omega (arith, length-take s.cells (drop (plain_from s) cells)))
      ∙ sym (ap (λ (n : ℕ). get_or (take n (drop (plain_from s + c) cells)) 0 0) (cond-false {A = ℕ} (ltb c s.cells) 1 0 (le-ltb c s.cells past))))
      (cases_lt c s.cells)

-- ---- all structures

each_at : {A : Type 0} (P : List A → Type 0) (xs : List (List A)) → ((i : ℕ) → i < length xs → P (get_or xs i [])) → Each P xs
each_at P [] f = tt
each_at P (x ∷ xs) f = (f 0 (omega arith), each_at P xs (λ i less. f (suc i) (omega arith)))

whole_state : (s : Shape) (cells : List ℕ) (keys : KeyListView) (contents : StoreState) (layout : Layout) → s ≡ shape_of layout
    → ((m key : ℕ) → stores.value_in (get_or contents.maps m []) key ≡ value_at (λ p. value_in (get_or (words_of s (the_map m) cells) p 0)) (name_in keys m key))
    → ((q : ℕ) → get_or contents.queues q [] ≡ queue_in (words_of s (the_queue q) cells))
    → ((p : ℕ) → get_or contents.pools p [] ≡ items_in (words_of s (the_pool p) cells))
    → ((l : ℕ) → get_or contents.logs l [] ≡ log_in (words_of s (the_log l) cells))
    → ((c : ℕ) → get_or contents.cells c 0 ≡ get_or (words_of s (the_cell c) cells) 0 0)
    → state_of layout contents ≡ by_keys (name_in keys) (state_in s cells)
unfolding state_of state_in
whole_state s cells keys contents layout same maps queues pools logs plain =
    let back : shape_of layout ≡ s = sym same in
    state_is (state_of layout contents) (by_keys (name_in keys) (state_in s cells))
    (fun_ext (λ m. fun_ext (λ key. maps m key)))
    (fun_ext (λ q. λ i. record { items = queues q i; capacity = get_or (back i).queues q 0 }))
    (fun_ext (λ p. λ i. pool_of (get_or (back i).pools p 0) (pools p i)))
    (fun_ext (λ l. λ i. record { items = logs l i; capacity = get_or (back i).logs l 0 }))
    (fun_ext (λ c. plain c))

module _ (maps queues pools logs : List Place) (plain : Place) (cells : List ℕ) (is : IsPlan maps queues pools logs plain) (formed : IsFormed (shape_by maps queues pools logs plain) cells) where
  abbrev s : Shape
  s = shape_by maps queues pools logs plain

  pub maps_there : All (λ p. IsPoolAt cells p) maps
  maps_there = let small = is.within in let size = formed.sized in let n = counted (λ c. c) 0 s.maps maps is.maps_stand in
      All-from_get_or (λ p. IsPoolAt cells p) maps zero_place (λ i less. all_there (λ c. c) 0 s.maps maps is.maps_stand cells (cells_of s) (omega arith) size small i zero_place (omega arith))

  pub pools_there : All (λ p. IsPoolAt cells p) pools
  pools_there = let small = is.within in let size = formed.sized in let n = counted (λ c. c) (pools_from s) s.pools pools is.pools_stand in
      All-from_get_or (λ p. IsPoolAt cells p) pools zero_place (λ i less. all_there (λ c. c) (pools_from s) s.pools pools is.pools_stand cells (cells_of s) (omega arith) size small i zero_place (omega arith))

  pub queues_there : All (λ p. IsQueueAt cells p) queues
  queues_there = let small = is.within in let size = formed.sized in let n = counted with_end (queues_from s) s.queues queues is.queues_stand in
      All-from_get_or (λ p. IsQueueAt cells p) queues zero_place (λ i less. (
        all_there with_end (queues_from s) s.queues queues is.queues_stand cells (cells_of s) (omega arith) size small i zero_place (omega arith),
        subst IsQueue (sym (words_there with_end (queues_from s) s.queues queues is.queues_stand cells i zero_place (omega arith) ∙ queue_words s cells i (omega arith))) (formed.parts (the_queue i)),
      ))

  pub logs_there : All (λ p. IsLogAt cells p) logs
  logs_there = let small = is.within in let size = formed.sized in let n = counted with_end (logs_from s) s.logs logs is.logs_stand in
      All-from_get_or (λ p. IsLogAt cells p) logs zero_place (λ i less. (
        all_there with_end (logs_from s) s.logs logs is.logs_stand cells (cells_of s) (omega arith) size small i zero_place (omega arith),
        subst IsLog (sym (words_there with_end (logs_from s) s.logs logs is.logs_stand cells i zero_place (omega arith) ∙ log_words s cells i (omega arith))) (formed.parts (the_log i)),
      ))

  pub plain_there : IsPoolAt cells plain
  plain_there = let small = is.within in let size = formed.sized in let at = is.plain_stands in record { within = omega arith; small = omega arith }

  pub contents_stand : (keys : KeyListView) (contents : StoreState) → keys.capacities ≡ s.maps → length contents.maps ≡ length maps
      → ((m : ℕ) (d : Place) → m < length maps → AreOfMap cells keys m (get_or maps m d) (get_or contents.maps m []))
      → contents.queues ≡ map (λ p. queue_at cells p) queues → contents.pools ≡ map (λ p. pool_at cells p) pools → contents.logs ≡ map (λ p. log_at cells p) logs
      → contents.cells ≡ words_at plain.first plain.capacity cells → AreContents s cells keys contents
  contents_stand keys contents regions size are q p l c =
      let pool = λ (i : ℕ). ap (λ (z : List (List ℕ)). get_or z i []) p ∙ at_pool s cells pools is.pools_stand i in
      record {
        state = λ layout same. whole_state s cells keys contents layout same
            (at_map s cells maps is.maps_stand keys regions contents.maps size are)
            (λ i. ap (λ (z : List (List ℕ)). get_or z i []) q ∙ at_queue s cells queues is.queues_stand i)
            pool
            (λ i. ap (λ (z : List (List ℕ)). get_or z i []) l ∙ at_log s cells logs is.logs_stand i)
            (λ i. ap (λ (z : List ℕ). get_or z i 0) c ∙ (ap (λ (n : ℕ). get_or (words_at n plain.capacity cells) i 0) is.plain_stands ∙ at_cell s cells formed.sized i));
        maps = each_at AreByKey contents.maps (λ i less. (are i zero_place (omega arith)).order);
        slots = λ i less. pool i;
        counted = record {
          maps = size ∙ counted (λ c. c) 0 s.maps maps is.maps_stand;
          queues = ap length q ∙ (length-map queues (λ p. queue_at cells p) ∙ counted with_end (queues_from s) s.queues queues is.queues_stand);
          pools = ap length p ∙ (length-map pools (λ p. pool_at cells p) ∙ counted (λ c. c) (pools_from s) s.pools pools is.pools_stand);
          logs = ap length l ∙ (length-map logs (λ p. log_at cells p) ∙ counted with_end (logs_from s) s.logs logs is.logs_stand);
          cells = ap length c ∙ sized plain.first plain.capacity cells (plain_there).within;
        };
      }
