-- The words of a place, as loops go through them.
use Rattle.std.proofs.Common.{◌≡◌, ℕ, zero, suc, ◌+◌, ◌-◌, ◌*◌, ◌%◌, ◌^◌, ◌<◌, ◌≤◌, List, [], ◌∷◌, ◌++◌, length, take, drop, map, get_or, refl, ap, sym, ◌∙◌, subst, arith}
use Rattle.std.proofs.lemmas.List.{take_more, get_or-drop, get_or-take, length-drop, length-take}
use Rattle.store_contents.specs.Places.{words_at, AreThere, queue_at, log_at, IsQueueAt, IsLogAt}
use Rattle.store_layout.specs.declared.place.Place.{Place}
use Rattle.store_layout.specs.States.{items_in, queue_in, log_in, round_from, head_in, length_in, IsQueue, IsLog}

-- one word more
pub word_more : (first n i : ℕ) (cells : List ℕ) → AreThere first n cells → i < n → words_at first (i + 1) cells ≡ words_at first i cells ++ get_or cells (first + i) 0 ∷ []
word_more first n i cells there less =
    let within = there.within in
    take_more (drop first cells) i 0 (omega (arith, length-drop first cells)) ∙ ap (λ (w : ℕ). words_at first i cells ++ w ∷ []) (get_or-drop first cells i 0)

pub cell_more : (first n i : ℕ) (cells values new : List ℕ) → AreThere first n cells → i < n → values ≡ words_at first i cells → new ≡ values ++ get_or cells (first + i) 0 ∷ [] → new ≡ words_at first (i + 1) cells
cell_more first n i cells values new there less is added = added ∙ (ap (λ (z : List ℕ). z ++ get_or cells (first + i) 0 ∷ []) is ∙ sym (word_more first n i cells there less))

pub word_there : (first n i : ℕ) (cells : List ℕ) → i < n → get_or (words_at first n cells) i 0 ≡ get_or cells (first + i) 0
word_there first n i cells less = get_or-take n (drop first cells) i 0 less ∙ get_or-drop first cells i 0

items_both : (xs ys : List ℕ) → items_in (xs ++ ys) ≡ items_in xs ++ items_in ys
items_both [] ys = refl
items_both (zero ∷ xs) ys = items_both xs ys
items_both (suc v ∷ xs) ys = ap (λ (zs : List ℕ). v ∷ zs) (items_both xs ys)

pub item_more : (first n i : ℕ) (cells items new : List ℕ) → AreThere first n cells → i < n → items ≡ items_in (words_at first i cells)
    → new ≡ items ++ items_in (get_or cells (first + i) 0 ∷ []) → new ≡ items_in (words_at first (i + 1) cells)
item_more first n i cells items new there less is added =
    added ∙ (ap (λ (z : List ℕ). z ++ items_in (get_or cells (first + i) 0 ∷ [])) is
    ∙ (sym (items_both (words_at first i cells) (get_or cells (first + i) 0 ∷ [])) ∙ ap items_in (sym (word_more first n i cells there less))))

-- the first word of a place, and those behind it
pub words_behind : (first n : ℕ) (cells : List ℕ) → first + (n + 1) ≤ length cells → words_at first (n + 1) cells ≡ get_or cells first 0 ∷ words_at (first + 1) n cells
words_behind zero n [] within = absurd (omega arith)
words_behind zero n (c ∷ cs) within =
    let e : n + 1 ≡ suc n = omega arith in let f : 0 + 1 ≡ suc 0 = omega arith in
    ap (λ (z : ℕ). take z (c ∷ cs)) e ∙ ap (λ (z : ℕ). c ∷ take n (drop z (c ∷ cs))) (sym f)
words_behind (suc first) n [] within = absurd (omega arith)
words_behind (suc first) n (c ∷ cs) within =
    let e : suc first + 1 ≡ suc (first + 1) = omega arith in
    words_behind first n cs (omega arith) ∙ ap (λ (z : ℕ). get_or cs first 0 ∷ take n (drop z (c ∷ cs))) (sym e)

pub sized : (first n : ℕ) (cells : List ℕ) → first + n ≤ length cells → length (words_at first n cells) ≡ n
sized first n cells within = omega (arith, length-take n (drop first cells), length-drop first cells)

-- ---- queues

-- the head and the length of a queue are the parts of its end
halves : (word head count : ℕ) → count < 2 ^ 32 → word ≡ head * 2 ^ 32 + count → (head_in word ≡ head) × (length_in word ≡ count)
halves word head count small is = (omega arith, omega arith)

pub ring : (cells : List ℕ) (p : Place) (head count : ℕ) → count < 2 ^ 32 → IsQueueAt cells p → get_or cells p.first 0 ≡ head * 2 ^ 32 + count
    → ((head < p.capacity) × (count ≤ p.capacity)) × (queue_at cells p ≡ round_from (words_at (p.first + 1) p.capacity cells) head count)
ring cells p head count small is word =
    let parts = halves (get_or cells p.first 0) head count small word in
    let whole = words_behind p.first p.capacity cells is.0.within in
    let all = sized (p.first + 1) p.capacity cells (let w = is.0.within in omega arith) in
    let fits : IsQueue (get_or cells p.first 0 ∷ words_at (p.first + 1) p.capacity cells) = subst IsQueue whole is.1 in
    let low = fits.0 in let high = fits.1 in let h = parts.0 in let l = parts.1 in
    ((omega arith, omega arith), ap queue_in whole ∙ (λ i. round_from (words_at (p.first + 1) p.capacity cells) (parts.0 i) (parts.1 i)))

round_more : (ws : List ℕ) (at n : ℕ) → round_from ws at (suc n) ≡ round_from ws at n ++ get_or ws ((at + n) % length ws) 0 ∷ []
round_more ws at zero = let e : at + 0 ≡ at = omega arith in ap (λ (z : ℕ). get_or ws (z % length ws) 0 ∷ []) (sym e)
round_more ws at (suc n) =
    let e : at + 1 + n ≡ at + suc n = omega arith in
    ap (λ (z : List ℕ). get_or ws (at % length ws) 0 ∷ z) (round_more ws (at + 1) n ∙ ap (λ (z : ℕ). round_from ws (at + 1) n ++ get_or ws (z % length ws) 0 ∷ []) e)

below : (n c : ℕ) → 0 < c → n % c < c
below n c some = omega arith

-- one value more of a queue
pub value_more : (cells : List ℕ) (first n head i : ℕ) (values new : List ℕ) → 0 < n → first + (n + 1) ≤ length cells → values ≡ round_from (words_at (first + 1) n cells) head i
    → new ≡ values ++ get_or cells (first + 1 + (head + i) % n) 0 ∷ [] → new ≡ round_from (words_at (first + 1) n cells) head (i + 1)
value_more cells first n head i values new some within is added =
    let ws = words_at (first + 1) n cells in
    let count : length ws ≡ n = sized (first + 1) n cells (omega arith) in
    let low : (head + i) % n < n = below (head + i) n some in
    let here : get_or ws ((head + i) % n) 0 ≡ get_or cells (first + 1 + (head + i) % n) 0 = word_there (first + 1) n ((head + i) % n) cells low in
    let e : suc i ≡ i + 1 = omega arith in
    added ∙ (ap (λ (z : List ℕ). z ++ get_or cells (first + 1 + (head + i) % n) 0 ∷ []) is
    ∙ (ap (λ (z : ℕ). round_from ws head i ++ z ∷ []) (sym here)
    ∙ (ap (λ (z : ℕ). round_from ws head i ++ get_or ws ((head + i) % z) 0 ∷ []) (sym count)
    ∙ (sym (round_more ws head i) ∙ ap (round_from ws head) e))))

-- ---- logs

front : (n m : ℕ) (xs : List ℕ) → n ≤ m → take n (take m xs) ≡ take n xs
front zero m xs less = refl
front (suc n) zero xs less = absurd (omega arith)
front (suc n) (suc m) [] less = refl
front (suc n) (suc m) (x ∷ xs) less = ap (λ (z : List ℕ). x ∷ z) (front n m xs (omega arith))

pub entries : (cells : List ℕ) (p : Place) → IsLogAt cells p
    → (get_or cells p.first 0 ≤ p.capacity) × (log_at cells p ≡ map (λ w. w - 1) (words_at (p.first + 1) (get_or cells p.first 0) cells))
entries cells p is =
    let whole = words_behind p.first p.capacity cells is.0.within in
    let all = sized (p.first + 1) p.capacity cells (let w = is.0.within in omega arith) in
    let fits : IsLog (get_or cells p.first 0 ∷ words_at (p.first + 1) p.capacity cells) = subst IsLog whole is.1 in
    let few = fits.0 in
    (omega arith, ap log_in whole ∙ ap (λ (z : List ℕ). map (λ w. w - 1) z) (front (get_or cells p.first 0) p.capacity (drop (p.first + 1) cells) (omega arith)))

map_more : (f : ℕ → ℕ) (xs : List ℕ) (x : ℕ) → map f (xs ++ x ∷ []) ≡ map f xs ++ f x ∷ []
map_more f [] x = refl
map_more f (y ∷ ys) x = ap (λ (z : List ℕ). f y ∷ z) (map_more f ys x)

pub entry_more : (first n i : ℕ) (cells values new : List ℕ) → AreThere first n cells → i < n → values ≡ map (λ w. w - 1) (words_at first i cells)
    → new ≡ values ++ (get_or cells (first + i) 0 - 1) ∷ [] → new ≡ map (λ w. w - 1) (words_at first (i + 1) cells)
entry_more first n i cells values new there less is added =
    added ∙ (ap (λ (z : List ℕ). z ++ (get_or cells (first + i) 0 - 1) ∷ []) is
    ∙ (sym (map_more (λ w. w - 1) (words_at first i cells) (get_or cells (first + i) 0)) ∙ ap (map (λ w. w - 1)) (sym (word_more first n i cells there less))))
