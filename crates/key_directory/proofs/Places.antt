-- Where the words of the positions lie, and the walk of a key.
use Rattle.std.proofs.Common.{◌≡◌, ℕ, zero, suc, ◌+◌, ◌-◌, ◌%◌, ◌<◌, ◌≤◌, List, [], ◌∷◌, ◌++◌, length, get_or, sum, sym, refl, ap, ◌∙◌, arith, mod-eq_of_lt, mod-lt, take}
use mathlib.Core.Logic.{dite}
use native.Mathlib.Decide.{ℕ_discrete, dec_lt, dec_le}
use Rattle.std.proofs.Math.Nat.{add-mod_right, mod-add-mod}
use Rattle.std.proofs.lemmas.List.Sums.{sum_by-cons}
use Rattle.std.proofs.lemmas.List.{take_more}
use Rattle.key_directory.specs.declared.layout.Region.{Region}
use Rattle.key_directory.specs.Words.{start_from, laid_out, capacities_of, capacity_of, word_number, IsPosition, walk}

pub start_low : (n : ℕ) (cs : List ℕ) (r : ℕ) → n ≤ start_from n cs r
start_low n cs zero = omega arith
start_low n [] (suc r) = omega arith
start_low n (c ∷ cs) (suc r) = let i = start_low (n + c) cs r in omega arith

pub sum-cons : (c : ℕ) (cs : List ℕ) → sum (c ∷ cs) ≡ c + sum cs
sum-cons c cs = sum_by-cons (λ x. x) c cs

-- a region ends where the words do, or before
pub start_end : (n : ℕ) (cs : List ℕ) (r : ℕ) → r < length cs → start_from n cs r + get_or cs r 0 ≤ n + sum cs
start_end n [] r l = absurd (omega arith)
start_end n (c ∷ cs) zero l = let s = sum-cons c cs in omega arith
start_end n (c ∷ cs) (suc r) l = let i = start_end (n + c) cs r (omega arith) in let s = sum-cons c cs in omega arith

-- and before the next one begins
start_apart : (n : ℕ) (cs : List ℕ) (r q : ℕ) → r < q → start_from n cs r + get_or cs r 0 ≤ start_from n cs q
start_apart n cs r zero l = absurd (omega arith)
start_apart n [] zero (suc q) l = omega arith
start_apart n [] (suc r) (suc q) l = omega arith
start_apart n (c ∷ cs) zero (suc q) l = start_low (n + c) cs q
start_apart n (c ∷ cs) (suc r) (suc q) l = start_apart (n + c) cs r q (omega arith)

-- two positions have two words
pub same_word : (cs : List ℕ) (r p q s : ℕ) → p < capacity_of cs r → s < capacity_of cs q → word_number cs r p ≡ word_number cs q s → (r ≡ q) × (p ≡ s)
same_word cs r p q s inside there e = dite (ℕ_discrete r q)
    (λ is. (is, let f : start_from 1 cs r ≡ start_from 1 cs q = ap (start_from 1 cs) is in omega arith))
    (λ ne. dite (dec_lt r q)
    (λ l. let a = start_apart 1 cs r q l in absurd (omega arith))
    (λ no. let a = start_apart 1 cs q r (omega arith) in absurd (omega arith)))

pub word_inside : (cs : List ℕ) (r p : ℕ) → IsPosition cs r p → word_number cs r p < 1 + sum cs
word_inside cs r p t = let e = start_end 1 cs r t.0 in let l = t.1 in omega arith

pub word_above : (cs : List ℕ) (r p : ℕ) → 0 < word_number cs r p
word_above cs r p = let e = start_low 1 cs r in omega arith

-- the layout of the regions
pub laid_capacities : (n : ℕ) (cs : List ℕ) → capacities_of (laid_out n cs) ≡ cs
laid_capacities n [] = refl
laid_capacities n (c ∷ cs) = ap (λ (z : List ℕ). c ∷ z) (laid_capacities (n + c) cs)

pub laid_length : (n : ℕ) (cs : List ℕ) → length (laid_out n cs) ≡ length cs
laid_length n [] = refl
laid_length n (c ∷ cs) = ap suc (laid_length (n + c) cs)

pub laid_more : (n : ℕ) (cs : List ℕ) (c : ℕ) → laid_out n (cs ++ c ∷ []) ≡ laid_out n cs ++ record { start = n + sum cs; capacity = c } ∷ []
laid_more n [] c = let e : n + 0 ≡ n = omega arith in ap (λ (z : ℕ). record { start = z; capacity = c } ∷ []) (sym e)
laid_more n (b ∷ cs) c = let s = sum-cons b cs in let e : (n + b) + sum cs ≡ n + sum (b ∷ cs) = omega arith in let head : Region = record { start = n; capacity = b } in
    ap (λ (z : List Region). head ∷ z) (laid_more (n + b) cs c ∙ ap (λ (z : ℕ). laid_out (n + b) cs ++ record { start = z; capacity = c } ∷ []) e)

pub laid_at : (n : ℕ) (cs : List ℕ) (r : ℕ) (d : Region) → r < length cs → ((get_or (laid_out n cs) r d).start ≡ start_from n cs r) × ((get_or (laid_out n cs) r d).capacity ≡ get_or cs r 0)
laid_at n [] r d l = absurd (omega arith)
laid_at n (c ∷ cs) zero d l = (refl, refl)
laid_at n (c ∷ cs) (suc r) d l = laid_at (n + c) cs r d (omega arith)

-- a walk tries each position
pub walk_reaches : (capacity key p : ℕ) → p < capacity → (n : ℕ) × (n < capacity) × (walk capacity key n ≡ p)
walk_reaches capacity key p l = let first : ℕ = key % capacity in let below : first < capacity = mod-lt key (omega arith) in dite (dec_le first p)
    (λ d. (p - first, omega arith, sym (mod-add-mod key capacity (p - first)) ∙ (let e : first + (p - first) ≡ p = omega arith in ap (λ (z : ℕ). z % capacity) e ∙ mod-eq_of_lt l)))
    (λ no. ((p + capacity) - first, omega arith, sym (mod-add-mod key capacity ((p + capacity) - first)) ∙ (let e : first + ((p + capacity) - first) ≡ p + capacity = omega arith in ap (λ (z : ℕ). z % capacity) e ∙ (add-mod_right p capacity ∙ mod-eq_of_lt l))))

pub walk_inside : (capacity key n : ℕ) → 0 < capacity → walk capacity key n < capacity
walk_inside capacity key n l = mod-lt (key + n) l

pub laid_step : (cs : List ℕ) (i : ℕ) → i < length cs → laid_out 1 (take (i + 1) cs) ≡ laid_out 1 (take i cs) ++ record { start = 1 + sum (take i cs); capacity = get_or cs i 0 } ∷ []
laid_step cs i l = ap (laid_out 1) (take_more cs i 0 l) ∙ laid_more 1 (take i cs) (get_or cs i 0)

pub capacities_length : (rs : List Region) → length (capacities_of rs) ≡ length rs
capacities_length [] = refl
capacities_length (r ∷ rs) = ap suc (capacities_length rs)

-- a region of the layout
pub region_at : (rs : List Region) (r : ℕ) (d : Region) → rs ≡ laid_out 1 (capacities_of rs) → r < length (capacities_of rs) → d ≡ get_or rs r d → (d.start ≡ start_from 1 (capacities_of rs) r) × (d.capacity ≡ capacity_of (capacities_of rs) r)
region_at rs r d laid there is = let cs : List ℕ = capacities_of rs in let at : d ≡ get_or (laid_out 1 cs) r d = is ∙ ap (λ (z : List Region). get_or z r d) laid in
    let x = laid_at 1 cs r d there in (ap (λ (z : Region). z.start) at ∙ x.0, ap (λ (z : Region). z.capacity) at ∙ x.1)
