-- Rooms that are taken from the last on, where the last structure's came first.
use Rattle.std.proofs.Common.{◌≡◌, ℕ, zero, suc, ◌+◌, ◌-◌, ◌<◌, ◌≤◌, List, [], ◌∷◌, ◌++◌, length, drop, map, reverse, get_or, ap, sym, ◌∙◌, subst, arith, append_assoc}
use Rattle.std.proofs.lemmas.List.{get_or_append_left, get_or-append_right, get_or-map, reverse-append, reverse-reverse, length_push}
use Rattle.std.specs.List.{All}
use Rattle.std.specs.Prelude.{Some}
use Rattle.std.proofs.lemmas.List.Elements.{All-pop}
use mathlib.Core.Logic.{dite}
use native.Mathlib.Decide.{ℕ_discrete}
use Rattle.key_directory.specs.Directory.{KeyListView}
use Rattle.store_contents.specs.Places.{AreOfMap}
use Rattle.store_layout.specs.declared.place.Place.{Place}

pub last_first : (old new : List Place) (x : Place) → old ≡ new ++ x ∷ [] → reverse old ≡ x ∷ reverse new
last_first old new x last = ap reverse last ∙ reverse-append new (x ∷ [])

pub popped : (f : Place → List ℕ) (all : List (List ℕ)) (old new : List Place) (x : Place) (done more : List (List ℕ)) → old ≡ new ++ x ∷ []
    → done ++ map f (reverse old) ≡ all → more ≡ done ++ f x ∷ [] → more ++ map f (reverse new) ≡ all
popped f all old new x done more last is added =
    ap (λ (z : List (List ℕ)). z ++ map f (reverse new)) added
    ∙ (append_assoc done (f x ∷ []) (map f (reverse new)) ∙ (ap (λ (z : List Place). done ++ map f z) (sym (last_first old new x last)) ∙ is))

-- the place that comes next, and those behind it
pub next_place : (n : ℕ) (all rest : List Place) (x d : Place) → drop n all ≡ x ∷ rest → (get_or all n d ≡ x) × (drop (n + 1) all ≡ rest) × (n < length all)
next_place zero [] rest x d is = absurd (cc)
next_place zero (p ∷ ps) rest x d is = (cc, cc, omega arith)
next_place (suc n) [] rest x d is = absurd (cc)
next_place (suc n) (p ∷ ps) rest x d is = let r = next_place n ps rest x d is in let l = r.2 in let e : suc n + 1 ≡ suc (n + 1) = omega arith in (r.0, ap (λ (z : ℕ). drop z (p ∷ ps)) e ∙ r.1, omega arith)

pub back_again : (rooms start : List Place) → start ≡ reverse rooms → reverse start ≡ rooms
back_again rooms start is = ap reverse is ∙ reverse-reverse rooms

pub capacity_next : (rooms start old new : List Place) (x : Place) (n : ℕ) (capacities : List ℕ) → start ≡ reverse rooms → drop n (reverse start) ≡ reverse old → old ≡ new ++ x ∷ []
    → map (λ p. p.capacity) rooms ≡ capacities → x.capacity ≡ get_or capacities n 0
capacity_next rooms start old new x n capacities is left last same =
    let next = next_place n (reverse start) (reverse new) x x (left ∙ last_first old new x last) in let less = next.2 in
    let all = back_again rooms start is in let size = ap length all in
    sym (ap (λ (z : List ℕ). get_or z n 0) (sym same) ∙ (get_or-map (λ (p : Place). p.capacity) rooms n x 0 (omega arith) ∙ (ap (λ (z : List Place). (get_or z n x).capacity) (sym all) ∙ ap (λ (p : Place). p.capacity) next.0)))

-- when no room is left
pub all_made : (cells : List ℕ) (keys : KeyListView) (rooms start : List Place) (n : ℕ) (maps held : List (List (ℕ × ℕ))) → start ≡ reverse rooms → n ≡ length rooms → held ≡ maps
    → ((m : ℕ) (d : Place) → m < n → AreOfMap cells keys m (get_or (reverse start) m d) (get_or maps m []))
    → (m : ℕ) (d : Place) → m < length rooms → AreOfMap cells keys m (get_or rooms m d) (get_or held m [])
all_made cells keys rooms start n maps held is whole same are m d less =
    subst (λ (z : List Place). AreOfMap cells keys m (get_or z m d) (get_or held m [])) (back_again rooms start is)
    (subst (λ (z : List (List (ℕ × ℕ))). AreOfMap cells keys m (get_or (reverse start) m d) (get_or z m [])) (sym same) (are m d (omega arith)))

-- one map more
pub map_more : (cells : List ℕ) (keys : KeyListView) (n : ℕ) (all : List Place) (maps more : List (List (ℕ × ℕ))) (x : Place) (pairs : List (ℕ × ℕ)) → length maps ≡ n
    → ((d : Place) → get_or all n d ≡ x) → AreOfMap cells keys n x pairs → more ≡ maps ++ pairs ∷ []
    → ((m : ℕ) (d : Place) → m < n → AreOfMap cells keys m (get_or all m d) (get_or maps m []))
    → (m : ℕ) (d : Place) → m < n + 1 → AreOfMap cells keys m (get_or all m d) (get_or more m [])
map_more cells keys n all maps more x pairs size here is added are m d less = dite (ℕ_discrete m n)
    (λ same. subst (λ (z : ℕ). AreOfMap cells keys z (get_or all z d) (get_or more z [])) (sym same)
    (subst (λ (z : Place). AreOfMap cells keys n z (get_or more n [])) (sym (here d))
    (subst (AreOfMap cells keys n x) (sym (ap (λ (z : List (List (ℕ × ℕ))). get_or z n []) added ∙ (get_or-append_right maps (pairs ∷ []) n n [] size (omega arith) ∙ ap (λ (z : ℕ). get_or (pairs ∷ []) z []) none))) is)))
    (λ other. subst (AreOfMap cells keys m (get_or all m d)) (sym (ap (λ (z : List (List (ℕ × ℕ))). get_or z m []) added ∙ get_or_append_left maps (pairs ∷ []) [] m (omega arith))) (are m d (omega arith)))
  where
    none : n - n ≡ 0
    none = omega arith

pub room_left : (old new : List Place) (x : Place) (n m capacity same : ℕ) → old ≡ new ++ x ∷ [] → m ≡ n + 1 → same ≡ capacity → n + length old ≤ capacity → m + length new ≤ same
room_left old new x n m capacity same last more is fits = let size = ap length last in omega (arith, length_push new x)

pub kept : (P : Place → Type 0) (old new : List Place) (x : Place) → old ≡ new ++ x ∷ [] → All P old → All P new × P x
kept P old new x last all = All-pop P old new (Some x) last all
