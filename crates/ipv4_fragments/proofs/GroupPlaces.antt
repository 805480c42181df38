-- One fragment more among the numbers of the groups.
use Rattle.std.proofs.Common.{◌≡◌, ◌≢◌, ℕ, ◌+◌, ◌≤◌, Bool, true, false, List, [], ◌∷◌, ◌++◌, Option, None, Some, refl, sym, ◌∙◌, ap, subst, arith, length}
use Rattle.std.specs.Prelude.{position, if◌then◌else◌}
use Rattle.std.specs.List.{list_any, position_or_len}
use Rattle.std.specs.BTreeMap.{get}
use Rattle.capture_terms.specs.Kept.{is_same_group}
use Rattle.capture_terms.specs.declared.datagram.Piece.{Piece}
use Rattle.capture_terms.specs.declared.plan.Group.{Group}
use Rattle.ipv4_fragments.specs.Maps.{HasPut}
use Rattle.ipv4_fragments.specs.Generations.{key_of, key_cmp, is_later, newest_behind}
use Rattle.ipv4_fragments.specs.GroupNumbers.{group_in, IsNumbered, AreNumbered, HasPlace, piece_in, IsNumberedWith}
use Rattle.ipv4_fragments.specs.declared.generations.Generations.{Generations}
use Rattle.ipv4_fragments.specs.declared.generations.Key.{Key}
use Rattle.ipv4_fragments.specs.declared.generations.Newest.{Newest}
use Rattle.ipv4_fragments.proofs.GenerationSteps.{is_same, same_key, same_keys, same_itself as same_key_itself}
use Rattle.ipv4_fragments.proofs.GroupNumbers.{any_placed, none_placed, first_none, placed_last, placed_before, placed_or_len}
use Rattle.ipv4_fragments.proofs.KeptGroups.{same_itself, same_group}

-- the groups with one more, if it is none of them
abbrev with_group : List Group → Group → List Group
with_group groups g = if list_any (is_same_group g) groups then groups else groups ++ g ∷ []

-- groups of different generations or keys differ
other_generation : (key : Key) (m n : ℕ) → m ≢ n → is_same_group (group_in key m) (group_in key n) ≡ false
other_generation key m n apart = by_case (is_same_group (group_in key m) (group_in key n)) refl
  where
    by_case : (b : Bool) → is_same_group (group_in key m) (group_in key n) ≡ b → b ≡ false
    by_case false _ = refl
    by_case true same = let equal : m ≡ n = ap (λ (g : Group). g.generation) (same_group (group_in key m) (group_in key n) same) in absurd (apart equal)

other_key : (k l : Key) (m n : ℕ) → is_same l k ≡ false → is_same_group (group_in k m) (group_in l n) ≡ false
other_key k l m n other = by_case (is_same_group (group_in k m) (group_in l n)) refl
  where
    by_case : (b : Bool) → is_same_group (group_in k m) (group_in l n) ≡ b → b ≡ false
    by_case false _ = refl
    by_case true same =
        let equal : group_in k m ≡ group_in l n = same_group (group_in k m) (group_in l n) same in
        let keys : k ≡ l = ap (λ (g : Group). record { header = g.header; id = g.id }) equal in
        let itself : is_same l k ≡ true = ap (is_same l) keys ∙ same_key_itself l in
        cc

-- a generation that begins gets the next number
begun : (groups : List Group) (key : Key) (time next generation : ℕ) → next ≡ length groups
    → ((later : ℕ) → generation ≤ later → position (is_same_group (group_in key later)) groups ≡ None)
    → IsNumbered (with_group groups (group_in key generation)) key (Some (record { began = time; generation = generation; group = next }))
begun groups key time next generation long none =
    let own : Group = group_in key generation in
    let unknown : list_any (is_same_group own) groups ≡ false = none_placed (is_same_group own) groups (none generation (omega arith)) in
    let now : with_group groups own ≡ groups ++ own ∷ [] = rw unknown refl in
    subst (λ (l : List Group). IsNumbered l key (Some (record { began = time; generation = generation; group = next }))) (sym now) (
      placed_last (is_same_group own) groups own unknown (same_itself own) ∙ ap Some (sym long),
      λ later above. placed_before (group_in key later) groups own (other_generation key later generation (λ same. omega (arith, same, above))) ∙ none later (omega (arith, above)),
    )

-- one that goes on keeps its number
still : (groups : List Group) (key : Key) (n : Newest) → IsNumbered groups key (Some n) → IsNumbered (with_group groups (group_in key n.generation)) key (Some n)
still groups key n is =
    let own : Group = group_in key n.generation in
    let known : list_any (is_same_group own) groups ≡ true = any_placed (is_same_group own) groups n.group own is.0 in
    let now : with_group groups own ≡ groups = rw known refl in
    subst (λ (l : List Group). IsNumbered l key (Some n)) (sym now) is

-- another key's numbers stay
others : (groups : List Group) (key other : Key) (generation : ℕ) (o : Option Newest) → is_same key other ≡ false → IsNumbered groups other o → IsNumbered (with_group groups (group_in key generation)) other o
others groups key other generation o apart is = by_known (list_any (is_same_group (group_in key generation)) groups) refl
  where
    own : Group
    own = group_in key generation

    stays : (n : ℕ) → position (is_same_group (group_in other n)) (groups ++ own ∷ []) ≡ position (is_same_group (group_in other n)) groups
    stays n = placed_before (group_in other n) groups own (other_key other key n generation apart)

    longer : (o : Option Newest) → IsNumbered groups other o → IsNumbered (groups ++ own ∷ []) other o
    longer None is = λ n. stays n ∙ is n
    longer (Some m) is = (stays m.generation ∙ is.0, λ n above. stays n ∙ is.1 n above)

    by_known : (b : Bool) → list_any (is_same_group own) groups ≡ b → IsNumbered (with_group groups own) other o
    by_known true known = let now : with_group groups own ≡ groups = rw known refl in subst (λ (l : List Group). IsNumbered l other o) (sym now) is
    by_known false unknown = let now : with_group groups own ≡ groups ++ own ∷ [] = rw unknown refl in subst (λ (l : List Group). IsNumbered l other o) (sym now) (longer o is)

-- the newest generation behind a fragment, and its number
module _ (groups : List Group) (key : Key) (window time next : ℕ) (long : next ≡ length groups) where
  told_place : (o : Option Newest) → IsNumbered groups key o → (newest_behind o window time next).group ≡ position_or_len (is_same_group (group_in key (newest_behind o window time next).generation)) groups
  told_place None is = long ∙ sym (first_none (is_same_group (group_in key 0)) groups (group_in key 0) (none_placed (is_same_group (group_in key 0)) groups (is 0)))
  told_place (Some n) is = by_case (is_later n window time)
    where
      by_case : (b : Bool) → (if b then record { began = time; generation = n.generation + 1; group = next } else n).group ≡ position_or_len (is_same_group (group_in key (if b then record { began = time; generation = n.generation + 1; group = next } else n).generation)) groups
      by_case true = long ∙ sym (first_none (is_same_group (group_in key (n.generation + 1))) groups (group_in key 0) (none_placed (is_same_group (group_in key (n.generation + 1))) groups (is.1 (n.generation + 1) (omega arith))))
      by_case false = placed_or_len (is_same_group (group_in key n.generation)) groups n.group is.0

  told_numbered : (o : Option Newest) → IsNumbered groups key o → IsNumbered (with_group groups (group_in key (newest_behind o window time next).generation)) key (Some (newest_behind o window time next))
  told_numbered None is = begun groups key time next 0 long (λ later above. is later)
  told_numbered (Some n) is = by_case (is_later n window time)
    where
      by_case : (b : Bool) → IsNumbered (with_group groups (group_in key (if b then record { began = time; generation = n.generation + 1; group = next } else n).generation)) key (Some (if b then record { began = time; generation = n.generation + 1; group = next } else n))
      by_case true = begun groups key time next (n.generation + 1) long (λ later above. is.1 later (omega (arith, above)))
      by_case false = still groups key n is

-- a fragment more, of which the newest generation was told
pub numbered_with : (old new : Generations) (groups : List Group) (p : Piece) (time next : ℕ) (told : Newest) → AreNumbered old groups → next ≡ length groups
    → told ≡ newest_behind (get key_cmp old.newest (key_of p)) old.window time next → HasPut key_cmp old.newest new.newest (key_of p) told → IsNumberedWith new groups p told
numbered_with old new groups p time next told before long is put = record {
  place = subst (λ (n : Newest). HasPlace groups (piece_in p n.generation) n.group) (sym is) (told_place groups (key_of p) old.window time next long (get key_cmp old.newest (key_of p)) (before (key_of p)));
  numbered = λ key. by_case key (is_same (key_of p) key) refl;
}
  where
    here : IsNumbered (with_group groups (group_in (key_of p) told.generation)) (key_of p) (Some told)
    here = subst (λ (n : Newest). IsNumbered (with_group groups (group_in (key_of p) n.generation)) (key_of p) (Some n)) (sym is) (told_numbered groups (key_of p) old.window time next long (get key_cmp old.newest (key_of p)) (before (key_of p)))

    by_case : (key : Key) (b : Bool) → is_same (key_of p) key ≡ b → IsNumbered (with_group groups (group_in (key_of p) told.generation)) key (get key_cmp new.newest key)
    by_case key true same =
        let found : get key_cmp new.newest key ≡ Some told = put key ∙ ap (λ (b : Bool). if b then Some told else get key_cmp old.newest key) (same_keys (key_of p) key ∙ same) in
        subst (IsNumbered (with_group groups (group_in (key_of p) told.generation)) key) (sym found)
        (subst (λ (k : Key). IsNumbered (with_group groups (group_in (key_of p) told.generation)) k (Some told)) (same_key (key_of p) key same) here)
    by_case key false other =
        let found : get key_cmp new.newest key ≡ get key_cmp old.newest key = put key ∙ ap (λ (b : Bool). if b then Some told else get key_cmp old.newest key) (same_keys (key_of p) key ∙ other) in
        subst (IsNumbered (with_group groups (group_in (key_of p) told.generation)) key) (sym found)
        (others groups (key_of p) key told.generation (get key_cmp old.newest key) other (before key))

-- the generation that was told last is the newest of its key still
pub numbered_still : (old : Generations) (groups : List Group) (p : Piece) (n : Newest) → AreNumbered old groups → get key_cmp old.newest (key_of p) ≡ Some n → IsNumberedWith old groups p n
numbered_still old groups p n before is =
    let own : IsNumbered groups (key_of p) (Some n) = subst (IsNumbered groups (key_of p)) is (before (key_of p)) in
    let known : list_any (is_same_group (group_in (key_of p) n.generation)) groups ≡ true = any_placed (is_same_group (group_in (key_of p) n.generation)) groups n.group (group_in (key_of p) 0) own.0 in
    let now : with_group groups (group_in (key_of p) n.generation) ≡ groups = rw known refl in
    record {
      place = placed_or_len (is_same_group (group_in (key_of p) n.generation)) groups n.group own.0;
      numbered = subst (AreNumbered old) (sym now) before;
    }
