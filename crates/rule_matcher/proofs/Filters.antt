-- What a filter rules out.
use Rattle.std.proofs.Common.{◌≡◌, ℕ, zero, suc, ◌+◌, ◌-◌, ◌*◌, ◌/◌, ◌%◌, ◌<◌, ◌≤◌, Bool, true, false, List, [], ◌∷◌, ◌++◌, length, get_or, take, drop, Option, Some, None, refl, sym, ◌∙◌, ap, subst, arith, get_or-take, get_or-drop, inl, inr}
use Rattle.std.specs.Prelude.{◌⊎◌, ◌&&◌, nat_le, map, if◌then◌else◌}
use Rattle.std.proofs.lemmas.Bool.{cases_Bool, and_parts, leb-true}
use Rattle.std.proofs.lemmas.List.{get_or_default}
use Rattle.rule_terms.specs.Rule.{Pattern, Rule}
use Rattle.rule_terms.specs.Match.{lowered, compared, bytes_at, StandsAt, IsLeastPlace, place_of}
use Rattle.rule_terms.specs.Laws.{PlacesAreLeast}
use Rattle.rule_matcher.specs.Filter.{slot, slot_of, HasMark, IsMarked, AreMarked, KeepsMarks, AreSeen, RulesOut}

lowered_bits : (b : ℕ) → lowered b % 32 ≡ b % 32
lowered_bits b = by_case (nat_le 65 b && nat_le b 90)
  where
    by_case : (t : Bool) → (if t then b + 32 else b) % 32 ≡ b % 32
    by_case true = omega arith
    by_case false = refl

compared_bits : (nocase : Bool) (bytes : List ℕ) (i : ℕ) → get_or (compared nocase bytes) i 0 % 32 ≡ get_or bytes i 0 % 32
unfolding compared
compared_bits false bytes i = refl
compared_bits true bytes i = mapped bytes i
  where
    mapped : (bytes : List ℕ) (i : ℕ) → get_or (map lowered bytes) i 0 % 32 ≡ get_or bytes i 0 % 32
    mapped [] i = refl
    mapped (b ∷ bytes) zero = lowered_bits b
    mapped (b ∷ bytes) (suc i) = mapped bytes i

same_bits : (nocase : Bool) (one other : List ℕ) (i : ℕ) → compared nocase one ≡ compared nocase other → get_or one i 0 % 32 ≡ get_or other i 0 % 32
same_bits nocase one other i same =
    sym (compared_bits nocase one i) ∙ ap (λ (l : List ℕ). get_or l i 0 % 32) same ∙ compared_bits nocase other i

slot_same : (a b c d e f g h : ℕ) → a % 32 ≡ e % 32 → b % 32 ≡ f % 32 → c % 32 ≡ g % 32 → d % 32 ≡ h % 32 → slot a b c d ≡ slot e f g h
unfolding slot
slot_same a b c d e f g h one two three four = rw (one, two, three, four)

module _ (pattern : Pattern) (payload : List ℕ) (place : ℕ) (stands : StandsAt pattern payload place) where
  bits : (i : ℕ) → i < length pattern.bytes → get_or payload (place + i) 0 % 32 ≡ get_or pattern.bytes i 0 % 32
  bits i within =
      ap (λ (b : ℕ). b % 32) (sym (get_or-drop place payload i 0) ∙ sym (get_or-take (length pattern.bytes) (drop place payload) i 0 within))
      ∙ same_bits pattern.nocase (bytes_at pattern payload place) pattern.bytes i stands.same

  pub same_slot : (at o : ℕ) → at ≡ place + o → o + 4 ≤ length pattern.bytes → slot_of payload at ≡ slot_of pattern.bytes o
  same_slot at o is fits =
      let at0 : at ≡ place + o = is in
      let at1 : at + 1 ≡ place + (o + 1) = omega (arith, is) in
      let at2 : at + 2 ≡ place + (o + 2) = omega (arith, is) in
      let at3 : at + 3 ≡ place + (o + 3) = omega (arith, is) in
      slot_same _ _ _ _ _ _ _ _
      (ap (λ (k : ℕ). get_or payload k 0 % 32) at0 ∙ bits o (omega (arith, fits)))
      (ap (λ (k : ℕ). get_or payload k 0 % 32) at1 ∙ bits (o + 1) (omega (arith, fits)))
      (ap (λ (k : ℕ). get_or payload k 0 % 32) at2 ∙ bits (o + 2) (omega (arith, fits)))
      (ap (λ (k : ℕ). get_or payload k 0 % 32) at3 ∙ bits (o + 3) (omega (arith, fits)))

-- from each place it is at most three to the next multiple of four
aligned : (place : ℕ) → (o : ℕ) × (j : ℕ) × (o < 4) × (4 * j ≡ place + o)
aligned place = ((4 - place % 4) % 4, (place + (4 - place % 4) % 4) / 4, omega arith, omega arith)

unseen : (table payload : List ℕ) (seen : List Bool) (pattern : Pattern) (mark : ℕ) → HasMark table pattern mark → AreSeen table payload seen → get_or seen mark true ≡ false → (place : ℕ) → ¬ StandsAt pattern payload place
unseen table payload seen pattern mark has are off place stands =
    let at = aligned place in
    let o : ℕ = at.0 in
    let j : ℕ = at.1 in
    let fits : o + 4 ≤ length pattern.bytes = omega (arith, at.2, has.long) in
    let inside : 4 * j + 4 ≤ length payload = omega (arith, at.3, fits, stands.fits) in
    let same : slot_of payload (4 * j) ≡ slot_of pattern.bytes o = same_slot pattern payload place stands (4 * j) o at.3 fits in
    let marked : get_or table (slot_of payload (4 * j)) 0 ≡ mark = ap (λ (k : ℕ). get_or table k 0) same ∙ has.slots o at.2 in
    let on : get_or seen mark false ≡ true = ap (λ (k : ℕ). get_or seen k false) (sym marked) ∙ are j inside in
    either seen mark on off
  where
    either : (seen : List Bool) (mark : ℕ) → get_or seen mark false ≡ true → get_or seen mark true ≡ false → ⊥
    either [] mark on off = cc (on)
    either (b ∷ seen) zero on off = cc (on, off)
    either (b ∷ seen) (suc mark) on off = either seen mark on off

no_place : (pattern : Pattern) (payload : List ℕ) (r : Option ℕ) → IsLeastPlace pattern payload r → ((place : ℕ) → ¬ StandsAt pattern payload place) → r ≡ None
no_place pattern payload None least nowhere = refl
no_place pattern payload (Some place) least nowhere = absurd (nowhere place least.0)

pub rules_out : (table marks payload : List ℕ) (seen : List Bool) (rules : List Rule) → PlacesAreLeast → AreMarked table marks rules → AreSeen table payload seen → RulesOut marks seen rules payload
rules_out table marks payload seen rules law are saw k rule within is mark off =
    no_place rule.first payload (place_of rule.first payload) (law rule.first payload) (unseen table payload seen rule.first (get_or marks k 0) (are.each k rule within is mark) saw off)

-- marks that are kept

pub keeps_same : (table : List ℕ) → KeepsMarks table table
keeps_same table = record { size = refl; marks = λ k some. refl }

pub keeps_on : (one two three : List ℕ) → KeepsMarks one two → KeepsMarks two three → KeepsMarks one three
keeps_on one two three first then_too = record {
  size = then_too.size ∙ first.size;
  marks = λ k some. then_too.marks k (λ none. some (sym (first.marks k some) ∙ none)) ∙ first.marks k some;
}

pub still_has : (old new : List ℕ) (k mark : ℕ) → KeepsMarks old new → (mark ≡ 0 → ⊥) → get_or old k 0 ≡ mark → get_or new k 0 ≡ mark
still_has old new k mark keeps some is = keeps.marks k (λ none. some (sym is ∙ none)) ∙ is

pub still_marked : (old new : List ℕ) (rule : Rule) (mark : ℕ) → KeepsMarks old new → IsMarked old rule mark → IsMarked new rule mark
still_marked old new rule mark keeps is some =
    let has = is some in
    record { long = has.long; slots = λ o below. still_has old new (slot_of rule.first.bytes o) mark keeps some (has.slots o below) }
