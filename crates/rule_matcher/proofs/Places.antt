-- The first place that a search gives is the least at which the pattern stands.
use Rattle.std.proofs.Common.{◌≡◌, ℕ, ◌+◌, ◌-◌, ◌<◌, ◌≤◌, Bool, true, false, List, length, get_or, take, drop, Option, Some, None, refl, sym, ◌∙◌, ap, arith, length-take, length-drop, get_or-take, get_or-drop, subst}
use Rattle.std.specs.Prelude.{map, min, IfSome}
use Rattle.std.specs.Option.{option_map}
use Rattle.std.proofs.lemmas.List.{ext_get_or, length-map, take-map, drop-map}
use Rattle.memchr.specs.Find.{OccursAt, FindsNeedle}
use Rattle.rule_terms.specs.Rule.{Pattern}
use Rattle.rule_terms.specs.Match.{lowered, compared, bytes_at, StandsAt, IsLeastPlace, place_of}
use Rattle.rule_terms.specs.Laws.{PlacesAreLeast}
use Rattle.rule_matcher.specs.Bounds.{low_of, high_of}

pub compared_len : (nocase : Bool) (bytes : List ℕ) → length (compared nocase bytes) ≡ length bytes
unfolding compared
compared_len false bytes = refl
compared_len true bytes = length-map bytes lowered

compared_part : (nocase : Bool) (bytes : List ℕ) (n k : ℕ) → compared nocase (take n (drop k bytes)) ≡ take n (drop k (compared nocase bytes))
unfolding compared
compared_part false bytes n k = refl
compared_part true bytes n k = sym (take-map lowered n (drop k bytes)) ∙ ap (take n) (sym (drop-map lowered k bytes))

-- bytes that stand at a place, in the words of a search
occurs : (text needle : List ℕ) (k : ℕ) → k + length needle ≤ length text → take (length needle) (drop k text) ≡ needle → OccursAt text needle k
occurs text needle k fits same = record {
  fits = fits;
  reads = λ j lt. sym (get_or-drop k text j 0) ∙ sym (get_or-take (length needle) (drop k text) j 0 lt) ∙ ap (λ (l : List ℕ). get_or l j 0) same;
}

pub reads_same : (text needle : List ℕ) (k : ℕ) → OccursAt text needle k → take (length needle) (drop k text) ≡ needle
reads_same text needle k is =
    let size : length (take (length needle) (drop k text)) ≡ length needle = omega (arith, is.fits, length-take (length needle) (drop k text), length-drop k text) in
    ext_get_or 0 _ _ size (λ i lt.
    let within : i < length needle = omega (arith, size) in
    get_or-take (length needle) (drop k text) i 0 within ∙ get_or-drop k text i 0 ∙ is.reads i within)

low_holds : (from : Option ℕ) (place : ℕ) → IfSome from (λ low. low ≤ place) → low_of from ≤ place
low_holds None place is = omega arith
low_holds (Some low) place is = is

low_back : (from : Option ℕ) (place : ℕ) → low_of from ≤ place → IfSome from (λ low. low ≤ place)
low_back None place is = tt
low_back (Some low) place is = is

high_holds : (to : Option ℕ) (len end : ℕ) → IfSome to (λ high. end ≤ high) → end ≤ len → end ≤ high_of to len
high_holds None len end is fits = fits
high_holds (Some high) len end is fits = omega (arith, is)

high_back : (to : Option ℕ) (len end : ℕ) → end ≤ high_of to len → IfSome to (λ high. end ≤ high) × (end ≤ len)
high_back None len end is = (tt, is)
high_back (Some high) len end is = (omega (arith, is), omega (arith, is))

-- where a pattern stands, in the words of a search of the payload as it is compared
pub record IsWithin (pattern : Pattern) (text : List ℕ) (place : ℕ) : Type 0 where
  pub low : low_of pattern.from ≤ place
  pub high : place + length pattern.bytes ≤ high_of pattern.to (length text)
  pub occurs : OccursAt text (compared pattern.nocase pattern.bytes) place

module _ (pattern : Pattern) (payload text : List ℕ) (is_text : text ≡ compared pattern.nocase payload) where
  text_len : length text ≡ length payload
  text_len = ap length is_text ∙ compared_len pattern.nocase payload

  needle_len : length (compared pattern.nocase pattern.bytes) ≡ length pattern.bytes
  needle_len = compared_len pattern.nocase pattern.bytes

  part : (place : ℕ) → take (length (compared pattern.nocase pattern.bytes)) (drop place text) ≡ compared pattern.nocase (bytes_at pattern payload place)
  part place =
      ap (λ (n : ℕ). take n (drop place text)) needle_len ∙ ap (λ (t : List ℕ). take (length pattern.bytes) (drop place t)) is_text
      ∙ sym (compared_part pattern.nocase payload (length pattern.bytes) place)

  pub within : (place : ℕ) → StandsAt pattern payload place → IsWithin pattern text place
  within place is = record {
    low = low_holds pattern.from place is.from;
    high = high_holds pattern.to (length text) (place + length pattern.bytes) is.to (omega (arith, is.fits, text_len));
    occurs = occurs text (compared pattern.nocase pattern.bytes) place (omega (arith, is.fits, text_len, needle_len)) (part place ∙ is.same);
  }

  pub stands : (place : ℕ) → IsWithin pattern text place → StandsAt pattern payload place
  stands place is =
      let high = high_back pattern.to (length text) (place + length pattern.bytes) is.high in
      record {
        from = low_back pattern.from place is.low;
        to = high.0;
        fits = omega (arith, high.1, text_len);
        same = sym (part place) ∙ reads_same text (compared pattern.nocase pattern.bytes) place is.occurs;
      }

-- a window of the text

window_at : (text needle window : List ℕ) (low high k : ℕ) → high ≤ length text → window ≡ take (high - low) (drop low text) → low + k + length needle ≤ high → OccursAt text needle (low + k) → OccursAt window needle k
window_at text needle window low high k fits is inside at =
    let size : length window ≡ high - low = omega (arith, ap length is, length-take (high - low) (drop low text), length-drop low text) in
    record {
      fits = omega (arith, size);
      reads = λ j lt.
          let within : k + j < high - low = omega arith in
          let sum : low + (k + j) ≡ low + k + j = omega arith in
          ap (λ (l : List ℕ). get_or l (k + j) 0) is ∙ get_or-take (high - low) (drop low text) (k + j) 0 within ∙ get_or-drop low text (k + j) 0
          ∙ ap (λ (n : ℕ). get_or text n 0) sum ∙ at.reads j lt;
    }

window_back : (text needle window : List ℕ) (low high k : ℕ) → low ≤ high → high ≤ length text → window ≡ take (high - low) (drop low text) → OccursAt window needle k → (low + k + length needle ≤ high) × OccursAt text needle (low + k)
window_back text needle window low high k order fits is at =
    let size : length window ≡ high - low = omega (arith, ap length is, length-take (high - low) (drop low text), length-drop low text) in
    let inside : low + k + length needle ≤ high = omega (arith, size, at.fits) in (
      inside,
      record {
        fits = omega arith;
        reads = λ j lt.
            let within : k + j < high - low = omega arith in
            let sum : low + k + j ≡ low + (k + j) = omega arith in
            ap (λ (n : ℕ). get_or text n 0) sum ∙ sym (get_or-drop low text (k + j) 0) ∙ sym (get_or-take (high - low) (drop low text) (k + j) 0 within)
            ∙ ap (λ (l : List ℕ). get_or l (k + j) 0) (sym is) ∙ at.reads j lt;
      },
    )

same_least : (pattern : Pattern) (payload : List ℕ) (found least : Option ℕ) → IsLeastPlace pattern payload found → IsLeastPlace pattern payload least → found ≡ least
same_least pattern payload None None one two = refl
same_least pattern payload None (Some place) one two = absurd (one place two.0)
same_least pattern payload (Some place) None one two = absurd (two place one.0)
same_least pattern payload (Some place) (Some other) one two =
    let not_later : other < place → ⊥ = λ before. one.1 other before two.0 in
    let not_earlier : place < other → ⊥ = λ before. two.1 place before one.0 in
    ap Some (omega (arith, not_later, not_earlier))

-- what a search of the part within the bounds gives
module _ (pattern : Pattern) (payload text needle window : List ℕ) (low high : ℕ) (is_text : text ≡ compared pattern.nocase payload)
    (is_needle : needle ≡ compared pattern.nocase pattern.bytes) (is_low : low ≡ low_of pattern.from) (is_high : high ≡ high_of pattern.to (length text)) where
  fits : high ≤ length text
  fits = omega (arith, is_high, at_most pattern.to)
    where
      at_most : (to : Option ℕ) → high_of to (length text) ≤ length text
      at_most None = omega arith
      at_most (Some to) = omega arith

  size : length needle ≡ length pattern.bytes
  size = ap length is_needle ∙ compared_len pattern.nocase pattern.bytes

  inner : low ≤ high → window ≡ take (high - low) (drop low text) → (place : ℕ) → StandsAt pattern payload place → (k : ℕ) × (place ≡ low + k) × OccursAt window needle k
  inner order is place stands_there =
      let there = within pattern payload text is_text place stands_there in
      let k : ℕ = place - low in
      let sum : place ≡ low + k = omega (arith, there.low, is_low) in
      let at : OccursAt text needle (low + k) = subst (λ (n : ℕ). OccursAt text needle n) sum (subst (λ (l : List ℕ). OccursAt text l place) (sym is_needle) there.occurs) in
      (k, sum, window_at text needle window low high k fits is (omega (arith, sum, there.high, is_high, size)) at)

  outer : low ≤ high → window ≡ take (high - low) (drop low text) → (k : ℕ) → OccursAt window needle k → StandsAt pattern payload (low + k)
  outer order is k at =
      let back = window_back text needle window low high k order fits is at in
      stands pattern payload text is_text (low + k) (record {
        low = omega (arith, is_low);
        high = omega (arith, back.0, is_high, size);
        occurs = subst (λ (l : List ℕ). OccursAt text l (low + k)) is_needle back.1;
      })

  least_of : low ≤ high → window ≡ take (high - low) (drop low text) → (r : Option ℕ) → FindsNeedle window needle 0 r → IsLeastPlace pattern payload (option_map (λ k. low + k) r)
  least_of order is None finds = λ place stands_there.
      let at = inner order is place stands_there in
      finds at.0 (omega arith) (omega (arith, at.2.fits)) at.2
  least_of order is (Some k) finds = (
    outer order is k finds.1,
    λ place before stands_there.
        let at = inner order is place stands_there in
        finds.0.before at.0 (omega arith) (omega (arith, at.1)) at.2,
  )

  pub found_place : low ≤ high → window ≡ take (high - low) (drop low text) → (r : Option ℕ) → FindsNeedle window needle 0 r → PlacesAreLeast → option_map (λ k. low + k) r ≡ place_of pattern payload
  found_place order is r finds law = same_least pattern payload (option_map (λ k. low + k) r) (place_of pattern payload) (least_of order is r finds) (law pattern payload)

  pub no_place : high < low → PlacesAreLeast → None ≡ place_of pattern payload
  no_place crossed law =
      let nowhere : (place : ℕ) → ¬ StandsAt pattern payload place = λ place stands_there.
      let there = within pattern payload text is_text place stands_there in
      omega (arith, there.low, there.high, is_low, is_high) in
      same_least pattern payload None (place_of pattern payload) nowhere (law pattern payload)

pub compared_off : (nocase : Bool) (bytes : List ℕ) → nocase ≡ false → bytes ≡ compared nocase bytes
unfolding compared
compared_off true bytes off = absurd (cc off)
compared_off false bytes off = refl
