-- The bytes that a pattern's text gives.
use Rattle.std.proofs.Common.{◌≡◌, ℕ, suc, ◌+◌, ◌-◌, ◌*◌, ◌<◌, ◌≤◌, Bool, true, false, eqb, List, [], ◌∷◌, ◌++◌, length, Option, Some, None, refl, sym, ◌∙◌, ap, arith, subst, append_assoc, inl, inr}
use Rattle.std.specs.Prelude.{◌⊎◌, ◌&&◌, not, if◌then◌else◌, nat_le}
use Rattle.std.specs.List.{list_all}
use Rattle.std.proofs.lemmas.Bool.{eqb-true, eq-eqb, ne_eqb, le-leb, leb-true, false_from_ne_true, and_parts, and_from, cond-true, cond-false, cases_Bool}
use Rattle.rule_terms.specs.PatternText.{is_plain, is_space, IsHexDigit, BeginsWithPair, ArePairs, Piece, itself, pairs, BeginsWithPiece, ArePieces, bytes_of, IsPatternText}
use Rattle.rule_terms.specs.Reader.{◌>>=◌, hex_value, Spot, outside, between, half, spot_after, onto_bytes, text_bytes, pattern_bytes}
use Rattle.rule_terms.proofs.Tokens.{if_some, bind_some, is_no_quote, HasNoQuote}

-- digits

hex_of : (digit value : ℕ) → IsHexDigit digit value → hex_value digit ≡ Some value
hex_of digit value (inl low) =
    let is : hex_value (48 + value) ≡ Some (48 + value - 48) = cond-true (nat_le 48 (48 + value) && nat_le (48 + value) 57) _ _ (and_from _ _ (le-leb 48 (48 + value) (omega arith)) (le-leb (48 + value) 57 (omega (arith, low.0)))) in
    ap hex_value low.1 ∙ is ∙ ap Some (omega arith)
hex_of digit value (inr (ten, small, inl lower)) =
    let a : nat_le 48 (87 + value) && nat_le (87 + value) 57 ≡ false = false_from_ne_true _ (λ t. absurd (omega (arith, ten, leb-true _ _ (and_parts (nat_le 48 (87 + value)) _ t).1))) in
    let b : nat_le 65 (87 + value) && nat_le (87 + value) 70 ≡ false = false_from_ne_true _ (λ t. absurd (omega (arith, ten, leb-true _ _ (and_parts (nat_le 65 (87 + value)) _ t).1))) in
    let c : nat_le 97 (87 + value) && nat_le (87 + value) 102 ≡ true = and_from _ _ (le-leb 97 (87 + value) (omega (arith, ten))) (le-leb (87 + value) 102 (omega (arith, small))) in
    let back : 87 + value - 87 ≡ value = omega arith in
    ap hex_value lower ∙ rw (a, b, c) (ap Some back)
hex_of digit value (inr (ten, small, inr upper)) =
    let a : nat_le 48 (55 + value) && nat_le (55 + value) 57 ≡ false = false_from_ne_true _ (λ t. absurd (omega (arith, ten, leb-true _ _ (and_parts (nat_le 48 (55 + value)) _ t).1))) in
    let b : nat_le 65 (55 + value) && nat_le (55 + value) 70 ≡ true = and_from _ _ (le-leb 65 (55 + value) (omega (arith, ten))) (le-leb (55 + value) 70 (omega (arith, small))) in
    let back : 55 + value - 55 ≡ value = omega arith in
    ap hex_value upper ∙ rw (a, b) (ap Some back)

hex_back : (digit value : ℕ) → hex_value digit ≡ Some value → IsHexDigit digit value
hex_back digit value is = elim (cases_Bool (nat_le 48 digit && nat_le digit 57)) [
  | inl low ↦
      let parts = and_parts (nat_le 48 digit) (nat_le digit 57) low in
      let same : digit - 48 ≡ value = cc (rw low at is) in
      let least : 48 ≤ digit = leb-true _ _ parts.0 in
      let most : digit ≤ 57 = leb-true _ _ parts.1 in
      inl (omega arith, omega arith)
  | inr off ↦ elim (cases_Bool (nat_le 65 digit && nat_le digit 70)) [
    | inl upper ↦
        let parts = and_parts (nat_le 65 digit) (nat_le digit 70) upper in
        let same : digit - 55 ≡ value = cc (rw (off, upper) at is) in
        let least : 65 ≤ digit = leb-true _ _ parts.0 in
        let most : digit ≤ 70 = leb-true _ _ parts.1 in
        let is_upper : digit ≡ 55 + value = omega arith in
        inr (omega arith, omega arith, inr is_upper)
    | inr still ↦ elim (cases_Bool (nat_le 97 digit && nat_le digit 102)) [
      | inl lower ↦
          let parts = and_parts (nat_le 97 digit) (nat_le digit 102) lower in
          let same : digit - 87 ≡ value = cc (rw (off, still, lower) at is) in
          let least : 97 ≤ digit = leb-true _ _ parts.0 in
          let most : digit ≤ 102 = leb-true _ _ parts.1 in
          let is_lower : digit ≡ 87 + value = omega arith in
          inr (omega arith, omega arith, inl is_lower)
      | inr none ↦ absurd (cc (rw (off, still, none) at is))
    ]
  ]
]

abbrev IsAscii : ℕ → Type 0
IsAscii digit = (48 ≤ digit) × (digit ≤ 102)

hex_ascii : (digit value : ℕ) → IsHexDigit digit value → IsAscii digit
hex_ascii digit value (inl low) = (omega (arith, low.1), omega (arith, low.0, low.1))
hex_ascii digit value (inr (ten, small, inl lower)) = (omega (arith, lower), omega (arith, small, lower))
hex_ascii digit value (inr (ten, small, inr upper)) = (omega (arith, ten, upper), omega (arith, small, upper))

-- a digit is no bar, no space and no quotation mark
digit_other : (digit value c : ℕ) → IsHexDigit digit value → (c ≡ 124) ⊎ ((c ≡ 32) ⊎ (c ≡ 34)) → eqb digit c ≡ false
digit_other digit value c is other =
    let ascii = hex_ascii digit value is in
    ne_eqb digit c (λ same. elim other [
      | inl bar ↦ absurd (omega (arith, ascii.1, same, bar))
      | inr (inl space) ↦ absurd (omega (arith, ascii.0, same, space))
      | inr (inr quote) ↦ absurd (omega (arith, ascii.0, same, quote))
    ])

-- pairs are read

abbrev AfterPairs : Bool → List ℕ → Bool
AfterPairs paired [] = paired
AfterPairs paired (b ∷ bytes) = true

abbrev joined : List ℕ → Option (List ℕ) → Option (List ℕ)
joined bytes None = None
joined bytes (Some more) = Some (bytes ++ more)

spaces_read : (gap rest : List ℕ) (paired : Bool) → list_all is_space gap ≡ true → text_bytes (between paired) (gap ++ rest) ≡ text_bytes (between paired) rest
unfolding text_bytes
spaces_read [] rest paired spaces = refl
spaces_read (b ∷ gap) rest paired spaces =
    let parts = and_parts (is_space b) (list_all is_space gap) spaces in
    let bar : eqb b 124 ≡ false = ne_eqb b 124 (λ e. absurd (omega (arith, e, eqb-true b 32 parts.0))) in
    rw (bar, parts.0, spaces_read gap rest paired parts.1) (same (text_bytes (between paired) rest))
  where
    same : (o : Option (List ℕ)) → (o >>= (λ (bytes : List ℕ). Some bytes)) ≡ o
    same None = refl
    same (Some bytes) = refl

pair_read : (text rest : List ℕ) (byte : ℕ) (paired : Bool) (more : Option (List ℕ)) → BeginsWithPair text byte rest → text_bytes (between true) rest ≡ more → text_bytes (between paired) text ≡ joined (byte ∷ []) more
unfolding text_bytes
pair_read text rest byte paired more pair later =
    let bar : eqb pair.high 124 ≡ false = digit_other pair.high pair.high_value 124 pair.high_is (inl refl) in
    let space : eqb pair.high 32 ≡ false = digit_other pair.high pair.high_value 32 pair.high_is (inr (inl refl)) in
    ap (text_bytes (between paired)) pair.split ∙ spaces_read pair.gap (pair.high ∷ pair.low ∷ rest) paired pair.spaces
    ∙ rw (bar, space, hex_of pair.high pair.high_value pair.high_is, hex_of pair.low pair.low_value pair.low_is, later, ← pair.value) (same more)
  where
    same : (o : Option (List ℕ)) → ((o >>= (λ (bytes : List ℕ). Some (byte ∷ bytes))) >>= (λ (bytes : List ℕ). Some bytes)) ≡ joined (byte ∷ []) o
    same None = refl
    same (Some bytes) = refl

pair_front : (text rest tail : List ℕ) (byte : ℕ) → BeginsWithPair text byte rest → BeginsWithPair (text ++ tail) byte (rest ++ tail)
pair_front text rest tail byte pair = record {
  gap = pair.gap;
  spaces = pair.spaces;
  high = pair.high;
  low = pair.low;
  high_value = pair.high_value;
  low_value = pair.low_value;
  high_is = pair.high_is;
  low_is = pair.low_is;
  value = pair.value;
  split = ap (λ (l : List ℕ). l ++ tail) pair.split ∙ append_assoc pair.gap (pair.high ∷ pair.low ∷ rest) tail;
}

kept : (o : Option (List ℕ)) → (o >>= (λ (bytes : List ℕ). Some bytes)) ≡ joined [] o
kept None = refl
kept (Some bytes) = refl

joined_twice : (byte : ℕ) (bytes : List ℕ) (o : Option (List ℕ)) → joined (byte ∷ []) (joined bytes o) ≡ joined (byte ∷ bytes) o
joined_twice byte bytes None = refl
joined_twice byte bytes (Some more) = refl

pairs_read : (inside bytes rest : List ℕ) (paired : Bool) → ArePairs inside bytes → AfterPairs paired bytes ≡ true → text_bytes (between paired) (inside ++ 124 ∷ rest) ≡ joined bytes (text_bytes outside rest)
unfolding text_bytes
pairs_read inside [] rest paired are some = spaces_read inside (124 ∷ rest) paired are ∙ rw some (kept (text_bytes outside rest))
pairs_read inside (byte ∷ bytes) rest paired are some =
    pair_read (inside ++ 124 ∷ rest) (are.0 ++ 124 ∷ rest) byte paired _ (pair_front inside are.0 (124 ∷ rest) byte are.1) (pairs_read are.0 bytes rest true are.2 (after bytes))
    ∙ joined_twice byte bytes (text_bytes outside rest)
  where
    after : (bytes : List ℕ) → AfterPairs true bytes ≡ true
    after [] = refl
    after (b ∷ bytes) = refl

plain_no_bar : (b : ℕ) → is_plain b ≡ true → (eqb b 124 ≡ false) × (eqb b 34 ≡ false)
plain_no_bar b plain =
    let outer = and_parts (nat_le 32 b && nat_le b 126 && not (eqb b 34)) (not (eqb b 124)) plain in
    let inner = and_parts (nat_le 32 b && nat_le b 126) (not (eqb b 34)) outer.0 in
    (off (eqb b 124) outer.1, off (eqb b 34) inner.1)
  where
    off : (t : Bool) → not t ≡ true → t ≡ false
    off true is = absurd (cc is)
    off false is = refl

some_after : (bytes : List ℕ) → 1 ≤ length bytes → AfterPairs false bytes ≡ true
some_after [] some = absurd (omega (arith, some))
some_after (b ∷ bytes) some = refl

pieces_read : (text : List ℕ) (pieces : List Piece) → ArePieces text pieces → text_bytes outside text ≡ Some (bytes_of pieces)
unfolding text_bytes
pieces_read text [] are = ap (text_bytes outside) are
pieces_read text (itself b ∷ pieces) are =
    let plain : is_plain b ≡ true = are.1.0 in
    let other = plain_no_bar b plain in
    ap (text_bytes outside) are.1.1 ∙ rw (plain, other.0, pieces_read are.0 pieces are.2)
pieces_read text (pairs bytes ∷ pieces) are =
    let inside : List ℕ = are.1.1.0 in
    let read : text_bytes (between false) (inside ++ 124 ∷ are.0) ≡ joined bytes (text_bytes outside are.0) = pairs_read inside bytes are.0 false are.1.1.1 (some_after bytes are.1.0) in
    ap (text_bytes outside) are.1.1.2 ∙ rw (read, pieces_read are.0 pieces are.2)

-- what was read is pieces

record InBars (paired : Bool) (text bytes : List ℕ) : Type 0 where
  inside : List ℕ
  front : List ℕ
  rest : List ℕ
  pieces : List Piece
  split : text ≡ inside ++ 124 ∷ rest
  pairs_are : ArePairs inside front
  some : AfterPairs paired front ≡ true
  are : ArePieces rest pieces
  gives : front ++ bytes_of pieces ≡ bytes

record InPair (high : ℕ) (text bytes : List ℕ) : Type 0 where
  low : ℕ
  value : ℕ
  rest : List ℕ
  later : List ℕ
  split : text ≡ low ∷ rest
  low_is : IsHexDigit low value
  gives : bytes ≡ (16 * high + value) ∷ later
  bars : InBars true rest later

Gives : Spot → List ℕ → List ℕ → Type 0
Gives outside text bytes = (pieces : List Piece) × ArePieces text pieces × (bytes_of pieces ≡ bytes)
Gives (between paired) text bytes = InBars paired text bytes
Gives (half high) text bytes = InPair high text bytes

some_of : (bytes : List ℕ) → AfterPairs false bytes ≡ true → 1 ≤ length bytes
some_of [] some = absurd (cc some)
some_of (b ∷ bytes) some = omega arith

space_more : (inside front : List ℕ) (c : ℕ) → eqb c 32 ≡ true → ArePairs inside front → ArePairs (c ∷ inside) front
space_more inside [] c space are = and_from _ _ space are
space_more inside (b ∷ front) c space are = (
  are.0,
  record {
    gap = c ∷ are.1.gap;
    spaces = and_from _ _ space are.1.spaces;
    high = are.1.high;
    low = are.1.low;
    high_value = are.1.high_value;
    low_value = are.1.low_value;
    high_is = are.1.high_is;
    low_is = are.1.low_is;
    value = are.1.value;
    split = ap (λ (l : List ℕ). c ∷ l) are.1.split;
  },
  are.2,
)

space_bars : (c : ℕ) (paired : Bool) (text bytes : List ℕ) → eqb c 32 ≡ true → InBars paired text bytes → InBars paired (c ∷ text) bytes
space_bars c paired text bytes space bars = record {
  inside = c ∷ bars.inside;
  front = bars.front;
  rest = bars.rest;
  pieces = bars.pieces;
  split = ap (λ (l : List ℕ). c ∷ l) bars.split;
  pairs_are = space_more bars.inside bars.front c space bars.pairs_are;
  some = bars.some;
  are = bars.are;
  gives = bars.gives;
}

pair_bars : (c high : ℕ) (paired : Bool) (text bytes : List ℕ) → IsHexDigit c high → InPair high text bytes → InBars paired (c ∷ text) bytes
pair_bars c high paired text bytes high_is pair =
    let bars = pair.bars in
    let first : BeginsWithPair (c ∷ pair.low ∷ bars.inside) (16 * high + pair.value) bars.inside = record {
      gap = [];
      spaces = refl;
      high = c;
      low = pair.low;
      high_value = high;
      low_value = pair.value;
      high_is = high_is;
      low_is = pair.low_is;
      value = refl;
      split = refl;
    } in
    record {
      inside = c ∷ pair.low ∷ bars.inside;
      front = (16 * high + pair.value) ∷ bars.front;
      rest = bars.rest;
      pieces = bars.pieces;
      split = ap (λ (l : List ℕ). c ∷ l) (pair.split ∙ ap (λ (l : List ℕ). pair.low ∷ l) bars.split);
      pairs_are = (bars.inside, first, bars.pairs_are);
      some = refl;
      are = bars.are;
      gives = ap (λ (l : List ℕ). (16 * high + pair.value) ∷ l) bars.gives ∙ sym pair.gives;
    }

gives : (spot : Spot) (text bytes : List ℕ) → text_bytes spot text ≡ Some bytes → Gives spot text bytes
unfolding text_bytes Gives
gives outside [] bytes is = ([], refl, cc is)
gives (between paired) [] bytes is = absurd (cc is)
gives (half high) [] bytes is = absurd (cc is)
gives outside (c ∷ text) bytes is = elim (cases_Bool (eqb c 124)) [
  | inl bar ↦
      let later = bind_some (text_bytes (between false) text) _ bytes (rw bar at is) in
      let bars : InBars false text later.0 = gives (between false) text later.0 later.1 in
      let same : later.0 ≡ bytes = cc later.2 in
      let whole : c ∷ text ≡ 124 ∷ (bars.inside ++ 124 ∷ bars.rest) = ap (λ (b : ℕ). b ∷ text) (eqb-true c 124 bar) ∙ ap (λ (l : List ℕ). 124 ∷ l) bars.split in
      (pairs bars.front ∷ bars.pieces, (bars.rest, (some_of bars.front bars.some, (bars.inside, bars.pairs_are, whole)), bars.are), bars.gives ∙ same)
  | inr off ↦ elim (cases_Bool (is_plain c)) [
    | inl plain ↦
        let later = bind_some (text_bytes outside text) _ bytes (rw (plain, off) at is) in
        let pieces : Gives outside text later.0 = gives outside text later.0 later.1 in
        let same : c ∷ later.0 ≡ bytes = cc later.2 in
        (itself c ∷ pieces.0, (text, (plain, refl), pieces.1), ap (λ (l : List ℕ). c ∷ l) pieces.2 ∙ same)
    | inr other ↦ absurd (cc (rw (other, off) at is))
  ]
]
gives (between paired) (c ∷ text) bytes is = elim (cases_Bool (eqb c 124)) [
  | inl bar ↦ elim (cases_Bool paired) [
    | inl on ↦
        let later = bind_some (text_bytes outside text) _ bytes (rw (bar, on) at is) in
        let pieces : Gives outside text later.0 = gives outside text later.0 later.1 in
        let same : later.0 ≡ bytes = cc later.2 in
        record {
          inside = [];
          front = [];
          rest = text;
          pieces = pieces.0;
          split = ap (λ (b : ℕ). b ∷ text) (eqb-true c 124 bar);
          pairs_are = refl;
          some = on;
          are = pieces.1;
          gives = pieces.2 ∙ same;
        }
    | inr off ↦ absurd (cc (rw (bar, off) at is))
  ]
  | inr no_bar ↦ elim (cases_Bool (eqb c 32)) [
    | inl space ↦
        let later = bind_some (text_bytes (between paired) text) _ bytes (rw (no_bar, space) at is) in
        let bars : InBars paired text later.0 = gives (between paired) text later.0 later.1 in
        let same : later.0 ≡ bytes = cc later.2 in
        space_bars c paired text bytes space (subst (λ (l : List ℕ). InBars paired text l) same bars)
    | inr no_space ↦
        let step = bind_some (hex_value c >>= (λ (value : ℕ). Some (half value, None))) _ bytes (rw (no_bar, no_space) at is) in
        let digit = bind_some (hex_value c) _ step.0 step.1 in
        let target : Spot × Option ℕ = (half digit.0, None) in
        let to : target ≡ step.0 = cc digit.2 in
        let later = bind_some (text_bytes step.0.0 text) _ bytes step.2 in
        let half_is : step.0.0 ≡ half digit.0 = sym (ap (λ (t : Spot × Option ℕ). t.0) to) in
        let none_is : step.0.1 ≡ None = sym (ap (λ (t : Spot × Option ℕ). t.1) to) in
        let whole : onto_bytes step.0.1 later.0 ≡ bytes = cc later.2 in
        let same : later.0 ≡ bytes = ap (λ (o : Option ℕ). onto_bytes o later.0) (sym none_is) ∙ whole in
        let pair : InPair digit.0 text later.0 = gives (half digit.0) text later.0 (ap (λ (s : Spot). text_bytes s text) (sym half_is) ∙ later.1) in
        subst (λ (l : List ℕ). InBars paired (c ∷ text) l) same (pair_bars c digit.0 paired text later.0 (hex_back c digit.0 digit.1) pair)
  ]
]
gives (half high) (c ∷ text) bytes is =
    let step = bind_some (hex_value c >>= (λ (low : ℕ). Some (between true, Some (16 * high + low)))) _ bytes is in
    let digit = bind_some (hex_value c) _ step.0 step.1 in
    let target : Spot × Option ℕ = (between true, Some (16 * high + digit.0)) in
    let to : target ≡ step.0 = cc digit.2 in
    let later = bind_some (text_bytes step.0.0 text) _ bytes step.2 in
    let spot_is : step.0.0 ≡ between true = sym (ap (λ (t : Spot × Option ℕ). t.0) to) in
    let byte_is : step.0.1 ≡ Some (16 * high + digit.0) = sym (ap (λ (t : Spot × Option ℕ). t.1) to) in
    let same : onto_bytes step.0.1 later.0 ≡ bytes = cc later.2 in
    let bars : InBars true text later.0 = gives (between true) text later.0 (ap (λ (s : Spot). text_bytes s text) (sym spot_is) ∙ later.1) in
    record {
      low = c;
      value = digit.0;
      rest = text;
      later = later.0;
      split = refl;
      low_is = hex_back c digit.0 digit.1;
      gives = sym same ∙ ap (λ (o : Option ℕ). onto_bytes o later.0) byte_is;
      bars = bars;
    }

pub pattern_of : (text bytes : List ℕ) → IsPatternText text bytes → pattern_bytes text ≡ Some bytes
unfolding pattern_bytes
pattern_of text bytes is =
    let read : text_bytes outside text ≡ Some bytes = pieces_read text is.pieces is.are ∙ ap Some is.gives in
    rw (read, le-leb 1 (length bytes) is.some, le-leb (length bytes) 64 is.few)

pub pattern_back : (text bytes : List ℕ) → pattern_bytes text ≡ Some bytes → IsPatternText text bytes
unfolding pattern_bytes Gives
pattern_back text bytes is =
    let read = bind_some (text_bytes outside text) _ bytes is in
    let both = if_some (nat_le 1 (length read.0) && nat_le (length read.0) 64) read.0 bytes read.2 in
    let sizes = and_parts (nat_le 1 (length read.0)) (nat_le (length read.0) 64) both.0 in
    let pieces : Gives outside text read.0 = gives outside text read.0 read.1 in
    subst (λ (l : List ℕ). IsPatternText text l) both.1 (record { pieces = pieces.0; are = pieces.1; gives = pieces.2; some = leb-true _ _ sizes.0; few = leb-true _ _ sizes.1 })

-- a pattern's text has no quotation mark

quote_more : (a b : List ℕ) → HasNoQuote a → HasNoQuote b → HasNoQuote (a ++ b)
quote_more [] b one two = two
quote_more (c ∷ a) b one two =
    let parts = and_parts (is_no_quote c) (list_all is_no_quote a) one in
    and_from _ _ parts.0 (quote_more a b parts.1 two)

spaces_no_quote : (gap : List ℕ) → list_all is_space gap ≡ true → HasNoQuote gap
spaces_no_quote [] spaces = refl
spaces_no_quote (b ∷ gap) spaces =
    let parts = and_parts (is_space b) (list_all is_space gap) spaces in
    let off : eqb b 34 ≡ false = ne_eqb b 34 (λ e. absurd (omega (arith, e, eqb-true b 32 parts.0))) in
    and_from _ _ (ap not off) (spaces_no_quote gap parts.1)

pairs_no_quote : (inside bytes : List ℕ) → ArePairs inside bytes → HasNoQuote inside
pairs_no_quote inside [] are = spaces_no_quote inside are
pairs_no_quote inside (byte ∷ bytes) are =
    let pair = are.1 in
    let high : eqb pair.high 34 ≡ false = digit_other pair.high pair.high_value 34 pair.high_is (inr (inr refl)) in
    let low : eqb pair.low 34 ≡ false = digit_other pair.low pair.low_value 34 pair.low_is (inr (inr refl)) in
    let digits : HasNoQuote (pair.high ∷ pair.low ∷ are.0) = and_from _ _ (ap not high) (and_from _ _ (ap not low) (pairs_no_quote are.0 bytes are.2)) in
    subst HasNoQuote (sym pair.split) (quote_more pair.gap (pair.high ∷ pair.low ∷ are.0) (spaces_no_quote pair.gap pair.spaces) digits)

pieces_no_quote : (text : List ℕ) (pieces : List Piece) → ArePieces text pieces → HasNoQuote text
pieces_no_quote text [] are = subst HasNoQuote (sym are) refl
pieces_no_quote text (itself b ∷ pieces) are =
    subst HasNoQuote (sym are.1.1) (and_from _ _ (ap not (plain_no_bar b are.1.0).1) (pieces_no_quote are.0 pieces are.2))
pieces_no_quote text (pairs bytes ∷ pieces) are =
    let inside : List ℕ = are.1.1.0 in
    subst HasNoQuote (sym are.1.1.2) (quote_more inside (124 ∷ are.0) (pairs_no_quote inside bytes are.1.1.1) (pieces_no_quote are.0 pieces are.2))

pub text_no_quote : (text bytes : List ℕ) → IsPatternText text bytes → HasNoQuote text
text_no_quote text bytes is = pieces_no_quote text is.pieces is.are
