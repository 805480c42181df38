-- A generated capture is read as its packets.
use Rattle.std.proofs.Common.{◌≡◌, inl, ℕ, suc, ◌+◌, ◌<◌, ◌≤◌, ◌^◌, false, List, [], ◌∷◌, ◌++◌, All, length, take, drop, get_or, refl, sym, ◌∙◌, ap, append_assoc, append-nil, arith}
use Rattle.std.specs.Prelude.{map}
use Rattle.std.specs.Int.{w32, to_le_bytes, from_le_bytes}
use Rattle.std.proofs.lemmas.List.{length-append, get_or-append-add}
use Rattle.std.proofs.Math.Seq.{drop-append-add, take-append_seam}
use Rattle.std.proofs.lemmas.List.Elements.{All-head, All-tail}
use Rattle.std.proofs.lemmas.Nat.{from_le_bytes-to_le_bytes_4}
use Rattle.capture_terms.specs.Capture.{AreRecords, frame_bytes}
use Rattle.capture_terms.specs.Numbers.{number16, number32}
use Rattle.capture_terms.specs.declared.capture.Endianness.TheVariants.{Little}
use Rattle.capture_terms.specs.declared.capture.Frame.{Frame}
use Rattle.capture_generator.specs.Headers.{file_header, time_fields, length_fields}
use Rattle.capture_generator.specs.Packets.{record_of, records_from, packets_of, generated_capture}
use Rattle.capture_generator.specs.Reading.{GeneratedIsRead}
use Rattle.capture_generator.proofs.Lengths.{IsShort, packets_short, packets_counted}

-- a number of four bytes, as it was written
written : (n : ℕ) (rest : List ℕ) → n < 2 ^ 32 → number32 Little (to_le_bytes w32 n ++ rest) 0 ≡ n
unfolding number32
written n rest small =
    let back : from_le_bytes w32 (to_le_bytes w32 n) ≡ n = from_le_bytes-to_le_bytes_4 n small in
    omega (arith, back)

-- and one that stands behind other bytes
behind : (front bytes : List ℕ) (k : ℕ) → number32 Little (front ++ bytes) (length front + k) ≡ number32 Little bytes k
unfolding number32
behind front bytes k =
    let one : get_or (front ++ bytes) (length front + k + 1) 0 ≡ get_or bytes (k + 1) 0 =
    ap (λ (n : ℕ). get_or (front ++ bytes) n 0) (plus (length front) k 1) ∙ get_or-append-add front bytes (k + 1) 0 in
    let two : get_or (front ++ bytes) (length front + k + 2) 0 ≡ get_or bytes (k + 2) 0 =
    ap (λ (n : ℕ). get_or (front ++ bytes) n 0) (plus (length front) k 2) ∙ get_or-append-add front bytes (k + 2) 0 in
    let three : get_or (front ++ bytes) (length front + k + 3) 0 ≡ get_or bytes (k + 3) 0 =
    ap (λ (n : ℕ). get_or (front ++ bytes) n 0) (plus (length front) k 3) ∙ get_or-append-add front bytes (k + 3) 0 in
    omega (arith, get_or-append-add front bytes k 0, one, two, three)
  where
    plus : (a b c : ℕ) → a + b + c ≡ a + (b + c)
    plus a b c = omega arith

-- the fields of a record, behind other bytes
module _ (front packet rest : List ℕ) (number : ℕ) (early : number < 2 ^ 32) (short : length packet < 2 ^ 32) where
  whole : List ℕ
  whole = front ++ (record_of number packet ++ rest)

  here : (k n : ℕ) → number32 Little (record_of number packet ++ rest) k ≡ n → number32 Little (front ++ (record_of number packet ++ rest)) (length front + k) ≡ n
  here k n is = behind front (record_of number packet ++ rest) k ∙ is

  pub seconds : number32 Little (front ++ (record_of number packet ++ rest)) (length front + 0) ≡ number
  seconds = here 0 number (written number (0 ∷ 0 ∷ 0 ∷ 0 ∷ (to_le_bytes w32 (length packet) ++ to_le_bytes w32 (length packet) ++ packet ++ rest)) early)

  pub fraction : number32 Little (front ++ (record_of number packet ++ rest)) (length front + 4) ≡ 0
  unfolding number32
  fraction = here 4 0 refl

  pub captured : number32 Little (front ++ (record_of number packet ++ rest)) (length front + 8) ≡ length packet
  unfolding number32
  captured = here 8 (length packet) (written (length packet) (to_le_bytes w32 (length packet) ++ packet ++ rest) short)

  pub original : number32 Little (front ++ (record_of number packet ++ rest)) (length front + 12) ≡ length packet
  unfolding number32
  original = here 12 (length packet) (written (length packet) (packet ++ rest) short)

-- the frames of packets whose records stand from a place on
frames_from : ℕ → ℕ → List (List ℕ) → List Frame
frames_from at number [] = []
frames_from at number (packet ∷ packets) =
    record { seconds = number; fraction = 0; at = at + 16; length = length packet; original = length packet } ∷ frames_from (at + 16 + length packet) (suc number) packets

frames_counted : (at number : ℕ) (packets : List (List ℕ)) → length (frames_from at number packets) ≡ length packets
unfolding frames_from
frames_counted at number [] = refl
frames_counted at number (packet ∷ packets) = ap suc (frames_counted (at + 16 + length packet) (suc number) packets)

abbrev frame_with : ℕ → ℕ → ℕ → ℕ → ℕ → Frame
frame_with a b c d e = record { seconds = a; fraction = b; at = c; length = d; original = e }

frame_same : (a b c d e s f l o : ℕ) → s ≡ a → f ≡ b → l ≡ d → o ≡ e → frame_with a b c d e ≡ frame_with s f c l o
frame_same a b c d e s f l o first second fourth fifth = cc

record_length : (number : ℕ) (packet : List ℕ) → length (record_of number packet) ≡ 16 + length packet
record_length number packet = length-append (time_fields number ++ length_fields (length packet)) packet

-- where the records of packets stand behind a front
module _ (bytes : List ℕ) where
  are_records : (packets : List (List ℕ)) (front : List ℕ) (at number : ℕ) → bytes ≡ front ++ records_from number packets → at ≡ length front
      → number + length packets ≤ 262144 → All IsShort packets → AreRecords Little bytes at (frames_from at number packets) (length bytes)
  unfolding frames_from records_from
  are_records [] front at number split place few short = place ∙ sym (ap length (split ∙ append-nil front))
  are_records (packet ∷ packets) front at number split place few short =
      let others : List ℕ = records_from (suc number) packets in
      let small : length packet ≤ 105 = All-head IsShort packet packets short in
      let size : length bytes ≡ length front + (16 + length packet + length others) =
      ap length split ∙ length-append front (record_of number packet ++ others) ∙ ap (λ (n : ℕ). length front + n) (length-append (record_of number packet) others ∙ ap (λ (n : ℕ). n + length others) (record_length number packet)) in
      let field : (k n : ℕ) → number32 Little (front ++ (record_of number packet ++ others)) (length front + k) ≡ n → number32 Little bytes (at + k) ≡ n =
      λ k n is. ap (λ (b : List ℕ). number32 Little b (at + k)) split ∙ ap (λ (p : ℕ). number32 Little (front ++ (record_of number packet ++ others)) (p + k)) place ∙ is in
      let early : number < 2 ^ 32 = omega (arith, few) in
      let low : length packet < 2 ^ 32 = omega (arith, small) in
      let first : number32 Little bytes at ≡ number = ap (λ (p : ℕ). number32 Little bytes p) (add_none at) ∙ field 0 number (seconds front packet others number early low) in
      let next : bytes ≡ (front ++ record_of number packet) ++ others = split ∙ sym (append_assoc front (record_of number packet) others) in
      let moved : at + 16 + length packet ≡ length (front ++ record_of number packet) = ap (λ (p : ℕ). p + 16 + length packet) place ∙ sums (length front) (length packet) ∙ ap (λ (n : ℕ). length front + n) (sym (record_length number packet)) ∙ sym (length-append front (record_of number packet)) in (
        record {
          header = omega (arith, size, place);
          fields = frame_same number 0 (at + 16) (length packet) (length packet) _ _ _ _ first
              (field 4 0 (fraction front packet others number early low))
              (field 8 (length packet) (captured front packet others number early low)) (field 12 (length packet) (original front packet others number early low));
          short = omega (arith, small);
          whole = omega (arith, size, place);
        },
        are_records packets (front ++ record_of number packet) (at + 16 + length packet) (suc number) next moved (omega (arith, few)) (All-tail IsShort packet packets short),
      )
    where
      add_none : (n : ℕ) → n ≡ n + 0
      add_none n = omega arith

      sums : (a b : ℕ) → a + 16 + b ≡ a + (16 + b)
      sums a b = omega arith

  -- their bytes are the packets
  are_packets : (packets : List (List ℕ)) (front : List ℕ) (at number : ℕ) → bytes ≡ front ++ records_from number packets → at ≡ length front
      → map (frame_bytes bytes) (frames_from at number packets) ≡ packets
  unfolding frames_from records_from
  are_packets [] front at number split place = refl
  are_packets (packet ∷ packets) front at number split place =
      let others : List ℕ = records_from (suc number) packets in
      let rest : drop (at + 16) bytes ≡ packet ++ others =
      ap (λ (b : List ℕ). drop (at + 16) b) split
      ∙ ap (λ (p : ℕ). drop (p + 16) (front ++ (record_of number packet ++ others))) place
      ∙ drop-append-add front (record_of number packet ++ others) 16 in
      let this : take (length packet) (drop (at + 16) bytes) ≡ packet = ap (λ (b : List ℕ). take (length packet) b) rest ∙ take-append_seam packet others in
      let next : bytes ≡ (front ++ record_of number packet) ++ others = split ∙ sym (append_assoc front (record_of number packet) others) in
      let moved : at + 16 + length packet ≡ length (front ++ record_of number packet) = ap (λ (p : ℕ). p + 16 + length packet) place ∙ sums (length front) (length packet) ∙ ap (λ (n : ℕ). length front + n) (sym (record_length number packet)) ∙ sym (length-append front (record_of number packet)) in
      ap (λ (p : List ℕ). p ∷ map (frame_bytes bytes) (frames_from (at + 16 + length packet) (suc number) packets)) this
      ∙ ap (λ (ps : List (List ℕ)). packet ∷ ps) (are_packets packets (front ++ record_of number packet) (at + 16 + length packet) (suc number) next moved)
    where
      sums : (a b : ℕ) → a + 16 + b ≡ a + (16 + b)
      sums a b = omega arith

add_zero : (n : ℕ) → n + 0 ≡ n
add_zero n = omega arith

pub read : GeneratedIsRead
unfolding generated_capture number32 number16
read seed packets few =
    let kept : List (List ℕ) = packets_of seed packets in
    let bytes : List ℕ = generated_capture seed packets in
    let count : length kept ≡ packets = packets_counted seed packets in
    let counted : length (frames_from 24 0 kept) ≡ packets = frames_counted 24 0 kept ∙ count in (
      record { nanos = false; link = 1; frames = frames_from 24 0 kept; torn = 0 },
      record {
        says = record {
          order = Little;
          end = length bytes;
          before = record {
            header = record { long = omega (arith, length-append file_header (records_from 0 kept)); magic = inl refl; version = (refl, refl) };
            accepted = refl;
            records = are_records bytes kept file_header 24 0 refl refl (omega (arith, count, few)) (packets_short seed packets);
            few = omega (arith, counted, few);
          };
          tail = record { left = add_zero (length bytes); cut = inl (omega arith) };
          link = refl;
          unit = refl;
        };
        count = counted;
        link = refl;
        torn = refl;
        unit = refl;
        bytes = are_packets bytes kept file_header 24 0 refl refl;
      },
    )
