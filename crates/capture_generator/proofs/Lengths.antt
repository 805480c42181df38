-- How long a generated capture is, and how many packets it has.
use Rattle.std.proofs.Common.{◌≡◌, ℕ, zero, suc, ◌+◌, ◌*◌, ◌<◌, ◌≤◌, ◌==◌, nat_lt, min, Bool, true, false, List, [], ◌∷◌, ◌++◌, All, length, take, drop, refl, ◌∙◌, ap, arith}
use Rattle.std.specs.Prelude.{if◌then◌else◌}
use Rattle.std.proofs.lemmas.List.{length-append, length-take}
use Rattle.std.proofs.lemmas.List.Elements.{All-append, All-take, All-cons, All-nil, All-head}
use Rattle.capture_generator.specs.Draws.{next_state, given_by, state_after, letter_of, letters}
use Rattle.capture_generator.specs.Headers.{file_header, time_fields, length_fields, more, ipv4_link, ipv4_front, ipv4_back, udp_header}
use Rattle.capture_generator.specs.Packets.{ipv4_packet, arp_packet, payload_of, letters_in_whole, whole_line, fragments_of, fragment_line, clash_line, packets_for, kind_of, line_state, datagrams_before, lines_of, records_from, record_of, generated_capture}

abbrev pub IsShort : List ℕ → Type 0
IsShort packet = length packet ≤ 105

abbrev HasOne : List (List ℕ) → Type 0
HasOne packets = 1 ≤ length packets

either : {A : Type 0} (P : A → Type 0) (test : Bool) (x y : A) → P x → P y → P (if test then x else y)
either P true x y first second = first
either P false x y first second = second

letters_length : (state number : ℕ) → length (letters state number) ≡ number
unfolding letters
letters_length state zero = refl
letters_length state (suc number) =
    let grown : length (letters state (suc number)) ≡ length (letters state number) + 1 = length-append (letters state number) (letter_of (given_by (state_after state (suc number))) ∷ []) in
    omega (arith, grown, letters_length state number)

payload_length : (datagram state number : ℕ) → length (payload_of datagram state number) ≡ 8 + number
unfolding payload_of
payload_length datagram state number = length-append (udp_header datagram number) (letters state number) ∙ ap (λ (n : ℕ). 8 + n) (letters_length state number)

ipv4_length : (datagram fragment : ℕ) (payload : List ℕ) → length (ipv4_packet datagram fragment payload) ≡ 34 + length payload
unfolding ipv4_packet
ipv4_length datagram fragment payload = length-append (ipv4_link ++ ipv4_front datagram fragment (length payload) ++ ipv4_back datagram) payload

ipv4_short : (datagram fragment : ℕ) (payload : List ℕ) → length payload ≤ 71 → IsShort (ipv4_packet datagram fragment payload)
ipv4_short datagram fragment payload short = omega (arith, ipv4_length datagram fragment payload, short)

part_short : (payload : List ℕ) → length (take 16 payload) ≤ 71
part_short payload = omega (arith, length-take 16 payload)

arp_short : IsShort arp_packet
unfolding arp_packet
arp_short = omega arith

whole_short : (datagram state : ℕ) → All IsShort (whole_line datagram state)
whole_short datagram state =
    let few : letters_in_whole state < 64 = omega arith in
    All-cons IsShort _ [] (ipv4_short datagram 0 _ (omega (arith, few, payload_length datagram (next_state state) (letters_in_whole state)))) (All-nil IsShort)

fragments_short : (datagram : ℕ) (payload : List ℕ) → All IsShort (fragments_of datagram payload)
fragments_short datagram payload =
    let third : List ℕ = ipv4_packet datagram (more + 2) (take 16 (drop 16 payload)) in
    let second : List ℕ = ipv4_packet datagram more (take 16 payload) in
    All-cons IsShort _ (second ∷ third ∷ []) (ipv4_short datagram 4 _ (part_short (drop 32 payload)))
    (All-cons IsShort second (third ∷ []) (ipv4_short datagram more _ (part_short payload))
    (All-cons IsShort third [] (ipv4_short datagram (more + 2) _ (part_short (drop 16 payload))) (All-nil IsShort)))

clash_short : (datagram state : ℕ) → All IsShort (clash_line datagram state)
clash_short datagram state =
    let other : List ℕ = ipv4_packet datagram (more + 2) (letters (state_after state 40) 16) in
    All-append IsShort (fragment_line datagram state) (other ∷ []) (fragments_short datagram (payload_of datagram state 40))
    (All-cons IsShort _ [] (ipv4_short datagram (more + 2) (letters (state_after state 40) 16) (omega (arith, letters_length (state_after state 40) 16))) (All-nil IsShort))

line_short : (kind datagram state : ℕ) → All IsShort (packets_for kind datagram state)
unfolding packets_for
line_short kind datagram state =
    let fragments : List (List ℕ) = fragment_line datagram state in
    let from_seven : List (List ℕ) = if kind == 7 then clash_line datagram state else fragments in
    let from_four : List (List ℕ) = if kind == 4 then arp_packet ∷ [] else from_seven in
    either (All IsShort) (nat_lt kind 4) (whole_line datagram state) from_four (whole_short datagram state)
    (either (All IsShort) (kind == 4) (arp_packet ∷ []) from_seven (All-cons IsShort _ [] arp_short (All-nil IsShort))
    (either (All IsShort) (kind == 7) (clash_line datagram state) fragments (clash_short datagram state) (fragments_short datagram (payload_of datagram state 40))))

lines_short : (seed line : ℕ) → All IsShort (lines_of seed line)
unfolding lines_of
lines_short seed zero = (All-nil IsShort)
lines_short seed (suc line) =
    let kind : ℕ = kind_of (line_state seed line) in
    let state : ℕ = next_state (line_state seed line) in
    All-append IsShort (lines_of seed line) (packets_for kind (datagrams_before seed line) state) (lines_short seed line)
    (line_short kind (datagrams_before seed line) state)

records_short : (number : ℕ) (packets : List (List ℕ)) → All IsShort packets → length (records_from number packets) ≤ 121 * length packets
unfolding records_from
records_short number [] short = omega arith
records_short number (packet ∷ packets) short =
    let rest : length (records_from (suc number) packets) ≤ 121 * length packets = records_short (suc number) packets (λ k d lt. short (suc k) d (omega arith)) in
    let one : length (record_of number packet) ≡ 16 + length packet = length-append (time_fields number ++ length_fields (length packet)) packet in
    let all : length (record_of number packet ++ records_from (suc number) packets) ≡ length (record_of number packet) + length (records_from (suc number) packets) = length-append (record_of number packet) (records_from (suc number) packets) in
    omega (arith, rest, one, all, All-head IsShort packet packets short)

pub packets_short : (seed packets : ℕ) → All IsShort (take packets (lines_of seed packets))
packets_short seed packets = All-take IsShort packets (lines_of seed packets) (lines_short seed packets)

pub capture_short : (seed packets : ℕ) → packets ≤ 262144 → length (generated_capture seed packets) < 32000000
unfolding generated_capture
capture_short seed packets few =
    let kept : List (List ℕ) = take packets (lines_of seed packets) in
    let number : length kept ≡ min packets (length (lines_of seed packets)) = length-take packets (lines_of seed packets) in
    let records : length (records_from 0 kept) ≤ 121 * length kept = records_short 0 kept (packets_short seed packets) in
    let whole : length (file_header ++ records_from 0 kept) ≡ 24 + length (records_from 0 kept) = length-append file_header (records_from 0 kept) in
    omega (arith, few, number, records, whole)

line_has_one : (kind datagram state : ℕ) → 1 ≤ length (packets_for kind datagram state)
unfolding packets_for
line_has_one kind datagram state =
    either HasOne (nat_lt kind 4) _ _ (omega arith)
    (either HasOne (kind == 4) _ _ (omega arith)
    (either HasOne (kind == 7) _ _ (omega arith) (omega arith)))

lines_enough : (seed line : ℕ) → line ≤ length (lines_of seed line)
unfolding lines_of
lines_enough seed zero = omega arith
lines_enough seed (suc line) =
    omega (
      arith,
      lines_enough seed line,
      line_has_one (kind_of (line_state seed line)) (datagrams_before seed line) (next_state (line_state seed line)),
      length-append (lines_of seed line) (packets_for (kind_of (line_state seed line)) (datagrams_before seed line) (next_state (line_state seed line))),
    )

pub packets_counted : (seed packets : ℕ) → length (take packets (lines_of seed packets)) ≡ packets
packets_counted seed packets = omega (arith, length-take packets (lines_of seed packets), lines_enough seed packets)
