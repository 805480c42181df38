-- The packets of a generated capture. They come in lines: a line is one packet or the fragments of
-- one datagram, and is drawn from the state that the line before it left.
use Rattle.std.specs.Prelude.{ℕ, zero, suc, ◌+◌, ◌%◌, ◌==◌, nat_lt, List, [], ◌∷◌, ◌++◌, length, take, drop, replicate, if◌then◌else◌}
use Rattle.capture_generator.specs.Draws.{next_state, given_by, state_after, letters}
use Rattle.capture_generator.specs.Headers.{file_header, time_fields, length_fields, ipv4_link, arp_link, more, ipv4_front, ipv4_back, udp_header}

-- a packet of IPv4 with a datagram's payload, or a fragment of it
unfoldable pub ipv4_packet : ℕ → ℕ → List ℕ → List ℕ
ipv4_packet datagram fragment payload =
    ipv4_link ++ ipv4_front datagram fragment (length payload) ++ ipv4_back datagram ++ payload

unfoldable pub arp_packet : List ℕ
arp_packet = arp_link ++ replicate 46 0

-- a datagram's payload: so many letters, drawn from a state, behind their header
unfoldable pub payload_of : ℕ → ℕ → ℕ → List ℕ
payload_of datagram state number = udp_header datagram number ++ letters state number

-- 48 bytes in three fragments, of which the last comes first
abbrev pub fragments_of : ℕ → List ℕ → List (List ℕ)
fragments_of datagram payload =
    ipv4_packet datagram 4 (take 16 (drop 32 payload)) ∷
    ipv4_packet datagram more (take 16 payload) ∷
    ipv4_packet datagram (more + 2) (take 16 (drop 16 payload)) ∷ []

-- What a line is, by the state behind the draw of its kind.

-- how many letters a whole datagram has, by a draw of its own
abbrev pub letters_in_whole : ℕ → ℕ
letters_in_whole state = given_by (next_state state) % 64

abbrev pub whole_line : ℕ → ℕ → List (List ℕ)
whole_line datagram state =
    ipv4_packet datagram 0 (payload_of datagram (next_state state) (letters_in_whole state)) ∷ []

abbrev pub fragment_line : ℕ → ℕ → List (List ℕ)
fragment_line datagram state = fragments_of datagram (payload_of datagram state 40)

-- the last packet has other letters for the bytes of the third
abbrev pub clash_line : ℕ → ℕ → List (List ℕ)
clash_line datagram state =
    fragment_line datagram state ++ ipv4_packet datagram (more + 2) (letters (state_after state 40) 16) ∷ []

-- the kinds are drawn below 8: four of whole datagrams, one of none, two of fragments, one of a clash
unfoldable pub packets_for : ℕ → ℕ → ℕ → List (List ℕ)
packets_for kind datagram state =
    if nat_lt kind 4 then whole_line datagram state
    else if kind == 4 then arp_packet ∷ []
    else if kind == 7 then clash_line datagram state
    else fragment_line datagram state

-- the state behind the line
unfoldable pub state_behind : ℕ → ℕ → ℕ
state_behind kind state =
    if nat_lt kind 4 then state_after (next_state state) (letters_in_whole state)
    else if kind == 4 then state
    else if kind == 7 then state_after (state_after state 40) 16
    else state_after state 40

-- The lines from a seed on.

abbrev pub kind_of : ℕ → ℕ
kind_of state = given_by (next_state state) % 8

-- how many datagrams a line of a kind has
abbrev pub datagrams_in : ℕ → ℕ
datagrams_in kind = if kind == 4 then 0 else 1

-- the state that a line is drawn from
unfoldable pub line_state : ℕ → ℕ → ℕ
line_state seed zero = seed
line_state seed (suc line) = state_behind (kind_of (line_state seed line)) (next_state (line_state seed line))

-- how many datagrams come before a line
unfoldable pub datagrams_before : ℕ → ℕ → ℕ
datagrams_before seed zero = 0
datagrams_before seed (suc line) =
    datagrams_before seed line + datagrams_in (kind_of (line_state seed line))

-- the packets of so many lines
unfoldable pub lines_of : ℕ → ℕ → List (List ℕ)
lines_of seed zero = []
lines_of seed (suc line) =
    lines_of seed line
    ++ packets_for (kind_of (line_state seed line)) (datagrams_before seed line) (next_state (line_state seed line))

-- The capture.

-- a packet's record, by its number
abbrev pub record_of : ℕ → List ℕ → List ℕ
record_of number packet = time_fields number ++ length_fields (length packet) ++ packet

-- the records of packets, of which the first has a number
unfoldable pub records_from : ℕ → List (List ℕ) → List ℕ
records_from number [] = []
records_from number (packet ∷ packets) = record_of number packet ++ records_from (suc number) packets

-- so many packets. As many lines suffice, since each has one packet at least.
abbrev pub packets_of : ℕ → ℕ → List (List ℕ)
packets_of seed packets = take packets (lines_of seed packets)

-- the capture with so many packets
unfoldable pub generated_capture : ℕ → ℕ → List ℕ
generated_capture seed packets = file_header ++ records_from 0 (packets_of seed packets)
