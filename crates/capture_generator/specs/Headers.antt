-- The headers in a generated capture, byte for byte. Which addresses, ports and marks they have is
-- our choice; the fields are those of RFC 791, RFC 768 and the pcap file format, version 2.4.
use Rattle.std.specs.Prelude.{ℕ, ◌+◌, ◌*◌, ◌%◌, ◌^◌, ◌==◌, List, [], ◌∷◌, ◌++◌, if◌then◌else◌}
use Rattle.std.specs.Int.{w16, w32, to_le_bytes, to_be_bytes}

-- the file's: version 2.4 in little-endian order, packets of at most 262,144 bytes, by Ethernet
abbrev pub file_header : List ℕ
file_header =
    212 ∷ 195 ∷ 178 ∷ 161 ∷ 2 ∷ 0 ∷ 4 ∷ 0 ∷ 0 ∷ 0 ∷ 0 ∷ 0 ∷
    0 ∷ 0 ∷ 0 ∷ 0 ∷ 0 ∷ 0 ∷ 4 ∷ 0 ∷ 1 ∷ 0 ∷ 0 ∷ 0 ∷ []

-- when a packet was captured: on a full second
abbrev pub time_fields : ℕ → List ℕ
time_fields seconds = to_le_bytes w32 seconds ++ 0 ∷ 0 ∷ 0 ∷ 0 ∷ []

-- how long a packet is, once as it was captured and once as it was
abbrev pub length_fields : ℕ → List ℕ
length_fields length = to_le_bytes w32 length ++ to_le_bytes w32 length

-- Ethernet's: to 02:00:00:00:00:02 from 02:00:00:00:00:01
abbrev pub link_addresses : List ℕ
link_addresses = 2 ∷ 0 ∷ 0 ∷ 0 ∷ 0 ∷ 2 ∷ 2 ∷ 0 ∷ 0 ∷ 0 ∷ 0 ∷ 1 ∷ []

-- and its type: 8, 0 for IPv4, and 8, 6 for ARP
abbrev pub ipv4_link : List ℕ
ipv4_link = link_addresses ++ 8 ∷ 0 ∷ []

abbrev pub arp_link : List ℕ
arp_link = link_addresses ++ 8 ∷ 6 ∷ []

-- the mark of a fragment behind which others come
abbrev pub more : ℕ
more = 2 ^ 13

-- IPv4's in front of so many bytes: 20 bytes without options. The fragment is the mark of more, and
-- where the data begins, in units of 8 bytes.
abbrev pub ipv4_front : ℕ → ℕ → ℕ → List ℕ
ipv4_front datagram fragment length =
    69 ∷ 0 ∷ to_be_bytes w16 (20 + length) ++ to_be_bytes w16 (datagram % 2 ^ 16) ++ to_be_bytes w16 fragment

-- 64 routers at most, UDP, from 10.0.0.0 and the datagram's number to 192.0.2.1
abbrev pub ipv4_back : ℕ → List ℕ
ipv4_back datagram =
    64 ∷ 17 ∷ 0 ∷ 0 ∷ to_be_bytes w32 (10 * 2 ^ 24 + datagram) ++ 192 ∷ 0 ∷ 2 ∷ 1 ∷ []

-- the port that a datagram is sent to, by its number
abbrev pub port_of : ℕ → ℕ
port_of datagram = if datagram % 2 == 0 then 53 else 9

-- in front of so many letters of a datagram
abbrev pub udp_header : ℕ → ℕ → List ℕ
udp_header datagram letters =
    15 ∷ 160 ∷ to_be_bytes w16 (port_of datagram) ++ to_be_bytes w16 (8 + letters) ++ 0 ∷ 0 ∷ []
