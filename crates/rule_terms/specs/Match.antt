-- What rules find in the payload of a datagram: every place is tried.
use Rattle.std.specs.Prelude.{◌≡◌, ℕ, zero, suc, ◌+◌, ◌*◌, ◌<◌, ◌≤◌, Bool, true, false, ◌&&◌, ◌||◌, ◌==◌, nat_le, List, [], ◌∷◌, ◌++◌, map, length, take, drop, slice_index, Option, Some, None, is_some, IfSome, MatchOption, if◌then◌else◌}
use Rattle.std.specs.List.{list_all}
use Rattle.std.specs.Str.{bytes_eq}
use Rattle.capture_terms.specs.declared.datagram.Header.{Header}
use Rattle.rule_terms.specs.Rule.{Pattern, Rule}

-- a letter of ASCII in lower case, and every other byte as it is
abbrev pub lowered : ℕ → ℕ
lowered b = if nat_le 65 b && nat_le b 90 then b + 32 else b

-- the bytes as they are compared
unfoldable pub compared : Bool → List ℕ → List ℕ
compared false bytes = bytes
compared true bytes = map lowered bytes

-- the bytes of the payload from this place on, as many as the pattern has
abbrev pub bytes_at : Pattern → List ℕ → ℕ → List ℕ
bytes_at pattern payload place = take (length pattern.bytes) (drop place payload)

abbrev pub is_from : Option ℕ → ℕ → Bool
is_from None place = true
is_from (Some low) place = nat_le low place

abbrev pub is_to : Option ℕ → ℕ → Bool
is_to None end = true
is_to (Some high) end = nat_le end high

-- the pattern stands at this place of the payload, within its own bounds and the payload's
unfoldable pub stands_at : Pattern → List ℕ → ℕ → Bool
stands_at pattern payload place =
    is_from pattern.from place && is_to pattern.to (place + length pattern.bytes) && nat_le (place + length pattern.bytes) (length payload)
    && bytes_eq (compared pattern.nocase (bytes_at pattern payload place)) (compared pattern.nocase pattern.bytes)

-- the same in words
pub record StandsAt (pattern : Pattern) (payload : List ℕ) (place : ℕ) : Type 0 where
  pub from : IfSome pattern.from (λ low. low ≤ place)
  pub to : IfSome pattern.to (λ high. place + length pattern.bytes ≤ high)
  pub fits : place + length pattern.bytes ≤ length payload
  pub same : compared pattern.nocase (bytes_at pattern payload place) ≡ compared pattern.nocase pattern.bytes

-- no place below this one is such
abbrev pub NoneBelow : Pattern → List ℕ → ℕ → Type 0
NoneBelow pattern payload end = (place : ℕ) → place < end → ¬ StandsAt pattern payload place

-- the least place at which the pattern stands is this one, or it stands nowhere
abbrev pub IsLeastPlace : Pattern → List ℕ → Option ℕ → Type 0
IsLeastPlace pattern payload r =
    MatchOption r ((place : ℕ) → ¬ StandsAt pattern payload place) (λ place. StandsAt pattern payload place × NoneBelow pattern payload place)

-- the number, where there is one, or else this one, where it passes the test
abbrev pub or_else : Option ℕ → Bool → ℕ → Option ℕ
or_else None passes n = if passes then Some n else None
or_else (Some least) passes n = Some least

-- the least number below the end that passes the test
unfoldable pub least_below : (ℕ → Bool) → ℕ → Option ℕ
least_below test zero = None
least_below test (suc n) = or_else (least_below test n) (test n) n

-- the least place of a payload at which the pattern stands
unfoldable pub place_of : Pattern → List ℕ → Option ℕ
place_of pattern payload = least_below (stands_at pattern payload) (length payload + 1)

-- the pattern stands somewhere
abbrev pub is_there : List ℕ → Pattern → Bool
is_there payload pattern = is_some (place_of pattern payload)

-- the protocol is the one asked for, where one is
abbrev pub is_protocol : Option ℕ → ℕ → Bool
is_protocol None protocol = true
is_protocol (Some wanted) protocol = wanted == protocol

-- the port at this place of a payload, the higher byte first: the source port at 0, the destination port at 2
-- (TCP: RFC 9293, section 3.1; UDP: RFC 768)
abbrev pub port_at : ℕ → List ℕ → ℕ
port_at place payload = slice_index payload place * 256 + slice_index payload (place + 1)

-- the port at this place is the one asked for, where one is; only TCP (6) and UDP (17) have ports
abbrev pub is_port : Option ℕ → ℕ → ℕ → List ℕ → Bool
is_port None place protocol payload = true
is_port (Some wanted) place protocol payload = (protocol == 6 || protocol == 17) && nat_le 4 (length payload) && (port_at place payload == wanted)

-- the datagram is one that the rule looks into
unfoldable pub is_for : Rule → Header → List ℕ → Bool
is_for rule header payload =
    is_protocol rule.protocol header.protocol && is_port rule.source_port 0 header.protocol payload && is_port rule.destination_port 2 header.protocol payload

-- the place of the rule's finding in a datagram: the least place of its first pattern, where the rule matches
unfoldable pub finding_of : Rule → Header → List ℕ → Option ℕ
finding_of rule header payload = if is_for rule header payload && list_all (is_there payload) rule.others then place_of rule.first payload else None

abbrev pub numbered : ℕ → Option ℕ → List (ℕ × ℕ)
numbered n None = []
numbered n (Some place) = (n, place) ∷ []

-- the findings of rules whose first has the number n
unfoldable pub findings_from : ℕ → List Rule → Header → List ℕ → List (ℕ × ℕ)
findings_from n [] header payload = []
findings_from n (rule ∷ rules) header payload = numbered n (finding_of rule header payload) ++ findings_from (n + 1) rules header payload

-- the findings of rules in a datagram, each as the number of its rule, from 0, and its place; in order of the numbers
abbrev pub findings_of : List Rule → Header → List ℕ → List (ℕ × ℕ)
findings_of rules header payload = findings_from 0 rules header payload
