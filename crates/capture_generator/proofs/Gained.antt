-- What a capture gains with each packet.
use Rattle.std.proofs.Common.{◌≡◌, ℕ, suc, ◌+◌, ◌<◌, min, List, [], ◌∷◌, ◌++◌, length, take, sym, ◌∙◌, ap, append_assoc, arith, subst}
use Rattle.std.proofs.lemmas.List.{take_all, length-take, append-nil}
use Rattle.std.proofs.lemmas.List.{length-append}
use Rattle.capture_generator.specs.Headers.{file_header}
use Rattle.capture_generator.specs.Packets.{record_of, records_from}
use Rattle.capture_generator.specs.Written.{Holds, Gains}
use Rattle.capture_generator.specs.declared.written.Written.{Written}

pub records_behind : (number : ℕ) (packets : List (List ℕ)) (packet : List ℕ) →
    records_from number (packets ++ packet ∷ []) ≡ records_from number packets ++ record_of (number + length packets) packet
unfolding records_from
records_behind number [] packet =
    let here : number ≡ number + 0 = omega arith in
    append-nil (record_of number packet) ∙ ap (λ (n : ℕ). record_of n packet) here
records_behind number (first ∷ packets) packet =
    let places : suc number + length packets ≡ number + suc (length packets) = omega arith in
    ap (λ (l : List ℕ). record_of number first ++ l) (records_behind (suc number) packets packet ∙ ap (λ (n : ℕ). records_from (suc number) packets ++ record_of n packet) places)
    ∙ sym (append_assoc (record_of number first) (records_from (suc number) packets) (record_of (number + suc (length packets)) packet))

zero_front : (n : ℕ) → n ≡ 0 + n
zero_front n = omega arith

pub gains_then : (a b c : Written) (ps qs : List (List ℕ)) → Gains a b ps → Gains b c qs → Gains a c (ps ++ qs)
gains_then a b c ps qs first second = λ limit before holds.
    subst (λ (l : List (List ℕ)). Holds limit c l) (append_assoc before ps qs) (second limit (before ++ ps) (first limit before holds))

-- with room: the packets are all there, and this one behind them
pub gains_packet : (old new : Written) (packet : List ℕ) → old.packets < old.limit → new.limit ≡ old.limit → new.packets ≡ old.packets + 1 →
    new.bytes.items ≡ old.bytes.items ++ record_of old.packets packet → Gains old new (packet ∷ [])
gains_packet old new packet room limit_same count_same appended = λ limit before holds.
    let counted : length (take limit before) ≡ min limit (length before) = length-take limit before in
    let room_left : length before < limit = omega (arith, counted, holds.count, holds.limit_is, room) in
    let all_before : take limit before ≡ before = take_all limit before (omega (arith, room_left)) in
    let longer : length (before ++ packet ∷ []) ≡ length before + 1 = length-append before (packet ∷ []) in
    let all_now : take limit (before ++ packet ∷ []) ≡ before ++ packet ∷ [] = take_all limit (before ++ packet ∷ []) (omega (arith, room_left, longer)) in
    let number : old.packets ≡ 0 + length before = holds.count ∙ ap length all_before ∙ zero_front (length before) in
    record {
      limit_is = limit_same ∙ holds.limit_is;
      count = count_same ∙ ap (λ (n : ℕ). n + 1) (holds.count ∙ ap length all_before) ∙ sym longer ∙ ap length (sym all_now);
      bytes = appended
          ∙ ap (λ (l : List ℕ). l ++ record_of old.packets packet) (holds.bytes ∙ ap (λ (ps : List (List ℕ)). file_header ++ records_from 0 ps) all_before)
          ∙ append_assoc file_header (records_from 0 before) (record_of old.packets packet)
          ∙ ap (λ (n : ℕ). file_header ++ (records_from 0 before ++ record_of n packet)) number
          ∙ ap (λ (l : List ℕ). file_header ++ l) (sym (records_behind 0 before packet))
          ∙ ap (λ (ps : List (List ℕ)). file_header ++ records_from 0 ps) (sym all_now);
    }

pub three_behind : (old a b c one two three : List ℕ) → one ≡ old ++ a → two ≡ one ++ b → three ≡ two ++ c → three ≡ old ++ (a ++ b ++ c)
three_behind old a b c one two three first second third =
    third
    ∙ ap (λ (l : List ℕ). l ++ c) (second ∙ ap (λ (l : List ℕ). l ++ b) first ∙ append_assoc old a b)
    ∙ append_assoc old (a ++ b) c

-- before the first packet
pub holds_none : (limit : ℕ) (written : Written) → written.limit ≡ limit → written.packets ≡ 0 → written.bytes.items ≡ file_header → Holds limit written []
unfolding records_from
holds_none limit written limit_is none header =
    let nothing : take {A = List ℕ} limit [] ≡ [] = take_all limit [] (omega arith) in
    record {
      limit_is = limit_is;
      count = none ∙ ap length (sym nothing);
      bytes = header ∙ ap (λ (ps : List (List ℕ)). file_header ++ records_from 0 ps) (sym nothing);
    }
