-- A line is read as an opening, a record or a sight exactly where it is that one's text.
use Rattle.std.specs.Prelude.{◌&&◌}
use Rattle.std.specs.Str.{bytes_eq}
use Rattle.std.specs.List.{join_with_byte}
use Rattle.std.proofs.Common.{◌≡◌, ℕ, inl, inr, Bool, true, false, List, [], ◌∷◌, ◌++◌, sym, refl, ap, ◌∙◌, subst, Some, arith, codes, decimal}
use Rattle.std.proofs.lemmas.Bool.{and_parts}
use Rattle.std.proofs.lemmas.List.Splits.{join_with_byte-slice_split}
use Rattle.serial_terms.specs.declared.call.Done.{Done}
use Rattle.serial_terms.specs.declared.sight.SightEnd.{SightEnd}
use Rattle.serial_terms.specs.declared.sight.SightEnd.TheVariants.{Aborted, Refused, Full, Child}
use Rattle.serial_terms.specs.Entries.{Entry}
use Rattle.serial_terms.specs.Sights.{Seen}
use Rattle.journal_terms.specs.Text.{space, colon, writer_word, end_words, sizes_text, record_text, sight_text}
use Rattle.journal_terms.specs.Laws.{IsShort, HasShortEnd, IsWritableEntry, IsWritableSight}
use Rattle.journal_terms.specs.Reading.{cut_at}
use Rattle.journal_terms.specs.Strict.{both, all_three, all_four, number, small, letter, RecordHead, read_record_head, record_with, read_record_parts, read_record, SightHead, read_end, read_sight_head, sight_with, read_sight_parts, read_sight, read_sizes, read_open, read_calls, IsSmall, HasSmallEnd, IsReadableRecord, IsReadableSight, LinesAreRead}
use Rattle.journal_terms.proofs.Words.{plain_word, decimal_word}
use Rattle.journal_terms.proofs.Heads.{head_words, line_cut}
use Rattle.journal_terms.proofs.Records.{record_words, record_are, sight_words, sight_are}
use Rattle.journal_terms.proofs.StrictNumbers.{if_so, if_cases, is_word}
use Rattle.journal_terms.proofs.StrictCalls.{by_both, by_three, by_four, number_of, small_of, short_back, small_back, cut_words, calls_are, calls_back, writable}

-- ---- openings

abbrev IsSizes : List (List ℕ) → ℕ × ℕ × ℕ → Type 0
IsSizes ws s = IsShort s.0 × IsShort s.1 × IsShort s.2 × (codes "open" ∷ decimal s.0 ∷ decimal s.1 ∷ decimal s.2 ∷ [] ≡ ws)

sizes_are : (ws : List (List ℕ)) (s : ℕ × ℕ × ℕ) → read_sizes ws ≡ Some s → IsSizes ws s
sizes_are [] s e = absurd (cc e)
sizes_are (o ∷ []) s e = absurd (cc e)
sizes_are (o ∷ a ∷ []) s e = absurd (cc e)
sizes_are (o ∷ a ∷ b ∷ []) s e = absurd (cc e)
sizes_are (o ∷ a ∷ b ∷ c ∷ []) s e = let h = if_so (bytes_eq o (codes "open")) _ s e in
    by_three (IsSizes (o ∷ a ∷ b ∷ c ∷ [])) (λ n g f. (n, g, f)) (number a) (number b) (number c) s h.1 (λ n g f x y z.
    let u = number_of a n x in let v = number_of b g y in let w = number_of c f z in
    (u.0, v.0, w.0, λ i. is_word o (codes "open") h.0 i ∷ u.1 i ∷ v.1 i ∷ w.1 i ∷ []))
sizes_are (o ∷ a ∷ b ∷ c ∷ d ∷ ds) s e = absurd (cc e)

open_is : (line : List ℕ) (n g f : ℕ) → read_open line ≡ Some (n, g, f) → IsShort n × IsShort g × IsShort f × (sizes_text n g f ≡ line)
unfolding read_open
open_is line n g f e = let s = sizes_are (cut_at space line) (n, g, f) e in
    (s.0, s.1, s.2, cut_words line (codes "open" ∷ decimal n ∷ decimal g ∷ decimal f ∷ []) s.3)

pub open_back : (n g f : ℕ) → IsShort n → IsShort g → IsShort f → read_open (sizes_text n g f) ≡ Some (n, g, f)
unfolding read_open
open_back n g f a b c = ap read_sizes (head_words (codes "open") (decimal n ∷ decimal g ∷ decimal f ∷ []) (plain_word (codes "open") refl, (decimal_word n a, (decimal_word g b, (decimal_word f c, tt)))))
    ∙ (λ i. all_three (short_back n a i) (short_back g b i) (short_back f c i) (λ x y z. (x, y, z)))

-- ---- records

letter_is : (w : List ℕ) (b : Bool) → letter w ≡ Some b → writer_word b ≡ w
letter_is w b e = elim (if_cases (bytes_eq w (codes "w")) _ _ b e) [
  | inl h ↦ (let same : true ≡ b = cc (h.1) in ap writer_word (sym same) ∙ is_word w (codes "w") h.0)
  | inr h ↦ (let k = if_so (bytes_eq w (codes "r")) _ b h.1 in let same : false ≡ b = cc (k.1) in ap writer_word (sym same) ∙ is_word w (codes "r") k.0)
]

letter_back : (b : Bool) → letter (writer_word b) ≡ Some b
letter_back true = refl
letter_back false = refl

record IsRecordHead (ws : List (List ℕ)) (h : RecordHead) : Type 0 where
  place : IsShort h.place
  caller : IsSmall h.caller
  index : IsShort h.index
  words : codes "t" ∷ decimal h.place ∷ writer_word h.writer ∷ decimal h.caller ∷ decimal h.index ∷ [] ≡ ws

record_head_is : (ws : List (List ℕ)) (h : RecordHead) → read_record_head ws ≡ Some h → IsRecordHead ws h
unfolding read_record_head
record_head_is [] h e = absurd (cc e)
record_head_is (t ∷ []) h e = absurd (cc e)
record_head_is (t ∷ a ∷ []) h e = absurd (cc e)
record_head_is (t ∷ a ∷ b ∷ []) h e = absurd (cc e)
record_head_is (t ∷ a ∷ b ∷ c ∷ []) h e = absurd (cc e)
record_head_is (t ∷ a ∷ b ∷ c ∷ d ∷ []) h e = let k = if_so (bytes_eq t (codes "t")) _ h e in
    by_four (IsRecordHead (t ∷ a ∷ b ∷ c ∷ d ∷ [])) (λ p w q n. record { place = p; writer = w; caller = q; index = n }) (number a) (letter b) (small c) (number d) h k.1 (λ p w q n x y z u.
    let place = number_of a p x in let caller = small_of c q z in let index = number_of d n u in
    record { place = place.0; caller = caller.0; index = index.0; words = λ i. is_word t (codes "t") k.0 i ∷ place.1 i ∷ letter_is b w y i ∷ caller.1 i ∷ index.1 i ∷ [] })
record_head_is (t ∷ a ∷ b ∷ c ∷ d ∷ x ∷ xs) h e = absurd (cc e)

record IsRecordLine (line : List ℕ) (e : Entry Done) : Type 0 where
  readable : IsReadableRecord e
  text : record_text e ≡ line

record_parts_are : (ps : List (List ℕ)) (e : Entry Done) → read_record_parts ps ≡ Some e → IsRecordLine (join_with_byte colon ps) e
record_parts_are [] e x = absurd (cc x)
record_parts_are (h ∷ []) e x = absurd (cc x)
record_parts_are (h ∷ c ∷ []) e x = by_both (IsRecordLine (h ++ colon ∷ c)) record_with (read_record_head (cut_at space h)) (read_calls c) e x (λ head ds y z.
    let front = record_head_is (cut_at space h) head y in let calls = calls_are c ds z in
    record {
      readable = record { caller = front.caller; index = front.index; place = front.place; dones = calls.readable };
      text = λ i. cut_words h (codes "t" ∷ decimal head.place ∷ writer_word head.writer ∷ decimal head.caller ∷ decimal head.index ∷ []) front.words i ++ colon ∷ calls.text i;
    })
record_parts_are (h ∷ c ∷ d ∷ ds) e x = absurd (cc x)

record_is : (line : List ℕ) (e : Entry Done) → read_record line ≡ Some e → IsReadableRecord e × (record_text e ≡ line)
unfolding read_record
record_is line e x = let r = record_parts_are (cut_at colon line) e x in (r.readable, r.text ∙ join_with_byte-slice_split colon line)

pub writable_record : (e : Entry Done) → IsReadableRecord e → IsWritableEntry e
writable_record e h = record { caller = omega arith; index = h.index; place = h.place; dones = writable e.dones h.dones }

record_head_back : (e : Entry Done) → IsReadableRecord e → read_record_head (codes "t" ∷ record_words e) ≡ Some (record { place = e.place; writer = e.writer; caller = e.caller; index = e.index })
unfolding read_record_head
record_head_back e h = λ i. all_four (short_back e.place h.place i) (letter_back e.writer i) (small_back e.caller h.caller i) (short_back e.index h.index i) (λ p w c n. record { place = p; writer = w; caller = c; index = n })

record_back : (e : Entry Done) → IsReadableRecord e → read_record (record_text e) ≡ Some e
unfolding read_record
record_back e h = let w = writable_record e h in
    ap read_record_parts (line_cut (codes "t") (record_words e) (record_are e w) e.dones w.dones)
    ∙ ((λ i. both (read_record_head (head_words (codes "t") (record_words e) (record_are e w) i)) (calls_back e.dones h.dones i) record_with)
    ∙ (λ i. both (record_head_back e h i) (Some e.dones) record_with))

-- ---- sights

end_is : (w : List ℕ) (e : SightEnd) → read_end w ≡ Some e → HasSmallEnd e × (end_words e ≡ w ∷ [])
end_is w e x = elim (if_cases (bytes_eq w (codes "a")) _ _ e x) [
  | inl h ↦ (let same : Aborted ≡ e = cc (h.1) in subst (λ (z : SightEnd). HasSmallEnd z × (end_words z ≡ w ∷ [])) same (tt, λ i. is_word w (codes "a") h.0 i ∷ []))
  | inr n ↦ elim (if_cases (bytes_eq w (codes "c")) _ _ e n.1) [
    | inl h ↦ (let same : Refused ≡ e = cc (h.1) in subst (λ (z : SightEnd). HasSmallEnd z × (end_words z ≡ w ∷ [])) same (tt, λ i. is_word w (codes "c") h.0 i ∷ []))
    | inr m ↦ (let h = if_so (bytes_eq w (codes "k")) _ e m.1 in
        let same : Child ≡ e = cc (h.1) in subst (λ (z : SightEnd). HasSmallEnd z × (end_words z ≡ w ∷ [])) same (tt, λ i. is_word w (codes "k") h.0 i ∷ []))
  ]
]

record IsSightHead (ws : List (List ℕ)) (h : SightHead) : Type 0 where
  place : IsShort h.place
  end : HasSmallEnd h.end
  caller : IsSmall h.caller
  after : IsShort h.after
  words : codes "s" ∷ decimal h.place ∷ (end_words h.end ++ decimal h.caller ∷ decimal h.after ∷ []) ≡ ws

record IsFullEnd (a b c : List ℕ) (e : SightEnd) : Type 0 where
  end : HasSmallEnd e
  words : end_words e ≡ codes "f" ∷ a ∷ b ∷ c ∷ []

full_is : (a b c : List ℕ) (e : SightEnd) → all_three (small a) (number b) (number c) Full ≡ Some e → IsFullEnd a b c e
full_is a b c e x = by_three (IsFullEnd a b c) Full (small a) (number b) (number c) e x (λ part values adding y z t.
    let u = small_of a part y in let v = number_of b values z in let w = number_of c adding t in
    record { end = (u.0, v.0, w.0); words = λ i. codes "f" ∷ u.1 i ∷ v.1 i ∷ w.1 i ∷ [] })

sight_head_is : (ws : List (List ℕ)) (h : SightHead) → read_sight_head ws ≡ Some h → IsSightHead ws h
unfolding read_sight_head
sight_head_is [] h e = absurd (cc e)
sight_head_is (s ∷ []) h e = absurd (cc e)
sight_head_is (s ∷ a ∷ []) h e = absurd (cc e)
sight_head_is (s ∷ a ∷ b ∷ []) h e = absurd (cc e)
sight_head_is (s ∷ a ∷ b ∷ c ∷ []) h e = absurd (cc e)
sight_head_is (s ∷ a ∷ b ∷ c ∷ d ∷ []) h e = let k = if_so (bytes_eq s (codes "s")) _ h e in
    by_four (IsSightHead (s ∷ a ∷ b ∷ c ∷ d ∷ [])) (λ p t q n. record { place = p; end = t; caller = q; after = n }) (number a) (read_end b) (small c) (number d) h k.1 (λ p t q n x y z u.
    let place = number_of a p x in let end = end_is b t y in let caller = small_of c q z in let after = number_of d n u in
    record { place = place.0; end = end.0; caller = caller.0; after = after.0; words = λ i. is_word s (codes "s") k.0 i ∷ place.1 i ∷ (end.1 i ++ caller.1 i ∷ after.1 i ∷ []) })
sight_head_is (s ∷ a ∷ b ∷ c ∷ d ∷ x ∷ []) h e = absurd (cc e)
sight_head_is (s ∷ a ∷ b ∷ c ∷ d ∷ x ∷ y ∷ []) h e = absurd (cc e)
sight_head_is (s ∷ a ∷ f ∷ b ∷ c ∷ d ∷ q ∷ n ∷ []) h e = let k = if_so (bytes_eq s (codes "s") && bytes_eq f (codes "f")) _ h e in
    let both = and_parts (bytes_eq s (codes "s")) (bytes_eq f (codes "f")) k.0 in
    by_four (IsSightHead (s ∷ a ∷ f ∷ b ∷ c ∷ d ∷ q ∷ n ∷ [])) (λ p t q n. record { place = p; end = t; caller = q; after = n }) (number a) (all_three (small b) (number c) (number d) Full) (small q) (number n) h k.1 (λ p t r m x y z u.
    let place = number_of a p x in let end = full_is b c d t y in let caller = small_of q r z in let after = number_of n m u in
    record { place = place.0; end = end.end; caller = caller.0; after = after.0; words = (λ i. is_word s (codes "s") both.0 i ∷ place.1 i ∷ (end.words i ++ caller.1 i ∷ after.1 i ∷ [])) ∙ (λ i. s ∷ a ∷ is_word f (codes "f") both.1 i ∷ b ∷ c ∷ d ∷ q ∷ n ∷ []) })
sight_head_is (s ∷ a ∷ f ∷ b ∷ c ∷ d ∷ q ∷ n ∷ x ∷ xs) h e = absurd (cc e)

record IsSightLine (line : List ℕ) (v : Seen Done) : Type 0 where
  readable : IsReadableSight v
  text : sight_text v ≡ line

sight_parts_are : (ps : List (List ℕ)) (v : Seen Done) → read_sight_parts ps ≡ Some v → IsSightLine (join_with_byte colon ps) v
sight_parts_are [] v x = absurd (cc x)
sight_parts_are (h ∷ []) v x = absurd (cc x)
sight_parts_are (h ∷ c ∷ []) v x = by_both (IsSightLine (h ++ colon ∷ c)) sight_with (read_sight_head (cut_at space h)) (read_calls c) v x (λ head ds y z.
    let front = sight_head_is (cut_at space h) head y in let calls = calls_are c ds z in
    record {
      readable = record { caller = front.caller; after = front.after; place = front.place; end = front.end; dones = calls.readable };
      text = λ i. cut_words h (codes "s" ∷ decimal head.place ∷ (end_words head.end ++ decimal head.caller ∷ decimal head.after ∷ [])) front.words i ++ colon ∷ calls.text i;
    })
sight_parts_are (h ∷ c ∷ d ∷ ds) v x = absurd (cc x)

sight_is : (line : List ℕ) (v : Seen Done) → read_sight line ≡ Some v → IsReadableSight v × (sight_text v ≡ line)
unfolding read_sight
sight_is line v x = let r = sight_parts_are (cut_at colon line) v x in (r.readable, r.text ∙ join_with_byte-slice_split colon line)

short_end : (e : SightEnd) → HasSmallEnd e → HasShortEnd e
short_end Aborted h = tt
short_end Refused h = tt
short_end (Full part values adding) h = (let low = h.0 in omega arith, h.1, h.2)
short_end Child h = tt

pub writable_sight : (v : Seen Done) → IsReadableSight v → IsWritableSight v
writable_sight v h = record { caller = omega arith; after = h.after; place = h.place; end = short_end v.end h.end; dones = writable v.dones h.dones }

module _ (place caller after : ℕ) (p : IsShort place) (c : IsSmall caller) (a : IsShort after) where
  sight_head_back : (e : SightEnd) → HasSmallEnd e → read_sight_head (codes "s" ∷ decimal place ∷ (end_words e ++ decimal caller ∷ decimal after ∷ [])) ≡ Some (record { place = place; end = e; caller = caller; after = after })
  unfolding read_sight_head
  sight_head_back Aborted h = λ i. all_four (short_back place p i) (Some Aborted) (small_back caller c i) (short_back after a i) (λ p e c n. record { place = p; end = e; caller = c; after = n })
  sight_head_back Refused h = λ i. all_four (short_back place p i) (Some Refused) (small_back caller c i) (short_back after a i) (λ p e c n. record { place = p; end = e; caller = c; after = n })
  sight_head_back (Full part values adding) h = λ i. all_four (short_back place p i) (all_three (small_back part h.0 i) (short_back values h.1 i) (short_back adding h.2 i) Full) (small_back caller c i) (short_back after a i) (λ p e c n. record { place = p; end = e; caller = c; after = n })
  sight_head_back Child h = λ i. all_four (short_back place p i) (Some Child) (small_back caller c i) (short_back after a i) (λ p e c n. record { place = p; end = e; caller = c; after = n })

sight_back : (v : Seen Done) → IsReadableSight v → read_sight (sight_text v) ≡ Some v
unfolding read_sight
sight_back v h = let w = writable_sight v h in
    ap read_sight_parts (line_cut (codes "s") (sight_words v) (sight_are v w) v.dones w.dones)
    ∙ ((λ i. both (read_sight_head (head_words (codes "s") (sight_words v) (sight_are v w) i)) (calls_back v.dones h.dones i) sight_with)
    ∙ (λ i. both (sight_head_back v.place v.caller v.after h.place h.caller h.after v.end h.end i) (Some v.dones) sight_with))

pub lines_are_read : LinesAreRead
lines_are_read = record {
  opening = λ line n g f. (open_is line n g f, λ h. ap read_open (sym h.3) ∙ open_back n g f h.0 h.1 h.2);
  records = λ line e. (record_is line e, λ h. ap read_record (sym h.1) ∙ record_back e h.0);
  sights = λ line v. (sight_is line v, λ h. ap read_sight (sym h.1) ∙ sight_back v h.0);
}
