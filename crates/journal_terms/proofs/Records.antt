-- A record's line reads back as the record, and a sight's line as the sight.
use Rattle.std.proofs.Common.{◌≡◌, ℕ, Bool, true, false, List, [], ◌∷◌, ◌++◌, refl, ap, ◌∙◌, Some, codes, decimal}
use Rattle.std.specs.Str.{bytes_eq}
use Rattle.serial_terms.specs.declared.call.Done.{Done}
use Rattle.serial_terms.specs.declared.sight.SightEnd.{SightEnd}
use Rattle.serial_terms.specs.declared.sight.SightEnd.TheVariants.{Aborted, Refused, Full, Child}
use Rattle.serial_terms.specs.Entries.{Entry, Each}
use Rattle.serial_terms.specs.Sights.{Seen}
use Rattle.journal_terms.specs.Text.{line_feed, writer_word, end_words, record_text, sight_text}
use Rattle.journal_terms.specs.Reading.{read_head, read_parts, read_record, read_sight_head, read_sight_parts, read_sight}
use Rattle.journal_terms.specs.Laws.{IsShort, HasShortEnd, IsWritableEntry, IsWritableSight}
use Rattle.journal_terms.proofs.Cutting.{Lacks}
use Rattle.journal_terms.proofs.Words.{IsWord, plain_word, decimal_word, number_back}
use Rattle.journal_terms.proofs.Calls.{calls_back}
use Rattle.journal_terms.proofs.Heads.{head_words, line_cut, line_feeds}

-- ---- records

writer_back : (b : Bool) → bytes_eq (writer_word b) (codes "w") ≡ b
writer_back true = refl
writer_back false = refl

writer_is_word : (b : Bool) → IsWord (writer_word b)
writer_is_word true = plain_word (codes "w") refl
writer_is_word false = plain_word (codes "r") refl

abbrev pub record_words : Entry Done → List (List ℕ)
record_words e = decimal e.place ∷ writer_word e.writer ∷ decimal e.caller ∷ decimal e.index ∷ []

pub record_are : (e : Entry Done) → IsWritableEntry e → Each IsWord (codes "t" ∷ record_words e)
record_are e w = (plain_word (codes "t") refl, (decimal_word e.place w.place, (writer_is_word e.writer, (decimal_word e.caller w.caller, (decimal_word e.index w.index, tt)))))

pub record_back : (e : Entry Done) → IsWritableEntry e → read_record (record_text e) ≡ Some e
record_back e w = ap read_parts (line_cut (codes "t") (record_words e) (record_are e w) e.dones w.dones)
    ∙ ((λ i. read_head (head_words (codes "t") (record_words e) (record_are e w) i) (calls_back e.dones w.dones i))
    ∙ (λ i. Some record { caller = number_back e.caller w.caller i; index = number_back e.index w.index i; place = number_back e.place w.place i; writer = writer_back e.writer i; dones = e.dones }))

pub record_feeds : (e : Entry Done) → IsWritableEntry e → Lacks line_feed (record_text e)
record_feeds e w = line_feeds (codes "t") (record_words e) (record_are e w) e.dones w.dones

-- ---- sights

abbrev pub sight_words : Seen Done → List (List ℕ)
sight_words v = decimal v.place ∷ (end_words v.end ++ decimal v.caller ∷ decimal v.after ∷ [])

end_are : (e : SightEnd) → HasShortEnd e → (ws : List (List ℕ)) → Each IsWord ws → Each IsWord (end_words e ++ ws)
end_are Aborted s ws w = (plain_word (codes "a") refl, w)
end_are Refused s ws w = (plain_word (codes "c") refl, w)
end_are (Full part values adding) s ws w = (plain_word (codes "f") refl, (decimal_word part s.0, (decimal_word values s.1, (decimal_word adding s.2, w))))
end_are Child s ws w = (plain_word (codes "k") refl, w)

pub sight_are : (v : Seen Done) → IsWritableSight v → Each IsWord (codes "s" ∷ sight_words v)
sight_are v w = (plain_word (codes "s") refl, (decimal_word v.place w.place, end_are v.end w.end (decimal v.caller ∷ decimal v.after ∷ []) (decimal_word v.caller w.caller, (decimal_word v.after w.after, tt))))

module _ (caller after place : ℕ) (c : IsShort caller) (a : IsShort after) (p : IsShort place) (dones : List Done) where
  sight_head_back : (e : SightEnd) → HasShortEnd e
      → read_sight_head (codes "s" ∷ decimal place ∷ (end_words e ++ decimal caller ∷ decimal after ∷ [])) (Some dones) ≡ Some (record { caller = caller; after = after; place = place; end = e; dones = dones })
  sight_head_back Aborted s = λ i. Some (record { caller = number_back caller c i; after = number_back after a i; place = number_back place p i; end = Aborted; dones = dones })
  sight_head_back Refused s = λ i. Some (record { caller = number_back caller c i; after = number_back after a i; place = number_back place p i; end = Refused; dones = dones })
  sight_head_back (Full part values adding) s = λ i. Some (record { caller = number_back caller c i; after = number_back after a i; place = number_back place p i; end = Full (number_back part s.0 i) (number_back values s.1 i) (number_back adding s.2 i); dones = dones })
  sight_head_back Child s = λ i. Some (record { caller = number_back caller c i; after = number_back after a i; place = number_back place p i; end = Child; dones = dones })

pub sight_back : (v : Seen Done) → IsWritableSight v → read_sight (sight_text v) ≡ Some v
sight_back v w = ap read_sight_parts (line_cut (codes "s") (sight_words v) (sight_are v w) v.dones w.dones)
    ∙ ((λ i. read_sight_head (head_words (codes "s") (sight_words v) (sight_are v w) i) (calls_back v.dones w.dones i))
    ∙ sight_head_back v.caller v.after v.place w.caller w.after w.place v.dones v.end w.end)

pub sight_feeds : (v : Seen Done) → IsWritableSight v → Lacks line_feed (sight_text v)
sight_feeds v w = line_feeds (codes "s") (sight_words v) (sight_are v w) v.dones w.dones
