-- A verdict from the lines that were read.
use Rattle.std.proofs.Common.{append_assoc, append-nil, ◌≡◌, ℕ, suc, ◌+◌, ◌≤◌, inl, inr, Bool, true, false, eqb, cond, List, [], ◌∷◌, ◌++◌, map, length, get_or, refl, sym, ap, ◌∙◌, subst, arith, codes, length-append}
use Rattle.std.specs.List.{join_with_byte}
use Rattle.std.specs.Str.{bytes_eq}
use Rattle.std.proofs.lemmas.Slice.Eq.{bytes_eq-Decides}
use Rattle.std.proofs.lemmas.List.Splits.{join_with_byte-slice_split}
use Rattle.serial_terms.specs.declared.call.Done.{Done}
use Rattle.serial_terms.specs.Entries.{Entry, Each, by_caller}
use Rattle.serial_terms.specs.Histories.{IsLegalRun}
use Rattle.serial_terms.specs.Serial.{State}
use Rattle.serial_terms.specs.Sights.{Seen}
use Rattle.journal_terms.specs.Growing.{without_sights, BeginningsAreLegal, JournalsGrow, HistoriesGrow, WhatSuits, GoesOnByRecord, GoesOnBySight, IsNext, SuitsAsRecord, last_of}
use Rattle.journal_terms.specs.Laws.{IsWritable, IsWritableEntry}
use Rattle.journal_terms.specs.Legal.{AreSizes, IsFirstBadLine, IsLegalJournal, IsRecordIn, layout_of, lines_of, start_of}
use Rattle.journal_terms.specs.Naming.{LinesAreNamed}
use Rattle.journal_terms.specs.Reading.{cut_at}
use Rattle.journal_terms.specs.Strict.{IsReadable, IsReadableRecord}
use Rattle.journal_terms.specs.Text.{Journal, begun_lines, journal_lines, record_text, sight_text, sights_in, sizes_text, title}
use Rattle.history_audit.specs.declared.lines.Sizes.{Sizes}
use Rattle.history_audit.specs.Verdicts.{IsLegalWith, HasRead, with_records}
use Rattle.history_audit.proofs.Cuts.{cut_some}

abbrev Lines : Type 0
Lines = List (List ℕ)

-- ---- behind the end

pub yes_behind : LinesAreNamed → (text : List ℕ) (j : Journal) (behind : List ℕ) (records sights : ℕ) → behind ≡ [] → IsLegalJournal j → lines_of text ≡ journal_lines j ++ cut_at 10 behind
    → records ≡ length j.records → sights ≡ length (sights_in j.sights) → IsLegalWith text records sights
yes_behind named text j behind records sights none l e r s = record { journal = j; legal = l; text_is = named.whole text j (e ∙ ap (λ (z : List ℕ). journal_lines j ++ cut_at 10 z) none); records_are = r; sights_are = s }

pub no_behind : LinesAreNamed → JournalsGrow → (text : List ℕ) (j : Journal) (behind : List ℕ) (number : ℕ) → (behind ≡ [] → ⊥) → IsLegalJournal j → lines_of text ≡ journal_lines j ++ cut_at 10 behind
    → number ≡ length (journal_lines j) → IsFirstBadLine text (number + 1)
no_behind named grow text j behind number some l e n = let p = cut_some 10 behind in
    subst (λ (k : ℕ). IsFirstBadLine text (k + 1)) (sym n) (by_pieces p.first p.others p.parts (e ∙ ap (λ (z : Lines). journal_lines j ++ z) p.parts))
  where
    by_pieces : (first : List ℕ) (others : Lines) → cut_at 10 behind ≡ first ∷ others → lines_of text ≡ journal_lines j ++ first ∷ others → IsFirstBadLine text (length (journal_lines j) + 1)
    by_pieces first [] parts all = named.behind text j first all l (λ z. some (sym (join_with_byte-slice_split 10 behind) ∙ (ap (join_with_byte 10) parts ∙ z)))
    by_pieces first (next ∷ others) parts all = named.wrong text (journal_lines j) first next others all (grow.whole j l) (grow.over j l first)

-- ---- the lines of the records

pub none_seen : (second : Bool) → sights_in (without_sights second) ≡ []
none_seen true = refl
none_seen false = refl

begun_are : (second : Bool) (s : Sizes) (es : List (Entry Done)) → begun_lines (with_records second s es) ≡ title (without_sights second) ∷ sizes_text s.tasks s.groups s.findings ∷ map record_text es
begun_are second s es = ap (λ (z : Lines). title (without_sights second) ∷ sizes_text s.tasks s.groups s.findings ∷ z)
    (ap (λ (z : List (Seen Done)). map record_text es ++ map sight_text z) (none_seen second) ∙ append-nil (map record_text es))

length_map : (es : List (Entry Done)) → length (map record_text es) ≡ length es
length_map [] = refl
length_map (e ∷ es) = ap suc (length_map es)

module _ (second : Bool) (sizes : Sizes) (lines rest text : List ℕ) (number : ℕ) (es : List (Entry Done)) (h : HasRead second sizes lines rest number es)
    (all : lines_of text ≡ title (without_sights second) ∷ sizes_text sizes.tasks sizes.groups sizes.findings ∷ cut_at 10 lines) where
  j : Journal
  j = with_records second sizes es

  lines_here : lines_of text ≡ begun_lines (with_records second sizes es) ++ cut_at 10 rest
  lines_here = all ∙ (ap (λ (z : Lines). title (without_sights second) ∷ sizes_text sizes.tasks sizes.groups sizes.findings ∷ z) h.lines_are ∙ ap (λ (z : Lines). z ++ cut_at 10 rest) (sym (begun_are second sizes es)))

  number_here : length (begun_lines (with_records second sizes es)) + 1 ≡ number
  number_here = let size = ap length (begun_are second sizes es) in let map_size = length_map es in let n = h.number_is in omega (arith, size, map_size, n)

  pub unended_line : LinesAreNamed → JournalsGrow → (last : List ℕ) → cut_at 10 rest ≡ last ∷ [] → IsFirstBadLine text number
  unended_line named grow last e = subst (IsFirstBadLine text) number_here
      (named.short text (begun_lines (with_records second sizes es)) last (lines_here ∙ ap (λ (z : Lines). begun_lines (with_records second sizes es) ++ z) e) (grow.begun (with_records second sizes es) h.legal)
      (λ k l s. named.unended (with_records second sizes es) k h.legal l s))

  pub ended_here : LinesAreNamed → (line behind : List ℕ) → cut_at 10 rest ≡ line ∷ cut_at 10 behind → line ≡ codes "end" → lines_of text ≡ journal_lines (with_records second sizes es) ++ cut_at 10 behind
  ended_here named line behind e last = lines_here ∙ (ap (λ (z : Lines). begun_lines (with_records second sizes es) ++ z) e
      ∙ (ap (λ (z : List ℕ). begun_lines (with_records second sizes es) ++ z ∷ cut_at 10 behind) last
      ∙ (sym (append_assoc (begun_lines (with_records second sizes es)) (codes "end" ∷ []) (cut_at 10 behind)) ∙ ap (λ (z : Lines). z ++ cut_at 10 behind) (sym (named.last (with_records second sizes es))))))

  pub ended_number : LinesAreNamed → number ≡ length (journal_lines (with_records second sizes es))
  ended_number named = let size = ap length (named.last (with_records second sizes es)) ∙ length-append (begun_lines (with_records second sizes es)) (codes "end" ∷ []) in let n = number_here in omega (arith, size, n)

  pub wrong_line : LinesAreNamed → JournalsGrow → (line behind : List ℕ) → cut_at 10 rest ≡ line ∷ cut_at 10 behind → (line ≡ codes "end" → ⊥)
      → (GoesOnByRecord (with_records second sizes es) line → ⊥) → (GoesOnBySight (with_records second sizes es) line → ⊥) → IsFirstBadLine text number
  wrong_line named grow line behind e no_end no_record no_sight = let p = cut_some 10 behind in subst (IsFirstBadLine text) number_here
      (named.wrong text (begun_lines (with_records second sizes es)) line p.first p.others
      (lines_here ∙ ap (λ (z : Lines). begun_lines (with_records second sizes es) ++ z) (e ∙ ap (λ (z : Lines). line ∷ z) p.parts))
      (grow.begun (with_records second sizes es) h.legal)
      (λ b. elim ((grow.on (with_records second sizes es) h.legal line).0 b) [
        | inl last ↦ no_end last
        | inr more ↦ elim more [ inl g ↦ no_record g | inr g ↦ no_sight g ]
      ]))

-- ---- a record, a sight and the end have different lines

differ : (xs ys : List ℕ) (m n : ℕ) → get_or xs 0 0 ≡ m → get_or ys 0 0 ≡ n → (m ≡ n → ⊥) → xs ≡ ys → ⊥
differ xs ys m n a b apart e = apart (sym a ∙ (ap (λ (z : List ℕ). get_or z 0 0) e ∙ b))

pub no_sight_line : (e : Entry Done) (v : Seen Done) → record_text e ≡ sight_text v → ⊥
no_sight_line e v same = differ (record_text e) (sight_text v) 116 115 refl refl (λ h. omega arith) same

pub is_end : (line word : List ℕ) (b : Bool) → b ≡ bytes_eq line word → b ≡ true → word ≡ codes "end" → line ≡ codes "end"
is_end line word b e t w = (bytes_eq-Decides line word).0 (sym e ∙ t) ∙ w

pub is_no_end : (line word : List ℕ) (b : Bool) → b ≡ bytes_eq line word → b ≡ false → word ≡ codes "end" → line ≡ codes "end" → ⊥
is_no_end line word b e f w same = let t : bytes_eq line word ≡ true = (bytes_eq-Decides line word).1 (same ∙ sym w) in let bad : true ≡ false = sym t ∙ (sym e ∙ f) in absurd (cc bad)

pub caller_most : (k : ℕ) (es : List (Entry Done)) → length (by_caller k es) ≤ length es
caller_most k [] = omega arith
caller_most k (e ∷ es) = by_case (eqb e.caller k) (caller_most k es)
  where
    by_case : (t : Bool) → length (by_caller k es) ≤ length es → length (cond t (e ∷ by_caller k es) (by_caller k es)) ≤ length (e ∷ es)
    by_case true h = omega (arith, h)
    by_case false h = omega (arith, h)

pub writable_calls : (ds : List Done) → Each IsReadable ds → Each IsWritable ds
writable_calls [] h = tt
writable_calls (d ∷ ds) h = (h.0.0, writable_calls ds h.1)

pub writable : (e : Entry Done) → IsReadableRecord e → IsWritableEntry e
writable e r = let c = r.caller in record { caller = omega arith; index = r.index; place = r.place; dones = writable_calls e.dones r.dones }

pub map_more : (es : List (Entry Done)) (e : Entry Done) (behind : Lines) → map record_text (es ++ e ∷ []) ++ behind ≡ map record_text es ++ record_text e ∷ behind
map_more [] e behind = refl
map_more (x ∷ xs) e behind = ap (λ (z : Lines). record_text x ∷ z) (map_more xs e behind)

-- one record more
abbrev pub read_on : WhatSuits → HistoriesGrow → (second : Bool) (sizes : Sizes) (lines rest line behind : List ℕ) (number : ℕ) (es : List (Entry Done)) (h : HasRead second sizes lines rest number es) (e : Entry Done) (u : State)
    → IsReadableRecord e → record_text e ≡ line → cut_at 10 rest ≡ line ∷ cut_at 10 behind
    → IsRecordIn (layout_of (with_records second sizes es)) e → IsNext (last_of es) (length (by_caller e.caller es)) e → IsLegalRun h.end (e ∷ []) u
    → HasRead second sizes lines behind (number + 1) (es ++ e ∷ [])
read_on suits hist second sizes lines rest line behind number es h e u readable text cutting within next run = record {
  end = u;
  legal = (suits.records (with_records second sizes es) h.legal (none_seen second) h.end h.history e).1 (record { writable = writable e readable; within = within; next = next; run = (u, run) });
  history = (hist (start_of (with_records second sizes es)) h.end es h.history e u).1 (next, run);
  lines_are = h.lines_are ∙ (ap (λ (z : Lines). map record_text es ++ z) (cutting ∙ ap (λ (z : List ℕ). z ∷ cut_at 10 behind) (sym text)) ∙ sym (map_more es e (cut_at 10 behind)));
  number_is = let n = h.number_is in omega (arith, n, length-append es (e ∷ []));
}

-- a record that stands behind the others is one that is read, and it suits
pub read_record : WhatSuits → (second : Bool) (sizes : Sizes) (lines rest line : List ℕ) (number : ℕ) (es : List (Entry Done)) (h : HasRead second sizes lines rest number es) (g : GoesOnByRecord (with_records second sizes es) line)
    → SuitsAsRecord (with_records second sizes es) h.end g.entry × IsReadableRecord g.entry
read_record suits second sizes lines rest line number es h g =
    let s = (suits.records (with_records second sizes es) h.legal (none_seen second) h.end h.history g.entry).0 g.legal in
    (s, suits.records_readable (with_records second sizes es) h.end g.entry s)

-- nothing has been read
abbrev pub read_nothing : BeginningsAreLegal → (second : Bool) (sizes : Sizes) (lines : List ℕ) → AreSizes sizes.tasks sizes.groups sizes.findings → HasRead second sizes lines lines 3 []
read_nothing begin second sizes lines s = record {
  end = start_of (with_records second sizes []);
  legal = begin.empty second sizes.tasks sizes.groups sizes.findings s;
  history = record { order = tt; run = refl; counted = λ k. tt; apart = tt; placed = tt };
  lines_are = refl;
  number_is = refl;
}
