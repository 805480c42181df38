-- Words and lines one behind the other.
use Rattle.std.proofs.Common.{◌≡◌, ℕ, ◌-◌, ◌≤◌, List, [], ◌∷◌, ◌++◌, length, take, drop, get_or, refl, sym, ◌∙◌, ap, append_assoc, append-nil, arith}
use Rattle.std.proofs.Math.Seq.{take-length}
use Rattle.std.specs.Prelude.{map, codes}
use Rattle.std.specs.Fmt.{decimal}
use Rattle.std.specs.List.{flat_map, join_with_byte}
use Rattle.std.proofs.lemmas.Grind.{flat_map-append}
use Rattle.std.proofs.lemmas.List.Folds.{flat_map-map}
use Rattle.serial_terms.specs.declared.call.Done.{Done}
use Rattle.serial_terms.specs.declared.committed.Record.{Record}
use Rattle.serial_terms.specs.declared.sight.Sight.{Sight}
use Rattle.serial_terms.specs.Histories.{entry_of, entries_of}
use Rattle.serial_terms.specs.Sights.{Seen, seen_of, all_seen_of}
use Rattle.journal_terms.specs.Text.{Journal, space, colon, semicolon, line_feed, done_text, calls_text, end_words, record_text, sight_text, title, open_text, sights_in, lines_text, journal_text}
use Rattle.journal_writer.specs.declared.journal.Format.{Format}
use Rattle.journal_writer.specs.declared.journal.Format.TheVariants.{Records, Sights}
use Rattle.journal_writer.specs.Journals.{sights_by}
use Rattle.journal_writer.specs.Texts.{spaced, separated, ended}

-- two pieces behind a text
pub then : (zero one two a b : List ℕ) → one ≡ zero ++ a → two ≡ one ++ b → two ≡ zero ++ (a ++ b)
then zero one two a b first second = second ∙ ap (λ (l : List ℕ). l ++ b) first ∙ append_assoc zero a b

joined : (c : ℕ) (word : List ℕ) (words : List (List ℕ)) → join_with_byte c (word ∷ words) ≡ word ++ flat_map (λ (w : List ℕ). c ∷ w) words
joined c word [] = sym (append-nil word)
joined c word (next ∷ words) = ap (λ (l : List ℕ). word ++ c ∷ l) (joined c next words)

-- a list is its first element and the others
pub first_split : (dones : List Done) (d : Done) → 1 ≤ length dones → dones ≡ get_or dones 0 d ∷ take (length dones - 1) (drop 1 dones)
first_split [] d some = absurd (omega arith)
first_split (x ∷ xs) d some =
    let size : length (x ∷ xs) - 1 ≡ length xs = omega arith in
    ap (λ (l : List Done). x ∷ l) (sym (ap (λ (n : ℕ). take n xs) size ∙ take-length xs))

-- a call behind a space, and the others each behind a semicolon and a space
pub calls_joined : (dones : List Done) (first : Done) (further : List Done) (zero one two three : List ℕ) → dones ≡ first ∷ further
    → one ≡ zero ++ space ∷ [] → two ≡ one ++ done_text first → three ≡ two ++ flat_map (λ (d : Done). separated (done_text d)) further → three ≡ zero ++ calls_text dones
calls_joined dones first further zero one two three are a b c =
    let whole : calls_text dones ≡ (space ∷ done_text first) ++ flat_map (λ (d : Done). separated (done_text d)) further =
    ap calls_text are
    ∙ joined semicolon (space ∷ done_text first) (map (λ (d : Done). space ∷ done_text d) further)
    ∙ ap (λ (l : List ℕ). (space ∷ done_text first) ++ l) (flat_map-map (λ (w : List ℕ). semicolon ∷ w) (λ (d : Done). space ∷ done_text d) further) in
    then zero two three (space ∷ done_text first) (flat_map (λ (d : Done). separated (done_text d)) further)
    (then zero one two (space ∷ []) (done_text first) a b) c
    ∙ ap (λ (l : List ℕ). zero ++ l) (sym whole)

four : (a b c d : List ℕ) → ((a ++ b) ++ c) ++ d ≡ a ++ (b ++ (c ++ d))
four a b c d = append_assoc (a ++ b) c d ∙ append_assoc a b (c ++ d)

-- the words of a sight before its colon
sight_words : (v : Seen Done) → join_with_byte space (codes "s" ∷ decimal v.place ∷ (end_words v.end ++ decimal v.caller ∷ decimal v.after ∷ []))
    ≡ (((codes "s" ++ spaced (decimal v.place)) ++ flat_map spaced (end_words v.end)) ++ spaced (decimal v.caller)) ++ spaced (decimal v.after)
sight_words v =
    joined space (codes "s") (decimal v.place ∷ (end_words v.end ++ decimal v.caller ∷ decimal v.after ∷ []))
    ∙ ap (λ (l : List ℕ). codes "s" ++ (spaced (decimal v.place) ++ l)) (flat_map-append spaced (end_words v.end) (decimal v.caller ∷ decimal v.after ∷ []))
    ∙ ap (λ (l : List ℕ). codes "s" ++ (spaced (decimal v.place) ++ (flat_map spaced (end_words v.end) ++ (spaced (decimal v.caller) ++ l)))) (append-nil (spaced (decimal v.after)))
    ∙ sym (four (codes "s" ++ spaced (decimal v.place)) (flat_map spaced (end_words v.end)) (spaced (decimal v.caller)) (spaced (decimal v.after)))

module _ (v : Seen Done) (t0 t1 t2 t3 t4 t5 t6 t7 t8 : List ℕ)
    (a1 : t1 ≡ t0 ++ codes "s") (a2 : t2 ≡ t1 ++ spaced (decimal v.place)) (a3 : t3 ≡ t2 ++ flat_map spaced (end_words v.end))
    (a4 : t4 ≡ t3 ++ spaced (decimal v.caller)) (a5 : t5 ≡ t4 ++ spaced (decimal v.after)) (a6 : t6 ≡ t5 ++ colon ∷ [])
    (a7 : t7 ≡ t6 ++ calls_text v.dones) (a8 : t8 ≡ t7 ++ line_feed ∷ []) where
  pub sight_joined : t8 ≡ t0 ++ ended (sight_text v)
  sight_joined =
      let head : t5 ≡ t0 ++ join_with_byte space (codes "s" ∷ decimal v.place ∷ (end_words v.end ++ decimal v.caller ∷ decimal v.after ∷ [])) =
      then t0 t4 t5 _ _ (then t0 t3 t4 _ _ (then t0 t2 t3 _ _ (then t0 t1 t2 _ _ a1 a2) a3) a4) a5 ∙ ap (λ (l : List ℕ). t0 ++ l) (sym (sight_words v)) in
      let calls : t7 ≡ t5 ++ colon ∷ calls_text v.dones = then t5 t6 t7 (colon ∷ []) (calls_text v.dones) a6 a7 in
      then t0 t7 t8 (sight_text v) (line_feed ∷ []) (then t0 t5 t7 _ (colon ∷ calls_text v.dones) head calls) a8

-- the lines of records, and of sights
pub record_lines : (rs : List Record) → flat_map (λ (r : Record). ended (record_text (entry_of r))) rs ≡ lines_text (map record_text (entries_of rs))
record_lines [] = refl
record_lines (r ∷ rs) =
    append_assoc (record_text (entry_of r)) (line_feed ∷ []) (flat_map (λ (r : Record). ended (record_text (entry_of r))) rs)
    ∙ ap (λ (l : List ℕ). record_text (entry_of r) ++ line_feed ∷ l) (record_lines rs)

sight_lines : (vs : List Sight) → flat_map (λ (v : Sight). ended (sight_text (seen_of v))) vs ≡ lines_text (map sight_text (all_seen_of vs))
sight_lines [] = refl
sight_lines (v ∷ vs) =
    append_assoc (sight_text (seen_of v)) (line_feed ∷ []) (flat_map (λ (v : Sight). ended (sight_text (seen_of v))) vs)
    ∙ ap (λ (l : List ℕ). sight_text (seen_of v) ++ line_feed ∷ l) (sight_lines vs)

pub sight_lines_by : (format : Format) (vs : List Sight) → format ≡ Sights
    → flat_map (λ (v : Sight). ended (sight_text (seen_of v))) vs ≡ lines_text (map sight_text (sights_in (sights_by format vs)))
sight_lines_by Sights vs is = sight_lines vs
sight_lines_by Records vs is = absurd (cc)

lines_behind : (xs ys : List (List ℕ)) → lines_text (xs ++ ys) ≡ lines_text xs ++ lines_text ys
lines_behind [] ys = refl
lines_behind (x ∷ xs) ys =
    ap (λ (l : List ℕ). x ++ line_feed ∷ l) (lines_behind xs ys)
    ∙ sym (append_assoc x (line_feed ∷ lines_text xs) (lines_text ys))

-- a journal, line by line
module _ (j : Journal) (t0 t1 t2 t3 t4 t5 : List ℕ) (a0 : t0 ≡ [])
    (a1 : t1 ≡ t0 ++ ended (title j.sights)) (a2 : t2 ≡ t1 ++ ended (open_text j)) (a3 : t3 ≡ t2 ++ lines_text (map record_text j.records))
    (a4 : t4 ≡ t3 ++ lines_text (map sight_text (sights_in j.sights))) (a5 : t5 ≡ t4 ++ ended (codes "end")) where
  pub journal_joined : t5 ≡ journal_text j
  journal_joined =
      let records : List (List ℕ) = map record_text j.records in
      let sights : List (List ℕ) = map sight_text (sights_in j.sights) in
      let behind : lines_text (records ++ (sights ++ codes "end" ∷ [])) ≡ lines_text records ++ (lines_text sights ++ ended (codes "end")) =
      lines_behind records (sights ++ codes "end" ∷ []) ∙ ap (λ (l : List ℕ). lines_text records ++ l) (lines_behind sights (codes "end" ∷ [])) in
      let whole : journal_text j ≡ ended (title j.sights) ++ (ended (open_text j) ++ (lines_text records ++ (lines_text sights ++ ended (codes "end")))) =
      ap (λ (l : List ℕ). title j.sights ++ line_feed ∷ (open_text j ++ line_feed ∷ l)) behind
      ∙ ap (λ (l : List ℕ). title j.sights ++ line_feed ∷ l) (sym (append_assoc (open_text j) (line_feed ∷ []) (lines_text records ++ (lines_text sights ++ ended (codes "end")))))
      ∙ sym (append_assoc (title j.sights) (line_feed ∷ []) (ended (open_text j) ++ (lines_text records ++ (lines_text sights ++ ended (codes "end"))))) in
      then t0 t4 t5 _ _ (then t0 t3 t4 _ _ (then t0 t2 t3 _ _ (then t0 t1 t2 _ _ a1 a2) a3) a4) a5
      ∙ ap (λ (l : List ℕ). l ++ ((((ended (title j.sights) ++ ended (open_text j)) ++ lines_text records) ++ lines_text sights) ++ ended (codes "end"))) a0
      ∙ append_assoc ((ended (title j.sights) ++ ended (open_text j)) ++ lines_text records) (lines_text sights) (ended (codes "end"))
      ∙ four (ended (title j.sights)) (ended (open_text j)) (lines_text records) (lines_text sights ++ ended (codes "end"))
      ∙ sym whole
