-- A verdict from the sights that were read.
use Rattle.std.proofs.Common.{append_assoc, append-nil, ◌≡◌, ℕ, suc, ◌+◌, ◌<◌, inl, inr, true, List, [], ◌∷◌, ◌++◌, map, length, refl, sym, ap, ◌∙◌, subst, arith, codes, length-append, ◌^◌}
use Rattle.serial_terms.specs.declared.call.Done.{Done}
use Rattle.serial_terms.specs.Entries.{Entry}
use Rattle.serial_terms.specs.Sights.{Seen}
use Rattle.journal_terms.specs.Growing.{JournalsGrow, WhatSuits, GoesOnByRecord, GoesOnBySight}
use Rattle.journal_terms.specs.Laws.{HasShortEnd}
use Rattle.journal_terms.specs.Legal.{IsFirstBadLine, IsLegalJournal, lines_of}
use Rattle.journal_terms.specs.Naming.{LinesAreNamed, SightsFollow}
use Rattle.journal_terms.specs.Reading.{cut_at}
use Rattle.journal_terms.specs.Strict.{IsReadableSight, HasSmallEnd}
use Rattle.serial_terms.specs.declared.sight.SightEnd.{SightEnd}
use Rattle.serial_terms.specs.declared.sight.SightEnd.TheVariants.{Aborted, Refused, Full, Child}
use Rattle.journal_terms.specs.Text.{begun_lines, journal_lines, record_text, sight_text, sizes_text}
use Rattle.history_audit.specs.declared.lines.Sizes.{Sizes}
use Rattle.history_audit.specs.declared.replay.Replay.{Replay}
use Rattle.history_audit.specs.Replays.{AreReplayed, AreRecordsOf, IsReplayOf, FollowsHere}
use Rattle.history_audit.specs.Verdicts.{IsNoRecord, with_records, with_sights}
use Rattle.history_audit.proofs.Cuts.{cut_some}
use Rattle.history_audit.proofs.Judging.{writable_calls}

abbrev Lines : Type 0
Lines = List (List ℕ)

sights_more : (vs : List (Seen Done)) (v : Seen Done) (behind : Lines) → map sight_text (vs ++ v ∷ []) ++ behind ≡ map sight_text vs ++ sight_text v ∷ behind
sights_more [] v behind = refl
sights_more (x ∷ xs) v behind = ap (λ (z : Lines). sight_text x ∷ z) (sights_more xs v behind)

length_lines : {A : Type 0} (f : A → List ℕ) (xs : List A) → length (map f xs) ≡ length xs
length_lines f [] = refl
length_lines f (x ∷ xs) = ap suc (length_lines f xs)

-- the lines behind the records are those of these sights, with which a legal journal begins, and then the others
pub record HasSeenAll (sizes : Sizes) (es : List (Entry Done)) (lines rest : List ℕ) (number : ℕ) (vs : List (Seen Done)) : Type 0 where
  pub legal : IsLegalJournal (with_sights sizes es vs)
  pub lines_are : cut_at 10 lines ≡ map sight_text vs ++ cut_at 10 rest
  pub number_is : number ≡ 3 + length es + length vs

module _ (sizes : Sizes) (es : List (Entry Done)) (lines rest text : List ℕ) (number : ℕ) (vs : List (Seen Done)) (h : HasSeenAll sizes es lines rest number vs)
    (all : lines_of text ≡ begun_lines (with_records true sizes es) ++ cut_at 10 lines) where
  lines_here : lines_of text ≡ begun_lines (with_sights sizes es vs) ++ cut_at 10 rest
  lines_here = all ∙ ap (λ (z : Lines). codes "journal 2" ∷ sizes_text sizes.tasks sizes.groups sizes.findings ∷ z)
      (ap (λ (z : Lines). z ++ cut_at 10 lines) (append-nil (map record_text es)) ∙ (ap (λ (z : Lines). map record_text es ++ z) h.lines_are ∙ sym (append_assoc (map record_text es) (map sight_text vs) (cut_at 10 rest))))

  number_here : length (begun_lines (with_sights sizes es vs)) + 1 ≡ number
  number_here = let size = length-append (map record_text es) (map sight_text vs) in let a = length_lines record_text es in let b = length_lines sight_text vs in let n = h.number_is in omega (arith, size, a, b, n)

  pub unended_sight : LinesAreNamed → JournalsGrow → (last : List ℕ) → cut_at 10 rest ≡ last ∷ [] → IsFirstBadLine text number
  unended_sight named grow last e = subst (IsFirstBadLine text) number_here
      (named.short text (begun_lines (with_sights sizes es vs)) last (lines_here ∙ ap (λ (z : Lines). begun_lines (with_sights sizes es vs) ++ z) e) (grow.begun (with_sights sizes es vs) h.legal)
      (λ k l s. named.unended (with_sights sizes es vs) k h.legal l s))

  pub ended_sights : LinesAreNamed → (line behind : List ℕ) → cut_at 10 rest ≡ line ∷ cut_at 10 behind → line ≡ codes "end" → lines_of text ≡ journal_lines (with_sights sizes es vs) ++ cut_at 10 behind
  ended_sights named line behind e last = lines_here ∙ (ap (λ (z : Lines). begun_lines (with_sights sizes es vs) ++ z) e
      ∙ (ap (λ (z : List ℕ). begun_lines (with_sights sizes es vs) ++ z ∷ cut_at 10 behind) last
      ∙ (sym (append_assoc (begun_lines (with_sights sizes es vs)) (codes "end" ∷ []) (cut_at 10 behind)) ∙ ap (λ (z : Lines). z ++ cut_at 10 behind) (sym (named.last (with_sights sizes es vs))))))

  pub sights_number : LinesAreNamed → number ≡ length (journal_lines (with_sights sizes es vs))
  sights_number named = let size = ap length (named.last (with_sights sizes es vs)) ∙ length-append (begun_lines (with_sights sizes es vs)) (codes "end" ∷ []) in let n = number_here in omega (arith, size, n)

  pub wrong_sight : LinesAreNamed → JournalsGrow → (line behind : List ℕ) → cut_at 10 rest ≡ line ∷ cut_at 10 behind → (line ≡ codes "end" → ⊥)
      → (GoesOnByRecord (with_sights sizes es vs) line → ⊥) → (GoesOnBySight (with_sights sizes es vs) line → ⊥) → IsFirstBadLine text number
  wrong_sight named grow line behind e no_end no_record no_sight = let p = cut_some 10 behind in subst (IsFirstBadLine text) number_here
      (named.wrong text (begun_lines (with_sights sizes es vs)) line p.first p.others
      (lines_here ∙ ap (λ (z : Lines). begun_lines (with_sights sizes es vs) ++ z) (e ∙ ap (λ (z : Lines). line ∷ z) p.parts))
      (grow.begun (with_sights sizes es vs) h.legal)
      (λ b. elim ((grow.on (with_sights sizes es vs) h.legal line).0 b) [
        | inl last ↦ no_end last
        | inr more ↦ elim more [ inl g ↦ no_record g | inr g ↦ no_sight g ]
      ]))

pub follows_here : SightsFollow → WhatSuits → (sizes : Sizes) (es : List (Entry Done)) (vs : List (Seen Done)) → IsLegalJournal (with_sights sizes es vs) → (line : List ℕ) (g : GoesOnBySight (with_sights sizes es vs) line)
    → FollowsHere sizes es vs g.seen × IsReadableSight g.seen
follows_here follow suits sizes es vs l line g = let s = (suits.sights (with_sights sizes es vs) l g.seen).0 g.legal in let f = (follow (with_sights sizes es vs) l g.seen).0 s in
    (record { within = f.within; order = f.order; rising = f.rising; consistent = f.consistent; after = f.after }, suits.sights_readable (with_sights sizes es vs) g.seen s)

short_end : (e : SightEnd) → HasSmallEnd e → HasShortEnd e
short_end Aborted h = tt
short_end Refused h = tt
short_end (Full p v a) h = let low = h.0 in (omega arith, h.1, h.2)
short_end Child h = tt

pub one_sight : SightsFollow → WhatSuits → (sizes : Sizes) (es : List (Entry Done)) (lines rest line behind : List ℕ) (number : ℕ) (vs : List (Seen Done)) (v : Seen Done) → HasSeenAll sizes es lines rest number vs
    → IsReadableSight v → sight_text v ≡ line → cut_at 10 rest ≡ line ∷ cut_at 10 behind → FollowsHere sizes es vs v → HasSeenAll sizes es lines behind (number + 1) (vs ++ v ∷ [])
one_sight follow suits sizes es lines rest line behind number vs v h readable text cutting f = record {
  legal = (suits.sights (with_sights sizes es vs) h.legal v).1 ((follow (with_sights sizes es vs) h.legal v).1 (record {
    writable = let c = readable.caller in record { caller = omega arith; after = readable.after; place = readable.place; end = short_end v.end readable.end; dones = writable_calls v.dones readable.dones };
    within = f.within;
    order = f.order;
    rising = f.rising;
    consistent = f.consistent;
    after = f.after;
  }));
  lines_are = h.lines_are ∙ (ap (λ (z : Lines). map sight_text vs ++ z) (cutting ∙ ap (λ (z : List ℕ). z ∷ cut_at 10 behind) (sym text)) ∙ sym (sights_more vs v (cut_at 10 behind)));
  number_is = let n = h.number_is in omega (arith, n, length-append vs (v ∷ []));
}

pub replayed : (sizes : Sizes) (es : List (Entry Done)) → IsLegalJournal (with_records true sizes es) → length es < 2 ^ 63 → AreReplayed sizes es
replayed sizes es l few = record { end = l.legal.0; run = l.legal.1.run; order = l.legal.1.order; within = l.records; few = few }

pub records_here : (sizes : Sizes) (r : Replay) (es : List (Entry Done)) → r.sizes ≡ sizes → IsLegalJournal (with_records true sizes es) → length es < 2 ^ 63 → IsReplayOf r es → AreRecordsOf r es
records_here sizes r es e l few again = record { replay = again; whole = subst (λ (z : Sizes). AreReplayed z es) (sym e) (replayed sizes es l few) }

-- no record stands where a sight is to stand
pub no_record_first : WhatSuits → (sizes : Sizes) (es : List (Entry Done)) (lines rest line behind : List ℕ) (number : ℕ) (vs : List (Seen Done)) (h : HasSeenAll sizes es lines rest number vs)
    → IsNoRecord lines → cut_at 10 rest ≡ line ∷ cut_at 10 behind → GoesOnByRecord (with_sights sizes es vs) line → ⊥
no_record_first suits sizes es lines rest line behind number vs h none cutting g =
    let first : cut_at 10 lines ≡ line ∷ cut_at 10 behind = h.lines_are ∙ (ap (λ (z : List (Seen Done)). map sight_text z ++ cut_at 10 rest) g.first ∙ cutting) in
    let s = (suits.records (with_sights sizes es vs) h.legal g.first h.legal.legal.0 h.legal.legal.1 g.entry).0 g.legal in
    none line (cut_at 10 behind) first g.entry (suits.records_readable (with_sights sizes es vs) h.legal.legal.0 g.entry s) g.text
