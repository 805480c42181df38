-- The lines of a legal journal, and what may stand behind them.
use Rattle.std.proofs.Common.{append_assoc, append-nil, ◌≡◌, ℕ, ◌⊎◌, inl, inr, Bool, true, false, List, [], ◌∷◌, ◌++◌, map, get_or, sym, refl, ap, ◌∙◌, subst, Option, Some, None, arith, codes}
use Rattle.serial_terms.specs.declared.call.Done.{Done}
use Rattle.serial_terms.specs.Entries.{Entry, Each}
use Rattle.serial_terms.specs.Histories.{IsLegalHistory}
use Rattle.serial_terms.specs.Sights.{Seen, AreSightsOf}
use Rattle.journal_terms.specs.Growing.{without_sights, opened, BeginningsAreLegal, with_record, with_sight, IsSecond, GoesOnByRecord, GoesOnBySight, JournalsGrow}
use Rattle.journal_terms.specs.Laws.{IsWritableEntry, IsWritableSight}
use Rattle.journal_terms.specs.Legal.{AreSizes, IsRecordIn, IsSightIn, IsLegalJournal, BeginsLegal, layout_of, start_of}
use Rattle.journal_terms.specs.Reading.{read_record, read_sight}
use Rattle.journal_terms.specs.Strict.{read_open}
use Rattle.journal_terms.specs.Text.{Journal, title, sizes_text, record_text, sight_text, sights_in, begun_lines, journal_lines}
use Rattle.journal_terms.proofs.Histories.{each_front, ordered_front, history_front}
use Rattle.journal_terms.proofs.Records.{record_back, sight_back}
use Rattle.journal_terms.proofs.StrictLines.{open_back}

-- ---- texts tell what they are of

same_record : (a b : Entry Done) → IsWritableEntry a → IsWritableEntry b → record_text a ≡ record_text b → a ≡ b
same_record a b v w e = let same : Some a ≡ Some b = sym (record_back a v) ∙ (ap read_record e ∙ record_back b w) in cc

same_sight : (a b : Seen Done) → IsWritableSight a → IsWritableSight b → sight_text a ≡ sight_text b → a ≡ b
same_sight a b v w e = let same : Some a ≡ Some b = sym (sight_back a v) ∙ (ap read_sight e ∙ sight_back b w) in cc

-- texts with other bytes at a place are others
differ : (k : ℕ) (xs ys : List ℕ) (m n : ℕ) → get_or xs k 0 ≡ m → get_or ys k 0 ≡ n → (m ≡ n → ⊥) → xs ≡ ys → ⊥
differ k xs ys m n a b apart e = apart (sym a ∙ (ap (λ (z : List ℕ). get_or z k 0) e ∙ b))

abbrev end_line : List ℕ
end_line = codes "end"

record_is_no_end : (e : Entry Done) → record_text e ≡ end_line → ⊥
record_is_no_end e x = differ 0 (record_text e) end_line 116 101 refl refl (λ h. omega arith) x

sight_is_no_end : (v : Seen Done) → sight_text v ≡ end_line → ⊥
sight_is_no_end v x = differ 0 (sight_text v) end_line 115 101 refl refl (λ h. omega arith) x

record_is_no_sight : (e : Entry Done) (v : Seen Done) → record_text e ≡ sight_text v → ⊥
record_is_no_sight e v x = differ 0 (record_text e) (sight_text v) 116 115 refl refl (λ h. omega arith) x

-- ---- which records, and which sights, stand behind others

record RecordsBehind (xs ys : List (Entry Done)) (tail tail' : List (List ℕ)) : Type 0 where
  others : List (Entry Done)
  all : ys ≡ xs ++ others
  rest : tail ≡ map record_text others ++ tail'

abbrev HasNoRecord : List (List ℕ) → Type 0
HasNoRecord [] = Unit {0}
HasNoRecord (line ∷ lines) = (e : Entry Done) → record_text e ≡ line → ⊥

records_behind : (xs ys : List (Entry Done)) (tail tail' : List (List ℕ)) → Each IsWritableEntry xs → Each IsWritableEntry ys → HasNoRecord tail'
    → map record_text xs ++ tail ≡ map record_text ys ++ tail' → RecordsBehind xs ys tail tail'
records_behind [] ys tail tail' v w h e = record { others = ys; all = refl; rest = e }
records_behind (x ∷ xs) [] tail [] v w h e = absurd (cc e)
records_behind (x ∷ xs) [] tail (line ∷ lines) v w h e = let first : record_text x ≡ line = cc e in absurd (h x first)
records_behind (x ∷ xs) (y ∷ ys) tail tail' v w h e =
    let first : record_text x ≡ record_text y = cc e in
    let others : map record_text xs ++ tail ≡ map record_text ys ++ tail' = cc e in
    let same : x ≡ y = same_record x y v.0 w.0 first in
    let r = records_behind xs ys tail tail' v.1 w.1 h others in
    record { others = r.others; all = λ i. sym same i ∷ r.all i; rest = r.rest }

record SightsBehind (xs ys : List (Seen Done)) (tail : List (List ℕ)) : Type 0 where
  others : List (Seen Done)
  all : ys ≡ xs ++ others
  rest : tail ≡ map sight_text others ++ end_line ∷ []

sights_behind : (xs ys : List (Seen Done)) (tail : List (List ℕ)) → Each IsWritableSight xs → Each IsWritableSight ys
    → map sight_text xs ++ tail ≡ map sight_text ys ++ end_line ∷ [] → SightsBehind xs ys tail
sights_behind [] ys tail v w e = record { others = ys; all = refl; rest = e }
sights_behind (x ∷ xs) [] tail v w e = let first : sight_text x ≡ end_line = cc e in absurd (sight_is_no_end x first)
sights_behind (x ∷ xs) (y ∷ ys) tail v w e =
    let first : sight_text x ≡ sight_text y = cc e in
    let others : map sight_text xs ++ tail ≡ map sight_text ys ++ end_line ∷ [] = cc e in
    let same : x ≡ y = same_sight x y v.0 w.0 first in
    let r = sights_behind xs ys tail v.1 w.1 others in
    record { others = r.others; all = λ i. sym same i ∷ r.all i; rest = r.rest }

-- ---- beginnings of legal journals are legal

abbrev Sized : ℕ → ℕ → ℕ → List (Entry Done) → Option (List (Seen Done)) → Type 0
Sized n g f records sights = IsLegalJournal (record { tasks = n; groups = g; findings = f; records = records; sights = sights })

fewer_records : (j : Journal) → IsLegalJournal j → (xs ys : List (Entry Done)) → j.records ≡ xs ++ ys → (ss : Option (List (Seen Done))) → sights_in ss ≡ [] → Sized j.tasks j.groups j.findings xs ss
fewer_records j l xs ys e ss none = let h = history_front (start_of j) l.legal.0 xs ys (subst (λ (z : List (Entry Done)). IsLegalHistory (start_of j) z l.legal.0) e l.legal.1) in record {
  writable = record {
    tasks = l.writable.tasks;
    groups = l.writable.groups;
    findings = l.writable.findings;
    records = each_front IsWritableEntry xs ys (subst (Each IsWritableEntry) e l.writable.records);
    sights = subst (Each IsWritableSight) (sym none) tt;
  };
  sizes = l.sizes;
  records = each_front _ xs ys (subst (Each (IsRecordIn (layout_of j))) e l.records);
  sights = subst (Each (IsSightIn (layout_of j))) (sym none) tt;
  legal = (h.0, h.1);
  seen = subst (AreSightsOf 1 (start_of j) xs) (sym none) (record { order = tt; consistent = tt; after = tt; rising = tt });
}

fewer_sights : (j : Journal) → IsLegalJournal j → (xs ys : List (Seen Done)) → sights_in j.sights ≡ xs ++ ys → Sized j.tasks j.groups j.findings j.records (Some xs)
fewer_sights j l xs ys e = let s = subst (AreSightsOf 1 (start_of j) j.records) e l.seen in record {
  writable = record {
    tasks = l.writable.tasks;
    groups = l.writable.groups;
    findings = l.writable.findings;
    records = l.writable.records;
    sights = each_front IsWritableSight xs ys (subst (Each IsWritableSight) e l.writable.sights);
  };
  sizes = l.sizes;
  records = l.records;
  sights = each_front _ xs ys (subst (Each (IsSightIn (layout_of j))) e l.sights);
  legal = l.legal;
  seen = record { order = ordered_front _ xs ys s.order; consistent = each_front _ xs ys s.consistent; after = each_front _ xs ys s.after; rising = ordered_front _ xs ys s.rising };
}

-- ---- versions and sizes

second_same : (ss tt' : Option (List (Seen Done))) → title ss ≡ title tt' → IsSecond tt' → IsSecond ss
second_same None None e s = s
second_same None (Some vs) e s = differ 8 (codes "journal 1") (codes "journal 2") 49 50 refl refl (λ h. omega arith) e
second_same (Some vs) tt' e s = tt

some_second : (ss : Option (List (Seen Done))) (v : Seen Done) (vs : List (Seen Done)) → sights_in ss ≡ v ∷ vs → IsSecond ss
some_second None v vs e = absurd (cc e)
some_second (Some us) v vs e = tt

record SameSizes (j k : Journal) : Type 0 where
  tasks : j.tasks ≡ k.tasks
  groups : j.groups ≡ k.groups
  findings : j.findings ≡ k.findings

same_sizes : (j k : Journal) → IsLegalJournal j → IsLegalJournal k → sizes_text j.tasks j.groups j.findings ≡ sizes_text k.tasks k.groups k.findings → SameSizes j k
same_sizes j k a b e =
    let read : Some (j.tasks, j.groups, j.findings) ≡ Some (k.tasks, k.groups, k.findings) = sym (open_back j.tasks j.groups j.findings a.writable.tasks a.writable.groups a.writable.findings)
    ∙ (ap read_open e ∙ open_back k.tasks k.groups k.findings b.writable.tasks b.writable.groups b.writable.findings) in
    let same : (j.tasks, j.groups, j.findings) ≡ (k.tasks, k.groups, k.findings) = cc read in
    record { tasks = ap (λ (z : ℕ × ℕ × ℕ). z.0) same; groups = ap (λ (z : ℕ × ℕ × ℕ). z.1) same; findings = ap (λ (z : ℕ × ℕ × ℕ). z.2) same }

resized : (j k : Journal) → SameSizes j k → (records : List (Entry Done)) (sights : Option (List (Seen Done))) → Sized k.tasks k.groups k.findings records sights → Sized j.tasks j.groups j.findings records sights
resized j k s records sights l = subst (λ (z : ℕ). Sized z j.groups j.findings records sights) (sym s.tasks)
    (subst (λ (z : ℕ). Sized k.tasks z j.findings records sights) (sym s.groups) (subst (λ (z : ℕ). Sized k.tasks k.groups z records sights) (sym s.findings) l))

-- ---- what stands behind the lines of a legal journal

abbrev Next : Journal → List ℕ → List (List ℕ) → Type 0
Next j line more = ((line ≡ end_line) × (more ≡ [])) ⊎ (GoesOnByRecord j line ⊎ GoesOnBySight j line)

abbrev sight_part : Journal → List (List ℕ)
sight_part k = map sight_text (sights_in k.sights) ++ end_line ∷ []

no_record_there : (vs : List (Seen Done)) → HasNoRecord (map sight_text vs ++ end_line ∷ [])
no_record_there [] = record_is_no_end
no_record_there (v ∷ vs) = λ e. record_is_no_sight e v

module _ (j k : Journal) (a : IsLegalJournal j) (b : IsLegalJournal k) (line : List ℕ) (more : List (List ℕ)) (sizes : SameSizes j k) (titles : title j.sights ≡ title k.sights) where
  by_sight : (vs : List (Seen Done)) → k.records ≡ j.records → sights_in k.sights ≡ sights_in j.sights ++ vs → line ∷ more ≡ map sight_text vs ++ end_line ∷ [] → Next j line more
  by_sight [] same all e = let first : line ≡ end_line = cc e in let none : more ≡ [] = cc e in inl (first, none)
  by_sight (v ∷ vs) same all e = let first : line ≡ sight_text v = cc e in
      let split : sights_in k.sights ≡ (sights_in j.sights ++ v ∷ []) ++ vs = all ∙ sym (append_assoc (sights_in j.sights) (v ∷ []) vs) in
      let legal = fewer_sights k b (sights_in j.sights ++ v ∷ []) vs split in
      inr (inr (record {
        seen = v;
        text = sym first;
        second = second_same j.sights k.sights titles (second_of (sights_in j.sights) all);
        legal = resized j k sizes j.records (Some (sights_in j.sights ++ v ∷ [])) (subst (λ (z : List (Entry Done)). Sized k.tasks k.groups k.findings z (Some (sights_in j.sights ++ v ∷ []))) same legal);
      }))
    where
      second_of : (us : List (Seen Done)) → sights_in k.sights ≡ us ++ v ∷ vs → IsSecond k.sights
      second_of [] e = some_second k.sights v vs e
      second_of (u ∷ us) e = some_second k.sights u (us ++ v ∷ vs) e

  by_record : (es : List (Entry Done)) → k.records ≡ j.records ++ es → map sight_text (sights_in j.sights) ++ line ∷ more ≡ map record_text es ++ sight_part k → Next j line more
  by_record [] all e = let s = sights_behind (sights_in j.sights) (sights_in k.sights) (line ∷ more) a.writable.sights b.writable.sights e in
      by_sight s.others (all ∙ append-nil j.records) s.all s.rest
  by_record (x ∷ xs) all e = first (sights_in j.sights) refl e
    where
      first : (vs : List (Seen Done)) → sights_in j.sights ≡ vs → map sight_text vs ++ line ∷ more ≡ record_text x ∷ (map record_text xs ++ sight_part k) → Next j line more
      first (v ∷ vs) none f = let here : sight_text v ≡ record_text x = cc f in absurd (record_is_no_sight x v (sym here))
      first [] none f = let here : line ≡ record_text x = cc f in
          let split : k.records ≡ (j.records ++ x ∷ []) ++ xs = all ∙ sym (append_assoc j.records (x ∷ []) xs) in
          inr (inl (record {
            entry = x;
            text = sym here;
            first = none;
            legal = resized j k sizes (j.records ++ x ∷ []) j.sights (fewer_records k b (j.records ++ x ∷ []) xs split j.sights none);
          }))

next_is : (j k : Journal) → IsLegalJournal j → IsLegalJournal k → (line : List ℕ) (more : List (List ℕ)) → journal_lines k ≡ begun_lines j ++ line ∷ more → Next j line more
next_is j k a b line more e =
    let titles : title k.sights ≡ title j.sights = cc e in
    let openings : sizes_text k.tasks k.groups k.findings ≡ sizes_text j.tasks j.groups j.findings = cc e in
    let tails : map record_text k.records ++ sight_part k ≡ (map record_text j.records ++ map sight_text (sights_in j.sights)) ++ line ∷ more = cc e in
    let lines : map record_text j.records ++ (map sight_text (sights_in j.sights) ++ line ∷ more) ≡ map record_text k.records ++ sight_part k
    = sym (append_assoc (map record_text j.records) (map sight_text (sights_in j.sights)) (line ∷ more)) ∙ sym tails in
    let r = records_behind j.records k.records (map sight_text (sights_in j.sights) ++ line ∷ more) (sight_part k) a.writable.records b.writable.records (no_record_there (sights_in k.sights)) lines in
    by_record j k a b line more (same_sizes j k a b (sym openings)) (sym titles) r.others r.all r.rest

-- ---- and what may stand there

map_more : {A : Type 0} (f : A → List ℕ) (xs : List A) (y : A) → map f (xs ++ y ∷ []) ≡ map f xs ++ f y ∷ []
map_more f [] y = refl
map_more f (x ∷ xs) y = ap (λ (z : List (List ℕ)). f x ∷ z) (map_more f xs y)

pub whole_lines : (j : Journal) → journal_lines j ≡ begun_lines j ++ end_line ∷ []
whole_lines j = ap (λ (z : List (List ℕ)). title j.sights ∷ sizes_text j.tasks j.groups j.findings ∷ z) (sym (append_assoc (map record_text j.records) (map sight_text (sights_in j.sights)) (end_line ∷ [])))

record_on : (j : Journal) (line : List ℕ) → GoesOnByRecord j line → BeginsLegal (begun_lines j ++ line ∷ [])
record_on j line g = let rs : List (List ℕ) = map record_text j.records in
    let tail : map record_text (j.records ++ g.entry ∷ []) ++ (map sight_text (sights_in j.sights) ++ end_line ∷ []) ≡ (((rs ++ map sight_text (sights_in j.sights)) ++ line ∷ []) ++ end_line ∷ [])
    = subst (λ (z : List (Seen Done)). map record_text (j.records ++ g.entry ∷ []) ++ (map sight_text z ++ end_line ∷ []) ≡ (((rs ++ map sight_text z) ++ line ∷ []) ++ end_line ∷ [])) (sym g.first)
    (ap (λ (z : List (List ℕ)). z ++ end_line ∷ []) (map_more record_text j.records g.entry ∙ (λ i. sym (append-nil rs) i ++ g.text i ∷ []))) in
    (with_record j g.entry, g.legal, (end_line ∷ [], ap (λ (z : List (List ℕ)). title j.sights ∷ sizes_text j.tasks j.groups j.findings ∷ z) tail))

sight_on : (j : Journal) (line : List ℕ) → GoesOnBySight j line → BeginsLegal (begun_lines j ++ line ∷ [])
sight_on j line g = by_version j.sights refl
  where
    rs : List (List ℕ)
    rs = map record_text j.records

    by_version : (ss : Option (List (Seen Done))) → j.sights ≡ ss → BeginsLegal (begun_lines j ++ line ∷ [])
    by_version None e = absurd (subst IsSecond e g.second)
    by_version (Some vs) e =
        let tail : rs ++ (map sight_text (sights_in j.sights ++ g.seen ∷ []) ++ end_line ∷ []) ≡ ((rs ++ map sight_text (sights_in j.sights)) ++ line ∷ []) ++ end_line ∷ []
        = ap (λ (z : List (List ℕ)). rs ++ (z ++ end_line ∷ [])) (map_more sight_text (sights_in j.sights) g.seen ∙ (λ i. map sight_text (sights_in j.sights) ++ g.text i ∷ []))
        ∙ (sym (append_assoc rs (map sight_text (sights_in j.sights) ++ line ∷ []) (end_line ∷ []))
        ∙ ap (λ (z : List (List ℕ)). z ++ end_line ∷ []) (sym (append_assoc rs (map sight_text (sights_in j.sights)) (line ∷ [])))) in
        let titled : title (Some (sights_in j.sights ++ g.seen ∷ [])) ≡ title j.sights = ap title (sym e) in
        (with_sight j g.seen, g.legal, (end_line ∷ [], λ i. titled i ∷ sizes_text j.tasks j.groups j.findings ∷ tail i))

pub journals_grow : JournalsGrow
journals_grow = record {
  begun = λ j l. (j, l, (end_line ∷ [], whole_lines j));
  whole = λ j l. (j, l, ([], sym (append-nil (journal_lines j))));
  on = λ j l line. (
    (λ b. forget j line b.2.0 (next_is j b.0 l b.1 line b.2.0 (b.2.1 ∙ append_assoc (begun_lines j) (line ∷ []) b.2.0))),
    (λ n. elim n [
      | inl end ↦ (j, l, ([], whole_lines j ∙ (ap (λ (z : List ℕ). begun_lines j ++ z ∷ []) (sym end) ∙ sym (append-nil (begun_lines j ++ line ∷ [])))))
      | inr more ↦ elim more [ inl g ↦ record_on j line g | inr g ↦ sight_on j line g ]
    ]),
  );
  over = λ j l line b. nothing_over j line b.2.0 (next_is j b.0 l b.1 end_line (line ∷ b.2.0)
      (b.2.1 ∙ (ap (λ (z : List (List ℕ)). (z ++ line ∷ []) ++ b.2.0) (whole_lines j) ∙ (append_assoc (begun_lines j ++ end_line ∷ []) (line ∷ []) b.2.0 ∙ append_assoc (begun_lines j) (end_line ∷ []) (line ∷ b.2.0)))));
}
  where
    forget : (j : Journal) (line : List ℕ) (more : List (List ℕ)) → Next j line more → (line ≡ end_line) ⊎ (GoesOnByRecord j line ⊎ GoesOnBySight j line)
    forget j line more (inl e) = inl e.0
    forget j line more (inr g) = inr g

    nothing_over : (j : Journal) (line : List ℕ) (more : List (List ℕ)) → Next j end_line (line ∷ more) → ⊥
    nothing_over j line more (inl e) = let none : line ∷ more ≡ [] = e.1 in absurd (cc none)
    nothing_over j line more (inr (inl g)) = record_is_no_end g.entry g.text
    nothing_over j line more (inr (inr g)) = sight_is_no_end g.seen g.text

-- ---- the first two lines

none_seen : (second : Bool) → sights_in (without_sights second) ≡ []
none_seen true = refl
none_seen false = refl

empty_is_legal : (second : Bool) (n g f : ℕ) → AreSizes n g f → IsLegalJournal (opened second n g f)
empty_is_legal second n g f s = let groups = s.groups in let tasks = s.tasks in let findings = s.findings.1 in let start = start_of (opened second n g f) in record {
  writable = record { tasks = omega arith; groups = omega arith; findings = omega arith; records = tt; sights = subst (Each IsWritableSight) (sym (none_seen second)) tt };
  sizes = s;
  records = tt;
  sights = subst (Each (IsSightIn (layout_of (opened second n g f)))) (sym (none_seen second)) tt;
  legal = (start, record { order = tt; run = refl; counted = λ k. tt; apart = tt; placed = tt });
  seen = subst (AreSightsOf 1 start []) (sym (none_seen second)) (record { order = tt; consistent = tt; after = tt; rising = tt });
}

smallest : AreSizes 0 0 1
smallest = record { tasks = omega arith; groups = omega arith; findings = (omega arith, omega arith) }

titled : (ss : Option (List (Seen Done))) → (second : Bool) × (title (without_sights second) ≡ title ss)
titled None = (false, refl)
titled (Some vs) = (true, refl)

pub beginnings_are_legal : BeginningsAreLegal
beginnings_are_legal = record {
  nothing = let j = opened false 0 0 1 in (j, empty_is_legal false 0 0 1 smallest, (journal_lines j, refl));
  titles = λ line. (
    (λ b. let first : title b.0.sights ≡ line = cc (b.2.1) in let t = titled b.0.sights in (t.0, t.1 ∙ first)),
    (λ t. let j = opened t.0 0 0 1 in (j, empty_is_legal t.0 0 0 1 smallest, (sizes_text 0 0 1 ∷ (map sight_text (sights_in (without_sights t.0)) ++ end_line ∷ []), λ i. t.1 i ∷ sizes_text 0 0 1 ∷ (map sight_text (sights_in (without_sights t.0)) ++ end_line ∷ [])))),
  );
  sizes = λ second line. (
    (λ b. let there : sizes_text b.0.tasks b.0.groups b.0.findings ≡ line = cc (b.2.1) in (b.0.tasks, (b.0.groups, (b.0.findings, b.1.sizes, there)))),
    (λ s. (opened second s.0 s.1.0 s.1.1.0, empty_is_legal second s.0 s.1.0 s.1.1.0 s.1.1.1, (map sight_text (sights_in (without_sights second)) ++ end_line ∷ [], λ i. title (without_sights second) ∷ s.1.1.2 i ∷ (map sight_text (sights_in (without_sights second)) ++ end_line ∷ [])))),
  );
  empty = empty_is_legal;
}
