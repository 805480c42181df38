-- A verdict from the first two lines, and the verdict of the whole text.
use Rattle.std.proofs.Common.{◌≡◌, ◌↔◌, ℕ, Bool, List, [], ◌∷◌, length, sym, ap, ◌∙◌, subst, Option, Some, None, arith}
use Rattle.std.specs.Option.{option_map}
use Rattle.journal_terms.specs.Growing.{without_sights, BeginningsAreLegal}
use Rattle.journal_terms.specs.Laws.{IsShort, OneTextOneJournal}
use Rattle.journal_terms.specs.Legal.{AreSizes, BeginsLegal, FirstBadLines, IsFirstBadLine, lines_of}
use Rattle.journal_terms.specs.Naming.{LinesAreNamed}
use Rattle.journal_terms.specs.Reading.{cut_at}
use Rattle.journal_terms.specs.Text.{Journal, sights_in, sizes_text, title}
use Rattle.history_audit.specs.declared.lines.Sizes.{Sizes}
use Rattle.history_audit.specs.declared.verdict.Verdict.{Verdict}
use Rattle.history_audit.specs.declared.verdict.Verdict.TheVariants.{Yes, No}
use Rattle.history_audit.specs.Heads.{sizes_of}
use Rattle.history_audit.specs.Verdicts.{IsLegalWith, IsVerdict}
use Rattle.history_audit.proofs.Cuts.{cut_some}

abbrev Lines : Type 0
Lines = List (List ℕ)

pub one_line : LinesAreNamed → BeginningsAreLegal → (text line : List ℕ) → lines_of text ≡ line ∷ [] → IsFirstBadLine text 1
one_line named begin text line e = named.short text [] line e begin.nothing (λ k l s. absurd (cc s))

pub no_title : LinesAreNamed → BeginningsAreLegal → (text line behind : List ℕ) → lines_of text ≡ line ∷ cut_at 10 behind → ((second : Bool) → title (without_sights second) ≡ line → ⊥) → IsFirstBadLine text 1
no_title named begin text line behind e none = let p = cut_some 10 behind in
    named.wrong text [] line p.first p.others (e ∙ ap (λ (z : Lines). line ∷ z) p.parts) begin.nothing (λ b. let t = (begin.titles line).0 b in none t.0 t.1)

pub two_lines : LinesAreNamed → BeginningsAreLegal → (text first line : List ℕ) (second : Bool) → title (without_sights second) ≡ first → lines_of text ≡ first ∷ line ∷ [] → IsFirstBadLine text 2
two_lines named begin text first line second t e = named.short text (first ∷ []) line e ((begin.titles first).1 (second, t)) (λ k l s. absurd (cc s))

pub no_sizes : LinesAreNamed → BeginningsAreLegal → (text first line behind : List ℕ) (second : Bool) → title (without_sights second) ≡ first → lines_of text ≡ first ∷ line ∷ cut_at 10 behind
    → ((n g f : ℕ) → AreSizes n g f → sizes_text n g f ≡ line → ⊥) → IsFirstBadLine text 2
no_sizes named begin text first line behind second t e none = let p = cut_some 10 behind in
    named.wrong text (first ∷ []) line p.first p.others (e ∙ ap (λ (z : Lines). first ∷ line ∷ z) p.parts) ((begin.titles first).1 (second, t))
    (λ b. let s = (begin.sizes second line).0 (subst (λ (z : List ℕ). BeginsLegal (z ∷ line ∷ [])) (sym t) b) in none s.0 s.1.0 s.1.1.0 s.1.1.1 s.1.1.2)

abbrev Reads : Option Sizes → List ℕ → Type 0
Reads o line = (n g f : ℕ) → (option_map sizes_of o ≡ Some (n, g, f)) ↔ (IsShort n × IsShort g × IsShort f × (sizes_text n g f ≡ line))

sizes_short : (n g f : ℕ) → AreSizes n g f → IsShort n × IsShort g × IsShort f
sizes_short n g f a = let t = a.tasks in let h = a.groups in let l = a.findings.1 in (omega arith, omega arith, omega arith)

pub sizes_found : (o : Option Sizes) (line : List ℕ) → Reads o line → (n g f : ℕ) → AreSizes n g f → sizes_text n g f ≡ line → option_map sizes_of o ≡ Some (n, g, f)
sizes_found o line h n g f a t = let s = sizes_short n g f a in (h n g f).1 (s.0, s.1, s.2, t)

pub no_opening : (o : Option Sizes) (line : List ℕ) → Reads o line → o ≡ None → (n g f : ℕ) → AreSizes n g f → sizes_text n g f ≡ line → ⊥
no_opening o line h e n g f a t = let bad : None ≡ Some (n, g, f) = sym (ap (option_map sizes_of) e) ∙ sizes_found o line h n g f a t in absurd (cc bad)

pub other_sizes : (o : Option Sizes) (s : Sizes) (line : List ℕ) → Reads o line → o ≡ Some s → (AreSizes s.tasks s.groups s.findings → ⊥) → (n g f : ℕ) → AreSizes n g f → sizes_text n g f ≡ line → ⊥
other_sizes o s line h e none n g f a t =
    let both : Some (sizes_of s) ≡ Some (n, g, f) = sym (ap (option_map sizes_of) e) ∙ sizes_found o line h n g f a t in
    let same : sizes_of s ≡ (n, g, f) = cc in
    none (subst (λ (z : ℕ × ℕ × ℕ). AreSizes z.0 z.1 z.2) (sym same) a)

-- ---- the whole

no_both : FirstBadLines → (text : List ℕ) (n r s : ℕ) → IsFirstBadLine text n → IsLegalWith text r s → ⊥
no_both bad text n r s b l = bad.none text n (l.journal, l.legal, l.text_is) b

pub says_yes : FirstBadLines → OneTextOneJournal → (text : List ℕ) (v : Verdict) → IsVerdict text v → (r s : ℕ) → (v ≡ Yes r s) ↔ IsLegalWith text r s
says_yes bad one text (Yes a b) h r s = (
  (λ e. subst (IsVerdict text) e h),
  (λ l. let same : h.journal ≡ l.journal = one h.journal l.journal h.legal.writable l.legal.writable (h.text_is ∙ sym l.text_is) in
      let records : a ≡ r = h.records_are ∙ (ap (λ (j : Journal). length j.records) same ∙ sym l.records_are) in
      let sights : b ≡ s = h.sights_are ∙ (ap (λ (j : Journal). length (sights_in j.sights)) same ∙ sym l.sights_are) in
      λ i. Yes (records i) (sights i)),
)
says_yes bad one text (No n) h r s = ((λ e. absurd (cc e)), (λ l. absurd (no_both bad text n r s h l)))

pub says_no : FirstBadLines → (text : List ℕ) (v : Verdict) → IsVerdict text v → (n : ℕ) → (v ≡ No n) ↔ IsFirstBadLine text n
says_no bad text (Yes a b) h n = ((λ e. absurd (cc e)), (λ l. absurd (no_both bad text n a b l h)))
says_no bad text (No m) h n = ((λ e. subst (IsVerdict text) e h), (λ l. ap No (bad.one text m n h l)))
