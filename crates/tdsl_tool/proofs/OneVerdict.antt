-- Two files come to one verdict only.
use Rattle.std.proofs.Common.{◌≡◌, inl, inr, ℕ, List, sym, ◌∙◌, ap, arith}
use Rattle.capture_terms.specs.Capture.{Answer, IsAnswer}
use Rattle.std.proofs.lemmas.Bool.{cases_Bool}
use Rattle.pcapng_blocks.specs.Answer.{is_pcapng, IsBlocksAnswer}
use Rattle.rule_terms.specs.Laws.{TextHasOneReading}
use Rattle.tdsl_tool.specs.Verdict.{AnswerIsOne, SomeAnswerOf, RuleFile, rule_file_of, RuleFileIsOne, CaptureFile, file_of, IsCaptureFile, VerdictIsOne, verdict_of}

abbrev IsOneOf : (List ℕ → Answer → Type 0) → Type 0
IsOneOf Is = (bytes : List ℕ) (one two : Answer) → Is bytes one → Is bytes two → one ≡ two

-- two right answers in the format that a file begins as are one
pub answer_is_one : IsOneOf IsAnswer → IsOneOf IsBlocksAnswer → AnswerIsOne
answer_is_one classic blocks bytes one two (inl p) (inl q) = blocks bytes one two p.1 q.1
answer_is_one classic blocks bytes one two (inl p) (inr q) = absurd (cc (p.0, q.0))
answer_is_one classic blocks bytes one two (inr p) (inl q) = absurd (cc (p.0, q.0))
answer_is_one classic blocks bytes one two (inr p) (inr q) = classic bytes one two p.1 q.1

-- each file has one
pub some_of : ((bytes : List ℕ) → (answer : Answer) × IsAnswer bytes answer) → ((bytes : List ℕ) → (answer : Answer) × IsBlocksAnswer bytes answer) → SomeAnswerOf
some_of classic blocks bytes =
    elim (cases_Bool (is_pcapng bytes)) [
      | inl is ↦ ((blocks bytes).0, inl (is, (blocks bytes).1))
      | inr other ↦ ((classic bytes).0, inr (other, (classic bytes).1))
    ]

pub rule_file_is_one : TextHasOneReading → RuleFileIsOne
rule_file_is_one law name text one two (inl p) (inl q) = p.1 ∙ sym q.1
rule_file_is_one law name text one two (inl p) (inr q) = absurd (omega (arith, p.0, q.1.short))
rule_file_is_one law name text one two (inr p) (inl q) = absurd (omega (arith, p.1.short, q.0))
rule_file_is_one law name text one two (inr p) (inr q) = p.2 ∙ ap rule_file_of (law text p.0 q.0 p.1.right q.1.right) ∙ sym q.2

one_capture_file : AnswerIsOne → (name bytes : List ℕ) (one two : CaptureFile) → IsCaptureFile name bytes one → IsCaptureFile name bytes two → one ≡ two
one_capture_file law name bytes one two (inl p) (inl q) = p.1 ∙ sym q.1
one_capture_file law name bytes one two (inl p) (inr q) = absurd (omega (arith, p.0, q.1.short))
one_capture_file law name bytes one two (inr p) (inl q) = absurd (omega (arith, p.1.short, q.0))
one_capture_file law name bytes one two (inr p) (inr q) = p.2 ∙ ap file_of (law bytes p.0 q.0 p.1.right q.1.right) ∙ sym q.2

pub verdict_is_one : TextHasOneReading → IsOneOf IsAnswer → IsOneOf IsBlocksAnswer → VerdictIsOne
verdict_is_one rules_law classic blocks names settings text bytes one two p q =
    let answer_law : AnswerIsOne = answer_is_one classic blocks in
    let rules = rule_file_is_one rules_law names.rules text p.rules q.rules p.rules_is q.rules_is in
    let capture = one_capture_file answer_law names.capture bytes p.capture q.capture p.capture_is q.capture_is in
    p.comes_to ∙ ap (λ (r : RuleFile). verdict_of settings r bytes p.capture) rules ∙ ap (λ (c : CaptureFile). verdict_of settings q.rules bytes c) capture ∙ sym q.comes_to
