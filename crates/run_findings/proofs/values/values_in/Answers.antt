use Rattle.std.proofs.Common.{ℕ, ◌<◌, ◌≤◌, length, ◌∙◌, arith}
use Rattle.std.proofs.lemmas.List.Elements.{All-same, All-weaker}
use Rattle.rule_terms.specs.Match.{findings_of}
use Rattle.run_findings.proofs.values.values_in.Goals as goal

pub numbers-requires : goal.numbers-requires
numbers-requires c =
    let rules = c.args.rules.now in
    let header = c.args.first.now.header in
    let payload = c.args.payload.now in
    let here = c.deref.ensures.value ∙ c.in_ok-found.ensures.findings in
    let few : length rules ≤ 1024 = omega (arith, c.len-few.ensures.len, c.len-few.ensures.few) in
    All-same (λ (f : ℕ × ℕ). f.0 < 1024) c.deref.result.now _ here
    (All-weaker (λ (f : ℕ × ℕ). (f.0 < length rules) × (f.1 ≤ length payload)) (λ (f : ℕ × ℕ). f.0 < 1024) (λ f is. omega (arith, is.0, few))
    (findings_of rules header payload) (c.findings_are_there.ensures rules header payload))
