use Rattle.std.proofs.Common.{◌≡◌, ◌∙◌, ℕ, true, false, List, [], ◌∷◌, ap, sym, Some, None}
use Rattle.journal_terms.specs.Legal.{lines_of}
use Rattle.journal_terms.specs.Reading.{cut_at}
use Rattle.history_audit.proofs.Auditing.{no_title, two_lines, no_sizes, no_opening, other_sizes}
use Rattle.history_audit.proofs.verdict.judge.Goals as goal

pub returns-in-None-version : goal.returns-in-None-version
returns-in-None-version c = no_title c.lines_are_named_law.ensures c.beginnings_are_legal_law.ensures c.args.text.now c.cut.result.0.now c.in-Some.behind.now (rw c.in-Some.is at c.cut.ensures.cut)
    (λ second t. let bad : None ≡ Some second = sym c.in-None-version.is ∙ (c.version.ensures second).1 t in absurd (cc bad))

pub returns-in-None-rest : goal.returns-in-None-rest
returns-in-None-rest c =
    let here : lines_of c.args.text.now ≡ c.cut.result.0.now ∷ cut_at 10 c.in-Some.behind.now = rw c.in-Some.is at c.cut.ensures.cut in
    let behind : cut_at 10 c.in-Some.behind.now ≡ c.cut-2.result.0.now ∷ [] = rw c.in-None-rest.is at c.cut-2.ensures.cut in
    two_lines c.lines_are_named_law.ensures c.beginnings_are_legal_law.ensures c.args.text.now c.cut.result.0.now c.cut-2.result.0.now c.in-Some-version.second
    ((c.version.ensures c.in-Some-version.second).0 c.in-Some-version.is) (here ∙ ap (λ (z : List (List ℕ)). c.cut.result.0.now ∷ z) behind)

pub returns-in-None-opening : goal.returns-in-None-opening
returns-in-None-opening c =
    let here : lines_of c.args.text.now ≡ c.cut.result.0.now ∷ cut_at 10 c.in-Some.behind.now = rw c.in-Some.is at c.cut.ensures.cut in
    let behind : cut_at 10 c.in-Some.behind.now ≡ c.cut-2.result.0.now ∷ cut_at 10 c.in-Some-rest.rest.now = rw c.in-Some-rest.is at c.cut-2.ensures.cut in
    no_sizes c.lines_are_named_law.ensures c.beginnings_are_legal_law.ensures c.args.text.now c.cut.result.0.now c.cut-2.result.0.now c.in-Some-rest.rest.now c.in-Some-version.second
    ((c.version.ensures c.in-Some-version.second).0 c.in-Some-version.is) (here ∙ ap (λ (z : List (List ℕ)). c.cut.result.0.now ∷ z) behind)
    (no_opening c.opening.result c.cut-2.result.0.now c.opening.ensures c.in-None-opening.is)

pub returns-then-not-fit : goal.returns-then-not-fit
returns-then-not-fit c =
    let here : lines_of c.args.text.now ≡ c.cut.result.0.now ∷ cut_at 10 c.in-Some.behind.now = rw c.in-Some.is at c.cut.ensures.cut in
    let behind : cut_at 10 c.in-Some.behind.now ≡ c.cut-2.result.0.now ∷ cut_at 10 c.in-Some-rest.rest.now = rw c.in-Some-rest.is at c.cut-2.ensures.cut in
    no_sizes c.lines_are_named_law.ensures c.beginnings_are_legal_law.ensures c.args.text.now c.cut.result.0.now c.cut-2.result.0.now c.in-Some-rest.rest.now c.in-Some-version.second
    ((c.version.ensures c.in-Some-version.second).0 c.in-Some-version.is) (here ∙ ap (λ (z : List (List ℕ)). c.cut.result.0.now ∷ z) behind)
    (other_sizes c.opening.result c.in-Some-opening.sizes c.cut-2.result.0.now c.opening.ensures c.in-Some-opening.is
    (λ a. let bad : true ≡ false = sym (c.are_sizes-fit.ensures.1 a) ∙ c.if-not-fit.true in absurd (cc bad)))
