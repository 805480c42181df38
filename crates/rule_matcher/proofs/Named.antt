-- The name of one rule more.
use Rattle.std.proofs.Common.{◌≡◌, ℕ, Bool, cond, true, false, List, [], ◌∷◌, ◌++◌, length, get_or, inl, inr, refl, sym, ◌∙◌, ap, arith, length-append}
use Rattle.std.specs.Prelude.{◌⊎◌, ◌↔◌, not}
use Rattle.std.specs.Borrow.{Bor}
use Rattle.std.specs.BTreeSet.{BTreeSet, contains}
use Rattle.std.specs.Cmp.Lexicographic.{slice_cmp}
use Rattle.std.specs.Ordering.{nat_cmp, is_eq}
use Rattle.std.specs.Str.{bytes_eq}
use Rattle.std.proofs.lemmas.Bool.{cases_lt}
use Rattle.std.proofs.lemmas.List.{get_or_append_left}
use Rattle.std.proofs.lemmas.List.Quantifiers.{Any-push}
use Rattle.std.proofs.lemmas.Map.Text.{is_eq-slice_cmp}
use Rattle.std.proofs.lemmas.Slice.Eq.{bytes_eq-Decides}
use Rattle.std.proofs.Math.Seq.{get_or-append_seam}
use Rattle.rule_terms.specs.Rule.{Rule}
use Rattle.rule_terms.specs.RuleText.{IsTaken}
use Rattle.rule_matcher.specs.Names.{AreNamesOf}

-- a name is taken among one rule more where it was, or is that rule's
taken_among : (name : List ℕ) (rules : List Rule) (rule : Rule) → IsTaken name (rules ++ rule ∷ []) → IsTaken name rules ⊎ (rule.name ≡ name)
taken_among name rules rule (k, r, lt, is, named) = elim (cases_lt k (length rules)) [
  | inl before ↦ inl (k, r, before, sym (get_or_append_left rules (rule ∷ []) r k before) ∙ is, named)
  | inr behind ↦
      let here : k ≡ length rules = omega (arith, lt, length-append rules (rule ∷ [])) in
      let last : rule ≡ r = sym (get_or-append_seam rules rule [] r) ∙ ap (λ (n : ℕ). get_or (rules ++ rule ∷ []) n r) (sym here) ∙ is in
      inr (ap (λ (q : Rule). q.name) last ∙ named)
]

still_taken : (name : List ℕ) (rules : List Rule) (rule : Rule) → IsTaken name rules → IsTaken name (rules ++ rule ∷ [])
still_taken name rules rule (k, r, lt, is, named) = (k, r, omega (arith, lt, length-append rules (rule ∷ [])), get_or_append_left rules (rule ∷ []) r k lt ∙ is, named)

abbrev has : BTreeSet (Bor (List ℕ)) → Bor (List ℕ) → Bool
has names name = contains (λ one other. slice_cmp nat_cmp one.now other.now) names name

abbrev same : Bor (List ℕ) → Bor (List ℕ) → Bool
same one other = is_eq (slice_cmp nat_cmp one.now other.now)

pub names_more : (old new : BTreeSet (Bor (List ℕ))) (name : Bor (List ℕ)) (rules : List Rule) (rule : Rule) → ((q : Bor (List ℕ)) → has new q ≡ cond (same name q) true (has old q)) → AreNamesOf old rules → rule.name ≡ name.now → AreNamesOf new (rules ++ rule ∷ [])
names_more old new name rules rule updates are is q = by_case (same name q) refl
  where
    equal : same name q ≡ bytes_eq name.now q.now
    equal = is_eq-slice_cmp name.now q.now

    by_case : (b : Bool) → same name q ≡ b → (has new q ≡ true) ↔ IsTaken q.now (rules ++ rule ∷ [])
    by_case true here =
        let named : name.now ≡ q.now = (bytes_eq-Decides name.now q.now).0 (sym equal ∙ here) in
        let there : has new q ≡ true = updates q ∙ ap (λ (b : Bool). cond b true (has old q)) here in
        (λ found. Any-push (λ (r : Rule). r.name ≡ q.now) rules rule (is ∙ named), λ taken. there)
    by_case false away =
        let before : has new q ≡ has old q = updates q ∙ ap (λ (b : Bool). cond b true (has old q)) away in
        let other : name.now ≡ q.now → has old q ≡ true = λ named.
        let wrong : true ≡ false = sym ((bytes_eq-Decides name.now q.now).1 named) ∙ sym equal ∙ away in
        absurd (cc wrong) in (
          λ found. still_taken q.now rules rule ((are q).0 (sym before ∙ found)),
          λ taken. before ∙ elim (taken_among q.now rules rule taken) [ inl early ↦ (are q).1 early | inr late ↦ other (sym is ∙ late) ],
        )

-- a name is new exactly where no rule has it
pub name_taken : (old : BTreeSet (Bor (List ℕ))) (name : Bor (List ℕ)) (rules : List Rule) (is_new : Bool) → is_new ≡ not (has old name) → AreNamesOf old rules → (is_new ≡ false) ↔ IsTaken name.now rules
name_taken old name rules is_new is are = by_case (has old name) refl
  where
    by_case : (b : Bool) → has old name ≡ b → (is_new ≡ false) ↔ IsTaken name.now rules
    by_case true there = (λ no. (are name).0 there, λ taken. is ∙ ap not there)
    by_case false absent =
        let new : is_new ≡ true = is ∙ ap not absent in
        (λ no. absurd (cc (no, new)), λ taken. absurd (cc ((are name).1 taken, absent)))

pub no_names : (names : BTreeSet (Bor (List ℕ))) (rules : List Rule) → names.keys ≡ [] → rules ≡ [] → AreNamesOf names rules
no_names names [] empty none name =
    let absent : has names name ≡ false = rw empty in
    (λ found. absurd (cc (found, absent)), λ taken. absurd (omega (arith, taken.2)))
no_names names (rule ∷ rules) empty none name = absurd (cc)
