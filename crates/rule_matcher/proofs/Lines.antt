-- The lines of a text and the rules that they are.
use Rattle.std.proofs.Common.{◌≡◌, ℕ, zero, suc, ◌+◌, ◌<◌, ◌≤◌, true, false, eqb, List, [], ◌∷◌, ◌++◌, length, get_or, take, drop, Option, Some, None, refl, sym, ◌∙◌, ap, subst, arith, append_assoc, length-append, inl, inr}
use Rattle.std.specs.Prelude.{AllPairs}
use Rattle.std.proofs.lemmas.List.{append-nil}
use Rattle.std.proofs.Math.Seq.{get_or-append_seam}
use Rattle.std.proofs.lemmas.Bool.{false_from_ne_true}
use Rattle.std.proofs.lemmas.List.Quantifiers.{all_pairs_push}
use Rattle.rule_terms.specs.Rule.{Rule}
use Rattle.rule_terms.specs.RuleText.{lines_of, onto_first, AreLinesOf, AreNamedApart, IsTaken, AreRules, IsRuleText, name_at}
use Rattle.rule_matcher.specs.Ends.{IsCauseIn, IsReadBehind, IsCauseAt}
use Rattle.rule_matcher.specs.declared.rule_list.RulesEnd.{RulesEnd}
use Rattle.rule_matcher.specs.declared.rule_list.RulesEnd.TheVariants.{Line, TooMany, Memory}

pub lines_cut : (text : List ℕ) (i : ℕ) → i < length text → ((k : ℕ) → k < i → eqb (get_or text k 0) 10 ≡ true → ⊥) → eqb (get_or text i 0) 10 ≡ true → lines_of text ≡ take i text ∷ lines_of (drop (suc i) text)
unfolding lines_of
lines_cut [] i within before here = absurd (omega arith)
lines_cut (b ∷ text) zero within before here = rw here
lines_cut (b ∷ text) (suc i) within before here =
    let off : eqb b 10 ≡ false = false_from_ne_true (eqb b 10) (before 0 (omega arith)) in
    let rest : lines_of text ≡ take i text ∷ lines_of (drop (suc i) text) = lines_cut text i (omega arith) (λ k lt. before (suc k) (omega arith)) here in
    rw off (ap (onto_first b) rest)

pub lines_last : (text : List ℕ) → 0 < length text → ((k : ℕ) → k < length text → eqb (get_or text k 0) 10 ≡ true → ⊥) → lines_of text ≡ text ∷ []
unfolding lines_of
lines_last [] some nowhere = absurd (omega arith)
lines_last (b ∷ []) some nowhere =
    let off : eqb b 10 ≡ false = false_from_ne_true (eqb b 10) (nowhere 0 (omega arith)) in
    rw off
lines_last (b ∷ c ∷ text) some nowhere =
    let off : eqb b 10 ≡ false = false_from_ne_true (eqb b 10) (nowhere 0 (omega arith)) in
    rw off (ap (onto_first b) (lines_last (c ∷ text) (omega arith) (λ k lt. nowhere (suc k) (omega arith))))

-- the lines before the rest are these rules, and as many as the number
pub record Reads (text rest : List ℕ) (number : ℕ) (rules : List Rule) : Type 0 where
  pub lines : List (List ℕ)
  pub split : lines_of text ≡ lines ++ lines_of rest
  pub are : AreRules lines rules
  pub count : number ≡ length lines

pub reads_none : (text : List ℕ) (rules : List Rule) → rules ≡ [] → Reads text text 0 rules
reads_none text rules none = record {
  lines = [];
  split = refl;
  are = record { each = none; names = subst (λ (rs : List Rule). AllPairs AreNamedApart rs) (sym none) (λ i j d before below. absurd (omega arith)); few = omega (arith, ap length none) };
  count = refl;
}

pub apart_more : (rules : List Rule) (rule : Rule) → AllPairs AreNamedApart rules → ¬ IsTaken rule.name rules → AllPairs AreNamedApart (rules ++ rule ∷ [])
apart_more rules rule apart new = all_pairs_push AreNamedApart rules rule apart (λ k d within same. new (k, get_or rules k d, within, at_place rules k d within, same))
  where
    at_place : (rules : List Rule) (k : ℕ) (d : Rule) → k < length rules → get_or rules k (get_or rules k d) ≡ get_or rules k d
    at_place [] k d within = absurd (omega arith)
    at_place (r ∷ rules) zero d within = refl
    at_place (r ∷ rules) (suc k) d within = at_place rules k d (omega arith)

lines_more : (lines : List (List ℕ)) (line : List ℕ) (rules further : List Rule) → AreLinesOf lines rules → AreLinesOf (line ∷ []) further → AreLinesOf (lines ++ line ∷ []) (rules ++ further)
lines_more [] line rules further none is = subst (λ (rs : List Rule). AreLinesOf (line ∷ []) (rs ++ further)) (sym none) is
lines_more (l ∷ lines) line rules further (inl skipped) is = inl (skipped.0, lines_more lines line rules further skipped.1 is)
lines_more (l ∷ lines) line rules further (inr (rule, later, here, split, are)) is =
    inr (rule, later ++ further, here, ap (λ (rs : List Rule). rs ++ further) split, lines_more lines line later further are is)

one_line : (line : List ℕ) (old new : List Rule) → IsReadBehind line old new → (further : List Rule) × (new ≡ old ++ further) × AreLinesOf (line ∷ []) further
one_line line old new (inl (skipped, same)) = ([], same ∙ sym (append-nil old), inl (skipped, refl))
one_line line old new (inr (is, room, added)) = (is.rule ∷ [], added, inr (is.rule, [], is.is, refl, refl))

still_apart : (line : List ℕ) (old new : List Rule) → IsReadBehind line old new → AllPairs AreNamedApart old → AllPairs AreNamedApart new
still_apart line old new (inl (skipped, same)) apart = subst (λ (rs : List Rule). AllPairs AreNamedApart rs) (sym same) apart
still_apart line old new (inr (is, room, added)) apart = subst (λ (rs : List Rule). AllPairs AreNamedApart rs) (sym added) (apart_more old is.rule apart is.new)

still_few : (line : List ℕ) (old new : List Rule) → IsReadBehind line old new → length old ≤ 1024 → length new ≤ 1024
still_few line old new (inl (skipped, same)) few = omega (arith, ap length same)
still_few line old new (inr (is, room, added)) few = omega (arith, room, ap length added, length-append old (is.rule ∷ []))

pub reads_more : (text rest behind line : List ℕ) (number : ℕ) (old new : List Rule) → Reads text rest number old → lines_of rest ≡ line ∷ lines_of behind → IsReadBehind line old new → Reads text behind (number + 1) new
reads_more text rest behind line number old new before cut is =
    let further = one_line line old new is in
    record {
      lines = before.lines ++ line ∷ [];
      split = before.split ∙ ap (λ (l : List (List ℕ)). before.lines ++ l) cut ∙ sym (append_assoc before.lines (line ∷ []) (lines_of behind));
      are = record {
        each = subst (λ (rs : List Rule). AreLinesOf (before.lines ++ line ∷ []) rs) (sym further.1) (lines_more before.lines line old further.0 before.are.each further.2);
        names = still_apart line old new is before.are.names;
        few = still_few line old new is before.are.few;
      };
      count = omega (arith, before.count, length-append before.lines (line ∷ []));
    }

pub cause_of : (text rest behind line : List ℕ) (number : ℕ) (rules : List Rule) (e : RulesEnd) → Reads text rest number rules → lines_of rest ≡ line ∷ lines_of behind → IsCauseAt line (number + 1) rules e → IsCauseIn text e
cause_of text rest behind line number rules Memory before cut is = tt
cause_of text rest behind line number rules (Line n) before cut is = record {
  rules = rules;
  line = line;
  up_to = record { before = before.lines; behind = lines_of behind; split = before.split ∙ ap (λ (l : List (List ℕ)). before.lines ++ l) cut; are = before.are };
  bad = is.1;
  number_is = omega (arith, is.0, before.count);
}
cause_of text rest behind line number rules TooMany before cut is = record {
  rules = rules;
  line = line;
  up_to = record { before = before.lines; behind = lines_of behind; split = before.split ∙ ap (λ (l : List (List ℕ)). before.lines ++ l) cut; are = before.are };
  full = is.0;
  rule = is.1.rule;
  is = is.1.is;
  new = is.1.new;
}

pub whole_text : (text rest : List ℕ) (number : ℕ) (rules : List Rule) → Reads text rest number rules → length rest ≡ 0 → IsRuleText text rules
unfolding lines_of
whole_text text [] number rules reads none = subst (λ (ls : List (List ℕ)). AreRules ls rules) (sym (reads.split ∙ append-nil reads.lines)) reads.are
whole_text text (b ∷ rest) number rules reads none = absurd (omega arith)

pub name_at_place : (rules : List Rule) (n : ℕ) (rule : Rule) → n < length rules → rule ≡ get_or rules n rule → rule.name ≡ name_at rules n
name_at_place [] n rule within is = absurd (omega arith)
name_at_place (r ∷ rules) zero rule within is = ap (λ (q : Rule). q.name) is
name_at_place (r ∷ rules) (suc n) rule within is = name_at_place rules n rule (omega arith) is
