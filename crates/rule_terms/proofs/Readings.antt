-- The reading of a text ends in one way only.
use Rattle.std.proofs.Common.{◌≡◌, ℕ, zero, suc, ◌+◌, ◌<◌, ◌≤◌, Bool, true, false, eqb, List, [], ◌∷◌, ◌++◌, length, get_or, Option, Some, None, refl, sym, ◌∙◌, ap, arith, subst, append_assoc, length-append, inl, inr}
use Rattle.std.specs.Prelude.{if◌then◌else◌, ◌||◌, AllPairs, ◌⊎◌}
use Rattle.std.specs.List.{list_any}
use Rattle.std.specs.Str.{bytes_eq}
use Rattle.std.proofs.lemmas.Slice.Eq.{bytes_eq-Decides}
use Rattle.std.proofs.lemmas.Bool.{ne_eqb, eq-eqb, or_parts, false_from_ne_true}
use Rattle.std.proofs.lemmas.List.{append-nil, get_or_append_left}
use Rattle.std.proofs.lemmas.List.Quantifiers.{Any-push}
use Rattle.std.proofs.Math.Seq.{get_or-append_seam}
use Rattle.rule_terms.specs.Rule.{Rule}
use Rattle.rule_terms.specs.Grammar.{IsRuleLine}
use Rattle.rule_terms.specs.Reader.{read_rule}
use Rattle.rule_terms.specs.RuleText.{lines_of, without_return, is_skipped, IsLineOf, AreLinesOf, AreNamedApart, IsTaken, AreRules, IsRuleText, IsReadUpTo, IsBadLine, IsFirstBadLine, HasTooMany, Reading, list, bad_line, too_many, IsReadingOf}
use Rattle.rule_terms.proofs.RuleLines.{written}

abbrev has_name : List ℕ → List Rule → Bool
has_name name rules = list_any (λ (r : Rule). bytes_eq r.name name) rules

-- the reading of a rule's line, behind these rules, and of what is behind it
abbrev further : Option Rule → ℕ → List Rule → (List Rule → Reading) → Reading
further None n rules later = bad_line n
further (Some rule) n rules later = if has_name rule.name rules then bad_line n else if eqb (length rules) 1024 then too_many else later (rules ++ rule ∷ [])

-- the reading of the lines from the one of number n on, behind these rules
unfoldable reading : List (List ℕ) → ℕ → List Rule → Reading
reading [] n rules = list rules
reading (line ∷ lines) n rules =
    if is_skipped (without_return line) then reading lines (n + 1) rules else further (read_rule (without_return line)) n rules (reading lines (n + 1))

not_had : (name : List ℕ) (rules : List Rule) → ¬ IsTaken name rules → has_name name rules ≡ false
not_had name [] new = refl
not_had name (rule ∷ rules) new =
    let here : bytes_eq rule.name name ≡ false = false_from_ne_true _ (λ same. new (0, rule, omega arith, refl, (bytes_eq-Decides rule.name name).0 same)) in
    rw here (not_had name rules (λ taken. new (suc taken.0, taken.1, omega (arith, taken.2), taken.3, taken.4)))

had : (name : List ℕ) (rules : List Rule) → IsTaken name rules → has_name name rules ≡ true
had name [] taken = absurd (omega (arith, taken.2))
had name (rule ∷ rules) (zero, r, lt, is, named) =
    let same : bytes_eq rule.name name ≡ true = (bytes_eq-Decides rule.name name).1 (ap (λ (q : Rule). q.name) is ∙ named) in
    rw same
had name (rule ∷ rules) (suc k, r, lt, is, named) = either (bytes_eq rule.name name) (had name rules (k, r, omega (arith, lt), is, named))
  where
    either : (t : Bool) → has_name name rules ≡ true → (t || has_name name rules) ≡ true
    either true later = refl
    either false later = later

-- a rule among others of different names has a name that none before it has
apart_new : (rules : List Rule) (rule : Rule) (later : List Rule) → AllPairs AreNamedApart (rules ++ rule ∷ later) → ¬ IsTaken rule.name rules
apart_new rules rule later apart has =
    let size : length (rules ++ rule ∷ later) ≡ length rules + suc (length later) = length-append rules (rule ∷ later) in
    let early : get_or (rules ++ rule ∷ later) has.0 has.1 ≡ has.1 = get_or_append_left rules (rule ∷ later) has.1 has.0 has.2 ∙ has.3 in
    let late : get_or (rules ++ rule ∷ later) (length rules) has.1 ≡ rule = get_or-append_seam rules rule later has.1 in
    apart has.0 (length rules) has.1 has.2 (omega arith) (ap (λ (r : Rule). r.name) early ∙ has.4 ∙ ap (λ (r : Rule). r.name) (sym late))

-- lines that are rules are read
walk : (lines behind : List (List ℕ)) (n : ℕ) (rules new : List Rule) → AreLinesOf lines new → AllPairs AreNamedApart (rules ++ new) → length (rules ++ new) ≤ 1024
    → reading (lines ++ behind) n rules ≡ reading behind (n + length lines) (rules ++ new)
unfolding reading
walk [] behind n rules new are apart few =
    let number : n ≡ n + length {A = List ℕ} [] = omega arith in
    ap (reading behind n) (sym (append-nil rules) ∙ ap (λ (l : List Rule). rules ++ l) (sym are)) ∙ ap (λ (k : ℕ). reading behind k (rules ++ new)) number
walk (line ∷ lines) behind n rules new (inl skipped) apart few =
    let later = walk lines behind (n + 1) rules new skipped.1 apart few in
    let number : n + 1 + length lines ≡ n + length (line ∷ lines) = omega arith in
    rw skipped.0 (later ∙ ap (λ (k : ℕ). reading behind k (rules ++ new)) number)
walk (line ∷ lines) behind n rules new (inr (rule, later, is, split, are)) apart few =
    let whole : rules ++ new ≡ rules ++ rule ∷ later = ap (λ (l : List Rule). rules ++ l) split in
    let onto : (rules ++ rule ∷ []) ++ later ≡ rules ++ new = append_assoc rules (rule ∷ []) later ∙ sym whole in
    let new_name : has_name rule.name rules ≡ false = not_had rule.name rules (apart_new rules rule later (subst (λ (l : List Rule). AllPairs AreNamedApart l) whole apart)) in
    let room : eqb (length rules) 1024 ≡ false = ne_eqb _ _ (λ full. absurd (omega (arith, full, few, ap length whole, length-append rules (rule ∷ later)))) in
    let read : read_rule (without_return line) ≡ Some rule = (written (without_return line) rule).1 is.is in
    let rest = walk lines behind (n + 1) (rules ++ rule ∷ []) later are (subst (λ (l : List Rule). AllPairs AreNamedApart l) (sym onto) apart) (omega (arith, few, ap length onto)) in
    let number : n + 1 + length lines ≡ n + length (line ∷ lines) = omega arith in
    rw (is.looked_at, read, new_name, room) (rest ∙ ap (reading behind (n + 1 + length lines)) onto ∙ ap (λ (k : ℕ). reading behind k (rules ++ new)) number)

to_line : (text : List ℕ) (rules : List Rule) (line : List ℕ) → (up : IsReadUpTo text rules line) → reading (lines_of text) 1 [] ≡ reading (line ∷ up.behind) (1 + length up.before) rules
to_line text rules line up = ap (λ (l : List (List ℕ)). reading l 1 []) up.split ∙ walk up.before (line ∷ up.behind) 1 [] rules up.are.each up.are.names up.are.few

of_list : (text : List ℕ) (rules : List Rule) → IsRuleText text rules → reading (lines_of text) 1 [] ≡ list rules
unfolding reading
of_list text rules is =
    ap (λ (l : List (List ℕ)). reading l 1 []) (sym (append-nil (lines_of text))) ∙ walk (lines_of text) [] 1 [] rules is.each is.names is.few

bad_if : (line : List ℕ) (rules : List Rule) (n : ℕ) (r : Option Rule) (later : List Rule → Reading) → ((rule : Rule) → r ≡ Some rule → IsTaken rule.name rules) → further r n rules later ≡ bad_line n
bad_if line rules n None later taken = refl
bad_if line rules n (Some rule) later taken = rw (had rule.name rules (taken rule refl))

of_bad : (text : List ℕ) (number : ℕ) → IsFirstBadLine text number → reading (lines_of text) 1 [] ≡ bad_line number
unfolding reading
of_bad text number is =
    let taken : (rule : Rule) → read_rule (without_return is.line) ≡ Some rule → IsTaken rule.name is.rules = λ rule read.
    is.bad.no_rule rule (record { looked_at = is.bad.looked_at; is = (written (without_return is.line) rule).0 read }) in
    let here : 1 + length is.up_to.before ≡ number = omega (arith, is.number_is) in
    to_line text is.rules is.line is.up_to ∙ rw (is.bad.looked_at) (bad_if is.line is.rules (1 + length is.up_to.before) (read_rule (without_return is.line)) (reading is.up_to.behind (1 + length is.up_to.before + 1)) taken ∙ ap bad_line here)

of_many : (text : List ℕ) → HasTooMany text → reading (lines_of text) 1 [] ≡ too_many
unfolding reading
of_many text is =
    let read : read_rule (without_return is.line) ≡ Some is.rule = (written (without_return is.line) is.rule).1 is.is.is in
    to_line text is.rules is.line is.up_to ∙ rw (is.is.looked_at, read, not_had is.rule.name is.rules is.new, eq-eqb (length is.rules) 1024 is.full)

of_reading : (text : List ℕ) (one : Reading) → IsReadingOf text one → reading (lines_of text) 1 [] ≡ one
of_reading text (list rules) is = of_list text rules is
of_reading text (bad_line number) is = of_bad text number is
of_reading text too_many is = of_many text is

pub one_reading : (text : List ℕ) (one other : Reading) → IsReadingOf text one → IsReadingOf text other → one ≡ other
one_reading text one other is also = sym (of_reading text one is) ∙ of_reading text other also

pub one_list : (text : List ℕ) (rules others : List Rule) → IsRuleText text rules → IsRuleText text others → rules ≡ others
one_list text rules others is also =
    let same : list rules ≡ list others = one_reading text (list rules) (list others) is also in
    cc same
