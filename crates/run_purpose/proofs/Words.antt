-- What is to be done for a fragment, by the parts of its group's old word.
use Rattle.std.proofs.Common.{◌≡◌, ℕ, ◌+◌, ◌<◌, ◌^◌, Bool, true, cond, List, length, get_or, refl, sym, ap, ◌∙◌, subst, arith}
use Rattle.std.specs.Prelude.{Option, Some, None, slice_get, ◌==◌, ◌&&◌, not}
use Rattle.std.proofs.lemmas.Option.{slice_get-get_or}
use Rattle.capture_terms.specs.declared.plan.Group.{Group}
use Rattle.capture_terms.specs.declared.plan.Task.{Task}
use Rattle.rule_terms.specs.Rule.{Rule}
use Rattle.run_stages.specs.Allowed.{new_bytes, new_total, old_total}
use Rattle.run_stages.specs.FromCapture.{TasksHaveFacts, facts_of, work_of}
use Rattle.run_stages.specs.Work.{Work, TaskFacts, task, end_of, group_word}
use Rattle.run_purpose.specs.Heads.{old_head, old_bytes, old_end}
use Rattle.run_purpose.specs.Words.{IsAdding}
use Rattle.run_purpose.specs.declared.word.Adding.{Adding}

bytes_are : (w : Work) (i : ℕ) (old : Option ℕ) → new_bytes w i old ≡ (task w i).size + old_bytes old
bytes_are w i None = omega arith
bytes_are w i (Some x) = refl

ends_are : (w : Work) (old : Option ℕ) → old_total w old ≡ old_end old
ends_are w None = refl
ends_are w (Some x) = refl

total_is : (w : Work) (i : ℕ) (old : Option ℕ) → new_total w i old ≡ cond (task w i).last (end_of w i) (old_end old)
total_is w i old = ap (λ (n : ℕ). cond (task w i).last (end_of w i) n) (ends_are w old)

is_adding : (w : Work) (i : ℕ) (old : Option ℕ) (adding : Adding) (bytes total : ℕ) → new_bytes w i old ≡ bytes → new_total w i old ≡ total
    → adding.word ≡ group_word i bytes total → adding.link ≡ old_head old → adding.ready ≡ (bytes == total && not (total == 0)) → IsAdding w i old adding
is_adding w i old adding bytes total b t word link ready = record {
  word = word ∙ (ap (λ (n : ℕ). group_word i n total) (sym b) ∙ ap (λ (n : ℕ). group_word i (new_bytes w i old) n) (sym t));
  link = link;
  ready = ready ∙ (ap (λ (n : ℕ). n == total && not (total == 0)) (sym b) ∙ ap (λ (n : ℕ). new_bytes w i old == n && not (n == 0)) (sym t));
}

module _ (facts : TasksHaveFacts) (rules : List Rule) (bytes : List ℕ) (tasks : List Task) (groups : List Group) (i : ℕ) (old : Option ℕ) (t : Task) (there : i < length tasks) (is : t ≡ get_or tasks i t) where
  has_facts : task (work_of rules bytes tasks groups) i ≡ facts_of t
  has_facts =
      let got : slice_get tasks i ≡ Some t = slice_get-get_or tasks i t there ∙ ap (λ (x : Task). Some x) (sym is) in
      (facts rules bytes tasks groups).2 i t got

  sum_is : new_bytes (work_of rules bytes tasks groups) i old ≡ t.length + old_bytes old
  sum_is = bytes_are (work_of rules bytes tasks groups) i old ∙ ap (λ (f : TaskFacts). f.size + old_bytes old) has_facts

  end_is : new_total (work_of rules bytes tasks groups) i old ≡ cond t.last (t.start + t.length) (old_end old)
  end_is = total_is (work_of rules bytes tasks groups) i old ∙ ap (λ (f : TaskFacts). cond f.last (f.start + f.size) (old_end old)) has_facts

  -- the end of a last fragment is below 2^16
  pub end_fits : new_total (work_of rules bytes tasks groups) i old < 2 ^ 16 → t.last ≡ true → t.start + t.length < 2 ^ 16
  end_fits fits last = subst (λ (n : ℕ). n < 2 ^ 16) (end_is ∙ ap (λ (b : Bool). cond b (t.start + t.length) (old_end old)) last) fits

  -- so is the sum of the bytes
  pub sum_fits : (before : ℕ) → before ≡ old_bytes old → new_bytes (work_of rules bytes tasks groups) i old < 2 ^ 16 → before + t.length < 2 ^ 16
  sum_fits before was fits = let e = sum_is in omega arith

  pub adds : (adding : Adding) (before sum end total : ℕ) → before ≡ old_bytes old → end ≡ old_end old → sum ≡ before + t.length → total ≡ cond t.last (t.start + t.length) end
      → adding.word ≡ group_word i sum total → adding.link ≡ old_head old → adding.ready ≡ (sum == total && not (total == 0)) → IsAdding (work_of rules bytes tasks groups) i old adding
  adds adding before sum end total was ended added totalled =
      let b : new_bytes (work_of rules bytes tasks groups) i old ≡ sum = (let e = sum_is in omega arith) in
      let e : new_total (work_of rules bytes tasks groups) i old ≡ total = end_is ∙ (ap (λ (n : ℕ). cond t.last (t.start + t.length) n) (sym ended) ∙ sym totalled) in
      is_adding (work_of rules bytes tasks groups) i old adding sum total b e
