-- What keeps the mark of an open child.
use Rattle.std.proofs.Common.{◌≡◌, ℕ, ◌<◌, ◌≤◌, Bool, true, false, List, [], ◌∷◌, ◌++◌, length, take, is_some, Option, Some, None, All, refl, sym, ap, subst, ◌∙◌, arith, append-nil, length-append}
use Rattle.std.proofs.lemmas.List.{take-append-le, take_all}
use Rattle.std.specs.Map.{keys_of}
use Rattle.cell_table.specs.declared.view.Stage.{Stage}
use Rattle.cell_table.specs.declared.view.Stage.TheVariants.{Open, Drawn, Decided}
use Rattle.attempt_lists.specs.Cells.{Entries, word_at, laid_over}
use Rattle.attempt_lists.specs.Levels.{Levels, merged}
use Rattle.tx_core.specs.declared.child.Mark.{Mark}
use Rattle.tx_core.specs.declared.stop.Stop.{Stop}
use Rattle.tx_core.specs.declared.stop.Stop.TheVariants.{Held, Newer, Memory}
use Rattle.tx_core.specs.declared.stop.TxState.{TxState}
use Rattle.tx_core.specs.declared.stop.TxState.TheVariants.{Running, Child, ChildStopped, Stopped}
use Rattle.tx_core.specs.Calls.{stopped_from, spared_from}
use Rattle.tx_core.specs.Children.{held_of, is_child, marked, IsMarked, IsNested}

-- ---- states

pub child_stopped : (state : TxState) → is_child (stopped_from state) ≡ is_child state
child_stopped Running = refl
child_stopped Child = refl
child_stopped ChildStopped = refl
child_stopped Stopped = refl

pub child_spared : (state : TxState) (stop : Stop) → is_child (spared_from state stop) ≡ is_child state
child_spared state (Held cell owner) = refl
child_spared state (Newer cell found) = refl
child_spared state Memory = child_stopped state

-- ---- what the mark says

-- another cell was locked after the mark
pub marked_locks : (mark : Option Mark) (writes locked : Entries) (e : ℕ × ℕ) → ((m : Mark) → mark ≡ Some m → m.held ≤ length locked) → marked mark writes (locked ++ e ∷ []) ≡ marked mark writes locked
marked_locks None writes locked e low = refl
marked_locks (Some m) writes locked e low =
    ap (λ (held : Entries). Some (record { observations = m.observations; notes = m.notes; writes = writes; held = held_of held })) (take-append-le m.held locked (e ∷ []) (low m refl))

-- without a mark the lists don't count
pub marked_none : (mark : Option Mark) (v w hs ks : Entries) → mark ≡ None → marked mark v hs ≡ marked mark w ks
marked_none None v w hs ks none = refl
marked_none (Some m) v w hs ks none = cc

-- a write of the child leaves those of its parent
pub marked_writes : (mark : Option Mark) (v w hs : Entries) → (is_some mark ≡ true → w ≡ v) → marked mark w hs ≡ marked mark v hs
marked_writes None v w hs same = refl
marked_writes (Some m) v w hs same = ap (λ (x : Entries). marked (Some m) x hs) (same refl)

none_of : (mark : Option Mark) → is_some mark ≡ false → mark ≡ None
none_of None is = refl
none_of (Some m) is = cc

pub none_of_some : (word : Option ℕ) → is_some word ≡ false → word ≡ None
none_of_some None is = refl
none_of_some (Some x) is = cc

-- ---- lists that grew

module _ {A : Type 0} where
  abbrev pub More : List A → List A → Type 0
  More xs ys = (zs : List A) × (ys ≡ xs ++ zs)

  pub more_none : (xs : List A) → More xs xs
  more_none xs = ([], sym (append-nil xs))

  pub more_same : (xs ys : List A) → ys ≡ xs → More xs ys
  more_same xs ys same = ([], same ∙ sym (append-nil xs))

  pub more_one : (xs ys : List A) (x : A) → ys ≡ xs ++ x ∷ [] → More xs ys
  more_one xs ys x is = (x ∷ [], is)

  more_long : (xs ys : List A) → More xs ys → length xs ≤ length ys
  more_long xs ys more = omega (arith, ap length more.1, length-append xs more.0)

  more_take : (n : ℕ) (xs ys : List A) → More xs ys → n ≤ length xs → take n ys ≡ take n xs
  more_take n xs ys more le = ap (take n) more.1 ∙ take-append-le n xs more.0 le

module _ {D : Type 0} (cells : ℕ) where
  marked_grows : (m : Mark) (os more writes hs late : Entries) (ns noted : List D) → More os more → More hs late → More ns noted → IsMarked cells m os writes hs ns → IsMarked cells m more writes late noted
  marked_grows m os more writes hs late ns noted o h n a = record {
    observations = omega (arith, a.observations, more_long os more o);
    notes = omega (arith, a.notes, more_long ns noted n);
    held = omega (arith, a.held, more_long hs late h);
    written = a.written;
    met = λ c r w. rw (more_take m.held hs late h a.held) (a.met c (rw (more_take m.observations os more o a.observations) at r) w);
  }

  -- the lists grew, and what the child writes may have changed
  pub nested_grows : (state now : TxState) (mark : Option Mark) (committing : Bool) (os more : Entries) (writes wrote : Levels) (hs late : Entries) (ns noted : List D)
      → is_child now ≡ is_child state → More os more → More hs late → More ns noted → (is_some mark ≡ true → wrote.parent ≡ writes.parent) → (mark ≡ None → wrote.child ≡ [])
      → IsNested cells state mark committing os writes hs ns → IsNested cells now mark committing more wrote late noted
  nested_grows state now mark committing os more writes wrote hs late ns noted same o h n parent child a = record {
    opened = a.opened ∙ sym same;
    before_commit = a.before_commit;
    alone = child;
    marked = λ m is. rw (parent (ap is_some is)) (marked_grows m os more writes.parent hs late ns noted o h n (a.marked m is));
  }

  -- the attempt stands otherwise, with its child open as before
  pub nested_states : (state now : TxState) (mark : Option Mark) (committing : Bool) (os : Entries) (writes : Levels) (hs : Entries) (ns : List D) → is_child now ≡ is_child state → IsNested cells state mark committing os writes hs ns → IsNested cells now mark committing os writes hs ns
  nested_states state now mark committing os writes hs ns same a = record { opened = a.opened ∙ sym same; before_commit = a.before_commit; alone = a.alone; marked = a.marked }

  -- no child is open
  pub nested_alone : (state : TxState) (mark : Option Mark) (committing : Bool) (os : Entries) (writes : Levels) (hs : Entries) (ns : List D) → mark ≡ None → is_child state ≡ false → writes.child ≡ [] → IsNested cells state mark committing os writes hs ns
  nested_alone state mark committing os writes hs ns none free child = record {
    opened = ap is_some none ∙ sym free;
    before_commit = λ late. none;
    alone = λ e. child;
    marked = λ m is. absurd (both (sym none ∙ is));
  }
    where
      both : {m : Mark} → None ≡ Some m → ⊥
      both e = cc

  -- what the attempt has now is marked
  pub marked_now : (m : Mark) (os writes hs : Entries) (ns : List D) → m.observations ≡ length os → m.notes ≡ length ns → m.held ≡ length hs → All (λ c. c < cells) (keys_of writes) → ((c : ℕ) → word_at os c ≡ None → word_at writes c ≡ None → word_at hs c ≡ None) → IsMarked cells m os writes hs ns
  marked_now m os writes hs ns o n h written met = record {
    observations = omega (arith, o);
    notes = omega (arith, n);
    held = omega (arith, h);
    written = written;
    met = λ c r w. rw (take_all m.held hs (omega (arith, h))) (met c (rw (take_all m.observations os (omega (arith, o))) at r) w);
  }

  pub nested_marks : (m : Mark) (committing : Bool) (os : Entries) (writes : Levels) (hs : Entries) (ns : List D) → committing ≡ false → IsMarked cells m os writes.parent hs ns → IsNested cells Child (Some m) committing os writes hs ns
  nested_marks m committing os writes hs ns before a = record {
    opened = refl;
    before_commit = λ late. true_false (sym late ∙ before);
    alone = λ none. some_none none;
    marked = λ k is. subst (λ (x : Mark). IsMarked cells x os writes.parent hs ns) (some_same is) a;
  }
    where
      true_false : {P : Type 0} → true ≡ false → P
      true_false e = cc

      some_none : {P : Type 0} {k : Mark} → Some k ≡ None → P
      some_none e = cc

      some_same : {k l : Mark} → Some k ≡ Some l → k ≡ l
      some_same e = cc

  -- and then there is no mark
  pub unmarked : (state : TxState) (mark : Option Mark) (committing : Bool) (os : Entries) (writes : Levels) (hs : Entries) (ns : List D) → is_child state ≡ false → IsNested cells state mark committing os writes hs ns → mark ≡ None
  unmarked state mark committing os writes hs ns free a = none_of mark (a.opened ∙ free)

  -- whatever changes then
  pub nested_free : (state now : TxState) (mark : Option Mark) (committing late : Bool) (os more : Entries) (writes wrote : Levels) (hs locked : Entries) (ns noted : List D) → is_child now ≡ is_child state → mark ≡ None → (writes.child ≡ [] → wrote.child ≡ []) → IsNested cells state mark committing os writes hs ns → IsNested cells now mark late more wrote locked noted
  nested_free state now mark committing late os more writes wrote hs locked ns noted same none child a = nested_alone now mark late more wrote locked noted none (same ∙ sym a.opened ∙ ap is_some none) (child (a.alone none))

pub alone_merged : (levels : Levels) → levels.child ≡ [] → merged levels ≡ levels.parent
alone_merged levels none = ap (λ (es : Entries). laid_over levels.parent es) none

not_both : {E : Type 0} (stage : Stage E) (d : ℕ) → stage ≡ Open → stage ≡ Drawn d → ⊥
not_both Open d e f = cc
not_both (Drawn u) d e f = cc
not_both (Decided u r stored) d e f = cc

-- where a version is drawn, no child is open
pub drawn_alone : {D E : Type 0} (cells : ℕ) (state : TxState) (mark : Option Mark) (committing : Bool) (os : Entries) (writes : Levels) (hs : Entries) (ns : List D) (stage : Stage E) (d : ℕ) → IsNested cells state mark committing os writes hs ns → (committing ≡ false → stage ≡ Open) → stage ≡ Drawn d → merged writes ≡ writes.parent
drawn_alone cells state mark true os writes hs ns stage d a open_before drawn = alone_merged writes (a.alone (a.before_commit refl))
drawn_alone cells state mark false os writes hs ns stage d a open_before drawn = absurd (not_both stage d (open_before refl) drawn)

-- a write of an open child, or of an attempt without one
pub nested_puts : {D : Type 0} (cells : ℕ) (state : TxState) (mark : Option Mark) (committing : Bool) (os : Entries) (writes wrote : Levels) (hs : Entries) (ns : List D) (b : Bool) → b ≡ is_some mark → (b ≡ true → wrote.parent ≡ writes.parent) → (b ≡ false → wrote.child ≡ []) → IsNested cells state mark committing os writes hs ns → IsNested cells state mark committing os wrote hs ns
nested_puts cells state mark committing os writes wrote hs ns b is parent child a =
    nested_grows cells state state mark committing os os writes wrote hs hs ns ns refl (more_none os) (more_none hs) (more_none ns) (λ some. parent (is ∙ some)) (λ none. child (is ∙ ap is_some none)) a
