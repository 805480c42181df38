-- Records that no worker commits.
use Rattle.std.proofs.Common.{◌≡◌, ℕ, zero, suc, ◌+◌, ◌-◌, ◌<◌, Bool, true, false, List, [], ◌∷◌, ◌++◌, ◌⊎◌, length, inl, inr, ⊎_elim, sym, refl, ap, ◌∙◌, subst, arith}
use Rattle.std.specs.Prelude.{Option, Some, None}
use Rattle.std.proofs.lemmas.List.{length-replicate}
use Rattle.serial_terms.specs.declared.call.Call.{Call}
use Rattle.serial_terms.specs.declared.call.Call.TheVariants.{MapGet, MapPut, MapRemove, Enqueue, Dequeue, QueueLen, Take, Give, AppendPlaced}
use Rattle.serial_terms.specs.declared.call.Reply.{Reply}
use Rattle.serial_terms.specs.declared.call.Reply.TheVariants.{Nothing, Absent, Value}
use Rattle.serial_terms.specs.declared.call.Done.{Done}
use Rattle.serial_terms.specs.Counts.{numbers_from}
use Rattle.serial_terms.specs.RunLayout.{layout_by}
use Rattle.serial_terms.specs.Serial.{outside, in_child}
use Rattle.run_stages.specs.Work.{Work, IsWhole, IsMember, given_count, task_item, group_item, head_of}
use Rattle.run_stages.specs.Allowed.{IsAllowed, take_whole, take_fragment, match_whole, match_group, nothing_queued, nothing_pooled, fill, Appends, added, walk, gives, next_batch}
use Rattle.run_stages.specs.Batches.{frames}
use Rattle.run_stages.specs.Worked.{one_frame, two_fragments, whole_task}
use Rattle.run_stages.specs.Wrong.{first_fill, WrongRecords, CountsAndLayouts}

-- the first call of a list, its reply, and whether it was made in a child
abbrev call_of : List Done → Option Call
call_of [] = None
call_of (d ∷ ds) = Some d.call

abbrev reply_of : List Done → Option Reply
reply_of [] = None
reply_of (d ∷ ds) = Some d.reply

abbrev inside : List Done → Bool
inside [] = false
inside (d ∷ ds) = d.child

abbrev behind : List Done → List Done
behind [] = []
behind (d ∷ ds) = ds

same_value : (a b : ℕ) → Some (Value a) ≡ Some (Value b) → a ≡ b
same_value a b e = let f : Value a ≡ Value b = cc in cc

-- the first call of a record is in no child
first_outside : (w : Work) (ds : List Done) → IsAllowed w ds → inside ds ≡ false
first_outside w ds (take_whole i a e) = ap inside e
first_outside w ds (take_fragment h i old m e) = ap inside e
first_outside w ds (match_whole i more a v e) = ap inside e
first_outside w ds (match_group h x before more l v e) = ap inside e
first_outside w ds (nothing_queued e) = ap inside e
first_outside w ds (nothing_pooled e) = ap inside e
first_outside w ds (fill f short e) = ap inside e

-- what stands behind a task that was taken
record OfTask (w : Work) (i : ℕ) (ds : List Done) : Type 0 where
  whole_or_not : (IsWhole w i × (ds ≡ in_child (Enqueue 0 (task_item i)) Nothing ∷ [])) ⊎ ((h : ℕ) × (old : Option ℕ) × IsMember w h i × (ds ≡ added w h i old))

took : (w : Work) (i : ℕ) (ds : List Done) → IsAllowed w (outside (Take 0) (Value i) ∷ ds) → OfTask w i ds
took w i ds (take_whole j a e) = let y : i ≡ j = same_value i j (ap reply_of e) in record { whole_or_not = inl (subst (IsWhole w) (sym y) a, ap behind e ∙ ap (λ (z : ℕ). in_child (Enqueue 0 (task_item z)) Nothing ∷ []) (sym y)) }
took w i ds (take_fragment h j old m e) = let y : i ≡ j = same_value i j (ap reply_of e) in record { whole_or_not = inr (h, old, subst (IsMember w h) (sym y) m, ap behind e ∙ ap (λ (z : ℕ). added w h z old) (sym y)) }
took w i ds (match_whole j more a v e) = let c : Some (Take 0) ≡ Some (Dequeue 0) = ap call_of e in absurd (cc)
took w i ds (match_group h x before more l v e) = let c : Some (Take 0) ≡ Some (Dequeue 0) = ap call_of e in absurd (cc)
took w i ds (nothing_queued e) = let c : Some (Take 0) ≡ Some (Dequeue 0) = ap call_of e in absurd (cc)
took w i ds (nothing_pooled e) = let c : Some (Value i) ≡ Some Absent = ap reply_of e in absurd (cc)
took w i ds (fill f short e) = let c : Some (Take 0) ≡ Some (QueueLen 0) = ap call_of e in absurd (cc)

-- what stands behind an item that was dequeued
record OfItem (w : Work) (x : ℕ) (ds : List Done) : Type 0 where
  task_or_group : ((i : ℕ) × (x ≡ task_item i) × Appends w (w.task_values i) ds)
      ⊎ ((h : ℕ) × (y : ℕ) × (before : List ℕ) × (more : List Done) × (x ≡ group_item h) × (ds ≡ outside (MapGet 0 h) (Value y) ∷ outside (MapRemove 0 h) Nothing ∷ (walk w (head_of y) before ++ more)))

dequeued : (w : Work) (x : ℕ) (ds : List Done) → IsAllowed w (outside (Dequeue 0) (Value x) ∷ ds) → OfItem w x ds
dequeued w x ds (match_whole i more a v e) = record { task_or_group = inl (i, same_value x (task_item i) (ap reply_of e), subst (Appends w (w.task_values i)) (sym (ap behind e)) v) }
dequeued w x ds (match_group h y before more l v e) = record { task_or_group = inr (h, y, before, more, same_value x (group_item h) (ap reply_of e), ap behind e) }
dequeued w x ds (take_whole j a e) = let c : Some (Dequeue 0) ≡ Some (Take 0) = ap call_of e in absurd (cc)
dequeued w x ds (take_fragment h j old m e) = let c : Some (Dequeue 0) ≡ Some (Take 0) = ap call_of e in absurd (cc)
dequeued w x ds (nothing_queued e) = let c : Some (Value x) ≡ Some Absent = ap reply_of e in absurd (cc)
dequeued w x ds (nothing_pooled e) = let c : Some (Dequeue 0) ≡ Some (Take 0) = ap call_of e in absurd (cc)
dequeued w x ds (fill f short e) = let c : Some (Dequeue 0) ≡ Some (QueueLen 0) = ap call_of e in absurd (cc)

-- what the fill after the opening gives
record OfFill (w : Work) (ds : List Done) : Type 0 where
  short : 4096 < length w.tasks
  given : ds ≡ gives w (numbers_from 4096 (given_count w 1 - 4096))

filled : (w : Work) (ds : List Done) → IsAllowed w (first_fill ds) → OfFill w ds
filled w ds (fill f short e) = let y : 0 ≡ f = same_value 0 f (ap (λ (z : List Done). reply_of (behind z)) e) in
    record { short = omega arith; given = ap (λ (z : List Done). behind (behind (behind z))) e ∙ ap (λ (z : ℕ). gives w (next_batch w z)) (sym y) }
filled w ds (take_whole j a e) = let c : Some (QueueLen 0) ≡ Some (Take 0) = ap call_of e in absurd (cc)
filled w ds (take_fragment h j old m e) = let c : Some (QueueLen 0) ≡ Some (Take 0) = ap call_of e in absurd (cc)
filled w ds (match_whole i more a v e) = let c : Some (QueueLen 0) ≡ Some (Dequeue 0) = ap call_of e in absurd (cc)
filled w ds (match_group h y before more l v e) = let c : Some (QueueLen 0) ≡ Some (Dequeue 0) = ap call_of e in absurd (cc)
filled w ds (nothing_queued e) = let c : Some (QueueLen 0) ≡ Some (Dequeue 0) = ap call_of e in absurd (cc)
filled w ds (nothing_pooled e) = let c : Some (QueueLen 0) ≡ Some (Take 0) = ap call_of e in absurd (cc)

-- the Gives of tasks in a row
gives_outside : (w : Work) (xs : List ℕ) → inside (gives w xs) ≡ false
gives_outside w [] = refl
gives_outside w (x ∷ xs) = refl

same_give : (x y : ℕ) → Some (Give 0 x) ≡ Some (Give 0 y) → x ≡ y
same_give x y e = let f : Give 0 x ≡ Give 0 y = cc in cc

first_given : (w : Work) (a k x : ℕ) → Some (Give 0 x) ≡ call_of (gives w (numbers_from a k)) → x ≡ a
first_given w a zero x e = let c : Some (Give 0 x) ≡ None = e in absurd (cc)
first_given w a (suc k) x e = same_give x a e

second_given : (w : Work) (a k x : ℕ) → Some (Give 0 x) ≡ call_of (behind (gives w (numbers_from a k))) → x ≡ a + 1
second_given w a zero x e = let c : Some (Give 0 x) ≡ None = e in absurd (cc)
second_given w a (suc k) x e = first_given w (a + 1) k x e

frames_are : (n : ℕ) → length (frames n).tasks ≡ n
unfolding frames
frames_are n = length-replicate n whole_task

-- ---- a fragment is added

some_none : (x : ℕ) → Some x ≡ None → ⊥
some_none x e = absurd (cc)

fragment_whole : (i : ℕ) → i < 2 → IsWhole two_fragments i → ⊥
fragment_whole zero l a = some_none 0 a.alone
fragment_whole (suc zero) l a = some_none 0 a.alone
fragment_whole (suc (suc i)) l a = absurd (omega arith)

abbrev early : List Done
early = in_child (MapGet 0 0) Absent ∷ in_child (MapPut 0 0 262156) Nothing ∷ in_child (Enqueue 0 1) Nothing ∷ []

abbrev untold : List Done
untold = in_child (MapGet 0 0) Absent ∷ in_child (MapPut 0 0 262144) Nothing ∷ []

abbrev unlinked : List Done
unlinked = in_child (MapGet 0 0) (Value 262156) ∷ in_child (MapPut 0 0 4295753740) Nothing ∷ in_child (Enqueue 0 1) Nothing ∷ []

no_early : (h : ℕ) (old : Option ℕ) → early ≡ added two_fragments h 0 old → ⊥
no_early h None e = let c : Some (Enqueue 0 1) ≡ None = ap (λ (z : List Done). call_of (behind (behind z))) e in absurd (cc)
no_early h (Some x) e = let c : Some Absent ≡ Some (Value x) = ap reply_of e in absurd (cc)

put_same : (h v : ℕ) → Some (MapPut 0 0 262144) ≡ Some (MapPut 0 h v) → 262144 ≡ v
put_same h v e = let f : MapPut 0 0 262144 ≡ MapPut 0 h v = cc in cc

no_untold : (h : ℕ) (old : Option ℕ) → untold ≡ added two_fragments h 0 old → ⊥
no_untold h None e = let c = put_same h 262156 (ap (λ (z : List Done). call_of (behind z)) e) in omega arith
no_untold h (Some x) e = let c : Some Absent ≡ Some (Value x) = ap reply_of e in absurd (cc)

no_unlinked : (h : ℕ) (old : Option ℕ) → unlinked ≡ added two_fragments h 1 old → ⊥
no_unlinked h None e = let c : Some (Value 262156) ≡ Some Absent = ap reply_of e in absurd (cc)
no_unlinked h (Some x) e = let c : Some (Enqueue 0 1) ≡ Some (MapPut 1 1 (head_of x)) = ap (λ (z : List Done). call_of (behind (behind z))) e in absurd (cc)

-- ---- a walk

abbrev left : List Done
left = outside (MapGet 1 1) (Value 0) ∷ outside (MapGet 1 0) Absent ∷ in_child (AppendPlaced 0 6) (Value 0) ∷ []

no_left : (i : ℕ) (before : List ℕ) (more : List Done) → left ≡ walk two_fragments i before ++ more → ⊥
no_left i [] more e = let c : Some (Value 0) ≡ Some Absent = ap reply_of e in absurd (cc)
no_left i (j ∷ js) more e = let c : Some (MapGet 1 0) ≡ Some (MapRemove 1 i) = ap (λ (z : List Done). call_of (behind z)) e in absurd (cc)

same_finding : (x y : ℕ) → AppendPlaced 0 x ≡ AppendPlaced 0 y → x ≡ y
same_finding x y e = cc

pub wrong_records : WrongRecords
wrong_records = record {
  item_outside = λ a. ⊎_elim (λ p. let c : false ≡ true = ap inside p.1 in absurd (cc)) (λ p. let c : false ≡ true = ap inside p.3 in absurd (cc)) (took one_frame 0 _ a).whole_or_not;
  finding_outside = λ a. ⊎_elim (λ p. let c : false ≡ true = p.2.1 in absurd (cc)) (λ p. let c = p.4 in omega arith) (dequeued one_frame 0 _ a).task_or_group;
  take_inside = λ a. let c : true ≡ false = first_outside one_frame _ a in absurd (cc);
  give_inside = λ a. let c : true ≡ false = ap inside (filled (frames 4097) _ a).given ∙ gives_outside (frames 4097) (numbers_from 4096 (given_count (frames 4097) 1 - 4096)) in absurd (cc);
  empty_fill = λ a. let l = (filled (frames 4096) [] a).short in let n = frames_are 4096 in omega arith;
  given_twice = λ a. let e = second_given (frames 4098) 4096 (given_count (frames 4098) 1 - 4096) 4096 (ap (λ (z : List Done). call_of (behind z)) (filled (frames 4098) _ a).given) in omega arith;
  begun_early = λ a. let e = first_given (frames 4097) 4096 (given_count (frames 4097) 1 - 4096) 4095 (ap call_of (filled (frames 4097) _ a).given) in omega arith;
  other_finding = λ a. ⊎_elim (λ p. let c = same_finding 9 8 p.2.0 in omega arith) (λ p. let c = p.4 in omega arith) (dequeued one_frame 0 _ a).task_or_group;
  no_finding = λ a. ⊎_elim (λ p. p.2) (λ p. let c = p.4 in omega arith) (dequeued one_frame 0 _ a).task_or_group;
  queued_early = λ a. ⊎_elim (λ p. fragment_whole 0 (omega arith) p.0) (λ p. no_early p.0 p.1 p.3) (took two_fragments 0 early a).whole_or_not;
  no_total = λ a. ⊎_elim (λ p. fragment_whole 0 (omega arith) p.0) (λ p. no_untold p.0 p.1 p.3) (took two_fragments 0 untold a).whole_or_not;
  no_link = λ a. ⊎_elim (λ p. fragment_whole 1 (omega arith) p.0) (λ p. no_unlinked p.0 p.1 p.3) (took two_fragments 1 unlinked a).whole_or_not;
  link_left = λ a. ⊎_elim (λ p. let c = p.1 in omega arith) (λ p. no_left (head_of p.1) p.2 p.3 (ap (λ (z : List Done). behind (behind z)) p.5)) (dequeued two_fragments 1 (outside (MapGet 0 0) (Value 4295753740) ∷ outside (MapRemove 0 0) Nothing ∷ left) a).task_or_group;
}

pub counts_and_layouts : CountsAndLayouts
unfolding frames layout_by
counts_and_layouts = record {
  frame_taken = refl;
  frame_dequeued = refl;
  fragments_taken = refl;
  group_dequeued = refl;
  nothing_filled = refl;
  filled_once = refl;
  of_none = refl;
  of_one = refl;
  of_two = refl;
}
