use Rattle.std.proofs.Common.{◌≡◌, ℕ, ◌+◌, Bool, true, false, List, [], ◌∷◌, ◌++◌, refl, sym, ap, ◌∙◌, arith}
use Rattle.std.specs.Prelude.{Option, None, Some, ◌==◌, ◌&&◌, not, if◌then◌else◌}
use Rattle.serial_terms.specs.declared.call.Call.TheVariants.{MapGet, MapPut, Enqueue}
use Rattle.serial_terms.specs.declared.call.Done.{Done}
use Rattle.serial_terms.specs.declared.call.Reply.TheVariants.{Nothing}
use Rattle.serial_terms.specs.Serial.{in_child, found}
use Rattle.run_purpose.specs.declared.word.Adding.{Adding}
use Rattle.run_purpose.specs.Heads.{old_head}
use Rattle.run_purpose.specs.Words.{IsAdding}
use Rattle.run_stages.specs.Allowed.{added, linked, ready, new_bytes, new_total}
use Rattle.run_stages.specs.Ends.{tasks_taken}
use Rattle.run_stages.specs.Work.{Work, group_item}
use Rattle.run_bodies.specs.Records.{link_of, ready_of}

-- ---- the calls that add a fragment

linked_is : (w : Work) (i : ℕ) (old : Option ℕ) → linked w i old ≡ link_of i (old_head old)
linked_is w i None = refl
linked_is w i (Some x) = refl

ready_by : (h : ℕ) (c d : Bool) → (if c then (if d then [] else in_child (Enqueue 0 (group_item h)) Nothing ∷ []) else []) ≡ ready_of h (c && not d)
ready_by h true true = refl
ready_by h true false = refl
ready_by h false d = refl

pub added_is : (w : Work) (h i : ℕ) (old : Option ℕ) (adding : Adding) → IsAdding w i old adding
    → added w h i old ≡ in_child (MapGet 0 h) (found old) ∷ in_child (MapPut 0 h adding.word) Nothing ∷ (link_of i adding.link ++ ready_of h adding.ready)
added_is w h i old adding is =
    let links : linked w i old ≡ link_of i adding.link = linked_is w i old ∙ ap (link_of i) (sym is.link) in
    let readies : ready w h (new_bytes w i old) (new_total w i old) ≡ ready_of h adding.ready =
    ready_by h (new_bytes w i old == new_total w i old) (new_total w i old == 0) ∙ ap (ready_of h) (sym is.ready) in
    ap (λ (x : ℕ). in_child (MapGet 0 h) (found old) ∷ in_child (MapPut 0 h x) Nothing ∷ (linked w i old ++ ready w h (new_bytes w i old) (new_total w i old))) (sym is.word)
    ∙ (ap (λ (l : List Done). in_child (MapGet 0 h) (found old) ∷ in_child (MapPut 0 h adding.word) Nothing ∷ (l ++ ready w h (new_bytes w i old) (new_total w i old))) links
    ∙ ap (λ (r : List Done). in_child (MapGet 0 h) (found old) ∷ in_child (MapPut 0 h adding.word) Nothing ∷ (link_of i adding.link ++ r)) readies)

-- none of them takes a task

ready_takes : (h : ℕ) (c d : Bool) → tasks_taken (if c then (if d then [] else in_child (Enqueue 0 (group_item h)) Nothing ∷ []) else []) ≡ 0
ready_takes h true true = refl
ready_takes h true false = refl
ready_takes h false d = refl

pub added_takes : (w : Work) (h i : ℕ) (old : Option ℕ) → tasks_taken (added w h i old) ≡ 0
added_takes w h i None =
    let bytes = new_bytes w i None in
    let total = new_total w i None in
    let none = ready_takes h (bytes == total) (total == 0) in
    let e : 0 + (0 + tasks_taken (ready w h bytes total)) ≡ 0 = omega (arith, none) in e
added_takes w h i (Some x) =
    let bytes = new_bytes w i (Some x) in
    let total = new_total w i (Some x) in
    let none = ready_takes h (bytes == total) (total == 0) in
    let e : 0 + (0 + (0 + tasks_taken (ready w h bytes total))) ≡ 0 = omega (arith, none) in e
