-- What replies tell, from the laws of lawful states.
use Rattle.std.proofs.Common.{◌≡◌, ℕ, ◌^◌, ◌<◌, ◌≤◌, [], ◌∷◌, ◌⊎◌, inl, inr, length, Option, Some, None, refl, sym, ap, ◌∙◌, subst, arith}
use Rattle.std.proofs.lemmas.Bool.Decides.{nat_tests}
use Rattle.serial_terms.specs.declared.call.Call.TheVariants.{MapGet, Dequeue, Take}
use Rattle.serial_terms.specs.declared.call.Reply.TheVariants.{Value}
use Rattle.serial_terms.specs.Histories.{Runs}
use Rattle.serial_terms.specs.Serial.{State, found, outside, in_child}
use Rattle.run_stages.specs.Allowed.{new_bytes, new_total}
use Rattle.run_stages.specs.Told.{TakenIsTask, AddedWordFits, QueuedIsDatagram}
use Rattle.run_stages.specs.Work.{Work, IsWhole, IsMember, IsComplete, given_count, task_item, group_item, head_of}
use Rattle.run_purpose.specs.Lawful.{IsLawfulRun}
use Rattle.run_purpose.specs.Words.{FitsWord}
use Rattle.run_purpose.specs.Told.{IsDatagramItem, RepliesTell}

value_once : (x y : ℕ) → Value x ≡ Value y → x ≡ y
value_once x y e = cc

found_once : (a b : Option ℕ) → found a ≡ found b → a ≡ b
found_once None None e = refl
found_once None (Some y) e = absurd (cc)
found_once (Some x) None e = absurd (cc)
found_once (Some x) (Some y) e = ap (λ (z : ℕ). Some z) (value_once x y e)

given_within : (w : Work) (f : ℕ) → given_count w f ≤ length w.tasks
given_within w f = grind (arith, nat_tests)

module _ (w : Work) (takes : TakenIsTask) (adds : AddedWordFits) (queues : QueuedIsDatagram) where
  has_taken : (s t : State) (i : ℕ) → IsLawfulRun w s → Runs s (outside (Take 0) (Value i) ∷ []) t → i < length w.tasks
  has_taken s t i l r = let given = (takes w s l.lawful i r.0).0 in let most = given_within w (s.cells 0) in omega arith

  has_added : (s t : State) (h i : ℕ) (old : Option ℕ) → IsLawfulRun w s → IsMember w h i
      → Runs s (outside (Take 0) (Value i) ∷ in_child (MapGet 0 h) (found old) ∷ []) t
      → FitsWord w i old × ((x : ℕ) → old ≡ Some x → IsMember w h (head_of x))
  has_added s t h i old l member r =
      let same : old ≡ s.maps 0 h = found_once old (s.maps 0 h) r.1.0 in
      let fits = adds w l.sound s l.lawful h i member r.0 in (
        record {
          bytes = subst (λ (o : Option ℕ). new_bytes w i o < 2 ^ 16) (sym same) fits.0;
          total = subst (λ (o : Option ℕ). new_total w i o < 2 ^ 16) (sym same) fits.1;
        },
        λ x e. fits.2 x (sym same ∙ e),
      )

  has_dequeued : (s t : State) (x : ℕ) → IsLawfulRun w s → Runs s (outside (Dequeue 0) (Value x) ∷ []) t → IsDatagramItem w x
  has_dequeued s t x l r = split (queues w s l.lawful x r.0)
    where
      split : ((i : ℕ) × (x ≡ task_item i) × IsWhole w i) ⊎ ((h : ℕ) × (x ≡ group_item h) × IsComplete w h × ((y : ℕ) × (s.maps 0 h ≡ Some y))) → IsDatagramItem w x
      split (inl a) = inl a
      split (inr b) = inr (b.0, b.1, b.2)

  has_word : (s t : State) (h : ℕ) (old : Option ℕ) → IsLawfulRun w s
      → Runs s (outside (Dequeue 0) (Value (group_item h)) ∷ outside (MapGet 0 h) (found old) ∷ []) t → (x : ℕ) × (old ≡ Some x)
  has_word s t h old l r = split (queues w s l.lawful (group_item h) r.0)
    where
      same : old ≡ s.maps 0 h
      same = found_once old (s.maps 0 h) r.1.0

      split : ((i : ℕ) × (group_item h ≡ task_item i) × IsWhole w i) ⊎ ((g : ℕ) × (group_item h ≡ group_item g) × IsComplete w g × ((y : ℕ) × (s.maps 0 g ≡ Some y))) → (x : ℕ) × (old ≡ Some x)
      split (inl a) = absurd (let e = a.1 in omega arith)
      split (inr b) =
          let g : h ≡ b.0 = (let e = b.1 in omega arith) in
          (b.3.0, same ∙ (ap (s.maps 0) g ∙ b.3.1))

pub replies_tell : TakenIsTask → AddedWordFits → QueuedIsDatagram → (w : Work) → RepliesTell w
replies_tell takes adds queues w = record {
  taken = has_taken w takes adds queues;
  added = has_added w takes adds queues;
  dequeued = has_dequeued w takes adds queues;
  worded = has_word w takes adds queues;
}
