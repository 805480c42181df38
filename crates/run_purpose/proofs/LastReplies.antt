-- What the last reply of a structure says of the end of a history.
use Rattle.std.proofs.Common.{◌≡◌, ℕ, ◌≤◌, ◌⊎◌, inl, inr, Bool, true, false, List, [], ◌∷◌, refl, sym, ap, ◌∙◌, subst, arith}
use Rattle.std.specs.Prelude.{IsTrue, IsFalse}
use Rattle.serial_terms.specs.declared.call.Done.{Done}
use Rattle.serial_terms.specs.declared.call.Reply.TheVariants.{Absent, Value}
use Rattle.serial_terms.specs.Entries.{Entry, Each, IsIn, IsInOrder, Precedes, OneWriterAPlace}
use Rattle.serial_terms.specs.Histories.{IsLegalHistory, IsLegalRun, Runs}
use Rattle.serial_terms.specs.Serial.{State, first}
use Rattle.serial_terms.specs.Worked.{no_item, no_task}
use Rattle.run_purpose.specs.Finished.{FoundNothing, IsLastReply}

-- a record that changes nothing: it is no writer's, or it found nothing
abbrev LeavesAlone : Entry Done → Type 0
LeavesAlone x = IsFalse x.writer ⊎ FoundNothing x.dones

-- calls that found nothing leave the state
nothing_changed : (s u : State) (dones : List Done) → FoundNothing dones → Runs s dones u → u ≡ s
nothing_changed s u dones (inl e) r = let q : Runs s (no_item ∷ []) u = subst (λ (z : List Done). Runs s z u) e r in sym q.1
nothing_changed s u dones (inr e) r = let q : Runs s (no_task ∷ []) u = subst (λ (z : List Done). Runs s z u) e r in sym q.1

same_end : (s t : State) (records : List (Entry Done)) → Each LeavesAlone records → IsLegalRun s records t → s ≡ t
same_end s t [] a r = r
same_end s t (x ∷ xs) a r = sym (left a.0) ∙ same_end r.0 t xs a.1 r.4
  where
    left : LeavesAlone x → r.0 ≡ s
    left (inl reads) = r.3 reads
    left (inr found) = nothing_changed s r.0 x.dones found r.1

module _ (e : Entry Done) where
  abbrev IsBefore : Entry Done → Type 0
  IsBefore x = IsTrue x.writer → (x.place ≤ e.place) ⊎ FoundNothing x.dones

  -- what stands behind it and isn't placed above it is no writer's
  no_writer : (x : Entry Done) → Precedes e x → (IsTrue e.writer → IsTrue x.writer → e.place ≡ x.place → ⊥) → IsTrue x.writer → x.place ≤ e.place → ⊥
  no_writer x (inl above) apart wrote low = omega (arith, above, low)
  no_writer x (inr (p, inl w)) apart wrote low = both x.writer w.1 wrote
    where
      both : (b : Bool) → IsFalse b → IsTrue b → ⊥
      both true f t = let c : true ≡ false = f in absurd (cc)
      both false f t = let c : false ≡ true = t in absurd (cc)
  no_writer x (inr (p, inr w)) apart wrote low = apart (subst IsTrue (sym w.0) wrote) wrote p

  behind : (records : List (Entry Done)) → Each (Precedes e) records → Each (λ x. IsTrue e.writer → IsTrue x.writer → e.place ≡ x.place → ⊥) records → Each IsBefore records → Each LeavesAlone records
  behind [] order apart last = tt
  behind (x ∷ xs) order apart last = (by x.writer (λ w. w) (λ f. f), behind xs order.1 apart.1 last.1)
    where
      split : IsTrue x.writer → (x.place ≤ e.place) ⊎ FoundNothing x.dones → LeavesAlone x
      split wrote (inl low) = absurd (no_writer x order.0 apart.0 wrote low)
      split wrote (inr found) = inr found

      by : (b : Bool) → (IsTrue b → IsTrue x.writer) → (IsFalse b → IsFalse x.writer) → LeavesAlone x
      by true t f = split (t refl) (last.0 (t refl))
      by false t f = inl (f refl)

  module _ (reply : Done) (P : State → Type 0) (says : (s u : State) → Runs s (reply ∷ []) u → P u) where
    -- what the reply says of the state holds at the end
    holds : (s t : State) (records : List (Entry Done)) → IsInOrder records → OneWriterAPlace records → Each IsBefore records → IsIn e records → e.dones ≡ reply ∷ [] → IsLegalRun s records t → P t
    holds s t [] order apart last there alone r = absurd there
    holds s t (x ∷ xs) order apart last (inr there) alone r = holds r.0 t xs order.1 apart.1 last.1 there alone r.4
    holds s t (x ∷ xs) order apart last (inl same) alone r =
        let run : Runs s (reply ∷ []) r.0 = subst (λ (z : List Done). Runs s z r.0) (ap (λ (y : Entry Done). y.dones) same ∙ alone) r.1 in
        let ordered = subst (λ (y : Entry Done). Each (Precedes y) xs) same order.0 in
        let separate = subst (λ (y : Entry Done). Each (λ z. IsTrue y.writer → IsTrue z.writer → y.place ≡ z.place → ⊥) xs) same apart.0 in
        subst P (same_end r.0 t xs (behind xs ordered separate last.1) r.4) (says s r.0 run)

none_first : (xs : List ℕ) → Absent ≡ first xs → xs ≡ []
none_first [] e = refl
none_first (x ∷ xs) e = let c : Absent ≡ Value x = e in absurd (cc)

queue_says : (s u : State) → Runs s (no_item ∷ []) u → (u.queues 0).items ≡ []
queue_says s u r = ap (λ (t : State). (t.queues 0).items) (sym r.1) ∙ none_first (s.queues 0).items r.0

pool_says : (s u : State) → Runs s (no_task ∷ []) u → (u.pools 0).held ≡ 0
pool_says s u r = ap (λ (t : State). (t.pools 0).held) (sym r.1) ∙ r.0

module _ {start : State} (history : List (Entry Done)) (end : State) (legal : IsLegalHistory start history end) (e : Entry Done) where
  pub ends_empty : IsLastReply history no_item e → (end.queues 0).items ≡ []
  ends_empty is = holds e no_item (λ s. (s.queues 0).items ≡ []) queue_says start end history legal.order legal.apart is.last is.there is.alone legal.run

  pub ends_pooled : IsLastReply history no_task e → (end.pools 0).held ≡ 0
  ends_pooled is = holds e no_task (λ s. (s.pools 0).held ≡ 0) pool_says start end history legal.order legal.apart is.last is.there is.alone legal.run
