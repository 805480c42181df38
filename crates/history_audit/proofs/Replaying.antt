-- Records run again up to a place.
use Rattle.std.proofs.Common.{◌≡◌, ℕ, zero, suc, ◌+◌, ◌<◌, ◌≤◌, inl, inr, Bool, true, false, List, [], ◌∷◌, ◌++◌, length, take, drop, get_or, refl, sym, ap, ◌∙◌, subst, arith, add-one, Option, Some, None}
use Rattle.std.specs.Prelude.{nat_le}
use Rattle.std.proofs.lemmas.Bool.{cond-true, cond-false, false_from_ne_true, leb-true, le-leb}
use Rattle.std.proofs.lemmas.List.{take-append-drop}
use Rattle.serial_terms.specs.declared.call.Done.{Done}
use Rattle.serial_terms.specs.declared.committed.Record.{Record}
use Rattle.serial_terms.specs.Entries.{Entry, Each, IsInOrder, Precedes, by_caller, up_to}
use Rattle.serial_terms.specs.Facts.{each_append}
use Rattle.serial_terms.specs.Histories.{IsLegalRun, Runs, entry_of}
use Rattle.serial_terms.specs.Laws.{RecordsRunInParts, RecordsLeaveOneState, RunsToOneState}
use Rattle.serial_terms.specs.Serial.{State}
use Rattle.serial_terms.specs.Stores.{opening_of}
use Rattle.journal_terms.specs.Legal.{IsRecordIn}
use Rattle.history_audit.specs.declared.lines.Sizes.{Sizes}
use Rattle.history_audit.specs.declared.replay.Replay.{Replay}
use Rattle.history_audit.specs.Begun.{records_in}
use Rattle.history_audit.specs.Counts.{count_of}
use Rattle.history_audit.specs.Ledgers.{layout_of}
use Rattle.history_audit.specs.Replays.{IsReplayOf, AreReplayed, HasNextRun, waiting}
use Rattle.history_audit.specs.Structures.{state_of, HasRun}
use Rattle.history_audit.proofs.Beginning.{StandsAt, stands_at, none_left}
use Rattle.history_audit.proofs.Growth.{counts_more}
use Rattle.std.proofs.Common.{eqb, cond, ◌↔◌, max}
use Rattle.std.proofs.lemmas.Bool.{eqb-true}
use Rattle.std.proofs.lemmas.List.{length-take}
use Rattle.serial_terms.specs.Laws.{PoolsAreCounts}
use Rattle.serial_terms.specs.RunLayout.{layout_by}
use Rattle.serial_terms.specs.Sights.{Seen}
use Rattle.serial_terms.specs.declared.sight.SightEnd.{SightEnd}
use Rattle.serial_terms.specs.declared.sight.SightEnd.TheVariants.{Aborted, Refused, Full, Child}
use Rattle.journal_terms.specs.Legal.{IsEndIn}
use Rattle.journal_terms.specs.Naming.{latest, most_after}
use Rattle.history_audit.specs.Structures.{IsListed, IsOfTwoParts}
use Rattle.history_audit.proofs.Growth.{opening_listed}
use Rattle.history_audit.proofs.Judging.{caller_most}
use Rattle.history_audit.proofs.Running.{drop_next, listed_run}
use Rattle.history_audit.proofs.Sized.{first_calls}

pub only_run : RunsToOneState → (s t : State) (ds : List Done) (b : Bool) → HasRun b s ds t → (u : State) → Runs s ds u → u ≡ t
only_run one s t ds true h u r = one ds s u t r h
only_run one s t ds false h u r = absurd (h u r)

take_next : (xs : List (Entry Done)) (n : ℕ) (d : Entry Done) → n < length xs → take (suc n) xs ≡ take n xs ++ get_or xs n d ∷ []
take_next [] n d l = absurd (omega arith)
take_next (x ∷ xs) zero d l = refl
take_next (x ∷ xs) (suc n) d l = ap (λ (z : List (Entry Done)). x ∷ z) (take_next xs n d (omega arith))

pub each_at : (P : Entry Done → Type 0) (xs : List (Entry Done)) (n : ℕ) (d : Entry Done) → n < length xs → Each P xs → P (get_or xs n d)
each_at P [] n d l h = absurd (omega arith)
each_at P (x ∷ xs) zero d l h = h.0
each_at P (x ∷ xs) (suc n) d l h = each_at P xs n d (omega arith) h.1

none_later : (p : ℕ) (e : Entry Done) (es : List (Entry Done)) → p < e.place → Each (Precedes e) es → up_to p es ≡ []
none_later p e [] l o = refl
none_later p e (x ∷ xs) l o = cond-false (nat_le x.place p) _ _ (false_from_ne_true _ (λ t. let low : x.place ≤ p = leb-true x.place p t in not_low (o.0) low)) ∙ none_later p e xs l o.1
  where
    not_low : Precedes e x → x.place ≤ p → ⊥
    not_low (inl h) low = omega arith
    not_low (inr h) low = let same = h.0 in omega arith

pub up_to_taken : (p n : ℕ) (es : List (Entry Done)) (d : Entry Done) → IsInOrder es → Each (λ e. e.place ≤ p) (take n es) → (n < length es → p < (get_or es n d).place) → up_to p es ≡ take n es
up_to_taken p zero [] d o low high = refl
up_to_taken p (suc n) [] d o low high = refl
up_to_taken p zero (e ∷ es) d o low high = let above : p < e.place = high (omega arith) in
    cond-false (nat_le e.place p) _ _ (false_from_ne_true _ (λ t. let l : e.place ≤ p = leb-true e.place p t in omega arith)) ∙ none_later p e es above o.0
up_to_taken p (suc n) (e ∷ es) d o low high =
    cond-true (nat_le e.place p) _ _ (le-leb e.place p low.0) ∙ ap (λ (z : List (Entry Done)). e ∷ z) (up_to_taken p n es d o.1 low.1 (λ l. high (omega arith)))

next_runs : RecordsRunInParts → RecordsLeaveOneState → (start s t end : State) (es : List (Entry Done)) (n : ℕ) (d : Entry Done) → n < length es → IsLegalRun start es end → IsLegalRun start (take n es) s
    → ((u : State) → Runs s (get_or es n d).dones u → u ≡ t) → IsLegalRun start (take (suc n) es) t
next_runs parts one start s t end es n d l whole here only =
    let cut : es ≡ take n es ++ get_or es n d ∷ drop (n + 1) es = sym (take-append-drop n es) ∙ ap (λ (z : List (Entry Done)). take n es ++ z) (drop_next es n d l) in
    let p = (parts (take n es) (get_or es n d ∷ drop (n + 1) es) start end).0 (subst (λ (z : List (Entry Done)). IsLegalRun start z end) cut whole) in
    let b : IsLegalRun s (get_or es n d ∷ drop (n + 1) es) end = subst (λ (z : State). IsLegalRun z (get_or es n d ∷ drop (n + 1) es) end) (one (take n es) start p.0 s p.1 here) p.2 in
    let single : IsLegalRun s (get_or es n d ∷ []) t = (b.0, b.1, b.2, b.3, only b.0 b.1) in
    subst (λ (z : List (Entry Done)). IsLegalRun start z t) (sym (take_next es n d l)) ((parts (take n es) (get_or es n d ∷ []) start t).1 (s, here, single))

-- ---- the record that waits

pub next_stands : (r : Replay) (es : List (Entry Done)) (x : Record) → IsReplayOf r es → r.next ≡ Some x → StandsAt es r.done (entry_of x) (records_in r.left.now)
next_stands r es x h some = stands_at es r.done (entry_of x) (records_in r.left.now) (h.others ∙ ap (λ (o : Option Record). waiting o (records_in r.left.now)) some)

pub next_within : (r : Replay) (z : Sizes) (es : List (Entry Done)) (x : Record) → IsReplayOf r es → AreReplayed z es → r.next ≡ Some x → IsRecordIn (layout_of z) (entry_of x)
next_within r z es x h w some = let st = next_stands r es x h some in subst (IsRecordIn (layout_of z)) st.here (each_at (IsRecordIn (layout_of z)) es r.done (entry_of x) st.within w.within)

pub next_later : (r : Replay) (z : Sizes) (p : ℕ) (es : List (Entry Done)) (x : Record) → IsReplayOf r es → AreReplayed z es → r.place ≡ p → r.next ≡ Some x → p < x.place → up_to p es ≡ take r.done es
next_later r z p es x h w at some later = let st = next_stands r es x h some in
    up_to_taken p r.done es (entry_of x) w.order (subst (λ (q : ℕ). Each (λ e. e.place ≤ q) (take r.done es)) at h.low) (λ l. subst (λ (e : Entry Done). p < e.place) (sym st.here) later)

pub all_run : (r : Replay) (z : Sizes) (p : ℕ) (es : List (Entry Done)) → IsReplayOf r es → AreReplayed z es → r.place ≡ p → r.next ≡ None → up_to p es ≡ take r.done es
all_run r z p es h w at gone = let few = none_left es r.done (h.others ∙ ap (λ (o : Option Record). waiting o (records_in r.left.now)) gone) in
    up_to_taken p r.done es (record { caller = 0; index = 0; place = 0; writer = false; dones = [] }) w.order (subst (λ (q : ℕ). Each (λ e. e.place ≤ q) (take r.done es)) at h.low) (λ l. absurd (omega (arith, few, l)))

-- what is so once one record more was run
pub record HasRunTo (r : Replay) (es : List (Entry Done)) : Type 0 where
  pub done : r.done ≤ length es
  pub run : IsLegalRun (opening_of (layout_of r.sizes)) (take r.done es) (state_of r.structures)
  pub counts : (k : ℕ) → k < 16 → count_of r.counts k ≡ length (by_caller k (take r.done es))
  pub low : Each (λ e. e.place ≤ r.place) (take r.done es)

pub next_replayed : RecordsRunInParts → RecordsLeaveOneState → (old new : Replay) (es : List (Entry Done)) (e d : Entry Done) → get_or es old.done d ≡ e → old.done < length es
    → IsReplayOf old es → AreReplayed old.sizes es → HasNextRun old e new → e.place ≤ old.place → e.caller < 16 → HasRunTo new es
next_replayed parts one old new es e d at l r w h low small =
    let count : new.done ≡ suc old.done = h.done ∙ add-one old.done in
    let more : take new.done es ≡ take old.done es ++ e ∷ [] = ap (λ (n : ℕ). take n es) count ∙ (take_next es old.done d l ∙ ap (λ (z : Entry Done). take old.done es ++ z ∷ []) at) in
    let only : (u : State) → Runs (state_of old.structures) (get_or es old.done d).dones u → u ≡ state_of new.structures
    = subst (λ (z : Entry Done). (u : State) → Runs (state_of old.structures) z.dones u → u ≡ state_of new.structures) (sym at) h.ran in
    let run : IsLegalRun (opening_of (layout_of old.sizes)) (take (suc old.done) es) (state_of new.structures)
    = next_runs parts one (opening_of (layout_of old.sizes)) (state_of old.structures) (state_of new.structures) w.end es old.done d l w.run r.run only in
    record {
      done = omega (arith, count, l);
      run = subst (λ (z : Sizes). IsLegalRun (opening_of (layout_of z)) (take new.done es) (state_of new.structures)) (sym h.sizes)
          (subst (λ (n : ℕ). IsLegalRun (opening_of (layout_of old.sizes)) (take n es) (state_of new.structures)) (sym count) run);
      counts = λ k lt. subst (λ (z : List (Entry Done)). count_of new.counts k ≡ length (by_caller k z)) (sym more)
          (counts_more k (take old.done es) e _ (count_of old.counts e.caller) (count_of old.counts k) (h.counts k lt) (r.counts e.caller small) (r.counts k lt));
      low = subst (Each (λ e. e.place ≤ new.place)) (sym more) (subst (λ (p : ℕ). Each (λ e. e.place ≤ p) (take old.done es ++ e ∷ [])) (sym h.place) (each_append (λ e. e.place ≤ old.place) (take old.done es) (e ∷ []) r.low (low, tt)));
    }

each_take : {A : Type 0} (P : A → Type 0) (n : ℕ) (xs : List A) → Each P xs → Each P (take n xs)
each_take P zero xs h = tt
each_take P (suc n) [] h = tt
each_take P (suc n) (x ∷ xs) h = (h.0, each_take P n xs h.1)

listed_records : PoolsAreCounts → (z : Sizes) (es : List (Entry Done)) (s t : State) → Each (IsRecordIn (layout_of z)) es → IsLegalRun s es t → IsListed s → IsListed t
listed_records law z [] s t w r l = subst IsListed r l
listed_records law z (e ∷ es) s t w r l = listed_records law z es r.0 t w.1 r.4 (listed_run law e.dones s r.0 (first_calls z.tasks z.groups z.findings e.dones w.0.calls) r.1 l)

pub listed_replay : PoolsAreCounts → (r : Replay) (z : Sizes) (es : List (Entry Done)) → r.sizes ≡ z → IsReplayOf r es → AreReplayed z es → IsListed (state_of r.structures)
listed_replay law r z es e h w = listed_records law z (take r.done es) (opening_of (layout_of z)) (state_of r.structures) (each_take (IsRecordIn (layout_of z)) r.done es w.within)
    (subst (λ (y : Sizes). IsLegalRun (opening_of (layout_of y)) (take r.done es) (state_of r.structures)) e h.run) (opening_listed z.tasks z.groups z.findings)

pub few_replayed : (r : Replay) (es : List (Entry Done)) (k : ℕ) → IsReplayOf r es → k < 16 → count_of r.counts k ≤ length es
few_replayed r es k h l = let own = h.counts k l in let most = caller_most k (take r.done es) in omega (arith, own, most, length-take r.done es)

pub end_in : (n g f : ℕ) (e : SightEnd) → IsEndIn (layout_by n g f) e ↔ IsOfTwoParts e
unfolding layout_by
end_in n g f Aborted = ((λ h. tt), (λ h. tt))
end_in n g f Refused = ((λ h. tt), (λ h. tt))
end_in n g f (Full p v a) = ((λ h. h), (λ h. h))
end_in n g f Child = ((λ h. tt), (λ h. tt))

-- ---- one sight more

pub latest_more : (vs : List (Seen Done)) (v : Seen Done) → latest (vs ++ v ∷ []) ≡ (v.place, v.caller)
latest_more [] v = refl
latest_more (w ∷ []) v = refl
latest_more (w ∷ x ∷ xs) v = latest_more (x ∷ xs) v

most_more : (k : ℕ) (vs : List (Seen Done)) (v : Seen Done) → most_after k (vs ++ v ∷ []) ≡ cond (eqb v.caller k) (max (most_after k vs) v.after) (most_after k vs)
most_more k [] v = by_case (eqb v.caller k)
  where
    by_case : (t : Bool) → cond t (max v.after 0) 0 ≡ cond t (max 0 v.after) 0
    by_case true = omega arith
    by_case false = refl
most_more k (w ∷ ws) v = by_case (eqb w.caller k) (eqb v.caller k) (most_more k ws v)
  where
    by_case : (t u : Bool) → most_after k (ws ++ v ∷ []) ≡ cond u (max (most_after k ws) v.after) (most_after k ws)
        → cond t (max w.after (most_after k (ws ++ v ∷ []))) (most_after k (ws ++ v ∷ [])) ≡ cond u (max (cond t (max w.after (most_after k ws)) (most_after k ws)) v.after) (cond t (max w.after (most_after k ws)) (most_after k ws))
    by_case true true h = omega (arith, h)
    by_case true false h = omega (arith, h)
    by_case false true h = h
    by_case false false h = h

pub afters_more : (k : ℕ) (vs : List (Seen Done)) (v : Seen Done) (n old : ℕ) → n ≡ cond (eqb v.caller k) v.after old → old ≡ most_after k vs → most_after v.caller vs ≤ v.after → n ≡ most_after k (vs ++ v ∷ [])
afters_more k vs v n old a b c = by_case (eqb v.caller k) refl
  where
    by_case : (t : Bool) → eqb v.caller k ≡ t → n ≡ most_after k (vs ++ v ∷ [])
    by_case true h = let own : most_after k vs ≤ v.after = subst (λ (m : ℕ). most_after m vs ≤ v.after) (eqb-true v.caller k h) c in
        let all : most_after k (vs ++ v ∷ []) ≡ max (most_after k vs) v.after = most_more k vs v ∙ cond-true (eqb v.caller k) _ _ h in
        let new : n ≡ v.after = a ∙ cond-true (eqb v.caller k) v.after old h in omega (arith, own, all, new)
    by_case false h = a ∙ (cond-false (eqb v.caller k) v.after old h ∙ (b ∙ sym (most_more k vs v ∙ cond-false (eqb v.caller k) _ _ h)))
