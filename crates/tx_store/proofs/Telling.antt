-- What an attempt's notes tell, from its begin on.
use mathlib.Core.Logic.{dite}
use native.Mathlib.Decide.{ℕ_discrete}
use Rattle.std.proofs.Common.{◌≡◌, ℕ, ◌+◌, ◌<◌, ◌≤◌, false, List, [], ◌∷◌, ◌++◌, length, refl, ap, sym, ◌∙◌, subst, arith, length-append}
use Rattle.std.proofs.Math.Path.{fun_ext}
use Rattle.std.proofs.lemmas.List.{append-nil, take-append-le}
use Rattle.std.proofs.lemmas.List.Elements.{All-append, All-cons, All-nil}
use Rattle.std.specs.Prelude.{take, All, Option, Some, None}
use Rattle.attempt_lists.specs.Cells.{Entries}
use Rattle.attempt_lists.specs.Parts.{Waiting, waiting_of, marked_of, ChangesOnly}
use Rattle.cell_table.specs.Cells.{AllHold, after}
use Rattle.serial_terms.specs.declared.call.Call.{Call}
use Rattle.serial_terms.specs.declared.call.Reply.{Reply}
use Rattle.serial_terms.specs.Ranges.{IsKept}
use Rattle.serial_terms.specs.Renaming.{NamedDone, by_key, by_name, OfKey, MayName, SameButKeys}
use Rattle.store_layout.specs.Shapes.{Shape, Object, IsCellOf}
use Rattle.store_layout.specs.States.{state_in}
use Rattle.store_meaning.specs.Follows.{Progress, Follows, IsCallOn, state_with}
use Rattle.store_meaning.specs.Laws.{AttemptsFollow}
use Rattle.store_parts.specs.Parts.{progress, Touches, WaitsAlike, noted}
use Rattle.tx_core.specs.declared.stop.Stop.{Stop}
use Rattle.tx_core.specs.declared.stop.Stop.TheVariants.{Memory}
use Rattle.tx_core.specs.declared.stop.TxState.{TxState}
use Rattle.tx_core.specs.Facts.{holds_wider, holds_then}
use Rattle.tx_core.specs.Calls.{IsOpen, NothingWaits, HoldsAt, StepsAt, Stays, waiting, stopped_from}
use Rattle.tx_core.specs.Children.{Marked}
use Rattle.tx_core.specs.Tx.{Attempt}
use Rattle.tx_store.specs.Attempts.{HasSeen, AreWaiting, Tells, TellsAt, progress_at}
use Rattle.tx_store.specs.Calls.{in_child, Goes, KeepsMark, Makes}
use Rattle.tx_store.proofs.Noting.{closed, touches_part, noted_ok, noted_err}

same_more : (passes : ℕ → ℕ → Type 0) (ds : List NamedDone) (d : NamedDone) → OfKey (λ m k. MayName passes d.name k) d.done.call
    → SameButKeys passes (by_key ds) (by_name ds) → SameButKeys passes (by_key (ds ++ d ∷ [])) (by_name (ds ++ d ∷ []))
same_more passes [] d may same = ((d.name, may, refl), tt)
same_more passes (x ∷ ds) d may same = (same.0, same_more passes ds d may same.1)

module _ {M : Type 0} (s : Shape) (old new : Attempt M NamedDone) (more : Entries) (ds : List NamedDone) (seen : new.observations ≡ old.observations ++ more) (noted_more : new.notes ≡ old.notes ++ ds) (kept : KeepsMark old new) where
  -- where the lists have only grown, what the attempt had at the mark is told alike
  told_at : (m : Marked) → TellsAt s old m → TellsAt s new m
  told_at m at =
      let observations : take m.observations new.observations ≡ take m.observations old.observations = ap (λ (es : Entries). take m.observations es) seen ∙ take-append-le m.observations old.observations more at.observations in
      let notes : take m.notes new.notes ≡ take m.notes old.notes = ap (λ (es : List NamedDone). take m.notes es) noted_more ∙ take-append-le m.notes old.notes ds at.notes in
      let waits : (λ (p : ℕ). marked_of new.additions p) ≡ (λ (p : ℕ). marked_of old.additions p) = fun_ext kept.marked in
      let is : progress_at new m ≡ progress_at old m = rw (observations, waits) refl in
      record {
        observations = omega (arith, ap (λ (es : Entries). length es) seen, length-append old.observations more, at.observations);
        notes = omega (arith, ap (λ (es : List NamedDone). length es) noted_more, length-append old.notes ds, at.notes);
        waits = subst (λ (w : ℕ → List ℕ). AreWaiting s w) (sym waits) at.waits;
        follows = subst (λ (es : List NamedDone). Follows s (progress_at new m) es) (sym notes) (subst (λ (p : Progress). Follows s p (take m.notes old.notes)) (sym is) at.follows);
      }

  pub marked_grown : ((m : Marked) → old.mark ≡ Some m → TellsAt s old m) → (m : Marked) → new.mark ≡ Some m → TellsAt s new m
  marked_grown told m is = told_at m (told m (sym kept.mark ∙ is))

module _ {M : Type 0} (s : Shape) (old new : Attempt M NamedDone) where
  -- what waits stays in range where it is the same, and where one value more in range waits for a part that is there
  pub waits_same : new.additions ≡ old.additions → AreWaiting s (λ p. waiting p old) → AreWaiting s (λ p. waiting p new)
  waits_same is = subst (λ (ws : List Waiting). AreWaiting s (λ p. waiting_of ws p)) (sym is)

  pub waits_added : (part value : ℕ) → part < length s.queues + length s.logs → IsKept value → ChangesOnly old.additions new.additions part (waiting part old ++ value ∷ [])
      → AreWaiting s (λ p. waiting p old) → AreWaiting s (λ p. waiting p new)
  waits_added part value low kept added waits = record {
    small = λ p. dite (ℕ_discrete p part)
        (λ same. subst (λ (q : ℕ). All IsKept (waiting_of new.additions q)) (sym same)
        (subst (λ (vs : List ℕ). All IsKept vs) (sym added.changed) (All-append IsKept (waiting part old) (value ∷ []) (waits.small part) (All-cons IsKept value [] kept (All-nil IsKept)))))
        (λ apart. subst (λ (vs : List ℕ). All IsKept vs) (sym (added.others p apart)) (waits.small p));
    there = λ p out. added.others p (λ same. absurd (omega (arith, same))) ∙ waits.there p out;
  }

module _ {M : Type 0} (passes : ℕ → ℕ → Type 0) (s : Shape) where
  pub begun : AttemptsFollow s → (a : Attempt M NamedDone) → a.observations ≡ [] → a.writes ≡ [] → a.notes ≡ [] → NothingWaits a → a.mark ≡ None → a.committing ≡ false → 0 < a.pass.view.draws → Tells passes s a
  begun law a observations writes notes none unmarked early left = record {
    follows = λ open_now. subst (λ (ds : List NamedDone). Follows s (progress a) ds) (sym notes) (law.begun (progress a) observations writes none);
    seen = subst (λ (ds : List NamedDone). HasSeen s a.observations ds) (sym notes) (λ cells formed hold. (state_in s cells, refl));
    named = subst (λ (ds : List NamedDone). SameButKeys passes (by_key ds) (by_name ds)) (sym notes) tt;
    waits = record { small = λ p. subst (λ (vs : List ℕ). All IsKept vs) (sym (none p)) (All-nil IsKept); there = λ p out. none p };
    early = early;
    left = left;
    marked = λ m is. absurd (cc);
  }

  -- an attempt that was open made a call, and noted it
  called : AttemptsFollow s → (o : Object) (P : ℕ → Type 0) (n : ℕ) (old made new : Attempt M NamedDone) (d : NamedDone) → IsOpen old.state → Tells passes s old → IsCallOn s o (progress old) (progress made) d
      → OfKey (λ m k. MayName passes d.name k) d.done.call
      → Goes s old made → StepsAt P n old made → new ≡ record made { notes = made.notes ++ d ∷ [] } → Tells passes s new
  called law o P n old made new d open_now tells call may goes does is =
      let same = goes.notes in let grew = does.touches.observed in
      let follows : Follows s (progress made) (made.notes ++ d ∷ []) =
      subst (λ (ds : List NamedDone). Follows s (progress made) (ds ++ d ∷ [])) (sym same) (law.called o (progress old) (progress made) old.notes d call (tells.follows open_now)) in
      subst (λ (a : Attempt M NamedDone). Tells passes s a) (sym is) record {
        follows = λ still. follows;
        seen = λ cells formed hold. (state_with s (after cells made.writes) (progress made).waiting, (follows cells formed hold).1);
        named = subst (λ (ds : List NamedDone). SameButKeys passes (by_key (ds ++ d ∷ [])) (by_name (ds ++ d ∷ []))) (sym same) (same_more passes old.notes d may tells.named);
        waits = goes.waits tells.waits;
        early = goes.committing ∙ tells.early;
        left = rw does.pass.draws tells.left;
        marked = marked_grown s old (record made { notes = made.notes ++ d ∷ [] }) grew.0 (d ∷ []) grew.1 (ap (λ (es : List NamedDone). es ++ d ∷ []) same) record { mark = goes.child.mark; marked = goes.child.marked } tells.marked;
      }

  -- it was stopped, and may have observed more
  stopped : (P : ℕ → Type 0) (n : ℕ) (old new : Attempt M NamedDone) → Tells passes s old → (IsOpen new.state → ⊥) → Goes s old new → StepsAt P n old new
      → ((cells : List ℕ) → AllHold cells new.observations → AllHold cells old.observations) → Tells passes s new
  stopped P n old new tells shut goes does earlier =
      let same = goes.notes in let grew = does.touches.observed in record {
        follows = λ open_now. absurd (shut open_now);
        seen = λ cells formed hold. subst (λ (ds : List NamedDone). HasSeen s old.observations ds) (sym same) tells.seen cells formed (earlier cells hold);
        named = subst (λ (ds : List NamedDone). SameButKeys passes (by_key ds) (by_name ds)) (sym same) tells.named;
        waits = goes.waits tells.waits;
        early = goes.committing ∙ tells.early;
        left = rw does.pass.draws tells.left;
        marked = marked_grown s old new grew.0 [] grew.1 (same ∙ sym (append-nil old.notes)) goes.child tells.marked;
      }

  pub goes_stays : (old new : Attempt M NamedDone) → Stays old new → Goes s old new
  goes_stays old new stays = record {
    table = stays.table;
    committing = stays.committing;
    notes = stays.notes;
    child = record { mark = stays.mark; marked = λ p. ap (λ (ws : List Waiting). marked_of ws p) stays.additions };
    waits = waits_same s old new stays.additions;
  }

  pub waits_stays : (old new : Attempt M NamedDone) → Stays old new → WaitsAlike (progress old) (progress new)
  waits_stays old new stays p = ap (λ (ws : List Waiting). waiting_of ws p) stays.additions

  -- the attempt goes on where nothing but its notes and its state change
  goes_then : (old made : Attempt M NamedDone) (state : TxState) → Goes s old made → Goes s old (record made { state = state })
  goes_then old made state goes = record {
    table = goes.table;
    committing = goes.committing;
    notes = goes.notes;
    child = record { mark = goes.child.mark; marked = goes.child.marked };
    waits = goes.waits;
  }

  -- ---- the ends of a call: it was answered and noted, its note was refused, or it was stopped

  module _ (o : Object) (P : ℕ → Type 0) (n m : ℕ) (inside : (c : ℕ) → P c → IsCellOf s o c) (few : n ≤ m) where
    wider : (a b : Attempt M NamedDone) (stop : Option Stop) → HoldsAt P n a b stop → HoldsAt (IsCellOf s o) m a b stop
    wider a b stop holds = holds_wider P (IsCellOf s o) n m a b stop inside few holds

    then_nothing : (a b d : Attempt M NamedDone) (stop : Option Stop) → HoldsAt P n a b None → HoldsAt (IsCellOf s o) 0 b d stop → HoldsAt (IsCellOf s o) m a d stop
    then_nothing a b d stop first second = holds_wider (IsCellOf s o) (IsCellOf s o) (m + 0) m a d stop (λ c own. own) (omega arith)
        (holds_then (IsCellOf s o) m 0 a b d stop (wider a b None first) second)

    pub on_call : AttemptsFollow s → (old made new : Attempt M NamedDone) (call : Call) (told reply : Reply) (position : ℕ) → IsOpen old.state → HoldsAt P n old made None
        → Goes s old made → OfKey (λ m k. MayName passes position k) call
        → (Touches s o (progress old) (progress made) → IsCallOn s o (progress old) (progress made) (noted call reply (in_child old.state) position))
        → told ≡ reply → new ≡ record made { notes = made.notes ++ noted call told (in_child made.state) position ∷ [] }
        → Makes passes s o m old new (noted call reply (in_child old.state) position ∷ []) None
    on_call law old made new call told reply position open_now holds goes may onto same is =
        let d : NamedDone = noted call reply (in_child old.state) position in
        let noted_so : new ≡ record made { notes = made.notes ++ d ∷ [] } =
        is ∙ (ap (λ (r : Reply). let z : Attempt M NamedDone = record made { notes = made.notes ++ noted call r (in_child made.state) position ∷ [] } in z) same
        ∙ ap (λ (st : TxState). let z : Attempt M NamedDone = record made { notes = made.notes ++ noted call reply (in_child st) position ∷ [] } in z) holds.ends) in
        record {
          notes = ap (λ (a : Attempt M NamedDone). a.notes) noted_so ∙ ap (λ (ds : List NamedDone). ds ++ d ∷ []) goes.notes;
          holds = then_nothing old made new None holds (noted_ok (IsCellOf s o) made new (made.notes ++ d ∷ []) noted_so);
          keeps = record {
            table = ap (λ (a : Attempt M NamedDone). a.table) noted_so ∙ goes.table;
            committing = ap (λ (a : Attempt M NamedDone). a.committing) noted_so ∙ goes.committing;
            child = subst (λ (a : Attempt M NamedDone). KeepsMark old a) (sym noted_so) record { mark = goes.child.mark; marked = goes.child.marked };
            tells = λ tells. called law o P n old made new d open_now tells (onto (touches_part s o P old made inside holds.does.touches)) may goes holds.does noted_so;
          };
        }

    pub on_refused : (old made new : Attempt M NamedDone) → HoldsAt P n old made None → Goes s old made → new ≡ record made { state = stopped_from made.state }
        → Makes passes s o m old new [] (Some Memory)
    on_refused old made new holds goes is =
        let state = stopped_from made.state in
        let went : Goes s old new = subst (λ (a : Attempt M NamedDone). Goes s old a) (sym is) (goes_then old made state goes) in
        let holds_on = holds_then P n 0 old made new (Some Memory) holds (noted_err P made new is) in record {
          notes = went.notes ∙ sym (append-nil old.notes);
          holds = then_nothing old made new (Some Memory) holds (noted_err (IsCellOf s o) made new is);
          keeps = record {
            table = went.table;
            committing = went.committing;
            child = went.child;
            tells = λ tells. stopped P (n + 0) old new tells (closed made.state new.state (ap (λ (a : Attempt M NamedDone). a.state) is)) went holds_on.does
                (touches_part s o P old new inside holds_on.does.touches).earlier;
          };
        }

    pub on_stopped : (old new : Attempt M NamedDone) (stop : Stop) → HoldsAt P n old new (Some stop) → Goes s old new → Makes passes s o m old new [] (Some stop)
    on_stopped old new stop holds goes = record {
      notes = goes.notes ∙ sym (append-nil old.notes);
      holds = wider old new (Some stop) holds;
      keeps = record {
        table = goes.table;
        committing = goes.committing;
        child = goes.child;
        tells = λ tells. stopped P n old new tells (closed old.state new.state holds.ends.state) goes holds.does (touches_part s o P old new inside holds.does.touches).earlier;
      };
    }
