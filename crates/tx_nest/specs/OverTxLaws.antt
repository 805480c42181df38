-- What the content of an attempt over cells determines, and what a child needs of its mark.
use Rattle.std.specs.Prelude.{◌≡◌, ℕ, List, [], ◌∷◌, ◌++◌, length, Option, Some, None}
use Rattle.std.proofs.Common.{ap, refl, ◌∙◌, sym, arith, length-append}
use Rattle.std.proofs.Math.Path.{fun_ext}
use Rattle.std.proofs.lemmas.List.{append-nil, take-append-le}
use Rattle.cell_table.specs.Pass.{IsSole}
use Rattle.cell_table.specs.Steps.{Grows}
use Rattle.cell_table.specs.declared.view.View.{View}
use Rattle.attempt_lists.specs.Cells.{Entries, word_at}
use Rattle.attempt_lists.specs.Parts.{waiting_of, marked_of}
use Rattle.tx_core.specs.Facts.{observes_grows}
use Rattle.tx_core.specs.Tx.{Attempt, Observed}
use Rattle.tx_nest.specs.OverTx.{Content, Fixed, content_of, fixed_of, remembered_by, HasMark, Vouches}

-- contents are the same by their lists, and by what waits for each part
pub same_content : {D : Type 0} (o p : Entries) (v w : List ℕ) (x y : Entries) (n k : List D) (h l : List (ℕ × ℕ)) (f g : ℕ → List ℕ)
    → o ≡ p → v ≡ w → x ≡ y → n ≡ k → h ≡ l → ((part : ℕ) → f part ≡ g part)
    → ◌≡◌ {A = Content D} (record { observations = o; versions = v; writes = x; notes = n; held = h; waiting = f }) (record { observations = p; versions = w; writes = y; notes = k; held = l; waiting = g })
same_content o p v w x y n k h l f g a b c d e each =
    let waits : f ≡ g = fun_ext each in
    rw (a, b, c, d, e, waits) refl

module _ {M D : Type 0} where
  -- a view knows what it knows
  pub grows_all : (v : View M D) → Grows v v
  grows_all v = record { meaning = refl; opening = refl; total = refl; known = omega arith; values = λ t among. among; validations = λ t among. among }

  -- what stands by what was known stands by what is known since
  pub vouches_on : (a b : Attempt M D) (c : Content D) (place : ℕ) → Grows a.pass.view b.pass.view → Vouches a c place → Vouches b c place
  vouches_on a b c place grows vouches = λ i lt. observes_grows _ _ _ _ _ grows (vouches i lt)

  pub notes_of : (a b : Attempt M D) → content_of a ≡ content_of b → a.notes ≡ b.notes
  notes_of a b e = ap (λ (c : Content D). c.notes) e

  pub waits_of : (a b : Attempt M D) → content_of a ≡ content_of b → ◌≡◌ {A = ℕ → List ℕ} (λ part. waiting_of a.additions part) (λ part. waiting_of b.additions part)
  waits_of a b e = ap (λ (c : Content D). c.waiting) e

  -- whether the pass holds every caller number
  pub sole_of : (a b : Attempt M D) → fixed_of a ≡ fixed_of b → IsSole b.pass → IsSole a.pass
  sole_of a b e s = ap (λ (f : Fixed D). length f.books) e ∙ s ∙ ap (λ (f : Fixed D). f.callers) (sym e)

  -- an attempt that only observed and noted more since has the mark that it had
  pub mark_kept : (a b : Attempt M D) (o : Entries) (v : List ℕ) (n : List D) → HasMark a → b.mark ≡ a.mark → b.observations ≡ a.observations ++ o → b.versions ≡ a.versions ++ v → b.notes ≡ a.notes ++ n
      → ((part : ℕ) → marked_of b.additions part ≡ marked_of a.additions part) → (remembered_by b b.mark ≡ remembered_by a a.mark) × HasMark b
  mark_kept a b o v n has same eo ev en waits =
      let m = has.0 in
      let is : b.mark ≡ Some m = same ∙ has.1 in
      let lo = length-append a.observations o in
      let lv = length-append a.versions v in
      let ln = length-append a.notes n in (
        ap (remembered_by b) is ∙ (same_content _ _ _ _ _ _ _ _ _ _ _ _ (rw eo (take-append-le m.observations a.observations o has.2)) (rw ev (take-append-le m.observations a.versions v has.3)) refl (rw en (take-append-le m.notes a.notes n has.4)) refl waits ∙ sym (ap (remembered_by a) has.1)),
        (m, is, rw eo (omega (arith, lo, has.2)), rw ev (omega (arith, lv, has.3)), rw en (omega (arith, ln, has.4))),
      )

  -- so has one that read a cell
  pub mark_observed : (a b : Attempt M D) (cell x : ℕ) → HasMark a → Observed a b cell x → (remembered_by b b.mark ≡ remembered_by a a.mark) × HasMark b
  mark_observed a b cell x has seen = mark_kept a b ((cell, x) ∷ []) (seen.version ∷ []) [] has (ap (λ (t : Attempt M D). t.mark) seen.is) (ap (λ (t : Attempt M D). t.observations) seen.is) (ap (λ (t : Attempt M D). t.versions) seen.is)
      (ap (λ (t : Attempt M D). t.notes) seen.is ∙ sym (append-nil a.notes)) (λ part. ap (λ (t : Attempt M D). marked_of t.additions part) seen.is)

  pub mark_read : (a b : Attempt M D) (cell x : ℕ) (written seen : Option ℕ) → word_at a.writes cell ≡ written → word_at a.observations cell ≡ seen → HasMark a
      → ((y : ℕ) → word_at a.writes cell ≡ Some y → b ≡ a) → ((y : ℕ) → word_at a.writes cell ≡ None → word_at a.observations cell ≡ Some y → b ≡ a) → (word_at a.writes cell ≡ None → word_at a.observations cell ≡ None → Observed a b cell x)
      → (remembered_by b b.mark ≡ remembered_by a a.mark) × HasMark b × (b.committing ≡ a.committing) × (b.table ≡ a.table)
  mark_read a b cell x (Some y) seen w s has own before observes = rw (own y w) (refl, has, refl, refl)
  mark_read a b cell x None (Some y) w s has own before observes = rw (before y w s) (refl, has, refl, refl)
  mark_read a b cell x None None w s has own before observes =
      let now = observes w s in
      let kept = mark_observed a b cell x has now in
      (kept.0, kept.1, ap (λ (t : Attempt M D). t.committing) now.is, ap (λ (t : Attempt M D). t.table) now.is)
