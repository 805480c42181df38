use Rattle.std.proofs.Common.{◌≡◌, inl, inr, sym, ap, ◌∙◌, arith, Some}
use Rattle.tx_core.specs.Tx.{Attempt}
use Rattle.tx_core.specs.Facts.{looks_trans, touches_wider, known_stays, looks_wider, looks_then}
use Rattle.tx_log.specs.Log.{IsReadOf}
use Rattle.tx_core.specs.OneCell.{Reading, reading_is, reading_keeps}
use Rattle.tx_log.proofs.ReadAnswers.{read_entry, read_behind}
use Rattle.tx_log.proofs.part.LogPart.read.Goals as goal

pub returns-in-Err-clause-looks : goal.returns-in-Err-clause-looks
returns-in-Err-clause-looks g c = looks_wider _ (IsReadOf c.args.self.now c.args.i) 3 6 _ _ _ (λ k here. inr here) (omega arith) c.in-Err.ensures.looks

pub returns-then-word-gt0-clause-value : goal.returns-then-word-gt0-clause-value
returns-then-word-gt0-clause-value g c =
    let r = c.in-Ok.ensures in
    read_entry c.args.self.now c.args.i c.args.tx.now c.entry_word.new.tx c.in-Ok.word (ap (λ (t : Attempt _ _). t.writes) r.same, ap (λ (t : Attempt _ _). t.additions) r.same) r.word c.if-word-gt0.true c.laid_over_law.ensures.shows

pub returns-then-word-gt0-clause-looks : goal.returns-then-word-gt0-clause-looks
returns-then-word-gt0-clause-looks g c = looks_wider _ (IsReadOf c.args.self.now c.args.i) 3 6 _ _ _ (λ k here. inr here) (omega arith) c.in-Ok.ensures.looks

pub returns-then-word-gt0-clause-entry_alone : goal.returns-then-word-gt0-clause-entry_alone
returns-then-word-gt0-clause-entry_alone g c = λ word lt known full. touches_wider _ _ _ _ (λ k here. here.1) c.in-Ok.ensures.looks.does.touches

pub returns-in-Err-read-clause-looks : goal.returns-in-Err-read-clause-looks
returns-in-Err-read-clause-looks g c =
    looks_then (IsReadOf c.args.self.now c.args.i) 3 3 c.args.tx.now c.entry_word.new.tx c.read.new.self _ (looks_wider _ _ 3 3 _ _ _ (λ k here. inr here) (omega arith) c.in-Ok.ensures.looks) (looks_wider _ _ 3 3 _ _ _ (λ k here. inl here) (omega arith) c.in-Err-read.ensures.looks)

pub returns-clause-value : goal.returns-clause-value
returns-clause-value g c =
    let first = c.in-Ok.ensures in
    let next = c.in-Ok-read.ensures in
    let old = c.args.tx.now in
    let mid = c.entry_word.new.tx in
    let new = c.read.new.self in
    let reading : Reading mid new c.args.self.now.end c.in-Ok-read.shared = reading_is mid new c.args.self.now.end c.in-Ok-read.shared next.own next.seen_before next.observes in
    let kept_on = reading_keeps mid new _ _ reading in
    let none : c.in-Ok.word ≡ 0 = omega (arith, c.if-word-gt0.false) in
    read_behind c.args.self.now c.args.i old new c.in-Ok.word c.in-Ok-read.shared c.waiting_at.result (kept_on.0 ∙ ap (λ (t : Attempt _ _). t.writes) first.same, kept_on.1 ∙ ap (λ (t : Attempt _ _). t.additions) first.same)
    (λ lt. known_stays _ mid new _ _ next.looks.does.touches kept_on.0 (first.word.0 lt), first.word.1) none next.value c.laid_over_law-2.ensures.shows c.waiting_at.ensures

pub returns-clause-looks : goal.returns-clause-looks
returns-clause-looks g c =
    looks_then (IsReadOf c.args.self.now c.args.i) 3 3 c.args.tx.now c.entry_word.new.tx c.read.new.self _ (looks_wider _ _ 3 3 _ _ _ (λ k here. inr here) (omega arith) c.in-Ok.ensures.looks) (looks_wider _ _ 3 3 _ _ _ (λ k here. inl here) (omega arith) c.in-Ok-read.ensures.looks)

pub returns-clause-entry_alone : goal.returns-clause-entry_alone
returns-clause-entry_alone g c = λ word lt known full.
    let first = c.in-Ok.ensures in
    let next = c.in-Ok-read.ensures in
    let reading : Reading c.entry_word.new.tx c.read.new.self c.args.self.now.end c.in-Ok-read.shared = reading_is _ _ _ _ next.own next.seen_before next.observes in
    let same : Some word ≡ Some c.in-Ok.word = sym known ∙ known_stays _ c.entry_word.new.tx c.read.new.self _ _ next.looks.does.touches (reading_keeps _ _ _ _ reading).0 (first.word.0 lt) in
    let equal : word ≡ c.in-Ok.word = cc in
    absurd (omega (arith, c.if-word-gt0.false, equal))

pub returns-in-Err-read-clause-pass : goal.returns-in-Err-read-clause-pass
returns-in-Err-read-clause-pass g c = looks_trans _ _ _ c.in-Ok.ensures.pass c.in-Err-read.ensures.pass

pub returns-clause-pass : goal.returns-clause-pass
returns-clause-pass g c = looks_trans _ _ _ c.in-Ok.ensures.pass c.in-Ok-read.ensures.pass
