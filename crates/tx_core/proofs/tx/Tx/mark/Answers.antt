use Rattle.std.proofs.Common.{◌≡◌, false, sym, ap, ◌∙◌, rules}
use Rattle.attempt_lists.specs.Cells.{Entries, word_at}
use Rattle.attempt_lists.specs.Levels.{merged}
use Rattle.attempt_lists.specs.Parts.{waiting_of, marked_of}
use Rattle.tx_core.specs.declared.stop.TxState.TheVariants.{Running}
use Rattle.tx_core.specs.Children.{is_child}
use Rattle.tx_core.specs.Tx.{Attempt}
use Rattle.tx_core.proofs.Providing.{provided_adds, two_same}
use Rattle.tx_core.proofs.Nesting.{unmarked, alone_merged, marked_now, nested_marks, none_of_some}
use Rattle.tx_core.proofs.tx.Tx.mark.Goals as goal

-- all lists stand at the mark, where no child was open
pub invariant_of-self : goal.invariant_of-self
invariant_of-self g c =
    let a = c.self.invariant.1 in
    let before : c.self.inside.committing ≡ false = ap (λ (t : Attempt _ _). t.committing) c.self.view_is ∙ c.requires.before_commit in
    let running : c.self.inside.state ≡ Running = ap (λ (t : Attempt _ _). t.state) c.self.view_is ∙ c.requires.running in
    let none = unmarked _ _ c.self.inside.mark _ _ _ _ _ (ap is_child running) c.self.invariant.2 in
    let level : merged c.self.inside.writes ≡ c.self.inside.writes.parent = alone_merged c.self.inside.writes (c.self.invariant.2.alone none) in (
      c.self.invariant.0,
      provided_adds _ _ _ _ c.self.inside.additions c.mark.new.self _ _ _ a a.spare_locks a.spare_observations a.spare_writes a.few a.room
          (λ e. two_same _ (waiting_of c.self.inside.additions) (waiting_of c.mark.new.self) (a.twice e) c.mark.ensures.waiting)
          (λ e. two_same _ (waiting_of c.self.inside.additions) (marked_of c.mark.new.self) (a.twice e) c.mark.ensures.marked),
      nested_marks _ _ _ _ c.self.inside.writes _ _ before
          (marked_now _ _ _ c.self.inside.writes.parent _ _ c.len.ensures.observations (search rules) c.len-3.ensures (rw (← level) c.self.invariant.0.written)
          (λ d unread unwritten. none_of_some _ (sym (c.self.invariant.0.holds d) ∙ c.self.invariant.0.met d unread (ap (λ (es : Entries). word_at es d) level ∙ unwritten)))),
    )
