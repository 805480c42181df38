use Rattle.std.proofs.Common.{◌≡◌, ◌-◌, ◌<◌, true, is_some, length, if◌then◌else◌, refl, ap, sym, ◌∙◌, arith}
use Rattle.cell_table.specs.Cells.{has}
use Rattle.cell_table.specs.Rule.{cells_of}
use Rattle.attempt_lists.specs.Cells.{Entries, word_at, put}
use Rattle.tx_core.specs.Tx.{Attempt}
use Rattle.tx_core.proofs.AttemptFacts.{attempt_writes, attempt_commits, in_keys}
use Rattle.tx_core.proofs.Providing.{left_fits}
use Rattle.attempt_lists.specs.Levels.{merged}
use Rattle.tx_core.specs.declared.stop.TxState.TheVariants.{Running}
use Rattle.tx_core.specs.Children.{is_child}
use Rattle.tx_core.proofs.Nesting.{nested_free, unmarked, alone_merged}
use Rattle.tx_core.proofs.tx.Tx.write_reserved.Goals as goal

-- a held cell is one of the table, and its write takes a place that was kept
pub invariant_of-self : goal.invariant_of-self
invariant_of-self g c =
    let a = c.self.invariant.1 in
    let held : has c.args.cell (cells_of c.self.inside.pass.view.held) ≡ true = rw (ap (λ (a : Attempt _ _). a.pass) c.self.view_is) c.requires.held in
    let there : c.args.cell < length c.self.inside.table.now.opening = in_keys (λ d. d < length c.self.inside.table.now.opening) c.self.inside.held.entries c.args.cell c.self.invariant.0.in_table (sym (c.self.invariant.0.holds c.args.cell) ∙ held) in
    let running : c.self.inside.state ≡ Running = ap (λ (a : Attempt _ _). a.state) c.self.view_is ∙ c.requires.running in
    let none = unmarked _ _ c.self.inside.mark _ _ _ _ _ (ap is_child running) c.self.invariant.2 in
    let level : merged c.self.inside.writes ≡ c.self.inside.writes.parent = alone_merged c.self.inside.writes (c.self.invariant.2.alone none) in
    let puts : merged c.put_reserved.new.self ≡ put (merged c.self.inside.writes) c.args.cell c.args.value = alone_merged c.put_reserved.new.self c.put_reserved.ensures.child ∙ c.put_reserved.ensures.parent ∙ ap (λ (es : Entries). put es c.args.cell c.args.value) (sym level) in
    let before : c.is_some-written.result ≡ is_some (word_at c.self.inside.writes.parent c.args.cell) = c.is_some-written.ensures ∙ ap is_some c.get.ensures.merged ∙ ap (λ (es : Entries). is_some (word_at es c.args.cell)) level in
    let left = left_fits (is_some (word_at c.self.inside.writes.parent c.args.cell)) c.self.inside.spare.writes c.self.inside.writes.reserved c.left_after-self-inside.result c.put_reserved.new.self.reserved (c.left_after-self-inside.ensures ∙ ap (λ b. c.self.inside.spare.writes - (if b then 0 else 1)) before) c.put_reserved.ensures.reserved a.spare_writes in (
      attempt_writes _ _ _ _ (merged c.self.inside.writes) (merged c.put_reserved.new.self) _ _ c.args.cell c.args.value (attempt_commits _ _ _ _ _ _ _ c.self.invariant.0) there puts,
      record {
        locks = a.locks;
        spare_locks = a.spare_locks;
        spare_observations = a.spare_observations;
        spare_writes = left.0;
        few = (a.few.0, a.few.1, omega (arith, left.1, a.few.2));
        room = λ early. cc;
        twice = λ early. cc;
        marked = λ early. cc;
      },
      nested_free _ _ _ _ _ _ _ _ c.self.inside.writes c.put_reserved.new.self _ _ _ _ refl none (λ e. c.put_reserved.ensures.child) c.self.invariant.2,
    )
