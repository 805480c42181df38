use Rattle.std.proofs.Common.{◌≡◌, true, false, ap, sym, ◌∙◌}
use Rattle.attempt_lists.specs.Levels.{merged}
use Rattle.tx_core.specs.declared.stop.TxState.TheVariants.{Running}
use Rattle.tx_core.specs.Children.{is_child}
use Rattle.tx_core.specs.Tx.{Attempt}
use Rattle.tx_core.proofs.Nesting.{unmarked, alone_merged}
use Rattle.tx_core.specs.Calls.{stopped_from}
use Rattle.tx_core.proofs.Calling.{holds_writes, stops_at_write}
use Rattle.tx_core.proofs.tx.Tx.lock_writes.Goals as goal

pub returns-in-Ok-clause-leaves : goal.returns-in-Ok-clause-leaves
returns-in-Ok-clause-leaves g c =
    let e = c.in-Ok.ensures in
    let pass = ap (λ (a : Attempt _ _). a.pass) (sym c.self.view_is) in
    let running : c.self.inside.state ≡ Running = ap (λ (a : Attempt _ _). a.state) c.self.view_is ∙ c.requires.callable.running in
    let none = unmarked _ _ c.self.inside.mark _ _ _ _ _ (ap is_child running) c.self.invariant.2 in
    let level : merged c.self.inside.writes ≡ c.self.inside.writes.parent = alone_merged c.self.inside.writes (c.self.invariant.2.alone none) in
    let sorted : merged c.sort.new.self ≡ c.args.self.now.writes = rw (c.sort.ensures.parent, c.sort.ensures.child) (ap (λ (a : Attempt _ _). a.writes) c.self.view_is) in
    let writes : c.args.self.now.writes ≡ c.sort.new.self.parent = ap (λ (a : Attempt _ _). a.writes) (sym c.self.view_is) ∙ level ∙ sym c.sort.ensures.parent in
    holds_writes _ c.args.self.now _ _ (ap (λ (a : Attempt _ _). a.version) c.self.view_is) (ap (λ (a : Attempt _ _). a.observations) c.self.view_is) sorted
    (rw pass e.pass) (rw (pass, writes) e.steps) (rw (pass, writes) e.others) (rw pass e.kept) (ap (λ (a : Attempt _ _). a.state) c.self.view_is)

pub returns-in-Err-clause-leaves : goal.returns-in-Err-clause-leaves
returns-in-Err-clause-leaves g c =
    let e = c.in-Err.ensures in
    let pass = ap (λ (a : Attempt _ _). a.pass) (sym c.self.view_is) in
    let running : c.self.inside.state ≡ Running = ap (λ (a : Attempt _ _). a.state) c.self.view_is ∙ c.requires.callable.running in
    let none = unmarked _ _ c.self.inside.mark _ _ _ _ _ (ap is_child running) c.self.invariant.2 in
    let level : merged c.self.inside.writes ≡ c.self.inside.writes.parent = alone_merged c.self.inside.writes (c.self.invariant.2.alone none) in
    let sorted : merged c.sort.new.self ≡ c.args.self.now.writes = rw (c.sort.ensures.parent, c.sort.ensures.child) (ap (λ (a : Attempt _ _). a.writes) c.self.view_is) in
    let writes : c.args.self.now.writes ≡ c.sort.new.self.parent = ap (λ (a : Attempt _ _). a.writes) (sym c.self.view_is) ∙ level ∙ sym c.sort.ensures.parent in
    let version = ap (λ (a : Attempt _ _). a.version) (sym c.self.view_is) in
    holds_writes _ c.args.self.now _ _ (ap (λ (a : Attempt _ _). a.version) c.self.view_is) (ap (λ (a : Attempt _ _). a.observations) c.self.view_is) sorted
    (rw pass e.pass) (rw (pass, writes) e.steps) (rw (pass, writes) e.others) (rw pass e.kept)
    (record {
      state = c.stopped-self-inside.ensures ∙ ap (λ (a : Attempt _ _). stopped_from a.state) c.self.view_is;
      of = stops_at_write c.args.self.now c.in-Err.stop (rw writes e.cause.0);
      cause = rw (pass, version) e.cause.1;
      sole = λ sole. never (e.sole (rw pass at sole));
    })
  where
    never : {P : Type 0} → false ≡ true → P
    never e = cc
