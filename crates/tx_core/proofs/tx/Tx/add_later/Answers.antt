use Rattle.std.proofs.Common.{◌≡◌, ◌+◌, length, ap, refl, ◌∙◌, arith}
use Rattle.tx_core.specs.declared.spare.Spare.{Spare}
use Rattle.tx_core.proofs.AttemptFacts.{attempt_widens, attempt_reserves}
use Rattle.tx_core.proofs.Providing.{provided_moves, provided_adds, two_later, two_more, two_same}
use Rattle.tx_core.proofs.Nesting.{nested_grows, more_none, more_same}
use Rattle.tx_core.proofs.tx.Tx.add_later.Goals as goal

-- two places of each kind more, for one addition more
pub invariant_of-self-2 : goal.invariant_of-self-2
invariant_of-self-2 g c =
    let a = c.self.invariant.1 in
    let locks : c.in-Some.spare.locks ≡ c.self.inside.spare.locks + 2 = ap (λ (s : Spare). s.locks) c.in-Some.ensures.more in
    let observations : c.in-Some.spare.observations ≡ c.self.inside.spare.observations + 2 = ap (λ (s : Spare). s.observations) c.in-Some.ensures.more in
    let writes : c.in-Some.spare.writes ≡ c.self.inside.spare.writes + 2 = ap (λ (s : Spare). s.writes) c.in-Some.ensures.more in
    let wide = provided_moves c.self.inside.pass c.reserve_more_locks.new.pass c.self.inside.reads c.reserve.new.self c.self.inside.writes c.reserve-2.new.self c.self.inside.held c.reserve_more_locks.new.held c.self.inside.additions c.self.inside.spare c.self.inside.committing a c.in_ok-reserve_more_locks.ensures.locks
    (omega (arith, a.spare_locks, c.in_ok-reserve_more_locks.ensures.ok))
    (omega (arith, a.spare_observations, c.in_ok-reserve.ensures.ok))
    (omega (arith, a.spare_writes, c.in_ok-reserve-2.ensures.ok))
    (λ before. omega (arith, a.room before, c.in_ok-reserve_more_locks.ensures.ok, ap length c.reserve-2.ensures.parent, ap length c.reserve-2.ensures.child)) in (
      rw (c.reserve-2.ensures.parent, c.reserve-2.ensures.child)
          (attempt_reserves _ _ _ c.self.inside.reads c.reserve.new.self _ _ _ c.reserve.ensures.observations c.reserve.ensures.versions
          (attempt_widens _ _ c.self.inside.pass c.reserve_more_locks.new.pass _ _ c.self.inside.held c.reserve_more_locks.new.held _ c.self.invariant.0 c.in_ok-reserve_more_locks.ensures.pass c.in_ok-reserve_more_locks.ensures.entries)),
      provided_adds _ _ _ _ _ c.later.new.self _ c.in-Some.spare _ wide
          (omega (arith, locks, a.spare_locks, c.in_ok-reserve_more_locks.ensures.ok))
          (omega (arith, observations, a.spare_observations, c.in_ok-reserve.ensures.ok))
          (omega (arith, writes, a.spare_writes, c.in_ok-reserve-2.ensures.ok))
          c.in-Some.ensures.few
          (λ before. omega (arith, locks, a.room before, c.in_ok-reserve_more_locks.ensures.ok, ap length c.reserve-2.ensures.parent, ap length c.reserve-2.ensures.child))
          (λ before. rw c.in-Some.ensures.more (two_later c.self.inside.spare _ _ c.args.part c.args.value (a.twice before) c.in_ok-later.ensures.ok))
          (λ before. rw c.in-Some.ensures.more (two_more _ _ (two_same c.self.inside.spare _ _ (a.marked before) c.in_ok-later.ensures.ok.marked))),
      nested_grows _ _ _ _ _ _ _ c.self.inside.writes c.reserve-2.new.self _ _ _ _ refl (more_same _ _ c.reserve.ensures.observations) (more_same _ _ c.in_ok-reserve_more_locks.ensures.entries) (more_none _) (λ some. c.reserve-2.ensures.parent) (λ none. c.reserve-2.ensures.child ∙ c.self.invariant.2.alone none) c.self.invariant.2,
    )
