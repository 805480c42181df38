use Rattle.std.proofs.Common.{◌≡◌, length, subst, arith}
use Rattle.attempt_lists.proofs.Buckets.{IsWalk, walk_ends}
use Rattle.attempt_lists.proofs.chains.Chains.find.Goals as goal

-- the walk has come to the end of the chain
pub returns : goal.returns
returns c =
    let ended : c.loop-link.link ≡ 0 = omega (arith, c.loop-link-test.false) in
    walk_ends _ _ _ _ c.requires.chains (subst (λ link. IsWalk c.args.entries.now (length c.args.self.now.heads.items) c.args.cell link) ended c.loop-link.invariant)
