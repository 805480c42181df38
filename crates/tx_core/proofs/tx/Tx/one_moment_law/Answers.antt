use Rattle.std.proofs.Common.{◌<◌, length, ap, subst, sym, ◌∙◌}
use Rattle.attempt_lists.specs.Cells.{cell_at}
use Rattle.tx_core.proofs.Looks.{observes_of, each_from_places}
use Rattle.tx_core.proofs.tx.Tx.one_moment_law.Goals as goal

-- each observation stands at the version, where the pass finds one list of cells
pub returns : goal.returns
returns g c = rw (← c.self.view_is) (λ before m is.
    let found = c.one_moment_law.ensures m is c.self.inside.version in (
      found.0,
      found.1,
      found.2 ∙ ap length c.self.invariant.0.of.2,
      each_from_places _ _ (λ i lt.
          let seen = c.self.invariant.0.observed i lt in (
            subst (λ n. cell_at c.self.inside.reads.observations i < n) (sym found.2) seen.there,
            found.3 _ _ seen.there (observes_of _ _ _ _ _ (seen.stands (c.self.invariant.0.early before i lt))),
          )),
    ))
