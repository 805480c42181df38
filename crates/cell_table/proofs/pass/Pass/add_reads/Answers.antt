use Rattle.std.proofs.Common.{refl, arith, ap, ◌∙◌, [], List, ℕ, false}
use Rattle.cell_table.specs.Pass.{note}
use Rattle.cell_table.specs.Seats.{noted_books}
use Rattle.cell_table.proofs.Attempts.{read_pass, idle_now, stands_now, explained_now, read_of}
use Rattle.cell_table.proofs.pass.Pass.add_reads.Goals as goal

pub invariant_of-self : goal.invariant_of-self
invariant_of-self g c = let idle = idle_now _ _ c.args.place c.self.view_is c.requires.idle c.requires.place in (
  read_pass g.M.Meaning.lawful g.M.Meaning.explains _ c.args.place _ (record { observations = c.args.observations.items; writes = []; dones = c.args.dones.items }) _ c.self.invariant.0 idle.0 idle.1 idle.2 refl (explained_now g.M.Meaning.explains _ _ _ _ c.self.view_is c.requires.explained) (stands_now _ _ c.args.place _ c.self.view_is c.requires.stands)
      (c.add_entry.ensures.books ∙ ap (λ (z : List (ℕ × ℕ)). note c.args.place false (record { observations = c.args.observations.items; writes = z; dones = c.args.dones.items }) (noted_books c.self.inside.ledgers.items)) c.new-writes.ensures.items),
  c.self.invariant.1,
  (let a = c.add_entry.ensures.capacity in let b = c.self.invariant.2 in omega arith),
  c.self.invariant.3,
  c.self.invariant.4,
)

pub returns : goal.returns
returns g c = read_of _ _ c.args.place _ (record { observations = c.args.observations.items; writes = []; dones = c.args.dones.items }) _ c.self.view_is (c.add_entry.ensures.books ∙ ap (λ (z : List (ℕ × ℕ)). note c.args.place false (record { observations = c.args.observations.items; writes = z; dones = c.args.dones.items }) (noted_books c.self.inside.ledgers.items)) c.new-writes.ensures.items) c.add_entry.ensures.reserved
