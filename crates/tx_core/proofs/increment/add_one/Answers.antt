use Rattle.std.proofs.Common.{◌≡◌, ◌+◌, [], slice_index, None, refl, ap, ◌∙◌, arith}
use Rattle.cell_table.specs.Pass.{PassState, IsSole}
use Rattle.attempt_lists.specs.Cells.{Entries, word_at, put}
use Rattle.tx_core.specs.Tx.{Attempt}
use Rattle.tx_core.specs.Stored.{cells_left}
use Rattle.tx_core.proofs.Increments.{read_alone}
use Rattle.tx_core.proofs.increment.add_one.Goals as goal
use Rattle.tx_core.proofs.increment.add_one.Goals.{After-alone_law}

-- it is the value that the books leave
value : (c : After-alone_law) → slice_index (cells_left c.args.tx.now.pass) c.args.cell ≡ c.in-Ok.value
value c =
    let unwritten : word_at c.args.tx.now.writes c.args.cell ≡ None = ap (λ (es : Entries). word_at es c.args.cell) c.requires.fresh.1 in
    let unobserved : word_at c.args.tx.now.observations c.args.cell ≡ None = ap (λ (es : Entries). word_at es c.args.cell) c.requires.fresh.0 in
    let seen = c.in-Ok.ensures.observes unwritten unobserved in
    let looks = c.in-Ok.ensures.pass in
    let sole : IsSole c.read.new.self.pass = rw (ap (λ (s : PassState _ _). s.books) looks.0, looks.1.grows.total) c.requires.sole in
    let version = ap (λ (a : Attempt _ _). a.version) seen.is in
    read_alone c.args.tx.now.pass c.read.new.self.pass c.args.tx.now.version c.args.cell c.in-Ok.value seen.version looks (c.alone_law.ensures.sole sole) (rw (← version) c.alone_law.ensures.begun) seen.stands

pub overflow_add-value : goal.overflow_add-value
overflow_add-value c = omega (arith, value c.before, c.requires.small)

pub returns-clause-wrote : goal.returns-clause-wrote
returns-clause-wrote c =
    let unwritten : word_at c.args.tx.now.writes c.args.cell ≡ None = ap (λ (es : Entries). word_at es c.args.cell) c.requires.fresh.1 in
    let unobserved : word_at c.args.tx.now.observations c.args.cell ≡ None = ap (λ (es : Entries). word_at es c.args.cell) c.requires.fresh.0 in
    let none : c.read.new.self.writes ≡ [] = ap (λ (a : Attempt _ _). a.writes) (c.in-Ok.ensures.observes unwritten unobserved).is ∙ c.requires.fresh.1 in
    let wrote : c.write.new.self.writes ≡ put c.read.new.self.writes c.args.cell (c.in-Ok.value + 1) = ap (λ (a : Attempt _ _). a.writes) c.in_ok-write.ensures.ok in
    rw (wrote, none, value c.before.before.before.before) refl
