use Rattle.std.proofs.Common.{[], ◌∷◌, ◌++◌, subst, sym}
use Rattle.capture_terms.specs.declared.datagram.Kind.{Kind}
use Rattle.ipv4_fragments.specs.Generations.{frame_at, Tells}
use Rattle.ipv4_fragments.proofs.sorting.in_generation.Goals as goal

pub returns-clause-tells : goal.returns-clause-tells
returns-clause-tells c = λ frames tells.
    subst (λ (k : Kind). Tells c.tell.new.self (frames ++ frame_at c.args.time k ∷ [])) (sym c.in-Fragment.is) (c.in_ok-newest.ensures.tells frames tells)

pub returns-clause-group : goal.returns-clause-group
returns-clause-group c = λ frames groups tells numbered long.
    let told = c.in_ok-newest.ensures.group frames groups tells numbered long in
    (told.place, told.numbered)
