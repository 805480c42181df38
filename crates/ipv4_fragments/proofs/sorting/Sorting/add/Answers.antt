use Rattle.std.proofs.Common.{◌≡◌, ℕ, List, [], ◌∷◌, ◌++◌, sym, ◌∙◌, ap, subst}
use Rattle.capture_terms.specs.Generations.{in_generations}
use Rattle.capture_terms.specs.Kept.{kept_of}
use Rattle.capture_terms.specs.declared.datagram.Kind.{Kind}
use Rattle.ipv4_fragments.specs.Generations.{frame_at}
use Rattle.ipv4_fragments.specs.GroupNumbers.{AreNumbered}
use Rattle.ipv4_fragments.specs.Sorting.{AreSorted}
use Rattle.ipv4_fragments.proofs.GenerationSteps.{length_in_generations}
use Rattle.ipv4_fragments.proofs.Sorted.{with_extra, sorted_more}
use Rattle.ipv4_fragments.proofs.sorting.Sorting.add.Goals as goal

pub settle-requires-clause-place : goal.settle-requires-clause-place
settle-requires-clause-place c = (c.in_ok-kind.ensures.group c.requires.tells.0 c.args.self.now.groups.known c.requires.tells.1 c.requires.numbered c.len-next.ensures).0

pub returns-clause-holds : goal.returns-clause-holds
returns-clause-holds c = λ frames here before.
    let old = c.args.self.now in
    let window = old.generations.window in
    let kinds : List Kind = in_generations window frames in
    let frame = frame_at c.args.time c.args.kind.now in
    let kind = c.in_ok-kind.kind in
    let e = c.in_ok-class.ensures in
    let made = e.class (kept_of kinds) before.sorted.groups in
    let extra = with_extra old.groups.known kind in
    let now : AreSorted _ (kinds ++ kind ∷ []) = sorted_more old _ kinds kind c.args.number c.in_ok-class.class e.task.0 extra.0 (here ∙ sym (length_in_generations window frames)) before.sorted made.0 made.1 (e.groups ∙ extra.1) e.task.2 c.in_ok-push.ensures.items e.task.1 in
    let same : kinds ++ kind ∷ [] ≡ in_generations c.in_generation.new.generations.window (frames ++ frame ∷ [])
    = ap (λ (k : Kind). kinds ++ k ∷ []) (c.in_ok-kind.ensures.kind frames before.tells)
    ∙ sym (c.generation_law.ensures.frame window frames frame)
    ∙ ap (λ (w : ℕ). in_generations w (frames ++ frame ∷ [])) (sym c.in_generation.ensures.window) in
    let numbered = (c.in_ok-kind.ensures.group frames old.groups.known before.tells before.numbered c.len-next.ensures).1 in
    record {
      tells = c.in_ok-kind.ensures.tells frames before.tells;
      numbered = subst (AreNumbered c.in_generation.new.generations) (sym e.groups) numbered;
      sorted = subst (AreSorted _) same now;
    }
