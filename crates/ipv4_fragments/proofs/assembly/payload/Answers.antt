use Rattle.std.proofs.Common.{◌≤◌, List, sym, subst, length}
use Rattle.std.specs.Prelude.{All, IsSomeAnd, slice_get}
use Rattle.capture_terms.specs.declared.plan.Task.{Task}
use Rattle.ipv4_fragments.specs.Payload.{AreThere, Agree, Stands, end_at}
use Rattle.ipv4_fragments.proofs.Fills.{agree, there, fills, fits}
use Rattle.ipv4_fragments.proofs.assembly.payload.Goals as goal

pub assembled-requires-clause-there : goal.assembled-requires-clause-there
assembled-requires-clause-there c =
    let d = c.requires.tasks in
    subst (λ (l : List Task). AreThere 65535 c.args.bytes.now l c.args.tasks.now) (sym c.deref.ensures.value) (there c.args.bytes.now c.args.plan.now.tasks.items c.args.tasks.now d.0 (c.numbers_law.ensures _ _ d.0 d.1) (c.datagram_law.ensures c.args.bytes.now c.requires.plan.capture c.requires.plan.window c.args.plan.now c.args.tasks.now d.0 c.requires.plan.fine c.requires.plan.is d.1))

pub assembled-requires-clause-agree : goal.assembled-requires-clause-agree
assembled-requires-clause-agree c =
    let d = c.requires.tasks in
    subst (λ (l : List Task). Agree c.args.bytes.now l c.args.tasks.now) (sym c.deref.ensures.value) (agree c.args.bytes.now c.args.plan.now.tasks.items c.args.tasks.now d.0 (c.numbers_law.ensures _ _ d.0 d.1) (c.datagram_law.ensures c.args.bytes.now c.requires.plan.capture c.requires.plan.window c.args.plan.now c.args.tasks.now d.0 c.requires.plan.fine c.requires.plan.is d.1))

pub returns-clause-bytes : goal.returns-clause-bytes
returns-clause-bytes c = λ datagram at.
    let bytes = c.args.bytes.now in
    let tasks = c.args.plan.now.tasks.items in
    let numbers = c.args.tasks.now in
    let whole = c.in_ok-whole.whole.items in
    let e = c.in_ok-whole.ensures in
    fills bytes tasks numbers datagram (c.numbers_law.ensures tasks numbers datagram at) (c.datagram_law.ensures bytes c.requires.plan.capture c.requires.plan.window c.args.plan.now numbers datagram c.requires.plan.fine c.requires.plan.is at) c.packing_law.ensures.exact whole
    (subst (λ (l : List Task). All (λ number. IsSomeAnd (slice_get l number) (Stands bytes whole)) numbers) c.deref.ensures.value e.stands)
    (subst (λ (l : List Task). All (λ number. end_at l number ≤ length whole) numbers) c.deref.ensures.value e.most)
    (λ end all. e.least end (subst (λ (l : List Task). All (λ number. end_at l number ≤ end) numbers) (sym c.deref.ensures.value) all))

pub returns-clause-short : goal.returns-clause-short
returns-clause-short c =
    let bytes = c.args.bytes.now in
    let tasks = c.args.plan.now.tasks.items in
    let numbers = c.args.tasks.now in
    let whole = c.in_ok-whole.whole.items in
    let e = c.in_ok-whole.ensures in
    let d = c.requires.tasks in
    fits bytes tasks numbers d.0 (c.numbers_law.ensures tasks numbers d.0 d.1) (c.datagram_law.ensures c.args.bytes.now c.requires.plan.capture c.requires.plan.window c.args.plan.now c.args.tasks.now d.0 c.requires.plan.fine c.requires.plan.is d.1) c.packing_law.ensures.exact whole
    (subst (λ (l : List Task). All (λ number. IsSomeAnd (slice_get l number) (Stands bytes whole)) numbers) c.deref.ensures.value e.stands)
    (subst (λ (l : List Task). All (λ number. end_at l number ≤ length whole) numbers) c.deref.ensures.value e.most)
    (λ end all. e.least end (subst (λ (l : List Task). All (λ number. end_at l number ≤ end) numbers) (sym c.deref.ensures.value) all))
