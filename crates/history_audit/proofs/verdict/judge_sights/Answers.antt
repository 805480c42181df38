use Rattle.std.proofs.Common.{◌≡◌, ◌∙◌, ◌<◌, Bool, false, List, [], ◌∷◌, ◌++◌, length, ap, sym, subst, arith, Some, None, length-append}
use Rattle.std.specs.Option.{option_map}
use Rattle.serial_terms.specs.declared.call.Done.{Done}
use Rattle.serial_terms.specs.Entries.{Entry}
use Rattle.history_audit.specs.Begun.{records_in}
use Rattle.serial_terms.specs.Sights.{Seen, seen_of}
use Rattle.journal_terms.specs.Growing.{GoesOnByRecord, GoesOnBySight}
use Rattle.history_audit.specs.declared.lines.Sizes.{Sizes}
use Rattle.history_audit.specs.Replays.{FollowsHere, HasWatched, IsWatched}
use Rattle.history_audit.specs.Verdicts.{with_sights}
use Rattle.history_audit.proofs.Judging.{is_end, is_no_end, no_sight_line}
use Rattle.history_audit.proofs.Sighting.{records_here, unended_sight, ended_sights, sights_number, wrong_sight, follows_here, one_sight, no_record_first}
use Rattle.history_audit.proofs.verdict.judge_sights.Goals as goal

pub returns-in-None : goal.returns-in-None
returns-in-None c = λ text all. let r = c.lines.invariant.seen in
    unended_sight c.args.sizes (records_in c.args.records.now) c.args.lines.now c.lines.rest.now text c.lines.number r.0 r.1 all c.lines_are_named_law.ensures c.journals_grow_law.ensures
    c.cut.result.0.now (rw c.in-None.is at c.cut.ensures.cut)

pub returns-then-eq : goal.returns-then-eq
returns-then-eq c = λ text all. let r = c.lines.invariant.seen in
    let es : List (Entry Done) = records_in c.args.records.now in
    c.ended.ensures text (with_sights c.args.sizes es r.0) r.1.legal
    (ended_sights c.args.sizes es c.args.lines.now c.lines.rest.now text c.lines.number r.0 r.1 all c.lines_are_named_law.ensures c.cut.result.0.now c.in-Some.behind.now (rw c.in-Some.is at c.cut.ensures.cut)
    (is_end c.cut.result.0.now c.as_slice.result.now c.eq.result c.eq.ensures c.if-eq.true c.as_slice.ensures))
    (sights_number c.args.sizes es c.args.lines.now c.lines.rest.now text c.lines.number r.0 r.1 all c.lines_are_named_law.ensures)
    (let n = c.requires.number in omega (arith, n))
    r.3

pub returns-in-None-2 : goal.returns-in-None-2
returns-in-None-2 c = λ text all. let r = c.lines.invariant.seen in
    let es : List (Entry Done) = records_in c.args.records.now in
    wrong_sight c.args.sizes es c.args.lines.now c.lines.rest.now text c.lines.number r.0 r.1 all c.lines_are_named_law.ensures c.journals_grow_law.ensures
    c.cut.result.0.now c.in-Some.behind.now (rw c.in-Some.is at c.cut.ensures.cut)
    (is_no_end c.cut.result.0.now c.as_slice.result.now c.eq.result c.eq.ensures c.if-eq.false c.as_slice.ensures)
    (no_record_first c.what_suits_law.ensures c.args.sizes es c.args.lines.now c.lines.rest.now c.cut.result.0.now c.in-Some.behind.now c.lines.number r.0 r.1 c.requires.behind (rw c.in-Some.is at c.cut.ensures.cut))
    (λ (g : GoesOnBySight (with_sights c.args.sizes es r.0) c.cut.result.0.now).
    let s = follows_here c.sights_follow_law.ensures c.what_suits_law.ensures c.args.sizes es r.0 r.1.legal c.cut.result.0.now g in
    let found : option_map seen_of c.in_ok-sight.field-0 ≡ Some g.seen = (c.in_ok-sight.ensures g.seen).1 (s.1, g.text) in
    let bad : None ≡ Some g.seen = sym (ap (option_map seen_of) c.in-None-2.is) ∙ found in absurd (cc bad))

pub admit-requires : goal.admit-requires
admit-requires c = (records_in c.args.records.now, records_here c.args.sizes c.lines.replay (records_in c.args.records.now) c.lines.invariant.sized c.requires.legal (let n = c.requires.number in let s = c.requires.short in omega (arith, n, s)) c.lines.invariant.again)

pub returns-then-not-admitted : goal.returns-then-not-admitted
returns-then-not-admitted c = λ text all. let r = c.lines.invariant.seen in
    let es : List (Entry Done) = records_in c.args.records.now in
    let v : Seen Done = seen_of c.in-Some-2.sight in
    let is : option_map seen_of c.in_ok-sight.field-0 ≡ Some v = ap (option_map seen_of) c.in-Some-2.is in
    let refused : IsWatched false c.lines.replay.sizes es r.0 v c.admit.new.self
    = subst (λ (b : Bool). IsWatched b c.lines.replay.sizes es r.0 v c.admit.new.self) c.if-not-admitted.true (c.in_ok-admitted.ensures.exactly es r.0 (records_here c.args.sizes c.lines.replay (records_in c.args.records.now) c.lines.invariant.sized c.requires.legal (let n = c.requires.number in let s = c.requires.short in omega (arith, n, s)) c.lines.invariant.again) r.2) in
    wrong_sight c.args.sizes es c.args.lines.now c.lines.rest.now text c.lines.number r.0 r.1 all c.lines_are_named_law.ensures c.journals_grow_law.ensures
    c.cut.result.0.now c.in-Some.behind.now (rw c.in-Some.is at c.cut.ensures.cut)
    (is_no_end c.cut.result.0.now c.as_slice.result.now c.eq.result c.eq.ensures c.if-eq.false c.as_slice.ensures)
    (λ (g : GoesOnByRecord (with_sights c.args.sizes es r.0) c.cut.result.0.now). no_sight_line g.entry v (g.text ∙ sym ((c.in_ok-sight.ensures v).0 is).1))
    (λ (g : GoesOnBySight (with_sights c.args.sizes es r.0) c.cut.result.0.now).
    let s = follows_here c.sights_follow_law.ensures c.what_suits_law.ensures c.args.sizes es r.0 r.1.legal c.cut.result.0.now g in
    let found : option_map seen_of c.in_ok-sight.field-0 ≡ Some g.seen = (c.in_ok-sight.ensures g.seen).1 (s.1, g.text) in
    let both : Some v ≡ Some g.seen = sym is ∙ found in
    let same : g.seen ≡ v = cc in
    refused (subst (λ (z : Sizes). FollowsHere z es r.0 v) (sym c.lines.invariant.sized) (subst (λ (w : Seen Done). FollowsHere c.args.sizes es r.0 w) same s.0)))

pub lines-preserved : goal.lines-preserved
lines-preserved c = let r = c.lines.invariant.seen in
    let es : List (Entry Done) = records_in c.args.records.now in
    let v : Seen Done = seen_of c.in-Some-2.sight in
    let reads = (c.in_ok-sight.ensures v).0 (ap (option_map seen_of) c.in-Some-2.is) in
    let grown : HasWatched c.lines.replay.sizes es r.0 v c.admit.new.self
    = subst (λ (b : Bool). IsWatched b c.lines.replay.sizes es r.0 v c.admit.new.self) c.if-not-admitted.false (c.in_ok-admitted.ensures.exactly es r.0 (records_here c.args.sizes c.lines.replay (records_in c.args.records.now) c.lines.invariant.sized c.requires.legal (let n = c.requires.number in let s = c.requires.short in omega (arith, n, s)) c.lines.invariant.again) r.2) in
    let shorter : length c.in-Some.behind.now < length c.lines.rest.now = rw c.in-Some.is at c.cut.ensures.shorter in
    let counted = r.3 in
    record {
      seen = (
        r.0 ++ v ∷ [],
        one_sight c.sights_follow_law.ensures c.what_suits_law.ensures c.args.sizes es c.args.lines.now c.lines.rest.now c.cut.result.0.now c.in-Some.behind.now c.lines.number r.0 v r.1
            reads.0 reads.1 (rw c.in-Some.is at c.cut.ensures.cut) (subst (λ (z : Sizes). FollowsHere z es r.0 v) c.lines.invariant.sized grown.follows),
        grown.order,
        omega (arith, counted, length-append r.0 (v ∷ [])),
      );
      again = grown.replay;
      sized = c.in_ok-admitted.ensures.sizes ∙ c.lines.invariant.sized;
      bound = let low = c.lines.invariant.bound in omega (arith, low, shorter);
    }
