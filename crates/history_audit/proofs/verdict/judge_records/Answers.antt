use Rattle.std.proofs.Common.{List}
use Rattle.std.proofs.Common.{◌≡◌, ◌∙◌, ◌<◌, Bool, false, [], ◌∷◌, ◌++◌, length, refl, ap, sym, subst, arith, Some, None, codes}
use Rattle.std.specs.Option.{option_map}
use Rattle.journal_terms.specs.Reading.{cut_at}
use Rattle.history_audit.specs.Verdicts.{HasRead}
use Rattle.history_audit.proofs.Beginning.{records_more, records_end}
use Rattle.serial_terms.specs.declared.call.Done.{Done}
use Rattle.serial_terms.specs.Entries.{Entry, by_caller}
use Rattle.serial_terms.specs.Histories.{entry_of, IsLegalRun}
use Rattle.journal_terms.specs.Growing.{without_sights, GoesOnByRecord, GoesOnBySight, IsSecond, IsNext, last_of}
use Rattle.journal_terms.specs.Legal.{IsRecordIn}
use Rattle.history_audit.specs.declared.lines.Sizes.{Sizes}
use Rattle.history_audit.specs.Ledgers.{HasGrown, IsAdmitted, layout_of}
use Rattle.history_audit.specs.Structures.{IsListed}
use Rattle.history_audit.specs.Verdicts.{with_records}
use Rattle.history_audit.proofs.Judging.{unended_line, ended_here, ended_number, wrong_line, no_sight_line, is_end, is_no_end, caller_most, none_seen, read_on, read_record, read_nothing}
use Rattle.history_audit.proofs.verdict.judge_records.Goals as goal

pub lines-init : goal.lines-init
lines-init c = record {
  sizes = c.in_ok-ledger.ensures.sizes;
  read = ([], (read_nothing c.beginnings_are_legal_law.ensures c.args.second c.args.sizes c.args.lines.now c.requires.sizes, c.in_ok-ledger.ensures.ledger, refl));
  bound = omega arith;
}

pub returns-in-None : goal.returns-in-None
returns-in-None c = λ text all. let r = c.lines.invariant.read in
    unended_line c.args.second c.args.sizes c.args.lines.now c.lines.rest.now text c.lines.number r.0 r.1.0 all c.lines_are_named_law.ensures c.journals_grow_law.ensures
    c.cut.result.0.now (rw c.in-None.is at c.cut.ensures.cut)

pub returns-then-eq : goal.returns-then-eq
returns-then-eq c = λ text all. let r = c.lines.invariant.read in
    let last : c.cut.result.0.now ≡ codes "end" = is_end c.cut.result.0.now c.as_slice.result.now c.eq.result c.eq.ensures c.if-eq.true c.as_slice.ensures in
    c.ended.ensures text (with_records c.args.second c.args.sizes r.0) r.1.0.legal
    (ended_here c.args.second c.args.sizes c.args.lines.now c.lines.rest.now text c.lines.number r.0 r.1.0 all c.lines_are_named_law.ensures c.cut.result.0.now c.in-Some.behind.now (rw c.in-Some.is at c.cut.ensures.cut) last)
    (ended_number c.args.second c.args.sizes c.args.lines.now c.lines.rest.now text c.lines.number r.0 r.1.0 all c.lines_are_named_law.ensures)
    (c.records.ensures ∙ r.1.1.records)
    (sym (ap length (none_seen c.args.second)))

pub returns-in-None-2-2 : goal.returns-in-None-2-2
returns-in-None-2-2 c = λ text all. let r = c.lines.invariant.read in
    wrong_line c.args.second c.args.sizes c.args.lines.now c.lines.rest.now text c.lines.number r.0 r.1.0 all c.lines_are_named_law.ensures c.journals_grow_law.ensures
    c.cut.result.0.now c.in-Some.behind.now (rw c.in-Some.is at c.cut.ensures.cut)
    (is_no_end c.cut.result.0.now c.as_slice.result.now c.eq.result c.eq.ensures c.if-eq.false c.as_slice.ensures)
    (λ (g : GoesOnByRecord (with_records c.args.second c.args.sizes r.0) c.cut.result.0.now).
    let s = read_record c.what_suits_law.ensures c.args.second c.args.sizes c.args.lines.now c.lines.rest.now c.cut.result.0.now c.lines.number r.0 r.1.0 g in
    let found : option_map entry_of c.in_ok-record.field-0 ≡ Some g.entry = (c.in_ok-record.ensures g.entry).1 (s.1, g.text) in
    let bad : None ≡ Some g.entry = sym (ap (option_map entry_of) c.in-None-2-2.is) ∙ found in absurd (cc bad))
    (λ (g : GoesOnBySight (with_records c.args.second c.args.sizes r.0) c.cut.result.0.now).
    subst (λ (b : Bool). IsSecond (without_sights b)) c.if-second.false g.second)

pub admit-requires : goal.admit-requires
admit-requires c = let r = c.lines.invariant.read in
    let l = r.1.1 in
    let many = l.records in
    let at = r.1.0.number_is in
    let low = c.lines.invariant.bound in
    let short = c.requires.short in
    record {
      listed = subst IsListed (sym l.state) l.listed;
      records = omega (arith, many, at, low, short);
      counts = λ k lt. let own = l.counts k lt in let most = caller_most k r.0 in omega (arith, own, most, many);
    }

pub returns-then-not-admitted : goal.returns-then-not-admitted
returns-then-not-admitted c = λ text all. let r = c.lines.invariant.read in
    let e : Entry Done = entry_of c.in-Some-2.record in
    let is : option_map entry_of c.in_ok-record.field-0 ≡ Some e = ap (option_map entry_of) c.in-Some-2.is in
    let refused : IsAdmitted false c.lines.ledger.sizes r.0 r.1.0.end e c.admit.new.self
    = subst (λ (b : Bool). IsAdmitted b c.lines.ledger.sizes r.0 r.1.0.end e c.admit.new.self) c.if-not-admitted.true (c.in_ok-admitted.ensures.exactly r.0 r.1.0.end r.1.1) in
    wrong_line c.args.second c.args.sizes c.args.lines.now c.lines.rest.now text c.lines.number r.0 r.1.0 all c.lines_are_named_law.ensures c.journals_grow_law.ensures
    c.cut.result.0.now c.in-Some.behind.now (rw c.in-Some.is at c.cut.ensures.cut)
    (is_no_end c.cut.result.0.now c.as_slice.result.now c.eq.result c.eq.ensures c.if-eq.false c.as_slice.ensures)
    (λ (g : GoesOnByRecord (with_records c.args.second c.args.sizes r.0) c.cut.result.0.now).
    let s = read_record c.what_suits_law.ensures c.args.second c.args.sizes c.args.lines.now c.lines.rest.now c.cut.result.0.now c.lines.number r.0 r.1.0 g in
    let found : option_map entry_of c.in_ok-record.field-0 ≡ Some g.entry = (c.in_ok-record.ensures g.entry).1 (s.1, g.text) in
    let both : Some e ≡ Some g.entry = sym is ∙ found in
    let same : g.entry ≡ e = cc in
    refused
    (subst (λ (z : Sizes). IsRecordIn (layout_of z) e) (sym c.lines.invariant.sizes) (subst (λ (z : Entry Done). IsRecordIn (layout_of c.args.sizes) z) same s.0.within))
    (subst (λ (z : Entry Done). IsNext (last_of r.0) (length (by_caller z.caller r.0)) z) same s.0.next)
    s.0.run.0
    (subst (λ (z : Entry Done). IsLegalRun r.1.0.end (z ∷ []) s.0.run.0) same s.0.run.1))
    (λ (g : GoesOnBySight (with_records c.args.second c.args.sizes r.0) c.cut.result.0.now).
    no_sight_line e g.seen (((c.in_ok-record.ensures e).0 is).1 ∙ sym g.text))

pub lines-preserved : goal.lines-preserved
lines-preserved c = let r = c.lines.invariant.read in
    let e : Entry Done = entry_of c.in-Some-2.record in
    let reads = (c.in_ok-record.ensures e).0 (ap (option_map entry_of) c.in-Some-2.is) in
    let grown : HasGrown c.lines.ledger.sizes r.0 r.1.0.end e c.admit.new.self
    = subst (λ (b : Bool). IsAdmitted b c.lines.ledger.sizes r.0 r.1.0.end e c.admit.new.self) c.if-not-admitted.false (c.in_ok-admitted.ensures.exactly r.0 r.1.0.end r.1.1) in
    let shorter : length c.in-Some.behind.now < length c.lines.rest.now = rw c.in-Some.is at c.cut.ensures.shorter in
    record {
      sizes = c.in_ok-admitted.ensures.sizes ∙ c.lines.invariant.sizes;
      read = (
        r.0 ++ e ∷ [],
        (
          read_on c.what_suits_law.ensures c.histories_grow_law.ensures c.args.second c.args.sizes c.args.lines.now c.lines.rest.now c.cut.result.0.now c.in-Some.behind.now c.lines.number r.0 r.1.0 e grown.after.0
              reads.0 reads.1 (rw c.in-Some.is at c.cut.ensures.cut)
              (subst (λ (z : Sizes). IsRecordIn (layout_of z) e) c.lines.invariant.sizes grown.within) grown.next grown.after.1,
          grown.after.2,
          records_more c.args.lines.now c.lines.rest.now c.cut.result.0.now c.in-Some.behind.now r.0 e r.1.2 (rw c.in-Some.is at c.cut.ensures.cut) ((c.lines_are_read_law.ensures.records c.cut.result.0.now e).1 reads),
        ),
      );
      bound = let low = c.lines.invariant.bound in omega (arith, low, shorter);
    }

pub returns-in-None-2 : goal.returns-in-None-2
returns-in-None-2 c = λ text all. let r = c.lines.invariant.read in (
  c.if-second.true,
  subst (λ (es : List (Entry Done)). HasRead c.args.second c.args.sizes c.args.lines.now c.lines.rest.now c.lines.number es)
      (sym (records_end c.args.lines.now c.lines.rest.now c.cut.result.0.now c.in-Some.behind.now r.0 r.1.2 (rw c.in-Some.is at c.cut.ensures.cut)
      (λ e read. let s = (c.lines_are_read_law.ensures.records c.cut.result.0.now e).0 read in
      let found : option_map entry_of c.in_ok-record.field-0 ≡ Some e = (c.in_ok-record.ensures e).1 s in
      let bad : None ≡ Some e = sym (ap (option_map entry_of) c.in-None-2.is) ∙ found in absurd (cc bad)))) r.1.0,
  λ line behind cutting e readable text_is.
      let both : c.cut.result.0.now ∷ cut_at 10 c.in-Some.behind.now ≡ line ∷ behind = sym (rw c.in-Some.is at c.cut.ensures.cut) ∙ cutting in
      let same : line ≡ c.cut.result.0.now = cc in
      let found : option_map entry_of c.in_ok-record.field-0 ≡ Some e = (c.in_ok-record.ensures e).1 (readable, text_is ∙ same) in
      let bad : None ≡ Some e = sym (ap (option_map entry_of) c.in-None-2.is) ∙ found in absurd (cc bad),
  c.lines.invariant.bound,
)
