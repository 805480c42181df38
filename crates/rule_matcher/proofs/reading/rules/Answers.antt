use Rattle.std.proofs.Common.{◌≡◌, length, sym, arith, refl}
use Rattle.std.proofs.lemmas.Grind.{common_steps}
use Rattle.rule_matcher.proofs.Lines.{reads_none, reads_more, cause_of, whole_text}
use Rattle.rule_matcher.proofs.Named.{no_names}
use Rattle.rule_matcher.proofs.reading.rules.Goals as goal

pub returns-in-Ok-clause-rules : goal.returns-in-Ok-clause-rules
returns-in-Ok-clause-rules c =
    let none : length c.loop-rest.rest.now ≡ 0 = grind (arith, common_steps) in
    rw c.in-Ok.ensures (whole_text _ _ _ _ c.loop-rest.invariant.reads none)

pub loop-rest-init : goal.loop-rest-init
loop-rest-init c =
    let empty = c.new-rules.ensures.items in
    record {
      reads = reads_none c.args.text.now _ empty;
      names = no_names _ _ c.new-names.ensures.empty empty;
      short = omega arith;
    }

pub loop-rest-preserved : goal.loop-rest-preserved
loop-rest-preserved c = record {
  reads = reads_more c.args.text.now c.loop-rest.rest.now c.first_line.result.1.now c.first_line.result.0.now c.loop-rest.number c.loop-rest.rules.items c.read_line.new.rules.items c.loop-rest.invariant.reads c.first_line.ensures.lines c.in_default.ensures.read;
  names = c.in_default.ensures.names;
  short = omega arith;
}

pub returns-in-Err-clause-cause : goal.returns-in-Err-clause-cause
returns-in-Err-clause-cause c =
    cause_of c.args.text.now c.loop-rest.rest.now c.first_line.result.1.now c.first_line.result.0.now c.loop-rest.number c.loop-rest.rules.items c.in-Err.end c.loop-rest.invariant.reads c.first_line.ensures.lines c.in-Err.ensures.cause
