use Rattle.std.proofs.Common.{◌≡◌, ◌≤◌, ◌+◌, ◌++◌, List, length}
use Rattle.serial_terms.specs.declared.call.Done.{Done}
use Rattle.serial_terms.specs.Entries.{Entry}
use Rattle.history_audit.specs.Begun.{records_in}
use Rattle.history_audit.specs.Ledgers.{IsLedgerOf}
use Rattle.history_audit.specs.Verdicts.{HasRead}
use Rattle.history_audit.proofs.verdict.judge_records.Given as goal

abbrev pub invariant-lines : goal.invariant-lines
invariant-lines l = record {
  sizes : l.ledger.sizes ≡ l.fn.sizes;
  read : (es : List (Entry Done)) × ((h : HasRead l.second l.fn.sizes l.lines l.rest l.number es) × IsLedgerOf l.ledger es h.end × (records_in l.lines ≡ es ++ records_in l.rest));
  bound : l.number + length l.rest ≤ 3 + length l.lines;
}

abbrev pub decreases-lines : goal.decreases-lines
decreases-lines l = length l.rest
