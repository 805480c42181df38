-- The worked journal is legal, and the wrong ones are not.
use Rattle.std.proofs.Common.{◌≡◌, ℕ, ◌<◌, ◌≤◌, ◌⊎◌, inl, inr, arith, rules, lit<, lit≤}
use Rattle.serial_terms.specs.RunLayout.{layout_by}
use Rattle.serial_terms.specs.Worked.{WorkedHistories}
use Rattle.serial_terms.specs.Wrong.{CallsAndLayouts}
use Rattle.journal_terms.specs.LegalRows.{LegalJournals}

pub legal_journals : WorkedHistories → CallsAndLayouts → LegalJournals
unfolding layout_by
legal_journals w h = let o = h.of_one_frame in record {
  whole_frame = record {
    writable = record {
      tasks = lit< tt;
      groups = lit< tt;
      findings = lit< tt;
      records = (
        record { caller = lit< tt; index = lit< tt; place = lit< tt; dones = search rules },
        (
          record { caller = lit< tt; index = lit< tt; place = lit< tt; dones = search rules },
          (
            record { caller = lit< tt; index = lit< tt; place = lit< tt; dones = search rules },
            (
              record { caller = lit< tt; index = lit< tt; place = lit< tt; dones = search rules },
              (
                record { caller = lit< tt; index = lit< tt; place = lit< tt; dones = search rules },
                (
                  record { caller = lit< tt; index = lit< tt; place = lit< tt; dones = search rules },
                  (record { caller = lit< tt; index = lit< tt; place = lit< tt; dones = search rules }, tt),
                ),
              ),
            ),
          ),
        ),
      );
      sights = tt;
    };
    sizes = record { tasks = lit≤ tt; groups = lit≤ tt; findings = (lit≤ tt, lit≤ tt) };
    records = (
      record { caller = lit< tt; place = lit< tt; calls = o.0 },
      (
        record { caller = lit< tt; place = lit< tt; calls = o.1.0 },
        (
          record { caller = lit< tt; place = lit< tt; calls = o.1.1.0 },
          (
            record { caller = lit< tt; place = lit< tt; calls = o.1.1.1.0 },
            (
              record { caller = lit< tt; place = lit< tt; calls = o.1.1.1.1.0 },
              (
                record { caller = lit< tt; place = lit< tt; calls = o.1.1.1.1.1.0 },
                (record { caller = lit< tt; place = lit< tt; calls = o.1.1.1.1.1.1.0 }, tt),
              ),
            ),
          ),
        ),
      ),
    );
    sights = tt;
    legal = (_, w.one_frame.legal);
    seen = w.one_frame.seen;
  };
  key_at_capacity = λ l. let low = l.records.0.calls.0.0.passing in omega arith;
  many_tasks = λ l. let s = l.sizes.tasks in omega arith;
  many_groups = λ l. let s = l.sizes.groups in omega arith;
  no_findings = λ l. let s = l.sizes.findings.0 in omega arith;
  many_findings = λ l. let s = l.sizes.findings.1 in omega arith;
  caller_too_great = λ l. let s = l.records.0.caller in omega arith;
  place_too_great = λ l. let s = l.records.0.place in omega arith;
  value_too_great = λ l. let s = l.records.0.calls.0.1 in omega arith;
  index_missing = λ l. let s = (l.legal.1.counted 0).0 in omega arith;
  third_part = λ l. let s = l.sights.0.end in omega arith;
  place_falls = λ l. falls 1 0 0 0 (omega arith) l.seen.order.0.0;
  after_too_many = λ l. let s = l.seen.after.0.counted in omega arith;
}
  where
    falls : (m n c d : ℕ) → n < m → (m < n) ⊎ ((m ≡ n) × (c ≤ d)) → ⊥
    falls m n c d h (inl x) = omega arith
    falls m n c d h (inr x) = let same = x.0 in omega arith
