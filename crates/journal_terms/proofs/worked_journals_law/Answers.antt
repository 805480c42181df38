use Rattle.std.proofs.Common.{refl, lit<, rules}
use Rattle.std.specs.Fmt.{digits}
use Rattle.journal_terms.proofs.worked_journals_law.Goals as goal

pub returns : goal.returns
unfolding digits
returns c = record { whole_frame = refl; fragments = refl; calls = refl; writable = record { tasks = lit< tt; groups = lit< tt; findings = lit< tt; records = (record { caller = lit< tt; index = lit< tt; place = lit< tt; dones = tt }, (record { caller = lit< tt; index = lit< tt; place = lit< tt; dones = search rules }, (record { caller = lit< tt; index = lit< tt; place = lit< tt; dones = search rules }, (record { caller = lit< tt; index = lit< tt; place = lit< tt; dones = search rules }, tt)))); sights = tt }; again = refl; sights = refl; sights_writable = record { tasks = lit< tt; groups = lit< tt; findings = lit< tt; records = tt; sights = (record { caller = lit< tt; after = lit< tt; place = lit< tt; end = tt; dones = tt }, (record { caller = lit< tt; after = lit< tt; place = lit< tt; end = tt; dones = tt }, (record { caller = lit< tt; after = lit< tt; place = lit< tt; end = (lit< tt, lit< tt, lit< tt); dones = search rules }, (record { caller = lit< tt; after = lit< tt; place = lit< tt; end = tt; dones = search rules }, tt)))) } }
