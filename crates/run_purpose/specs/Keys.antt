-- Where a map holds the keys below its capacity alone, each key is its own name: a record that is allowed is allowed by names.
use Rattle.std.specs.Prelude.{List}
use Rattle.std.proofs.Common.{sym, subst}
use Rattle.serial_terms.specs.declared.call.Done.{Done}
use Rattle.serial_terms.specs.Names.{own_calls}
use Rattle.serial_terms.specs.Ranges.{BelowCapacity}
use Rattle.serial_terms.specs.Renaming.{SameButKeys}
use Rattle.run_stages.specs.Allowed.{IsAllowed}
use Rattle.run_stages.specs.Work.{Work}

pub renamed_allowed : (w : Work) (dones others : List Done) → SameButKeys BelowCapacity dones others → IsAllowed w dones → IsAllowed w others
renamed_allowed w dones others same allowed = subst (IsAllowed w) (sym (own_calls BelowCapacity (λ c j low. low) dones others same)) allowed
