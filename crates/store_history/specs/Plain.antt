-- A store of plain cells alone, of which the first has a limit.
use Rattle.std.proofs.Common.{◌≡◌, ℕ, zero, suc, ◌<◌, ◌≤◌, List, [], ◌∷◌, length, map, get_or, set, sym, refl, ap, ◌∙◌, subst, arith, length-set}
use Rattle.std.specs.Prelude.{None}
use mathlib.Core.Path.{fun_ext}
use Rattle.serial_terms.specs.declared.call.Call.TheVariants.{CellPut}
use Rattle.serial_terms.specs.declared.call.Done.{Done}
use Rattle.serial_terms.specs.declared.call.Reply.TheVariants.{Nothing}
use Rattle.serial_terms.specs.Counts.{with_at}
use Rattle.serial_terms.specs.Facts.{with_at_same, with_at_other}
use Rattle.serial_terms.specs.Histories.{Runs}
use Rattle.serial_terms.specs.Renaming.{NamedDone, by_key, by_name}
use Rattle.serial_terms.specs.Serial.{State, Sequence, pool_of, outside, IsWithinCapacity}
use Rattle.cell_table.specs.Cells.{AllHold, after}
use Rattle.store_history.specs.Meanings.{Explains, IsLawful}

abbrev pub no_values : Sequence
no_values = record { items = []; capacity = 0 }

abbrev pub plain_state : List ℕ → State
plain_state cells = record { maps = λ m k. None; queues = λ q. no_values; pools = λ p. pool_of 0 []; logs = λ l. no_values; cells = λ c. get_or cells c 0 }

abbrev pub IsThere : List ℕ → Type 0
IsThere cells = 0 < length cells

-- the first cell is within the limit
abbrev pub IsLimited : ℕ → State → Type 0
IsLimited limit s = s.cells 0 ≤ limit

-- one call, which puts a value within the limit into the first cell
abbrev pub IsPut : ℕ → List Done → Type 0
IsPut limit dones = (value : ℕ) × (value ≤ limit) × (dones ≡ outside (CellPut 0 value) Nothing ∷ [])

-- no call has a key
abbrev pub unkeyed : List Done → List NamedDone
unkeyed dones = map (λ d. record { done = d; name = 0 }) dones

abbrev pub IsPlainLawful : ℕ → List ℕ → Type 0
IsPlainLawful limit = IsLawful IsThere plain_state (IsLimited limit)

abbrev pub IsPlainRecord : ℕ → List (ℕ × ℕ) → List (ℕ × ℕ) → List Done → Type 0
IsPlainRecord limit observations writes dones = IsPut limit (by_key (unkeyed dones)) × Explains IsThere plain_state observations writes (by_name (unkeyed dones))

pub plain_within : (cells : List ℕ) → IsThere cells → IsWithinCapacity (plain_state cells)
plain_within cells l = record { queues = λ q. omega arith; logs = λ l. omega arith }

by_own_keys : (dones : List Done) → by_key (unkeyed dones) ≡ dones
by_own_keys [] = refl
by_own_keys (d ∷ ds) = ap (λ (z : List Done). d ∷ z) (by_own_keys ds)

-- by its name it is the same call
pub put_by_name : (limit : ℕ) (dones : List Done) → IsPut limit (by_key (unkeyed dones)) → IsPut limit (by_name (unkeyed dones))
put_by_name limit dones put = (put.0, put.1, ap (λ (z : List Done). by_name (unkeyed z)) (sym (by_own_keys dones) ∙ put.2))

put_in_cells : (value : ℕ) (cells : List ℕ) → IsThere cells → (c : ℕ) → with_at (λ d. get_or cells d 0) 0 value c ≡ get_or (set cells 0 value) c 0
put_in_cells value [] there c = absurd (omega arith)
put_in_cells value (x ∷ xs) there zero = with_at_same (λ d. get_or (x ∷ xs) d 0) 0 value 0 refl
put_in_cells value (x ∷ xs) there (suc c) = with_at_other (λ d. get_or (x ∷ xs) d 0) 0 value (suc c) (λ e. omega arith)

-- such a record leaves the first cell within the limit
pub keeps_limit : (limit : ℕ) (cells : List ℕ) (os ws : List (ℕ × ℕ)) (dones : List Done)
    → IsPlainLawful limit cells → AllHold cells os → IsPlainRecord limit os ws dones → IsPlainLawful limit (after cells ws)
keeps_limit limit cells os ws dones l h e =
    let r = e.1 cells l.0 h in let put = e.0 in
    let is : dones ≡ outside (CellPut 0 put.0) Nothing ∷ [] = sym (by_own_keys dones) ∙ put.2 in
    let run : Runs (plain_state cells) (outside (CellPut 0 put.0) Nothing ∷ []) (plain_state (after cells ws)) = subst (λ (z : List Done). Runs (plain_state cells) (by_name (unkeyed z)) (plain_state (after cells ws))) is r.1 in
    let left = ap (λ (s : State). s.cells 0) run.1 in let value = with_at_same (λ d. get_or cells d 0) 0 put.0 0 refl in let low = put.1 in
    (r.0, omega arith)

-- and a value that is put explains it
pub put_is_record : (limit value : ℕ) → value ≤ limit → IsPlainRecord limit [] ((0, value) ∷ []) (outside (CellPut 0 value) Nothing ∷ [])
put_is_record limit value l = (
  (value, l, refl),
  λ cells there hold. (
    (let n = length-set cells 0 value in omega arith),
    (refl, ap (λ (f : ℕ → ℕ). record (plain_state cells) { cells = f }) (fun_ext (put_in_cells value cells there))),
  ),
)

-- the same of lists that are these
pub is_put : (limit value : ℕ) (os ws : List (ℕ × ℕ)) (dones : List Done)
    → value ≤ limit → os ≡ [] → ws ≡ (0, value) ∷ [] → dones ≡ outside (CellPut 0 value) Nothing ∷ [] → IsPlainRecord limit os ws dones
is_put limit value os ws dones l o w d = subst (λ (z : List (ℕ × ℕ)). IsPlainRecord limit z ws dones) (sym o)
    (subst (λ (z : List (ℕ × ℕ)). IsPlainRecord limit [] z dones) (sym w)
    (subst (λ (z : List Done). IsPlainRecord limit [] ((0, value) ∷ []) z) (sym d) (put_is_record limit value l)))
