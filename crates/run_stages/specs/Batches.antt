-- A run of many whole frames, for which the pool is filled once more.
use Rattle.std.specs.Prelude.{ℕ, zero, suc, ◌+◌, ◌-◌, ◌*◌, ◌^◌, ◌<◌, ◌≤◌, true, List, [], ◌∷◌, ◌++◌, replicate}
use Rattle.serial_terms.specs.declared.call.Call.TheVariants.{Enqueue, Dequeue, QueueLen, Take, Give, AppendPlaced, CellGet, CellPut}
use Rattle.serial_terms.specs.declared.call.Reply.TheVariants.{Nothing, Value, Flag}
use Rattle.serial_terms.specs.declared.call.Done.{Done}
use Rattle.serial_terms.specs.Entries.{Entry}
use Rattle.serial_terms.specs.Serial.{outside, in_child}
use Rattle.serial_terms.specs.Worked.{writes, reads, no_item, no_task}
use Rattle.run_stages.specs.Work.{Work}
use Rattle.run_stages.specs.Worked.{IsWholeRun, whole_task}

-- n whole frames, in each of which rule 0 finds its first pattern at place 8
unfoldable pub frames : ℕ → Work
frames n = record { tasks = replicate n whole_task; groups = 0; task_values = λ i. (i * 2 ^ 32 + 8) ∷ []; group_values = λ h. [] }

-- the turns of one worker over k tasks from the task i on: nothing is to be matched, the task is taken, and it is matched. The
-- item of the task i is 2 * i
unfoldable pub turns : ℕ → ℕ → ℕ → ℕ → List (Entry Done)
turns i place index zero = []
turns i place index (suc k) =
    reads 0 index place (no_item ∷ []) ∷
    writes 0 (index + 1) (place + 1) (outside (Take 0) (Value i) ∷ in_child (Enqueue 0 (2 * i)) Nothing ∷ []) ∷
    writes 0 (index + 2) (place + 2) (outside (Dequeue 0) (Value (2 * i)) ∷ in_child (AppendPlaced 0 (i * 2 ^ 32 + 8)) (Value i) ∷ []) ∷
    turns (i + 1) (place + 2) (index + 3) k

-- k tasks from the task i on are given
abbrev pub given_out : ℕ → ℕ → List Done
given_out i zero = []
given_out i (suc k) = outside (Give 0 i) (Flag true) ∷ given_out (i + 1) k

-- the first batch, the fill, and the tasks beyond the first batch
unfoldable pub batch_records : ℕ → List (Entry Done)
batch_records n =
    turns 0 0 0 4096 ++ (
    reads 0 12288 8192 (no_item ∷ []) ∷
    reads 0 12289 8192 (no_task ∷ []) ∷
    writes 0 12290 8193 (outside (QueueLen 0) (Value 0) ∷ outside (CellGet 0) (Value 0) ∷ outside (CellPut 0 1) Nothing ∷ given_out 4096 (n - 4096)) ∷
    (turns 4096 8193 12291 (n - 4096) ++ (
    reads 0 (3 * n + 3) (2 * n + 1) (no_item ∷ []) ∷
    reads 0 (3 * n + 4) (2 * n + 1) (no_task ∷ []) ∷ [])))

-- the records of 4,097 frames, and of up to 8,192, are a legal history of allowed records that ends in a finished lawful state
abbrev pub BatchesRun : Type 0
BatchesRun = (n : ℕ) → 4096 < n → n ≤ 8192 → IsWholeRun (frames n) 65536 (batch_records n)
