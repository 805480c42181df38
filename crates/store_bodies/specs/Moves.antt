-- The calls by which an order is carried out.
use Rattle.std.specs.Prelude.{ℕ, ◌+◌, ◌-◌, ◌/◌, ◌%◌, ◌≤◌, List, [], ◌∷◌, ◌++◌}
use Rattle.serial_terms.specs.declared.call.Call.TheVariants.{MapGet, MapPut, Dequeue, Append}
use Rattle.serial_terms.specs.declared.call.Reply.TheVariants.{Nothing, Absent, Value}
use Rattle.serial_terms.specs.declared.call.Done.{Done}
use Rattle.serial_terms.specs.Serial.{outside, found}
use Rattle.store_bodies.specs.Bank.{balance}
use Rattle.store_bodies.specs.declared.carry_out.Asked.{Asked}
use Rattle.store_bodies.specs.declared.carry_out.Progress.{Progress}
use Rattle.store_bodies.specs.declared.carry_out.Progress.TheVariants.{NoOrder, Declined, Done as Carried}

-- an order is one number: the sender's account, the receiver's, and the amount
abbrev pub sender_in : ℕ → ℕ
sender_in order = order % 4

abbrev pub receiver_in : ℕ → ℕ
receiver_in order = order / 4 % 4

abbrev pub amount_in : ℕ → ℕ
amount_in order = order / 16

-- the order is taken out of the queue, and its two accounts are looked at
abbrev pub looks : Asked → List Done
looks a =
    outside (Dequeue 0) (Value a.order) ∷
    outside (MapGet 0 (sender_in a.order)) (found a.sender) ∷
    outside (MapGet 1 (receiver_in a.order)) (found a.receiver) ∷ []

-- the amount leaves the one account and goes to the other, and has its receipt
abbrev pub moves : Asked → List Done
moves a =
    outside (MapPut 0 (sender_in a.order) (balance a.sender - amount_in a.order)) Nothing ∷
    outside (MapPut 1 (receiver_in a.order) (balance a.receiver + amount_in a.order)) Nothing ∷
    outside (Append 0 (amount_in a.order)) Nothing ∷ []

-- all that one run did
abbrev pub calls_of : Progress → List Done
calls_of NoOrder = outside (Dequeue 0) Absent ∷ []
calls_of (Declined a) = looks a
calls_of (Carried a) = looks a ++ moves a

-- what was moved was there
abbrev pub WasThere : Progress → Type 0
WasThere NoOrder = Unit {0}
WasThere (Declined a) = Unit {0}
WasThere (Carried a) = amount_in a.order ≤ balance a.sender
