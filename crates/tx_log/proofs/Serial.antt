-- What each call makes of a log is what the serial log replies and becomes.
use Rattle.std.proofs.Common.{◌≡◌, ℕ, List, Option, refl, sym, ap, ◌∙◌}
use Rattle.serial_terms.specs.Facts.{with_at_own}
use Rattle.serial_terms.specs.Serial.{State, Sequence, put_log, found, Allows}
use Rattle.serial_terms.specs.Serial as serial
use Rattle.serial_terms.specs.declared.call.Call.TheVariants.{Append, AppendPlaced, LogRead, LogLen}
use Rattle.serial_terms.specs.declared.call.Reply.TheVariants.{Nothing, Value}
use Rattle.tx_core.specs.Sequences.{Appends, HasLength}
use Rattle.tx_log.specs.Log.{AppendsAt, HasAt}

-- a log that stays leaves the state
same_state : (s : State) (l : ℕ) (then : List ℕ) → then ≡ (s.logs l).items → s ≡ put_log s l then
same_state s l then is = ap (λ (f : ℕ → Sequence). record s { logs = f }) (sym (with_at_own s.logs l)) ∙ ap (put_log s l) (sym is)

pub serial_append : (s : State) (l value : ℕ) (then : List ℕ) → Appends value (s.logs l).items then → Allows s (Append l value) Nothing × (serial.after s (Append l value) Nothing ≡ put_log s l then)
serial_append s l value then is = (refl, ap (put_log s l) (sym is))

pub serial_append_placed : (s : State) (l value place : ℕ) (then : List ℕ) → AppendsAt value place (s.logs l).items then → Allows s (AppendPlaced l value) (Value place) × (serial.after s (AppendPlaced l value) (Value place) ≡ put_log s l then)
serial_append_placed s l value place then is = (ap (λ n. Value n) is.0, ap (put_log s l) (sym is.1))

pub serial_read : (s : State) (l i : ℕ) (x : Option ℕ) (then : List ℕ) → HasAt i x (s.logs l).items then → Allows s (LogRead l i) (found x) × (serial.after s (LogRead l i) (found x) ≡ put_log s l then)
serial_read s l i x then is = (ap found is.0, same_state s l then is.1)

pub serial_len : (s : State) (l n : ℕ) (then : List ℕ) → HasLength n (s.logs l).items then → Allows s (LogLen l) (Value n) × (serial.after s (LogLen l) (Value n) ≡ put_log s l then)
serial_len s l n then is = (ap (λ k. Value k) is.0, same_state s l then is.1)
