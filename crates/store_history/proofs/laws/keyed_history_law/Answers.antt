use Rattle.store_history.proofs.Keyed.{keyed}
use Rattle.store_history.proofs.laws.keyed_history_law.Goals as goal

pub returns : goal.returns
returns g c = λ words is settled. keyed g.M.Meaning.lawful g.M.StateMeaning.named g.M.StateMeaning.state_of g.M.Lawful.lawful_state g.M.Lawful.allowed c.args._meaning.now c.args._pass.now words.values
    c.order_is_unique_law.ensures c.renaming_keeps_histories_law.ensures c.lawful_runs_are_legal_law.ensures (c.last_history_law.ensures words is settled)
