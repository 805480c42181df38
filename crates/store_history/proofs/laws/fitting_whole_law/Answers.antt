use Rattle.store_history.proofs.Now.{whole}
use Rattle.store_history.proofs.laws.fitting_whole_law.Goals as goal

pub returns : goal.returns
returns g c = λ p fits there is. whole g.M.Meaning.lawful g.M.Meaning.explains g.M.StateMeaning.named g.M.StateMeaning.formed g.M.StateMeaning.state_of g.M.Lawful.lawful_state g.M.Lawful.allowed
    g.M.StateMeaning.within g.met.M.StateMeaning.lawful_means g.met.M.StateMeaning.explains_means c.args._meaning.now p
    c.merged_is_running_law.ensures c.running_is_legal_law.ensures c.running_stays_lawful_law.ensures fits there is
