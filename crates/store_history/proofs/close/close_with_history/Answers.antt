use Rattle.std.proofs.Common.{Some, ap, sym, ◌∙◌, subst}
use Rattle.store_history.specs.Histories.{LastHistory}
use Rattle.store_history.specs.Keyed.{KeyedHistory}
use Rattle.store_history.proofs.close.close_with_history.Goals as goal

pub returns-clause-names : goal.returns-clause-names
returns-clause-names g c = let same = c.meaning-meaning.ensures in
    subst (λ (m : g.row.M.Denot). LastHistory g.M.Meaning.lawful g.M.StateMeaning.named g.M.StateMeaning.state_of g.M.Lawful.lawful_state g.M.Lawful.allowed m c.args.pass c.close.result.values) same
    (c.last_history_law.ensures c.close.result (c.requires.of.1 ∙ ap (λ (m : g.row.M.Denot). Some m) (sym same)) c.close.ensures.settled)

pub returns-clause-keys : goal.returns-clause-keys
returns-clause-keys g c = let same = c.meaning-meaning.ensures in
    subst (λ (m : g.row.M.Denot). KeyedHistory g.M.Meaning.lawful g.M.StateMeaning.named g.M.StateMeaning.state_of g.M.Lawful.allowed m c.args.pass c.close.result.values) same
    (c.keyed_history_law.ensures c.close.result (c.requires.of.1 ∙ ap (λ (m : g.row.M.Denot). Some m) (sym same)) c.close.ensures.settled)
