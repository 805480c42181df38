use Rattle.std.proofs.lemmas.Result.{on_ok_weaker}
use Rattle.journal_writer.proofs.Joined.{first_split, calls_joined}
use Rattle.journal_writer.proofs.calls.push_calls.Goals as goal

pub returns-in_ok-push_done-in-len1-up : goal.returns-in_ok-push_done-in-len1-up
returns-in_ok-push_done-in-len1-up c =
    on_ok_weaker c.push_further.result
    (λ third. calls_joined c.args.dones.now _ _ _ _ _ _ (first_split c.args.dones.now _ c.in-len1-up.len_at_least) c.in_ok-push-in-len1-up.ensures.items c.in_ok-push_done-in-len1-up.ensures third)
    c.push_further.ensures
