use Rattle.std.proofs.Common.{◌≡◌, ◌∙◌, ap, ◌++◌, List, ℕ}
use Rattle.serial_terms.specs.declared.call.Done.{Done}
use Rattle.serial_terms.specs.Sights.{seen_of}
use Rattle.std.specs.Fmt.{decimal}
use Rattle.journal_terms.specs.Text.{calls_text}
use Rattle.journal_writer.specs.Texts.{spaced}
use Rattle.journal_writer.proofs.Joined.{sight_joined}
use Rattle.journal_writer.proofs.lines.push_sight.Goals as goal

pub returns : goal.returns
returns c =
    let caller : c.from.result ≡ c.args.sight.now.caller = c.from.ensures in
    sight_joined (seen_of c.args.sight.now) _ _ _ _ _ _ _ _ _
    c.in_ok-push.ensures.items c.in_ok-push_number.ensures c.in_ok-push_end.ensures (c.in_ok-push_number-2.ensures ∙ ap (λ (n : ℕ). c.push_end.new.text.items ++ spaced (decimal n)) caller) c.in_ok-push_number-3.ensures c.in_ok-push-2.ensures.items
    (c.in_ok-push_calls.ensures ∙ ap (λ (ds : List Done). c.push-2.new.self.items ++ calls_text ds) c.as_slice.ensures)
    c.in_ok-push-3.ensures.items
