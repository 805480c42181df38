use Rattle.std.proofs.Common.{◌++◌, List, ℕ, refl, ap, ◌∙◌}
use Rattle.capture_generator.specs.Headers.{file_header}
use Rattle.capture_generator.proofs.Gained.{holds_none}
use Rattle.capture_generator.proofs.written.Written.new.Goals as goal

pub returns : goal.returns
returns c =
    holds_none c.args.limit _ refl refl
    (c.in_ok-extend_from_slice.ensures.items ∙ ap (λ (l : List ℕ). l ++ file_header) c.new-bytes.ensures.items)
