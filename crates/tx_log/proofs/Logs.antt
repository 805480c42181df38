-- The entries of a log, and what leaves them as they are.
use Rattle.std.proofs.Common.{◌≡◌, ℕ, ◌+◌, ◌-◌, ◌<◌, List, length, take, drop, get_or, sym, ap, ◌∙◌, arith}
use Rattle.std.specs.Prelude.{slice_index}
use Rattle.std.proofs.lemmas.List.{length-map, length-take-le, length-drop, get_or-map, get_or-take, get_or-drop, same_lists}
use Rattle.tx_log.specs.Log.{IsLog, IsOfLog, length_in, word_in, values_in}
use Rattle.tx_log.specs.declared.part.LogPart.{LogPart}

module _ (log : LogPart) where
  length-entries : (cells : List ℕ) → IsLog log cells → length (take (length_in log cells) (drop (log.end + 1) cells)) ≡ length_in log cells
  length-entries cells is = length-take-le (length_in log cells) (drop (log.end + 1) cells) (omega (arith, length-drop (log.end + 1) cells, is.in_table, is.within))

  pub length-values : (cells : List ℕ) → IsLog log cells → length (values_in log cells) ≡ length_in log cells
  length-values cells is = length-map (take (length_in log cells) (drop (log.end + 1) cells)) (λ w. w - 1) ∙ length-entries cells is

  pub value_is : (cells : List ℕ) (i d : ℕ) → IsLog log cells → i < length_in log cells → get_or (values_in log cells) i d ≡ word_in log cells i - 1
  value_is cells i d is lt =
      get_or-map (λ w. w - 1) (take (length_in log cells) (drop (log.end + 1) cells)) i 0 d (omega (arith, length-entries cells is))
      ∙ ap (λ w. w - 1) (get_or-take (length_in log cells) (drop (log.end + 1) cells) i 0 lt ∙ get_or-drop (log.end + 1) cells i 0)

  -- cells that are as those of a log stand for the same log
  pub same_log : (cells others : List ℕ) → length others ≡ length cells → ((c : ℕ) → IsOfLog log c → slice_index others c ≡ slice_index cells c) → IsLog log cells → IsLog log others × (values_in log others ≡ values_in log cells)
  same_log cells others sized same is =
      let long : length_in log others ≡ length_in log cells = same log.end (omega arith, omega arith) in
      let word : (i : ℕ) → i < log.capacity → word_in log others i ≡ word_in log cells i = λ i lt. same (log.end + 1 + i) (omega arith, omega arith) in
      let log_there : IsLog log others = record {
        in_table = omega (arith, is.in_table);
        within = omega (arith, is.within);
        there = λ i lt. rw (word i (omega (arith, is.within))) (is.there i (omega arith));
        free = λ i far lt. word i lt ∙ is.free i (omega arith) lt;
      } in
      (log_there, same_lists _ _ (length-values others log_there ∙ long ∙ sym (length-values cells is)) (λ i d lt. let near : i < length_in log others = omega (arith, length-values others log_there) in value_is others i d log_there near ∙ ap (λ w. w - 1) (word i (omega (arith, is.within))) ∙ sym (value_is cells i d is (omega arith))))
