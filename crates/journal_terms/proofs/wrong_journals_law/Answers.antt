use Rattle.std.proofs.Common.{length, refl, ap, arith}
use Rattle.std.specs.Fmt.{digits}
use Rattle.journal_terms.proofs.Journals.{other_text, not_read}
use Rattle.journal_terms.proofs.wrong_journals_law.Goals as goal

pub returns : goal.returns
unfolding digits
returns c = record {
  zero_read = refl;
  zero = other_text _ _ refl (λ e. let l = ap length e in omega arith);
  letter_read = refl;
  letter = other_text _ _ refl (λ e. let l = ap length e in omega arith);
  answer_read = refl;
  answer = other_text _ _ refl (λ e. let l = ap length e in omega arith);
  no_end = not_read _ refl;
  behind_end = not_read _ refl;
  end_word_read = refl;
  end_word = other_text _ _ refl (λ e. let l = ap length e in omega arith);
  sight_in_first = not_read _ refl;
  record_behind_sight = not_read _ refl;
  full_alone = not_read _ refl;
  other_version = not_read _ refl;
  two_spaces = not_read _ refl;
}
