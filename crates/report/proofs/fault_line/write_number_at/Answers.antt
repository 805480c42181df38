use Rattle.std.proofs.Common.{refl}
use Rattle.std.proofs.lemmas.Result.{on_ok_weaker, on_err_weaker}
use Rattle.report.proofs.Pieces.{always, whole, fails_first, fails_second, fails_third}
use Rattle.report.proofs.fault_line.write_number_at.Goals as goal

pub returns-in_err-write_number-clause-prefix : goal.returns-in_err-write_number-clause-prefix
returns-in_err-write_number-clause-prefix g c = always _ (fails_first _ _ _ _ refl _ _ c.in_err-write_number.ensures.prefix)

pub returns-in_err-write_all-clause-prefix : goal.returns-in_err-write_all-clause-prefix
returns-in_err-write_all-clause-prefix g c = always _ (fails_second _ _ _ _ refl _ _ _ c.in_ok-write_number.ensures.all c.in_err-write_all.ensures.prefix)

pub returns-clause-all : goal.returns-clause-all
returns-clause-all g c =
    on_ok_weaker c.write_number-2.result (λ third. whole _ _ _ _ refl _ _ _ _ c.in_ok-write_number.ensures.all c.in_ok-write_all.ensures.all third) c.write_number-2.ensures.all

pub returns-clause-prefix : goal.returns-clause-prefix
returns-clause-prefix g c =
    on_err_weaker c.write_number-2.result (λ third. fails_third _ _ _ _ refl _ _ _ _ c.in_ok-write_number.ensures.all c.in_ok-write_all.ensures.all third) c.write_number-2.ensures.prefix
