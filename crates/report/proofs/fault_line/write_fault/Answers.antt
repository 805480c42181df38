use Rattle.std.proofs.lemmas.Result.{on_ok_weaker, on_err_weaker}
use Rattle.report.proofs.Pieces.{always, whole, fails_first, fails_second, fails_third}
use Rattle.report.proofs.fault_line.write_fault.Goals as goal

pub returns-in_err-write_all-clause-prefix : goal.returns-in_err-write_all-clause-prefix
returns-in_err-write_all-clause-prefix g c = always _ (fails_first _ _ _ _ c.parts_of.ensures _ _ c.in_err-write_all.ensures.prefix)

pub returns-in_err-write_detail-clause-prefix : goal.returns-in_err-write_detail-clause-prefix
returns-in_err-write_detail-clause-prefix g c = always _ (fails_second _ _ _ _ c.parts_of.ensures _ _ _ c.in_ok-write_all.ensures.all c.in_err-write_detail.ensures.prefix)

pub returns-clause-line : goal.returns-clause-line
returns-clause-line g c =
    on_ok_weaker c.write_all-2.result (λ third. whole _ _ _ _ c.parts_of.ensures _ _ _ _ c.in_ok-write_all.ensures.all c.in_ok-write_detail.ensures.all third) c.write_all-2.ensures.all

pub returns-clause-prefix : goal.returns-clause-prefix
returns-clause-prefix g c =
    on_err_weaker c.write_all-2.result (λ third. fails_third _ _ _ _ c.parts_of.ensures _ _ _ _ c.in_ok-write_all.ensures.all c.in_ok-write_detail.ensures.all third) c.write_all-2.ensures.prefix
