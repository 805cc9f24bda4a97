-- `report::one_segment::recover` meets its contract.
-- Assumes nothing.
use native.Mathlib.Omega.{arith}
use borrow.Author.Tests.{lt-leb}
use Rattle.report.specs.Report.{report_of}
use Rattle.report.proofs.Told.{told}
use Rattle.report.proofs.one_segment.recover.Goals as goal

pub returns-then-segment-gt-MOST : goal.returns-then-segment-gt-MOST
unfolding report_of
returns-then-segment-gt-MOST c = rw (lt-leb _ _ c.if-segment-gt-MOST.true)

pub returns : goal.returns
returns c =
    let put = c.put_record in
    let recover = c.recover in
    told _ _ _ _ recover.result (omega arith) put.ensures recover.ensures
