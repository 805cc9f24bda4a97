-- `SegmentManager::append` meets its contract: by what `encode` answers.
-- Assumes nothing.
use Rattle.std.proofs.Common.{sym, ◌∙◌, arith, length-take-le}
use Rattle.segment.proofs.Logs.{encode_says, encode_refuses, entry_written, entry_not_written}
use Rattle.segment.proofs.SegmentManager.append.Goals as goal

pub slice_bounds-data-end : goal.slice_bounds-data-end
slice_bounds-data-end c = (rw c.in-Ok.is at (encode_says _ _ _ _ _ _ (omega arith) c.encode.ensures)).0

pub slice_bounds-append_entry-end : goal.slice_bounds-append_entry-end
slice_bounds-append_entry-end c =
    let e = rw c.in-Ok.is at (encode_says _ _ _ _ _ _ (omega arith) c.encode.ensures) in
    sym (length-take-le _ _ e.0)

pub returns-in-Ok : goal.returns-in-Ok
returns-in-Ok c =
    let e = rw c.in-Ok.is at (encode_says _ _ _ _ _ _ (omega arith) c.encode.ensures) in
    c.append_entry.ensures ∙ entry_written _ _ _ _ _ _ _ _ _ e.1

pub returns-in-Err : goal.returns-in-Err
returns-in-Err c =
    let e = encode_refuses _ _ _ _ _ _ _ (omega arith) c.encode.ensures c.in-Err.is in
    rw (c.refused.ensures, c.not_well_formed.ensures) (entry_not_written _ _ _ _ _ _ _ _ e)
