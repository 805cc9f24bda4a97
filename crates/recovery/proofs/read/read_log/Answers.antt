-- `read_log` meets its contract.
use Prim.Native.Nat.{◌<◌, ◌≤◌}
use native.Mathlib.Omega.{arith}
use lib.ListN.{length, drop, length-take}
use Rattle.directory.specs.Image.{segment_bytes}
use Rattle.directory.specs.Record.{end_of}
use Rattle.directory.proofs.Sound.{sound_ends, sound_says}
use Rattle.recovery.proofs.Reaches.{reading_goes, reading_ends}
use Rattle.recovery.proofs.read.read_log.Goals as goal

pub read_segment_entries-progress-requires : goal.read_segment_entries-progress-requires
read_segment_entries-progress-requires c =
    let h : c.loop-k.k < c.args.used = omega arith in
    let ends : end_of c.record_at-segment.result ≤ length c.args.area.now = rw c.record_at-segment.ensures (sound_ends _ _ _ c.requires c.loop-k.k h) in
    let r = c.record_at-segment.result in
    let s = sound_says _ _ _ c.requires in
    let i = c.loop-k.invariant in
    let n : length c.part-bytes.result.now ≤ r.length = rw c.part-bytes.ensures (omega (arith, length-take r.length (drop r.start c.args.area.now))) in
    (omega (arith, ends, s.area, n), omega (arith, i.partial, s.used, s.directory), omega (arith, i.checksum, s.used, s.directory))

pub loop-k-preserved : goal.loop-k-preserved
unfolding segment_bytes
loop-k-preserved c =
    reading_goes _ _ _ _ _ _ (omega arith) c.loop-k.invariant _
    (rw (c.part-bytes.ensures, c.record_at-segment.ensures) at c.read_segment_entries-progress.ensures)

pub returns : goal.returns
returns c = reading_ends _ _ _ _ _ _ (omega arith) c.loop-k.invariant
