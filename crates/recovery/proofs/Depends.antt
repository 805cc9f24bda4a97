-- The entries of a log depend on the segments' bytes and places alone.
-- Assumes nothing.
use mathlib.Core.Path.{◌≡◌, refl}
use mathlib.Core.List.{List, [], ◌∷◌}
use Prim.Native.Nat.{ℕ}
use Rattle.directory.specs.Image.{segment_bytes}
use Rattle.directory.specs.declared.record.SegmentRecord.{SegmentRecord}
use Rattle.records.specs.Dense.{All}
use Rattle.recovery.specs.Log.{read_log}

-- what stands between the segments or behind the last, and the lists' contents, play no part
pub log_depends : (a b : List ℕ) (rs : List SegmentRecord) → All (λ (r : SegmentRecord). segment_bytes a r ≡ segment_bytes b r) rs → read_log a rs ≡ read_log b rs
unfolding read_log
log_depends a b [] same = refl
log_depends a b (r ∷ rs) same = rw (same.0, log_depends a b rs same.1)
