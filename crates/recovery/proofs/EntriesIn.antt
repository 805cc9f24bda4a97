-- Each entry of a log's list leads to a payload that lies in the area and decodes.
-- Assumes nothing.
use mathlib.Core.Path.{◌≡◌, refl}
use mathlib.Core.List.{List, [], ◌∷◌}
use Prim.Native.Nat.{ℕ, zero, suc, ◌+◌, ◌-◌, ◌≤◌}
use native.Mathlib.Omega.{arith}
use lib.ListN.{length, take, drop, length-take, length-drop}
use lib.Seq.{take-take, drop-drop}
use Rattle.directory.specs.Image.{segment_bytes}
use Rattle.directory.specs.declared.record.SegmentRecord.{SegmentRecord}
use Rattle.entry.specs.Decode.{bytes_at}
use Rattle.scan.specs.Read.{Good, read_from, read_segment}
use Rattle.scan.proofs.Goods.{GoodIn, read_each}
use Rattle.records.specs.Dense.{All}
use Rattle.lists.specs.Entries.{listed}
use Rattle.recovery.specs.Log.{listed_from, read_log}
use Rattle.recovery.specs.Payload.{payload_in, EntryIn}
use Rattle.records.proofs.Dense.{all_append}

-- a part of a beginning is a part of the whole
part_of : (i n m : ℕ) (l : List ℕ) → i + n ≤ m → take n (drop i (take m l)) ≡ take n (drop i l)
part_of zero n m l h = take-take n m l (omega arith)
part_of (suc i) n zero l h = absurd (omega arith)
part_of (suc i) n (suc m) [] h = refl
part_of (suc i) n (suc m) (x ∷ xs) h = part_of i n m xs (omega arith)

-- a good entry of a segment, by its place in the area
module _ (area : List ℕ) (r : SegmentRecord) where
  listed_in : (g : Good) → GoodIn (segment_bytes area r) g → EntryIn area (listed r.start g.entry g.payload)
  unfolding segment_bytes payload_in
  listed_in g i =
      let p = g.payload in
      let n : length (segment_bytes area r) ≤ r.length = rw length-take (omega arith) in
      let m : length (segment_bytes area r) ≤ length area - r.start = rw (length-take, length-drop) (omega arith) in
      let e : take p.len (drop (r.start + p.start) area) ≡ bytes_at (segment_bytes area r) p =
      rw (part_of p.start p.len r.length (drop r.start area) (omega (arith, i.end)), drop-drop) in
      record { end = omega (arith, i.end, i.least); decodes = rw (e, i.decoded) }

  all_in : (gs : List Good) → All (GoodIn (segment_bytes area r)) gs → All (EntryIn area) (listed_from r.start gs)
  all_in [] e = tt
  all_in (g ∷ gs) e = (listed_in g e.0, all_in gs e.1)

pub log_in : (area : List ℕ) (rs : List SegmentRecord) → All (EntryIn area) (read_log area rs).entries
unfolding read_log read_segment
log_in area [] = tt
log_in area (r ∷ rs) =
    all_append (EntryIn area) (listed_from r.start (read_from (segment_bytes area r) 0).good) (read_log area rs).entries
    (all_in area r (read_from (segment_bytes area r) 0).good (read_each (segment_bytes area r) 0))
    (log_in area rs)
