-- Bytes moved up or down in a buffer.
-- Assumes nothing.
use Rattle.std.specs.Prelude.{cond, List, ℕ, ◌+◌, leb, length, take, drop}
use Rattle.std.proofs.lemmas.List.Edits.{sets}

-- the `len` bytes from `at` on stand `by` further up; where that is not all in the buffer nothing moves
unfoldable pub moved_up : List ℕ → (at len by : ℕ) → List ℕ
moved_up s at len by = cond (leb (at + by + len) (length s)) (sets s (at + by) (take len (drop at s))) s

-- the `len` bytes that stand `by` further up than `at` stand at it; where they are not all in the buffer nothing moves
unfoldable pub moved_down : List ℕ → (at len by : ℕ) → List ℕ
moved_down s at len by = cond (leb (at + by + len) (length s)) (sets s at (take len (drop (at + by) s))) s
