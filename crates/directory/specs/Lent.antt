-- Document 01, "What the controller lends": the table of the buffers.
-- Assumes nothing.
use Rattle.std.specs.Prelude.{Bool, ◌&&◌, ℕ, ◌/◌, ◌%◌, leb, eqb}
use Rattle.directory.specs.declared.lent.Lent.{Lent}
use Rattle.directory.specs.declared.lent.Lent.TheVariants.{Area, Directory, EntryList, Transactions, Table}

-- the column "Record", in bytes
abbrev pub size_of : Lent → ℕ
size_of Area = 1
size_of Directory = 24
size_of EntryList = 32
size_of Transactions = 24
size_of Table = 320

-- the column "Most", in records
abbrev pub most_of : Lent → ℕ
most_of Area = 1_073_741_824
most_of Directory = 4_096
most_of EntryList = 1_048_576
most_of Transactions = 65_536
most_of Table = 16_384

-- refusal 1: "a buffer is over its most, or not whole records"; a buffer of n bytes that is neither
unfoldable pub fits_of : Lent → ℕ → Bool
fits_of b n = eqb (n % size_of b) 0 && leb (n / size_of b) (most_of b)
