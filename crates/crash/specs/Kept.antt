-- What a cut leaves of entries: "exactly the entries ending at or before the cut", and the one that "the cut is inside".
-- Assumes nothing.
use Rattle.std.specs.Prelude.{ℕ, ◌+◌, ◌-◌, Bool, false, cond, ◌&&◌, ◌||◌, List, [], ◌∷◌, map, leb, ltb, length}
use Rattle.lists.specs.declared.entries.EntryRecord.{EntryRecord}
use Rattle.crash.specs.Request.{encoded, Written}

-- a cut is the area's first byte that is not kept
unfoldable pub kept_by : (cut : ℕ) → List Written → List Written
kept_by cut [] = []
kept_by cut (w ∷ ws) = cond (leb w.end cut) (w ∷ kept_by cut ws) (kept_by cut ws)

-- an entry's first byte: its header has 13
abbrev pub start_of : Written → ℕ
start_of w = w.end - (13 + length (encoded w.request))

-- the cut is inside this one
abbrev pub within : (cut : ℕ) → Written → Bool
within cut w = ltb (start_of w) cut && ltb cut w.end

-- whether "the cut is inside an entry"
unfoldable pub is_inside : (cut : ℕ) → List Written → Bool
is_inside cut [] = false
is_inside cut (w ∷ ws) = within cut w || is_inside cut ws

-- the first byte of the entry that it is inside
unfoldable pub torn_by : (cut : ℕ) → List Written → List ℕ
torn_by cut [] = []
torn_by cut (w ∷ ws) = cond (within cut w) (start_of w ∷ torn_by cut ws) (torn_by cut ws)

-- of entries that were torn before, those of which the cut leaves something
unfoldable pub still_torn : (cut : ℕ) → (torn : List ℕ) → List ℕ
still_torn cut [] = []
still_torn cut (start ∷ torn) = cond (ltb start cut) (start ∷ still_torn cut torn) (still_torn cut torn)

-- what the entry list says of a written entry
unfoldable pub listed_as : Written → EntryRecord
listed_as w =
    record {
      tx_id = w.request.tx;
      place = w.end - length (encoded w.request);
      len = length (encoded w.request);
      kind = w.request.kind;
    }

abbrev pub listed_all : List Written → List EntryRecord
listed_all ws = map listed_as ws
