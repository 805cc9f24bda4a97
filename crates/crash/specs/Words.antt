-- Short words for the worked instances: entries that are asked for, a directory record's bytes, and what recovery answers.
-- Assumes nothing.
use Rattle.std.specs.Prelude.{ℕ, ◌+◌, List, [], ◌∷◌}
use Rattle.refusal.specs.Answer.{Answer, accepted}
use Rattle.directory.specs.Record.{record_bytes}
use Rattle.recovery.specs.declared.Next.{Next}
use Rattle.recovery.specs.declared.Recovered.{Recovered}
use Rattle.crash.specs.Request.{Request}

-- an entry's log number, kind and transaction, its key and its values; it is asked for at the time 1,000 and its log number
abbrev asks : (lsn kind tx : ℕ) → (key old new : List ℕ) → Request
asks lsn kind tx key old new =
    record { lsn = lsn; kind = kind; tx = tx; time = 1_000 + lsn; key = key; old = old; new = new }

abbrev pub inserts : (lsn tx : ℕ) → (key : List ℕ) → (value : ℕ) → Request
inserts lsn tx key value = asks lsn 0 tx key [] (value ∷ [])

abbrev pub updates : (lsn tx : ℕ) → (key : List ℕ) → (old new : ℕ) → Request
updates lsn tx key old new = asks lsn 1 tx key (old ∷ []) (new ∷ [])

abbrev pub deletes : (lsn tx : ℕ) → (key : List ℕ) → (old : ℕ) → Request
deletes lsn tx key old = asks lsn 2 tx key (old ∷ []) []

abbrev pub commits : (lsn tx : ℕ) → Request
commits lsn tx = asks lsn 3 tx [] [] []

abbrev pub aborts : (lsn tx : ℕ) → Request
aborts lsn tx = asks lsn 4 tx [] [] []

-- a directory record's bytes
abbrev pub at : (id start length : ℕ) → List ℕ
at id start length = record_bytes (record { id = id; start = start; length = length })

-- the seven numbers that recovery answers, and the next transaction's
abbrev pub numbers : (entries total committed aborted incomplete partial checksum : ℕ) → Next → Answer Recovered
numbers entries total committed aborted incomplete partial checksum next =
    accepted
    (record {
      stats = record {
        total_transactions = total;
        committed = committed;
        aborted = aborted;
        incomplete = incomplete;
        partial_writes = partial;
        checksum_failures = checksum;
      };
      entries = entries;
      next = next;
    })
