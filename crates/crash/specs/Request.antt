-- What the entry call is asked for, and an entry that it wrote.
-- Assumes nothing.
use Rattle.std.specs.Prelude.{ℕ, ◌^◌, ◌<◌, List}
use Rattle.std.proofs.Math.Option.{Option}
use Rattle.fields.specs.Le.{Bytes}
use Rattle.payload.specs.Content.{Content}
use Rattle.payload.specs.Encode.{asked, payload_for}

pub record Request : Type 0 where
  pub lsn : ℕ
  pub kind : ℕ
  pub tx : ℕ
  pub time : ℕ
  pub key : List ℕ
  pub old : List ℕ
  pub new : List ℕ

-- what the types of the entry call say of a request: numbers of 64 bits, and bytes
pub record Typed (r : Request) : Type 0 where
  pub tx : r.tx < 2 ^ 64
  pub time : r.time < 2 ^ 64
  pub key : Bytes r.key
  pub old : Bytes r.old
  pub new : Bytes r.new

-- the entry that it asks for
abbrev pub asked_by : Request → Option Content
asked_by r = asked r.kind r.key r.old r.new

-- and its payload
unfoldable pub encoded : Request → List ℕ
encoded r = payload_for r.tx r.time (asked_by r)

-- an entry that was written, and the area's byte behind it
pub record Written : Type 0 where
  pub request : Request
  pub end : ℕ
