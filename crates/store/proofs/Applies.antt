-- An entry applied in bytes comes to what it does to the rows.
-- Assumes nothing.
use mathlib.Core.Path.{◌≡◌, refl}
use mathlib.Core.List.{List}
use Prim.Native.Nat.{ℕ, ◌/◌}
use native.Mathlib.Omega.{arith}
use lib.ListN.{length, take, drop}
use Rattle.entry.specs.Decode.{decode_of, content_at}
use Rattle.std.proofs.Common.{◌⊎◌, inl, inr}
use Rattle.entry.specs.declared.WalEntry.{WalEntry}
use Rattle.entry.specs.declared.WalEntry.TheVariants.{Commit, Abort}
use Rattle.std.specs.declared.option.Option.TheVariants.{None, Some}
use Rattle.entry.specs.declared.decoding.Decoded.{Decoded}
use Rattle.refusal.specs.Answer.{accepted}
use Rattle.refusal.proofs.Answers.{same_values}
use Rattle.lists.specs.declared.entries.EntryRecord.{EntryRecord}
use Rattle.recovery.specs.Payload.{payload_in, EntryIn}
use Rattle.table.specs.Row.{Row, row_of}
use Rattle.table.specs.Table.{remove_key, table_of, Held}
use Rattle.table.specs.Change.{result_in}
use Rattle.table.proofs.Tables.{set_is, set_held, remove_is, remove_held}
use Rattle.store.specs.Change.{changed_by}
use Rattle.store.specs.Apply.{change_of}
use Rattle.store.specs.Effect.{Effect, puts, drops, keeps, effect_of, effect_in}

-- ---- what the code reads

-- s is the payload, the entry's bytes of the area
module _ (area : List ℕ) (e : EntryRecord) (s : List ℕ) (part : s ≡ take e.len (drop e.place area)) where
  pub effect_read : (d : Decoded) → decode_of s ≡ Some d → effect_in area e ≡ effect_of (content_at s d.entry)
  unfolding effect_in payload_in
  effect_read d f = rw (← part, f)

  -- a listed entry decodes
  pub not_refused : EntryIn area e → decode_of s ≡ None → ⊥
  unfolding payload_in
  not_refused i f = let g = rw (← part, f) at i.decodes in let z : ◌≡◌ {A = ℕ} 0 1 = cc in omega arith

-- markers change nothing
pub marker_keeps : (s : List ℕ) (w : WalEntry) → ((tx : ℕ) × (time : ℕ) × (w ≡ Commit tx time)) ⊎ ((tx : ℕ) × (time : ℕ) × (w ≡ Abort tx time)) → effect_of (content_at s w) ≡ keeps
unfolding effect_of content_at
marker_keeps s w (inl h) = rw h.2
marker_keeps s w (inr h) = rw h.2

-- ---- in a table that holds the rows

module _ (room : ℕ) (rs : List Row) (h : Held room rs) where
  pub change_is : (x : Effect) → change_of x (table_of room rs) (length rs) ≡ result_in room rs (changed_by (room / 320) x rs)
  unfolding change_of changed_by
  change_is (puts key value) = set_is room (row_of key value) rs h
  change_is (drops key) = remove_is room key rs h
  change_is keeps = refl

  pub change_held : (x : Effect) (new : List Row) → changed_by (room / 320) x rs ≡ accepted new → Held room new
  unfolding changed_by
  change_held (puts key value) new e = set_held room (row_of key value) rs new h e
  change_held (drops key) new e = let f : remove_key key rs ≡ new = same_values e in rw (← f) (remove_held room key rs h)
  change_held keeps new e = let f : rs ≡ new = same_values e in rw (← f) h
