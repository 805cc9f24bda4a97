-- "Each public call's promise names one answer and one content for every buffer, on refusals as well; show that any two
-- results it allows are equal": `Determined` of each public call's own contract, a line each.
-- Assumes nothing.
use mathlib.Core.Path.{◌≡◌, refl, sym, ap, ◌∙◌}
use seplogic.Ra.Ura.{Ura}
use base.Logic.{SProp, ent, sep, fst∗, snd∗}
use prog.Memory.{Memory}
use prog.Routine.{Routine}
use types.Logic.{Logic}
use contract.Lifetimes.{Lfts}
use contract.Monad.{Fun, fact, fact_i, fact_use}
use denote.Triple.Clauses.{Clauses, Ended, Lasts, at_exit}
use denote.Triple.Entry.{Args, Res}
use Rattle.names.specs.Name.{Naming}
use Rattle.segment.specs.Writing.{Log}
use Rattle.recovery.specs.Recover.{Recovering}
use Rattle.recovery.specs.Checkpoint.{Checkpointing}
use Rattle.truncation.specs.Truncate.{Truncating}
use Rattle.table.specs.Change.{Changed}
use Rattle.store.specs.Replay.{Replaying}
use Rattle.ringwal.proofs.Views.{answer_once, opening_once, appending_once}
use Rattle.refusal.specs.contracts.Refusal.number as refusal_number
use Rattle.fields.specs.contracts.higher as higher
use Rattle.fields.specs.contracts.part as part
use Rattle.fields.specs.contracts.get_le as get_le
use Rattle.fields.specs.contracts.get_u64 as get_u64
use Rattle.fields.specs.contracts.put_le as put_le
use Rattle.fields.specs.contracts.put_u64 as put_u64
use Rattle.fields.specs.contracts.bytes.copy as copy
use Rattle.fields.specs.contracts.bytes.zero as zero
use Rattle.fields.specs.contracts.bytes.clear as clear
use Rattle.fields.specs.contracts.bytes.compare as compare
use Rattle.fields.specs.contracts.bytes.same as same
use Rattle.crc32.specs.contracts.crc32 as crc32
use Rattle.crc32.specs.contracts.update as update
use Rattle.utf8.specs.contracts.is_utf8 as is_utf8
use Rattle.header.specs.contracts.WalEntryHeader.new as header_new
use Rattle.header.specs.contracts.WalEntryHeader.to_bytes as header_to_bytes
use Rattle.header.specs.contracts.WalEntryHeader.read as header_read
use Rattle.header.specs.contracts.WalEntryHeader.from_bytes as header_from_bytes
use Rattle.header.specs.contracts.WalEntryHeader.validate as header_validate
use Rattle.payload.specs.contracts.well_formed as well_formed
use Rattle.payload.specs.contracts.encode as encode
use Rattle.entry.specs.contracts.WalEntry.tx_id as entry_tx_id
use Rattle.entry.specs.contracts.WalEntry.timestamp as entry_timestamp
use Rattle.entry.specs.contracts.WalEntry.kind as entry_kind
use Rattle.entry.specs.contracts.WalEntry.is_commit as entry_is_commit
use Rattle.entry.specs.contracts.WalEntry.is_abort as entry_is_abort
use Rattle.entry.specs.contracts.decode as decode
use Rattle.names.specs.contracts.segment_name as segment_name
use Rattle.names.specs.contracts.parse_segment_name as parse_segment_name
use Rattle.directory.specs.contracts.lent.Lent.record_size as lent_record_size
use Rattle.directory.specs.contracts.lent.Lent.most as lent_most
use Rattle.directory.specs.contracts.lent.Lent.fits as lent_fits
use Rattle.directory.specs.contracts.record.record_at as record_at
use Rattle.directory.specs.contracts.record.put_record as put_record
use Rattle.directory.specs.contracts.rule.test as test
use Rattle.plan.specs.contracts.new_segment as new_segment
use Rattle.plan.specs.contracts.append_test as append_test
use Rattle.plan.specs.contracts.plan_append as plan_append
use Rattle.segment.specs.contracts.SegmentManager.new as manager_new
use Rattle.segment.specs.contracts.SegmentManager.with_default_size as manager_with_default_size
use Rattle.segment.specs.contracts.SegmentManager.open as manager_open
use Rattle.segment.specs.contracts.SegmentManager.rotate as manager_rotate
use Rattle.segment.specs.contracts.SegmentManager.append_entry as manager_append_entry
use Rattle.segment.specs.contracts.SegmentManager.append as manager_append
use Rattle.records.specs.contracts.moves.move_up as move_up
use Rattle.records.specs.contracts.moves.move_down as move_down
use Rattle.scan.specs.contracts.judge as judge
use Rattle.scan.specs.contracts.scan_step as scan_step
use Rattle.lists.specs.contracts.entries.entry_at as entry_at
use Rattle.lists.specs.contracts.entries.put_entry as put_entry
use Rattle.lists.specs.contracts.transactions.transaction_at as transaction_at
use Rattle.lists.specs.contracts.transactions.put_transaction as put_transaction
use Rattle.lists.specs.contracts.transactions.RecoveryAction.number as action_number
use Rattle.lists.specs.contracts.transactions.RecoveryAction.from_number as action_from_number
use Rattle.lists.specs.contracts.transactions.find as find_transaction
use Rattle.lists.specs.contracts.admit.admit as admit
use Rattle.lists.specs.contracts.tally.Tally.of as tally
use Rattle.lists.specs.contracts.tally.highest_committed as highest_committed
use Rattle.chains.specs.contracts.links.spare as spare
use Rattle.chains.specs.contracts.links.put_spare as put_spare
use Rattle.chains.specs.contracts.chain.link as link
use Rattle.chains.specs.contracts.chain.unlink as unlink
use Rattle.recovery.specs.contracts.recover as recover
use Rattle.recovery.specs.contracts.checkpoint as checkpoint
use Rattle.recovery.specs.contracts.read_checkpoint as read_checkpoint
use Rattle.truncation.specs.contracts.truncate_segments_before as truncate
use Rattle.table.specs.contracts.row.row_at as row_at
use Rattle.table.specs.contracts.find.find as find_key
use Rattle.table.specs.contracts.change.set as set
use Rattle.table.specs.contracts.change.remove as remove
use Rattle.store.specs.contracts.recover_into_store as recover_into_store
use Rattle.ringwal.specs.contracts.walker.SegmentWalker.new as walker_new
use Rattle.ringwal.specs.contracts.walker.SegmentWalker.step as walker_step
use Rattle.ringwal.specs.contracts.walker.walk_at as walk_at
use Rattle.ringwal.specs.contracts.walker.count_entries as count_entries
use Rattle.ringwal.specs.contracts.in_place.append as append_in_place

-- two facts that are told give a third
told : {M : Type 1} (𝓤 : Ura M) {φ ψ χ : Type 0} → (φ → ψ → χ) → ent 𝓤 (sep 𝓤 (fact 𝓤 φ) (fact 𝓤 ψ)) (fact 𝓤 χ)
told 𝓤 {φ} {ψ} {χ} f =
    let both = sep 𝓤 (fact 𝓤 φ) (fact 𝓤 ψ) in
    fact_use 𝓤 φ (fst∗ 𝓤 (fact 𝓤 φ) (fact 𝓤 ψ)) (λ x. fact_use 𝓤 ψ (snd∗ 𝓤 (fact 𝓤 φ) (fact 𝓤 ψ)) (λ y. fact_i 𝓤 χ both (f x y)))

module _ {M : Type 1} {𝓤 : Ura M} (𝓛 : Logic 𝓤) (mem : Memory → SProp 𝓤) (run : Routine → Fun 𝓤) where
  -- of a call's parameters T and contract c: any two results r and r', with the last contents ws and ws' of what is lent as
  -- `&mut`, that c's `ensures` allows for the same arguments are equal
  abbrev pub Determined : (T : Ended) → Clauses 𝓤 T → Type 1
  Determined T c =
      (κs : Lfts T.signature.lifetimes) (a : Args T.signature κs) (g : (c κs a).ghost) (r r' : Res T.signature κs) (ws ws' : Lasts T κs a)
      → ent 𝓤 (sep 𝓤 ((c κs a).ensures g r (at_exit T κs a ws)) ((c κs a).ensures g r' (at_exit T κs a ws'))) (fact 𝓤 ((r ≡ r') × (ws ≡ ws')))

  -- a promise that is an equation for the answer, where nothing is lent as `&mut`
  answer : {R L : Type 0} {r r' x : R} {ws ws' : L} → ws ≡ ws' → ent 𝓤 (sep 𝓤 (fact 𝓤 (r ≡ x)) (fact 𝓤 (r' ≡ x))) (fact 𝓤 ((r ≡ r') × (ws ≡ ws')))
  answer u = told 𝓤 (λ e f. (e ∙ sym f, u))

  -- one that is an equation for the buffer that is lent first, where nothing is answered
  buffer : {B L : Type 0} {r r' : Unit {0}} {ws ws' : B × L} {x : B} → ws.1 ≡ ws'.1 → ent 𝓤 (sep 𝓤 (fact 𝓤 (ws.0 ≡ x)) (fact 𝓤 (ws'.0 ≡ x))) (fact 𝓤 ((r ≡ r') × (ws ≡ ws')))
  buffer u = told 𝓤 (λ e f. (refl, λ i. ((e ∙ sym f) i, u i)))

  -- ---- refusal

  pub refusal_number_determined : Determined refusal_number.ended (refusal_number.clauses 𝓛 mem run)
  refusal_number_determined κs a g r r' ws ws' = answer refl

  -- ---- fields

  pub higher_determined : Determined higher.ended (higher.clauses 𝓛 mem run)
  higher_determined κs a g r r' ws ws' = answer refl

  -- of lent bytes that are answered, the bytes: where they stand isn't told
  pub part_bytes_determined : (κs : Lfts part.ended.signature.lifetimes) (a : Args part.ended.signature κs) (g : (part.clauses 𝓛 mem run κs a).ghost) (r r' : Res part.ended.signature κs) (ws ws' : Lasts part.ended κs a)
      → ent 𝓤 (sep 𝓤 ((part.clauses 𝓛 mem run κs a).ensures g r (at_exit part.ended κs a ws)) ((part.clauses 𝓛 mem run κs a).ensures g r' (at_exit part.ended κs a ws'))) (fact 𝓤 ((r.now ≡ r'.now) × (ws ≡ ws')))
  part_bytes_determined κs a g r r' ws ws' = told 𝓤 (λ e f. (e ∙ sym f, refl))

  pub get_le_determined : Determined get_le.ended (get_le.clauses 𝓛 mem run)
  get_le_determined κs a g r r' ws ws' = answer refl

  pub get_u64_determined : Determined get_u64.ended (get_u64.clauses 𝓛 mem run)
  get_u64_determined κs a g r r' ws ws' = answer refl

  pub put_le_determined : Determined put_le.ended (put_le.clauses 𝓛 mem run)
  put_le_determined κs a g r r' ws ws' = buffer refl

  pub put_u64_determined : Determined put_u64.ended (put_u64.clauses 𝓛 mem run)
  put_u64_determined κs a g r r' ws ws' = buffer refl

  pub copy_determined : Determined copy.ended (copy.clauses 𝓛 mem run)
  copy_determined κs a g r r' ws ws' = buffer refl

  pub zero_determined : Determined zero.ended (zero.clauses 𝓛 mem run)
  zero_determined κs a g r r' ws ws' = buffer refl

  pub clear_determined : Determined clear.ended (clear.clauses 𝓛 mem run)
  clear_determined κs a g r r' ws ws' = buffer refl

  pub compare_determined : Determined compare.ended (compare.clauses 𝓛 mem run)
  compare_determined κs a g r r' ws ws' = answer refl

  pub same_determined : Determined same.ended (same.clauses 𝓛 mem run)
  same_determined κs a g r r' ws ws' = answer refl

  -- ---- crc32

  pub crc32_determined : Determined crc32.ended (crc32.clauses 𝓛 mem run)
  crc32_determined κs a g r r' ws ws' = answer refl

  pub update_determined : Determined update.ended (update.clauses 𝓛 mem run)
  update_determined κs a g r r' ws ws' = answer refl

  -- ---- utf8

  pub is_utf8_determined : Determined is_utf8.ended (is_utf8.clauses 𝓛 mem run)
  is_utf8_determined κs a g r r' ws ws' = answer refl

  -- ---- header

  pub header_new_determined : Determined header_new.ended (header_new.clauses 𝓛 mem run)
  header_new_determined κs a g r r' ws ws' = answer refl

  pub header_to_bytes_determined : Determined header_to_bytes.ended (header_to_bytes.clauses 𝓛 mem run)
  header_to_bytes_determined κs a g r r' ws ws' = answer refl

  pub header_read_determined : Determined header_read.ended (header_read.clauses 𝓛 mem run)
  header_read_determined κs a g r r' ws ws' = answer refl

  pub header_from_bytes_determined : Determined header_from_bytes.ended (header_from_bytes.clauses 𝓛 mem run)
  header_from_bytes_determined κs a g r r' ws ws' = answer refl

  pub header_validate_determined : Determined header_validate.ended (header_validate.clauses 𝓛 mem run)
  header_validate_determined κs a g r r' ws ws' = answer refl

  -- ---- payload

  pub well_formed_determined : Determined well_formed.ended (well_formed.clauses 𝓛 mem run)
  well_formed_determined κs a g r r' ws ws' = answer refl

  pub encode_determined : Determined encode.ended (encode.clauses 𝓛 mem run)
  encode_determined κs a g r r' ws ws' = told 𝓤 (λ e f. let p = e ∙ sym f in (λ i. (p i).answer, λ i. (tt, (tt, (tt, (tt, (tt, (tt, ((p i).target, tt)))))))))

  -- ---- entry

  pub entry_tx_id_determined : Determined entry_tx_id.ended (entry_tx_id.clauses 𝓛 mem run)
  entry_tx_id_determined κs a g r r' ws ws' = answer refl

  pub entry_timestamp_determined : Determined entry_timestamp.ended (entry_timestamp.clauses 𝓛 mem run)
  entry_timestamp_determined κs a g r r' ws ws' = answer refl

  pub entry_kind_determined : Determined entry_kind.ended (entry_kind.clauses 𝓛 mem run)
  entry_kind_determined κs a g r r' ws ws' = answer refl

  pub entry_is_commit_determined : Determined entry_is_commit.ended (entry_is_commit.clauses 𝓛 mem run)
  entry_is_commit_determined κs a g r r' ws ws' = answer refl

  pub entry_is_abort_determined : Determined entry_is_abort.ended (entry_is_abort.clauses 𝓛 mem run)
  entry_is_abort_determined κs a g r r' ws ws' = answer refl

  pub decode_determined : Determined decode.ended (decode.clauses 𝓛 mem run)
  decode_determined κs a g r r' ws ws' = answer refl

  -- ---- names

  pub segment_name_determined : Determined segment_name.ended (segment_name.clauses 𝓛 mem run)
  segment_name_determined κs a g r r' ws ws' = told 𝓤 (λ e f. let p = e ∙ sym f in (answer_once (ap (λ (l : Naming). l.answer) p), λ i. (tt, ((p i).target, tt))))

  pub parse_segment_name_determined : Determined parse_segment_name.ended (parse_segment_name.clauses 𝓛 mem run)
  parse_segment_name_determined κs a g r r' ws ws' = answer refl

  -- ---- directory

  pub lent_record_size_determined : Determined lent_record_size.ended (lent_record_size.clauses 𝓛 mem run)
  lent_record_size_determined κs a g r r' ws ws' = answer refl

  pub lent_most_determined : Determined lent_most.ended (lent_most.clauses 𝓛 mem run)
  lent_most_determined κs a g r r' ws ws' = answer refl

  pub lent_fits_determined : Determined lent_fits.ended (lent_fits.clauses 𝓛 mem run)
  lent_fits_determined κs a g r r' ws ws' = answer refl

  pub record_at_determined : Determined record_at.ended (record_at.clauses 𝓛 mem run)
  record_at_determined κs a g r r' ws ws' = answer refl

  pub put_record_determined : Determined put_record.ended (put_record.clauses 𝓛 mem run)
  put_record_determined κs a g r r' ws ws' = buffer refl

  pub test_determined : Determined test.ended (test.clauses 𝓛 mem run)
  test_determined κs a g r r' ws ws' = told 𝓤 (λ e f. (answer_once (e ∙ sym f), refl))

  -- ---- plan

  pub new_segment_determined : Determined new_segment.ended (new_segment.clauses 𝓛 mem run)
  new_segment_determined κs a g r r' ws ws' = told 𝓤 (λ e f. (answer_once (e ∙ sym f), refl))

  pub append_test_determined : Determined append_test.ended (append_test.clauses 𝓛 mem run)
  append_test_determined κs a g r r' ws ws' = told 𝓤 (λ e f. (answer_once (e ∙ sym f), refl))

  pub plan_append_determined : Determined plan_append.ended (plan_append.clauses 𝓛 mem run)
  plan_append_determined κs a g r r' ws ws' = told 𝓤 (λ e f. (answer_once (e ∙ sym f), refl))

  -- ---- segment

  pub manager_new_determined : Determined manager_new.ended (manager_new.clauses 𝓛 mem run)
  manager_new_determined κs a g r r' ws ws' = answer refl

  pub manager_with_default_size_determined : Determined manager_with_default_size.ended (manager_with_default_size.clauses 𝓛 mem run)
  manager_with_default_size_determined κs a g r r' ws ws' = answer refl

  pub manager_open_determined : Determined manager_open.ended (manager_open.clauses 𝓛 mem run)
  manager_open_determined κs a g r r' ws ws' = told 𝓤 (λ e f. let p = e ∙ sym f in (opening_once r r' p, λ i. (tt, (tt, ((p i).directory, (tt, tt))))))

  pub manager_rotate_determined : Determined manager_rotate.ended (manager_rotate.clauses 𝓛 mem run)
  manager_rotate_determined κs a g r r' ws ws' = told 𝓤 (λ e f. let p = e ∙ sym f in (opening_once r r' p, λ i. (tt, (tt, ((p i).directory, (tt, tt))))))

  pub manager_append_entry_determined : Determined manager_append_entry.ended (manager_append_entry.clauses 𝓛 mem run)
  manager_append_entry_determined κs a g r r' ws ws' = told 𝓤 (λ e f. let p = e ∙ sym f in (appending_once r r' p, λ i. (tt, ((p i).area, ((p i).directory, (tt, (tt, (tt, tt))))))))

  pub manager_append_determined : Determined manager_append.ended (manager_append.clauses 𝓛 mem run)
  manager_append_determined κs a g r r' ws ws' = told 𝓤 (λ e f. let p = e ∙ sym f in (appending_once r r' p, λ i. (tt, ((p i).area, ((p i).directory, (tt, (tt, (tt, (tt, (tt, (tt, (tt, (tt, tt)))))))))))))

  -- ---- records

  pub move_up_determined : Determined move_up.ended (move_up.clauses 𝓛 mem run)
  move_up_determined κs a g r r' ws ws' = buffer refl

  pub move_down_determined : Determined move_down.ended (move_down.clauses 𝓛 mem run)
  move_down_determined κs a g r r' ws ws' = buffer refl

  -- ---- scan

  pub judge_determined : Determined judge.ended (judge.clauses 𝓛 mem run)
  judge_determined κs a g r r' ws ws' = answer refl

  pub scan_step_determined : Determined scan_step.ended (scan_step.clauses 𝓛 mem run)
  scan_step_determined κs a g r r' ws ws' = answer refl

  -- ---- lists

  pub entry_at_determined : Determined entry_at.ended (entry_at.clauses 𝓛 mem run)
  entry_at_determined κs a g r r' ws ws' = answer refl

  pub put_entry_determined : Determined put_entry.ended (put_entry.clauses 𝓛 mem run)
  put_entry_determined κs a g r r' ws ws' = buffer refl

  pub transaction_at_determined : Determined transaction_at.ended (transaction_at.clauses 𝓛 mem run)
  transaction_at_determined κs a g r r' ws ws' = answer refl

  pub put_transaction_determined : Determined put_transaction.ended (put_transaction.clauses 𝓛 mem run)
  put_transaction_determined κs a g r r' ws ws' = buffer refl

  pub action_number_determined : Determined action_number.ended (action_number.clauses 𝓛 mem run)
  action_number_determined κs a g r r' ws ws' = answer refl

  pub action_from_number_determined : Determined action_from_number.ended (action_from_number.clauses 𝓛 mem run)
  action_from_number_determined κs a g r r' ws ws' = answer refl

  pub find_transaction_determined : Determined find_transaction.ended (find_transaction.clauses 𝓛 mem run)
  find_transaction_determined κs a g r r' ws ws' = answer refl

  pub admit_determined : Determined admit.ended (admit.clauses 𝓛 mem run)
  admit_determined κs a g r r' ws ws' = told 𝓤 (λ e f. let p = e ∙ sym f in (λ i. (p i).lists, λ i. ((p i).entries, ((p i).transactions, (tt, (tt, tt))))))

  pub tally_determined : Determined tally.ended (tally.clauses 𝓛 mem run)
  tally_determined κs a g r r' ws ws' = answer refl

  pub highest_committed_determined : Determined highest_committed.ended (highest_committed.clauses 𝓛 mem run)
  highest_committed_determined κs a g r r' ws ws' = answer refl

  -- ---- chains

  pub spare_determined : Determined spare.ended (spare.clauses 𝓛 mem run)
  spare_determined κs a g r r' ws ws' = answer refl

  pub put_spare_determined : Determined put_spare.ended (put_spare.clauses 𝓛 mem run)
  put_spare_determined κs a g r r' ws ws' = buffer refl

  pub link_determined : Determined link.ended (link.clauses 𝓛 mem run)
  link_determined κs a g r r' ws ws' = told 𝓤 (λ e f. let p = e ∙ sym f in (refl, λ i. ((p i).entries, (tt, ((p i).transactions, (tt, tt))))))

  pub unlink_determined : Determined unlink.ended (unlink.clauses 𝓛 mem run)
  unlink_determined κs a g r r' ws ws' = told 𝓤 (λ e f. let p = e ∙ sym f in (refl, λ i. ((p i).entries, (tt, ((p i).transactions, (tt, tt))))))

  -- ---- recovery

  pub recover_determined : Determined recover.ended (recover.clauses 𝓛 mem run)
  recover_determined κs a g r r' ws ws' = told 𝓤 (λ e f. let p = e ∙ sym f in (answer_once (ap (λ (l : Recovering). l.answer) p), λ i. (tt, (tt, (tt, ((p i).entries, ((p i).transactions, tt)))))))

  pub checkpoint_determined : Determined checkpoint.ended (checkpoint.clauses 𝓛 mem run)
  checkpoint_determined κs a g r r' ws ws' = told 𝓤 (λ e f. let p = e ∙ sym f in (answer_once (ap (λ (l : Checkpointing). l.answer) p), λ i. (tt, (tt, (tt, ((p i).entries, ((p i).transactions, (tt, ((p i).target, tt)))))))))

  pub read_checkpoint_determined : Determined read_checkpoint.ended (read_checkpoint.clauses 𝓛 mem run)
  read_checkpoint_determined κs a g r r' ws ws' = answer refl

  -- ---- truncation

  pub truncate_determined : Determined truncate.ended (truncate.clauses 𝓛 mem run)
  truncate_determined κs a g r r' ws ws' = told 𝓤 (λ e f. let p = e ∙ sym f in (answer_once (ap (λ (l : Truncating). l.answer) p), λ i. (tt, ((p i).directory, (tt, (tt, tt))))))

  -- ---- table

  pub row_at_determined : Determined row_at.ended (row_at.clauses 𝓛 mem run)
  row_at_determined κs a g r r' ws ws' = answer refl

  pub find_key_determined : Determined find_key.ended (find_key.clauses 𝓛 mem run)
  find_key_determined κs a g r r' ws ws' = answer refl

  pub set_determined : Determined set.ended (set.clauses 𝓛 mem run)
  set_determined κs a g r r' ws ws' = told 𝓤 (λ e f. let p = e ∙ sym f in (answer_once (ap (λ (c : Changed). c.answer) p), λ i. ((p i).table, (tt, (tt, (tt, tt))))))

  pub remove_determined : Determined remove.ended (remove.clauses 𝓛 mem run)
  remove_determined κs a g r r' ws ws' = told 𝓤 (λ e f. let p = e ∙ sym f in (answer_once (ap (λ (c : Changed). c.answer) p), λ i. ((p i).table, (tt, (tt, tt)))))

  -- ---- store

  pub recover_into_store_determined : Determined recover_into_store.ended (recover_into_store.clauses 𝓛 mem run)
  recover_into_store_determined κs a g r r' ws ws' = told 𝓤 (λ e f. let p = e ∙ sym f in (answer_once (ap (λ (l : Replaying). l.answer) p), λ i. (tt, (tt, (tt, ((p i).entries, ((p i).transactions, ((p i).table, tt))))))))

  -- ---- the thin forms

  pub walker_new_determined : Determined walker_new.ended (walker_new.clauses 𝓛 mem run)
  walker_new_determined κs a g r r' ws ws' = told 𝓤 (λ e f. (λ i. record { segment = (e.0 ∙ sym f.0) i; at = (e.1 ∙ sym f.1) i }, refl))

  pub walker_step_determined : Determined walker_step.ended (walker_step.clauses 𝓛 mem run)
  walker_step_determined κs a g r r' ws ws' = told 𝓤 (λ e f. (e.0 ∙ sym f.0, λ i. ((e.1 ∙ sym f.1) i, tt)))

  pub walk_at_determined : Determined walk_at.ended (walk_at.clauses 𝓛 mem run)
  walk_at_determined κs a g r r' ws ws' = answer refl

  pub count_entries_determined : Determined count_entries.ended (count_entries.clauses 𝓛 mem run)
  count_entries_determined κs a g r r' ws ws' = answer refl

  pub append_in_place_determined : Determined append_in_place.ended (append_in_place.clauses 𝓛 mem run)
  append_in_place_determined κs a g r r' ws ws' = told 𝓤 (λ e f. let p = e ∙ sym f in (answer_once (ap (λ (l : Log). l.answer) p), λ i. ((p i).manager, ((p i).area, ((p i).directory, (tt, (tt, (tt, (tt, (tt, (tt, (tt, (tt, tt)))))))))))))
