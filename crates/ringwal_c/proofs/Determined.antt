-- Any two results that a call's promise allows are equal, with what each buffer, used count and state then holds.
-- Assumes nothing.
use mathlib.Core.Path.{◌≡◌, refl, sym, ◌∙◌}
use seplogic.Ra.Ura.{Ura}
use base.Logic.{SProp, ent, sep, fst∗, snd∗}
use prog.Memory.{Memory}
use prog.Routine.{Routine}
use types.Logic.{Logic}
use contract.Lifetimes.{Lfts}
use contract.Monad.{Fun, fact, fact_i, fact_use}
use denote.Triple.Clauses.{Clauses, Ended, Lasts, at_exit}
use denote.Triple.Entry.{Args, Res}
use Rattle.ringwal_c.specs.contracts.writing.ringwal_new as new
use Rattle.ringwal_c.specs.contracts.writing.ringwal_with_default_size as with_default_size
use Rattle.ringwal_c.specs.contracts.writing.ringwal_open as opening
use Rattle.ringwal_c.specs.contracts.writing.ringwal_rotate as rotate
use Rattle.ringwal_c.specs.contracts.writing.ringwal_append_entry as append_entry
use Rattle.ringwal_c.specs.contracts.writing.ringwal_append as append
use Rattle.ringwal_c.specs.contracts.in_place.ringwal_append_in_place as append_in_place
use Rattle.ringwal_c.specs.contracts.recovering.ringwal_recover as recover
use Rattle.ringwal_c.specs.contracts.recovering.ringwal_recover_into_store as recover_into_store
use Rattle.ringwal_c.specs.contracts.checkpoints.ringwal_read_checkpoint as read_checkpoint
use Rattle.ringwal_c.specs.contracts.checkpoints.ringwal_checkpoint as checkpoint
use Rattle.ringwal_c.specs.contracts.checkpoints.ringwal_truncate_segments_before as truncate_segments_before
use Rattle.ringwal_c.specs.contracts.naming.ringwal_segment_name as segment_name
use Rattle.ringwal_c.specs.contracts.naming.ringwal_parse_segment_name as parse_segment_name
use Rattle.ringwal_c.specs.contracts.house_records.ringwal_segment_at as segment_at
use Rattle.ringwal_c.specs.contracts.house_records.ringwal_put_segment as put_segment
use Rattle.ringwal_c.specs.contracts.house_records.ringwal_entry_at as entry_at
use Rattle.ringwal_c.specs.contracts.house_records.ringwal_transaction_at as transaction_at
use Rattle.ringwal_c.specs.contracts.house_records.ringwal_row_at as row_at
use Rattle.ringwal_c.specs.contracts.house_records.ringwal_find as find
use Rattle.ringwal_c.specs.contracts.decoding.ringwal_decode as decode
use Rattle.ringwal_c.specs.contracts.checksum.ringwal_crc32 as crc32

-- from two facts a third
told : {M : Type 1} (𝓤 : Ura M) {φ ψ χ : Type 0} → (φ → ψ → χ) → ent 𝓤 (sep 𝓤 (fact 𝓤 φ) (fact 𝓤 ψ)) (fact 𝓤 χ)
told 𝓤 {φ} {ψ} {χ} f =
    fact_use 𝓤 φ (fst∗ 𝓤 (fact 𝓤 φ) (fact 𝓤 ψ)) (λ x. fact_use 𝓤 ψ (snd∗ 𝓤 (fact 𝓤 φ) (fact 𝓤 ψ)) (λ y. fact_i 𝓤 χ (sep 𝓤 (fact 𝓤 φ) (fact 𝓤 ψ)) (f x y)))

module _ {M : Type 1} {𝓤 : Ura M} (𝓛 : Logic 𝓤) (mem : Memory → SProp 𝓤) (run : Routine → Fun 𝓤) where
  -- of a contract, as the code has it
  abbrev Determined : (T : Ended) → Clauses 𝓤 T → Type 1
  Determined T c =
      (κs : Lfts T.signature.lifetimes) (a : Args T.signature κs) (g : (c κs a).ghost) (r r' : Res T.signature κs) (ws ws' : Lasts T κs a)
      → ent 𝓤 (sep 𝓤 ((c κs a).ensures g r (at_exit T κs a ws)) ((c κs a).ensures g r' (at_exit T κs a ws'))) (fact 𝓤 ((r ≡ r') × (ws ≡ ws')))

  pub new_determined : Determined new.ended (new.clauses 𝓛 mem run)
  new_determined κs a g r r' ws ws' = told 𝓤 (λ p q. (p ∙ sym q, refl))

  pub with_default_size_determined : Determined with_default_size.ended (with_default_size.clauses 𝓛 mem run)
  with_default_size_determined κs a g r r' ws ws' = told 𝓤 (λ p q. (p ∙ sym q, refl))

  pub open_determined : Determined opening.ended (opening.clauses 𝓛 mem run)
  open_determined κs a g r r' ws ws' = told 𝓤 (λ p q. let e = p ∙ sym q in (λ i. (e i).answer, λ i. (tt, (tt, ((e i).directory, ((e i).used, tt))))))

  pub rotate_determined : Determined rotate.ended (rotate.clauses 𝓛 mem run)
  rotate_determined κs a g r r' ws ws' = told 𝓤 (λ p q. let e = p ∙ sym q in (λ i. (e i).answer, λ i. (tt, (tt, ((e i).directory, ((e i).used, tt))))))

  pub append_entry_determined : Determined append_entry.ended (append_entry.clauses 𝓛 mem run)
  append_entry_determined κs a g r r' ws ws' = told 𝓤 (λ p q. let e = p ∙ sym q in (λ i. (e i).answer, λ i. (tt, ((e i).area, ((e i).directory, ((e i).used, (tt, (tt, tt))))))))

  pub append_determined : Determined append.ended (append.clauses 𝓛 mem run)
  append_determined κs a g r r' ws ws' = told 𝓤 (λ p q. let e = p ∙ sym q in (λ i. (e i).answer, λ i. (tt, ((e i).area, ((e i).directory, ((e i).used, (tt, (tt, (tt, (tt, (tt, (tt, (tt, tt)))))))))))))

  pub append_in_place_determined : Determined append_in_place.ended (append_in_place.clauses 𝓛 mem run)
  append_in_place_determined κs a g r r' ws ws' = told 𝓤 (λ p q. let e = p ∙ sym q in (λ i. (e i).answer, λ i. ((e i).writer, ((e i).area, ((e i).directory, ((e i).used, (tt, (tt, (tt, (tt, (tt, (tt, (tt, tt)))))))))))))

  pub recover_determined : Determined recover.ended (recover.clauses 𝓛 mem run)
  recover_determined κs a g r r' ws ws' = told 𝓤 (λ p q. let e = p ∙ sym q in (λ i. (e i).answer, λ i. (tt, (tt, (tt, ((e i).entries, ((e i).transactions, tt)))))))

  pub recover_into_store_determined : Determined recover_into_store.ended (recover_into_store.clauses 𝓛 mem run)
  recover_into_store_determined κs a g r r' ws ws' = told 𝓤 (λ p q. let e = p ∙ sym q in (λ i. (e i).answer, λ i. (tt, (tt, (tt, ((e i).entries, ((e i).transactions, ((e i).table, tt))))))))

  pub read_checkpoint_determined : Determined read_checkpoint.ended (read_checkpoint.clauses 𝓛 mem run)
  read_checkpoint_determined κs a g r r' ws ws' = told 𝓤 (λ p q. (p ∙ sym q, refl))

  pub checkpoint_determined : Determined checkpoint.ended (checkpoint.clauses 𝓛 mem run)
  checkpoint_determined κs a g r r' ws ws' = told 𝓤 (λ p q. let e = p ∙ sym q in (λ i. (e i).answer, λ i. (tt, (tt, (tt, ((e i).entries, ((e i).transactions, (tt, ((e i).target, tt)))))))))

  pub truncate_segments_before_determined : Determined truncate_segments_before.ended (truncate_segments_before.clauses 𝓛 mem run)
  truncate_segments_before_determined κs a g r r' ws ws' = told 𝓤 (λ p q. let e = p ∙ sym q in (λ i. (e i).answer, λ i. (tt, ((e i).directory, ((e i).used, (tt, tt))))))

  pub segment_name_determined : Determined segment_name.ended (segment_name.clauses 𝓛 mem run)
  segment_name_determined κs a g r r' ws ws' = told 𝓤 (λ p q. let e = p ∙ sym q in (λ i. (e i).answer, λ i. (tt, ((e i).target, tt))))

  pub parse_segment_name_determined : Determined parse_segment_name.ended (parse_segment_name.clauses 𝓛 mem run)
  parse_segment_name_determined κs a g r r' ws ws' = told 𝓤 (λ p q. (p ∙ sym q, refl))

  pub segment_at_determined : Determined segment_at.ended (segment_at.clauses 𝓛 mem run)
  segment_at_determined κs a g r r' ws ws' = told 𝓤 (λ p q. (p ∙ sym q, refl))

  pub put_segment_determined : Determined put_segment.ended (put_segment.clauses 𝓛 mem run)
  put_segment_determined κs a g r r' ws ws' = told 𝓤 (λ p q. (refl, λ i. ((p ∙ sym q) i, (tt, (tt, tt)))))

  pub entry_at_determined : Determined entry_at.ended (entry_at.clauses 𝓛 mem run)
  entry_at_determined κs a g r r' ws ws' = told 𝓤 (λ p q. (p ∙ sym q, refl))

  pub transaction_at_determined : Determined transaction_at.ended (transaction_at.clauses 𝓛 mem run)
  transaction_at_determined κs a g r r' ws ws' = told 𝓤 (λ p q. (p ∙ sym q, refl))

  pub row_at_determined : Determined row_at.ended (row_at.clauses 𝓛 mem run)
  row_at_determined κs a g r r' ws ws' = told 𝓤 (λ p q. (p ∙ sym q, refl))

  pub find_determined : Determined find.ended (find.clauses 𝓛 mem run)
  find_determined κs a g r r' ws ws' = told 𝓤 (λ p q. (p ∙ sym q, refl))

  pub decode_determined : Determined decode.ended (decode.clauses 𝓛 mem run)
  decode_determined κs a g r r' ws ws' = told 𝓤 (λ p q. (p ∙ sym q, refl))

  pub crc32_determined : Determined crc32.ended (crc32.clauses 𝓛 mem run)
  crc32_determined κs a g r r' ws ws' = told 𝓤 (λ p q. (p ∙ sym q, refl))
