-- Document 01, "Names": the program reads one segment, "up to 65,536 bytes". "Its lists hold 1,985 records each, always enough."
-- Assumes nothing.
use mathlib.Core.Path.{◌≡◌, refl, sym, ap, ◌∙◌}
use mathlib.Core.List.{List, [], ◌∷◌, append-nil}
use Prim.Native.Nat.{ℕ, ◌*◌, ◌/◌, ◌%◌, ◌≤◌}
use native.Mathlib.Omega.{arith}
use borrow.Author.Tests.{le-leb}
use lib.ListN.{length}
use Rattle.refusal.specs.Answer.{sound}
use Rattle.directory.specs.Record.{record_at, record_bytes, records_of}
use Rattle.directory.specs.Rule.{rule_from, test_of}
use Rattle.directory.specs.declared.lent.Lent.TheVariants as Lends
use Rattle.std.specs.declared.option.Option.TheVariants.{None}
use Rattle.directory.proofs.Records.{length_record, record_back}
use Rattle.directory.proofs.Rules.{follows_so}
use Rattle.directory.proofs.Sound.{fits_so, sound_so}
use Rattle.lists.specs.Transactions.{transactions_of}
use Rattle.lists.proofs.Numbers.{transactions_most}
use Rattle.recovery.specs.Log.{read_log, whole}
use Rattle.recovery.specs.Recover.{listing, read_into, lists_test_of, recover_of}
use Rattle.recovery.proofs.Concludes.{log_length}

only_record : (image : List ℕ) → length image ≤ 65_536 → records_of 1 (record_bytes (whole image)) ≡ whole image ∷ []
unfolding records_of
only_record image h =
    let r = whole image in
    let e : record_at (record_bytes r) ≡ r = ap record_at (sym (append-nil (record_bytes r))) ∙ record_back r [] (record { id = omega arith; start = omega arith; length = omega arith }) in
    rw e

only_sound : (image : List ℕ) → length image ≤ 65_536 → test_of (length image) (record_bytes (whole image)) 1 ≡ sound
unfolding rule_from
only_sound image h =
    let r = whole image in
    let l = length_record r in
    let m : length (record_bytes r) % 24 ≡ 0 = omega arith in
    sound_so (length image) (record_bytes r) 1
    (record {
      area = omega arith;
      directory = omega arith;
      whole = m;
      used = omega arith;
      rule = rw (only_record image h, follows_so (length image) None r (record { id = refl; start = omega arith; end = omega arith }));
    })

-- 33 * 1,985 is 65,505, and one entry more has no room in 65,536 bytes
room : (image : List ℕ) (E T : ℕ) → length image ≤ 65_536 → E ≡ 32 * 1_985 → T ≡ 24 * 1_985 → read_into (read_log image (whole image ∷ [])) E T ≡ listing (read_log image (whole image ∷ [])) E T
unfolding read_into
room image E T h e t =
    let es = (read_log image (whole image ∷ [])).entries in
    let n = log_length image 65_536 (whole image ∷ []) h in
    let m = transactions_most es in
    let a : length es ≤ E / 32 = omega arith in
    let b : length (transactions_of es) ≤ T / 24 = omega arith in
    rw (le-leb _ _ a, le-leb _ _ b)

pub report_enough : (image entries transactions : List ℕ) → length image ≤ 65_536 → length entries ≡ 32 * 1_985 → length transactions ≡ 24 * 1_985 → recover_of image (record_bytes (whole image)) 1 entries transactions ≡ listing (read_log image (whole image ∷ [])) (length entries) (length transactions)
unfolding recover_of lists_test_of
report_enough image entries transactions h e t =
    let E = length entries in
    let T = length transactions in
    let u : E % 32 ≡ 0 = omega arith in
    let v : T % 24 ≡ 0 = omega arith in
    rw (fits_so Lends.EntryList E u (omega arith), fits_so Lends.Transactions T v (omega arith), only_sound image h, only_record image h, room image E T h e t)
