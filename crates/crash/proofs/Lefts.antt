-- What a cut leaves of entries: of those that end before it, of those behind it, and of those that an earlier cut left.
-- Assumes nothing.
use mathlib.Core.Path.{◌≡◌, refl, sym, ◌∙◌}
use mathlib.Core.Bool.{cond, and-false, and-true, and-eq-true_iff}
use mathlib.Core.List.{List, [], ◌∷◌, ◌++◌, append-nil}
use Prim.Native.Nat.{ℕ, suc, ◌+◌, ◌-◌, ◌<◌, ◌≤◌}
use native.Mathlib.Omega.{arith}
use borrow.Author.Tests.{lt-ltb, le-ltb, ltb-true, le-leb, lt-leb, leb-true, leb-false}
use lib.Dec.{leb, ltb}
use lib.ListN.{length}
use Rattle.fields.proofs.Cases.{case_b}
use Rattle.lists.specs.declared.entries.EntryRecord.{EntryRecord}
use Rattle.recovery.specs.Log.{LogRead}
use Rattle.crash.specs.Request.{Request, encoded, Written}
use Rattle.crash.specs.Kept.{kept_by, start_of, within, is_inside, torn_by, still_torn, listed_as}
use Rattle.crash.specs.Crash.{read_as}
use Rattle.crash.proofs.Images.{image_of, written_from, image_length}

-- what is read of entries up to a cut
unfoldable pub read_up_to : (cut : ℕ) → List Written → LogRead
read_up_to cut ws = read_as (kept_by cut ws) (length (torn_by cut ws))

-- an entry in front
abbrev pub entry_then : EntryRecord → LogRead → LogRead
entry_then e l = record { entries = e ∷ l.entries; partial = l.partial; checksum = l.checksum }

-- ---- one cut

-- an entry that ends at or before it
module _ (cut : ℕ) (w : Written) (ws : List Written) (ends : w.end ≤ cut) where
  pub kept_whole : kept_by cut (w ∷ ws) ≡ w ∷ kept_by cut ws
  unfolding kept_by
  kept_whole = rw (le-leb w.end cut ends)

  torn_whole : torn_by cut (w ∷ ws) ≡ torn_by cut ws
  unfolding torn_by
  torn_whole = rw (le-ltb cut w.end ends, and-false (ltb (start_of w) cut))

  pub left_whole : read_up_to cut (w ∷ ws) ≡ entry_then (listed_as w) (read_up_to cut ws)
  unfolding read_up_to
  left_whole = rw (kept_whole, torn_whole)

-- one that ends after it
pub kept_not : (cut : ℕ) (w : Written) (ws : List Written) → cut < w.end → kept_by cut (w ∷ ws) ≡ kept_by cut ws
unfolding kept_by
kept_not cut w ws h = rw (lt-leb w.end cut h)

-- one that starts at or behind it
torn_not : (cut : ℕ) (w : Written) (ws : List Written) → cut ≤ start_of w → torn_by cut (w ∷ ws) ≡ torn_by cut ws
unfolding torn_by
torn_not cut w ws h = rw (le-ltb (start_of w) cut h)

pub kept_behind : (cut at : ℕ) (rs : List Request) → cut ≤ at → kept_by cut (written_from at rs) ≡ []
unfolding kept_by written_from
kept_behind cut at [] h = refl
kept_behind cut at (r ∷ rs) h =
    let next = at + (13 + length (encoded r)) in
    rw (lt-leb next cut (omega arith), kept_behind cut next rs (omega arith))

pub torn_behind : (cut at : ℕ) (rs : List Request) → cut ≤ at → torn_by cut (written_from at rs) ≡ []
unfolding written_from
torn_behind cut at [] h = unfold torn_by in refl
torn_behind cut at (r ∷ rs) h =
    let n = 13 + length (encoded r) in
    rw (torn_not cut (record { request = r; end = at + n }) (written_from (at + n) rs) (omega arith), torn_behind cut (at + n) rs (omega arith))

pub left_behind : (cut at : ℕ) (rs : List Request) → cut ≤ at → read_up_to cut (written_from at rs) ≡ read_as [] 0
unfolding read_up_to
left_behind cut at rs h = rw (kept_behind cut at rs h, torn_behind cut at rs h)

-- the cut is inside the first of them
pub left_torn : (cut at : ℕ) (r : Request) (rs : List Request) → at < cut → cut < at + (13 + length (encoded r)) → read_up_to cut (written_from at (r ∷ rs)) ≡ read_as [] 1
unfolding read_up_to kept_by torn_by written_from
left_torn cut at r rs h k =
    let n = 13 + length (encoded r) in
    rw (lt-leb (at + n) cut k, kept_behind cut (at + n) rs (omega arith), torn_behind cut (at + n) rs (omega arith), lt-ltb (at + n - n) cut (omega arith), lt-ltb cut (at + n) k)

-- entries that end at or before it
pub kept_before_lem : (cut at : ℕ) (rs : List Request) → at + length (image_of rs) ≤ cut → kept_by cut (written_from at rs) ≡ written_from at rs
unfolding written_from
kept_before_lem cut at [] h = unfold kept_by in refl
kept_before_lem cut at (r ∷ rs) h =
    let next = at + (13 + length (encoded r)) in
    let m = image_length r rs in
    rw (kept_whole cut (record { request = r; end = next }) (written_from next rs) (omega arith), kept_before_lem cut next rs (omega arith))

pub torn_before : (cut at : ℕ) (rs : List Request) → at + length (image_of rs) ≤ cut → torn_by cut (written_from at rs) ≡ []
unfolding written_from
torn_before cut at [] h = unfold torn_by in refl
torn_before cut at (r ∷ rs) h =
    let next = at + (13 + length (encoded r)) in
    let m = image_length r rs in
    torn_whole cut (record { request = r; end = next }) (written_from next rs) (omega arith)
    ∙ torn_before cut next rs (omega arith)

-- ---- lists one behind the other

pub kept_append : (cut : ℕ) (xs ys : List Written) → kept_by cut (xs ++ ys) ≡ kept_by cut xs ++ kept_by cut ys
unfolding kept_by
kept_append cut [] ys = refl
kept_append cut (x ∷ xs) ys =
    case_b (leb x.end cut) (λ q. rw (q, kept_append cut xs ys)) (λ q. rw (q, kept_append cut xs ys))

pub torn_append : (cut : ℕ) (xs ys : List Written) → torn_by cut (xs ++ ys) ≡ torn_by cut xs ++ torn_by cut ys
unfolding torn_by
torn_append cut [] ys = refl
torn_append cut (x ∷ xs) ys =
    case_b (within cut x) (λ q. rw (q, torn_append cut xs ys)) (λ q. rw (q, torn_append cut xs ys))

pub still_append : (cut : ℕ) (xs ys : List ℕ) → still_torn cut (xs ++ ys) ≡ still_torn cut xs ++ still_torn cut ys
unfolding still_torn
still_append cut [] ys = refl
still_append cut (x ∷ xs) ys =
    case_b (ltb x cut) (λ q. rw (q, still_append cut xs ys)) (λ q. rw (q, still_append cut xs ys))

-- ---- a cut at or behind an earlier one: nothing more is lost

module _ (earlier cut : ℕ) (h : earlier ≤ cut) where
  pub kept_again : (ws : List Written) → kept_by cut (kept_by earlier ws) ≡ kept_by earlier ws
  unfolding kept_by
  kept_again [] = refl
  kept_again (w ∷ ws) =
      case_b (leb w.end earlier)
      (λ q. let e = leb-true w.end earlier q in rw (q, le-leb w.end cut (omega arith), kept_again ws))
      (λ q. rw (q, kept_again ws))

  pub torn_again : (ws : List Written) → torn_by cut (kept_by earlier ws) ≡ []
  torn_again [] = unfold kept_by torn_by in refl
  torn_again (w ∷ ws) =
      case_b (leb w.end earlier)
      (λ q.
      let e = leb-true w.end earlier q in
      rw (kept_whole earlier w ws e, torn_whole cut w (kept_by earlier ws) (omega arith), torn_again ws))
      (λ q. rw (kept_not earlier w ws (leb-false _ _ q), torn_again ws))

  pub still_again : (ws : List Written) → still_torn cut (torn_by earlier ws) ≡ torn_by earlier ws
  unfolding torn_by still_torn
  still_again [] = refl
  still_again (w ∷ ws) =
      case_b (within earlier w)
      (λ q.
      let s = ltb-true (start_of w) earlier ((and-eq-true_iff _ _).0 q).0 in
      rw (q, lt-ltb (start_of w) cut (omega arith), still_again ws))
      (λ q. rw (q, still_again ws))

-- ---- a cut before an earlier one

module _ (earlier cut : ℕ) (h : cut ≤ earlier) where
  pub kept_sooner : (ws : List Written) → kept_by cut (kept_by earlier ws) ≡ kept_by cut ws
  unfolding kept_by
  kept_sooner [] = refl
  kept_sooner (w ∷ ws) =
      case_b (leb w.end earlier)
      (λ q. case_b (leb w.end cut) (λ p. rw (q, p, kept_sooner ws)) (λ p. rw (q, p, kept_sooner ws)))
      (λ q. let e = leb-false w.end earlier q in rw (q, lt-leb w.end cut (omega arith), kept_sooner ws))

-- entries behind it, of which the earlier one left some
module _ (earlier cut : ℕ) where
  pub torn_past : (at : ℕ) (rs : List Request) → cut ≤ at → torn_by cut (kept_by earlier (written_from at rs)) ≡ []
  unfolding written_from
  torn_past at [] h = unfold kept_by torn_by in refl
  torn_past at (r ∷ rs) h =
      let n = 13 + length (encoded r) in
      let w : Written = record { request = r; end = at + n } in
      let rest = torn_past (at + n) rs (omega arith) in
      case_b (leb w.end earlier)
      (λ q. rw (kept_whole earlier w (written_from (at + n) rs) (leb-true _ _ q), torn_not cut w (kept_by earlier (written_from (at + n) rs)) (omega arith), rest))
      (λ q. rw (kept_not earlier w (written_from (at + n) rs) (leb-false _ _ q), rest))

  pub still_past : (at : ℕ) (rs : List Request) → cut ≤ at → still_torn cut (torn_by earlier (written_from at rs)) ≡ []
  unfolding written_from torn_by still_torn
  still_past at [] h = refl
  still_past at (r ∷ rs) h =
      let n = 13 + length (encoded r) in
      let w : Written = record { request = r; end = at + n } in
      let rest = still_past (at + n) rs (omega arith) in
      case_b (within earlier w) (λ q. rw (q, le-ltb (at + n - n) cut (omega arith), rest)) (λ q. rw (q, rest))

-- what is torn then: what was, if the cut leaves something of it, or the entry that the cut is inside
still_one : (earlier cut start : ℕ) → cut ≤ earlier → still_torn cut (cond (ltb start earlier) (start ∷ []) []) ≡ cond (ltb start cut) (start ∷ []) []
unfolding still_torn
still_one earlier cut start h =
    case_b (ltb start cut)
    (λ q. let e = ltb-true start cut q in rw (lt-ltb start earlier (omega arith), q))
    (λ q. case_b (ltb start earlier) (λ p. rw (p, q)) (λ p. rw (p, q)))

module _ (earlier cut at : ℕ) (r : Request) (rs : List Request) (h : cut ≤ earlier) where
  abbrev next : ℕ
  next = at + (13 + length (encoded r))

  abbrev first : Written
  first = record { request = r; end = next }

  abbrev others : List Written
  others = written_from next rs

  -- both cuts are inside the first or before it
  sooner_first : earlier < next → still_torn cut (torn_by earlier (first ∷ others)) ++ torn_by cut (kept_by earlier (first ∷ others)) ≡ torn_by cut (first ∷ others)
  sooner_first k =
      rw (kept_not earlier first others k, kept_behind earlier next rs (omega arith))
      (unfold torn_by in
      rw (torn_behind earlier next rs (omega arith), torn_behind cut next rs (omega arith), lt-ltb earlier next k, lt-ltb cut next (omega arith), and-true, and-true, append-nil)
      (still_one earlier cut (start_of first) h))

  -- the later one is
  sooner_inside : next ≤ earlier → cut < next → still_torn cut (torn_by earlier (first ∷ others)) ++ torn_by cut (kept_by earlier (first ∷ others)) ≡ torn_by cut (first ∷ others)
  sooner_inside l k =
      rw (kept_whole earlier first others l, torn_whole earlier first others l, still_past earlier cut next rs (omega arith))
      (unfold torn_by in rw (torn_past earlier cut next rs (omega arith), torn_behind cut next rs (omega arith)))

pub torn_sooner : (earlier cut at : ℕ) (rs : List Request) → cut ≤ earlier → still_torn cut (torn_by earlier (written_from at rs)) ++ torn_by cut (kept_by earlier (written_from at rs)) ≡ torn_by cut (written_from at rs)
unfolding written_from
torn_sooner earlier cut at [] h = unfold kept_by torn_by still_torn in refl
torn_sooner earlier cut at (r ∷ rs) h =
    let e = next earlier cut at r rs h in
    let w = first earlier cut at r rs h in
    let ws = others earlier cut at r rs h in
    case_b (leb e earlier)
    (λ q.
    let l = leb-true e earlier q in
    case_b (leb e cut)
    (λ p.
    let k = leb-true e cut p in
    rw (kept_whole earlier w ws l, torn_whole earlier w ws l, torn_whole cut w (kept_by earlier ws) k, torn_whole cut w ws k) (torn_sooner earlier cut e rs h))
    (λ p. sooner_inside earlier cut at r rs h l (leb-false e cut p)))
    (λ q. sooner_first earlier cut at r rs h (leb-false e earlier q))

-- ---- "one partial write exactly if the cut is inside an entry"

torn_first : (cut : ℕ) (w : Written) (ws : List Written) → torn_by cut ws ≡ [] → length (torn_by cut (w ∷ ws)) ≤ 1
unfolding torn_by
torn_first cut w ws e = rw e (case_b (within cut w) (λ q. rw q (omega arith)) (λ q. rw q (omega arith)))

-- entries that stand one behind the other: it is inside one at most
pub torn_once : (cut at : ℕ) (rs : List Request) → length (torn_by cut (written_from at rs)) ≤ 1
unfolding written_from
torn_once cut at [] = unfold torn_by in omega arith
torn_once cut at (r ∷ rs) =
    let e = at + (13 + length (encoded r)) in
    let w : Written = record { request = r; end = e } in
    case_b (leb e cut)
    (λ q. rw (torn_whole cut w (written_from e rs) (leb-true e cut q)) (torn_once cut e rs))
    (λ q.
    let k = leb-false e cut q in
    torn_first cut w (written_from e rs) (torn_behind cut e rs (omega arith)))

pub inside_torn : (cut : ℕ) (ws : List Written) → is_inside cut ws ≡ leb 1 (length (torn_by cut ws))
unfolding is_inside torn_by
inside_torn cut [] = refl
inside_torn cut (w ∷ ws) = case_b (within cut w) (λ q. rw q (sym (le-leb 1 (suc (length (torn_by cut ws))) (omega arith)))) (λ q. rw (q, inside_torn cut ws))

pub torn_inside : (cut : ℕ) (ws : List Written) → length (torn_by cut ws) ≤ 1 → length (torn_by cut ws) ≡ cond (is_inside cut ws) 1 0
torn_inside cut ws h =
    rw (inside_torn cut ws)
    (case_b (leb 1 (length (torn_by cut ws)))
    (λ q. let e = leb-true 1 (length (torn_by cut ws)) q in rw q (omega arith))
    (λ q. let e = leb-false 1 (length (torn_by cut ws)) q in rw q (omega arith)))
