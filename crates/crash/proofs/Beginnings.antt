-- A cut keeps a beginning of a run's entries, and a writer that is asked for these alone has them.
-- Assumes nothing.
use Prim.Native.Nat.{ℕ, ◌+◌, ◌<◌, ◌≤◌}
use mathlib.Core.Path.{◌≡◌, refl, sym, ap, subst, ◌∙◌}
use mathlib.Core.Bool.{true}
use mathlib.Core.List.{List, [], ◌∷◌, ◌++◌, map, append_assoc, append-nil}
use mathlib.Core.Option.{some}
use native.Mathlib.Omega.{arith}
use borrow.Author.Tests.{leb-true, leb-false}
use lib.Dec.{leb}
use lib.ListN.{length}
use Rattle.fields.proofs.Cases.{case_b}
use Rattle.records.specs.Dense.{All}
use Rattle.directory.specs.Record.{end_of}
use Rattle.directory.specs.Rule.{end_before, after_record, rule_from}
use Rattle.std.specs.declared.option.Option.{Option}
use Rattle.directory.specs.declared.rule.Last.{Last}
use Rattle.std.specs.declared.option.Option.TheVariants.{None}
use Rattle.directory.proofs.Rules.{follows_says, rule_parts}
use Rattle.directory.proofs.Sound.{sound_says}
use Rattle.crash.specs.Request.{Request, encoded, Written}
use Rattle.crash.specs.Kept.{kept_by}
use Rattle.crash.specs.Life.{Life, last_written, appending, appends, Lives}
use Rattle.crash.specs.Operator.{request_of}
use Rattle.crash.proofs.Images.{written_from}
use Rattle.crash.proofs.Lefts.{kept_whole, kept_not, kept_append}
use Rattle.crash.proofs.Segments.{Segment, place_of, left_in, left_of, Consists}
use Rattle.crash.proofs.Grows.{appended}

-- ---- the entries of a log end one behind the other

-- none ends before this place, nor before the one in front of it
abbrev pub Rises : (at : ℕ) → List Written → Type 0
Rises at [] = Unit {0}
Rises at (w ∷ ws) = (at ≤ w.end) × Rises w.end ws

abbrev Ended : (cut : ℕ) → Written → Type 0
Ended cut w = w.end ≤ cut

rises_over : (at from : ℕ) (ws : List Written) → at ≤ from → Rises from ws → Rises at ws
rises_over at from [] h r = tt
rises_over at from (w ∷ ws) h r = (omega (arith, r.0), r.1)

rises_append : (at from : ℕ) (xs ys : List Written) → at ≤ from → Rises at xs → All (Ended from) xs → Rises from ys → Rises at (xs ++ ys)
rises_append at from [] ys h r e q = rises_over at from ys h q
rises_append at from (x ∷ xs) ys h r e q = (r.0, rises_append x.end from xs ys e.0 r.1 e.1 q)

rises_behind : (at : ℕ) (xs : List Written) (w : Written) (ys : List Written) → Rises at (xs ++ (w ∷ ys)) → Rises w.end ys
rises_behind at [] w ys r = r.1
rises_behind at (x ∷ xs) w ys r = rises_behind x.end xs w ys r.1

module _ (cut : ℕ) where
  kept_ends : (ws : List Written) → All (Ended cut) (kept_by cut ws)
  unfolding kept_by
  kept_ends [] = tt
  kept_ends (w ∷ ws) =
      case_b (leb w.end cut) (λ q. rw q (leb-true w.end cut q, kept_ends ws)) (λ q. rw q (kept_ends ws))

  written_rises : (from at : ℕ) (rs : List Request) → from ≤ at → Rises from (kept_by cut (written_from at rs))
  unfolding kept_by written_from
  written_rises from at [] h = tt
  written_rises from at (r ∷ rs) h =
      let next = at + (13 + length (encoded r)) in
      case_b (leb next cut)
      (λ q. rw q (omega arith, written_rises next next rs (omega arith)))
      (λ q. rw q (written_rises from next rs (omega arith)))

  -- a cut before them keeps none
  rises_lost : (at : ℕ) (ws : List Written) → cut < at → Rises at ws → kept_by cut ws ≡ []
  rises_lost at [] h r = unfold kept_by in refl
  rises_lost at (w ∷ ws) h r =
      let k : cut < w.end = omega (arith, r.0) in
      kept_not cut w ws k ∙ rises_lost w.end ws k r.1

left_rises : (area : ℕ) (last : Option Last) (ss : List Segment) → rule_from area last (map place_of ss) ≡ true → Rises (end_before last) (left_of ss)
unfolding left_of
left_rises area last [] e = tt
left_rises area last (s ∷ ss) e =
    let t = rule_parts area last s.place (map place_of ss) e in
    let f = follows_says area last s.place t.0 in
    let end = end_of s.place in
    let ws = written_from s.place.start s.asked in
    rises_append (end_before last) end (left_in s) (left_of ss) (omega (arith, f.start)) (written_rises end (end_before last) s.place.start s.asked f.start) (kept_ends end ws) (left_rises area (after_record s.place) ss t.1)

pub entries_rise : (l : Life) (ss : List Segment) → Consists l ss → Rises 0 l.entries
entries_rise l ss c =
    let s = sound_says (length l.held.area) l.held.directory l.held.used c.holds.sound in
    rw c.entries (left_rises (length l.held.area) None ss (rw (← c.holds.records) s.rule))

-- ---- what appends add

append_adds : (l m : Life) (r : Request) → appending r l ≡ some m → m.entries ≡ l.entries ++ (last_written r m.held ∷ [])
append_adds l m r e =
    subst (λ (x : Life). x.entries ≡ l.entries ++ (last_written r x.held ∷ [])) (appended l m r e).is refl

pub record Adds (rs : List Request) (before after : Life) : Type 0 where
  pub more : List Written
  pub entries : after.entries ≡ before.entries ++ more
  pub asked : map request_of more ≡ rs

-- each its own request, at the end
pub appends_add : (rs : List Request) (before after : Life) → Lives (map appends rs) before after → Adds rs before after
appends_add [] before after e =
    record { more = []; entries = ap (λ (l : Life). l.entries) (sym e) ∙ sym (append-nil before.entries); asked = refl }
appends_add (r ∷ rs) before after e =
    let a = appends_add rs e.0 after e.1.1 in
    let w = last_written r e.0.held in
    record {
      more = w ∷ a.more;
      entries =
          a.entries
          ∙ ap (λ (ws : List Written). ws ++ a.more) (append_adds before e.0 r e.1.0.1)
          ∙ append_assoc before.entries (w ∷ []) a.more;
      asked = ap (λ (qs : List Request). r ∷ qs) a.asked;
    }

-- ---- a run up to the cut

pub record Beginning (cut : ℕ) (rs : List Request) (first last : Life) : Type 0 where
  pub before : List Request
  pub after : List Request
  pub parts : rs ≡ before ++ after
  pub earlier : Life
  pub lives : Lives (map appends before) first earlier
  pub entries : earlier.entries ≡ kept_by cut last.entries

pub begins : (cut : ℕ) (rs : List Request) (first last : Life) → Lives (map appends rs) first last → Rises 0 last.entries → kept_by cut first.entries ≡ first.entries → Beginning cut rs first last
begins cut [] first last e rise kept =
    record { before = []; after = []; parts = refl; earlier = first; lives = refl; entries = rw (← e, kept) }
begins cut (r ∷ rs) first last e rise kept =
    let next = e.0 in
    let w = last_written r next.held in
    let one : next.entries ≡ first.entries ++ (w ∷ []) = append_adds first next r e.1.0.1 in
    case_b (leb w.end cut)
    (λ q.
    let whole : kept_by cut (w ∷ []) ≡ w ∷ [] = kept_whole cut w [] (leb-true _ _ q) ∙ unfold kept_by in refl in
    let b = begins cut rs next last e.1.1 rise (rw (one, kept_append cut first.entries (w ∷ []), kept, whole)) in
    record {
      before = r ∷ b.before;
      after = b.after;
      parts = ap (λ (l : List Request). r ∷ l) b.parts;
      earlier = b.earlier;
      lives = (next, (e.1.0, b.lives));
      entries = b.entries;
    })
    (λ q.
    let a = appends_add rs next last e.1.1 in
    let all : last.entries ≡ first.entries ++ (w ∷ a.more) =
    a.entries ∙ ap (λ (ws : List Written). ws ++ a.more) one ∙ append_assoc first.entries (w ∷ []) a.more in
    let h : cut < w.end = leb-false _ _ q in
    let lost : kept_by cut (w ∷ a.more) ≡ [] = kept_not cut w a.more h ∙ rises_lost cut w.end a.more h (rises_behind 0 first.entries w a.more (rw all at rise)) in
    record {
      before = [];
      after = r ∷ rs;
      parts = refl;
      earlier = first;
      lives = refl;
      entries = rw (all, kept_append cut first.entries (w ∷ a.more), kept, lost, append-nil);
    })
