-- Document 01, "Entry bytes": "a 4-byte kind (0 Insert, 1 Update, 2 Delete, 3 Commit, 4 Abort)".
-- Assumes nothing.
use Rattle.std.specs.Prelude.{ℕ, ◌≡◌, ◌<◌, cond, eqb, MatchResult}
use Rattle.std.specs.declared.result.Result.{Result}
use Rattle.payload.specs.declared.kind.Kind.{Kind}
use Rattle.payload.specs.declared.kind.Kind.TheVariants.{Insert, Update, Delete, Commit, Abort}
use Rattle.payload.specs.declared.kind.UnknownKind.{UnknownKind}

abbrev pub insert_kind : ℕ
insert_kind = 0

abbrev pub update_kind : ℕ
update_kind = 1

abbrev pub delete_kind : ℕ
delete_kind = 2

abbrev pub commit_kind : ℕ
commit_kind = 3

abbrev pub abort_kind : ℕ
abort_kind = 4

abbrev pub number_of : Kind → ℕ
number_of Insert = insert_kind
number_of Update = update_kind
number_of Delete = delete_kind
number_of Commit = commit_kind
number_of Abort = abort_kind

-- the kind that has this number, or an error with a number that no kind has
abbrev pub Numbers : ℕ → Result Kind UnknownKind → Type 0
Numbers number r =
    MatchResult r (λ kind. number_of kind ≡ number) (λ unknown. (unknown.0 ≡ number) × (abort_kind < number))

-- what a kind's number picks: one of five, and the last for any other number
unfoldable pub by_kind : {A : Type 0} → ℕ → (insert update delete commit abort another : A) → A
by_kind kind insert update delete commit abort another =
    cond (eqb kind insert_kind) insert
    (cond (eqb kind update_kind) update
    (cond (eqb kind delete_kind) delete
    (cond (eqb kind commit_kind) commit
    (cond (eqb kind abort_kind) abort another))))
