-- `apply` meets its contract: by the entry that the payload decodes to.
-- Assumes nothing.
use mathlib.Core.Path.{sym, ◌∙◌}
use Rattle.entry.specs.Decode.{content_at}
use Rattle.store.specs.Apply.{change_of}
use Rattle.store.specs.Effect.{effect_of}
use Rattle.store.proofs.Applies.{effect_read, not_refused, marker_keeps}
use Rattle.store.proofs.apply.apply.Goals as goal

pub returns-in_default : goal.returns-in_default
returns-in_default c = absurd (not_refused _ c.args.listed _ c.part-payload.ensures c.requires (sym c.decode.ensures ∙ c.in_default.is))

pub returns-in-Insert : goal.returns-in-Insert
unfolding change_of effect_of content_at
returns-in-Insert c =
    c.set.ensures
    ∙ rw (c.bytes_at-in-Insert.ensures, c.bytes_at.ensures, effect_read _ c.args.listed _ c.part-payload.ensures _ (sym c.decode.ensures ∙ c.in-Some.is), c.in-Insert.is)

pub returns-in-Update : goal.returns-in-Update
unfolding change_of effect_of content_at
returns-in-Update c =
    c.set-in-Update.ensures
    ∙ rw (c.bytes_at-in-Update-2.ensures, c.bytes_at-in-Update.ensures, effect_read _ c.args.listed _ c.part-payload.ensures _ (sym c.decode.ensures ∙ c.in-Some.is), c.in-Update.is)

pub returns-in-Delete : goal.returns-in-Delete
unfolding change_of effect_of content_at
returns-in-Delete c =
    c.remove.ensures
    ∙ rw (c.bytes_at-in-Delete.ensures, effect_read _ c.args.listed _ c.part-payload.ensures _ (sym c.decode.ensures ∙ c.in-Some.is), c.in-Delete.is)

pub returns-in-Commit : goal.returns-in-Commit
unfolding change_of
returns-in-Commit c = rw (effect_read _ c.args.listed _ c.part-payload.ensures _ (sym c.decode.ensures ∙ c.in-Some.is), marker_keeps _ _ c.in-Commit.is)
