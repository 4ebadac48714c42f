use Rattle.std.proofs.Common.{ℕ, ◌+◌, [], ◌∷◌, false, refl, ap, ◌∙◌}
use Rattle.atom_words.specs.Kinds.{unlinking, noting, moving_past, view_after}
use Rattle.atom_words.specs.Seats.{seen}
use Rattle.atom_words.specs.declared.view.View.{View}
use Rattle.atom_words.specs.declared.kind.Kind.TheVariants.{UnlinkAt, Note}
use Rattle.bucket_rows.proofs.Removing.{head_is, unlinked_after, unlinked_noted, bumped_by}
use Rattle.bucket_rows.proofs.Fewness.{few_unlinked}
use Rattle.bucket_rows.proofs.removal.unlink_after.Goals as goal

pub note-noted-requires-clause-unlinked : goal.note-noted-requires-clause-unlinked
note-noted-requires-clause-unlinked c = let b = c.requires.caught in let s = c.args.seat.now in (
  unlinking false b.1.sweep,
  unlinked_after c.args.slot s.word (c.args.before + 1) c.args.link c.args.before (seen s) (seen c.unlink_at.new.seat) b c.unlink_at.ensures.steps,
  b.3 ∙ head_is s c.args.slot s.word b.0 (c.args.before + 1) (c.args.slot + 1) b.1,
)

pub bump-moved-requires-clause-unlinked : goal.bump-moved-requires-clause-unlinked
bump-moved-requires-clause-unlinked c = let b = c.requires.caught in let s = c.args.seat.now in let u : View = seen c.unlink_at.new.seat in let n : ℕ = c.note-noted.result in (
  noting n (unlinking false b.1.sweep),
  unlinked_noted n (unlinking false b.1.sweep) u (seen c.note-noted.new.seat) (unlinked_after c.args.slot s.word (c.args.before + 1) c.args.link c.args.before (seen s) u b c.unlink_at.ensures.steps) c.note-noted.ensures.steps,
  refl,
  refl,
  b.3 ∙ head_is s c.args.slot s.word b.0 (c.args.before + 1) (c.args.slot + 1) b.1,
)

pub returns-clause-steps : goal.returns-clause-steps
returns-clause-steps c = let v : View = seen c.args.seat.now in let u : View = seen c.unlink_at.new.seat in let t : View = seen c.note-noted.new.seat in let w : View = seen c.bump-moved.new.seat in let n : ℕ = c.note-noted.result in let m = bumped_by t w c.bump-moved.result c.bump-moved.ensures.steps in
    (UnlinkAt c.args.before ∷ Note n ∷ m.0 ∷ [], m.1 ∙ ap (λ (y : View). view_after y m.0) (c.note-noted.ensures.steps ∙ ap (λ (y : View). view_after y (Note n)) c.unlink_at.ensures.steps), (tt, (tt, (m.2, tt))), few_unlinked c.args.words.now.size.slots c.args.before n m.0 m.4)

pub returns-clause-out : goal.returns-clause-out
returns-clause-out c = let b = c.requires.caught in let s = c.args.seat.now in let u : View = seen c.unlink_at.new.seat in let t : View = seen c.note-noted.new.seat in let w : View = seen c.bump-moved.new.seat in let n : ℕ = c.note-noted.result in let m = bumped_by t w c.bump-moved.result c.bump-moved.ensures.steps in (
  moving_past (noting n (unlinking false b.1.sweep)),
  m.3 (noting n (unlinking false b.1.sweep)) (unlinked_noted n (unlinking false b.1.sweep) u t (unlinked_after c.args.slot s.word (c.args.before + 1) c.args.link c.args.before (seen s) u b c.unlink_at.ensures.steps) c.note-noted.ensures.steps),
  refl,
  b.1.cursor,
)
