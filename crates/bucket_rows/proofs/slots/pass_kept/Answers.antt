use Rattle.std.proofs.Common.{ℕ, refl, ap, ◌∙◌, inl, inr}
use Rattle.atom_words.specs.Layout.{mark_of}
use Rattle.atom_words.specs.Board.{atom_at}
use Rattle.atom_words.specs.Kinds.{view_after}
use Rattle.atom_words.specs.Seats.{seen}
use Rattle.atom_words.specs.declared.view.View.{View}
use Rattle.atom_words.specs.declared.kind.Kind.TheVariants.{PassOver}
use Rattle.bucket_rows.proofs.Judging.{at_of, loaded_at, passed_at}
use Rattle.bucket_rows.proofs.slots.pass_kept.Goals as goal

pub returns-in-Ok-clause-steps : goal.returns-in-Ok-clause-steps
returns-in-Ok-clause-steps c = let e = c.in-Ok.ensures.steps in (e.0, inl (refl, e.2))

pub returns-in-Ok-clause-at : goal.returns-in-Ok-clause-at
returns-in-Ok-clause-at c = let e = c.in-Ok.ensures.steps in passed_at c.args.slot e.0 (seen c.args.seat.now) (seen c.pass_unmarked.new.seat) c.requires.at e.2

pub pass-requires-clause-at : goal.pass-requires-clause-at
pass-requires-clause-at c = let u : View = seen c.pass_unmarked.new.seat in at_of c.args.slot u (loaded_at c.args.slot (atom_at c.args.words.now.size c.args.slot) c.in-Err.marked (seen c.args.seat.now) u c.requires.at c.in-Err.ensures.steps.1)

pub returns-in-Err-clause-steps : goal.returns-in-Err-clause-steps
returns-in-Err-clause-steps c = let e = c.in-Err.ensures.steps in let x : ℕ = c.pass.result in
    (x, inr ((λ three. e.0 (ap (λ (n : ℕ). mark_of n) three)), c.pass.ensures.steps ∙ ap (λ (y : View). view_after y (PassOver x)) e.1))

pub returns-in-Err-clause-at : goal.returns-in-Err-clause-at
returns-in-Err-clause-at c = let u : View = seen c.pass_unmarked.new.seat in passed_at c.args.slot c.pass.result u (seen c.pass.new.seat) (loaded_at c.args.slot (atom_at c.args.words.now.size c.args.slot) c.in-Err.marked (seen c.args.seat.now) u c.requires.at c.in-Err.ensures.steps.1) c.pass.ensures.steps
