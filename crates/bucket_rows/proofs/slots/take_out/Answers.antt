use Rattle.std.proofs.Common.{ℕ, ◌+◌, [], ◌∷◌, ap, ◌∙◌, subst}
use Rattle.atom_words.specs.Kinds.{view_after, after}
use Rattle.atom_words.specs.Seats.{seen}
use Rattle.atom_words.specs.declared.view.View.{View}
use Rattle.atom_words.specs.declared.kind.Kind.TheVariants.{Condemn, Free}
use Rattle.bucket_rows.specs.Treads.{Caught}
use Rattle.bucket_rows.proofs.Removing.{then_steps, word_of}
use Rattle.bucket_rows.proofs.Judging.{caught_of, freed_at}
use Rattle.bucket_rows.proofs.slots.take_out.Goals as goal

pub unlink-requires-clause-caught : goal.unlink-requires-clause-caught
unlink-requires-clause-caught c = let k : ℕ = c.args.slot in let old : ℕ = c.args.seat.now.word in let s = c.condemn.new.seat in let q = caught_of k old c.args.before (seen c.args.seat.now) (seen s) c.requires.reached c.in_ok-condemn.ensures.steps in
    subst (λ (y : ℕ). Caught k y c.args.before (seen s)) (word_of s k old q.0 c.args.before (k + 1) q.1) q

pub returns-clause-steps : goal.returns-clause-steps
returns-clause-steps c = let v : View = seen c.args.seat.now in let u : View = view_after v Condemn in let t : View = seen c.unlink.new.seat in let w : View = seen c.free.new.seat in let e = c.unlink.ensures.steps in
    (e.0, then_steps u t w e.0 (Free ∷ []) (e.1 ∙ ap (λ (y : View). after y e.0) c.in_ok-condemn.ensures.steps) c.free.ensures.steps, e.2, e.3)

pub returns-clause-at : goal.returns-clause-at
returns-clause-at c = freed_at c.args.slot (seen c.unlink.new.seat) (seen c.free.new.seat) c.unlink.ensures.out c.free.ensures.steps
