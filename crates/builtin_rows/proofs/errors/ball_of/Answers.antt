use Rattle.std.proofs.Common.{[], ◌∷◌, map, ap, ap₂, ◌∙◌, zero}
use Rattle.pl_term.specs.Tree.{int, comp, compound, more, none}
use Rattle.term_store.specs.Contents.{term_at}
use Rattle.term_store.specs.Heap.{atom_name}
use Rattle.builtin_rows.proofs.Balls.{makes_again, makes_one, small_count, two_places}
use Rattle.builtin_rows.proofs.errors.ball_of.Goals as goal

pub make_compound-requires-clause-places : goal.make_compound-requires-clause-places
make_compound-requires-clause-places c =
    let s = c.args.store.now in
    two_places s c.atom.result c.integer-count.result (c.atom.ensures s).0 (c.integer-count.ensures s).0

pub make_compound-requires-2-clause-places : goal.make_compound-requires-2-clause-places
make_compound-requires-2-clause-places c =
    two_places c.make_compound.new.self c.args.error c.in_ok-indicator.indicator (c.in_ok-indicator.ensures.adds.places c.args.error c.requires)
    c.in_ok-indicator.ensures.made.holds

pub returns : goal.returns
returns c =
    let s = c.args.store.now in
    let t = c.make_compound.new.self in
    let u = c.make_compound-2.new.self in
    let i = c.in_ok-indicator.indicator in
    let first = c.in_ok-indicator.ensures in
    let second = c.in_ok-ball.ensures in
    record {
      makes =
          makes_again zero s t u
          (makes_one s t (compound (atom_name 9) (map (term_at s) (c.atom.result ∷ (c.integer-count.result ∷ [])))) i first.made first.numbers first.adds)
          (makes_one t u (compound (atom_name 80) (map (term_at t) (c.args.error ∷ (i ∷ [])))) c.in_ok-ball.ball second.made second.numbers second.adds);
      inside = second.made.holds;
      means =
          second.made.means
          ∙ ap₂ (λ a b. comp (atom_name 80) a (more b none)) (first.made.others c.args.error c.requires)
          (first.made.means
          ∙ ap₂ (λ a b. comp (atom_name 9) a (more b none)) (c.atom.ensures s).1 ((c.integer-count.ensures s).1 ∙ ap int (small_count c.args.arity c.ranges.arity.fits)));
    }
