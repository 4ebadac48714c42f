use Rattle.std.proofs.Common.{[], ◌∷◌, map, ap, ◌∙◌}
use Rattle.pl_term.specs.Tree.{atom, comp, compound, more, none}
use Rattle.term_store.specs.Heap.{atom_name}
use Rattle.term_store.specs.Contents.{term_at}
use Rattle.world_builtins.specs.Spelling.{reads}
use Rattle.builtin_rows.proofs.Balls.{makes_one, two_places, culprit_held, culprit_reads, thrown_row}
use Rattle.builtin_rows.proofs.errors.refused_for.Goals as goal

pub make_compound-requires-clause-places : goal.make_compound-requires-clause-places
make_compound-requires-clause-places c =
    let s = c.args.store.now in two_places s c.atom.result c.args.culprit (c.atom.ensures s).0 c.requires

pub ball_of-requires : goal.ball_of-requires
ball_of-requires c = c.in_ok-term.ensures.made.holds

pub returns-clause-row : goal.returns-clause-row
returns-clause-row c m e x p next ts stands held f g h =
    let s = c.args.store.now in
    let t = c.make_compound.new.self in
    let w = c.in_ok-term.term in
    let made = c.in_ok-term.ensures in
    let k = c.args.culprit in
    let is = made.made.means ∙ ap (λ a. comp (atom_name c.args.error) a (more (term_at s k) none)) (c.atom.ensures s).1 in
    thrown_row m stands t c.ball_of.new.store w c.args.name c.args.arity p h c.in_ok-ball.ball c.in_ok-ball.ensures s next ts
    (comp e (atom x) (more (reads m s k) none))
    (makes_one s t (compound (atom_name c.args.error) (map (term_at s) (c.atom.result ∷ (k ∷ [])))) w made.made made.numbers made.adds)
    (culprit_reads m stands s t w k c.args.error c.args.kind e x f g is) (culprit_held m stands s t w k c.args.error c.args.kind e x f g is held)
