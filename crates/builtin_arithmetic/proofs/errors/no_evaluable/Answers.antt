use Rattle.std.proofs.Common.{◌≡◌, [], ◌∷◌, map, pos, codes, of_z, to_z, w64, ap, subst, ◌∙◌}
use Rattle.std.proofs.lemmas.Int.{to_z-of_z}
use Rattle.pl_term.specs.Tree.{int, compound}
use Rattle.pl_model.specs.Balls.{error_ball}
use Rattle.pl_model.specs.History.{proc}
use Rattle.term_store.specs.Heap.{atom_name}
use Rattle.term_store.specs.Contents.{term_at}
use Rattle.builtin_rows.specs.Given.{thrown}
use Rattle.builtin_rows.specs.Rows.{IsRow}
use Rattle.builtin_rows.proofs.Balls.{makes_one, two_places}
use Rattle.builtin_arithmetic.proofs.Raising.{evaluable_is, indicator_held, indicator_reads, row_since, type_is}
use Rattle.builtin_arithmetic.proofs.errors.no_evaluable.Goals as goal

pub make_compound-requires-clause-places : goal.make_compound-requires-clause-places
make_compound-requires-clause-places c =
    let s = c.args.store.now in
    two_places s c.atom.result c.integer.result (c.atom.ensures s).0 (c.integer.ensures s).0

pub returns-clause-row : goal.returns-clause-row
returns-clause-row c m p next ts stands held known =
    let s = c.args.store.now in
    let t = c.make_compound.new.self in
    let u = c.refused_for.new.store in
    let w = c.in_ok-indicator.indicator in
    let made = c.in_ok-indicator.ensures in
    let a = c.args.functor in
    let k = c.args.count in
    let counted : to_z w64 (of_z w64 c.in-Ok.number) ≡ pos k = ap (λ z. to_z w64 (of_z w64 z)) c.in-Ok.ensures.1 ∙ to_z-of_z w64 (pos k) c.in-Ok.ensures.0 in
    let name = (c.atom.ensures s).1 in
    let number = (c.integer.ensures s).1 ∙ ap int counted in
    let b = made.made.means in
    row_since s t u (makes_one s t (compound (atom_name 9) (map (term_at s) (c.atom.result ∷ (c.integer.result ∷ [])))) w made.made made.numbers made.adds) next ts
    _ m c.in_ok-row.row c.in_ok-row.ensures.refuses
    (subst (λ e. IsRow t next ts (thrown (error_ball e (proc p c.args.arity))) m u c.in_ok-row.row)
    (indicator_reads m stands s t w c.atom.result c.integer.result a k name number b)
    (c.in_ok-row.ensures.row m (codes "type_error") (codes "evaluable") p next ts stands
    (indicator_held m stands s t w c.atom.result c.integer.result a k name number b held) type_is evaluable_is known))
