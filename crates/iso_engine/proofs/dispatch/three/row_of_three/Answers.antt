use Rattle.std.proofs.Common.{codes, refl, sym, ap, subst, arith}
use Rattle.pl_model.specs.AtomBuiltins.{concatenates}
use Rattle.pl_model.specs.History.{proc}
use Rattle.pl_model.specs.TermBuiltins.{argument_of, compares, functor_of, three}
use Rattle.atom_api.specs.Names.{Names}
use Rattle.world_builtins.specs.Spelling.{reads}
use Rattle.world_api.proofs.Gaining.{gains_weaker}
use Rattle.builtin_rows.specs.declared.predicates.Pred.TheVariants.{Three}
use Rattle.builtin_rows.specs.declared.predicates.OfThree.TheVariants as of_three
use Rattle.builtin_rows.specs.Given.{given}
use Rattle.builtin_rows.specs.Rows.{IsRow}
use Rattle.builtin_rows.proofs.Answering.{ok_weaker, settled}
use Rattle.iso_engine.proofs.Defined.{argument_defined, compares_defined, functor_defined}
use Rattle.iso_engine.proofs.TableRows.{concatenates_defined, tabled}
use Rattle.iso_engine.proofs.dispatch.three.row_of_three.Goals as goal

pub returns-in-Compare : goal.returns-in-Compare
returns-in-Compare g c =
    let s = c.args.store.now in
    let m = g.A.Atoms.held c.args.atoms.now in
    let t = reads m s c.args.first in
    let u = reads m s c.args.second in
    let v = reads m s c.args.third in
    let next = c.args.next in
    let w = c.compare.new.store in
    let refused = g.A.Atoms.refusals c.args.atoms.now in
    let asked = g.A.Atoms.asked c.args.atoms.now in
    settled s w (Three c.args.pred) (Three of_three.Compare) (three t u v) next m (g.A.Atoms.held c.compare.new.atoms) refused (g.A.Atoms.refusals c.compare.new.atoms) asked (g.A.Atoms.asked c.compare.new.atoms)
    (compares t u v) c.compare.result
    (ap Three c.in-Compare.is) (compares_defined t u v next) c.compare.ensures.same c.compare.ensures.refusals c.compare.ensures.asked
    (ok_weaker _ _ c.compare.result c.compare.ensures.row
    (λ r h. subst (λ (k : Names). IsRow s next (three t u v) (given (proc (codes "compare") 3) (three t u v) next s.used s.budget (compares t u v)) k w r)
    (sym c.compare.ensures.same) (h next (omega arith)))) c.compare.ensures.refuses c.compare.ensures.single

pub returns-in-Functor : goal.returns-in-Functor
returns-in-Functor g c =
    let s = c.args.store.now in
    let m = g.A.Atoms.held c.args.atoms.now in
    let t = reads m s c.args.first in
    let u = reads m s c.args.second in
    let v = reads m s c.args.third in
    let next = c.args.next in
    let refused = g.A.Atoms.refusals c.args.atoms.now in
    let asked = g.A.Atoms.asked c.args.atoms.now in
    settled s c.functor.new.store (Three c.args.pred) (Three of_three.Functor) (three t u v) next m m refused refused asked asked
    (functor_of next t u v) c.functor.result
    (ap Three c.in-Functor.is) (functor_defined t u v next) refl refl refl
    (ok_weaker _ _ c.functor.result c.functor.ensures.row
    (λ r h. h m (g.met.A.Atoms.fixed_held c.args.atoms.now) c.requires.first_held c.requires.second_held c.requires.third_held (three t u v)))
    c.functor.ensures.refuses c.functor.ensures.single

pub returns-in-Arg : goal.returns-in-Arg
returns-in-Arg g c =
    let s = c.args.store.now in
    let m = g.A.Atoms.held c.args.atoms.now in
    let t = reads m s c.args.first in
    let u = reads m s c.args.second in
    let v = reads m s c.args.third in
    let next = c.args.next in
    let refused = g.A.Atoms.refusals c.args.atoms.now in
    let asked = g.A.Atoms.asked c.args.atoms.now in
    settled s c.arg.new.store (Three c.args.pred) (Three of_three.Arg) (three t u v) next m m refused refused asked asked
    (argument_of t u v) c.arg.result
    (ap Three c.in-Arg.is) (argument_defined t u v next) refl refl refl
    (ok_weaker _ _ c.arg.result c.arg.ensures.row
    (λ r h. h m v (g.met.A.Atoms.fixed_held c.args.atoms.now) c.requires.first_held c.requires.second_held (three t u v)))
    c.arg.ensures.refuses c.arg.ensures.single

pub returns-in-AtomConcat : goal.returns-in-AtomConcat
returns-in-AtomConcat g c =
    let s = c.args.store.now in
    let m = g.A.Atoms.held c.args.atoms.now in
    let t = reads m s c.args.first in
    let u = reads m s c.args.second in
    let v = reads m s c.args.third in
    let next = c.args.next in
    let row = c.atom_concat in
    tabled s row.new.store (Three c.args.pred) (Three of_three.AtomConcat) (three t u v) next m (g.A.Atoms.held row.new.atoms) (g.A.Atoms.refusals c.args.atoms.now) (g.A.Atoms.refusals row.new.atoms)
    (g.A.Atoms.asked c.args.atoms.now) (g.A.Atoms.asked row.new.atoms)
    (concatenates t u v) row.result (ap Three c.in-AtomConcat.is) (concatenates_defined t u v)
    row.ensures.holds row.ensures.refusals
    (gains_weaker _ _ (g.A.Atoms.asked c.args.atoms.now) (g.A.Atoms.asked row.new.atoms) (λ x h. h next (omega arith)) row.ensures.asked)
    (ok_weaker _ _ row.result row.ensures.row (λ r h. h next (omega arith)))
