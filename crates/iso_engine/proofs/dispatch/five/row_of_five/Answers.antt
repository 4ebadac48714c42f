use Rattle.std.proofs.Common.{refl}
use Rattle.pl_model.specs.AtomBuiltins.{five, sub_atoms}
use Rattle.world_api.proofs.Gaining.{gains_weaker}
use Rattle.world_builtins.specs.Spelling.{reads}
use Rattle.builtin_rows.specs.declared.predicates.Pred.TheVariants.{SubAtom}
use Rattle.builtin_rows.proofs.Answering.{ok_weaker}
use Rattle.iso_engine.proofs.TableRows.{sub_atoms_defined, tabled}
use Rattle.iso_engine.proofs.dispatch.five.row_of_five.Goals as goal

pub returns : goal.returns
returns g c next below =
    let s = c.args.store.now in
    let m = g.A.Atoms.held c.args.atoms.now in
    let a = reads m s c.args.first in
    let b = reads m s c.args.second in
    let l = reads m s c.args.third in
    let f = reads m s c.args.fourth in
    let t = reads m s c.args.fifth in
    let row = c.sub_atom in
    tabled s row.new.store SubAtom SubAtom (five a b l f t) next m (g.A.Atoms.held row.new.atoms) (g.A.Atoms.refusals c.args.atoms.now) (g.A.Atoms.refusals row.new.atoms)
    (g.A.Atoms.asked c.args.atoms.now) (g.A.Atoms.asked row.new.atoms)
    (sub_atoms a b l f t) row.result refl (sub_atoms_defined a b l f t)
    row.ensures.holds row.ensures.refusals
    (gains_weaker _ _ (g.A.Atoms.asked c.args.atoms.now) (g.A.Atoms.asked row.new.atoms) (λ x h. h next below) row.ensures.asked)
    (ok_weaker _ _ row.result row.ensures.row (λ r h. h next below))
