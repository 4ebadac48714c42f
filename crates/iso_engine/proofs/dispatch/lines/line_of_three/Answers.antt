use Rattle.std.proofs.Common.{refl, ap}
use Rattle.pl_model.specs.AtomBuiltins.{concatenates}
use Rattle.pl_model.specs.TermBuiltins.{three}
use Rattle.world_builtins.specs.Spelling.{reads}
use Rattle.builtin_rows.specs.declared.predicates.Pred.TheVariants.{Three}
use Rattle.builtin_rows.specs.declared.predicates.OfThree.TheVariants as of_three
use Rattle.atom_parts.specs.Lined.{lines_in}
use Rattle.iso_engine.proofs.TableRows.{lines_asked, lines_stand, no_line, splits_of_table, three_has_none}
use Rattle.iso_engine.proofs.dispatch.lines.line_of_three.Goals as goal

pub returns-in-AtomConcat-clause-row : goal.returns-in-AtomConcat-clause-row
returns-in-AtomConcat-clause-row g c =
    let s = c.args.store.now in
    let m = g.A.Atoms.held c.args.atoms.now in
    let t = reads m s c.args.first in
    let u = reads m s c.args.second in
    let v = reads m s c.args.third in
    lines_stand (Three c.args.pred) (Three of_three.AtomConcat) (three t u v) (three t u v) (lines_in (concatenates t u v)) c.args.line (ap Three c.in-AtomConcat.is) refl
    (splits_of_table t u v) s (g.A.Atoms.held c.atom_concat_line.new.atoms) c.atom_concat_line.result c.atom_concat_line.ensures.row

pub returns-in-AtomConcat-clause-asked : goal.returns-in-AtomConcat-clause-asked
returns-in-AtomConcat-clause-asked g c =
    let s = c.args.store.now in
    let m = g.A.Atoms.held c.args.atoms.now in
    let t = reads m s c.args.first in
    let u = reads m s c.args.second in
    let v = reads m s c.args.third in
    lines_asked (Three c.args.pred) (Three of_three.AtomConcat) (three t u v) (three t u v) (lines_in (concatenates t u v)) c.args.line (ap Three c.in-AtomConcat.is) refl
    (splits_of_table t u v) (g.A.Atoms.asked c.args.atoms.now) (g.A.Atoms.asked c.atom_concat_line.new.atoms) c.atom_concat_line.ensures.asked

pub returns-in_default-clause-row : goal.returns-in_default-clause-row
returns-in_default-clause-row g c =
    let s = c.args.store.now in
    let m = g.A.Atoms.held c.args.atoms.now in
    let t = reads m s c.args.first in
    let u = reads m s c.args.second in
    let v = reads m s c.args.third in
    no_line s m (Three c.args.pred) (three t u v) c.args.line (three_has_none c.args.pred t u v c.in_default.not-AtomConcat)
