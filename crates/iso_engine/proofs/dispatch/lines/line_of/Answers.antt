use Rattle.std.proofs.Common.{◌≡◌, ℕ, IfOk, ap, ◌∙◌}
use Rattle.std.specs.List.{Contains}
use Rattle.world_api.specs.Gains.{Gains}
use Rattle.world_builtins.specs.Spelling.{reads}
use Rattle.pl_model.specs.AtomBuiltins.{five, sub_atoms}
use Rattle.pl_model.specs.TermBuiltins.{three}
use Rattle.builtin_rows.specs.declared.predicates.Pred.TheVariants.{Three, SubAtom}
use Rattle.builtin_rows.specs.Given.{given_texts}
use Rattle.builtin_rows.specs.Predicates.{arity_of}
use Rattle.builtin_rows.specs.Rows.{IsRow}
use Rattle.atom_parts.specs.Lined.{lines_in}
use Rattle.iso_engine.specs.Dispatching.{given_from, terms_of}
use Rattle.iso_engine.proofs.DispatchedPlaces.{one_counted, terms_five, terms_three, two_counted}
use Rattle.iso_engine.proofs.TableRows.{as_same, lines_asked, lines_stand, no_line, one_has_none, parts_of_table, two_has_none}
use Rattle.iso_engine.proofs.dispatch.lines.line_of.Goals as goal

pub returns-in-One-clause-row : goal.returns-in-One-clause-row
returns-in-One-clause-row g c =
    let s = c.args.store.now in
    let m = g.A.Atoms.held c.args.atoms.now in
    let ts = terms_of m s c.args.arguments in
    no_line s m c.args.pred ts c.args.line
    (one_has_none c.args.pred c.in-One.field-0 ts c.in-One.is (one_counted m s c.args.arguments c.requires.inside (c.requires.count ∙ ap arity_of c.in-One.is)))

pub returns-in-Two-clause-row : goal.returns-in-Two-clause-row
returns-in-Two-clause-row g c =
    let s = c.args.store.now in
    let m = g.A.Atoms.held c.args.atoms.now in
    let ts = terms_of m s c.args.arguments in
    no_line s m c.args.pred ts c.args.line
    (two_has_none c.args.pred c.in-Two.field-0 ts c.in-Two.is (two_counted m s c.args.arguments c.requires.inside (c.requires.count ∙ ap arity_of c.in-Two.is)))

pub returns-in-Three-clause-row : goal.returns-in-Three-clause-row
returns-in-Three-clause-row g c =
    let s = c.args.store.now in
    let m = g.A.Atoms.held c.args.atoms.now in
    let a = c.args.arguments in
    let first = c.argument-first in
    let second = c.argument-second in
    let third = c.argument-third in
    let ts = terms_of m s a in
    let us = three (reads m s first.result) (reads m s second.result) (reads m s third.result) in
    let is : ts ≡ us =
    terms_three m s a c.requires.inside first.result second.result third.result (c.requires.count ∙ ap arity_of c.in-Three.is)
    first.ensures.stands second.ensures.stands third.ensures.stands in
    let n = g.A.Atoms.held c.line_of_three.new.atoms in
    let result = c.line_of_three.result in
    as_same (λ p vs. IfOk result (λ r. (next : ℕ) → IsRow s next vs (given_from p vs c.args.line) n s r)) c.args.pred (Three c.in-Three.pred) ts us c.in-Three.is is
    c.line_of_three.ensures.row

pub returns-in-Three-clause-asked : goal.returns-in-Three-clause-asked
returns-in-Three-clause-asked g c =
    let s = c.args.store.now in
    let m = g.A.Atoms.held c.args.atoms.now in
    let a = c.args.arguments in
    let first = c.argument-first in
    let second = c.argument-second in
    let third = c.argument-third in
    let ts = terms_of m s a in
    let us = three (reads m s first.result) (reads m s second.result) (reads m s third.result) in
    let is : ts ≡ us =
    terms_three m s a c.requires.inside first.result second.result third.result (c.requires.count ∙ ap arity_of c.in-Three.is)
    first.ensures.stands second.ensures.stands third.ensures.stands in
    as_same (λ p vs. Gains (Contains (given_texts (given_from p vs c.args.line))) (g.A.Atoms.asked c.args.atoms.now) (g.A.Atoms.asked c.line_of_three.new.atoms))
    c.args.pred (Three c.in-Three.pred) ts us c.in-Three.is is c.line_of_three.ensures.asked

pub returns-in-SubAtom-clause-row : goal.returns-in-SubAtom-clause-row
returns-in-SubAtom-clause-row g c =
    let s = c.args.store.now in
    let m = g.A.Atoms.held c.args.atoms.now in
    let a = c.args.arguments in
    let p = c.argument-first-in-SubAtom in
    let q = c.argument-second-in-SubAtom in
    let r = c.argument-third-in-SubAtom in
    let x = c.argument-fourth in
    let y = c.argument-fifth in
    let ta = reads m s p.result in
    let tb = reads m s q.result in
    let tl = reads m s r.result in
    let tf = reads m s x.result in
    let tp = reads m s y.result in
    let ts = terms_of m s a in
    let is : ts ≡ five ta tb tl tf tp =
    terms_five m s a c.requires.inside p.result q.result r.result x.result y.result (c.requires.count ∙ ap arity_of c.in-SubAtom.is)
    p.ensures.stands q.ensures.stands r.ensures.stands x.ensures.stands y.ensures.stands in
    lines_stand c.args.pred SubAtom ts (five ta tb tl tf tp) (lines_in (sub_atoms ta tb tl tf tp)) c.args.line c.in-SubAtom.is is (parts_of_table ta tb tl tf tp)
    s (g.A.Atoms.held c.sub_atom_line.new.atoms) c.sub_atom_line.result c.sub_atom_line.ensures.row

pub returns-in-SubAtom-clause-asked : goal.returns-in-SubAtom-clause-asked
returns-in-SubAtom-clause-asked g c =
    let s = c.args.store.now in
    let m = g.A.Atoms.held c.args.atoms.now in
    let a = c.args.arguments in
    let p = c.argument-first-in-SubAtom in
    let q = c.argument-second-in-SubAtom in
    let r = c.argument-third-in-SubAtom in
    let x = c.argument-fourth in
    let y = c.argument-fifth in
    let ta = reads m s p.result in
    let tb = reads m s q.result in
    let tl = reads m s r.result in
    let tf = reads m s x.result in
    let tp = reads m s y.result in
    let ts = terms_of m s a in
    let is : ts ≡ five ta tb tl tf tp =
    terms_five m s a c.requires.inside p.result q.result r.result x.result y.result (c.requires.count ∙ ap arity_of c.in-SubAtom.is)
    p.ensures.stands q.ensures.stands r.ensures.stands x.ensures.stands y.ensures.stands in
    lines_asked c.args.pred SubAtom ts (five ta tb tl tf tp) (lines_in (sub_atoms ta tb tl tf tp)) c.args.line c.in-SubAtom.is is (parts_of_table ta tb tl tf tp)
    (g.A.Atoms.asked c.args.atoms.now) (g.A.Atoms.asked c.sub_atom_line.new.atoms) c.sub_atom_line.ensures.asked
