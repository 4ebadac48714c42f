use Rattle.std.proofs.Common.{sym}
use Rattle.atom_api.specs.Names.{Names}
use Rattle.builtin_term.specs.TestRows.{AreNames}
use Rattle.builtin_term.proofs.Compared.{compares_stand, refuses_stand}
use Rattle.builtin_term.proofs.SignTexts.{atom_refused, sign_refused}
use Rattle.term_store.specs.Contents.{term_at}
use Rattle.builtin_term.proofs.FixedNames.{atom_is, domain_error_is, order_is, type_error_is}
use Rattle.builtin_term.proofs.comparisons.compare.Goals as goal

pub returns-in_ok-found-in-Fits-clause-row : goal.returns-in_ok-found-in-Fits-clause-row
returns-in_ok-found-in-Fits-clause-row g c =
    let s = c.args.store.now in
    let m : Names = g.A.Atoms.held c.args.atoms.now in
    let names : AreNames m =
    record {
      fixed = g.met.A.Atoms.fixed_held c.args.atoms.now;
      unlike = g.met.A.Atoms.unlike c.args.atoms.now;
      texts = λ a t e. (g.met.A.Atoms.finite c.args.atoms.now a t e).2;
    } in
    compares_stand s c.args.order c.args.left c.args.right m names c.answered.new.store c.answered.result c.atom.result
    c.sign_of.result c.in_ok-found-in-Fits.found (sym c.in-Fits.ensures) c.in_ok-found-in-Fits.ensures.order c.sign_of.ensures (c.atom.ensures s).1
    c.requires.left_held c.requires.right_held c.answered.ensures.row

pub returns-in-NoAtom-clause-row : goal.returns-in-NoAtom-clause-row
returns-in-NoAtom-clause-row g c =
    let s = c.args.store.now in
    let m : Names = g.A.Atoms.held c.args.atoms.now in
    let names : AreNames m =
    record {
      fixed = g.met.A.Atoms.fixed_held c.args.atoms.now;
      unlike = g.met.A.Atoms.unlike c.args.atoms.now;
      texts = λ a t e. (g.met.A.Atoms.finite c.args.atoms.now a t e).2;
    } in
    refuses_stand s c.args.order c.args.left c.args.right m names c.refused_for.new.store c.refused_for.result 177 45 _ _
    (atom_refused m names (term_at s c.args.order) (sym c.in-NoAtom.ensures)) type_error_is atom_is c.requires.order_held c.refused_for.ensures.row

pub returns-in-NoSign-clause-row : goal.returns-in-NoSign-clause-row
returns-in-NoSign-clause-row g c =
    let s = c.args.store.now in
    let m : Names = g.A.Atoms.held c.args.atoms.now in
    let names : AreNames m =
    record {
      fixed = g.met.A.Atoms.fixed_held c.args.atoms.now;
      unlike = g.met.A.Atoms.unlike c.args.atoms.now;
      texts = λ a t e. (g.met.A.Atoms.finite c.args.atoms.now a t e).2;
    } in
    refuses_stand s c.args.order c.args.left c.args.right m names c.refused_for-in-NoSign.new.store c.refused_for-in-NoSign.result 77 140 _ _
    (sign_refused m names (term_at s c.args.order) (sym c.in-NoSign.ensures)) domain_error_is order_is c.requires.order_held
    c.refused_for-in-NoSign.ensures.row
