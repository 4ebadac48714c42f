use Rattle.std.proofs.Common.{codes}
use Rattle.pl_model.specs.AtomBuiltins.{codes_character}
use Rattle.world_builtins.specs.Spelling.{reads}
use Rattle.builtin_atom.specs.declared.forms.Form.TheVariants.{Codes}
use Rattle.builtin_atom.specs.Answering.{pair_at}
use Rattle.builtin_atom.proofs.CodeLaws.{bad_or_unbound}
use Rattle.builtin_atom.proofs.FaultLaws.{fault_given, read_bad}
use Rattle.builtin_atom.proofs.Fixed.{char_code_is}
use Rattle.builtin_atom.proofs.codes.of_code.Goals as goal

pub returns-in-Bad-clause-row : goal.returns-in-Bad-clause-row
returns-in-Bad-clause-row g c =
    let s = c.args.store.now in
    let m = g.A.Atoms.held c.args.atoms.now in
    let a = reads m s c.args.character in
    let b = reads m s c.args.code in
    let f = c.in-Bad.fault in
    let bad = read_bad Codes m s b c.args.second f c.in-Bad.is c.requires.read in
    fault_given c.fault_row.result s c.fault_row.new.store 57 (codes "char_code") (pair_at m s c.args.character c.args.code) m f (codes_character a b)
    (g.met.A.Atoms.fixed_held c.args.atoms.now) bad.1.1.1 char_code_is (bad_or_unbound m s a b f c.requires.unbound.0 c.requires.unbound.1 bad.0 bad.1.0)
    c.fault_row.ensures.row
