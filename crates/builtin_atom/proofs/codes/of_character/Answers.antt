use Rattle.std.proofs.Common.{◌≡◌, Bool, codes, subst, ap, ◌∙◌}
use Rattle.std.specs.Prelude.{MatchBool}
use Rattle.pl_model.specs.AtomBuiltins.{codes_character}
use Rattle.pl_model.specs.BuiltinRows.{one_answer}
use Rattle.pl_model.specs.History.{proc}
use Rattle.pl_model.specs.TermBuiltins.{two}
use Rattle.world_builtins.specs.Spelling.{reads}
use Rattle.builtin_atom.specs.declared.forms.Fault.TheVariants.{Unbound}
use Rattle.builtin_atom.specs.declared.forms.Form.TheVariants.{Codes}
use Rattle.builtin_atom.specs.Answering.{pair_at}
use Rattle.builtin_atom.specs.Forms.{IsBound, error_of}
use Rattle.builtin_atom.proofs.CodeLaws.{bound_by, code_any, code_bad, code_given, unbound_by}
use Rattle.builtin_atom.proofs.FaultLaws.{fault_given, read_bad, read_character}
use Rattle.builtin_atom.proofs.Fixed.{char_code_is}
use Rattle.builtin_atom.proofs.Looks.{integer_held, standing_number}
use Rattle.builtin_atom.proofs.Rows.{row_as}
use Rattle.builtin_atom.proofs.codes.of_character.Goals as goal

pub returns-then-is_unbound-clause-row : goal.returns-then-is_unbound-clause-row
returns-then-is_unbound-clause-row g c =
    let s = c.args.store.now in
    let m = g.A.Atoms.held c.args.atoms.now in
    let a = reads m s c.args.character in
    let b = reads m s c.args.code in
    let f = c.in-Bad.fault in
    let bad = read_bad Codes m s b c.args.second f c.in-Bad.is c.requires.second in
    let free = unbound_by b f (subst (λ (x : Bool). MatchBool x (f ≡ Unbound) (IsBound f)) c.if-is_unbound.true c.is_unbound.ensures) bad.1.0 in
    let ts = pair_at m s c.args.character c.args.code in
    row_as s (proc (codes "char_code") 2) ts (one_answer (pair_at m s c.args.character c.code_of.result)) (codes_character a b) m c.answer.new.store c.answer.result
    (ap (λ u. one_answer (two a u)) (standing_number m s c.code_of.result c.args.c c.code_of.ensures) ∙ code_any a b c.args.c c.requires.first free.0 free.1)
    (c.answer.ensures.row m (proc (codes "char_code") 2) ts c.requires.held (integer_held m s c.code_of.result _ c.code_of.ensures))

pub returns-else-is_unbound-clause-row : goal.returns-else-is_unbound-clause-row
returns-else-is_unbound-clause-row g c =
    let s = c.args.store.now in
    let m = g.A.Atoms.held c.args.atoms.now in
    let a = reads m s c.args.character in
    let b = reads m s c.args.code in
    let f = c.in-Bad.fault in
    let bad = read_bad Codes m s b c.args.second f c.in-Bad.is c.requires.second in
    let bound = subst (λ (x : Bool). MatchBool x (f ≡ Unbound) (IsBound f)) c.if-is_unbound.false c.is_unbound.ensures in
    fault_given c.fault_row.result s c.fault_row.new.store 57 (codes "char_code") (pair_at m s c.args.character c.args.code) m f (codes_character a b)
    (g.met.A.Atoms.fixed_held c.args.atoms.now) bad.1.1.1 char_code_is (code_bad a b c.args.c c.requires.first (error_of m s f) (bound_by b f bound bad.1.0) bad.0)
    c.fault_row.ensures.row

pub returns-else-c-d-clause-row : goal.returns-else-c-d-clause-row
returns-else-c-d-clause-row g c =
    let s = c.args.store.now in
    let m = g.A.Atoms.held c.args.atoms.now in
    let a = reads m s c.args.character in
    let b = reads m s c.args.code in
    let d = c.in-Character.d in
    let num = read_character Codes m s b c.args.second d c.in-Character.is c.requires.second in
    let ts = pair_at m s c.args.character c.args.code in
    let place = c.code_of-in-Character in
    row_as s (proc (codes "char_code") 2) ts (one_answer (pair_at m s c.args.character place.result)) (codes_character a b) m c.answer-in-Character.new.store c.answer-in-Character.result
    (ap (λ u. one_answer (two a u)) (standing_number m s place.result c.args.c place.ensures) ∙ code_given a b c.args.c c.requires.first d num.1 num.0)
    (c.answer-in-Character.ensures.row m (proc (codes "char_code") 2) ts c.requires.held (integer_held m s place.result _ place.ensures))
