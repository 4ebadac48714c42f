use Rattle.std.proofs.Common.{◌≡◌, Err, ap, codes, sym, subst, ◌∙◌}
use Rattle.std.specs.Prelude.{IfOk}
use Rattle.std.specs.Str.{chars}
use Rattle.pl_model.specs.AtomBuiltins.{number_in, number_row, spells_number}
use Rattle.pl_model.specs.Balls.{type_error}
use Rattle.pl_model.specs.BuiltinRows.{error}
use Rattle.pl_model.specs.Checks.{elements}
use Rattle.pl_model.specs.History.{proc}
use Rattle.atom_api.specs.Names.{Names}
use Rattle.pl_term.specs.Tree.{Chars}
use Rattle.world_builtins.specs.Spelling.{reads}
use Rattle.lex_core.specs.NumberTexts.{IsNumber}
use Rattle.builtin_atom.specs.Answering.{IsRowOf, pair_at}
use Rattle.builtin_atom.specs.Forms.{check_by, error_of, from_by, number_predicate, to_by}
use Rattle.builtin_atom.specs.Spelled.{Spells}
use Rattle.builtin_atom.proofs.Fixed.{list_is}
use Rattle.builtin_atom.proofs.NumberLaws.{numbers_bad, numbers_error, numbers_read}
use Rattle.builtin_atom.proofs.Rows.{ok_as}
use Rattle.builtin_atom.proofs.numbers.read_number.Goals as goal

pub returns-in-Broken-clause-row : goal.returns-in-Broken-clause-row
returns-in-Broken-clause-row g c =
    let s = c.args.store.now in
    let m = g.A.Atoms.held c.args.atoms.now in
    let f = c.args.form in
    let a = reads m s c.args.integer in
    let l = reads m s c.args.list in
    let p = proc (number_predicate f) 2 in
    let ts = pair_at m s c.args.integer c.args.list in
    let row = spells_number (check_by f) (from_by f) (to_by f) a l in
    let e = type_error (codes "list") l in
    let broken : elements l ≡ Err e = subst (λ r. Spells f m s l r) c.in-Broken.is c.in_ok-spelled.ensures.spells in
    subst (λ (n : Names). IfOk c.wrong_type.result (IsRowOf s p ts row n c.wrong_type.new.store)) (sym c.spelled_at.ensures.same)
    (ok_as c.wrong_type.result s p ts (error e) row m c.wrong_type.new.store
    (numbers_error (check_by f) (from_by f) (to_by f) a l c.requires.unbound.0 c.requires.unbound.1 e broken) _
    (λ r h. h m (codes "list") (number_predicate f) ts (g.met.A.Atoms.fixed_held c.args.atoms.now) c.requires.list_held list_is c.number_name-in-Broken.ensures)
    c.wrong_type.ensures.row)

pub returns-in-Bad-clause-row : goal.returns-in-Bad-clause-row
returns-in-Bad-clause-row g c =
    let s = c.args.store.now in
    let m = g.A.Atoms.held c.args.atoms.now in
    let f = c.args.form in
    let a = reads m s c.args.integer in
    let l = reads m s c.args.list in
    let p = proc (number_predicate f) 2 in
    let ts = pair_at m s c.args.integer c.args.list in
    let row = spells_number (check_by f) (from_by f) (to_by f) a l in
    let e = error_of m s c.in-Bad.fault in
    let bad = subst (λ r. Spells f m s l r) c.in-Bad.is c.in_ok-spelled.ensures.spells in
    subst (λ (n : Names). IfOk c.fault_row.result (IsRowOf s p ts row n c.fault_row.new.store)) (sym c.spelled_at.ensures.same)
    (ok_as c.fault_row.result s p ts (error e) row m c.fault_row.new.store
    (numbers_bad (check_by f) (from_by f) (to_by f) a l c.requires.unbound.0 c.requires.unbound.1 bad.0 e bad.1.0 bad.1.1.0) _
    (λ r h. h m (number_predicate f) ts (g.met.A.Atoms.fixed_held c.args.atoms.now) bad.1.1.1.1 c.number_name-in-Bad.ensures)
    c.fault_row.ensures.row)

pub returns-in_ok-text-in-Text-clause-row : goal.returns-in_ok-text-in-Text-clause-row
returns-in_ok-text-in-Text-clause-row g c =
    let s = c.args.store.now in
    let m = g.A.Atoms.held c.args.atoms.now in
    let f = c.args.form in
    let a = reads m s c.args.integer in
    let l = reads m s c.args.list in
    let p = proc (number_predicate f) 2 in
    let ts = pair_at m s c.args.integer c.args.list in
    let row = spells_number (check_by f) (from_by f) (to_by f) a l in
    let cs = c.in-Text.characters.items in
    let read = subst (λ r. Spells f m s l r) c.in-Text.is c.in_ok-spelled.ensures.spells in
    let same : chars c.as_str.result.now ≡ cs = ap chars c.as_str.ensures.value ∙ c.in_ok-text-in-Text.ensures ∙ c.deref.ensures.value in
    subst (λ (n : Names). IfOk c.number_row.result (IsRowOf s p ts row n c.number_row.new.store)) (sym c.spelled_at.ensures.same)
    (ok_as c.number_row.result s p ts (number_row l (number_in cs)) row m c.number_row.new.store
    (numbers_read (check_by f) (from_by f) (to_by f) a l c.requires.unbound.0 c.requires.unbound.1 read.0 cs read.1.0 read.1.1.0 read.1.1.1) _
    (λ r h. h m (number_predicate f) ts (number_in cs) (g.met.A.Atoms.fixed_held c.args.atoms.now) c.requires.list_held c.number_name-in-Text.ensures
    (subst (λ (t : Chars). IsNumber (number_in t) c.number_in.result) same c.number_in.ensures))
    c.number_row.ensures.row)
