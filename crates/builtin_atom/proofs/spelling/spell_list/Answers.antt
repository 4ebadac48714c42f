use Rattle.std.proofs.Common.{◌≡◌, ◌<◌, Err, codes, sym, ap, subst, ◌∙◌, arith}
use Rattle.std.specs.Prelude.{IfOk}
use Rattle.pl_term.specs.Texts.{size}
use Rattle.pl_model.specs.AtomBuiltins.{spells}
use Rattle.pl_model.specs.Balls.{representation_error, type_error}
use Rattle.pl_model.specs.BuiltinRows.{error}
use Rattle.pl_model.specs.Checks.{elements}
use Rattle.pl_model.specs.History.{proc}
use Rattle.atom_api.specs.Names.{Names}
use Rattle.world_builtins.specs.Spelling.{reads}
use Rattle.builtin_atom.specs.Answering.{IsRowOf, pair_at}
use Rattle.builtin_atom.specs.Forms.{atom_predicate, check_by, error_of, from_by, to_by}
use Rattle.builtin_atom.specs.Spelled.{Spells}
use Rattle.builtin_atom.proofs.Fixed.{list_is, max_atom_length_is}
use Rattle.builtin_atom.proofs.Rows.{ok_as}
use Rattle.builtin_atom.proofs.SpellLaws.{spells_bad, spells_error, spells_long}
use Rattle.builtin_atom.proofs.spelling.spell_list.Goals as goal

pub returns-in-Broken-clause-row : goal.returns-in-Broken-clause-row
returns-in-Broken-clause-row g c =
    let s = c.args.store.now in
    let m = g.A.Atoms.held c.args.atoms.now in
    let f = c.args.form in
    let a = reads m s c.args.atom in
    let l = reads m s c.args.list in
    let p = proc (atom_predicate f) 2 in
    let ts = pair_at m s c.args.atom c.args.list in
    let row = spells (check_by f) (from_by f) (to_by f) a l in
    let e = type_error (codes "list") l in
    let broken : elements l ≡ Err e = subst (λ r. Spells f m s l r) c.in-Broken.is c.in_ok-spelled.ensures.spells in
    subst (λ (n : Names). IfOk c.wrong_type.result (IsRowOf s p ts row n c.wrong_type.new.store)) (sym c.spelled_at.ensures.same)
    (ok_as c.wrong_type.result s p ts (error e) row m c.wrong_type.new.store
    (spells_error (check_by f) (from_by f) (to_by f) a l c.requires.unbound.0 c.requires.unbound.1 e broken) _
    (λ r h. h m (codes "list") (atom_predicate f) ts (g.met.A.Atoms.fixed_held c.args.atoms.now) c.requires.list_held list_is c.name_of-in-Broken.ensures)
    c.wrong_type.ensures.row)

pub returns-in-Bad-clause-row : goal.returns-in-Bad-clause-row
returns-in-Bad-clause-row g c =
    let s = c.args.store.now in
    let m = g.A.Atoms.held c.args.atoms.now in
    let f = c.args.form in
    let a = reads m s c.args.atom in
    let l = reads m s c.args.list in
    let p = proc (atom_predicate f) 2 in
    let ts = pair_at m s c.args.atom c.args.list in
    let row = spells (check_by f) (from_by f) (to_by f) a l in
    let e = error_of m s c.in-Bad.fault in
    let bad = subst (λ r. Spells f m s l r) c.in-Bad.is c.in_ok-spelled.ensures.spells in
    subst (λ (n : Names). IfOk c.fault_row.result (IsRowOf s p ts row n c.fault_row.new.store)) (sym c.spelled_at.ensures.same)
    (ok_as c.fault_row.result s p ts (error e) row m c.fault_row.new.store
    (spells_bad (check_by f) (from_by f) (to_by f) a l c.requires.unbound.0 c.requires.unbound.1 bad.0 e bad.1.0 bad.1.1.0) _
    (λ r h. h m (atom_predicate f) ts (g.met.A.Atoms.fixed_held c.args.atoms.now) bad.1.1.1.1 c.name_of-in-Bad.ensures)
    c.fault_row.ensures.row)

pub returns-then-size-gt248-clause-row : goal.returns-then-size-gt248-clause-row
returns-then-size-gt248-clause-row g c =
    let s = c.args.store.now in
    let m = g.A.Atoms.held c.args.atoms.now in
    let f = c.args.form in
    let a = reads m s c.args.atom in
    let l = reads m s c.args.list in
    let p = proc (atom_predicate f) 2 in
    let ts = pair_at m s c.args.atom c.args.list in
    let row = spells (check_by f) (from_by f) (to_by f) a l in
    let cs = c.in-Text.characters.items in
    let read = subst (λ r. Spells f m s l r) c.in-Text.is c.in_ok-spelled.ensures.spells in
    let same = c.in_ok-text-in-Text.ensures ∙ c.deref.ensures.value in
    let long : 248 < size cs = omega (arith, c.if-size-gt248.true, c.size.ensures, ap size same) in
    subst (λ (n : Names). IfOk c.past_limit.result (IsRowOf s p ts row n c.past_limit.new.store)) (sym c.spelled_at.ensures.same)
    (ok_as c.past_limit.result s p ts (error (representation_error (codes "max_atom_length"))) row m c.past_limit.new.store
    (spells_long (check_by f) (from_by f) (to_by f) a l c.requires.unbound.0 c.requires.unbound.1 read.0 cs read.1.0 read.1.1.0 read.1.1.1 long) _
    (λ r h. h m (codes "max_atom_length") (atom_predicate f) ts (g.met.A.Atoms.fixed_held c.args.atoms.now) max_atom_length_is c.name_of-then-size-gt248.ensures)
    c.past_limit.ensures.row)
