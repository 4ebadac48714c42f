use Rattle.std.proofs.Common.{codes, length, sym, ap, subst, ◌∙◌, ◌<◌, ◌^◌, w64, arith, rules}
use Rattle.std.proofs.lemmas.Int.{ints}
use mir.Val.{SFits}
use Rattle.pl_model.specs.Balls.{type_error}
use Rattle.pl_model.specs.ErrorTerms.{domain_error}
use Rattle.pl_model.specs.BuiltinRows.{error, one_answer}
use Rattle.pl_model.specs.History.{proc}
use Rattle.pl_model.specs.TermBuiltins.{two}
use Rattle.pl_model.specs.AtomBuiltins.{measures}
use Rattle.atom_api.specs.Names.{Names}
use Rattle.term_store.specs.Heap.{atom_name}
use Rattle.world_builtins.specs.Spelling.{reads, text_of}
use Rattle.builtin_atom.specs.Answering.{IsRowOf, pair_at}
use Rattle.builtin_atom.proofs.Fixed.{atom_length_is, integer_is}
use Rattle.builtin_atom.proofs.Looks.{integer_held, number_reads, read_atom, read_compound, read_integer, read_variable}
use Rattle.builtin_atom.proofs.MeasureLaws.{length_any, length_atom, length_below, length_compound, length_given}
use Rattle.builtin_atom.proofs.Rows.{ok_as, row_as}
use Rattle.builtin_atom.proofs.lengths.length_of.Goals as goal

pub returns-then-given-lt0-clause-row : goal.returns-then-given-lt0-clause-row
returns-then-given-lt0-clause-row g c =
    let s = c.args.store.now in
    let m = g.A.Atoms.held c.args.atoms.now in
    let a = reads m s c.args.atom in
    let b = reads m s c.args.length in
    let p = proc (codes "atom_length") 2 in
    let ts = pair_at m s c.args.atom c.args.length in
    let stands = g.met.A.Atoms.fixed_held c.args.atoms.now in
    let t = text_of m (atom_name c.args.name) in
    let is = read_atom m s c.args.atom c.args.name c.requires.stands in
    let fits : SFits w64 c.in-Integer.given = search rules in
    ok_as c.below_zero.result s p ts (error (domain_error (codes "not_less_than_zero") b)) (measures a b) m c.below_zero.new.store
    (length_below a b t is c.in-Integer.given (read_integer m s c.args.length c.in-Integer.given c.in-Integer.ensures) fits c.if-given-lt0.true) _
    (λ r h. h m (codes "atom_length") ts stands c.requires.length_held atom_length_is) c.below_zero.ensures.row

pub returns-in-Variable-clause-row : goal.returns-in-Variable-clause-row
returns-in-Variable-clause-row g c =
    let s = c.args.store.now in
    let m = g.A.Atoms.held c.args.atoms.now in
    let a = reads m s c.args.atom in
    let b = reads m s c.args.length in
    let p = proc (codes "atom_length") 2 in
    let ts = pair_at m s c.args.atom c.args.length in
    let stands = g.met.A.Atoms.fixed_held c.args.atoms.now in
    let t = text_of m (atom_name c.args.name) in
    let is = read_atom m s c.args.atom c.args.name c.requires.stands in
    let call = c.character_count-count in
    let place = c.integer.result in
    let small : call.result < 2 ^ 63 = omega (arith, call.ensures.few) in
    subst (λ (x : Names). IsRowOf s p ts (measures a b) x c.answer.new.store c.answer.result) (sym call.ensures.same)
    (row_as s p ts (one_answer (pair_at m s c.args.atom place)) (measures a b) m c.answer.new.store c.answer.result
    (ap (λ u. one_answer (two a u)) (number_reads m s place _ (length t) c.integer.ensures (omega (arith, ints, small, call.ensures.count)))
    ∙ length_any a b t is c.in-Variable.field-0 (read_variable m s c.args.length c.in-Variable.field-0 c.in-Variable.ensures))
    (c.answer.ensures.row m p ts c.requires.atom_held (integer_held m s place _ c.integer.ensures)))

pub returns-else-count-given-clause-row : goal.returns-else-count-given-clause-row
returns-else-count-given-clause-row g c =
    let s = c.args.store.now in
    let m = g.A.Atoms.held c.args.atoms.now in
    let a = reads m s c.args.atom in
    let b = reads m s c.args.length in
    let p = proc (codes "atom_length") 2 in
    let ts = pair_at m s c.args.atom c.args.length in
    let stands = g.met.A.Atoms.fixed_held c.args.atoms.now in
    let t = text_of m (atom_name c.args.name) in
    let is = read_atom m s c.args.atom c.args.name c.requires.stands in
    let call = c.character_count-count-in-Integer in
    let place = c.integer-in-Integer.result in
    let small : call.result < 2 ^ 63 = omega (arith, call.ensures.few) in
    let fits : SFits w64 c.in-Integer.given = search rules in
    subst (λ (x : Names). IsRowOf s p ts (measures a b) x c.answer-in-Integer.new.store c.answer-in-Integer.result) (sym call.ensures.same)
    (row_as s p ts (one_answer (pair_at m s c.args.atom place)) (measures a b) m c.answer-in-Integer.new.store c.answer-in-Integer.result
    (ap (λ u. one_answer (two a u)) (number_reads m s place _ (length t) c.integer-in-Integer.ensures (omega (arith, ints, small, call.ensures.count)))
    ∙ length_given a b t is c.in-Integer.given (read_integer m s c.args.length c.in-Integer.given c.in-Integer.ensures) fits c.if-given-lt0.false)
    (c.answer-in-Integer.ensures.row m p ts c.requires.atom_held (integer_held m s place _ c.integer-in-Integer.ensures)))

pub returns-in-Atom-clause-row : goal.returns-in-Atom-clause-row
returns-in-Atom-clause-row g c =
    let s = c.args.store.now in
    let m = g.A.Atoms.held c.args.atoms.now in
    let a = reads m s c.args.atom in
    let b = reads m s c.args.length in
    let p = proc (codes "atom_length") 2 in
    let ts = pair_at m s c.args.atom c.args.length in
    let stands = g.met.A.Atoms.fixed_held c.args.atoms.now in
    let t = text_of m (atom_name c.args.name) in
    let is = read_atom m s c.args.atom c.args.name c.requires.stands in
    ok_as c.wrong_type.result s p ts (error (type_error (codes "integer") b)) (measures a b) m c.wrong_type.new.store
    (length_atom a b t is (text_of m (atom_name c.in-Atom.field-0)) (read_atom m s c.args.length c.in-Atom.field-0 c.in-Atom.ensures)) _
    (λ r h. h m (codes "integer") (codes "atom_length") ts stands c.requires.length_held integer_is atom_length_is) c.wrong_type.ensures.row

pub returns-in-Compound-clause-row : goal.returns-in-Compound-clause-row
returns-in-Compound-clause-row g c =
    let s = c.args.store.now in
    let m = g.A.Atoms.held c.args.atoms.now in
    let a = reads m s c.args.atom in
    let b = reads m s c.args.length in
    let p = proc (codes "atom_length") 2 in
    let ts = pair_at m s c.args.atom c.args.length in
    let stands = g.met.A.Atoms.fixed_held c.args.atoms.now in
    let t = text_of m (atom_name c.args.name) in
    let is = read_atom m s c.args.atom c.args.name c.requires.stands in
    let call = c.wrong_type-in-Compound in
    let seen = c.in-Compound in
    ok_as call.result s p ts (error (type_error (codes "integer") b)) (measures a b) m call.new.store
    (length_compound a b t is (read_compound m s c.args.length seen.field-0 seen.field-1 seen.ensures.0 seen.ensures.1.0 seen.ensures.1.1)) _
    (λ r h. h m (codes "integer") (codes "atom_length") ts stands c.requires.length_held integer_is atom_length_is) call.ensures.row
