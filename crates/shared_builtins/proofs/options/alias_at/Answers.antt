use Rattle.std.proofs.Common.{codes, arith}
use Rattle.builtin_rows.proofs.Listing.{arguments_long}
use Rattle.term_store.specs.Contents.{arguments_at}
use Rattle.shared_builtins.proofs.Checking.{is_fixed_name}
use Rattle.shared_builtins.proofs.FixedNames.{atom_is, type_error_is}
use Rattle.shared_builtins.proofs.Indicating.{name_held}
use Rattle.shared_builtins.proofs.Opting.{alias_read, compound_alias, integer_alias, variable_alias}
use Rattle.shared_builtins.proofs.options.alias_at.Goals as goal

pub returns-in-Atom-clause-option : goal.returns-in-Atom-clause-option
returns-in-Atom-clause-option c m n o = alias_read m c.args.store.now c.args.place c.in-Atom.name o c.in-Atom.ensures

pub returns-in-Atom-clause-held : goal.returns-in-Atom-clause-held
returns-in-Atom-clause-held c m held = name_held m c.args.store.now c.args.place c.in-Atom.name c.in-Atom.ensures held

pub returns-in-Variable-clause-option : goal.returns-in-Variable-clause-option
returns-in-Variable-clause-option c m n o = variable_alias m c.args.store.now c.args.place _ o c.in-Variable.ensures

pub returns-in-Integer-clause-option : goal.returns-in-Integer-clause-option
returns-in-Integer-clause-option c m n o = integer_alias m c.args.store.now c.args.place _ o c.in-Integer.ensures

pub returns-in-Integer-clause-inside : goal.returns-in-Integer-clause-inside
returns-in-Integer-clause-inside c = (is_fixed_name 177 (codes "type_error") type_error_is, (is_fixed_name 45 (codes "atom") atom_is, c.requires))

pub returns-in-Compound-clause-option : goal.returns-in-Compound-clause-option
returns-in-Compound-clause-option c m n o =
    let s = c.args.store.now in
    let a = c.in-Compound in
    compound_alias m s c.args.place a.field-0 (arguments_at s a.field-1) o (omega (arith, arguments_long s a.field-1 a.ensures.1.0, a.ensures.1.1)) a.ensures.0

pub returns-in-Compound-clause-inside : goal.returns-in-Compound-clause-inside
returns-in-Compound-clause-inside c = (is_fixed_name 177 (codes "type_error") type_error_is, (is_fixed_name 45 (codes "atom") atom_is, c.requires))
