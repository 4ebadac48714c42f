use Rattle.std.proofs.Common.{None, sym, ap, ◌∙◌, rules, w64}
use mir.Val.{SFits}
use Rattle.pl_model.specs.AtomBuiltins.{counted_error}
use Rattle.atom_api.specs.Names.{Names}
use Rattle.builtin_atom.proofs.Looks.{read_atom, read_compound, read_integer}
use Rattle.atom_parts.proofs.ArgumentLaws.{is_some_error, not_below}
use Rattle.atom_parts.proofs.reading.wanted_number.Goals as goal

nobody : Names
nobody a = None

pub unreachable-requires : goal.unreachable-requires
unreachable-requires c =
    let fits : SFits w64 c.in-Integer.i = search rules in
    not_below c.in-Integer.i fits c.if-i-lt0.true
    (sym (ap counted_error (read_integer nobody c.args.store.now c.args.place c.in-Integer.i c.in-Integer.ensures)) ∙ c.requires.fits nobody)

pub unreachable-requires-in-Atom : goal.unreachable-requires-in-Atom
unreachable-requires-in-Atom c =
    is_some_error _ (sym (ap counted_error (read_atom nobody c.args.store.now c.args.place c.in-Atom.field-0 c.in-Atom.ensures)) ∙ c.requires.fits nobody)

pub unreachable-requires-in-Compound : goal.unreachable-requires-in-Compound
unreachable-requires-in-Compound c =
    let seen = c.in-Compound in
    is_some_error _
    (sym (ap counted_error (read_compound nobody c.args.store.now c.args.place seen.field-0 seen.field-1 seen.ensures.0 seen.ensures.1.0 seen.ensures.1.1).is)
    ∙ c.requires.fits nobody)
