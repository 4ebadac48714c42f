use Rattle.std.proofs.Common.{sym, ap, ◌∙◌}
use Rattle.pl_model.specs.Control.{construct}
use Rattle.iso_search.specs.Spelling.{spelled, text_of}
use Rattle.iso_search.proofs.Constructing.{no_goal_integer, no_goal_variable, of_an_atom}
use Rattle.iso_search.proofs.construct.construct_at.Goals as goal

pub returns-in-Variable-clause-stands : goal.returns-in-Variable-clause-stands
returns-in-Variable-clause-stands c v view = no_goal_variable v c.args.store.now c.args.goal c.in-Variable.field-0 c.in-Variable.ensures

pub returns-in-Integer-clause-stands : goal.returns-in-Integer-clause-stands
returns-in-Integer-clause-stands c v view = no_goal_integer v c.args.store.now c.args.goal c.in-Integer.field-0 c.in-Integer.ensures

pub returns-in-Atom-clause-stands : goal.returns-in-Atom-clause-stands
returns-in-Atom-clause-stands c v view = of_an_atom v view c.args.store.now c.args.goal c.in-Atom.name c.of_atom.result c.in-Atom.ensures c.of_atom.ensures

pub returns-in-Compound-clause-stands : goal.returns-in-Compound-clause-stands
returns-in-Compound-clause-stands c v view =
    c.of_compound.ensures.stands v view ∙ sym (ap (λ u. construct (spelled (text_of v.names) u)) c.in-Compound.ensures.0)
