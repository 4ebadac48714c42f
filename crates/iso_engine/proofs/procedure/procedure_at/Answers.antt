use Rattle.iso_engine.proofs.Procedures.{compound_no_integer, compound_proc, variable_no_integer, variable_proc}
use Rattle.iso_engine.proofs.procedure.procedure_at.Goals as goal

pub returns-in-Variable : goal.returns-in-Variable
returns-in-Variable c = (
  λ t view. variable_proc t.view view c.args.store.now c.args.goal c.in-Variable.field-0 c.in-Variable.ensures,
  variable_no_integer c.args.store.now c.args.goal c.in-Variable.field-0 c.in-Variable.ensures,
)

pub returns-in-Integer : goal.returns-in-Integer
returns-in-Integer c = (c.in-Integer.field-0, c.in-Integer.ensures)

pub returns-in-Compound : goal.returns-in-Compound
returns-in-Compound c = (
  λ t view.
      compound_proc t.view c.args.store.now c.args.goal c.in-Compound.name c.len.result c.in-Compound.arguments c.in-Compound.ensures.0
      c.in-Compound.ensures.1.0 c.in-Compound.ensures.1.1 c.len.ensures,
  compound_no_integer c.args.store.now c.args.goal c.in-Compound.name c.in-Compound.arguments c.in-Compound.ensures.0 c.in-Compound.ensures.1.0 c.in-Compound.ensures.1.1,
)
