use Rattle.std.proofs.Common.{Some, ap, sym, ◌∙◌}
use Rattle.builtin_term.specs.Faults.{kind_text}
use Rattle.builtin_term.proofs.FixedNames.{atom_is, atomic_is, compound_is, integer_is, list_is}
use Rattle.builtin_term.proofs.faults.Kind.name.Goals as goal

pub returns-in-Atom : goal.returns-in-Atom
returns-in-Atom c = atom_is ∙ ap (λ k. Some (kind_text k)) (sym c.in-Atom.is)

pub returns-in-Atomic : goal.returns-in-Atomic
returns-in-Atomic c = atomic_is ∙ ap (λ k. Some (kind_text k)) (sym c.in-Atomic.is)

pub returns-in-Compound : goal.returns-in-Compound
returns-in-Compound c = compound_is ∙ ap (λ k. Some (kind_text k)) (sym c.in-Compound.is)

pub returns-in-Integer : goal.returns-in-Integer
returns-in-Integer c = integer_is ∙ ap (λ k. Some (kind_text k)) (sym c.in-Integer.is)

pub returns-in-List : goal.returns-in-List
returns-in-List c = list_is ∙ ap (λ k. Some (kind_text k)) (sym c.in-List.is)
