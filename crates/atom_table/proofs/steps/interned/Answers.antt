use Rattle.std.proofs.Common.{◌≡◌, sym, ap, ◌∙◌}
use Rattle.atom_words.specs.declared.view.Cycling.{Cycling}
use Rattle.atom_table.proofs.steps.interned.Goals as goal

pub returns-clause-engine : goal.returns-clause-engine
returns-clause-engine c = let rest = c.intern.ensures.rest in ((λ none. c.requires.engine.0 (sym (ap (λ (y : Cycling). y.engine) rest.cycle) ∙ none)), rest.sweep ∙ c.requires.engine.1)
