use Rattle.std.proofs.Common.{◌≡◌, [], ◌∷◌, refl, sym, ap, ◌∙◌, subst, inl, ⊎_elim}
use Rattle.atom_words.specs.Chains.{In}
use Rattle.atom_words.specs.Seats.{seen}
use Rattle.atom_words.specs.declared.view.Held.{Held}
use Rattle.atom_words.specs.declared.view.Cycling.{Cycling}
use Rattle.atom_words.proofs.Slices.{in_none, in_cases}
use Rattle.bucket_rows.specs.Walks.{spelled}
use Rattle.atom_table.proofs.Scans.{in_back}
use Rattle.atom_table.proofs.cycling.mark_one.Goals as goal

pub mark_and_ack-requires-clause-engine : goal.mark_and_ack-requires-clause-engine
mark_and_ack-requires-clause-engine c = let rest = c.intern.ensures.rest in ((λ none. c.requires.engine.0 (sym (ap (λ (y : Cycling). y.engine) rest.cycle) ∙ none)), rest.sweep ∙ c.requires.engine.1)

pub returns-in-Is-clause-walking : goal.returns-in-Is-clause-walking
returns-in-Is-clause-walking c = (inl c.mark_and_ack.ensures.engine.0, c.mark_and_ack.ensures.engine.1)
