use Rattle.std.proofs.Common.{ap, ◌∙◌}
use Rattle.atom_words.specs.Seats.{seen}
use Rattle.atom_words.specs.declared.view.View.{View}
use Rattle.atom_table.proofs.Settling.{counted_none}
use Rattle.counted_terms.specs.Keeping.{times_in}
use Rattle.hub_tests.proofs.parts.came.Goals as goal

pub came_of-requires-clause-none : goal.came_of-requires-clause-none
came_of-requires-clause-none g c = λ l b k. let v : View = seen c.in_ok-table.field-0.keeper.seat in ap (λ o. times_in o k) c.in_ok-table.ensures.keeper.1.0 ∙ counted_none v.size.slots k
