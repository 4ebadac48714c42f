-- What a search stands for.
use Rattle.std.specs.Prelude.{◌≡◌, ◌+◌, ℕ, List, reverse}
use Rattle.std.specs.List.{All}
use Rattle.pl_model.specs.Resolution.{Node, Choice, Doing, Output, State, collected_cells}
use Rattle.term_store.specs.Contents.{IsAbove}
use Rattle.iso_search.specs.declared.search.Search.{Search}
use Rattle.iso_search.specs.Frames.{tasks}
use Rattle.iso_search.specs.Reading.{View, reads, node_at}
use Rattle.iso_search.specs.Choices.{choices_at, IsBase, AreRests}
use Rattle.iso_search.specs.Collecting.{IsOlder}

-- The node at which the tasks of a list are still to be done.
abbrev pub node_of : View → Search → ℕ → Node
node_of v e list = node_at (reads v e.store) (tasks e.frames.items list) e.answer.items e.store.used

abbrev pub choices_of : View → Search → List Choice
choices_of v e = choices_at v e.answer.items e.store e.frames.items (reverse e.choices.items)

-- The state of the search, with what it does and what was written.
abbrev pub state_of : View → Search → Doing → List Output → State
state_of v e doing output =
    record { doing = doing; choices = choices_of v e; next = e.next_variable; inferences = e.inferences; output = output }

pub record IsWhole (e : Search) : Type 0 where
  pub base : IsBase e.answer.items e.store e.frames.items
  pub rests : AreRests e.answer.items e.store e.frames.items (reverse e.choices.items)
  -- What running calls of findall/3 have collected is taken away from the budget of the store.
  pub budget : (v : View) → e.store.budget + collected_cells (choices_of v e) ≡ e.budgets.cells
  pub above : IsAbove e.next_variable e.store
  pub older : All (λ k. IsOlder e.next_variable k.alternative) (reverse e.choices.items)
