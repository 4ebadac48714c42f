-- An engine's seat of a new table.
use Rattle.std.specs.Prelude.{◌≡◌, []}
use Rattle.atom_words.specs.Seats.{seen}
use Rattle.atom_words.specs.declared.words.Words.{Words}
use Rattle.atom_words.specs.declared.words.AtomSeat.{AtomSeat}
use Rattle.atom_table.specs.Holding.{IsEngine, Sits}
use Rattle.atom_table.specs.Opening.{fixed_slots}

pub record IsNewSeat (w : Words) (s : AtomSeat) : Type 0 where
  pub sits : Sits w s
  pub fixed : (seen s).fixed ≡ fixed_slots
  pub engine : IsEngine (seen s)
  pub refusals : (seen s).refusals ≡ []
