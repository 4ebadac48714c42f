use Rattle.std.specs.Prelude.{refl}
use Rattle.pl_model.specs.History as entries
use Rattle.pl_hub.proofs.shared.Shared.erase_clause.Given as goal

abbrev pub ghosts-erase_clause_by : goal.ghosts-erase_clause_by
ghosts-erase_clause_by g a = record { kind = entries.erase a.place; plain = refl }
