use Rattle.std.specs.Prelude.{[], ◌∷◌, refl}
use Rattle.pl_model.specs.History as entries
use Rattle.world_api.specs.Texts.{text_of}
use Rattle.world_api.specs.Visits.{proc_named}
use Rattle.atom_words.specs.Seats.{seen}
use Rattle.atom_table.specs.Naming.{names}
use Rattle.pl_hub.proofs.shared.Shared.clear_clauses.Given as goal

abbrev pub ghosts-clear_clauses_by : goal.ghosts-clear_clauses_by
ghosts-clear_clauses_by g a = record { kind = entries.set_dynamic (proc_named (text_of (names (seen a.atoms.now.seat))) a.procedure ∷ []); plain = refl }
