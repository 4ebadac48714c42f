use Rattle.std.specs.Prelude.{refl}
use Rattle.pl_model.specs.History as entries
use Rattle.world_api.specs.Texts.{text_of}
use Rattle.world_api.specs.Visits.{proc_named}
use Rattle.atom_words.specs.Seats.{seen}
use Rattle.atom_table.specs.Naming.{names}
use Rattle.pl_hub.proofs.shared.Shared.abolish_procedure.Given as goal

abbrev pub ghosts-abolish_procedure_by : goal.ghosts-abolish_procedure_by
ghosts-abolish_procedure_by g a = record { kind = entries.abolish (proc_named (text_of (names (seen a.atoms.now.seat))) a.procedure); plain = refl }
