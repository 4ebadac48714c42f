use Rattle.std.specs.Prelude.{map, refl}
use Rattle.pl_model.specs.History as entries
use Rattle.world_api.specs.Texts.{text_of}
use Rattle.world_api.specs.Visits.{proc_named}
use Rattle.atom_words.specs.Seats.{seen}
use Rattle.atom_table.specs.Naming.{names}
use Rattle.pl_hub.proofs.shared.Shared.make_dynamic.Given as goal

abbrev pub ghosts-make_dynamic_by : goal.ghosts-make_dynamic_by
ghosts-make_dynamic_by g a = record { kind = entries.set_dynamic (map (proc_named (text_of (names (seen a.atoms.now.seat)))) a.procedures.items); plain = refl }
