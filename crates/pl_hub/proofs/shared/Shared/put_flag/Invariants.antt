use Rattle.std.specs.Prelude.{refl}
use Rattle.pl_model.specs.History as entries
use Rattle.world_api.specs.Texts.{text_of}
use Rattle.atom_words.specs.Seats.{seen}
use Rattle.atom_table.specs.Naming.{names}
use Rattle.pl_hub.proofs.shared.Shared.put_flag.Given as goal

abbrev pub ghosts-put_flag_by : goal.ghosts-put_flag_by
ghosts-put_flag_by g a = record { kind = entries.set_flag (text_of (names (seen a.atoms.now.seat)) a.flag) (text_of (names (seen a.atoms.now.seat)) a.value); plain = refl }
