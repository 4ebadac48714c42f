use Rattle.std.specs.Prelude.{map, refl}
use Rattle.atom_words.specs.Seats.{seen}
use Rattle.atom_table.specs.Naming.{names}
use Rattle.hub_database.specs.Operators.{operators_put}
use Rattle.world_api.specs.Texts.{text_of}
use Rattle.pl_hub.proofs.shared.Shared.put_operators.Given as goal

abbrev pub ghosts-put_operators_by : goal.ghosts-put_operators_by
ghosts-put_operators_by g a = record { kind = operators_put a.priority a.kind (map (text_of (names (seen a.atoms.now.seat))) a.operators.items); plain = refl }
