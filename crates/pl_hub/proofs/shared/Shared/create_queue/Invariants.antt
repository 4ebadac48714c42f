use Rattle.std.specs.Prelude.{option_map}
use Rattle.pl_model.specs.Requests as requests
use Rattle.atom_words.specs.Seats.{seen}
use Rattle.atom_table.specs.Naming.{names}
use Rattle.world_api.specs.Texts.{text_of}
use Rattle.pl_hub.specs.Settling.{kind_of}
use Rattle.pl_hub.proofs.Serving.{plain_kind}
use Rattle.pl_hub.proofs.shared.Shared.create_queue.Given as goal

abbrev pub ghosts-create_queue_by : goal.ghosts-create_queue_by
ghosts-create_queue_by g a =
    let q = requests.create_queue (option_map (text_of (names (seen a.atoms.now.seat))) a.alias) in
    record { kind = kind_of a.engine g.K.Naming.goals a.self.now.seen q; plain = plain_kind a.engine g.K.Naming.goals a.self.now.seen q }
