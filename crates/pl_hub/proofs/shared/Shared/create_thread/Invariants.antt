use Rattle.std.specs.Prelude.{map, option_map}
use Rattle.pl_model.specs.Requests as requests
use Rattle.atom_words.specs.Seats.{seen}
use Rattle.atom_table.specs.Naming.{names}
use Rattle.world_api.specs.Texts.{text_of}
use Rattle.counted_terms.specs.CountedTerms.{said}
use Rattle.pl_hub.specs.Settling.{kind_of}
use Rattle.pl_hub.proofs.Serving.{plain_kind}
use Rattle.pl_hub.proofs.shared.Shared.create_thread.Given as goal

abbrev pub ghosts-create_thread_by : goal.ghosts-create_thread_by
ghosts-create_thread_by g a =
    let m = names (seen a.atoms.now.seat) in
    let q = requests.create_thread (said m a.goal) (map (text_of m) a.aliases.items) (option_map (said m) a.error) in
    record { kind = kind_of a.engine g.K.Naming.goals a.self.now.seen q; plain = plain_kind a.engine g.K.Naming.goals a.self.now.seen q }
