use Rattle.pl_model.specs.Requests as requests
use Rattle.counted_terms.specs.CountedTerms.{said}
use Rattle.pl_hub.specs.Settling.{kind_of}
use Rattle.pl_hub.proofs.Serving.{plain_kind}
use Rattle.atom_words.specs.Seats.{seen}
use Rattle.atom_table.specs.Naming.{names}
use Rattle.pl_hub.proofs.shared.Shared.destroy_queue.Given as goal

abbrev pub ghosts-destroy_queue_by : goal.ghosts-destroy_queue_by
ghosts-destroy_queue_by g a =
    let q = requests.destroy_queue (said (names (seen a.atoms.now.seat)) a.queue.now) in
    record { kind = kind_of a.engine g.K.Naming.goals a.self.now.seen q; plain = plain_kind a.engine g.K.Naming.goals a.self.now.seen q }
