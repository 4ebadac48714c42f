use Rattle.pl_model.specs.Requests as requests
use Rattle.counted_terms.specs.CountedTerms.{said}
use Rattle.pl_hub.specs.Settling.{kind_of}
use Rattle.pl_hub.proofs.Serving.{plain_kind}
use Rattle.atom_words.specs.Seats.{seen}
use Rattle.atom_table.specs.Naming.{names}
use Rattle.pl_hub.proofs.shared.Shared.join_thread.Given as goal

abbrev pub ghosts-join_thread_by : goal.ghosts-join_thread_by
ghosts-join_thread_by g a =
    let q = requests.join_thread (said (names (seen a.atoms.now.seat)) a.thread.now) in
    record { kind = kind_of a.engine g.K.Naming.goals a.self.now.seen q; plain = plain_kind a.engine g.K.Naming.goals a.self.now.seen q }
