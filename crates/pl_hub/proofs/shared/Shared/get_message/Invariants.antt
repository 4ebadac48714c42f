use Rattle.std.specs.Prelude.{Some}
use Rattle.pl_model.specs.Requests as requests
use Rattle.atom_words.specs.Seats.{seen}
use Rattle.atom_table.specs.Naming.{names}
use Rattle.counted_terms.specs.CountedTerms.{said}
use Rattle.pl_hub.specs.Settling.{kind_of}
use Rattle.pl_hub.proofs.Serving.{plain_kind}
use Rattle.pl_hub.proofs.shared.Shared.get_message.Given as goal

abbrev pub ghosts-get_message_by : goal.ghosts-get_message_by
ghosts-get_message_by g a =
    let q = requests.get_message (Some (said (names (seen a.atoms.now.seat)) a.queue.now)) (said (names (seen a.atoms.now.seat)) a.pattern.now) in
    record { kind = kind_of a.engine g.K.Naming.goals a.self.now.seen q; plain = plain_kind a.engine g.K.Naming.goals a.self.now.seen q }
