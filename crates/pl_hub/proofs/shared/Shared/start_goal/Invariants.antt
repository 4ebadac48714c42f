use Rattle.pl_model.specs.Requests as requests
use Rattle.atom_words.specs.Seats.{seen}
use Rattle.atom_table.specs.Naming.{names}
use Rattle.counted_terms.specs.CountedTerms.{said}
use Rattle.pl_hub.specs.Settling.{kind_of}
use Rattle.pl_hub.proofs.Serving.{plain_kind}
use Rattle.pl_hub.proofs.shared.Shared.start_goal.Given as goal

abbrev pub ghosts-start_goal_by : goal.ghosts-start_goal_by
ghosts-start_goal_by g a =
    let q = requests.start_goal a.number (said (names (seen a.atoms.now.seat)) a.goal) in
    record { kind = kind_of a.engine g.K.Naming.goals a.self.now.seen q; plain = plain_kind a.engine g.K.Naming.goals a.self.now.seen q }
