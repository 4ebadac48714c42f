use Rattle.pl_model.specs.Predicates.{proc_of}
use Rattle.world_api.specs.Visits.{clause_in}
use Rattle.counted_terms.specs.CountedTerms.{said}
use Rattle.hub_database.specs.Adding.{adding_kind}
use Rattle.pl_hub.proofs.Added.{adding_plain}
use Rattle.atom_words.specs.Seats.{seen}
use Rattle.atom_table.specs.Naming.{names}
use Rattle.pl_hub.proofs.shared.Shared.add_clause.Given as goal

abbrev pub ghosts-add_clause_by : goal.ghosts-add_clause_by
ghosts-add_clause_by g a = record { kind = adding_kind a.by (proc_of (clause_in (said (names (seen a.atoms.now.seat)) a.clause)).head) (clause_in (said (names (seen a.atoms.now.seat)) a.clause)); plain = adding_plain a.by (proc_of (clause_in (said (names (seen a.atoms.now.seat)) a.clause)).head) (clause_in (said (names (seen a.atoms.now.seat)) a.clause)) }
