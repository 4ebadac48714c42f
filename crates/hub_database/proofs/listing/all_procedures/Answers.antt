use Rattle.std.proofs.Common.{List, map, sym, ap, subst, ◌∙◌, append-nil}
use Rattle.pl_model.specs.History.{Proc}
use Rattle.pl_model.specs.declared.shows.Proc.{Proc as Shown}
use Rattle.pl_model.specs.laws.Shown.{proc_of}
use Rattle.atom_words.specs.Seats.{seen}
use Rattle.atom_table.specs.Naming.{names, requests}
use Rattle.world_api.specs.Texts.{text_of}
use Rattle.hub_database.specs.Clauses.{clause_by}
use Rattle.hub_database.specs.Database.{databases}
use Rattle.hub_database.specs.Listing.{AsksSome}
use Rattle.hub_database.proofs.ListedProcedures.{lists_tell, none_asked}
use Rattle.hub_database.proofs.listing.all_procedures.Goals as goal

pub returns-in-Ok-clause-asked : goal.returns-in-Ok-clause-asked
returns-in-Ok-clause-asked g c = λ k goals h is.
    subst (λ (l : List Proc). AsksSome l (requests (seen c.args.atoms.now.seat)) (requests (seen c.name_all.new.atoms.seat)))
    (ap (λ (l : List Shown). map proc_of l) c.as_slice.ensures.value ∙ c.in-Ok.ensures.says (clause_by k) (databases goals h) is.says) c.name_all.ensures.asked

pub returns-in-Ok-clause-says : goal.returns-in-Ok-clause-says
returns-in-Ok-clause-says g c = λ k goals e h at is.
    lists_tell goals e h c.args.generation (text_of (names (seen c.name_all.new.atoms.seat))) at (map proc_of c.as_slice.result.now)
    (ap (λ (l : List Shown). map proc_of l) c.as_slice.ensures.value ∙ c.in-Ok.ensures.says (clause_by k) (databases goals h) is.says) c.name_all.result c.name_all.ensures.lists

pub returns-in-Err-clause-refusals : goal.returns-in-Err-clause-refusals
returns-in-Err-clause-refusals g c = sym (append-nil (seen c.args.atoms.now.seat).refusals)

pub returns-in-Err-clause-asked : goal.returns-in-Err-clause-asked
returns-in-Err-clause-asked g c = λ k goals h is. none_asked _ (requests (seen c.args.atoms.now.seat))
