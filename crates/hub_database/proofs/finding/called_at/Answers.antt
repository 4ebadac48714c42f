use Rattle.std.specs.Prelude.{◌≡◌, is_some, true}
use Rattle.pl_model.specs.History.{Proc}
use Rattle.clause_db.specs.Stands.{program_access}
use Rattle.atom_words.specs.Seats.{seen}
use Rattle.atom_table.specs.Naming.{names}
use Rattle.world_api.specs.Texts.{text_of}
use Rattle.world_api.specs.Visits.{proc_named}
use Rattle.counted_terms.specs.CountedTerms.{said}
use Rattle.counted_terms.specs.Keeping.{keeper_view}
use Rattle.hub_database.specs.Clauses.{clause_by}
use Rattle.hub_database.specs.Database.{databases}
use Rattle.hub_database.proofs.CalledClauses.{known_tells}
use Rattle.hub_database.proofs.Fronts.{some_weaker}
use Rattle.hub_database.proofs.HintedCalls.{known_there, said_at}
use Rattle.hub_database.proofs.finding.called_at.Goals as goal

pub returns-clause-says : goal.returns-clause-says
returns-clause-says g c = λ goals e h t at is own key.
    let v = names (seen c.args.atoms.now.seat) in
    let k = keeper_view c.args.keeper.now in
    let p = proc_named (text_of v) c.args.procedure.now in
    let d = databases goals h in
    let stands = c.if-not-stands_at.false in
    some_weaker c.found_at.result
    (λ r found. known_tells goals e h k c.args.db.now c.args.generation at is (said v t) p own (text_of (names (seen c.found_at.new.atoms.seat)))
    (known_there (d c.args.generation) p (said_at c.args.db.now c.args.i p (c.stands_at.ensures.within stands) found.there (λ (q : Proc). is_some (program_access (d c.args.generation) q) ≡ true) (c.stands_at.ensures.there stands (clause_by k) d is.says)))
    r found.hands)
    (c.found_at.ensures.says goals h t at is own key)
