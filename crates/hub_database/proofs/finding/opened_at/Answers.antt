use Rattle.std.proofs.Common.{ap}
use Rattle.std.specs.Prelude.{◌≡◌, Some, is_some}
use Rattle.pl_model.specs.Database as model
use Rattle.pl_model.specs.History.{Proc}
use Rattle.clause_db.specs.Stands.{program_access}
use Rattle.atom_words.specs.Seats.{seen}
use Rattle.atom_table.specs.Naming.{names}
use Rattle.world_api.specs.Texts.{text_of}
use Rattle.world_api.specs.Visits.{proc_named}
use Rattle.counted_terms.specs.Keeping.{keeper_view}
use Rattle.hub_database.specs.Clauses.{clause_by}
use Rattle.hub_database.specs.Database.{databases}
use Rattle.hub_database.proofs.Fronts.{some_weaker}
use Rattle.hub_database.proofs.HintedCalls.{known_there, open_static, said_at}
use Rattle.hub_database.proofs.finding.opened_at.Goals as goal

pub returns-clause-says : goal.returns-clause-says
returns-clause-says g c = λ goals h t at is own key.
    let k = keeper_view c.args.keeper.now in
    let p = proc_named (text_of (names (seen c.args.atoms.now.seat))) c.args.procedure.now in
    let d = databases goals h in
    let stands = c.if-not-is_open_at.false in
    some_weaker c.found_at.result
    (λ r found.
    let access = said_at c.args.db.now c.args.i p (c.is_open_at.ensures.within stands) found.there (λ (q : Proc). program_access (d c.args.generation) q ≡ Some model.dynamic) (c.is_open_at.ensures.there stands (clause_by k) d is.says) in
    record { open_ = open_static (d c.args.generation) p found.open_ access; known = known_there (d c.args.generation) p (ap (λ o. is_some o) access); hands = found.hands })
    (c.found_at.ensures.says goals h t at is own key)
