use Rattle.std.proofs.Common.{◌<◌, ◌^◌, ℕ, sym, subst, ◌∙◌, arith}
use Rattle.pl_term.specs.Tree.{Tree}
use Rattle.atom_words.specs.Seats.{seen}
use Rattle.atom_table.specs.Naming.{names}
use Rattle.clause_db.specs.Parts.{Held}
use Rattle.world_api.specs.Texts.{text_of}
use Rattle.counted_terms.specs.Keeping.{keeper_view}
use Rattle.hub_database.specs.Clauses.{clause_by}
use Rattle.hub_database.specs.Database.{IsDatabase, IsUpTo, databases}
use Rattle.hub_database.proofs.Deciding.{quiet_by, steady_by, steady_database}
use Rattle.hub_database.proofs.ErasedClauses.{erased_decides, gone_decides, unerased_after, unerased_decides, unerased_named}
use Rattle.hub_database.proofs.changing.erase_clause.Goals as goal

pub returns-in-Ok-true-clause-steady : goal.returns-in-Ok-true-clause-steady
returns-in-Ok-true-clause-steady g c = steady_by (keeper_view c.args.keeper.now) (keeper_view c.agree.new.keeper) c.agree.ensures.keeps c.agree.ensures.counts

pub returns-in-Ok-true-clause-quiet : goal.returns-in-Ok-true-clause-quiet
returns-in-Ok-true-clause-quiet g c = quiet_by (seen c.args.atoms.now.seat) (seen c.agree.new.atoms.seat) c.agree.ensures.held c.agree.ensures.refusals c.agree.ensures.requests

pub returns-in-Ok-false-clause-steady : goal.returns-in-Ok-false-clause-steady
returns-in-Ok-false-clause-steady g c = steady_by (keeper_view c.args.keeper.now) (keeper_view c.agree.new.keeper) c.agree.ensures.keeps c.agree.ensures.counts

pub returns-in-Ok-false-clause-quiet : goal.returns-in-Ok-false-clause-quiet
returns-in-Ok-false-clause-quiet g c = quiet_by (seen c.args.atoms.now.seat) (seen c.agree.new.atoms.seat) c.agree.ensures.held c.agree.ensures.refusals c.agree.ensures.requests

pub returns-in-Err-Memory-clause-steady : goal.returns-in-Err-Memory-clause-steady
returns-in-Err-Memory-clause-steady g c = steady_by (keeper_view c.args.keeper.now) (keeper_view c.agree.new.keeper) c.agree.ensures.keeps c.agree.ensures.counts

pub returns-in-Err-Memory-clause-quiet : goal.returns-in-Err-Memory-clause-quiet
returns-in-Err-Memory-clause-quiet g c = quiet_by (seen c.args.atoms.now.seat) (seen c.agree.new.atoms.seat) c.agree.ensures.held c.agree.ensures.refusals c.agree.ensures.requests

pub returns-in-Ok-true-clause-says : goal.returns-in-Ok-true-clause-says
returns-in-Ok-true-clause-says g c = λ goals e h at is.
    let few : c.args.generation < 2 ^ 47 = (let below = c.if-generation-ge-MOST_UPDATES.false in omega arith) in
    let says = c.in-Ok-true.ensures.says (clause_by (keeper_view c.args.keeper.now)) (databases goals h) c.agree.ensures.agreed.costs is.says in
    let settings = c.in-Ok-true.ensures.settings c.in-Ok-true.field-0-test in
    erased_decides goals e c.args.generation (text_of (names (seen c.agree.new.atoms.seat))) h (keeper_view c.args.keeper.now) (keeper_view c.agree.new.keeper) c.args.db.now c.erase.new.self at few is c.agree.ensures.keeps c.args.clause
    (sym says.0 ∙ c.in-Ok-true.field-0-test) (says.1 c.in-Ok-true.field-0-test) settings.0 settings.1

pub returns-in-Ok-false-clause-says : goal.returns-in-Ok-false-clause-says
returns-in-Ok-false-clause-says g c = λ goals e h at is.
    let few : c.args.generation < 2 ^ 47 = (let below = c.if-generation-ge-MOST_UPDATES.false in omega arith) in
    let says = c.in-Ok-false.ensures.says (clause_by (keeper_view c.args.keeper.now)) (databases goals h) c.agree.ensures.agreed.costs is.says in
    gone_decides goals e c.args.generation (text_of (names (seen c.agree.new.atoms.seat))) h (keeper_view c.args.keeper.now) (keeper_view c.agree.new.keeper) c.args.db.now c.erase.new.self at few is c.agree.ensures.keeps c.args.clause
    (sym says.0 ∙ c.in-Ok-false.field-0-test) (c.in-Ok-false.ensures.gone c.in-Ok-false.field-0-test)

pub returns-in-Err-Memory-clause-says : goal.returns-in-Err-Memory-clause-says
returns-in-Err-Memory-clause-says g c = λ goals e h at is.
    subst (λ (d : Held Tree). IsDatabase (keeper_view c.agree.new.keeper) d goals h) (sym c.in-Err-Memory.ensures.err.1)
    (steady_database (keeper_view c.args.keeper.now) (keeper_view c.agree.new.keeper) c.args.db.now goals h c.agree.ensures.keeps is)

pub returns-then-generation-ge-MOST_UPDATES-clause-steady : goal.returns-then-generation-ge-MOST_UPDATES-clause-steady
returns-then-generation-ge-MOST_UPDATES-clause-steady g c = steady_by (keeper_view c.args.keeper.now) (keeper_view c.agree.new.keeper) c.agree.ensures.keeps c.agree.ensures.counts

pub returns-then-generation-ge-MOST_UPDATES-clause-quiet : goal.returns-then-generation-ge-MOST_UPDATES-clause-quiet
returns-then-generation-ge-MOST_UPDATES-clause-quiet g c = quiet_by (seen c.args.atoms.now.seat) (seen c.agree.new.atoms.seat) c.agree.ensures.held c.agree.ensures.refusals c.agree.ensures.requests

pub returns-then-generation-ge-MOST_UPDATES-clause-upto : goal.returns-then-generation-ge-MOST_UPDATES-clause-upto
returns-then-generation-ge-MOST_UPDATES-clause-upto g c = subst (λ (n : ℕ). IsUpTo n c.args.db.now) (sym (unerased_after c.has_clause.result c.no_erasure.result c.args.generation c.no_erasure.ensures.erases)) c.requires.upto

pub returns-then-generation-ge-MOST_UPDATES-clause-named : goal.returns-then-generation-ge-MOST_UPDATES-clause-named
returns-then-generation-ge-MOST_UPDATES-clause-named g c = unerased_named (names (seen c.agree.new.atoms.seat)) c.agree.new.atoms.lawful.stand c.has_clause.result c.no_erasure.result c.no_erasure.ensures.erases

pub returns-then-generation-ge-MOST_UPDATES-clause-says : goal.returns-then-generation-ge-MOST_UPDATES-clause-says
returns-then-generation-ge-MOST_UPDATES-clause-says g c = λ goals e h at is.
    unerased_decides goals e c.args.generation (names (seen c.agree.new.atoms.seat)) c.agree.new.atoms.lawful.stand h (keeper_view c.args.keeper.now) (keeper_view c.agree.new.keeper) c.args.db.now at c.if-generation-ge-MOST_UPDATES.true is c.agree.ensures.keeps
    c.args.clause c.requires.upto.next c.has_clause.result (c.has_clause.ensures (clause_by (keeper_view c.args.keeper.now)) (databases goals h) c.agree.ensures.agreed.costs is.says) c.no_erasure.result c.no_erasure.ensures.erases
