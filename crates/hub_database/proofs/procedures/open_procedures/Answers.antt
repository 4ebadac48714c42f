use Rattle.std.proofs.Common.{◌≡◌, ℕ, None, map, refl, sym, subst}
use Rattle.std.specs.Prelude.{codes}
use Rattle.std.specs.List.{list_any}
use Rattle.pl_term.specs.Tree.{Tree}
use Rattle.pl_model.specs.Database.{is_static}
use Rattle.pl_model.specs.ErrorTerms.{resource_error}
use Rattle.pl_model.specs.History.{set_dynamic}
use Rattle.pl_model.specs.laws.Shown.{proc_of}
use Rattle.clause_db.specs.Parts.{Held}
use Rattle.clause_db.specs.declared.fault.DbFault.TheVariants.{Static, Memory as NoMemory}
use Rattle.counted_terms.specs.CountedTerms.{naming}
use Rattle.hub_database.specs.Clauses.{clause_by}
use Rattle.hub_database.specs.Database.{IsDatabase, IsUpTo, databases}
use Rattle.hub_database.proofs.ChangedRows.{dynamic_database, reply_or_made, unmade_database, worn_updates}
use Rattle.hub_database.proofs.Deciding.{refused_after, upto_next}
use Rattle.hub_database.proofs.ErasedClauses.{granted_says, only_cause}
use Rattle.hub_database.proofs.procedures.open_procedures.Goals as goal

pub returns-then-generation-ge-MOST_UPDATES-clause-upto : goal.returns-then-generation-ge-MOST_UPDATES-clause-upto
returns-then-generation-ge-MOST_UPDATES-clause-upto c = subst (λ (n : ℕ). IsUpTo n c.args.db.now) (sym (refused_after None (λ m. resource_error (codes "generations")) c.refusal.result c.args.generation (c.refusal.ensures.refuses None (λ m. resource_error (codes "generations")) c.worn_error.ensures))) c.requires.upto

pub returns-then-generation-ge-MOST_UPDATES-clause-says : goal.returns-then-generation-ge-MOST_UPDATES-clause-says
returns-then-generation-ge-MOST_UPDATES-clause-says c = worn_updates c.args.generation c.args.made c.if-generation-ge-MOST_UPDATES.true c.refusal.result (c.refusal.ensures.refuses None (λ m. resource_error (codes "generations")) c.worn_error.ensures)

pub returns-then-generation-ge-MOST_UPDATES-clause-database : goal.returns-then-generation-ge-MOST_UPDATES-clause-database
returns-then-generation-ge-MOST_UPDATES-clause-database c = λ k goals e h at is open_.
    unmade_database goals e h k c.args.db.now (set_dynamic (map proc_of c.args.ps.now)) c.refusal.result c.args.generation
    (refused_after None (λ m. resource_error (codes "generations")) c.refusal.result c.args.generation (c.refusal.ensures.refuses None (λ m. resource_error (codes "generations")) c.worn_error.ensures)) is

pub returns-in-Ok-clause-weighs : goal.returns-in-Ok-clause-weighs
returns-in-Ok-clause-weighs c = λ a. c.in-Ok.ensures.weighs (naming a)

pub returns-in-Ok-clause-upto : goal.returns-in-Ok-clause-upto
returns-in-Ok-clause-upto c = upto_next c.args.generation c.set_dynamic.new.self c.args.db.now c.in-Ok.ensures.rest.0 c.in-Ok.ensures.rest.1 c.requires.upto

pub returns-in-Ok-clause-database : goal.returns-in-Ok-clause-database
returns-in-Ok-clause-database c = λ k goals e h at is open_.
    dynamic_database goals e c.args.generation h k c.args.db.now c.set_dynamic.new.self (map proc_of c.args.ps.now) at is c.in-Ok.ensures.settings.0 c.in-Ok.ensures.settings.1
    (granted_says (list_any (is_static (databases goals h c.args.generation)) (map proc_of c.args.ps.now)) Static open_ (λ x bad. cc) (c.in-Ok.ensures.says (clause_by k) (databases goals h) is.says))

pub returns-in-Err-Memory-clause-database : goal.returns-in-Err-Memory-clause-database
returns-in-Err-Memory-clause-database c = λ k goals e h at is open_. subst (λ (d : Held Tree). IsDatabase k d goals h) (sym c.in-Err-Memory.ensures.unchanged) is

pub returns-then-generation-ge-MOST_UPDATES-clause-replies : goal.returns-then-generation-ge-MOST_UPDATES-clause-replies
returns-then-generation-ge-MOST_UPDATES-clause-replies c = reply_or_made c.refusal.result c.refusal.ensures.replies

pub unreachable-requires : goal.unreachable-requires
unreachable-requires c =
    let k = c.requires.free.0 in
    let can = c.requires.free.1 in
    let d = databases can.has.goals can.has.history in
    let only : c.in-Err.field-0 ≡ NoMemory = only_cause (list_any (is_static (d c.args.generation)) (map proc_of c.args.ps.now)) Static _ can.none (c.in-Err.ensures.says (clause_by k) d can.has.is.says) in
    c.in-Err.in-Err-own'.refused-1.1 (rw only refl)
