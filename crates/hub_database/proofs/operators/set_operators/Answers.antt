use Rattle.std.proofs.Common.{ℕ, None, map, refl, sym, ap, subst, ◌∙◌}
use Rattle.std.specs.Prelude.{codes}
use Rattle.pl_term.specs.Tree.{Tree}
use Rattle.pl_model.specs.ErrorTerms.{resource_error}
use Rattle.pl_model.specs.History.{set_op}
use Rattle.pl_model.specs.OperatorTable.{OperatorTable}
use Rattle.pl_model.specs.SharedState.{with_operators}
use Rattle.clause_db.specs.Operators.{shown}
use Rattle.clause_db.specs.Parts.{Held}
use Rattle.counted_terms.specs.CountedTerms.{naming}
use Rattle.hub_database.specs.Clauses.{clause_by}
use Rattle.hub_database.specs.Database.{IsDatabase, IsUpTo, databases}
use Rattle.hub_database.proofs.ChangedRows.{settings_database, unmade_database, worn_updates}
use Rattle.hub_database.proofs.Deciding.{refused_after, upto_next}
use Rattle.hub_database.proofs.operators.set_operators.Goals as goal

pub returns-then-generation-ge-MOST_UPDATES-clause-upto : goal.returns-then-generation-ge-MOST_UPDATES-clause-upto
returns-then-generation-ge-MOST_UPDATES-clause-upto c = subst (λ (n : ℕ). IsUpTo n c.args.db.now) (sym (refused_after None (λ m. resource_error (codes "generations")) c.refusal.result c.args.generation (c.refusal.ensures.refuses None (λ m. resource_error (codes "generations")) c.worn_error.ensures))) c.requires.upto

pub returns-then-generation-ge-MOST_UPDATES-clause-says : goal.returns-then-generation-ge-MOST_UPDATES-clause-says
returns-then-generation-ge-MOST_UPDATES-clause-says c = worn_updates c.args.generation _ c.if-generation-ge-MOST_UPDATES.true c.refusal.result (c.refusal.ensures.refuses None (λ m. resource_error (codes "generations")) c.worn_error.ensures)

pub returns-then-generation-ge-MOST_UPDATES-clause-database : goal.returns-then-generation-ge-MOST_UPDATES-clause-database
returns-then-generation-ge-MOST_UPDATES-clause-database c = λ k goals e h at is.
    unmade_database goals e h k c.args.db.now (set_op (map shown c.args.rows.now)) c.refusal.result c.args.generation
    (refused_after None (λ m. resource_error (codes "generations")) c.refusal.result c.args.generation (c.refusal.ensures.refuses None (λ m. resource_error (codes "generations")) c.worn_error.ensures)) is

pub returns-in-Ok-clause-weighs : goal.returns-in-Ok-clause-weighs
returns-in-Ok-clause-weighs c = λ a. c.in-Ok.ensures.weighs (naming a)

pub returns-in-Ok-clause-upto : goal.returns-in-Ok-clause-upto
returns-in-Ok-clause-upto c = upto_next c.args.generation c.set_op.new.self c.args.db.now (ap (λ (d : Held Tree). d.next) c.in-Ok.ensures.set) (ap (λ (d : Held Tree). d.floor) c.in-Ok.ensures.set) c.requires.upto

pub returns-in-Ok-clause-floor : goal.returns-in-Ok-clause-floor
returns-in-Ok-clause-floor c = ap (λ (d : Held Tree). d.floor) c.in-Ok.ensures.set

pub returns-in-Ok-clause-database : goal.returns-in-Ok-clause-database
returns-in-Ok-clause-database c = λ k goals e h at is.
    settings_database goals e h k c.set_op.new.self (set_op (map shown c.args.rows.now)) is.open_only refl (c.in-Ok.ensures.says (clause_by k) (databases goals h) is.says)
    (ap (λ (d : Held Tree). d.flags) c.in-Ok.ensures.set ∙ is.flags)
    (ap (λ (d : Held Tree). d.operators) c.in-Ok.ensures.set ∙ ap (λ (t : OperatorTable). with_operators (map shown c.args.rows.now) t) is.operators)

pub returns-in-Err-Memory-clause-database : goal.returns-in-Err-Memory-clause-database
returns-in-Err-Memory-clause-database c = λ k goals e h at is. subst (λ (d : Held Tree). IsDatabase k d goals h) (sym c.in-Err-Memory.ensures.unchanged) is
