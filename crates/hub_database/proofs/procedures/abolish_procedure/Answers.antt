use Rattle.std.proofs.Common.{◌≡◌, ◌<◌, ◌^◌, ◌∷◌, [], ℕ, None, Some, refl, sym, ap, subst, ◌∙◌, arith}
use Rattle.std.specs.Prelude.{IsSome, codes}
use Rattle.std.specs.List.{list_any}
use Rattle.pl_model.specs.Database.{is_static}
use Rattle.pl_term.specs.Tree.{Tree}
use Rattle.pl_model.specs.Errors.{static_procedure}
use Rattle.pl_model.specs.ErrorTerms.{resource_error}
use Rattle.pl_model.specs.History.{Proc, abolish}
use Rattle.pl_model.specs.Requests as requests
use Rattle.pl_model.specs.laws.Shown.{proc_of}
use Rattle.atom_api.specs.Names.{Names}
use Rattle.atom_words.specs.Seats.{seen}
use Rattle.atom_table.specs.Naming.{names}
use Rattle.clause_db.specs.Parts.{Held}
use Rattle.world_api.specs.Texts.{text_of}
use Rattle.world_api.specs.Visits.{proc_named}
use Rattle.world_api.specs.declared.reply.Reply.TheVariants.{Done}
use Rattle.counted_terms.specs.Keeping.{keeper_view}
use Rattle.counted_terms.specs.declared.row.Row.TheVariants.{Makes}
use Rattle.hub_database.specs.Clauses.{clause_by}
use Rattle.hub_database.specs.Database.{IsDatabase, IsUpTo, databases}
use Rattle.hub_database.specs.Rows.{Decides}
use Rattle.hub_database.proofs.Deciding.{quiet_by, quiet_then, refused_after, refused_named, steady_by, steady_database, steady_same}
use Rattle.clause_db.specs.declared.fault.DbFault.TheVariants.{Static, Memory as NoMemory}
use Rattle.hub_database.proofs.ErasedClauses.{abolished_decides, abolished_says, no_static, only_cause, static_kept, unabolished_decides}
use Rattle.hub_database.proofs.procedures.abolish_procedure.Goals as goal

pub returns-then-is_static-clause-steady : goal.returns-then-is_static-clause-steady
returns-then-is_static-clause-steady g c = steady_same (keeper_view c.args.keeper.now)

pub returns-then-is_static-clause-upto : goal.returns-then-is_static-clause-upto
returns-then-is_static-clause-upto g c = subst (λ (n : ℕ). IsUpTo n c.args.db.now) (sym (refused_after (Some c.args.procedure.now.name) (λ m. static_procedure (proc_named (text_of m) c.args.procedure.now)) c.refusal.result c.args.generation (c.refusal.ensures.refuses (Some c.args.procedure.now.name) (λ m. static_procedure (proc_named (text_of m) c.args.procedure.now)) c.static_error.ensures))) c.requires.upto

pub returns-then-is_static-clause-named : goal.returns-then-is_static-clause-named
returns-then-is_static-clause-named g c = refused_named (names (seen c.predicate_text.new.atoms.seat)) (Some c.args.procedure.now.name) (λ m. static_procedure (proc_named (text_of m) c.args.procedure.now)) c.predicate_text.new.atoms.lawful.stand (subst (λ (m : Names). IsSome (m c.args.procedure.now.name)) (sym c.predicate_text.ensures.held) c.requires.name) c.refusal.result (c.refusal.ensures.refuses (Some c.args.procedure.now.name) (λ m. static_procedure (proc_named (text_of m) c.args.procedure.now)) c.static_error.ensures)

pub returns-then-is_static-clause-says : goal.returns-then-is_static-clause-says
returns-then-is_static-clause-says g c = λ goals e h at is.
    static_kept goals e c.args.generation (names (seen c.predicate_text.new.atoms.seat)) c.predicate_text.new.atoms.lawful.stand h (keeper_view c.args.keeper.now) c.args.db.now at is
    (proc_of c.in-Ok.p) (proc_named (text_of (names (seen c.args.atoms.now.seat))) c.args.procedure.now) c.in-Ok.ensures.spelled c.args.procedure.now (subst (λ (m : Names). IsSome (m c.args.procedure.now.name)) (sym c.predicate_text.ensures.held) c.requires.name)
    (ap (λ (m : Names). proc_named (text_of m) c.args.procedure.now) (sym c.predicate_text.ensures.held))
    (sym (c.is_static.ensures (clause_by (keeper_view c.args.keeper.now)) (databases goals h) is.says) ∙ c.if-is_static.true) c.refusal.result (c.refusal.ensures.refuses (Some c.args.procedure.now.name) (λ m. static_procedure (proc_named (text_of m) c.args.procedure.now)) c.static_error.ensures)

pub returns-then-generation-ge-MOST_UPDATES-clause-steady : goal.returns-then-generation-ge-MOST_UPDATES-clause-steady
returns-then-generation-ge-MOST_UPDATES-clause-steady g c = steady_same (keeper_view c.args.keeper.now)

pub returns-then-generation-ge-MOST_UPDATES-clause-upto : goal.returns-then-generation-ge-MOST_UPDATES-clause-upto
returns-then-generation-ge-MOST_UPDATES-clause-upto g c = subst (λ (n : ℕ). IsUpTo n c.args.db.now) (sym (refused_after None (λ m. resource_error (codes "generations")) c.refusal-then-generation-ge-MOST_UPDATES.result c.args.generation (c.refusal-then-generation-ge-MOST_UPDATES.ensures.refuses None (λ m. resource_error (codes "generations")) c.worn_error.ensures))) c.requires.upto

pub returns-then-generation-ge-MOST_UPDATES-clause-named : goal.returns-then-generation-ge-MOST_UPDATES-clause-named
returns-then-generation-ge-MOST_UPDATES-clause-named g c = refused_named (names (seen c.predicate_text.new.atoms.seat)) None (λ m. resource_error (codes "generations")) c.predicate_text.new.atoms.lawful.stand tt c.refusal-then-generation-ge-MOST_UPDATES.result (c.refusal-then-generation-ge-MOST_UPDATES.ensures.refuses None (λ m. resource_error (codes "generations")) c.worn_error.ensures)

pub returns-then-generation-ge-MOST_UPDATES-clause-says : goal.returns-then-generation-ge-MOST_UPDATES-clause-says
returns-then-generation-ge-MOST_UPDATES-clause-says g c = λ goals e h at is.
    unabolished_decides goals e c.args.generation (names (seen c.predicate_text.new.atoms.seat)) c.predicate_text.new.atoms.lawful.stand h (keeper_view c.args.keeper.now) (keeper_view c.args.keeper.now) c.args.db.now at c.if-generation-ge-MOST_UPDATES.true is refl
    (proc_of c.in-Ok.p) (proc_named (text_of (names (seen c.args.atoms.now.seat))) c.args.procedure.now) c.in-Ok.ensures.spelled
    (sym (c.is_static.ensures (clause_by (keeper_view c.args.keeper.now)) (databases goals h) is.says) ∙ c.if-is_static.false) c.refusal-then-generation-ge-MOST_UPDATES.result (c.refusal-then-generation-ge-MOST_UPDATES.ensures.refuses None (λ m. resource_error (codes "generations")) c.worn_error.ensures)

pub returns-in-Ok-abolish-clause-steady : goal.returns-in-Ok-abolish-clause-steady
returns-in-Ok-abolish-clause-steady g c = steady_by (keeper_view c.args.keeper.now) (keeper_view c.agree.new.keeper) c.agree.ensures.keeps c.agree.ensures.counts

pub returns-in-Ok-abolish-clause-quiet : goal.returns-in-Ok-abolish-clause-quiet
returns-in-Ok-abolish-clause-quiet g c = quiet_then (seen c.args.atoms.now.seat) (seen c.predicate_text.new.atoms.seat) (seen c.agree.new.atoms.seat) c.predicate_text.ensures.quiet
    (quiet_by (seen c.predicate_text.new.atoms.seat) (seen c.agree.new.atoms.seat) c.agree.ensures.held c.agree.ensures.refusals c.agree.ensures.requests)

pub returns-in-Err-Memory-clause-steady : goal.returns-in-Err-Memory-clause-steady
returns-in-Err-Memory-clause-steady g c = steady_by (keeper_view c.args.keeper.now) (keeper_view c.agree.new.keeper) c.agree.ensures.keeps c.agree.ensures.counts

pub returns-in-Err-Memory-clause-quiet : goal.returns-in-Err-Memory-clause-quiet
returns-in-Err-Memory-clause-quiet g c = quiet_then (seen c.args.atoms.now.seat) (seen c.predicate_text.new.atoms.seat) (seen c.agree.new.atoms.seat) c.predicate_text.ensures.quiet
    (quiet_by (seen c.predicate_text.new.atoms.seat) (seen c.agree.new.atoms.seat) c.agree.ensures.held c.agree.ensures.refusals c.agree.ensures.requests)

pub returns-in-Ok-abolish-clause-says : goal.returns-in-Ok-abolish-clause-says
returns-in-Ok-abolish-clause-says g c = λ goals e h at is.
    let k = keeper_view c.args.keeper.now in
    let p = proc_of c.in-Ok.p in
    let open_ = sym (c.is_static.ensures (clause_by k) (databases goals h) is.says) ∙ c.if-is_static.false in
    let few : c.args.generation < 2 ^ 47 = (let below = c.if-generation-ge-MOST_UPDATES.false in omega (arith, below)) in
    subst (λ (q : Proc). Decides goals e (text_of (names (seen c.agree.new.atoms.seat))) (requests.abolish_procedure q) h (abolish q) (keeper_view c.agree.new.keeper) c.abolish.new.self (Makes Done)) c.in-Ok.ensures.spelled
    (abolished_decides goals e c.args.generation (text_of (names (seen c.agree.new.atoms.seat))) h k (keeper_view c.agree.new.keeper) c.args.db.now c.abolish.new.self at few is c.agree.ensures.keeps p open_
    (abolished_says (clause_by k) c.args.generation c.abolish.new.self (databases goals h) p open_ _ (λ x bad. cc) (c.in-Ok-abolish.ensures.says (clause_by k) (databases goals h) c.agree.ensures.agreed.costs is.says))
    c.in-Ok-abolish.ensures.settings.0 c.in-Ok-abolish.ensures.settings.1)

pub returns-in-Err-Memory-clause-says : goal.returns-in-Err-Memory-clause-says
returns-in-Err-Memory-clause-says g c = λ goals e h at is.
    subst (λ (d : Held Tree). IsDatabase (keeper_view c.agree.new.keeper) d goals h) (sym c.in-Err-Memory.ensures.unchanged)
    (steady_database (keeper_view c.args.keeper.now) (keeper_view c.agree.new.keeper) c.args.db.now goals h c.agree.ensures.keeps is)

pub unreachable-requires : goal.unreachable-requires
unreachable-requires g c =
    let k = keeper_view c.args.keeper.now in
    let has = c.requires.has in
    let d = databases has.goals has.history in
    let p = proc_of c.in-Ok.p in
    let open_ = sym (c.is_static.ensures (clause_by k) d has.is.says) ∙ c.if-is_static.false in
    let only : c.in-Err.field-0 ≡ NoMemory = only_cause (list_any (is_static (d c.args.generation)) (p ∷ [])) Static _ (no_static (d c.args.generation) p open_) (c.in-Err.ensures.says (clause_by k) d c.agree.ensures.agreed.costs has.is.says) in
    c.in-Err.in-Err-own'.refused-1.1 (rw only refl)
