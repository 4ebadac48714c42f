use Rattle.std.proofs.Common.{◌∷◌, [], ℕ, None, Some, sym, ap, subst, ◌∙◌}
use Rattle.std.specs.Prelude.{IsSome}
use Rattle.std.specs.List.{All}
use Rattle.std.proofs.lemmas.List.Elements.{All-nil}
use Rattle.pl_model.specs.Database.{choices}
use Rattle.pl_model.specs.Errors.{static_procedure}
use Rattle.pl_model.specs.FirstArguments.{head_of}
use Rattle.pl_model.specs.History.{Clause, Proc, set_dynamic}
use Rattle.pl_model.specs.Predicates.{is_excluded}
use Rattle.pl_model.specs.Requests.{cleared_clauses, listed}
use Rattle.pl_model.specs.laws.Shown.{proc_of}
use Rattle.atom_api.specs.Names.{Names}
use Rattle.atom_words.specs.Seats.{seen}
use Rattle.atom_table.specs.Naming.{names}
use Rattle.term_store.specs.ArgumentKeys.{key_atoms}
use Rattle.term_store.specs.NumberedNames.{term_by}
use Rattle.world_api.specs.Replies.{IsFront}
use Rattle.world_api.specs.Texts.{text_of}
use Rattle.world_api.specs.Visits.{proc_named}
use Rattle.world_api.specs.declared.reply.Reply.TheVariants.{Clauses}
use Rattle.counted_terms.specs.CountedTerms.{said}
use Rattle.counted_terms.specs.Keeping.{keeper_view}
use Rattle.hub_database.specs.Clauses.{clause_by}
use Rattle.hub_database.specs.Database.{IsDatabase, IsUpTo, databases}
use Rattle.hub_database.specs.Rows.{HandsOut, history_after}
use Rattle.hub_database.proofs.CalledClauses.{clear_lacks, clear_serves, clear_static, cleared_tells}
use Rattle.hub_database.proofs.ChangedRows.{early_by, reply_or_made, unmade_database, updated_decides, updated_named}
use Rattle.hub_database.proofs.Deciding.{quiet_then, refused_after, refused_named, steady_database, steady_same, told_decides}
use Rattle.hub_database.proofs.ErasedClauses.{no_static}
use Rattle.hub_database.proofs.procedures.clear_by_text.Goals as goal

pub first_of-row-requires-clause-key : goal.first_of-row-requires-clause-key
first_of-row-requires-clause-key g c = subst (λ (m : Names). All (λ a. IsSome (m a)) (key_atoms c.args.first.now)) (sym c.noted_text.ensures.held) c.requires.key

pub returns-then-is_static-clause-steady : goal.returns-then-is_static-clause-steady
returns-then-is_static-clause-steady g c = steady_same (keeper_view c.args.keeper.now)

pub returns-then-is_static-clause-upto : goal.returns-then-is_static-clause-upto
returns-then-is_static-clause-upto g c = subst (λ (n : ℕ). IsUpTo n c.args.db.now) (sym (refused_after (Some c.args.procedure.now.name) (λ m. static_procedure (proc_named (text_of m) c.args.procedure.now)) c.refusal.result c.args.generation (c.refusal.ensures.refuses (Some c.args.procedure.now.name) (λ m. static_procedure (proc_named (text_of m) c.args.procedure.now)) c.static_error.ensures))) c.requires.upto

pub returns-then-is_static-clause-named : goal.returns-then-is_static-clause-named
returns-then-is_static-clause-named g c = refused_named (names (seen c.noted_text.new.atoms.seat)) (Some c.args.procedure.now.name) (λ m. static_procedure (proc_named (text_of m) c.args.procedure.now)) c.noted_text.new.atoms.lawful.stand (subst (λ (m : Names). IsSome (m c.args.procedure.now.name)) (sym c.noted_text.ensures.held) c.requires.name) c.refusal.result (c.refusal.ensures.refuses (Some c.args.procedure.now.name) (λ m. static_procedure (proc_named (text_of m) c.args.procedure.now)) c.static_error.ensures)

pub returns-then-is_static-clause-says : goal.returns-then-is_static-clause-says
returns-then-is_static-clause-says g c = λ goals e h t at is own key.
    told_decides goals e (text_of (names (seen c.noted_text.new.atoms.seat))) (cleared_clauses (said (names (seen c.args.atoms.now.seat)) t)) h (set_dynamic (proc_named (text_of (names (seen c.args.atoms.now.seat))) c.args.procedure.now ∷ [])) (keeper_view c.args.keeper.now) c.args.db.now is c.refusal.result
    (clear_static goals e h (keeper_view c.args.keeper.now) c.args.db.now c.args.generation at is (said (names (seen c.args.atoms.now.seat)) t) (proc_of c.in-Ok.p) (own ∙ sym c.in-Ok.ensures.spelled)
    (names (seen c.noted_text.new.atoms.seat)) c.args.procedure.now (c.in-Ok.ensures.spelled ∙ ap (λ (m : Names). proc_named (text_of m) c.args.procedure.now) (sym c.noted_text.ensures.held)) c.noted_text.new.atoms.lawful.stand (subst (λ (m : Names). IsSome (m c.args.procedure.now.name)) (sym c.noted_text.ensures.held) c.requires.name)
    (sym (c.is_static.ensures (clause_by (keeper_view c.args.keeper.now)) (databases goals h) is.says) ∙ c.if-is_static.true) c.refusal.result (c.refusal.ensures.refuses (Some c.args.procedure.now.name) (λ m. static_procedure (proc_named (text_of m) c.args.procedure.now)) c.static_error.ensures))

pub returns-then-is_known-clause-upto : goal.returns-then-is_known-clause-upto
returns-then-is_known-clause-upto g c = subst (λ (n : ℕ). IsUpTo n c.args.db.now) (sym (c.first_of-row.ensures.reads c.args.generation)) c.requires.upto

pub returns-then-is_known-clause-quiet : goal.returns-then-is_known-clause-quiet
returns-then-is_known-clause-quiet g c = quiet_then (seen c.args.atoms.now.seat) (seen c.noted_text.new.atoms.seat) (seen c.first_of-row.new.atoms.seat) c.noted_text.ensures.quiet c.first_of-row.ensures.quiet

pub returns-then-is_known-clause-says : goal.returns-then-is_known-clause-says
returns-then-is_known-clause-says g c = λ goals e h t at is own key.
    told_decides goals e (text_of (names (seen c.first_of-row.new.atoms.seat))) (cleared_clauses (said (names (seen c.args.atoms.now.seat)) t)) h (set_dynamic (proc_named (text_of (names (seen c.args.atoms.now.seat))) c.args.procedure.now ∷ [])) (keeper_view c.first_of-row.new.keeper) c.args.db.now
    (steady_database (keeper_view c.args.keeper.now) (keeper_view c.first_of-row.new.keeper) c.args.db.now goals h c.first_of-row.ensures.steady.keeps is) c.first_of-row.result
    (cleared_tells goals e h (keeper_view c.args.keeper.now) c.args.db.now c.args.generation at is (said (names (seen c.args.atoms.now.seat)) t) (proc_of c.in-Ok.p) (own ∙ sym c.in-Ok.ensures.spelled) (text_of (names (seen c.first_of-row.new.atoms.seat)))
    (sym (c.is_static.ensures (clause_by (keeper_view c.args.keeper.now)) (databases goals h) is.says) ∙ c.if-is_static.false)
    (sym (c.is_known.ensures (clause_by (keeper_view c.args.keeper.now)) (databases goals h) is.says) ∙ c.if-is_known.true) c.first_of-row.result
    (subst (λ (m : Names). HandsOut (λ f. IsFront term_by (text_of (names (seen c.first_of-row.new.atoms.seat))) f (choices (λ (x : Clause). is_excluded (head_of (said m t)) x.head) c.args.generation (proc_of c.in-Ok.p) (databases goals h c.args.generation))) c.first_of-row.result)
    c.noted_text.ensures.held (c.first_of-row.ensures.says (databases goals h) t is.says key)))

pub returns-clause-steady : goal.returns-clause-steady
returns-clause-steady g c = steady_same (keeper_view c.args.keeper.now)

pub returns-clause-named : goal.returns-clause-named
returns-clause-named g c = updated_named (names (seen c.noted_text.new.atoms.seat)) c.noted_text.new.atoms.lawful.stand c.args.generation (Clauses None) (All-nil (λ a. IsSome ((names (seen c.noted_text.new.atoms.seat)) a))) c.open_procedures.result c.open_procedures.ensures.says

pub returns-clause-says : goal.returns-clause-says
returns-clause-says g c = λ goals e h t at is own key.
    let p = proc_of c.in-Ok.p in
    let open_ = sym (c.is_static.ensures (clause_by (keeper_view c.args.keeper.now)) (databases goals h) is.says) ∙ c.if-is_static.false in
    let unknown = sym (c.is_known.ensures (clause_by (keeper_view c.args.keeper.now)) (databases goals h) is.says) ∙ c.if-is_known.false in
    updated_decides goals e c.args.generation h at (names (seen c.noted_text.new.atoms.seat)) c.noted_text.new.atoms.lawful.stand (keeper_view c.args.keeper.now) c.open_procedures.new.db (cleared_clauses (said (names (seen c.args.atoms.now.seat)) t)) (set_dynamic (proc_named (text_of (names (seen c.args.atoms.now.seat))) c.args.procedure.now ∷ []))
    (Clauses None) (listed []) tt
    (clear_serves goals e h (keeper_view c.args.keeper.now) c.args.db.now c.args.generation at is (said (names (seen c.args.atoms.now.seat)) t) p (own ∙ sym c.in-Ok.ensures.spelled) (names (seen c.args.atoms.now.seat)) c.args.procedure.now c.in-Ok.ensures.spelled c.args.atoms.now.lawful.stand c.requires.name open_ unknown)
    (clear_lacks goals e h (keeper_view c.args.keeper.now) c.args.db.now c.args.generation at is (said (names (seen c.args.atoms.now.seat)) t) p (own ∙ sym c.in-Ok.ensures.spelled) (names (seen c.args.atoms.now.seat)) c.args.procedure.now c.in-Ok.ensures.spelled c.args.atoms.now.lawful.stand c.requires.name open_ unknown)
    c.open_procedures.result c.open_procedures.ensures.says
    (subst (λ (q : Proc). IsDatabase (keeper_view c.args.keeper.now) c.open_procedures.new.db goals (history_after e c.open_procedures.result (set_dynamic (q ∷ [])) h)) c.in-Ok.ensures.spelled
    (c.open_procedures.ensures.database (keeper_view c.args.keeper.now) goals e h at is (no_static (databases goals h c.args.generation) p open_)))

pub returns-then-is_static-clause-replies : goal.returns-then-is_static-clause-replies
returns-then-is_static-clause-replies g c = reply_or_made c.refusal.result c.refusal.ensures.replies

pub returns-then-is_static-clause-early : goal.returns-then-is_static-clause-early
returns-then-is_static-clause-early g c = λ n. absurd (n (refused_after (Some c.args.procedure.now.name) (λ m. static_procedure (proc_named (text_of m) c.args.procedure.now)) c.refusal.result c.args.generation (c.refusal.ensures.refuses (Some c.args.procedure.now.name) (λ m. static_procedure (proc_named (text_of m) c.args.procedure.now)) c.static_error.ensures)))

pub returns-then-is_static-clause-database : goal.returns-then-is_static-clause-database
returns-then-is_static-clause-database g c = λ goals e h at is. unmade_database goals e h (keeper_view c.args.keeper.now) c.args.db.now (set_dynamic (proc_named (text_of (names (seen c.args.atoms.now.seat))) c.args.procedure.now ∷ [])) c.refusal.result c.args.generation (refused_after (Some c.args.procedure.now.name) (λ m. static_procedure (proc_named (text_of m) c.args.procedure.now)) c.refusal.result c.args.generation (c.refusal.ensures.refuses (Some c.args.procedure.now.name) (λ m. static_procedure (proc_named (text_of m) c.args.procedure.now)) c.static_error.ensures)) is

pub returns-then-is_known-clause-replies : goal.returns-then-is_known-clause-replies
returns-then-is_known-clause-replies g c = reply_or_made c.first_of-row.result c.first_of-row.ensures.replies

pub returns-then-is_known-clause-early : goal.returns-then-is_known-clause-early
returns-then-is_known-clause-early g c = λ n. absurd (n (c.first_of-row.ensures.reads c.args.generation))

pub returns-then-is_known-clause-database : goal.returns-then-is_known-clause-database
returns-then-is_known-clause-database g c = λ goals e h at is. unmade_database goals e h (keeper_view c.first_of-row.new.keeper) c.args.db.now (set_dynamic (proc_named (text_of (names (seen c.args.atoms.now.seat))) c.args.procedure.now ∷ [])) c.first_of-row.result c.args.generation (c.first_of-row.ensures.reads c.args.generation)
    (steady_database (keeper_view c.args.keeper.now) (keeper_view c.first_of-row.new.keeper) c.args.db.now goals h c.first_of-row.ensures.steady.keeps is)

pub returns-clause-early : goal.returns-clause-early
returns-clause-early g c = early_by c.args.generation (Clauses None) c.open_procedures.result c.open_procedures.ensures.says

pub returns-clause-database : goal.returns-clause-database
returns-clause-database g c = λ goals e h at is.
    let p = proc_of c.in-Ok.p in
    let open_ = sym (c.is_static.ensures (clause_by (keeper_view c.args.keeper.now)) (databases goals h) is.says) ∙ c.if-is_static.false in
    subst (λ (q : Proc). IsDatabase (keeper_view c.args.keeper.now) c.open_procedures.new.db goals (history_after e c.open_procedures.result (set_dynamic (q ∷ [])) h)) c.in-Ok.ensures.spelled
    (c.open_procedures.ensures.database (keeper_view c.args.keeper.now) goals e h at is (no_static (databases goals h c.args.generation) p open_))

pub open_procedures-requires-clause-free : goal.open_procedures-requires-clause-free
open_procedures-requires-clause-free g c =
    let k = keeper_view c.args.keeper.now in
    let has = c.requires.has in
    let d = databases has.goals has.history in
    (k, record { has = has; none = no_static (d c.args.generation) (proc_of c.in-Ok.p) (sym (c.is_static.ensures (clause_by k) d has.is.says) ∙ c.if-is_static.false) })
