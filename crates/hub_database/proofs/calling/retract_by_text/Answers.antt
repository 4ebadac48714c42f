use Rattle.pl_model.specs.Errors.{static_procedure}
use Rattle.std.proofs.Common.{sym, ap, subst, ◌∙◌}
use Rattle.std.specs.Prelude.{IsSome, Some}
use Rattle.std.specs.List.{All}
use Rattle.pl_model.specs.Database.{choices}
use Rattle.pl_model.specs.FirstArguments.{head_of}
use Rattle.pl_model.specs.History.{Clause}
use Rattle.pl_model.specs.Predicates.{is_excluded}
use Rattle.pl_model.specs.laws.Shown.{proc_of}
use Rattle.atom_api.specs.Names.{Names}
use Rattle.atom_words.specs.Seats.{seen}
use Rattle.atom_table.specs.Naming.{names}
use Rattle.term_store.specs.ArgumentKeys.{key_atoms}
use Rattle.term_store.specs.NumberedNames.{term_by}
use Rattle.world_api.specs.Replies.{IsFront}
use Rattle.world_api.specs.Texts.{text_of}
use Rattle.world_api.specs.Visits.{proc_named}
use Rattle.counted_terms.specs.CountedTerms.{said}
use Rattle.counted_terms.specs.Keeping.{keeper_view}
use Rattle.hub_database.specs.Clauses.{clause_by}
use Rattle.hub_database.specs.Database.{databases}
use Rattle.hub_database.specs.Rows.{HandsOut}
use Rattle.hub_database.proofs.CalledClauses.{retracted_tells, static_tells}
use Rattle.hub_database.proofs.Deciding.{quiet_then, refused_named}
use Rattle.hub_database.proofs.calling.retract_by_text.Goals as goal

pub first_of-row-requires-clause-key : goal.first_of-row-requires-clause-key
first_of-row-requires-clause-key g c = subst (λ (m : Names). All (λ a. IsSome (m a)) (key_atoms c.args.first.now)) (sym c.noted_text.ensures.held) c.requires.key

pub returns-then-is_static-clause-named : goal.returns-then-is_static-clause-named
returns-then-is_static-clause-named g c =
    refused_named (names (seen c.noted_text.new.atoms.seat)) (Some c.args.procedure.now.name) (λ m. static_procedure (proc_named (text_of m) c.args.procedure.now)) c.noted_text.new.atoms.lawful.stand
    (subst (λ (m : Names). IsSome (m c.args.procedure.now.name)) (sym c.noted_text.ensures.held) c.requires.name) c.refusal.result (c.refusal.ensures.refuses (Some c.args.procedure.now.name) (λ m. static_procedure (proc_named (text_of m) c.args.procedure.now)) c.static_error.ensures)

pub returns-then-is_static-clause-says : goal.returns-then-is_static-clause-says
returns-then-is_static-clause-says g c = λ goals e h t at is own key.
    let k = keeper_view c.args.keeper.now in
    static_tells goals e h k c.args.db.now c.args.generation at is (said (names (seen c.args.atoms.now.seat)) t) (proc_of c.in-Ok.p) (own ∙ sym c.in-Ok.ensures.spelled)
    (names (seen c.noted_text.new.atoms.seat)) c.args.procedure.now (c.in-Ok.ensures.spelled ∙ ap (λ (m : Names). proc_named (text_of m) c.args.procedure.now) (sym c.noted_text.ensures.held)) c.noted_text.new.atoms.lawful.stand
    (subst (λ (m : Names). IsSome (m c.args.procedure.now.name)) (sym c.noted_text.ensures.held) c.requires.name)
    (sym (c.is_static.ensures (clause_by k) (databases goals h) is.says) ∙ c.if-is_static.true) c.refusal.result (c.refusal.ensures.refuses (Some c.args.procedure.now.name) (λ m. static_procedure (proc_named (text_of m) c.args.procedure.now)) c.static_error.ensures)

pub returns-clause-quiet : goal.returns-clause-quiet
returns-clause-quiet g c = quiet_then (seen c.args.atoms.now.seat) (seen c.noted_text.new.atoms.seat) (seen c.first_of-row.new.atoms.seat) c.noted_text.ensures.quiet c.first_of-row.ensures.quiet

pub returns-clause-says : goal.returns-clause-says
returns-clause-says g c = λ goals e h t at is own key.
    let k = keeper_view c.args.keeper.now in
    retracted_tells goals e h k c.args.db.now c.args.generation at is (said (names (seen c.args.atoms.now.seat)) t) (proc_of c.in-Ok.p) (own ∙ sym c.in-Ok.ensures.spelled) (text_of (names (seen c.first_of-row.new.atoms.seat)))
    (sym (c.is_static.ensures (clause_by k) (databases goals h) is.says) ∙ c.if-is_static.false) c.first_of-row.result
    (subst (λ (m : Names). HandsOut (λ f. IsFront term_by (text_of (names (seen c.first_of-row.new.atoms.seat))) f (choices (λ (x : Clause). is_excluded (head_of (said m t)) x.head) c.args.generation (proc_of c.in-Ok.p) (databases goals h c.args.generation))) c.first_of-row.result)
    c.noted_text.ensures.held (c.first_of-row.ensures.says (databases goals h) t is.says key))
