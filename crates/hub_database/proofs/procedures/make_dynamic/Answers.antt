use Rattle.std.proofs.Common.{◌≡◌, ◌<◌, List, ℕ, None, Some, false, true, take, map, length, refl, sym, ap, subst, ◌∙◌, arith}
use Rattle.std.specs.Prelude.{IsSome}
use Rattle.std.specs.List.{list_any, slice_get}
use Rattle.std.specs.Option.{option_map_or}
use Rattle.std.proofs.lemmas.List.{length-map}
use Rattle.std.proofs.lemmas.List.Elements.{All-get_or, All-nil}
use Rattle.std.proofs.lemmas.Option.{slice_get_read}
use Rattle.pl_model.specs.Database.{is_static}
use Rattle.pl_model.specs.Errors.{static_procedure}
use Rattle.pl_model.specs.History.{Proc, set_dynamic}
use Rattle.pl_model.specs.Requests.{done, refused}
use Rattle.pl_model.specs.Service.{answers}
use Rattle.pl_model.specs.Requests as requests
use Rattle.pl_model.specs.declared.shows.Proc.{Proc as Shown}
use Rattle.pl_model.specs.laws.Shown.{proc_of}
use Rattle.atom_api.specs.Names.{Names}
use Rattle.atom_words.specs.Seats.{seen}
use Rattle.atom_table.specs.Naming.{names}
use Rattle.world_api.specs.Texts.{text_of}
use Rattle.world_api.specs.Visits.{proc_named}
use Rattle.world_api.specs.declared.reply.Reply.TheVariants.{Done}
use Rattle.world_api.specs.declared.visit.Procedure.{Procedure}
use Rattle.hub_database.specs.Clauses.{clause_by}
use Rattle.hub_database.specs.Database.{IsDatabase, IsUpTo, databases}
use Rattle.hub_database.specs.Rows.{history_after}
use Rattle.hub_database.proofs.ChangedRows.{dynamic_lacks, dynamic_serves, dynamic_static, front_mapped, got_at, none_static, static_read, updated_decides, updated_named}
use Rattle.hub_database.proofs.Deciding.{refused_after, refused_by, refused_named}
use Rattle.hub_database.proofs.procedures.make_dynamic.Goals as goal

pub bounds-procedures-i : goal.bounds-procedures-i
bounds-procedures-i g c =
    let same = ap (λ (l : List Proc). length l) c.in-Ok.ensures.spelled in
    let here = ap (λ (l : List Shown). length l) c.as_slice.ensures.value in
    omega (arith, c.in-Some.ensures.within, same, here, length-map c.in-Ok.ps.items proc_of, length-map c.args.procedures.now (proc_named (text_of (names (seen c.args.atoms.now.seat)))))

pub returns-in-Some-clause-upto : goal.returns-in-Some-clause-upto
returns-in-Some-clause-upto g c = subst (λ (n : ℕ). IsUpTo n c.args.db.now) (sym (refused_after (Some c.index-procedures-i.result.name) (λ m. static_procedure (proc_named (text_of m) c.index-procedures-i.result)) c.refusal.result c.args.generation (c.refusal.ensures.refuses (Some c.index-procedures-i.result.name) (λ m. static_procedure (proc_named (text_of m) c.index-procedures-i.result)) c.static_error.ensures))) c.requires.upto

pub returns-in-Some-clause-named : goal.returns-in-Some-clause-named
returns-in-Some-clause-named g c =
    let low : c.in-Some.i < length c.args.procedures.now = (let same = ap (λ (l : List Proc). length l) c.in-Ok.ensures.spelled in let here = ap (λ (l : List Shown). length l) c.as_slice.ensures.value in
    omega (arith, c.in-Some.ensures.within, same, here, length-map c.in-Ok.ps.items proc_of, length-map c.args.procedures.now (proc_named (text_of (names (seen c.args.atoms.now.seat)))))) in
    refused_named (names (seen c.predicate_texts.new.atoms.seat)) (Some c.index-procedures-i.result.name) (λ m. static_procedure (proc_named (text_of m) c.index-procedures-i.result)) c.predicate_texts.new.atoms.lawful.stand (subst (λ (m : Names). IsSome (m c.index-procedures-i.result.name)) (sym c.predicate_texts.ensures.held)
    (subst (λ (p : Procedure). IsSome ((names (seen c.args.atoms.now.seat)) p.name)) (sym c.index-procedures-i.is) (All-get_or (λ (p : Procedure). IsSome ((names (seen c.args.atoms.now.seat)) p.name)) c.args.procedures.now c.in-Some.i c.index-procedures-i.result low c.requires.held))) c.refusal.result (c.refusal.ensures.refuses (Some c.index-procedures-i.result.name) (λ m. static_procedure (proc_named (text_of m) c.index-procedures-i.result)) c.static_error.ensures)

pub returns-in-Some-clause-says : goal.returns-in-Some-clause-says
returns-in-Some-clause-says g c = λ k goals e h at is.
    let low : c.in-Some.i < length c.args.procedures.now = (let same = ap (λ (l : List Proc). length l) c.in-Ok.ensures.spelled in let here = ap (λ (l : List Shown). length l) c.as_slice.ensures.value in
    omega (arith, c.in-Some.ensures.within, same, here, length-map c.in-Ok.ps.items proc_of, length-map c.args.procedures.now (proc_named (text_of (names (seen c.args.atoms.now.seat)))))) in
    let qs = map (proc_named (text_of (names (seen c.args.atoms.now.seat)))) c.args.procedures.now in
    let test = is_static (databases goals h c.args.generation) in
    let ps = c.in-Ok.ps.items in
    let got = got_at (proc_named (text_of (names (seen c.args.atoms.now.seat)))) c.args.procedures.now c.in-Some.i c.index-procedures-i.result (slice_get_read c.args.procedures.now (length c.args.procedures.now) c.in-Some.i c.index-procedures-i.result refl low c.index-procedures-i.is) in
    let first = subst (λ (l : List Shown). (list_any (λ p. test (proc_of p)) (take c.in-Some.i l) ≡ false) × (option_map_or (λ p. test (proc_of p)) (slice_get l c.in-Some.i) false ≡ true)) c.as_slice.ensures.value (c.in-Some.ensures.first (clause_by k) (databases goals h) is.says) in
    refused_by goals e (names (seen c.predicate_texts.new.atoms.seat)) (requests.make_dynamic qs) h (Some c.index-procedures-i.result.name) (λ m. static_procedure (proc_named (text_of m) c.index-procedures-i.result)) c.predicate_texts.new.atoms.lawful.stand (subst (λ (m : Names). IsSome (m c.index-procedures-i.result.name)) (sym c.predicate_texts.ensures.held)
    (subst (λ (p : Procedure). IsSome ((names (seen c.args.atoms.now.seat)) p.name)) (sym c.index-procedures-i.is) (All-get_or (λ (p : Procedure). IsSome ((names (seen c.args.atoms.now.seat)) p.name)) c.args.procedures.now c.in-Some.i c.index-procedures-i.result low c.requires.held)))
    (dynamic_static goals e h c.args.generation at qs c.in-Some.i (proc_named (text_of (names (seen c.args.atoms.now.seat))) c.index-procedures-i.result) got
    (ap (λ (l : List Proc). list_any test (take c.in-Some.i l)) (sym c.in-Ok.ensures.spelled) ∙ (front_mapped test proc_of ps c.in-Some.i ∙ first.0))
    (static_read test proc_of ps qs c.in-Some.i (proc_named (text_of (names (seen c.args.atoms.now.seat))) c.index-procedures-i.result) c.in-Ok.ensures.spelled got first.1)
    ∙ ap (λ (n : Names). answers (refused (static_procedure (proc_named (text_of n) c.index-procedures-i.result))) None) (sym c.predicate_texts.ensures.held))
    (set_dynamic qs) k c.args.db.now is c.refusal.result (c.refusal.ensures.refuses (Some c.index-procedures-i.result.name) (λ m. static_procedure (proc_named (text_of m) c.index-procedures-i.result)) c.static_error.ensures)

pub returns-clause-named : goal.returns-clause-named
returns-clause-named g c = updated_named (names (seen c.predicate_texts.new.atoms.seat)) c.predicate_texts.new.atoms.lawful.stand c.args.generation Done (All-nil (λ a. IsSome ((names (seen c.predicate_texts.new.atoms.seat)) a))) c.open_procedures.result c.open_procedures.ensures.says

pub returns-clause-says : goal.returns-clause-says
returns-clause-says g c = λ k goals e h at is.
    let qs = map (proc_named (text_of (names (seen c.args.atoms.now.seat)))) c.args.procedures.now in
    let none : list_any (is_static (databases goals h c.args.generation)) qs ≡ false = none_static (is_static (databases goals h c.args.generation)) proc_of c.in-Ok.ps.items qs c.in-Ok.ensures.spelled (subst (λ (l : List Shown). list_any (λ p. is_static (databases goals h c.args.generation) (proc_of p)) l ≡ false) c.as_slice.ensures.value (c.in-None.ensures.first (clause_by k) (databases goals h) is.says)) in
    updated_decides goals e c.args.generation h at (names (seen c.predicate_texts.new.atoms.seat)) c.predicate_texts.new.atoms.lawful.stand k c.open_procedures.new.db (requests.make_dynamic qs) (set_dynamic qs) Done done refl
    (dynamic_serves goals e h c.args.generation at qs none) (dynamic_lacks goals e h c.args.generation at qs none) c.open_procedures.result c.open_procedures.ensures.says
    (subst (λ (l : List Proc). IsDatabase k c.open_procedures.new.db goals (history_after e c.open_procedures.result (set_dynamic l) h)) c.in-Ok.ensures.spelled
    (subst (λ (l : List Shown). IsDatabase k c.open_procedures.new.db goals (history_after e c.open_procedures.result (set_dynamic (map proc_of l)) h)) c.as_slice-in-None.ensures.value
    (c.open_procedures.ensures.database k goals e h at is
    (ap (λ (l : List Shown). list_any (is_static (databases goals h c.args.generation)) (map proc_of l)) c.as_slice-in-None.ensures.value ∙ (ap (list_any (is_static (databases goals h c.args.generation))) c.in-Ok.ensures.spelled ∙ none)))))

pub open_procedures-requires-clause-free : goal.open_procedures-requires-clause-free
open_procedures-requires-clause-free g c =
    let k = c.requires.has.0 in
    let has = c.requires.has.1 in
    let qs = map (proc_named (text_of (names (seen c.args.atoms.now.seat)))) c.args.procedures.now in
    let d = databases has.goals has.history in
    let test = is_static (d c.args.generation) in
    let none : list_any test qs ≡ false = none_static test proc_of c.in-Ok.ps.items qs c.in-Ok.ensures.spelled (subst (λ (l : List Shown). list_any (λ p. test (proc_of p)) l ≡ false) c.as_slice.ensures.value (c.in-None.ensures.first (clause_by k) d has.is.says)) in
    (k, record { has = has; none = ap (λ (l : List Shown). list_any test (map proc_of l)) c.as_slice-in-None.ensures.value ∙ (ap (list_any test) c.in-Ok.ensures.spelled ∙ none) })
