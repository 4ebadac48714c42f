use Rattle.std.proofs.Common.{◌≡◌, ◌<◌, List, None, Some, false, map, take, length, refl, sym, ap, subst, ◌∙◌, arith}
use Rattle.std.specs.Prelude.{IsSome, is_some}
use Rattle.std.specs.Option.{option_and_then}
use Rattle.std.specs.List.{list_any, slice_get}
use Rattle.std.proofs.lemmas.List.{length-map}
use Rattle.std.proofs.lemmas.List.Elements.{All-get_or, All-nil}
use Rattle.std.proofs.lemmas.Option.{slice_get_read}
use Rattle.pl_term.specs.Tree.{Chars}
use Rattle.pl_model.specs.History.{set_op}
use Rattle.pl_model.specs.OperatorTable.{OperatorTable}
use Rattle.pl_model.specs.Operators as definitions
use Rattle.clause_db.specs.Operators.{first_fault, shown}
use Rattle.pl_model.specs.Requests.{done, refused}
use Rattle.pl_model.specs.Requests as requests
use Rattle.pl_model.specs.Service.{answers, operator_error, operators_error}
use Rattle.pl_model.specs.SharedState.{state_at}
use Rattle.atom_api.specs.Names.{Names}
use Rattle.atom_words.specs.Seats.{seen}
use Rattle.atom_table.specs.Naming.{names}
use Rattle.op_table.specs.declared.operator.Operator.{Operator}
use Rattle.world_api.specs.Texts.{text_of}
use Rattle.world_api.specs.declared.reply.Reply.TheVariants.{Done}
use Rattle.hub_database.specs.Database.{IsDatabase}
use Rattle.hub_database.specs.Operators.{fault_in, operators_by, operators_put}
use Rattle.hub_database.specs.Rows.{history_after}
use Rattle.hub_database.proofs.ChangedRows.{got_at, updated_decides, updated_named}
use Rattle.hub_database.proofs.Deciding.{refused_by, refused_named}
use Rattle.hub_database.proofs.OperatorTurns.{none_at_turn}
use Rattle.hub_database.proofs.PutOperators.{cause_at, first_error, no_error, shown_by}
use Rattle.hub_database.proofs.Served.{operators_refused, operators_set, operators_worn}
use Rattle.hub_database.proofs.operators.put_operators.Goals as goal

pub returns-in-Some-clause-named : goal.returns-in-Some-clause-named
returns-in-Some-clause-named g c =
    let fs = map (text_of (names (seen c.args.atoms.now.seat))) c.args.operators.now in
    let t = c.operators.result.now in
    let low : c.in-Some.i < length c.args.operators.now =
    (let same = ap (λ (l : List Operator). length l) (c.as_slice.ensures.value ∙ c.in-Ok.ensures.spelled) in
    omega (arith, c.in-Some.ensures.within, same, length-map {B = Operator} fs (λ (f : Chars). record { name = f; priority = c.args.priority; kind = c.args.kind }), length-map c.args.operators.now (text_of (names (seen c.args.atoms.now.seat))))) in
    let got : slice_get fs c.in-Some.i ≡ Some (text_of (names (seen c.args.atoms.now.seat)) c.index-operators-i.result) = got_at (text_of (names (seen c.args.atoms.now.seat))) c.args.operators.now c.in-Some.i c.index-operators-i.result (slice_get_read c.args.operators.now (length c.args.operators.now) c.in-Some.i c.index-operators-i.result refl low c.index-operators-i.is) in
    let first = subst (λ (l : List Operator). (list_any (λ o. is_some (fault_in t o)) (take c.in-Some.i l) ≡ false) × (option_and_then (fault_in t) (slice_get l c.in-Some.i) ≡ Some c.in-Some.fault)) (c.as_slice.ensures.value ∙ c.in-Ok.ensures.spelled) c.in-Some.ensures.first in
    let cause = cause_at t c.args.priority c.args.kind fs c.in-Some.i (text_of (names (seen c.args.atoms.now.seat)) c.index-operators-i.result) c.in-Some.fault got first.1 in
    refused_named (names (seen c.spelled_operators.new.atoms.seat)) (Some c.index-operators-i.result) (λ m. operator_error c.args.priority (text_of m c.index-operators-i.result) cause.0) c.spelled_operators.new.atoms.lawful.stand (subst (λ (m : Names). IsSome (m c.index-operators-i.result)) (sym c.spelled_operators.ensures.held)
    (subst (λ z. IsSome ((names (seen c.args.atoms.now.seat)) z)) (sym c.index-operators-i.is) (All-get_or (λ z. IsSome ((names (seen c.args.atoms.now.seat)) z)) c.args.operators.now c.in-Some.i c.index-operators-i.result low c.requires.held))) c.refusal.result (c.refusal.ensures.refuses (Some c.index-operators-i.result) (λ m. operator_error c.args.priority (text_of m c.index-operators-i.result) cause.0) (c.operator_error.ensures cause.0 cause.2))

pub returns-in-Some-clause-says : goal.returns-in-Some-clause-says
returns-in-Some-clause-says g c = λ k goals e h at is.
    let fs = map (text_of (names (seen c.args.atoms.now.seat))) c.args.operators.now in
    let t = c.operators.result.now in
    let low : c.in-Some.i < length c.args.operators.now =
    (let same = ap (λ (l : List Operator). length l) (c.as_slice.ensures.value ∙ c.in-Ok.ensures.spelled) in
    omega (arith, c.in-Some.ensures.within, same, length-map {B = Operator} fs (λ (f : Chars). record { name = f; priority = c.args.priority; kind = c.args.kind }), length-map c.args.operators.now (text_of (names (seen c.args.atoms.now.seat))))) in
    let got : slice_get fs c.in-Some.i ≡ Some (text_of (names (seen c.args.atoms.now.seat)) c.index-operators-i.result) = got_at (text_of (names (seen c.args.atoms.now.seat))) c.args.operators.now c.in-Some.i c.index-operators-i.result (slice_get_read c.args.operators.now (length c.args.operators.now) c.in-Some.i c.index-operators-i.result refl low c.index-operators-i.is) in
    let first = subst (λ (l : List Operator). (list_any (λ o. is_some (fault_in t o)) (take c.in-Some.i l) ≡ false) × (option_and_then (fault_in t) (slice_get l c.in-Some.i) ≡ Some c.in-Some.fault)) (c.as_slice.ensures.value ∙ c.in-Ok.ensures.spelled) c.in-Some.ensures.first in
    let cause = cause_at t c.args.priority c.args.kind fs c.in-Some.i (text_of (names (seen c.args.atoms.now.seat)) c.index-operators-i.result) c.in-Some.fault got first.1 in
    let s = state_at goals h (length h) in
    let error : operators_error s.operators c.args.priority c.args.kind fs ≡ Some (operator_error c.args.priority (text_of (names (seen c.args.atoms.now.seat)) c.index-operators-i.result) cause.0) =
    subst (λ (u : OperatorTable). operators_error u c.args.priority c.args.kind fs ≡ Some (operator_error c.args.priority (text_of (names (seen c.args.atoms.now.seat)) c.index-operators-i.result) cause.0)) (c.operators.ensures ∙ is.operators)
    (first_error t c.args.priority c.args.kind fs c.in-Some.i (text_of (names (seen c.args.atoms.now.seat)) c.index-operators-i.result) cause.0 got first.0 cause.1) in
    refused_by goals e (names (seen c.spelled_operators.new.atoms.seat)) (requests.put_operators c.args.priority c.args.kind fs) h (Some c.index-operators-i.result) (λ m. operator_error c.args.priority (text_of m c.index-operators-i.result) cause.0) c.spelled_operators.new.atoms.lawful.stand (subst (λ (m : Names). IsSome (m c.index-operators-i.result)) (sym c.spelled_operators.ensures.held)
    (subst (λ z. IsSome ((names (seen c.args.atoms.now.seat)) z)) (sym c.index-operators-i.is) (All-get_or (λ z. IsSome ((names (seen c.args.atoms.now.seat)) z)) c.args.operators.now c.in-Some.i c.index-operators-i.result low c.requires.held)))
    (operators_refused e s (length h) c.args.priority c.args.kind fs (operator_error c.args.priority (text_of (names (seen c.args.atoms.now.seat)) c.index-operators-i.result) cause.0) error
    ∙ ap (λ (n : Names). answers (refused (operator_error c.args.priority (text_of n c.index-operators-i.result) cause.0)) None) (sym c.spelled_operators.ensures.held))
    (operators_put c.args.priority c.args.kind fs) k c.args.db.now is c.refusal.result (c.refusal.ensures.refuses (Some c.index-operators-i.result) (λ m. operator_error c.args.priority (text_of m c.index-operators-i.result) cause.0) (c.operator_error.ensures cause.0 cause.2))

pub returns-clause-named : goal.returns-clause-named
returns-clause-named g c = updated_named (names (seen c.spelled_operators.new.atoms.seat)) c.spelled_operators.new.atoms.lawful.stand c.args.generation Done (All-nil (λ a. IsSome ((names (seen c.spelled_operators.new.atoms.seat)) a))) c.set_operators.result c.set_operators.ensures.says

pub returns-clause-says : goal.returns-clause-says
returns-clause-says g c = λ k goals e h at is.
    let fs = map (text_of (names (seen c.args.atoms.now.seat))) c.args.operators.now in
    let s = state_at goals h (length h) in
    let none : operators_error s.operators c.args.priority c.args.kind fs ≡ None =
    subst (λ (t : OperatorTable). operators_error t c.args.priority c.args.kind fs ≡ None) (c.operators.ensures ∙ is.operators)
    (no_error c.operators.result.now c.args.priority c.args.kind fs
    (subst (λ (l : List Operator). list_any (λ o. is_some (fault_in c.operators.result.now o)) l ≡ false) (c.as_slice.ensures.value ∙ c.in-Ok.ensures.spelled) c.in-None.ensures.first)) in
    updated_decides goals e c.args.generation h at (names (seen c.spelled_operators.new.atoms.seat)) c.spelled_operators.new.atoms.lawful.stand k c.set_operators.new.db (requests.put_operators c.args.priority c.args.kind fs) (operators_put c.args.priority c.args.kind fs) Done done refl
    (operators_set e s (length h) c.args.priority c.args.kind fs none) (operators_worn e s (length h) c.args.priority c.args.kind fs none) c.set_operators.result c.set_operators.ensures.says
    (subst (λ (l : List definitions.Operator). IsDatabase k c.set_operators.new.db goals (history_after e c.set_operators.result (set_op l) h)) (shown_by c.args.priority c.args.kind fs)
    (subst (λ (l : List Operator). IsDatabase k c.set_operators.new.db goals (history_after e c.set_operators.result (set_op (map shown l)) h)) (c.as_slice-in-None.ensures.value ∙ c.in-Ok.ensures.spelled) (c.set_operators.ensures.database k goals e h at is)))

pub set_operators-requires-clause-granted : goal.set_operators-requires-clause-granted
set_operators-requires-clause-granted g c =
    let fs = map (text_of (names (seen c.args.atoms.now.seat))) c.args.operators.now in
    let rows = c.as_slice-in-None.ensures.value ∙ c.in-Ok.ensures.spelled in
    subst (λ (l : List Operator). first_fault l c.args.db.now.operators ≡ None) (sym rows)
    (none_at_turn c.args.priority c.args.kind c.args.db.now.operators fs
    (subst (λ (t : OperatorTable). list_any (λ o. is_some (fault_in t o)) (operators_by c.args.priority c.args.kind fs) ≡ false) c.operators.ensures
    (subst (λ (l : List Operator). list_any (λ o. is_some (fault_in c.operators.result.now o)) l ≡ false) (c.as_slice.ensures.value ∙ c.in-Ok.ensures.spelled) c.in-None.ensures.first)))
