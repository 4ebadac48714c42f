use Rattle.counted_terms.specs.Rows.{row_names}
use Rattle.counted_terms.specs.declared.row.Row.{Row}
use Rattle.clause_db.proofs.Says.{held_passes}
use Rattle.std.specs.Prelude.{IsSome}
use Rattle.std.proofs.Common.{◌≡◌, ℕ, Option, Some, refl, sym, ap, subst, ◌∙◌}
use Rattle.std.specs.List.{All}
use Rattle.std.proofs.lemmas.List.Elements.{All-nil}
use Rattle.std.proofs.lemmas.Result.{IfOk-weaker}
use Rattle.pl_term.specs.Tree.{Chars, Tree}
use Rattle.pl_model.specs.History.{Clause, head_part}
use Rattle.pl_model.specs.FirstArguments.{are_apart, head_of}
use Rattle.pl_model.specs.Predicates.{is_excluded, proc_of as predicate_of}
use Rattle.term_store.specs.ArgumentKeys.{clause_key, is_any, key_order}
use Rattle.term_store.specs.NumberedNames.{term_by}
use Rattle.atom_api.specs.Names.{Names}
use Rattle.atom_words.specs.Seats.{seen}
use Rattle.atom_table.specs.Naming.{names}
use Rattle.world_api.specs.Replies.{IsFront}
use Rattle.world_api.specs.Texts.{text_of}
use Rattle.world_api.specs.Visits.{clause_in, proc_named}
use Rattle.world_api.specs.declared.reply.Found.{Found}
use Rattle.counted_terms.specs.CountedTerms.{IsCounted, said}
use Rattle.counted_terms.specs.Keeping.{keeper_view, kept}
use Rattle.counted_terms.proofs.Saying.{fixed_named, keeper_fixed}
use Rattle.hub_database.specs.Clauses.{clause_by}
use Rattle.hub_database.specs.Database.{databases}
use Rattle.hub_database.specs.Rows.{HandsOut}
use Rattle.hub_database.proofs.Deciding.{quiet_by, quiet_then, steady_by}
use Rattle.hub_database.proofs.Fronts.{each_weaker, found_counted, head_same, some_weaker}
use Rattle.hub_database.proofs.HintedCalls.{agreed_said, found_is, handed_out, named_same, none_all, none_is, steady_then}
use Rattle.hub_database.proofs.Readings.{all_counted}
use Rattle.hub_database.proofs.finding.found_at.Goals as goal

pub returns-in_default-clause-steady : goal.returns-in_default-clause-steady
returns-in_default-clause-steady g c = steady_by (keeper_view c.args.keeper.now) (keeper_view c.agree.new.keeper) c.agree.ensures.keeps c.agree.ensures.counts

pub returns-in_default-clause-quiet : goal.returns-in_default-clause-quiet
returns-in_default-clause-quiet g c = quiet_by (seen c.args.atoms.now.seat) (seen c.agree.new.atoms.seat) c.agree.ensures.held c.agree.ensures.refusals c.agree.ensures.requests

pub returns-then-not-is_of-clause-steady : goal.returns-then-not-is_of-clause-steady
returns-then-not-is_of-clause-steady g c = steady_by (keeper_view c.args.keeper.now) (keeper_view c.agree.new.keeper) c.agree.ensures.keeps c.agree.ensures.counts

pub returns-then-not-is_of-clause-quiet : goal.returns-then-not-is_of-clause-quiet
returns-then-not-is_of-clause-quiet g c = quiet_by (seen c.args.atoms.now.seat) (seen c.agree.new.atoms.seat) c.agree.ensures.held c.agree.ensures.refusals c.agree.ensures.requests

pub hand_out-requires-clause-counted : goal.hand_out-requires-clause-counted
hand_out-requires-clause-counted g c =
    found_counted (keeper_view c.args.keeper.now) (keeper_view c.agree.new.keeper) c.agree.ensures.counts c.args.db.now
    (all_counted (keeper_view c.args.keeper.now) c.args.db.now c.args.generation c.requires.counts) (Some c.in-Some.hit) c.in-Some.ensures.held

pub returns-clause-steady : goal.returns-clause-steady
returns-clause-steady g c =
    steady_then (keeper_view c.args.keeper.now) (keeper_view c.agree.new.keeper) (keeper_view c.hand_out.new.keeper)
    (steady_by (keeper_view c.args.keeper.now) (keeper_view c.agree.new.keeper) c.agree.ensures.keeps c.agree.ensures.counts)
    (record { keeps = c.hand_out.ensures.keeps; counts = c.hand_out.ensures.counts })

pub returns-clause-quiet : goal.returns-clause-quiet
returns-clause-quiet g c =
    quiet_then (seen c.args.atoms.now.seat) (seen c.agree.new.atoms.seat) (seen c.hand_out.new.atoms.seat)
    (quiet_by (seen c.args.atoms.now.seat) (seen c.agree.new.atoms.seat) c.agree.ensures.held c.agree.ensures.refusals c.agree.ensures.requests)
    (record { holds = c.hand_out.ensures.holds; refusals = c.hand_out.ensures.refusals; requests = c.hand_out.ensures.requests })

pub returns-clause-says : goal.returns-clause-says
returns-clause-says g c = λ goals h t at is own key.
    let s = c.args.atoms.now in
    let v : Names = names (seen s.seat) in
    let k = keeper_view c.args.keeper.now in
    let agreed = c.agree.ensures.agreed in
    let u : Tree = c.in-Some.hit.clause.now in
    let place : ℕ = c.in-Some.hit.place in
    let more = c.in-Some.hit.more in
    let text : ℕ → Chars = text_of (names (seen c.hand_out.new.atoms.seat)) in
    let goal_head = head_of (said v t) in
    let all = all_counted k c.args.db.now c.args.generation c.requires.counts in
    let counted : IsCounted u k = found_counted k k refl c.args.db.now all (Some c.in-Some.hit) c.in-Some.ensures.held in
    let same_said : said agreed.map u ≡ said (kept k) u = agreed_said (seen s.seat) k agreed (keeper_fixed g.K.NamesTable.atoms g.K.NamesTable.size c.args.keeper.now c.requires.keeper) (fixed_named s.table.now.words s.seat s.sits s.fixed) u counted in
    let head_own =
    ap (λ (x : Tree). predicate_of (head_part x)) (sym same_said)
    ∙ c.is_of.ensures c.if-not-is_of.false agreed.map agreed.lawful
    ∙ named_same v agreed.map c.args.procedure.now agreed.held c.requires.name in
    let each = each_weaker (λ u. IsCounted u k) (λ u. are_apart key_order is_any c.args.first.now (clause_key u) ≡ is_excluded goal_head (clause_by k u).head)
    (λ u counted. agreed.excluded c.args.first.now t key c.requires.key u counted ∙ ap (is_excluded goal_head) (sym (head_same (said (kept k) u)))) c.args.db.now all in
    found_is goals h k c.args.db.now c.args.generation is goal_head (proc_named (text_of v) c.args.procedure.now) text c.handed.result place u more head_own
    (λ cs found. subst (HandsOut (λ f. IsFront term_by text f cs)) (sym c.handed.ensures.row)
    (handed_out c.hand_out.result (λ f. IsFront term_by text f cs)
    (IfOk-weaker c.hand_out.result _ (λ (f : Option (Found Tree)). IsFront term_by text f cs) (λ r front. front cs (ap (λ (m : Names). Some (place, clause_in (said m u), more)) c.agree.ensures.keeps ∙ found)) c.hand_out.ensures.front)))
    c.args.i c.requires.there
    (c.in-Some.ensures.says (clause_by k) (databases goals h) (λ (x : Clause). is_excluded goal_head x.head) is.says each)

pub returns-in_default-clause-missed : goal.returns-in_default-clause-missed
returns-in_default-clause-missed g c = none_all c.none_at.result c.agree.ensures.held

pub returns-in_default-clause-named : goal.returns-in_default-clause-named
returns-in_default-clause-named g c =
    let m : Names = names (seen c.agree.new.atoms.seat) in
    some_weaker c.none_at.result (λ r none_. subst (λ (row : Row). All (λ a. IsSome (m a)) (row_names row)) (sym none_.0) (All-nil (λ a. IsSome (m a)))) c.none_at.ensures.none

pub returns-in_default-clause-says : goal.returns-in_default-clause-says
returns-in_default-clause-says g c = λ goals h t at is own key.
    let s = c.args.atoms.now in
    let v : Names = names (seen s.seat) in
    let k = keeper_view c.args.keeper.now in
    let agreed = c.agree.ensures.agreed in
    let goal_head = head_of (said v t) in
    let all = all_counted k c.args.db.now c.args.generation c.requires.counts in
    let each = each_weaker (λ u. IsCounted u k) (λ u. are_apart key_order is_any c.args.first.now (clause_key u) ≡ is_excluded goal_head (clause_by k u).head)
    (λ u counted. agreed.excluded c.args.first.now t key c.requires.key u counted ∙ ap (is_excluded goal_head) (sym (head_same (said (kept k) u)))) c.args.db.now all in
    some_weaker c.none_at.result
    (λ r none_.
    let w = none_.1 in
    let counted : IsCounted w.clause k = held_passes (λ t. IsCounted t k) c.args.db.now w.clause all w.held in
    let same_said : said agreed.map w.clause ≡ said (kept k) w.clause = agreed_said (seen s.seat) k agreed (keeper_fixed g.K.NamesTable.atoms g.K.NamesTable.size c.args.keeper.now c.requires.keeper) (fixed_named s.table.now.words s.seat s.sits s.fixed) w.clause counted in
    let head_own =
    ap (λ (x : Tree). predicate_of (head_part x)) (sym same_said)
    ∙ w.own agreed.map agreed.lawful
    ∙ named_same v agreed.map c.args.procedure.now agreed.held c.requires.name in
    none_is goals h k c.args.db.now c.args.generation is goal_head (proc_named (text_of v) c.args.procedure.now) (text_of (names (seen c.agree.new.atoms.seat))) r w.place w.clause w.more head_own none_.0
    c.args.i c.requires.there (w.first (clause_by k) (databases goals h) is.says)
    (c.in_default.ensures.says (clause_by k) (databases goals h) (λ (x : Clause). is_excluded goal_head x.head) is.says each))
    c.none_at.ensures.none
