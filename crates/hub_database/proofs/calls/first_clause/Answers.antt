use Rattle.std.proofs.Common.{◌≡◌, ℕ, sym, ap, ◌∙◌, subst}
use Rattle.std.specs.List.{slice_get}
use Rattle.std.proofs.lemmas.Result.{IfOk-weaker}
use Rattle.pl_term.specs.Tree.{Tree}
use Rattle.pl_model.specs.FirstArguments.{are_apart, head_of}
use Rattle.pl_model.specs.Predicates.{is_excluded}
use Rattle.gen_core.specs.Hits.{hit_of}
use Rattle.clause_db.specs.Reading.{read_hit}
use Rattle.term_store.specs.ArgumentKeys.{clause_key, is_any, key_order}
use Rattle.atom_api.specs.Names.{Names}
use Rattle.atom_words.specs.Seats.{seen}
use Rattle.atom_table.specs.Naming.{names}
use Rattle.world_api.specs.Visits.{clause_in}
use Rattle.counted_terms.specs.CountedTerms.{IsCounted, said}
use Rattle.counted_terms.specs.Keeping.{HoldsOn, keeper_view, kept}
use Rattle.hub_database.specs.Clauses.{clause_by}
use Rattle.hub_database.proofs.Fronts.{each_weaker, found_counted, head_same, some_weaker}
use Rattle.hub_database.proofs.calls.first_clause.Goals as goal

pub hand_out-requires-clause-counted : goal.hand_out-requires-clause-counted
hand_out-requires-clause-counted g c = found_counted (keeper_view c.args.keeper.now) (keeper_view c.agree.new.keeper) c.agree.ensures.counts c.args.db.now c.requires.counted c.first_at-hit.result c.first_at-hit.ensures.held

pub returns-clause-keeps : goal.returns-clause-keeps
returns-clause-keeps g c = c.hand_out.ensures.keeps ∙ c.agree.ensures.keeps

pub returns-clause-counts : goal.returns-clause-counts
returns-clause-counts g c = λ k. c.hand_out.ensures.counts k ∙ ap (λ (f : ℕ → ℕ). f k) c.agree.ensures.counts

pub returns-clause-holds : goal.returns-clause-holds
returns-clause-holds g c = subst (λ (m : Names). HoldsOn m (names (seen c.hand_out.new.atoms.seat))) c.agree.ensures.held c.hand_out.ensures.holds

pub returns-clause-says : goal.returns-clause-says
returns-clause-says g c = λ d t s key.
    let k = keeper_view c.args.keeper.now in
    let goal_head = head_of (said (names (seen c.args.atoms.now.seat)) t) in
    let each = each_weaker (λ u. IsCounted u k) (λ u. are_apart key_order is_any c.args.first.now (clause_key u) ≡ is_excluded goal_head (clause_by k u).head)
    (λ u counted. c.agree.ensures.agreed.excluded c.args.first.now t key c.requires.key u counted ∙ ap (is_excluded goal_head) (sym (head_same (said (kept k) u)))) c.args.db.now c.requires.counted in
    IfOk-weaker c.hand_out.result _ _
    (λ r front. some_weaker (slice_get c.args.db.now.parts c.args.i) (λ x e. front _ (ap (λ (m : Names). read_hit (λ (u : Tree). clause_in (said m u)) (hit_of c.first_at-hit.result)) c.agree.ensures.keeps ∙ e))
    (c.first_at-hit.ensures.says (clause_by k) d (λ x. is_excluded goal_head x.head) s each))
    c.hand_out.ensures.front
