use Rattle.std.proofs.Common.{◌≡◌, ◌+◌, ℕ, sym, ap, subst, ◌∙◌, arith}
use Rattle.pl_term.specs.Tree.{Tree}
use Rattle.pl_model.specs.laws.Shown.{proc_of}
use Rattle.atom_words.specs.Seats.{seen}
use Rattle.atom_table.specs.Naming.{names}
use Rattle.clause_db.specs.Parts.{Held}
use Rattle.world_api.specs.Visits.{clause_in}
use Rattle.counted_terms.specs.CountedTerms.{naming, said}
use Rattle.counted_terms.specs.Keeping.{keeper_view, tally}
use Rattle.hub_database.specs.Clauses.{clause_by}
use Rattle.hub_database.specs.Database.{IsDatabase, clause_counts, databases}
use Rattle.pl_model.specs.History.{Clause}
use Rattle.pl_model.specs.Service.{clause_cells}
use Rattle.clause_db.specs.Faults.{addition_fault}
use Rattle.counted_terms.specs.Sharing.{Restored}
use Rattle.hub_database.specs.Adding.{origin_by}
use Rattle.hub_database.proofs.Deciding.{quiet_by}
use Rattle.hub_database.proofs.StoredClauses.{cause, forgotten_counts, forgotten_database, refused_says, says_stored, stored_counts, stored_says}
use Rattle.hub_database.proofs.storing.store_clause.Goals as goal

pub forget_by-requires-clause-counted : goal.forget_by-requires-clause-counted
forget_by-requires-clause-counted g c = λ a.
    let same = ap (naming a) c.in-Err.ensures.back in
    let more = c.store_from.ensures.counts a in
    let still = ap (λ (f : ℕ → ℕ). f a) c.agree.ensures.counts in
    omega arith

pub returns-in-Ok-clause-stored : goal.returns-in-Ok-clause-stored
returns-in-Ok-clause-stored g c = stored_counts c.args.db.now (keeper_view c.args.keeper.now) (keeper_view c.store_from.new.keeper) (keeper_view c.agree.new.keeper) c.args.place c.args.clause c.requires.counts c.store_from.ensures.others c.store_from.ensures.counts c.agree.ensures.keeps c.agree.ensures.counts c.put.new.db c.in-Ok.ensures.weighs

pub returns-in-Ok-clause-quiet : goal.returns-in-Ok-clause-quiet
returns-in-Ok-clause-quiet g c = quiet_by (seen c.args.atoms.now.seat) (seen c.agree.new.atoms.seat) (c.agree.ensures.held ∙ c.store_from.ensures.held) (c.agree.ensures.refusals ∙ c.store_from.ensures.refusals) (c.agree.ensures.requests ∙ c.store_from.ensures.requests)

pub returns-in-Ok-clause-says : goal.returns-in-Ok-clause-says
returns-in-Ok-clause-says g c = λ goals e h at was.
    stored_says c.args.db.now (keeper_view c.args.keeper.now) (keeper_view c.store_from.new.keeper) (keeper_view c.agree.new.keeper) c.args.place c.args.clause c.requires.counts c.store_from.ensures.others c.store_from.ensures.counts c.agree.ensures.keeps c.agree.ensures.counts
    c.args.by (proc_of c.args.p.now) (clause_in (said (names (seen c.args.atoms.now.seat)) c.args.clause)) goals e h c.put.new.db _ (λ x bad. cc) (ap clause_in c.store_from.ensures.says)
    at was c.in-Ok.ensures.settings.0 c.in-Ok.ensures.settings.1
    (c.in-Ok.ensures.says (clause_by (keeper_view c.store_from.new.keeper)) (databases goals h) (c.agree.ensures.agreed.costs c.args.clause) (says_stored c.args.db.now (keeper_view c.args.keeper.now) (keeper_view c.store_from.new.keeper) (keeper_view c.agree.new.keeper) c.args.place c.args.clause c.requires.counts c.store_from.ensures.others c.store_from.ensures.counts c.agree.ensures.keeps c.agree.ensures.counts goals h was))

pub returns-in-Err-clause-forgotten : goal.returns-in-Err-clause-forgotten
returns-in-Err-clause-forgotten g c =
    subst (λ (d : Held Tree). Restored (clause_counts c.args.db.now) (clause_counts d) (keeper_view c.args.keeper.now) (keeper_view c.forget_by.new.keeper) c.args.place c.args.place) (sym c.in-Err.ensures.unchanged)
    (forgotten_counts c.args.db.now (keeper_view c.args.keeper.now) (keeper_view c.store_from.new.keeper) (keeper_view c.agree.new.keeper) c.args.place c.args.clause c.requires.counts c.store_from.ensures.others c.store_from.ensures.counts c.agree.ensures.keeps c.agree.ensures.counts (keeper_view c.forget_by.new.keeper) c.forget_by.ensures.others
    (subst (λ (u : Tree). (a : ℕ) → naming a u + tally (keeper_view c.forget_by.new.keeper) a ≡ tally (keeper_view c.agree.new.keeper) a) c.in-Err.ensures.back c.forget_by.ensures.counts))

pub returns-in-Err-clause-quiet : goal.returns-in-Err-clause-quiet
returns-in-Err-clause-quiet g c = quiet_by (seen c.args.atoms.now.seat) (seen c.forget_by.new.atoms.seat) (c.forget_by.ensures.held ∙ (c.agree.ensures.held ∙ c.store_from.ensures.held)) (c.forget_by.ensures.refusals ∙ (c.agree.ensures.refusals ∙ c.store_from.ensures.refusals))
    (c.forget_by.ensures.requests ∙ (c.agree.ensures.requests ∙ c.store_from.ensures.requests))

pub returns-in-Err-clause-was : goal.returns-in-Err-clause-was
returns-in-Err-clause-was g c = λ goals h was.
    subst (λ (d : Held Tree). IsDatabase (keeper_view c.forget_by.new.keeper) d goals h) (sym c.in-Err.ensures.unchanged)
    (forgotten_database c.args.db.now (keeper_view c.args.keeper.now) (keeper_view c.store_from.new.keeper) (keeper_view c.agree.new.keeper) c.args.place c.args.clause c.requires.counts c.store_from.ensures.others c.store_from.ensures.counts c.agree.ensures.keeps c.agree.ensures.counts (keeper_view c.forget_by.new.keeper) c.forget_by.ensures.others
    (subst (λ (u : Tree). (a : ℕ) → naming a u + tally (keeper_view c.forget_by.new.keeper) a ≡ tally (keeper_view c.agree.new.keeper) a) c.in-Err.ensures.back c.forget_by.ensures.counts) goals h was)

pub returns-in-Err-clause-says : goal.returns-in-Err-clause-says
returns-in-Err-clause-says g c = λ goals e h at was.
    refused_says (λ (u : Clause). addition_fault clause_cells (databases goals h c.args.place) (proc_of c.args.p.now) (origin_by c.args.by) u) (clause_by (keeper_view c.store_from.new.keeper) c.args.clause) (clause_in (said (names (seen c.args.atoms.now.seat)) c.args.clause))
    c.in-Err.fault _ (ap clause_in c.store_from.ensures.says) (λ same. ap (λ x. x.1) same) (λ y bad. ap cause bad)
    (c.in-Err.ensures.says (clause_by (keeper_view c.store_from.new.keeper)) (databases goals h) (c.agree.ensures.agreed.costs c.args.clause) (says_stored c.args.db.now (keeper_view c.args.keeper.now) (keeper_view c.store_from.new.keeper) (keeper_view c.agree.new.keeper) c.args.place c.args.clause c.requires.counts c.store_from.ensures.others c.store_from.ensures.counts c.agree.ensures.keeps c.agree.ensures.counts goals h was))
