use Rattle.std.proofs.Common.{◌≡◌, ◌+◌, ℕ, List, refl, sym, ap, subst, arith}
use Rattle.std.specs.List.{sum_by}
use Rattle.pl_term.specs.Tree.{Tree}
use Rattle.clause_db.specs.Parts.{Held}
use Rattle.counted_terms.specs.CountedTerms.{naming}
use Rattle.counted_terms.specs.Keeping.{keeper_view, tally}
use Rattle.hub_database.specs.Clauses.{clause_by}
use Rattle.atom_words.specs.Seats.{seen}
use Rattle.counted_terms.specs.Sharing.{Restored}
use Rattle.counted_terms.proofs.Sharing.{restored_same}
use Rattle.hub_database.specs.Database.{IsDatabase, clause_counts, databases}
use Rattle.hub_database.proofs.Deciding.{quiet_same}
use Rattle.hub_database.proofs.ReclaimedClauses.{reclaimed_database, reclaimed_restores}
use Rattle.hub_database.proofs.reclaiming.reclaim_clauses.Goals as goal

pub forget_all-requires-clause-counted : goal.forget_all-requires-clause-counted
forget_all-requires-clause-counted g c = λ a.
    let same = ap (λ (l : List Tree). sum_by (naming a) l) c.as_slice.ensures.value in
    let w = c.in_ok-dropped.ensures.weighs (naming a) in
    let s = c.requires.counts.exact a in
    omega (arith, same, w, s)

pub returns-clause-restored : goal.returns-clause-restored
returns-clause-restored g c =
    reclaimed_restores c.args.db.now c.reclaim_by.new.self (keeper_view c.args.keeper.now) (keeper_view c.forget_all.new.keeper) c.args.generation c.in_ok-dropped.dropped.items c.in_ok-dropped.ensures.weighs c.forget_all.ensures.others
    (subst (λ (l : List Tree). (a : ℕ) → sum_by (naming a) l + tally (keeper_view c.forget_all.new.keeper) a ≡ tally (keeper_view c.args.keeper.now) a) c.as_slice.ensures.value c.forget_all.ensures.counts)

pub returns-clause-says : goal.returns-clause-says
returns-clause-says g c = λ goals h is.
    reclaimed_database c.args.db.now c.reclaim_by.new.self (keeper_view c.args.keeper.now) (keeper_view c.forget_all.new.keeper) c.args.generation c.in_ok-dropped.dropped.items c.in_ok-dropped.ensures.weighs c.forget_all.ensures.others
    (subst (λ (l : List Tree). (a : ℕ) → sum_by (naming a) l + tally (keeper_view c.forget_all.new.keeper) a ≡ tally (keeper_view c.args.keeper.now) a) c.as_slice.ensures.value c.forget_all.ensures.counts)
    c.requires.counts goals h is (c.in_ok-dropped.ensures.says (clause_by (keeper_view c.args.keeper.now)) (databases goals h) is.says)
    (ap (λ (d : Held Tree). d.flags) c.in_ok-dropped.ensures.held) (ap (λ (d : Held Tree). d.operators) c.in_ok-dropped.ensures.held)

pub returns-in_err-dropped-clause-restored : goal.returns-in_err-dropped-clause-restored
returns-in_err-dropped-clause-restored g c =
    let k = keeper_view c.args.keeper.now in
    subst (λ (d : Held Tree). Restored (clause_counts c.args.db.now) (clause_counts d) k k c.args.generation c.args.generation) (sym c.in_err-dropped.ensures.unchanged) (restored_same (clause_counts c.args.db.now) k k c.args.generation refl (λ a. refl))

pub returns-in_err-dropped-clause-quiet : goal.returns-in_err-dropped-clause-quiet
returns-in_err-dropped-clause-quiet g c = quiet_same (seen c.args.atoms.now.seat)

pub returns-in_err-dropped-clause-says : goal.returns-in_err-dropped-clause-says
returns-in_err-dropped-clause-says g c = λ goals h is. subst (λ (d : Held Tree). IsDatabase (keeper_view c.args.keeper.now) d goals h) (sym c.in_err-dropped.ensures.unchanged) is
