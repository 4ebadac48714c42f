use Rattle.std.proofs.Common.{◌+◌, refl, sym, ap, ◌∙◌, arith}
use Rattle.std.specs.List.{sum_by}
use Rattle.std.proofs.lemmas.List.{take_all}
use Rattle.atom_words.specs.Seats.{seen}
use Rattle.counted_terms.specs.CountedTerms.{naming}
use Rattle.counted_terms.specs.Keeping.{keeper_view, tally}
use Rattle.hub_database.proofs.Deciding.{quiet_by, quiet_same, quiet_then}
use Rattle.hub_database.proofs.ReclaimedClauses.{counted_before, next_counted, next_less}
use Rattle.hub_database.proofs.reclaiming.forget_all.Goals as goal

pub loop-clause-init : goal.loop-clause-init
loop-clause-init g c = record { keeper = c.requires.keeper; others = λ t counted. refl; counts = λ a. (omega arith); held = refl; quiet = quiet_same (seen c.args.atoms.now.seat) }

pub forget_by-requires-clause-counted : goal.forget_by-requires-clause-counted
forget_by-requires-clause-counted g c = λ a.
    next_counted c.args.clauses.now c.loop-clause.clause-index c.clause-item.result c.loop-clause-test.true c.clause-item.is (keeper_view c.args.keeper.now) (keeper_view c.loop-clause.keeper) a (c.loop-clause.invariant.counts a) (c.requires.counted a)

pub loop-clause-preserved : goal.loop-clause-preserved
loop-clause-preserved g c =
    let inv = c.loop-clause.invariant in
    let x = c.clause-item.result in
    let k = keeper_view c.args.keeper.now in
    let l = keeper_view c.loop-clause.keeper in
    let o = keeper_view c.forget_by.new.keeper in record {
      keeper = c.forget_by.ensures.keeper;
      others = λ t counted. c.forget_by.ensures.others t counted ∙ inv.others t (counted_before x t l o c.forget_by.ensures.counts counted);
      counts = λ a. next_less c.args.clauses.now c.loop-clause.clause-index x c.loop-clause-test.true c.clause-item.is k l a (inv.counts a) o (c.forget_by.ensures.counts a);
      held = c.forget_by.ensures.held ∙ inv.held;
      quiet = quiet_then (seen c.args.atoms.now.seat) (seen c.loop-clause.atoms.seat) (seen c.forget_by.new.atoms.seat) inv.quiet
          (quiet_by (seen c.loop-clause.atoms.seat) (seen c.forget_by.new.atoms.seat) c.forget_by.ensures.held c.forget_by.ensures.refusals c.forget_by.ensures.requests);
    }

pub returns-clause-counts : goal.returns-clause-counts
returns-clause-counts g c = λ a.
    ap (λ l. sum_by (naming a) l + tally (keeper_view c.loop-clause.keeper) a) (sym (take_all c.loop-clause.clause-index c.args.clauses.now (omega (arith, c.loop-clause-test.false)))) ∙ c.loop-clause.invariant.counts a
