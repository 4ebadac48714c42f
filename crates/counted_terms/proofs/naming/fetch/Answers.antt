use Rattle.std.proofs.Common.{◌<◌, sym, ap, ◌∙◌, subst}
use Rattle.std.specs.Option.{IsSome}
use Rattle.atom_words.specs.Seats.{seen}
use Rattle.atom_words.specs.declared.view.View.{View}
use Rattle.counted_terms.specs.Keeping.{times_in}
use Rattle.counted_terms.proofs.Holding.{fetched_once, fetched_agrees}
use Rattle.counted_terms.proofs.OneMaps.{counts_of}
use Rattle.counted_terms.proofs.Recounting.{same_counts}
use Rattle.counted_terms.proofs.naming.fetch.Goals as goal

pub fetch-requires-clause-sits : goal.fetch-requires-clause-sits
fetch-requires-clause-sits c = c.requires.joins.sits

pub fetch-requires-clause-counted : goal.fetch-requires-clause-counted
fetch-requires-clause-counted c = let q = counts_of c.args.table.now.words c.args.seat.now c.requires.joins in (q.0, q.1, subst (λ o. 0 < times_in o c.args.a) q.1 c.requires.counted)

pub returns-clause-joins : goal.returns-clause-joins
returns-clause-joins c = let v : View = seen c.args.seat.now in let w : View = seen c.fetch.new.seat in let e = c.fetch.ensures.steps in let j = c.requires.joins in let q = counts_of c.args.table.now.words c.args.seat.now j in record {
  sits = c.fetch.ensures.sits;
  fixed = ap (λ (y : View). y.fixed) e ∙ j.fixed;
  counts = subst (λ o. IsSome o) (sym (ap (λ (y : View). y.counts) e)) j.counts;
  agrees = same_counts v w q.0 q.1 (ap (λ (y : View). y.counts) e) (fetched_agrees v w q.0 c.args.a q.1 (subst (λ o. 0 < times_in o c.args.a) q.1 c.requires.counted) q.2 e);
}

pub returns-clause-fetched : goal.returns-clause-fetched
returns-clause-fetched c = let q = counts_of c.args.table.now.words c.args.seat.now c.requires.joins in
    fetched_once (seen c.args.seat.now) (seen c.fetch.new.seat) q.0 c.args.a q.1 (subst (λ o. 0 < times_in o c.args.a) q.1 c.requires.counted) q.2 c.fetch.ensures.steps
