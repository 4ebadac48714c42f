use Rattle.std.proofs.Common.{◌<◌, refl, sym, ap, ◌∙◌, subst, option_map}
use Rattle.std.specs.Option.{IsSome}
use Rattle.atom_words.specs.Kinds.{once_less}
use Rattle.atom_words.specs.Seats.{seen}
use Rattle.atom_words.specs.declared.view.View.{View}
use Rattle.counted_terms.specs.Keeping.{times_in}
use Rattle.counted_terms.proofs.OneMaps.{counts_of}
use Rattle.counted_terms.proofs.Recounting.{less_agrees, less_once}
use Rattle.counted_terms.proofs.naming.unregister.Goals as goal

pub unregister-requires-clause-sits : goal.unregister-requires-clause-sits
unregister-requires-clause-sits c = c.requires.joins.sits

pub unregister-requires-clause-counted : goal.unregister-requires-clause-counted
unregister-requires-clause-counted c = let q = counts_of c.args.table.now.words c.args.seat.now c.requires.joins in (q.0, q.1, subst (λ o. 0 < times_in o c.args.a) q.1 c.requires.counted)

pub returns-clause-joins : goal.returns-clause-joins
returns-clause-joins c = let v : View = seen c.args.seat.now in let w : View = seen c.unregister.new.seat in let j = c.requires.joins in let e = c.unregister.ensures.steps in let q = counts_of c.args.table.now.words c.args.seat.now j in record {
  sits = c.unregister.ensures.sits;
  fixed = ap (λ (y : View). y.fixed) e ∙ j.fixed;
  counts = subst (λ o. IsSome o) (sym (ap (λ (y : View). y.counts) e ∙ ap (option_map (once_less c.args.a)) q.1)) refl;
  agrees = less_agrees v w q.0 c.args.a q.1 q.2 (subst (λ o. 0 < times_in o c.args.a) q.1 c.requires.counted) e;
}

pub returns-clause-unregistered : goal.returns-clause-unregistered
returns-clause-unregistered c = let q = counts_of c.args.table.now.words c.args.seat.now c.requires.joins in
    less_once (seen c.args.seat.now) (seen c.unregister.new.seat) q.0 c.args.a q.1 q.2 (subst (λ o. 0 < times_in o c.args.a) q.1 c.requires.counted) c.unregister.ensures.steps c.requires.joins.fixed
