use Rattle.std.proofs.Common.{sym, ap, ◌∙◌, subst}
use Rattle.atom_words.specs.Seats.{seen}
use Rattle.atom_words.specs.declared.view.View.{View}
use Rattle.counted_terms.specs.Agreements.{Agreed}
use Rattle.counted_terms.specs.Keeping.{Stays, keeper_view, kept, tally}
use Rattle.counted_terms.proofs.Agreeing.{agrees_on}
use Rattle.counted_terms.proofs.keeping.agree_kept.Goals as goal

pub returns-clause-agreed : goal.returns-clause-agreed
returns-clause-agreed c = subst (λ (k : View). Agreed (seen c.args.seat.now) k) (ap keeper_view c.in-Some.ensures.value)
    (agrees_on c.args.table.now.words c.join.new.seat c.join.ensures.joins (seen c.in-Some.taken.seat) (seen c.args.seat.now) c.join.ensures.carries)

pub returns-clause-held : goal.returns-clause-held
returns-clause-held c = sym c.part.ensures.carried.held ∙ c.join.ensures.carries.held

pub returns-clause-keeps : goal.returns-clause-keeps
returns-clause-keeps c = sym c.part.ensures.carried.keeps ∙ (c.join.ensures.carries.keeps ∙ ap (λ o. kept (keeper_view o)) c.in-Some.ensures.value)

pub returns-clause-counts : goal.returns-clause-counts
returns-clause-counts c = sym c.part.ensures.carried.counts ∙ (c.join.ensures.carries.counts ∙ ap (λ o. tally (keeper_view o)) c.in-Some.ensures.value)

pub returns-clause-stays : goal.returns-clause-stays
returns-clause-stays c = let a = c.join.ensures.carries.stays in let b = c.part.ensures.carried.stays in record {
  size = sym b.size ∙ a.size;
  own = sym b.own ∙ a.own;
  fixed = sym b.fixed ∙ a.fixed;
  cycle = sym b.cycle ∙ a.cycle;
  sweep = sym b.sweep ∙ a.sweep;
  undealt = sym b.undealt ∙ a.undealt;
  risen = sym b.risen ∙ a.risen;
  refusals = sym b.refusals ∙ a.refusals;
  asked = sym b.asked ∙ a.asked;
}
