use Rattle.std.proofs.Common.{sym, ap, ◌∙◌, subst}
use Rattle.std.specs.Option.{IsSome}
use Rattle.atom_words.specs.declared.view.View.{View}
use Rattle.atom_table.specs.Naming.{names}
use Rattle.counted_terms.specs.Keeping.{kept, tally}
use Rattle.counted_terms.proofs.joining.part.Goals as goal

pub part-requires : goal.part-requires
part-requires c = c.requires.sits

pub returns-clause-sits : goal.returns-clause-sits
returns-clause-sits c = (c.part.ensures.sits.0, ap (λ (y : View). y.fixed) c.part.ensures.left ∙ c.requires.fixed)

pub returns-clause-keeper : goal.returns-clause-keeper
returns-clause-keeper c = let r = c.part.ensures.right in record {
  sits = c.part.ensures.sits.1;
  fixed = ap (λ (y : View). y.fixed) r ∙ c.requires.fixed;
  counts = subst (λ o. IsSome o) (sym (ap (λ (y : View). y.counts) r)) c.requires.counts;
}

pub returns-clause-carried : goal.returns-clause-carried
returns-clause-carried c = let e = c.part.ensures.left in let r = c.part.ensures.right in record {
  held = sym (ap names e);
  keeps = sym (ap kept r);
  counts = sym (ap tally r);
  stays = record {
    size = sym (ap (λ (y : View). y.size) e);
    own = sym (ap (λ (y : View). y.own) e);
    fixed = sym (ap (λ (y : View). y.fixed) e);
    cycle = sym (ap (λ (y : View). y.cycle) e);
    sweep = sym (ap (λ (y : View). y.sweep) e);
    undealt = sym (ap (λ (y : View). y.undealt) e);
    risen = sym (ap (λ (y : View). y.risen) e);
    refusals = sym (ap (λ (y : View). y.refusals) e);
    asked = sym (ap (λ (y : View). y.asked) e);
  };
}
