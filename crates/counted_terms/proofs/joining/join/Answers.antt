use Rattle.std.proofs.Common.{ℕ, sym, ap, ◌∙◌, subst}
use Rattle.std.specs.Option.{IsSome}
use Rattle.std.proofs.Math.Path.{fun_ext}
use Rattle.atom_words.specs.Seats.{seen}
use Rattle.atom_words.specs.declared.view.View.{View}
use Rattle.atom_table.specs.Naming.{named, names}
use Rattle.atom_table.proofs.Telling.{sound_same}
use Rattle.counted_terms.specs.Keeping.{kept, or_else, tally, text_in}
use Rattle.counted_terms.proofs.Holding.{agrees_as}
use Rattle.counted_terms.proofs.joining.join.Goals as goal

pub show-requires : goal.show-requires
show-requires c = record { fits = c.with_both.ensures.sits.0 }

pub returns-clause-joins : goal.returns-clause-joins
returns-clause-joins c = let u : View = seen c.with_both.new.seat in let w : View = seen c.show.new.seat in let e = c.show.ensures.steps.1 in let b = c.with_both.ensures.both in let sits = c.with_both.ensures.sits in record {
  sits = (
    (c.show.ensures.same.0 ∙ sits.0.0, ap (λ (y : View). y.size) e ∙ sits.0.1, ap (λ (y : View). y.gone) e ∙ sits.0.2),
    ap (λ (y : View). y.own) e ∙ sits.1,
    sound_same u w (ap (λ (y : View). y.held) e) (ap (λ (y : View). y.fixed) e) (ap (λ (y : View). y.counts) e) (ap (λ (y : View). y.size) e) sits.2,
  );
  fixed = ap (λ (y : View). y.fixed) e ∙ (ap (λ (y : View). y.fixed) b ∙ c.requires.seat.1);
  counts = subst (λ o. IsSome o) (sym (ap (λ (y : View). y.counts) e ∙ ap (λ (y : View). y.counts) b)) c.requires.keeper.counts;
  agrees = λ cs q. agrees_as u w cs (ap (λ (y : View). y.held) e) (ap (λ (y : View). y.fixed) e) (c.show.ensures.agrees cs (sym (ap (λ (y : View). y.counts) e) ∙ q));
}

pub returns-clause-carries : goal.returns-clause-carries
returns-clause-carries c = let k : View = seen c.args.keeper.seat in let fixed = c.requires.seat.1 ∙ sym c.requires.keeper.fixed in let e = c.show.ensures.steps.1 in let b = c.with_both.ensures.both in record {
  held = ap names e ∙ ap names b;
  keeps = ap kept e ∙ (ap kept b ∙ fun_ext (λ (j : ℕ). ap (λ l. or_else (named l j) (text_in k.counts j)) fixed));
  counts = ap tally e ∙ ap tally b;
  stays = record {
    size = ap (λ (y : View). y.size) e ∙ ap (λ (y : View). y.size) b;
    own = ap (λ (y : View). y.own) e ∙ ap (λ (y : View). y.own) b;
    fixed = ap (λ (y : View). y.fixed) e ∙ ap (λ (y : View). y.fixed) b;
    cycle = ap (λ (y : View). y.cycle) e ∙ ap (λ (y : View). y.cycle) b;
    sweep = ap (λ (y : View). y.sweep) e ∙ ap (λ (y : View). y.sweep) b;
    undealt = ap (λ (y : View). y.undealt) e ∙ ap (λ (y : View). y.undealt) b;
    risen = ap (λ (y : View). y.risen) e ∙ ap (λ (y : View). y.risen) b;
    refusals = ap (λ (y : View). y.refusals) e ∙ ap (λ (y : View). y.refusals) b;
    asked = ap (λ (y : View). y.asked) e ∙ ap (λ (y : View). y.asked) b;
  };
}
