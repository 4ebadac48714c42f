use Rattle.std.proofs.Common.{◌≡◌, sym, ap, ◌∙◌, subst, Some, replicate}
use Rattle.atom_words.specs.Views.{uncounted}
use Rattle.atom_words.specs.Seats.{seen, Walking}
use Rattle.atom_words.specs.declared.size.Size.{Size}
use Rattle.atom_words.specs.declared.view.View.{View}
use Rattle.atom_table.proofs.tests.hand_over.Goals as goal

pub register_text-requires-clause-counts : goal.register_text-requires-clause-counts
register_text-requires-clause-counts c = let e = c.with_both.ensures.both in let one : (seen c.args.one.now).size ≡ (seen c.args.keeper.seat).size = c.requires.one.0.0.1 ∙ sym c.requires.keeper.0.0.1 in
    ap (λ (y : View). y.counts) e ∙ (c.requires.keeper.1.0 ∙ ap (λ (z : Size). Some (replicate z.slots uncounted)) (sym one ∙ sym (ap (λ (y : View). y.size) e)))

pub fetch_and_unregister-requires-clause-counted : goal.fetch_and_unregister-requires-clause-counted
fetch_and_unregister-requires-clause-counted c = let q = c.in-Some.ensures.counted in (q.0, ap (λ (y : View). y.counts) c.with_both-in-Some.ensures.both ∙ (ap (λ (y : View). y.counts) c.part-keeper.ensures.right ∙ q.1), q.2)

pub register_text-requires-clause-walking : goal.register_text-requires-clause-walking
register_text-requires-clause-walking c = subst (λ (y : View). Walking y) (sym c.with_both.ensures.both) c.requires.one.1

pub fetch_and_unregister-requires-clause-walking : goal.fetch_and_unregister-requires-clause-walking
fetch_and_unregister-requires-clause-walking c = subst (λ (y : View). Walking y) (sym c.with_both-in-Some.ensures.both) c.requires.two.1
