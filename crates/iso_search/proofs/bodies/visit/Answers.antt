use Rattle.std.proofs.Common.{◌∷◌, [], map, sym, subst}
use Rattle.std.specs.List.{All}
use Rattle.std.proofs.lemmas.List.Elements.{All-push}
use Rattle.pl_term.specs.Tree.{compound}
use Rattle.term_store.specs.Heap.{atom_name}
use Rattle.term_store.specs.Contents.{Holds, term_at}
use Rattle.iso_search.proofs.Converting.{goal_pushed, goals_grown, grows_made, steps_grown, variable_called}
use Rattle.iso_search.proofs.bodies.visit.Goals as goal

pub returns-in_ok-push-in-Variable-clause-steps : goal.returns-in_ok-push-in-Variable-clause-steps
returns-in_ok-push-in-Variable-clause-steps c =
    let s = c.args.store.now in
    let t = c.make_compound.new.self in
    let made = c.in_ok-call-in-Variable.ensures in
    let g = grows_made s t (compound (atom_name 53) (map (term_at s) (c.args.body ∷ []))) c.in_ok-call-in-Variable.call made.made made.numbers made.adds in
    steps_grown s t g c.args.steps.now.items c.requires.steps

pub returns-in_ok-push-in-Variable-clause-goals : goal.returns-in_ok-push-in-Variable-clause-goals
returns-in_ok-push-in-Variable-clause-goals c =
    let s = c.args.store.now in
    let t = c.make_compound.new.self in
    let ps = c.args.goals.now.items in
    let made = c.in_ok-call-in-Variable.ensures in
    let g = grows_made s t (compound (atom_name 53) (map (term_at s) (c.args.body ∷ []))) c.in_ok-call-in-Variable.call made.made made.numbers made.adds in
    subst (All (Holds t)) (sym c.in_ok-push-in-Variable.ensures.items)
    (All-push (Holds t) ps c.in_ok-call-in-Variable.call (goals_grown s t g ps c.requires.goals) made.made.holds)

pub returns-in_ok-push-in-Variable-clause-converts : goal.returns-in_ok-push-in-Variable-clause-converts
returns-in_ok-push-in-Variable-clause-converts c v view =
    let s = c.args.store.now in
    let t = c.make_compound.new.self in
    let made = c.in_ok-call-in-Variable.ensures in
    let g = grows_made s t (compound (atom_name 53) (map (term_at s) (c.args.body ∷ []))) c.in_ok-call-in-Variable.call made.made made.numbers made.adds in
    goal_pushed v s t c.args.body c.in_ok-call-in-Variable.call c.args.steps.now.items c.args.goals.now.items c.push.new.self.items g c.requires.steps c.requires.goals
    c.in_ok-push-in-Variable.ensures.items
    (variable_called v view s t c.args.body c.in_ok-call-in-Variable.call c.in-Variable.field-0 c.in-Variable.ensures made.made)
