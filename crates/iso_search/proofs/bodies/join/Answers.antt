use Rattle.std.proofs.Common.{◌++◌, ◌∷◌, [], map, sym, ap, subst, ◌∙◌}
use Rattle.std.specs.List.{All}
use Rattle.std.proofs.lemmas.List.Elements.{All-push}
use Rattle.pl_term.specs.Tree.{compound}
use Rattle.term_store.specs.Heap.{atom_name}
use Rattle.term_store.specs.Contents.{Holds, term_at}
use Rattle.term_store.proofs.Occurring.{popped}
use Rattle.iso_search.proofs.Converting.{both_joined, goals_grown, grows_made}
use Rattle.iso_search.proofs.bodies.join.Goals as goal

pub returns-clause-goals : goal.returns-clause-goals
returns-clause-goals c =
    let s = c.args.store.now in
    let t = c.make_compound.new.self in
    let rs = c.pop-2.new.self.items in
    let made = c.in_ok-joined.ensures in
    let g = grows_made s t (compound (atom_name c.args.name) (map (term_at s) (c.in-Some-pop.first ∷ (c.in-Some.second ∷ [])))) c.in_ok-joined.joined made.made made.numbers made.adds in
    let left = popped (Holds s) c.args.goals.now.items c.pop.new.self.items c.in-Some.second c.in-Some.ensures.items c.requires.goals in
    let held = popped (Holds s) c.pop.new.self.items rs c.in-Some-pop.first c.in-Some-pop.ensures.items left.0 in
    subst (All (Holds t)) (sym c.in_ok-push.ensures.items) (All-push (Holds t) rs c.in_ok-joined.joined (goals_grown s t g rs held.0) made.made.holds)

pub returns-clause-joins : goal.returns-clause-joins
returns-clause-joins c v ps =
    let s = c.args.store.now in
    let t = c.make_compound.new.self in
    let rs = c.pop-2.new.self.items in
    let made = c.in_ok-joined.ensures in
    let g = grows_made s t (compound (atom_name c.args.name) (map (term_at s) (c.in-Some-pop.first ∷ (c.in-Some.second ∷ [])))) c.in_ok-joined.joined made.made made.numbers made.adds in
    let left = popped (Holds s) c.args.goals.now.items c.pop.new.self.items c.in-Some.second c.in-Some.ensures.items c.requires.goals in
    let held = popped (Holds s) c.pop.new.self.items rs c.in-Some-pop.first c.in-Some-pop.ensures.items left.0 in
    both_joined v s t c.args.name c.in-Some-pop.first c.in-Some.second c.in_ok-joined.joined ps c.args.goals.now.items c.push.new.self.items rs g held.0
    (c.in-Some.ensures.items ∙ ap (λ l. l ++ c.in-Some.second ∷ []) c.in-Some-pop.ensures.items) c.in_ok-push.ensures.items made.made
