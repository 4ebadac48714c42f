use Rattle.std.proofs.Common.{◌≡◌, ◌≢◌, ◌++◌, ◌∷◌, [], length, refl, sym, ap, ◌∙◌, arith}
use Rattle.pl_term.specs.Tree.{compound}
use Rattle.term_store.specs.Heap.{atom_name}
use Rattle.term_store.specs.Contents.{arguments_at}
use Rattle.iso_search.specs.declared.bodies.Step.TheVariants.{Visit}
use Rattle.iso_search.specs.Spelling.{text_of}
use Rattle.iso_search.proofs.Constructing.{how_many}
use Rattle.iso_search.proofs.Converting.{as_it_is, both_opened, closed_by_count, closed_by_name, goal_pushed, grows_none, open_by_number}
use Rattle.iso_search.proofs.bodies.open.Goals as goal

pub returns-then-not-is_transparent-clause-converts : goal.returns-then-not-is_transparent-clause-converts
returns-then-not-is_transparent-clause-converts c v view =
    let s = c.args.store.now in
    let ys = arguments_at s c.args.arguments in
    goal_pushed v s s c.args.body c.args.body c.args.steps.now.items c.args.goals.now.items c.push.new.self.items (grows_none s s refl) c.requires.steps c.requires.goals
    c.in_ok-push.ensures.items
    (as_it_is v s c.args.body (compound (atom_name c.args.name) ys) c.requires.stands
    (closed_by_name (text_of v.names) (atom_name c.args.name) ys
    (open_by_number v view c.args.name ∙ sym c.is_transparent.ensures ∙ c.if-not-is_transparent.true)))

pub returns-then-len-ne2-clause-converts : goal.returns-then-len-ne2-clause-converts
returns-then-len-ne2-clause-converts c v view =
    let s = c.args.store.now in
    let ys = arguments_at s c.args.arguments in
    let count : c.args.arguments.count ≢ 2 = λ e. c.if-len-ne2.true (c.len.ensures ∙ e) in
    let long : length ys ≢ 2 = λ e. count (omega (arith, how_many s c.args.arguments c.requires.arguments, e)) in
    goal_pushed v s s c.args.body c.args.body c.args.steps.now.items c.args.goals.now.items c.push-then-len-ne2.new.self.items (grows_none s s refl) c.requires.steps
    c.requires.goals c.in_ok-push-2.ensures.items
    (as_it_is v s c.args.body (compound (atom_name c.args.name) ys) c.requires.stands
    (closed_by_count (text_of v.names) (atom_name c.args.name) ys long))

pub returns-clause-converts : goal.returns-clause-converts
returns-clause-converts c v view =
    let s = c.args.store.now in
    let ys = arguments_at s c.args.arguments in
    let first = c.argument-first.result in
    let second = c.argument-second.result in
    let long : length ys ≡ 2 = omega (arith, how_many s c.args.arguments c.requires.arguments, c.len.ensures, c.if-len-ne2.false) in
    both_opened v s c.args.body first second c.args.name ys c.args.steps.now.items c.push-4.new.self.items c.args.goals.now.items c.requires.stands long
    c.argument-first.ensures.stands c.argument-second.ensures.stands
    (open_by_number v view c.args.name ∙ sym c.is_transparent.ensures ∙ c.if-not-is_transparent.false)
    (c.in_ok-push-5.ensures.items
    ∙ ap (λ l. l ++ Visit first ∷ []) (c.in_ok-push-4.ensures.items ∙ ap (λ l. l ++ Visit second ∷ []) c.in_ok-push-3.ensures.items))
