use Rattle.std.proofs.Common.{map, sym, subst}
use Rattle.std.specs.List.{All}
use Rattle.std.proofs.lemmas.List.Elements.{All-push}
use Rattle.pl_model.specs.Checks.{elements, elements_within}
use Rattle.term_store.specs.Contents.{Holds}
use Rattle.world_builtins.specs.Naming.{IsHeldAt}
use Rattle.world_builtins.specs.Spelling.{reads}
use Rattle.builtin_rows.proofs.Listing.{walk_ends, walked_on}
use Rattle.builtin_rows.proofs.lists.list_elements.Goals as goal

pub returns-in-End-clause-ended : goal.returns-in-End-clause-ended
returns-in-End-clause-ended c m n held =
    let s = c.args.store.now in
    let whole = reads m s c.args.list in
    let i = c.loop.invariant in
    walk_ends c.in-End.end whole (map (reads m s) c.loop.all.items) (elements whole) (elements_within whole (reads m s c.loop.rest))
    (i.walked m whole n held) (c.in-End.ensures.part m whole n (i.rest_held m held))

pub loop-preserved : goal.loop-preserved
loop-preserved c =
    let s = c.args.store.now in
    let i = c.loop.invariant in
    let part = c.in-Cell.ensures in
    let pushed = c.in_ok-push-in-Cell.ensures.items in
    record {
      inside = part.inside.1;
      places = subst (All (Holds s)) (sym pushed) (All-push (Holds s) c.loop.all.items c.in-Cell.element i.places part.inside.0);
      rest_held = λ m held. (part.held m (i.rest_held m held)).1;
      held = λ m held.
          subst (All (IsHeldAt m s)) (sym pushed)
          (All-push (IsHeldAt m s) c.loop.all.items c.in-Cell.element (i.held m held) (part.held m (i.rest_held m held)).0);
      walked = λ m whole n held.
          walked_on (reads m s) c.loop.all.items c.push.new.self.items c.in-Cell.element (elements_within whole (reads m s c.args.list))
          (elements_within whole (reads m s c.loop.rest)) (elements_within whole (reads m s c.in-Cell.others)) (i.walked m whole n held)
          (part.part m whole n (i.rest_held m held)) pushed;
    }
