use Rattle.std.proofs.Common.{◌==◌, ap, rules, ◌∙◌}
use Rattle.std.specs.List.{list_any}
use Rattle.std.proofs.lemmas.Iterator.{YieldsList-from_map, items_from_collect}
use Rattle.std.proofs.lemmas.Iterator.Consumers.{YieldsList-at, YieldsList-from_rest}
use borrow.Author.Tests.{tests}
use Rattle.gen_core.specs.Numbers.{place_of}
use Rattle.gen_core.proofs.Listed.{at_ok}
use Rattle.gen_core.proofs.Places.{places-are}
use Rattle.gen_core.proofs.clause_index.ClauseIndex.droppable_places.Goals as goal

pub returns : goal.returns
returns g c =
    let items = at_ok _ _ _ c.in_ok-places.was
    (items_from_collect _ c.collect.ensures.ran (YieldsList-from_map _ (λ x. place_of x.1) (YieldsList-at c.map.ensures.source (YieldsList-from_rest _ (c.range.ensures.between tt))) c.map.ensures.closure (λ x r q k. search (rules, tests)))) in
    λ p. ap (list_any (λ q. q == p)) items ∙ places-are g.C.Key.Ord.cmp g.C.Kept.any g.C.Kept.key_of c.args.self.now c.requires c.args.floor p
