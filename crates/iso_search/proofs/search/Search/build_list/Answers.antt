use Rattle.std.proofs.Common.{◌<◌, map, sym, ap, subst, ◌∙◌}
use Rattle.std.specs.List.{All}
use Rattle.term_store.specs.Contents.{term_at}
use Rattle.iso_search.specs.Lists.{listed}
use Rattle.iso_search.proofs.Converting.{stays_again}
use Rattle.iso_search.proofs.Grown.{whole_stays}
use Rattle.iso_search.proofs.search.Search.build_list.Goals as goal

pub returns-clause-whole : goal.returns-clause-whole
returns-clause-whole c =
    let e = c.args.self.now in
    let s = c.build_all.new.store in
    let u = c.make_list.new.store in
    let built = c.in_ok-items.ensures.built in
    let list = c.in_ok-place.ensures in
    whole_stays e u (stays_again e.store s u built.stays list.grows.stays) c.requires.whole
    (subst (All (λ m. m < e.next_variable)) (sym list.grows.numbers) (c.in_ok-items.ensures.above e.next_variable c.requires.whole.above c.requires.rise))

pub returns-clause-built : goal.returns-clause-built
returns-clause-built c =
    let e = c.args.self.now in
    let s = c.build_all.new.store in
    let u = c.make_list.new.store in
    let built = c.in_ok-items.ensures.built in
    let list = c.in_ok-place.ensures in
    record {
      stays = stays_again e.store s u built.stays list.grows.stays;
      inside = list.inside;
      means = list.means ∙ ap (λ ps. listed (map (term_at s) ps)) c.deref.ensures.value ∙ ap listed built.stand;
    }
