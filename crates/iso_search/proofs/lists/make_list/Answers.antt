use Rattle.std.proofs.Common.{◌-◌, ◌<◌, [], length, drop, get_or, map, arith}
use Rattle.std.proofs.lemmas.List.{drop_all, length-map}
use Rattle.std.proofs.lemmas.List.Elements.{All-get_or}
use Rattle.pl_term.specs.Tree.{atom}
use Rattle.term_store.specs.Contents.{Holds, term_at}
use Rattle.iso_search.proofs.ListTerms.{all_two, holds_still, item_at, listed_more, listed_none}
use Rattle.iso_search.proofs.lists.make_list.Goals as goal

pub loop-i-init : goal.loop-i-init
loop-i-init c =
    let s = c.args.store.now in
    let ts = map (term_at s) c.args.items.now in
    record {
      within = omega arith;
      list =
          listed_none s (drop (length c.args.items.now) ts) c.atom-list.result (drop_all (length c.args.items.now) ts (omega (arith, length-map c.args.items.now (term_at s)))) (c.atom-list.ensures s).0
          (c.atom-list.ensures s).1;
    }

pub make_compound-requires-clause-places : goal.make_compound-requires-clause-places
make_compound-requires-clause-places c =
    let s = c.args.store.now in
    let t = c.loop-i.store in
    let items = c.args.items.now in
    let j = c.loop-i.i - 1 in
    let within = c.loop-i.invariant.within in
    let lt : j < length items = omega arith in
    let l = c.loop-i.invariant.list in
    all_two (Holds t) (get_or items j _) c.loop-i.list (All-get_or (Holds t) items j _ lt (holds_still s t items l.grows.stays.adds c.requires)) l.inside

pub loop-i-preserved : goal.loop-i-preserved
loop-i-preserved c =
    let s = c.args.store.now in
    let t = c.loop-i.store in
    let u = c.make_compound.new.self in
    let items = c.args.items.now in
    let ts = map (term_at s) items in
    let j = c.loop-i.i - 1 in
    let within = c.loop-i.invariant.within in
    let lt : j < length items = omega arith in
    let made = c.in_ok-list.ensures in
    record {
      within = omega arith;
      list =
          listed_more s t u ts c.loop-i.i (get_or items j _) c.loop-i.list c.in_ok-list.list (omega arith) (omega (arith, length-map items (term_at s)))
          c.loop-i.invariant.list (All-get_or (Holds s) items j _ lt c.requires) (item_at (term_at s) items j _ (atom []) lt) made.made made.numbers made.adds;
    }
