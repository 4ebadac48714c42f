use Rattle.std.proofs.Common.{◌-◌, ◌<◌, length, map, sym, ap, ◌∙◌, arith}
use Rattle.std.proofs.lemmas.List.{at_drop_all}
use Rattle.term_store.specs.Contents.{term_at}
use Rattle.builtin_rows.proofs.Balls.{makes_again, makes_nothing, makes_one, two_places}
use Rattle.builtin_rows.specs.Lists.{cells_of}
use Rattle.builtin_rows.proofs.Listing.{cell_made}
use Rattle.builtin_rows.proofs.lists.make_list.Goals as goal

pub loop-i-init : goal.loop-i-init
loop-i-init c =
    let s = c.args.store.now in
    let xs = c.args.items.now in
    record {
      within = omega arith;
      makes = makes_nothing s;
      inside = (c.atom-tail.ensures s).0;
      means =
          (c.atom-tail.ensures s).1
          ∙ sym (ap (λ ys. cells_of (map (term_at s) ys)) (at_drop_all (λ ys. ys) xs (length xs) (omega arith)));
    }

pub make_compound-requires-clause-places : goal.make_compound-requires-clause-places
make_compound-requires-clause-places c =
    let i = c.loop-i.invariant in
    two_places c.loop-i.store _ c.loop-i.tail (i.makes.adds.places _ (c.requires (c.loop-i.i - 1) _ (omega (arith, i.within, c.loop-i-test.true)))) i.inside

pub loop-i-preserved : goal.loop-i-preserved
loop-i-preserved c =
    let s = c.args.store.now in
    let t = c.loop-i.store in
    let u = c.make_compound.new.self in
    let xs = c.args.items.now in
    let i = c.loop-i.invariant in
    let made = c.in_ok-tail.ensures in
    let within : c.loop-i.i - 1 < length xs = omega (arith, i.within, c.loop-i-test.true) in
    record {
      within = omega arith;
      makes = makes_again 0 s t u i.makes (makes_one t u _ c.in_ok-tail.tail made.made made.numbers made.adds);
      inside = made.made.holds;
      means =
          cell_made s t u xs c.loop-i.i _ c.loop-i.tail c.in_ok-tail.tail c.loop-i-test.true within i.means
          (i.makes.others _ (c.requires (c.loop-i.i - 1) _ within)) made.made.means;
    }
