use Rattle.std.proofs.Common.{◌≡◌, ◌∷◌, [], ◌++◌, drop, length, map, reverse, subst, arith}
use Rattle.std.proofs.lemmas.List.Elements.{All-push, All-same}
use Rattle.term_store.specs.Contents.{Holds, arguments_at, term_at}
use Rattle.world_builtins.proofs.Followed.{how_many_at, none_precede, one_held, one_precedes}
use Rattle.world_builtins.proofs.following.push_arguments.Goals as goal

pub loop-i-init : goal.loop-i-init
loop-i-init c =
    let s = c.args.store.now in
    let a = c.args.arguments in
    record {
      within = omega arith;
      stand = none_precede s (arguments_at s a) c.args.places.now.items c.len-i.result (omega (arith, how_many_at s a c.requires, c.len-i.ensures));
      inside = λ all. all;
      held = λ m each all. all;
    }

pub loop-i-preserved : goal.loop-i-preserved
loop-i-preserved c =
    let s = c.args.store.now in
    let a = c.args.arguments in
    let ts = arguments_at s a in
    let here = c.loop-i.places.items in
    let new = c.push.new.self.items in
    let p = c.argument.result in
    let within = c.loop-i.invariant.within in
    let some = c.loop-i-test.true in
    let long : length ts ≡ a.count = how_many_at s a c.requires in
    record {
      within = omega arith;
      stand =
          one_precedes s ts c.args.places.now.items here new p c.loop-i.i (omega arith) (omega arith) c.loop-i.invariant.stand c.in_ok-push.ensures.items
          c.argument.ensures.stands;
      inside = λ all.
          All-same (Holds s) new (here ++ p ∷ []) c.in_ok-push.ensures.items (All-push (Holds s) here p (c.loop-i.invariant.inside all) c.argument.ensures.holds);
      held = λ m each all.
          one_held m s ts here new p c.loop-i.i (omega arith) (omega arith) each (c.loop-i.invariant.held m each all) c.in_ok-push.ensures.items c.argument.ensures.stands;
    }

pub returns : goal.returns
returns c =
    let s = c.args.store.now in
    let ts = arguments_at s c.args.arguments in
    let over : c.loop-i.i ≡ 0 = omega (arith, c.loop-i-test.false) in
    record {
      stand =
          subst (λ k. map (term_at s) (reverse c.loop-i.places.items) ≡ drop k ts ++ map (term_at s) (reverse c.args.places.now.items)) over c.loop-i.invariant.stand;
      inside = c.loop-i.invariant.inside;
      held = c.loop-i.invariant.held;
    }
