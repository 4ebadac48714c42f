use Rattle.std.proofs.Common.{◌≡◌, ◌<◌, ◌≤◌, zero, suc, ◌+◌, length, map, get_or, refl, sym, subst, ◌∙◌, arith}
use Rattle.std.proofs.lemmas.List.{length-map}
use Rattle.std.proofs.lemmas.List.Elements.{All-weaker}
use Rattle.pl_term.specs.Tree.{count, trees}
use Rattle.pl_model.specs.Terms.{arguments}
use Rattle.term_store.specs.declared.words.Place.{Place}
use Rattle.term_store.specs.declared.words.Word.TheVariants.{Var}
use Rattle.term_store.specs.Contents.{Holds, Unified, term_at}
use Rattle.iso_engine.proofs.Listed.{count_trees}
use Rattle.iso_engine.proofs.Paired.{AreBegun, adds_on, all_unified, as_many, next_begun, next_fails, not_as_many, size_on}
use Rattle.iso_engine.proofs.rows.arguments.unify_arguments.Goals as goal

pub returns-then-argument_count-places-clause-unified :
    goal.returns-then-argument_count-places-clause-unified
returns-then-argument_count-places-clause-unified c =
    let s = c.args.store.now in
    let us = trees (map (term_at s) c.args.places.now) in
    not_as_many (arguments (term_at s c.args.term)) us
    (λ e. c.if-argument_count-places.true
    (c.argument_count.ensures ∙ e ∙ count_trees (map (term_at s) c.args.places.now) ∙ length-map c.args.places.now (term_at s)))

pub argument_at-argument-requires-clause-within : goal.argument_at-argument-requires-clause-within
argument_at-argument-requires-clause-within c =
    let s = c.args.store.now in
    let some : zero < count (arguments (term_at s c.args.term)) = omega (arith, c.argument_count.ensures, c.if-argument_count-places.false, c.loop-i-test.true) in
    let many = as_many c.loop-i.i s c.loop-i.store c.args.term (trees (map (term_at s) c.args.places.now)) c.loop-i.invariant.begun some in
    omega (arith, many, c.argument_count.ensures, c.if-argument_count-places.false, c.loop-i-test.true)

pub returns-then-not-same-clause-unified : goal.returns-then-not-same-clause-unified
returns-then-not-same-clause-unified c =
    let s = c.args.store.now in
    let ps = c.args.places.now in
    let other : Place = record { word = Var 0 } in
    let place = get_or ps c.loop-i.i other in
    let long = sym c.argument_count.ensures ∙ c.if-argument_count-places.false in
    let differ = subst (λ b. Unified b c.loop-i.store c.argument_at-argument.result place c.unify.new.self) c.if-not-same.true c.in_ok-same.ensures.unified in
    next_fails c.loop-i.i s c.loop-i.store c.args.term ps c.argument_at-argument.result place other c.loop-i.invariant.begun long c.loop-i-test.true refl
    c.argument_at-argument.ensures.stands differ.0

pub loop-i-preserved : goal.loop-i-preserved
loop-i-preserved c =
    let s = c.args.store.now in
    let t = c.loop-i.store in
    let u = c.unify.new.self in
    let ps = c.args.places.now in
    let other : Place = record { word = Var 0 } in
    let place = get_or ps c.loop-i.i other in
    let long = sym c.argument_count.ensures ∙ c.if-argument_count-places.false in
    let same = subst (λ b. Unified b t c.argument_at-argument.result place u) c.if-not-same.false c.in_ok-same.ensures.unified in
    let adds = c.in_ok-same.ensures.adds in
    let one : suc c.loop-i.i ≡ c.loop-i.i + 1 = omega arith in
    record {
      term = adds.places c.args.term c.loop-i.invariant.term;
      places = All-weaker (Holds t) (Holds u) adds.places ps c.loop-i.invariant.places;
      adds = adds_on s t u c.loop-i.invariant.adds adds;
      size = size_on s t u c.loop-i.invariant.size c.in_ok-same.ensures.size;
      begun =
          subst (λ k. AreBegun k s (arguments (term_at s c.args.term)) (trees (map (term_at s) ps)) u) one
          (next_begun c.loop-i.i s t c.args.term ps c.argument_at-argument.result place other c.loop-i.invariant.begun long c.loop-i-test.true refl
          c.argument_at-argument.ensures.stands u same);
    }

pub returns-clause-unified : goal.returns-clause-unified
returns-clause-unified c =
    let s = c.args.store.now in
    let ps = c.args.places.now in
    let long = sym c.argument_count.ensures ∙ c.if-argument_count-places.false in
    let past : length ps ≤ c.loop-i.i = omega (arith, c.loop-i-test.false) in
    all_unified c.loop-i.i s (arguments (term_at s c.args.term)) (trees (map (term_at s) ps)) c.loop-i.store c.loop-i.invariant.begun
    (omega (arith, past, long)) (omega (arith, past, count_trees (map (term_at s) ps), length-map ps (term_at s)))
