use Rattle.std.proofs.Common.{ℕ, ◌<◌, ◌+◌, List, Option, length, subst, arith}
use Rattle.pl_model.specs.Terms.{arguments}
use Rattle.term_store.specs.Contents.{Contents}
use Rattle.iso_search.specs.declared.told.Line.{Line}
use Rattle.iso_search.specs.Reading.{reads}
use Rattle.iso_search.specs.Told.{line_answer}
use Rattle.iso_engine.specs.ToldLines.{IsNextTold}
use Rattle.iso_engine.proofs.Arms.{when_some}
use Rattle.iso_engine.proofs.ToldLaws.{several_more, several_none, several_one}
use Rattle.iso_engine.proofs.rows.told.unifies_twice.Goals as goal

pub overflow_add-first : goal.overflow_add-first
overflow_add-first c =
    let lt : c.in-Some.first < length c.deref.result.now =
    when_some (λ k. k < length c.deref.result.now) c.in_ok-first.field-0 c.in-Some.first c.in_ok-first.ensures.within c.in-Some.is in
    omega (arith, lt, c.deref.ensures.len, c.args.lines.now.ok.1, c.args.lines.now.small)

pub returns-in_default-clause-tells : goal.returns-in_default-clause-tells
returns-in_default-clause-tells c v view =
    let f = line_answer v.names in
    let ts = arguments (reads v c.args.store.now c.args.goal) in
    several_none f ts c.args.lines.now.items (subst (λ o. IsNextTold f ts c.args.lines.now.items 0 o) c.in_default.is
    (subst (λ (xs : List Line). IsNextTold f ts xs 0 c.in_ok-first.field-0) c.deref.ensures.value (c.in_ok-first.ensures.found v view)))

pub returns-in-None-clause-tells : goal.returns-in-None-clause-tells
returns-in-None-clause-tells c v view =
    let f = line_answer v.names in
    let ts = arguments (reads v c.args.store.now c.args.goal) in
    let ls = c.args.lines.now.items in
    let k = c.in-Some.first in
    several_one f ts ls k (subst (λ (o : Option ℕ). IsNextTold f ts ls 0 o) c.in-Some.is
    (subst (λ (xs : List Line). IsNextTold f ts xs 0 c.in_ok-first.field-0) c.deref.ensures.value (c.in_ok-first.ensures.found v view)))
    (subst (λ (o : Option ℕ). IsNextTold f ts ls (k + 1) o) c.in-None.is
    (subst (λ (xs : List Line). IsNextTold f ts xs (k + 1) c.in_ok-later.later) c.deref-2.ensures.value
    (subst (λ (y : Contents). IsNextTold f (arguments (reads v y c.args.goal)) c.deref-2.result.now (k + 1) c.in_ok-later.later) c.in_ok-first.ensures.same (c.in_ok-later.ensures.found v view))))

pub returns-in-Some-later-clause-tells : goal.returns-in-Some-later-clause-tells
returns-in-Some-later-clause-tells c v view =
    let f = line_answer v.names in
    let ts = arguments (reads v c.args.store.now c.args.goal) in
    let ls = c.args.lines.now.items in
    let k = c.in-Some.first in
    several_more f ts ls k c.in-Some-later.field-0 (subst (λ (o : Option ℕ). IsNextTold f ts ls 0 o) c.in-Some.is
    (subst (λ (xs : List Line). IsNextTold f ts xs 0 c.in_ok-first.field-0) c.deref.ensures.value (c.in_ok-first.ensures.found v view)))
    (subst (λ (o : Option ℕ). IsNextTold f ts ls (k + 1) o) c.in-Some-later.is
    (subst (λ (xs : List Line). IsNextTold f ts xs (k + 1) c.in_ok-later.later) c.deref-2.ensures.value
    (subst (λ (y : Contents). IsNextTold f (arguments (reads v y c.args.goal)) c.deref-2.result.now (k + 1) c.in_ok-later.later) c.in_ok-first.ensures.same (c.in_ok-later.ensures.found v view))))
