use Rattle.std.proofs.Common.{◌≡◌, ℕ, ◌<◌, ◌+◌, List, ◌∷◌, length, Option, refl, sym, ap, subst, ◌∙◌, arith}
use Rattle.pl_model.specs.Predicates.{proc_of}
use Rattle.pl_model.specs.Terms.{arguments}
use Rattle.term_store.specs.Contents.{Contents}
use Rattle.iso_search.specs.declared.search.Search.{Search}
use Rattle.iso_search.specs.declared.told.Line.{Line}
use Rattle.iso_search.specs.Outcomes.{result_in}
use Rattle.iso_search.specs.Reading.{reads}
use Rattle.iso_search.specs.Searching.{choices_of, node_of}
use Rattle.iso_search.specs.Told.{line_answer, told_from}
use Rattle.iso_search.proofs.After.{after_behind, keeps_choices}
use Rattle.iso_engine.specs.ToldLines.{IsNextTold}
use Rattle.iso_engine.proofs.Arms.{when_some}
use Rattle.iso_engine.proofs.ToldLaws.{told_last, told_more, told_none, tried_same, with_store}
use Rattle.iso_engine.proofs.rows.told.next_told.Goals as goal

pub overflow_add-first : goal.overflow_add-first
overflow_add-first c =
    let lt : c.in-Some.first < length c.deref.result.now =
    when_some (λ k. k < length c.deref.result.now) c.in_ok-first.field-0 c.in-Some.first c.in_ok-first.ensures.within c.in-Some.is in
    omega (arith, lt, c.deref.ensures.len, c.args.lines.ok.1, c.args.lines.small)

pub index-told-requires : goal.index-told-requires
index-told-requires c =
    let lt : c.in-Some.first < length c.deref.result.now =
    when_some (λ k. k < length c.deref.result.now) c.in_ok-first.field-0 c.in-Some.first c.in_ok-first.ensures.within c.in-Some.is in
    omega (arith, lt, c.deref.ensures.len)

pub returns-in_default-clause-step : goal.returns-in_default-clause-step
returns-in_default-clause-step c t view =
    let e = c.args.search.now in
    let f = line_answer t.view.names in
    let ts = arguments (reads t.view e.store c.args.goal) in
    let found = subst (λ (ls : List Line). IsNextTold f ts ls c.args.line c.in_ok-first.field-0) c.deref.ensures.value (c.in_ok-first.ensures.found t.view view) in
    told_none t e c.args.goal c.args.lines.items c.args.line c.args.rest (subst (λ o. IsNextTold f ts c.args.lines.items c.args.line o) c.in_default.is found) _ refl _
    (with_store e c.next_unifying.new.store c.in_ok-first.ensures.same)

pub returns-in_ok-outcome-in-None-clause-step : goal.returns-in_ok-outcome-in-None-clause-step
returns-in_ok-outcome-in-None-clause-step c t view =
    let e = c.args.search.now in
    let f = line_answer t.view.names in
    let ts = arguments (reads t.view e.store c.args.goal) in
    let ls = c.args.lines.items in
    let k = c.in-Some.first in
    let told = c.index-told.result.now in
    let first = subst (λ (o : Option ℕ). IsNextTold f ts ls c.args.line o) c.in-Some.is
    (subst (λ (xs : List Line). IsNextTold f ts xs c.args.line c.in_ok-first.field-0) c.deref.ensures.value (c.in_ok-first.ensures.found t.view view)) in
    let ends = subst (λ (o : Option ℕ). IsNextTold f ts ls (k + 1) o) c.in-None.is
    (subst (λ (xs : List Line). IsNextTold f ts xs (k + 1) c.in_ok-later.later) c.deref-2.ensures.value
    (subst (λ (y : Contents). IsNextTold f (arguments (reads t.view y c.args.goal)) c.deref-2.result.now (k + 1) c.in_ok-later.later) c.in_ok-first.ensures.same
    (c.in_ok-later.ensures.found t.view view))) in
    let o = c.in_ok-outcome-in-None in
    let x : Search = record e { store = c.next_unifying-2.new.store } in
    told_last t e c.args.goal ls c.args.line c.args.rest k told c.index-told.ensures first ends _
    (tried_same t e x c.try_told.new.search c.args.goal told c.args.rest o.outcome (with_store e c.next_unifying-2.new.store (c.in_ok-later.ensures.same ∙ c.in_ok-first.ensures.same))
    o.ensures.step view)

pub returns-in_ok-outcome-in-Some-later-clause-after : goal.returns-in_ok-outcome-in-Some-later-clause-after
returns-in_ok-outcome-in-Some-later-clause-after c =
    let e = c.args.search.now in
    let x : Search = record e { store = c.next_unifying-2.new.store } in
    let d = c.push_choice.new.self in
    let pushed = c.in_ok-push_choice-in-Some-later.ensures in
    let same = with_store e c.next_unifying-2.new.store (c.in_ok-later.ensures.same ∙ c.in_ok-first.ensures.same) in
    let kept : (let y : Search = record e { choices = d.choices } in d ≡ y) = pushed.kept ∙ ap (λ (y : Search). let z : Search = record y { choices = d.choices } in z) same in
    let frames : length d.frames.items ≡ length e.frames.items = ap (λ (y : Search). length y.frames.items) kept in
    after_behind e d c.try_told-in-Some-later.new.search c.in_ok-outcome-in-Some-later.outcome (omega (arith, frames)) (ap (λ (y : Search). y.budgets) kept)
    (keeps_choices e d kept) c.in_ok-outcome-in-Some-later.ensures.after

pub returns-in_ok-outcome-in-Some-later-clause-step : goal.returns-in_ok-outcome-in-Some-later-clause-step
returns-in_ok-outcome-in-Some-later-clause-step c t view =
    let e = c.args.search.now in
    let f = line_answer t.view.names in
    let ts = arguments (reads t.view e.store c.args.goal) in
    let ls = c.args.lines.items in
    let k = c.in-Some.first in
    let told = c.index-told.result.now in
    let first = subst (λ (o : Option ℕ). IsNextTold f ts ls c.args.line o) c.in-Some.is
    (subst (λ (xs : List Line). IsNextTold f ts xs c.args.line c.in_ok-first.field-0) c.deref.ensures.value (c.in_ok-first.ensures.found t.view view)) in
    let later = subst (λ (o : Option ℕ). IsNextTold f ts ls (k + 1) o) c.in-Some-later.is
    (subst (λ (xs : List Line). IsNextTold f ts xs (k + 1) c.in_ok-later.later) c.deref-2.ensures.value
    (subst (λ (y : Contents). IsNextTold f (arguments (reads t.view y c.args.goal)) c.deref-2.result.now (k + 1) c.in_ok-later.later) c.in_ok-first.ensures.same
    (c.in_ok-later.ensures.found t.view view))) in
    let o = c.in_ok-outcome-in-Some-later in
    let d = c.push_choice.new.self in
    let pushed = c.in_ok-push_choice-in-Some-later.ensures in
    let same = with_store e c.next_unifying-2.new.store (c.in_ok-later.ensures.same ∙ c.in_ok-first.ensures.same) in
    let kept : (let y : Search = record e { choices = d.choices } in d ≡ y) = pushed.kept ∙ ap (λ (y : Search). let z : Search = record y { choices = d.choices } in z) same in
    let choices =
    subst (λ (y : Search). choices_of t.view d ≡ told_from t.view.names (reads t.view y.store c.args.goal) ls c.in-Some-later.line (node_of t.view y c.args.rest) ∷ choices_of t.view y) same
    (pushed.choices t.view) in
    let run = c.try_told-in-Some-later.new.search in
    let there = sym (ap (λ (y : Search). result_in t run (node_of t.view y c.args.rest) (proc_of (reads t.view y.store c.args.goal)) o.outcome) kept) in
    told_more t e c.args.goal ls c.args.line c.args.rest k told c.index-told.ensures first c.in-Some-later.line later d kept choices _
    (there ∙ o.ensures.step t (proc_of (reads t.view d.store c.args.goal)) view)
