use Rattle.std.proofs.Common.{◌≡◌, zero, length, map, sym, ap, subst, ◌∙◌, arith}
use Rattle.pl_term.specs.Cells.{cells}
use Rattle.pl_model.specs.Resolution.{Node, State}
use Rattle.pl_model.specs.Control.{findall_proc, taking, unified}
use Rattle.pl_model.specs.Terms.{list_term}
use Rattle.pl_model.specs.Unify.{unify}
use Rattle.term_store.specs.Contents.{Holds}
use Rattle.iso_search.specs.declared.search.Search.{Search}
use Rattle.iso_search.specs.Collecting.{copies_of, copy_over}
use Rattle.iso_search.specs.Lists.{listed}
use Rattle.iso_search.specs.Outcomes.{limits_in, state_in}
use Rattle.iso_search.specs.Reading.{reads}
use Rattle.iso_search.specs.Searching.{node_of}
use Rattle.iso_search.proofs.After.{after_behind, after_grown}
use Rattle.iso_search.proofs.Finding.{list_given, list_too_large}
use Rattle.iso_search.proofs.ListCells.{list_cells}
use Rattle.iso_search.proofs.search.Search.give_list.Goals as goal

pub returns-in_default-clause-step : goal.returns-in_default-clause-step
returns-in_default-clause-step c t view =
    let e = c.args.self.now in
    let v = t.view in
    let cs = c.args.found.copies.items in
    let many = list_cells v zero cs e.next_variable c.requires.rise in
    let counted = c.requires.found.counted in
    list_too_large t e (node_of v e c.args.rest) (reads v e.store c.args.list) (copies_of v c.args.found) (omega arith)
    (omega (arith, many, counted, c.in_default.ensures))

pub returns-in-Some-take-clause-step : goal.returns-in-Some-take-clause-step
returns-in-Some-take-clause-step c t view =
    let e = c.args.self.now in
    let v = t.view in
    let n = node_of v e c.args.rest in
    let list = reads v e.store c.args.list in
    let ts = copies_of v c.args.found in
    let next : State → Node → State = λ s m. unified s m (unify list (list_term ts)) in
    let many = list_cells v zero c.args.found.copies.items e.next_variable c.requires.rise in
    let counted = c.requires.found.counted in
    let need : c.in-Some.need ≡ cells (list_term ts) = omega (arith, many, counted, c.in-Some.ensures) in
    c.in-Some-take.ensures.step t c.args.rest findall_proc next
    ∙ ap (λ k. taking (limits_in t e) (state_in t e) n findall_proc 0 k next) need

pub unify-requires-clause-left : goal.unify-requires-clause-left
unify-requires-clause-left c =
    let e = c.args.self.now in
    let d = c.take.new.self in
    c.in_ok-made-in-None.ensures.built.stays.adds.places c.args.list
    (subst (λ (x : Search). Holds x.store c.args.list) (sym c.in-None.ensures.kept) c.requires.list)

pub returns-clause-after : goal.returns-clause-after
returns-clause-after c =
    let e = c.args.self.now in
    let d = c.take.new.self in
    let f = c.build_list.new.self in
    let g = c.unify.new.self in
    let o = c.in_ok-outcome-in-None.outcome in
    let kept = c.in-None.ensures.kept in
    let same : length d.frames.items ≡ length e.frames.items = ap (λ (x : Search). length x.frames.items) kept in
    after_behind e d g o (omega (arith, same)) (ap (λ (x : Search). x.budgets) kept) (λ v j le. ap (λ (x : Search). (node_of v x j).goals) kept)
    (after_grown d f g o c.in_ok-made-in-None.ensures.built.stays c.in-None.ensures.whole c.in_ok-made-in-None.ensures.kept c.in_ok-outcome-in-None.ensures.after)

pub returns-clause-step : goal.returns-clause-step
returns-clause-step c t view =
    let e = c.args.self.now in
    let v = t.view in
    let d = c.take.new.self in
    let f = c.build_list.new.self in
    let g = c.unify.new.self in
    let built = c.in_ok-made-in-None.ensures.built in
    let many = list_cells v zero c.args.found.copies.items e.next_variable c.requires.rise in
    let counted = c.requires.found.counted in
    let need : c.in-Some.need ≡ cells (list_term (copies_of v c.args.found)) = omega (arith, many, counted, c.in-Some.ensures) in
    list_given t view e d f g c.args.list c.in_ok-made-in-None.made c.args.found c.args.rest c.in_ok-outcome-in-None.outcome
    c.in-None.ensures.kept c.in-None.ensures.whole built.stays c.in_ok-made-in-None.ensures.kept
    (subst (λ (x : Search). Holds x.store c.args.list) (sym c.in-None.ensures.kept) c.requires.list)
    (built.means ∙ ap (λ cs. listed (map copy_over cs)) c.deref.ensures.value) c.in-Some.need need (c.in-None.ensures.step t) (c.in_ok-outcome-in-None.ensures.step t findall_proc view)
