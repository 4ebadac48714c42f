use Rattle.std.proofs.Common.{◌≡◌, ◌+◌, ◌-◌, zero, length, reverse, refl, sym, ap, subst, ◌∙◌, arith}
use Rattle.pl_term.specs.Cells.{cells}
use Rattle.pl_term.specs.Variables.{rename, variables}
use Rattle.pl_model.specs.Control.{findall_proc, with_copy}
use Rattle.term_store.specs.Contents.{term_at}
use Rattle.iso_search.specs.declared.copies.Copied.{Copied}
use Rattle.iso_search.specs.declared.outcome.Fault.TheVariants.{Cells}
use Rattle.iso_search.specs.declared.outcome.Outcome.TheVariants.{Raise}
use Rattle.iso_search.specs.declared.search.Search.{Search}
use Rattle.iso_search.specs.Collecting.{IsJoined}
use Rattle.iso_search.specs.Outcomes.{result_in}
use Rattle.iso_search.specs.Reading.{reads}
use Rattle.iso_search.specs.Searching.{choices_of, node_of}
use Rattle.iso_search.proofs.Budgets.{with_budget}
use Rattle.term_store.proofs.Renumbering.{length-variables_renamed}
use Rattle.iso_search.proofs.Copying.{cells-kept}
use Rattle.iso_search.proofs.Finding.{cells_saved, collect_done, collect_no_number, collect_no_room, count_saved, kept_copy}
use Rattle.iso_search.proofs.Joining.{all_countable, choices_put, choices_unjoined, whole_joined, whole_unjoined}
use Rattle.iso_search.proofs.Wholes.{some_view}
use Rattle.iso_search.proofs.search.Search.collect.Goals as goal

pub returns-then-count-self-clause-step : goal.returns-then-count-self-clause-step
returns-then-count-self-clause-step c t rest view =
    let e = c.args.self.now in
    let v = t.view in
    let tree = term_at e.store c.args.template in
    collect_no_number t e e rest (reads v e.store c.args.template) c.args.height c.variables-count.result c.cells-cells.result c.requires.whole
    (c.variables-count.ensures ∙ count_saved v tree c.in_ok-term.term c.in_ok-term.ensures)
    (c.cells-cells.ensures ∙ cells_saved v tree c.in_ok-term.term c.in_ok-term.ensures)
    (omega (arith, c.if-count-self.true))

pub returns-in-Err-clause-step : goal.returns-in-Err-clause-step
returns-in-Err-clause-step c t rest view =
    let e = c.args.self.now in
    let v = t.view in
    let tree = term_at e.store c.args.template in
    ap (λ s. let x : Search = record e { store = s } in result_in t x (node_of v e rest) findall_proc (Raise Cells)) c.in-Err.ensures.kept
    ∙ collect_no_room t e e rest (reads v e.store c.args.template) c.args.height c.variables-count.result c.cells-cells.result c.requires.whole
    (c.variables-count.ensures ∙ count_saved v tree c.in_ok-term.term c.in_ok-term.ensures)
    (c.cells-cells.ensures ∙ cells_saved v tree c.in_ok-term.term c.in_ok-term.ensures)
    (omega (arith, c.if-count-self.false)) c.in-Err.ensures.over

pub join-requires : goal.join-requires
join-requires c =
    let e = c.args.self.now in
    all_countable e (cells c.in_ok-term.term) c.requires.whole (omega (arith, c.in-Ok.ensures.fits, c.cells-cells.ensures)) (omega arith)

pub release-requires : goal.release-requires
release-requires c =
    let counted = c.requires.whole.budget some_view in
    let left = ap (λ s. s.budget) c.in-Ok.ensures.ok in
    omega (arith, left, counted, c.in-Ok.ensures.fits)

pub returns-then-not-joined-clause-whole : goal.returns-then-not-joined-clause-whole
returns-then-not-joined-clause-whole c =
    let e = c.args.self.now in
    let n = c.variables-count.result in
    let d : Search = record e { store = c.release.new.self; choices = c.join.new.choices; next_variable = e.next_variable + n } in
    let copy : Copied = record { term = c.in_ok-term.term; from = e.next_variable } in
    let j = subst (λ q. IsJoined q copy c.args.height (reverse e.choices.items) (reverse d.choices.items)) c.if-not-joined.true c.in_ok-joined-in-Ok.ensures in
    let back : e.store.budget - c.cells-cells.result + c.cells-cells.result ≡ e.store.budget = omega (arith, c.in-Ok.ensures.fits) in
    let stored = c.release.ensures ∙ ap (λ s. with_budget s (s.budget + c.cells-cells.result)) c.in-Ok.ensures.ok ∙ ap (with_budget e.store) back in
    whole_unjoined e d c.args.height (e.next_variable + n) c.requires.whole j.0 j.1 (omega arith)
    (ap (λ s. let x : Search = record e { store = s; choices = c.join.new.choices; next_variable = e.next_variable + n } in x) stored)

pub returns-then-not-joined-clause-step : goal.returns-then-not-joined-clause-step
returns-then-not-joined-clause-step c t rest view =
    let e = c.args.self.now in
    let v = t.view in
    let n = c.variables-count.result in
    let tree = term_at e.store c.args.template in
    let u = reads v e.store c.args.template in
    let d : Search = record e { store = c.release.new.self; choices = c.join.new.choices; next_variable = e.next_variable + n } in
    let copy : Copied = record { term = c.in_ok-term.term; from = e.next_variable } in
    let j = subst (λ q. IsJoined q copy c.args.height (reverse e.choices.items) (reverse d.choices.items)) c.if-not-joined.true c.in_ok-joined-in-Ok.ensures in
    let back : e.store.budget - c.cells-cells.result + c.cells-cells.result ≡ e.store.budget = omega (arith, c.in-Ok.ensures.fits) in
    let stored = c.release.ensures ∙ ap (λ s. with_budget s (s.budget + c.cells-cells.result)) c.in-Ok.ensures.ok ∙ ap (with_budget e.store) back in
    let kept = ap (λ s. let x : Search = record e { store = s; choices = c.join.new.choices; next_variable = e.next_variable + n } in x) stored in
    collect_done t e d rest u c.args.height n c.cells-cells.result c.requires.whole
    (c.variables-count.ensures ∙ count_saved v tree c.in_ok-term.term c.in_ok-term.ensures)
    (c.cells-cells.ensures ∙ cells_saved v tree c.in_ok-term.term c.in_ok-term.ensures)
    (omega (arith, c.if-count-self.false)) c.in-Ok.ensures.fits
    (choices_unjoined e d c.args.height (e.next_variable + n) c.requires.whole j.0 j.1 (omega arith) kept v (rename e.next_variable u)) refl refl

pub returns-else-not-joined-clause-whole : goal.returns-else-not-joined-clause-whole
returns-else-not-joined-clause-whole c =
    let e = c.args.self.now in
    let n = c.variables-count.result in
    let d : Search = record e { store = c.reserve.new.self; choices = c.join.new.choices; next_variable = e.next_variable + n } in
    let copy : Copied = record { term = c.in_ok-term.term; from = e.next_variable } in
    let j = subst (λ q. IsJoined q copy c.args.height (reverse e.choices.items) (reverse d.choices.items)) c.if-not-joined.false c.in_ok-joined-in-Ok.ensures in
    let stored = c.in-Ok.ensures.ok ∙ ap (λ k. with_budget e.store (e.store.budget - k)) c.cells-cells.ensures in
    whole_joined e d copy c.args.height (e.next_variable + n) c.requires.whole j refl (omega (arith, c.variables-count.ensures))
    (omega (arith, c.in-Ok.ensures.fits, c.cells-cells.ensures))
    (ap (λ s. let x : Search = record e { store = s; choices = c.join.new.choices; next_variable = e.next_variable + n } in x) stored)

pub returns-else-not-joined-clause-step : goal.returns-else-not-joined-clause-step
returns-else-not-joined-clause-step c t rest view =
    let e = c.args.self.now in
    let v = t.view in
    let n = c.variables-count.result in
    let tree = term_at e.store c.args.template in
    let u = reads v e.store c.args.template in
    let d : Search = record e { store = c.reserve.new.self; choices = c.join.new.choices; next_variable = e.next_variable + n } in
    let copy : Copied = record { term = c.in_ok-term.term; from = e.next_variable } in
    let j = subst (λ q. IsJoined q copy c.args.height (reverse e.choices.items) (reverse d.choices.items)) c.if-not-joined.false c.in_ok-joined-in-Ok.ensures in
    let stored = c.in-Ok.ensures.ok ∙ ap (λ k. with_budget e.store (e.store.budget - k)) c.cells-cells.ensures in
    let kept = ap (λ s. let x : Search = record e { store = s; choices = c.join.new.choices; next_variable = e.next_variable + n } in x) stored in
    collect_done t e d rest u c.args.height n c.cells-cells.result c.requires.whole
    (c.variables-count.ensures ∙ count_saved v tree c.in_ok-term.term c.in_ok-term.ensures)
    (c.cells-cells.ensures ∙ cells_saved v tree c.in_ok-term.term c.in_ok-term.ensures)
    (omega (arith, c.if-count-self.false)) c.in-Ok.ensures.fits
    (choices_put e d copy c.args.height (e.next_variable + n) c.requires.whole j refl (omega (arith, c.variables-count.ensures))
    (omega (arith, c.in-Ok.ensures.fits, c.cells-cells.ensures)) kept v
    ∙ ap (λ x. with_copy x c.args.height (choices_of v e)) (kept_copy v tree c.in_ok-term.term e.next_variable c.in_ok-term.ensures))
    refl refl

pub returns-then-too_large-clause-step : goal.returns-then-too_large-clause-step
returns-then-too_large-clause-step c t rest view =
    let e = c.args.self.now in
    let v = t.view in
    let tree = term_at e.store c.args.template in
    let u = reads v e.store c.args.template in
    let large = c.in_ok-too_large.ensures in
    let room = large.numbers c.if-too_large.true in
    let over = large.cells c.if-too_large.true in
    let counted = c.requires.whole.budget some_view in
    let count = sym (count_saved v tree (rename zero tree) refl) ∙ length-variables_renamed tree in
    let size = sym (cells_saved v tree (rename zero tree) refl) ∙ cells-kept tree in
    collect_no_room t e e rest u c.args.height (length (variables tree)) (cells tree) c.requires.whole (sym count) (sym size) room
    (omega (arith, over, counted))
