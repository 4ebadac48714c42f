use Rattle.std.proofs.Common.{◌≡◌, ◌≤◌, length, refl, subst, sym}
use Rattle.pl_model.specs.Control.{first_answer, next_answer}
use Rattle.pl_model.specs.Predicates.{proc_of}
use Rattle.pl_model.specs.Terms.{arguments}
use Rattle.term_store.specs.Contents.{Holds}
use Rattle.iso_search.specs.declared.outcome.Fault.TheVariants.{Choices}
use Rattle.iso_search.specs.declared.outcome.Outcome.TheVariants.{Raise}
use Rattle.iso_search.specs.declared.search.Search.{Search}
use Rattle.iso_search.specs.Outcomes.{IsAfter, limits_in, result_in, state_in}
use Rattle.iso_search.specs.Reading.{reads}
use Rattle.iso_search.specs.Searching.{IsWhole, node_of}
use Rattle.iso_search.specs.Told.{told_answers}
use Rattle.iso_search.proofs.After.{full}
use Rattle.iso_engine.proofs.ToldLaws.{told_full, told_room}
use Rattle.iso_engine.proofs.rows.told.first_told.Goals as goal

pub next_told-requires-clause-whole : goal.next_told-requires-clause-whole
next_told-requires-clause-whole c = subst IsWhole (sym c.in_ok-full.ensures.same) c.requires.whole

pub next_told-requires-clause-goal : goal.next_told-requires-clause-goal
next_told-requires-clause-goal c = subst (λ (y : Search). Holds y.store c.args.goal) (sym c.in_ok-full.ensures.same) c.requires.goal

pub next_told-requires-clause-rest : goal.next_told-requires-clause-rest
next_told-requires-clause-rest c = subst (λ (y : Search). c.args.rest ≤ length y.frames.items) (sym c.in_ok-full.ensures.same) c.requires.rest

pub returns-then-full-clause-whole : goal.returns-then-full-clause-whole
returns-then-full-clause-whole c = subst IsWhole (sym c.in_ok-full.ensures.same) c.requires.whole

pub returns-then-full-clause-after : goal.returns-then-full-clause-after
returns-then-full-clause-after c =
    let e = c.args.search.now in
    subst (λ (y : Search). IsAfter e y (Raise Choices)) (sym c.in_ok-full.ensures.same) (full e e refl)

pub returns-then-full-clause-step : goal.returns-then-full-clause-step
returns-then-full-clause-step c t view =
    let e = c.args.search.now in
    let g = reads t.view e.store c.args.goal in
    let n = node_of t.view e c.args.rest in
    let xs = told_answers t.view.names g c.args.lines.items 0 in
    let tells = c.in_ok-full.ensures.tells t.view view in
    subst (λ (y : Search). result_in t y n (proc_of g) (Raise Choices) ≡ first_answer (limits_in t e) (state_in t e) n (proc_of g) (arguments g) xs) (sym c.in_ok-full.ensures.same)
    (told_full t e n (proc_of g) (arguments g) xs c.in_ok-full.full tells c.if-full.true)

pub returns-in_ok-outcome-clause-step : goal.returns-in_ok-outcome-clause-step
returns-in_ok-outcome-clause-step c t view =
    let e = c.args.search.now in
    let g = reads t.view e.store c.args.goal in
    let n = node_of t.view e c.args.rest in
    let xs = told_answers t.view.names g c.args.lines.items 0 in
    let f = c.next_told.new.search in
    let o = c.in_ok-outcome.outcome in
    let tells = c.in_ok-full.ensures.tells t.view view in
    told_room t e n (proc_of g) (arguments g) xs c.in_ok-full.full tells c.if-full.false (result_in t f n (proc_of g) o)
    (subst (λ (y : Search). let h = reads t.view y.store c.args.goal in result_in t f (node_of t.view y c.args.rest) (proc_of h) o
    ≡ next_answer (limits_in t y) (state_in t y) (node_of t.view y c.args.rest) (proc_of h) (arguments h) (told_answers t.view.names h c.args.lines.items 0)) c.in_ok-full.ensures.same
    (c.in_ok-outcome.ensures.step t view))
