use Rattle.std.proofs.Common.{zero, map, refl, ap, ◌∙◌}
use Rattle.pl_term.specs.Tree.{var}
use Rattle.term_store.specs.Contents.{Contents, upwards}
use Rattle.iso_search.specs.declared.search.Search.{Search}
use Rattle.iso_search.specs.Outcomes.{Setting}
use Rattle.pl_model.specs.Resolution.{failing}
use Rattle.std.specs.Prelude.{[], None, false}
use Rattle.iso_engine.specs.declared.engine.Engine.{Engine}
use Rattle.iso_engine.specs.Standing.{staying}
use Rattle.iso_engine.proofs.Fresh.{started_ready}
use Rattle.iso_engine.proofs.Beginning.{starts_as, when_match}
use Rattle.iso_engine.proofs.engine.Engine.new.Goals as goal

pub returns-clause-starts : goal.returns-clause-starts
returns-clause-starts c v view =
    let s = c.build.new.self in
    let e : Search = record {
      store = s;
      frames = c.new-2.result;
      choices = c.new-3.result;
      answer = c.in_ok-answer.answer;
      next_variable = c.variables-count.result;
      inferences = 0;
      budgets = c.args.budgets;
    } in
    let b = c.in_ok-begun.ensures in
    let built = c.in_ok-place.ensures.built in
    let t : Setting = record { view = v; solutions = 0; stays = None; doing = failing; output = [] } in
    starts_as v view e c.begin.new.search c.in_ok-doing.doing c.in_ok-begun.begun c.procedure_at-procedure.result c.in_ok-place.place c.cells-need.result
    c.args.solutions (staying c.args.stays) c.args.goal.now
    c.new-3.ensures.items
    c.variables-count.ensures
    refl
    (built.used ∙ ap (λ (x : Contents). x.used) c.in_ok-store.ensures)
    (c.in_ok-answer.ensures.stands ∙ ap (λ k. map var (upwards zero k)) c.variables-count.ensures)
    c.nodes-numbered.ensures.numbered
    (built.means ∙ c.nodes-numbered.ensures.numbered)
    c.cells-need.ensures
    b.budgets
    c.in_ok-doing.ensures.named
    (λ k is. (when_match _ _ _ _ c.procedure_at-procedure.ensures is).0 t view)
    (b.kind v view)
    b.step
    c.in_ok-doing.ensures.doing

pub returns-clause-ready : goal.returns-clause-ready
returns-clause-ready c m t view held =
    let e : Engine = record {
      search = c.begin.new.search;
      doing = c.in_ok-doing.doing;
      solution_limit = c.args.solutions;
      solutions_found = 0;
      stays = c.args.stays;
      out_of_memory = false;
      alloc = c.args.alloc;
    } in
    started_ready e c.args.goal.now c.in_ok-begun.ensures.whole (λ v there. returns-clause-starts c v there) m t view held
