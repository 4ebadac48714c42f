use Rattle.std.proofs.Common.{◌+◌, ◌<◌, ◌^◌, length, refl, ap, ◌∙◌, arith}
use Rattle.pl_term.specs.Cells.{cells}
use Rattle.pl_model.specs.Terms.{variable_count}
use Rattle.iso_search.specs.Spelling.{spelled, text_of}
use Rattle.iso_search.proofs.Charging.{ball_too_large}
use Rattle.iso_search.proofs.Copying.{cells-spelled, variables-spelled}
use Rattle.iso_search.proofs.Recoveries.{copy_kept}
use Rattle.iso_search.proofs.search.Search.take_ball.Goals as goal

pub returns-then-is_ball_too_large-clause-taken : goal.returns-then-is_ball_too_large-clause-taken
returns-then-is_ball_too_large-clause-taken c =
    let e = c.args.self.now in
    let large = c.is_ball_too_large.ensures.cells c.if-is_ball_too_large.true in
    let few = c.is_ball_too_large.ensures.numbers c.if-is_ball_too_large.true in
    record {
      budget = tt;
      same = refl;
      fits = λ t list.
          let g = text_of t.view.names in
          let ball = spelled g c.args.ball.now in
          let counted = c.requires.whole.budget t.view in
          let room : e.next_variable + variable_count ball < 2 ^ 64 = omega (arith, few, ap length (variables-spelled g c.args.ball.now)) in
          let over : e.store.budget < e.store.used + cells ball = omega (arith, large, counted, cells-spelled g c.args.ball.now) in
          ball_too_large t e list ball (variable_count ball) (cells ball) c.requires.whole refl refl room over;
    }

pub returns-in-None-clause-taken : goal.returns-in-None-clause-taken
returns-in-None-clause-taken c =
    let took = c.in-None.ensures in
    record {
      copy = c.in_ok-kept.ensures;
      same = took.kept;
      choices = took.choices;
      next = took.taken ∙ ap (λ n. c.args.self.now.next_variable + n) c.variables.ensures;
      used = took.used ∙ ap (λ n. c.args.self.now.store.used + n) c.cells.ensures;
      fits = λ t list.
          took.fits t list (spelled (text_of t.view.names) c.args.ball.now)
          (copy_kept t.view c.in_ok-kept.kept c.args.ball.now c.variables.result c.cells.result c.in_ok-kept.ensures c.variables.ensures c.cells.ensures);
    }

pub returns-in-Some-clause-taken : goal.returns-in-Some-clause-taken
returns-in-Some-clause-taken c =
    let took = c.in-Some.ensures in
    record {
      budget = took.budgets;
      same = took.refused;
      fits = λ t list.
          took.fits t list (spelled (text_of t.view.names) c.args.ball.now)
          (copy_kept t.view c.in_ok-kept.kept c.args.ball.now c.variables.result c.cells.result c.in_ok-kept.ensures c.variables.ensures c.cells.ensures);
    }
