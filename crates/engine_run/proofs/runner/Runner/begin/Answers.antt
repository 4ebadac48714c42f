use Rattle.std.proofs.Common.{refl, sym, subst}
use Rattle.std.specs.Prelude.{ℕ}
use Rattle.term_store.proofs.KeptTerms.{stored_names}
use Rattle.iso_engine.specs.Starting.{IsFresh}
use Rattle.engine_run.specs.declared.runner.Stage.{Stage}
use Rattle.engine_run.specs.Runners.{HasBegun}
use Rattle.engine_run.proofs.runner.Runner.begin.Goals as goal

pub returns : goal.returns
returns g c =
    let e = c.in_ok-engine.engine in
    record {
      begun =
          subst (λ (s : Stage). HasBegun c.args.goal.now c.args.directive c.args.self.now (record c.args.self.now { stage = s })) (sym c.stage_at.ensures)
          (record {
            engine = e;
            fresh = subst (λ (w : ℕ). IsFresh c.args.self.now.budgets w c.args.self.now.stays e) c.wanted_in-wanted.ensures c.in_ok-engine.ensures.fresh;
            ready = c.in_ok-engine.ensures.ready;
            starts = c.in_ok-engine.ensures.starts;
            numbered = stored_names c.args.goal.now c.nodes-nodes.result.now c.nodes-nodes.ensures.spelled;
            is = refl;
          });
    }
