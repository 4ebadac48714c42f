use Rattle.std.proofs.Common.{sym, ap, ◌∙◌}
use Rattle.pl_model.specs.Predicates.{proc_of}
use Rattle.pl_model.specs.Resolution.{goes}
use Rattle.pl_model.specs.Control.{take_up}
use Rattle.iso_search.specs.Constructs.{construction}
use Rattle.iso_search.specs.Outcomes.{limits_in, state_in}
use Rattle.iso_search.specs.Reading.{reads}
use Rattle.iso_search.specs.Searching.{node_of}
use Rattle.iso_search.proofs.Others.{left_over}
use Rattle.iso_search.proofs.Taking.{conjoined, counted_or_none, cut_made, disjoined, on_condition, on_condition_or, succeeded}
use Rattle.iso_search.proofs.search.Search.take_up.Goals as goal

pub returns-in-Succeeds-clause-step : goal.returns-in-Succeeds-clause-step
returns-in-Succeeds-clause-step c t view =
    let e = c.args.self.now in
    succeeded (limits_in t e) (state_in t e) (node_of t.view e c.args.rest) (reads t.view e.store c.args.goal) c.args.cut
    ∙ sym (ap (λ k. take_up (limits_in t e) (state_in t e) (node_of t.view e c.args.rest) (reads t.view e.store c.args.goal) c.args.cut (construction t.view e.store k)) c.in-Succeeds.is)

pub returns-in-Cuts-clause-step : goal.returns-in-Cuts-clause-step
returns-in-Cuts-clause-step c t view =
    let e = c.args.self.now in
    cut_made t e c.cut_to.new.self (reads t.view e.store c.args.goal) c.args.cut c.args.rest (c.cut_to.ensures.choices t.view) c.cut_to.ensures.kept
    ∙ sym (ap (λ k. take_up (limits_in t e) (state_in t e) (node_of t.view e c.args.rest) (reads t.view e.store c.args.goal) c.args.cut (construction t.view e.store k)) c.in-Cuts.is)

pub returns-in_ok-outcome-in-Conjunction-clause-step : goal.returns-in_ok-outcome-in-Conjunction-clause-step
returns-in_ok-outcome-in-Conjunction-clause-step c t view =
    let e = c.args.self.now in
    let r = reads t.view e.store in
    let g = r c.args.goal in
    ap goes (c.in_ok-outcome-in-Conjunction.ensures.step t (proc_of g))
    ∙ conjoined (limits_in t e) (state_in t e) (node_of t.view e c.args.rest) g (r c.in-Conjunction.left) (r c.in-Conjunction.right) c.args.cut
    ∙ sym (ap (λ k. take_up (limits_in t e) (state_in t e) (node_of t.view e c.args.rest) (reads t.view e.store c.args.goal) c.args.cut (construction t.view e.store k)) c.in-Conjunction.is)

pub returns-in_ok-outcome-in-Disjunction-clause-step : goal.returns-in_ok-outcome-in-Disjunction-clause-step
returns-in_ok-outcome-in-Disjunction-clause-step c t view =
    let e = c.args.self.now in
    let r = reads t.view e.store in
    let g = r c.args.goal in
    ap goes (c.in_ok-outcome-in-Disjunction.ensures.step t (proc_of g))
    ∙ disjoined (limits_in t e) (state_in t e) (node_of t.view e c.args.rest) g (r c.in-Disjunction.left) (r c.in-Disjunction.right) c.args.cut
    ∙ sym (ap (λ k. take_up (limits_in t e) (state_in t e) (node_of t.view e c.args.rest) (reads t.view e.store c.args.goal) c.args.cut (construction t.view e.store k)) c.in-Disjunction.is)

pub returns-in_ok-outcome-in-IfThen-clause-step : goal.returns-in_ok-outcome-in-IfThen-clause-step
returns-in_ok-outcome-in-IfThen-clause-step c t view =
    let e = c.args.self.now in
    let r = reads t.view e.store in
    let g = r c.args.goal in
    ap goes (c.in_ok-outcome-in-IfThen.ensures.step t (proc_of g))
    ∙ on_condition (limits_in t e) (state_in t e) (node_of t.view e c.args.rest) g (r c.in-IfThen.condition) (r c.in-IfThen.then_goal) c.args.cut
    ∙ sym (ap (λ k. take_up (limits_in t e) (state_in t e) (node_of t.view e c.args.rest) (reads t.view e.store c.args.goal) c.args.cut (construction t.view e.store k)) c.in-IfThen.is)

pub returns-in_ok-outcome-in-IfThenElse-clause-step : goal.returns-in_ok-outcome-in-IfThenElse-clause-step
returns-in_ok-outcome-in-IfThenElse-clause-step c t view =
    let e = c.args.self.now in
    let r = reads t.view e.store in
    let g = r c.args.goal in
    ap goes (c.in_ok-outcome-in-IfThenElse.ensures.step t (proc_of g))
    ∙ on_condition_or (limits_in t e) (state_in t e) (node_of t.view e c.args.rest) g (r c.in-IfThenElse.condition) (r c.in-IfThenElse.then_goal)
    (r c.in-IfThenElse.else_goal) c.args.cut
    ∙ sym (ap (λ k. take_up (limits_in t e) (state_in t e) (node_of t.view e c.args.rest) (reads t.view e.store c.args.goal) c.args.cut (construction t.view e.store k)) c.in-IfThenElse.is)

pub returns-in_ok-outcome-in_default : goal.returns-in_ok-outcome-in_default
returns-in_ok-outcome-in_default c =
    let ran = c.in_ok-outcome-in_default in
    record {
      whole = ran.ensures.whole;
      after = ran.ensures.after;
      step = counted_or_none c.args.self.now c.take_up_counted.new.self c.args.goal c.args.construct c.args.cut c.args.rest ran.outcome ran.ensures.step;
      others =
          left_over c.args.self.now c.take_up_counted.new.self ran.outcome c.args.construct c.in_default.not-Succeeds c.in_default.not-Cuts
          c.in_default.not-Conjunction c.in_default.not-Disjunction c.in_default.not-IfThen c.in_default.not-IfThenElse ran.ensures.others;
    }
