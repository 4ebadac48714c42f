use Rattle.std.proofs.Common.{suc, [], ◌∷◌, map, refl, sym, ap, ap₂, ◌∙◌}
use Rattle.pl_model.specs.Predicates.{proc_of}
use Rattle.pl_model.specs.Resolution.{collect, findall, goal as a_goal}
use Rattle.pl_model.specs.Control.{checked, over}
use Rattle.iso_search.specs.Collecting.{copy_of}
use Rattle.iso_search.specs.Outcomes.{limits_in, state_in}
use Rattle.iso_search.specs.Reading.{reads}
use Rattle.iso_search.specs.Searching.{node_of}
use Rattle.iso_search.proofs.Finding.{by_goal, goal_called, listed_goal}
use Rattle.iso_search.proofs.search.Search.find_all.Goals as goal

pub returns-in_ok-outcome-in_default-clause-step : goal.returns-in_ok-outcome-in_default-clause-step
returns-in_ok-outcome-in_default-clause-step c t g view =
    let v = t.view in
    let e = c.args.self.now in
    let r = reads v e.store in
    let n = node_of v e c.args.rest in
    let s = state_in t e in
    let l = limits_in t e in
    let p = proc_of g in
    c.in_ok-outcome-in_default.ensures.step t p view
    ∙ ap₂ (λ ts q. checked s n p q (λ body. over l s n p (findall (r c.args.list) ts n) (λ h. a_goal body (suc h) ∷ collect (r c.args.template) h ∷ [])))
    (ap (map (copy_of v)) c.new.ensures.items)
    (goal_called (r c.args.inner) (r c.args.list) (sym (c.in_ok-partial-in_default.ensures v view) ∙ c.if-not-partial.false))
    ∙ by_goal l s n g (r c.args.template) (r c.args.inner) (r c.args.list) (listed_goal (r c.args.inner) (r c.args.list)) refl
