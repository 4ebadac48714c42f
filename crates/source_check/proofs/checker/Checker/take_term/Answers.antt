use Rattle.std.proofs.Common.{◌≡◌, ◌+◌, ◌∙◌, Option, Some, suc, sym, ap, subst}
use Rattle.std.specs.Prelude.{OnOk}
use Rattle.pl_term.specs.Tree.{Tree}
use Rattle.source_check.specs.Listings.{Checking, with_term}
use Rattle.source_check.specs.Checkers.{Stands, effect_of}
use Rattle.source_check.specs.GoalNodes.{Effect, after, effect_in}
use Rattle.source_check.proofs.Directives.{a_goal, effect_tree, no_goal}
use Rattle.source_check.proofs.Lines.{clause_stands, directive_stands}
use Rattle.source_check.proofs.checker.Checker.take_term.Goals as goal

pub returns-in-None-clause-stands : goal.returns-in-None-clause-stands
returns-in-None-clause-stands c name d s =
    subst
    (λ (o : Option Tree). Stands name (record c.args.self.now { clauses = c.args.self.now.clauses + 1 }) (with_term d o))
    (sym (no_goal c.args.term.now c.nodes.result.now c.nodes.ensures c.in-None.ensures))
    (clause_stands name c.args.self.now d s)

pub returns-in_ok-change-in-Some-clause-stands : goal.returns-in_ok-change-in-Some-clause-stands
returns-in_ok-change-in-Some-clause-stands c name d s =
    let g = a_goal c.args.term.now c.nodes.result.now c.in-Some.goal.now c.nodes.ensures c.in-Some.ensures in
    let e : Checking = record d { directives = suc d.directives } in
    let same : after (effect_of c.in_ok-change-in-Some.change) e ≡ with_term d (Some g.0) =
    ap (λ (x : Effect). after x e) (c.in_ok-change-in-Some.ensures ∙ ap effect_in g.2) ∙ effect_tree g.0 e in
    subst
    (λ (o : Option Tree). OnOk c.make.result (Stands name c.make.new.self (with_term d o)))
    (sym g.1)
    (subst
    (λ (x : Checking). OnOk c.make.result (Stands name c.make.new.self x))
    same
    (c.make.ensures.stands name e (directive_stands name c.args.self.now d s)))
