use Rattle.std.proofs.Common.{◌∙◌, ◌∷◌, ◌++◌, [], append_assoc, ap, sym}
use Rattle.pl_term.specs.declared.node.Node.TheVariants.{Comp}
use Rattle.pl_consult.proofs.WordTexts.{chars-call}
use Rattle.pl_consult.proofs.BodiesConverted.{goal_nodes-other, goal_nodes-variable}
use Rattle.pl_consult.proofs.bodies.put_goal.Goals as goal
use Rattle.pl_consult.proofs.bodies.put_goal.Goals.{in-Var+in_ok-name+in_ok-push, in_default}

pub returns : goal.returns
returns c =
    let all = c.args.all.now.items
    in let node = c.in_ok-copy.field-0
    in elim c.match-node.branch [
      | in-Var+in_ok-name+in_ok-push w ↦
          c.in_ok-push-2.ensures.items
          ∙ ap (λ v. v.items ++ node ∷ []) w.all-is
          ∙ ap (λ ns. ns ++ node ∷ []) w.in_ok-push.ensures.items
          ∙ append_assoc all (Comp w.in_ok-name.name 1 ∷ []) (node ∷ [])
          ∙ ap (λ f. all ++ (Comp f 1 ∷ (node ∷ []))) (w.in_ok-name.ensures ∙ chars-call)
          ∙ goal_nodes-variable all node c.args.node.now w.in-Var.field-0 c.in_ok-copy.ensures w.in-Var.is
      | in_default w ↦
          c.in_ok-push-2.ensures.items
          ∙ ap (λ v. v.items ++ node ∷ []) w.all-is
          ∙ ap (λ n. all ++ n ∷ []) c.in_ok-copy.ensures
          ∙ ap (λ ns. all ++ ns) (sym (goal_nodes-other c.args.node.now w.in_default.not-Var))
    ]
