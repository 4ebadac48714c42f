use Rattle.std.proofs.Common.{◌∙◌, ◌-◌, ◌+◌, ◌<◌, ◌++◌, ◌∷◌, [], Some, ap, sym, arith, drop}
use Rattle.pl_term.proofs.NodeLemmas.{same_from_nodes}
use Rattle.pl_consult.specs.Subterms.{arity_of}
use Rattle.pl_consult.specs.BodyNodes.{goals_behind, terms_behind}
use Rattle.pl_consult.proofs.BodiesConverted.{Converting, converting_start, copy_step, goal_step, integer_step, walk_end, walk-few}
use Rattle.pl_consult.proofs.bodies.converted.Goals as goal
use Rattle.pl_consult.proofs.bodies.converted.Goals.{then-terms-gt0+in_ok-copy+in_ok-push, else-terms-gt0+else-is_integer+in_ok-put_goal}
use Rattle.pl_consult.proofs.bodies.converted.Goals.{In_ok-push, In_ok-put_goal}

pub loop-node-init : goal.loop-node-init
loop-node-init c =
    rw
    c.new-all.ensures.items
    (converting_start c.args.body.now c.nodes-node-items.result.now c.nodes-node-items.ensures)

copied_here : (c : In_ok-push)
    → Converting
    c.args.body.now
    c.push.new.self.items
    (drop (c.loop-node.node-index + 1) c.nodes-node-items.result.now)
    c.loop-node.goals
    (c.loop-node.terms - 1 + arity_of c.node-item.result)
copied_here c =
    copy_step
    c.args.body.now
    c.loop-node.all.items
    c.nodes-node-items.result.now
    c.push.new.self.items
    c.loop-node.node-index
    c.node-item.result
    c.loop-node.goals
    c.loop-node.terms
    c.loop-node-test.true
    c.node-item.is
    c.if-terms-gt0.true
    (c.in_ok-push.ensures.items ∙ ap (λ n. c.loop-node.all.items ++ n ∷ []) c.in_ok-copy.ensures)
    c.loop-node.invariant

pub overflow_add-terms : goal.overflow_add-terms
overflow_add-terms c =
    omega (
      arith,
      c.arity.ensures,
      walk-few
          c.args.body.now
          c.push.new.self.items
          c.nodes-node-items.result.now
          (c.loop-node.node-index + 1)
          c.loop-node.goals
          (c.loop-node.terms - 1 + arity_of c.node-item.result)
          (copied_here (goal.at.overflow_add-terms c).In_ok-push),
    )

pub returns-then-is_integer : goal.returns-then-is_integer
returns-then-is_integer c =
    integer_step
    c.args.body.now
    c.loop-node.all.items
    c.nodes-node-items.result.now
    c.loop-node.node-index
    c.node-item.result
    c.loop-node.goals
    c.loop-node.terms
    c.loop-node-test.true
    c.node-item.is
    (omega arith)
    c.if-is_integer.ensures
    c.loop-node.invariant

goal_here : (c : In_ok-put_goal)
    → Converting
    c.args.body.now
    c.put_goal.new.all.items
    (drop (c.loop-node.node-index + 1) c.nodes-node-items.result.now)
    (c.loop-node.goals - 1 + goals_behind c.node-item.result)
    (terms_behind c.node-item.result)
    × (0 < c.loop-node.goals)
goal_here c =
    goal_step
    c.args.body.now
    c.loop-node.all.items
    c.nodes-node-items.result.now
    c.put_goal.new.all.items
    c.loop-node.node-index
    c.node-item.result
    c.loop-node.goals
    c.loop-node.terms
    c.loop-node-test.true
    c.node-item.is
    (omega arith)
    c.if-is_integer.ensures
    c.in_ok-put_goal.ensures
    c.loop-node.invariant

pub overflow_sub-goals : goal.overflow_sub-goals
overflow_sub-goals c = omega (arith, (goal_here c).1)

pub overflow_add-goals : goal.overflow_add-goals
overflow_add-goals c =
    omega (
      arith,
      c.goals_behind.ensures,
      walk-few
          c.args.body.now
          c.put_goal.new.all.items
          c.nodes-node-items.result.now
          (c.loop-node.node-index + 1)
          (c.loop-node.goals - 1 + goals_behind c.node-item.result)
          (terms_behind c.node-item.result)
          (goal_here (goal.at.overflow_add-goals c).In_ok-put_goal).0,
    )

pub loop-node-preserved : goal.loop-node-preserved
loop-node-preserved c =
    elim c.if-terms-gt0.branch [
      | then-terms-gt0+in_ok-copy+in_ok-push w ↦
          rw
          (w.all-is, w.goals-is, w.terms-is, w.arity.ensures)
          (copy_step
          c.args.body.now
          c.loop-node.all.items
          c.nodes-node-items.result.now
          w.push.new.self.items
          c.loop-node.node-index
          c.node-item.result
          c.loop-node.goals
          c.loop-node.terms
          c.loop-node-test.true
          c.node-item.is
          w.if-terms-gt0.true
          (w.in_ok-push.ensures.items ∙ ap (λ n. c.loop-node.all.items ++ n ∷ []) w.in_ok-copy.ensures)
          c.loop-node.invariant)
      | else-terms-gt0+else-is_integer+in_ok-put_goal w ↦
          rw
          (w.all-is, w.goals-is, w.terms-is, w.goals_behind.ensures, w.terms_behind-terms.ensures)
          (goal_step
          c.args.body.now
          c.loop-node.all.items
          c.nodes-node-items.result.now
          w.put_goal.new.all.items
          c.loop-node.node-index
          c.node-item.result
          c.loop-node.goals
          c.loop-node.terms
          c.loop-node-test.true
          c.node-item.is
          w.if-terms-gt0.false
          w.if-is_integer.ensures
          w.in_ok-put_goal.ensures
          c.loop-node.invariant).0
    ]

pub from_nodes-requires : goal.from_nodes-requires
from_nodes-requires c =
    let e =
    walk_end
    c.args.body.now
    c.loop-node.all.items
    c.nodes-node-items.result.now
    c.loop-node.node-index
    c.loop-node.goals
    c.loop-node.terms
    c.loop-node-test.false
    c.loop-node.invariant
    in (e.0, e.2)

pub returns : goal.returns
returns c =
    let e =
    walk_end
    c.args.body.now
    c.loop-node.all.items
    c.nodes-node-items.result.now
    c.loop-node.node-index
    c.loop-node.goals
    c.loop-node.terms
    c.loop-node-test.false
    c.loop-node.invariant
    in ap Some (same_from_nodes c.from_nodes.result e.0 (c.from_nodes.ensures ∙ e.2)) ∙ sym e.1
