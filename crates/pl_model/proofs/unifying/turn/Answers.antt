use Rattle.std.proofs.Common.{◌≡◌, ◌+◌, ◌-◌, ◌≤◌, ℕ, List, length, take, drop, ap, sym, ◌∙◌, arith, Option, Some, None, subst, subst₂}
use Rattle.std.proofs.lemmas.List.{take_rest}
use Rattle.std.specs.List.{list_any}
use Rattle.pl_term.specs.declared.node.Node.{Node}
use Rattle.pl_model.specs.laws.UnifySides.{Facing, DiffersAt, is_variable, put_in}
use Rattle.pl_model.specs.declared.unifying.Found.{Found}
use Rattle.pl_model.specs.laws.UnifyTurns.{Finds}
use Rattle.pl_model.proofs.UnifyFacing.{behind}
use Rattle.pl_model.proofs.UnifyCode.{turned_same, turned_clash, turned_occurs, turned_binds, ends_left, ends_right}
use Rattle.pl_model.proofs.unifying.turn.Goals as goal
use Rattle.pl_model.proofs.unifying.turn.Goals.{In-Some, In-Some-2}

differs : (c : In-Some) → DiffersAt c.args.left.now c.args.right.now c.in-Some.at
differs c = rw (c.nodes.ensures, c.nodes-2.ensures) at c.in-Some.ensures.some

-- What is found is found in what is left from the first difference on.
finds : (ls rs ns ms : List Node) (at : ℕ) (f o : Option Found) → ns ≡ ls → ms ≡ rs → o ≡ f
    → Finds (take (length ns - at) (drop at ns)) (take (length ms - at) (drop at ms)) o → Finds (drop at ls) (drop at rs) f
finds ls rs ns ms at f o el er e h =
    subst (Finds (drop at ls) (drop at rs)) e
    (subst₂ (λ l r. Finds l r o) (take_rest ns at ∙ ap (drop at) el) (take_rest ms at ∙ ap (drop at) er) h)

differs_there : (c : In-Some-2) → DiffersAt c.args.left.now c.args.right.now c.in-Some.at
differs_there c = rw (c.nodes.ensures, c.nodes-2.ensures) at c.in-Some.ensures.some

found_there : (c : In-Some-2) → Finds (drop c.in-Some.at c.args.left.now) (drop c.in-Some.at c.args.right.now) (Some c.in-Some-2.found)
found_there c =
    finds c.args.left.now c.args.right.now c.nodes-3.result.now c.nodes-4.result.now c.in-Some.at (Some c.in-Some-2.found)
    c.in_ok-found.field-0 c.nodes-3.ensures c.nodes-4.ensures c.in-Some-2.is c.in_ok-found.ensures

pub returns-in_default : goal.returns-in_default
returns-in_default c = turned_same c.args.left.now c.args.right.now (sym c.nodes.ensures ∙ c.in_default.ensures.none ∙ c.nodes-2.ensures)

pub difference-requires-clause-facing : goal.difference-requires-clause-facing
difference-requires-clause-facing c =
    let d = differs (goal.at.difference-requires-clause-facing c).In-Some in
    subst₂ Facing (sym (take_rest c.nodes-3.result.now c.in-Some.at ∙ ap (drop c.in-Some.at) c.nodes-3.ensures))
    (sym (take_rest c.nodes-4.result.now c.in-Some.at ∙ ap (drop c.in-Some.at) c.nodes-4.ensures))
    (behind c.in-Some.at c.args.left.now c.args.right.now c.requires (omega (arith, d.in_left)) d.before).facing

pub returns-in_default-2 : goal.returns-in_default-2
returns-in_default-2 c =
    turned_clash c.args.left.now c.args.right.now c.in-Some.at c.requires (differs (goal.at.returns-in_default-2 c).In-Some)
    (finds c.args.left.now c.args.right.now c.nodes-3.result.now c.nodes-4.result.now c.in-Some.at None
    c.in_ok-found.field-0 c.nodes-3.ensures c.nodes-4.ensures c.in_default-2.is c.in_ok-found.ensures)

pub returns-then-occurs : goal.returns-then-occurs
returns-then-occurs c =
    let f = found_there (goal.at.returns-then-occurs c).In-Some-2 in
    turned_occurs c.args.left.now c.args.right.now c.in-Some.at c.in-Some-2.found.variable c.in-Some-2.found.value c.requires
    (differs (goal.at.returns-then-occurs c).In-Some) f.0
    (ap (list_any (is_variable c.in-Some-2.found.variable)) (sym c.nodes-5.ensures) ∙ sym c.occurs.ensures ∙ c.if-occurs.true)

ends_first : (c : In-Some-2) → c.in-Some.at + c.in-Some-2.found.left ≤ length c.args.left.now
ends_first c =
    ends_left c.args.left.now c.args.right.now c.in-Some.at c.in-Some-2.found.left c.requires (differs_there c) (found_there c).1

ends_second : (c : In-Some-2) → c.in-Some.at + c.in-Some-2.found.right ≤ length c.args.right.now
ends_second c =
    ends_right c.args.left.now c.args.right.now c.in-Some.at c.in-Some-2.found.right c.requires (differs_there c) (found_there c).2

pub overflow_add-at : goal.overflow_add-at
overflow_add-at c = omega (arith, ends_first (goal.at.overflow_add-at c).In-Some-2, ap (length {A = Node}) c.nodes-3.ensures)

pub advance-requires : goal.advance-requires
advance-requires c = ends_first (goal.at.advance-requires c).In-Some-2

pub overflow_add-at-2 : goal.overflow_add-at-2
overflow_add-at-2 c = omega (arith, ends_second (goal.at.overflow_add-at-2 c).In-Some-2, ap (length {A = Node}) c.nodes-4.ensures)

pub advance-requires-2 : goal.advance-requires-2
advance-requires-2 c = ends_second (goal.at.advance-requires-2 c).In-Some-2

pub returns : goal.returns
returns c =
    let f = found_there (goal.at.returns c).In-Some-2 in
    turned_binds c.args.left.now c.args.right.now c.advance.new.self c.advance-2.new.self c.in-Some.at c.in-Some-2.found.left
    c.in-Some-2.found.right c.in-Some-2.found.variable c.in-Some-2.found.value c.requires (differs (goal.at.returns c).In-Some) f.0 f.1 f.2
    (ap (list_any (is_variable c.in-Some-2.found.variable)) (sym c.nodes-5.ensures) ∙ sym c.occurs.ensures ∙ c.if-occurs.false)
    (c.in_ok-advance.ensures ∙ ap (λ s. put_in c.in-Some-2.found.variable s (drop (c.in-Some.at + c.in-Some-2.found.left) c.args.left.now)) c.nodes-6.ensures)
    (c.in_ok-advance-2.ensures ∙ ap (λ s. put_in c.in-Some-2.found.variable s (drop (c.in-Some.at + c.in-Some-2.found.right) c.args.right.now)) c.nodes-7.ensures)
