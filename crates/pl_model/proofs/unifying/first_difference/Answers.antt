use Rattle.std.proofs.Common.{◌≡◌, ◌≢◌, ◌↔◌, Bool, true, false, IsTrue, [], ◌∷◌, ◌++◌, length, ap₂, sym, ◌∙◌, arith}
use Rattle.std.proofs.lemmas.Bool.{false≢true}
use Rattle.std.proofs.lemmas.List.{get_or_read, take_more}
use Rattle.pl_term.specs.declared.node.Node.{Node}
use Rattle.pl_model.proofs.UnifyFacing.{facing_within, facing_same}
use Rattle.pl_model.proofs.unifying.first_difference.Goals as goal
use Rattle.pl_model.proofs.unifying.first_difference.Goals.{In-loop-i}

apart : (b : Bool) (x y : Node) → (IsTrue b ↔ (x ≡ y)) → b ≡ false → x ≢ y
apart true x y h e = absurd (false≢true (sym e))
apart false x y h e = λ k. absurd (false≢true (h.1 k))

alike : (b : Bool) (x y : Node) → (IsTrue b ↔ (x ≡ y)) → b ≡ true → x ≡ y
alike true x y h e = h.0 e
alike false x y h e = absurd (false≢true e)

pub bounds-right-i : goal.bounds-right-i
bounds-right-i c =
    let h = facing_within c.args.left.now c.args.right.now c.loop-i.i c.requires (omega arith) c.loop-i.invariant in
    omega arith

pub returns-then-not-same-clause-some : goal.returns-then-not-same-clause-some
returns-then-not-same-clause-some c =
    let within = facing_within c.args.left.now c.args.right.now c.loop-i.i c.requires (omega arith) c.loop-i.invariant in
    record {
      in_left = omega arith;
      in_right = within;
      before = c.loop-i.invariant;
      here = λ d e. apart c.same.result c.index-left-i.result c.index-right-i.result c.same.ensures c.if-not-same.true
          (get_or_read c.args.left.now c.loop-i.i c.index-left-i.result (omega arith) c.index-left-i.is d ∙ e
          ∙ sym (get_or_read c.args.right.now c.loop-i.i c.index-right-i.result within c.index-right-i.is d));
    }

pub loop-i-preserved : goal.loop-i-preserved
loop-i-preserved c =
    let within = facing_within c.args.left.now c.args.right.now c.loop-i.i c.requires (omega arith) c.loop-i.invariant in
    let x = c.index-left-i.result in
    let y = c.index-right-i.result in
    take_more c.args.left.now c.loop-i.i x (omega arith)
    ∙ ap₂ (λ l n. l ++ n ∷ []) c.loop-i.invariant
    (sym c.index-left-i.is ∙ alike c.same.result x y c.same.ensures c.if-not-same.false ∙ c.index-right-i.is)
    ∙ sym (take_more c.args.right.now c.loop-i.i y within)

pub returns-clause-none : goal.returns-clause-none
returns-clause-none c =
    facing_same c.args.left.now c.args.right.now c.requires
    (let ended : c.loop-i.i ≡ length c.args.left.now = omega arith in rw ended at c.loop-i.invariant)
