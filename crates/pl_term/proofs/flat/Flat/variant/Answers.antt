use Rattle.std.proofs.Common.{◌≡◌, ◌<◌, ◌≤◌, true, length, refl, sym, ap, ◌∙◌, arith}
use Rattle.std.proofs.lemmas.Bool.{iff_false}
use Rattle.pl_term.specs.NodeLists.{met_with}
use Rattle.pl_term.proofs.NodeLemmas.{met_more}
use Rattle.pl_term.proofs.VariantNodes.{other_length, other_node, alike_more, all_alike}
use Rattle.pl_term.proofs.flat.Flat.variant.Goals as goal

pub returns-then-left-right : goal.returns-then-left-right
returns-then-left-right c = (
  λ e. cc,
  λ v. absurd
      (other_length
      c.args.self.now
      c.args.other.now
      c.nodes-left.result.now
      c.nodes-right.result.now
      c.nodes-left.ensures
      c.nodes-right.ensures
      c.if-left-right.true
      v),
)

pub returns-then-not-branch : goal.returns-then-not-branch
returns-then-not-branch c =
    let k : c.loop-i.i < length c.nodes-right.result.now = omega arith in (
      λ e. cc,
      λ v. absurd
          (other_node
          c.args.self.now
          c.args.other.now
          c.nodes-left.result.now
          c.nodes-right.result.now
          c.loop-i.i
          c.index-left-i.result
          c.index-right-i.result
          c.loop-i.here
          c.loop-i.there
          c.nodes-left.ensures
          c.nodes-right.ensures
          c.loop-i-test.true
          k
          c.index-left-i.is
          c.index-right-i.is
          c.loop-i.invariant.0
          c.loop-i.invariant.1
          (iff_false c.in_ok-alike.ensures.alike c.if-not-branch.true)
          v),
    )

pub loop-i-preserved : goal.loop-i-preserved
loop-i-preserved c =
    let k : c.loop-i.i < length c.nodes-right.result.now = omega arith in
    let b : c.in_ok-alike.field-0 ≡ true = c.if-not-branch.false in (
      c.in_ok-alike.ensures.here b
          ∙ ap (met_with c.index-left-i.result) c.loop-i.invariant.0
          ∙ sym (met_more c.nodes-left.result.now c.loop-i.i c.index-left-i.result c.loop-i-test.true c.index-left-i.is),
      c.in_ok-alike.ensures.there b
          ∙ ap (met_with c.index-right-i.result) c.loop-i.invariant.1
          ∙ sym (met_more c.nodes-right.result.now c.loop-i.i c.index-right-i.result k c.index-right-i.is),
      alike_more
          c.nodes-left.result.now
          c.nodes-right.result.now
          c.loop-i.i
          c.index-left-i.result
          c.index-right-i.result
          c.loop-i.here
          c.loop-i.there
          c.loop-i-test.true
          k
          c.index-left-i.is
          c.index-right-i.is
          c.loop-i.invariant.0
          c.loop-i.invariant.1
          (c.in_ok-alike.ensures.alike.0 b)
          c.loop-i.invariant.2,
    )

pub returns : goal.returns
returns c =
    let k : length c.nodes-right.result.now ≤ c.loop-i.i = omega arith in (
      λ e. all_alike
          c.args.self.now
          c.args.other.now
          c.nodes-left.result.now
          c.nodes-right.result.now
          c.loop-i.i
          c.nodes-left.ensures
          c.nodes-right.ensures
          c.loop-i-test.false
          k
          c.loop-i.invariant.2,
      λ v. refl,
    )
