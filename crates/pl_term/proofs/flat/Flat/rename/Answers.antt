use Rattle.std.proofs.Common.{◌≡◌, ◌+◌, length, take, sym, ap, ◌∙◌, arith}
use Rattle.pl_term.specs.Variables.{variables, rename}
use Rattle.pl_term.specs.NodeLists.{met_with}
use Rattle.pl_term.proofs.NodeLemmas.{met, met-nodes, met_more, met_all, length-met_with, same_from_nodes}
use Rattle.pl_term.proofs.Renaming.{placed_more, renamed_all}
use Rattle.pl_term.proofs.flat.Flat.rename.Goals as goal

pub renamed-requires : goal.renamed-requires
renamed-requires c =
    let all : length (met c.nodes-n-items.result.now) ≡ length (variables c.args.self.now) =
    ap (λ ns. length (met ns)) c.nodes-n-items.ensures ∙ ap length (met-nodes c.args.self.now) in
    omega (
      arith,
      c.requires,
      length-met_with
          c.nodes-n-items.result.now
          c.loop-n.n-index
          c.n-item.result
          c.loop-n.met
          c.loop-n-test.true
          c.n-item.is
          c.loop-n.invariant.0,
    )

pub loop-n-preserved : goal.loop-n-preserved
loop-n-preserved c =
    let here : c.renamed.new.met
    ≡ met_with c.n-item.result (met (take c.loop-n.n-index c.nodes-n-items.result.now)) =
    c.in_ok-renamed.ensures.met ∙ ap (met_with c.n-item.result) c.loop-n.invariant.0 in (
      here
          ∙ sym (met_more c.nodes-n-items.result.now c.loop-n.n-index c.n-item.result c.loop-n-test.true c.n-item.is),
      placed_more
          c.in_ok-renamed.field-0
          c.n-item.result
          c.nodes-n-items.result.now
          c.loop-n.n-index
          (λ k. c.args.from + k)
          c.renamed.new.met
          c.loop-n.all.items
          c.push.new.self.items
          c.loop-n-test.true
          c.n-item.is
          here
          c.in_ok-renamed.ensures.renamed
          c.loop-n.invariant.1
          c.in_ok-push.ensures.items,
    )

pub overflow_add-free : goal.overflow_add-free
overflow_add-free c =
    let all : c.loop-n.met ≡ variables c.args.self.now =
    met_all
    c.args.self.now
    c.nodes-n-items.result.now
    c.loop-n.n-index
    c.loop-n.met
    c.nodes-n-items.ensures
    c.loop-n-test.false
    c.loop-n.invariant.0 in
    omega (arith, c.requires, c.len.ensures, ap length all)

pub from_nodes-requires : goal.from_nodes-requires
from_nodes-requires c = (
  rename c.args.from c.args.self.now,
  renamed_all
      c.args.self.now
      c.nodes-n-items.result.now
      c.args.from
      c.loop-n.n-index
      c.loop-n.all.items
      c.nodes-n-items.ensures
      c.loop-n-test.false
      c.loop-n.invariant.1,
)

pub returns-clause-renamed : goal.returns-clause-renamed
returns-clause-renamed c =
    same_from_nodes
    c.from_nodes.result
    (rename c.args.from c.args.self.now)
    (c.from_nodes.ensures
    ∙ renamed_all
    c.args.self.now
    c.nodes-n-items.result.now
    c.args.from
    c.loop-n.n-index
    c.loop-n.all.items
    c.nodes-n-items.ensures
    c.loop-n-test.false
    c.loop-n.invariant.1)

pub returns-clause-free : goal.returns-clause-free
returns-clause-free c =
    ap
    (λ k. c.args.from + k)
    (c.len.ensures
    ∙ ap
    length
    (met_all
    c.args.self.now
    c.nodes-n-items.result.now
    c.loop-n.n-index
    c.loop-n.met
    c.nodes-n-items.ensures
    c.loop-n-test.false
    c.loop-n.invariant.0))
