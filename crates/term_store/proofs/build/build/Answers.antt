use Rattle.std.proofs.Common.{◌≡◌, ◌+◌, ◌-◌, get_or, refl, drop, length, sym, ap, subst, ◌∙◌, arith}
use Rattle.std.specs.List.{All}
use Rattle.std.proofs.lemmas.List.Elements.{All-nil}
use Rattle.term_store.specs.declared.nodes.AtomNode.TheVariants.{Var}
use Rattle.term_store.specs.Cells.{heap_of}
use Rattle.term_store.specs.Fit.{IsIn}
use Rattle.pl_term.specs.Nodes.{forest}
use Rattle.pl_term.specs.Variables.{rename_all_by}
use Rattle.term_store.specs.Heap.{numbered}
use Rattle.term_store.specs.Nodes.{node_views, standing}
use Rattle.term_store.proofs.Constructing.{nothing_built, next_ready, next_built, all_built, same_numbers}
use Rattle.term_store.proofs.Stacking.{gains_none, gains_twice}
use Rattle.term_store.proofs.build.build.Goals as goal

pub loop-i-init : goal.loop-i-init
loop-i-init c =
    let h = heap_of c.args.cells.now in
    let stack = c.clear.new.self.items in
    record {
      within = omega arith;
      fit = c.requires.fit;
      gains = gains_none h;
      words = subst (λ ws. All (IsIn h) ws) (sym c.clear.ensures.items) (All-nil (IsIn h));
      stands =
          nothing_built (λ x. numbered h (c.args.base + x)) c.args.nodes.now h stack (length c.args.nodes.now) c.clear.ensures.items (omega arith);
    }

pub build_node-requires-clause-ready : goal.build_node-requires-clause-ready
build_node-requires-clause-ready c =
    let inv = c.loop-i.invariant in
    next_ready (λ x. numbered (heap_of c.args.cells.now) (c.args.base + x)) c.args.nodes.now (heap_of c.loop-i.cells) c.loop-i.stack.items c.loop-i.i
    (get_or c.args.nodes.now (c.loop-i.i - 1) (Var 0)) (Var 0) c.requires.spelled c.loop-i-test.true inv.within refl inv.stands

pub loop-i-preserved : goal.loop-i-preserved
loop-i-preserved c =
    let start = heap_of c.args.cells.now in
    let h = heap_of c.loop-i.cells in
    let d = heap_of c.build_node.new.cells in
    let inv = c.loop-i.invariant in
    let within = inv.within in
    record {
      within = omega arith;
      fit = c.build_node.ensures.fit;
      gains = gains_twice start h d inv.gains c.build_node.ensures.gains;
      words = c.in_ok-build_node.ensures.words;
      stands =
          next_built (λ x. numbered start (c.args.base + x)) c.args.nodes.now h d c.loop-i.stack.items c.build_node.new.stack.items c.loop-i.i
          (get_or c.args.nodes.now (c.loop-i.i - 1) (Var 0)) (Var 0) c.loop-i-test.true inv.within refl inv.stands
          (c.in_ok-build_node.ensures.placed
          ∙ same_numbers start h c.args.base inv.gains.numbers (get_or c.args.nodes.now (c.loop-i.i - 1) (Var 0)) (standing h c.loop-i.stack.items));
    }

pub returns-in_err-build_node-clause-gains : goal.returns-in_err-build_node-clause-gains
returns-in_err-build_node-clause-gains c =
    gains_twice (heap_of c.args.cells.now) (heap_of c.loop-i.cells) (heap_of c.build_node.new.cells) c.loop-i.invariant.gains c.build_node.ensures.gains

pub returns-in-Some-clause-built : goal.returns-in-Some-clause-built
returns-in-Some-clause-built c =
    let inv = c.loop-i.invariant in
    let zero_left : c.loop-i.i ≡ 0 = omega (arith, c.loop-i-test.false) in
    all_built (λ x. numbered (heap_of c.args.cells.now) (c.args.base + x)) c.args.nodes.now (heap_of c.loop-i.cells) c.pop.new.self.items c.loop-i.stack.items c.in-Some.word
    c.requires.spelled c.in-Some.ensures.items inv.words
    (inv.stands ∙ ap (λ k. rename_all_by (λ x. numbered (heap_of c.args.cells.now) (c.args.base + x)) (forest (drop k (node_views c.args.nodes.now)))) zero_left)
