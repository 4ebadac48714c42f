use Rattle.std.proofs.Common.{[], ◌∷◌, sym, ◌∙◌}
use Rattle.std.proofs.lemmas.List.Elements.{All-cons, All-nil, All-same}
use Rattle.term_store.specs.Cells.{heap_of}
use Rattle.term_store.specs.Fit.{IsIn}
use Rattle.term_store.specs.Heap.{meaning}
use Rattle.pl_term.specs.Nodes.{nodes}
use Rattle.term_store.proofs.Occurring.{empty_list, popped}
use Rattle.term_store.proofs.Walking.{walk_begins, walk_ends, walk_pops}
use Rattle.term_store.proofs.save.nodes_of.Goals as goal

pub loop-init : goal.loop-init
loop-init c =
    let h = heap_of c.args.cells.now in
    record {
      words = All-same (IsIn h) c.in_ok-walk.walk.items (c.args.word ∷ []) c.in_ok-walk.ensures.items (All-cons (IsIn h) c.args.word [] c.requires.inside (All-nil (IsIn h)));
      pushed = walk_begins h c.new-all.result.items c.in_ok-walk.walk.items c.args.word c.new-all.ensures.items c.in_ok-walk.ensures.items;
    }

pub returns-in_default : goal.returns-in_default
returns-in_default c =
    walk_ends (heap_of c.args.cells.now) c.loop.all.items c.loop.walk.items (nodes (meaning (heap_of c.args.cells.now) c.args.word))
    (empty_list c.loop.walk.items (sym c.loop.walk.ok.0 ∙ c.in_default.ensures.cases.0)) c.loop.invariant.pushed

pub deref-at-requires-clause-inside : goal.deref-at-requires-clause-inside
deref-at-requires-clause-inside c =
    (popped (IsIn (heap_of c.args.cells.now)) c.loop.walk.items c.pop.new.self.items c.in-Some.next c.in-Some.ensures.items c.loop.invariant.words).1

pub push_node-requires-clause-words : goal.push_node-requires-clause-words
push_node-requires-clause-words c =
    (popped (IsIn (heap_of c.args.cells.now)) c.loop.walk.items c.pop.new.self.items c.in-Some.next c.in-Some.ensures.items c.loop.invariant.words).0

pub loop-preserved : goal.loop-preserved
loop-preserved c =
    let h = heap_of c.args.cells.now in
    record {
      words = c.in_ok-push_node.ensures.words;
      pushed =
          c.in_ok-push_node.ensures.pushed
          ∙ walk_pops h c.loop.all.items c.loop.walk.items c.pop.new.self.items c.in-Some.next c.deref-at.result (nodes (meaning h c.args.word)) c.in-Some.ensures.items
          c.deref-at.ensures.means c.loop.invariant.pushed;
    }
