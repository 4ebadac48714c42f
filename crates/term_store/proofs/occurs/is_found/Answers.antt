use Rattle.std.proofs.Common.{◌||◌, sym, ap, subst, ◌∙◌, arith}
use Rattle.std.specs.List.{All}
use Rattle.std.proofs.lemmas.List.Elements.{All-nil}
use Rattle.term_store.specs.Cells.{heap_of}
use Rattle.term_store.specs.Fit.{IsIn}
use Rattle.term_store.specs.Heap.{meaning, numbered}
use Rattle.term_store.specs.Unifying.{any_has}
use Rattle.term_store.specs.Visits.{IsClear}
use Rattle.term_store.proofs.Visiting.{followed_clear}
use Rattle.pl_term.specs.Variables.{has}
use Rattle.term_store.proofs.Occurring.{empty_list, started, popped, ended, looked}
use Rattle.term_store.proofs.occurs.is_found.Goals as goal

pub loop-init : goal.loop-init
loop-init c =
    let h = heap_of c.args.cells.now in
    let s = started h (numbered h c.args.slot) c.push.new.self.items c.clear.new.self.items c.args.word c.in_ok-push.ensures.items c.clear.ensures.items c.requires.inside in
    record {
      others = s.0;
      same = s.1;
      raised = omega arith;
      above = λ i _ _.
          (started h (numbered h i) c.push.new.self.items c.clear.new.self.items c.args.word c.in_ok-push.ensures.items c.clear.ensures.items c.requires.inside).1;
      seen = λ i _ _. subst (λ ks. All (IsClear (numbered h i) h c.push.new.self.items) ks) (sym c.clear-2.ensures) (All-nil (IsClear (numbered h i) h c.push.new.self.items));
    }

pub returns-in_default-clause-has : goal.returns-in_default-clause-has
returns-in_default-clause-has c =
    let h = heap_of c.args.cells.now in
    ended h (numbered h c.args.slot) c.loop.walk.words.items (has (numbered h c.args.slot) (meaning h c.args.word))
    (empty_list c.loop.walk.words.items (sym c.loop.walk.words.ok.0 ∙ c.in_default.ensures.cases.0)) c.loop.invariant.same

pub returns-in_default-clause-others : goal.returns-in_default-clause-others
returns-in_default-clause-others c _ i above below =
    let h = heap_of c.args.cells.now in
    sym (ended h (numbered h i) c.loop.walk.words.items (has (numbered h i) (meaning h c.args.word))
    (empty_list c.loop.walk.words.items (sym c.loop.walk.words.ok.0 ∙ c.in_default.ensures.cases.0)) (c.loop.invariant.above i above below))

pub deref-at-requires-clause-inside : goal.deref-at-requires-clause-inside
deref-at-requires-clause-inside c =
    (popped (IsIn (heap_of c.args.cells.now)) c.loop.walk.words.items c.pop.new.self.items c.in-Some.next c.in-Some.ensures.items c.loop.invariant.others).1

pub is_here-requires-clause-others : goal.is_here-requires-clause-others
is_here-requires-clause-others c =
    (popped (IsIn (heap_of c.args.cells.now)) c.loop.walk.words.items c.pop.new.self.items c.in-Some.next c.in-Some.ensures.items c.loop.invariant.others).0

pub returns-then-branch-clause-has : goal.returns-then-branch-clause-has
returns-then-branch-clause-has c =
    let h = heap_of c.args.cells.now in
    let x = numbered h c.args.slot in
    ap (λ q. q || any_has x h c.is_here.new.walk.words.items) (sym c.if-branch.true) ∙ c.in_ok-is_here.ensures.found
    ∙ looked h x c.loop.walk.words.items c.pop.new.self.items c.in-Some.next c.deref-at.result (has x (meaning h c.args.word)) c.in-Some.ensures.items
    c.loop.invariant.same c.deref-at.ensures.means

pub loop-preserved : goal.loop-preserved
loop-preserved c =
    let h = heap_of c.args.cells.now in
    let x = numbered h c.args.slot in
    record {
      others = c.in_ok-is_here.ensures.others;
      same =
          ap (λ q. q || any_has x h c.is_here.new.walk.words.items) (sym c.if-branch.false) ∙ c.in_ok-is_here.ensures.found
          ∙ looked h x c.loop.walk.words.items c.pop.new.self.items c.in-Some.next c.deref-at.result (has x (meaning h c.args.word)) c.in-Some.ensures.items
          c.loop.invariant.same c.deref-at.ensures.means;
      raised = omega (arith, c.loop.invariant.raised, c.is_here.ensures.raised);
      above = λ i above below.
          c.in_ok-is_here.ensures.above i above below
          ∙ looked h (numbered h i) c.loop.walk.words.items c.pop.new.self.items c.in-Some.next c.deref-at.result (has (numbered h i) (meaning h c.args.word))
          c.in-Some.ensures.items (c.loop.invariant.above i (omega (arith, above, c.is_here.ensures.raised)) below) c.deref-at.ensures.means;
      seen = c.in_ok-is_here.ensures.seen c.if-branch.false;
    }

pub is_here-requires-clause-seen : goal.is_here-requires-clause-seen
is_here-requires-clause-seen c i within which =
    let h = heap_of c.args.cells.now in
    followed_clear (numbered h i) h c.loop.walk.words.items c.pop.new.self.items c.in-Some.next c.deref-at.result c.loop.walk.seen.list.items
    c.in-Some.ensures.items c.deref-at.ensures.means (c.loop.invariant.seen i within which)
