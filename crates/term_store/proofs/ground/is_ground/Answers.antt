use Rattle.std.proofs.Common.{ℕ, sym, subst, ◌∙◌}
use Rattle.std.specs.List.{All}
use Rattle.std.proofs.lemmas.List.Elements.{All-nil}
use Rattle.pl_term.specs.Variables.{has}
use Rattle.term_store.specs.Cells.{heap_of}
use Rattle.term_store.specs.Fit.{IsIn}
use Rattle.term_store.specs.Heap.{meaning}
use Rattle.term_store.specs.Visits.{IsClear}
use Rattle.term_store.proofs.Grounding.{is_ground-from, var_met}
use Rattle.term_store.proofs.Occurring.{empty_list, ended, looked, popped, started}
use Rattle.term_store.proofs.Visiting.{followed_clear}
use Rattle.term_store.proofs.ground.is_ground.Goals as goal

pub loop-init : goal.loop-init
loop-init c =
    let h = heap_of c.args.cells.now in
    let from = λ (x : ℕ). started h x c.push.new.self.items c.clear.new.self.items c.args.word c.in_ok-push.ensures.items c.clear.ensures.items c.requires.inside in
    record {
      others = (from 0).0;
      same = λ x. (from x).1;
      seen = λ x. subst (λ ks. All (IsClear x h c.push.new.self.items) ks) (sym c.clear-2.ensures) (All-nil (IsClear x h c.push.new.self.items));
    }

pub returns-in_default : goal.returns-in_default
returns-in_default c =
    let h = heap_of c.args.cells.now in
    is_ground-from (meaning h c.args.word)
    (λ x. sym (ended h x c.loop.walk.words.items (has x (meaning h c.args.word))
    (empty_list c.loop.walk.words.items (sym c.loop.walk.words.ok.0 ∙ c.in_default.ensures.cases.0)) (c.loop.invariant.same x)))

pub deref-at-requires-clause-inside : goal.deref-at-requires-clause-inside
deref-at-requires-clause-inside c =
    (popped (IsIn (heap_of c.args.cells.now)) c.loop.walk.words.items c.pop.new.self.items c.in-Some.next c.in-Some.ensures.items c.loop.invariant.others).1

pub is_variable-requires-clause-others : goal.is_variable-requires-clause-others
is_variable-requires-clause-others c =
    (popped (IsIn (heap_of c.args.cells.now)) c.loop.walk.words.items c.pop.new.self.items c.in-Some.next c.in-Some.ensures.items c.loop.invariant.others).0

pub is_variable-requires-clause-seen : goal.is_variable-requires-clause-seen
is_variable-requires-clause-seen c x =
    let h = heap_of c.args.cells.now in
    followed_clear x h c.loop.walk.words.items c.pop.new.self.items c.in-Some.next c.deref-at.result c.loop.walk.seen.list.items c.in-Some.ensures.items
    c.deref-at.ensures.means (c.loop.invariant.seen x)

pub returns-then-branch : goal.returns-then-branch
returns-then-branch c =
    let h = heap_of c.args.cells.now in
    var_met h c.loop.walk.words.items c.pop.new.self.items c.in-Some.next c.deref-at.result (meaning h c.args.word) c.in-Some.ensures.items
    c.deref-at.ensures.means c.loop.invariant.same (c.in_ok-is_variable.ensures.variable c.if-branch.true)

pub loop-preserved : goal.loop-preserved
loop-preserved c =
    let h = heap_of c.args.cells.now in
    record {
      others = c.in_ok-is_variable.ensures.others;
      same = λ x.
          c.in_ok-is_variable.ensures.found c.if-branch.false x
          ∙ looked h x c.loop.walk.words.items c.pop.new.self.items c.in-Some.next c.deref-at.result (has x (meaning h c.args.word)) c.in-Some.ensures.items
          (c.loop.invariant.same x) c.deref-at.ensures.means;
      seen = c.in_ok-is_variable.ensures.seen c.if-branch.false;
    }
