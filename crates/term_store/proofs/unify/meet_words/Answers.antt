use Rattle.std.proofs.Common.{◌∙◌, ◌++◌, ◌∷◌, [], IfOk, ap, sym, subst}
use Rattle.std.specs.List.{All}
use Rattle.term_store.specs.declared.words.Pair.{Pair}
use Rattle.term_store.specs.declared.words.Rest.{Rest}
use Rattle.term_store.specs.Cells.{heap_of}
use Rattle.term_store.specs.Fit.{IsIn}
use Rattle.term_store.specs.Heap.{meaning}
use Rattle.term_store.specs.Meeting.{IsMet}
use Rattle.term_store.specs.Rests.{pair_at, rest_after}
use Rattle.term_store.specs.Waiting.{AreWaiting, Moved, waiting}
use Rattle.term_store.proofs.Handing.{after_off, first_in, moved_if, waiting_off}
use Rattle.term_store.proofs.Joining.{all_followed}
use Rattle.term_store.proofs.unify.meet_words.Goals as goal

pub deref-a-requires-clause-inside : goal.deref-a-requires-clause-inside
deref-a-requires-clause-inside c =
    let h = heap_of c.args.cells.now in
    let rest : Rest = record { left = c.args.left; right = c.args.right; count = c.args.count } in
    subst (IsIn h) (sym c.word_at-first.ensures) (first_in h c.args.pending.now.rests.items rest c.requires.some c.requires.waiting).0

pub deref-b-requires-clause-inside : goal.deref-b-requires-clause-inside
deref-b-requires-clause-inside c =
    let h = heap_of c.args.cells.now in
    let rest : Rest = record { left = c.args.left; right = c.args.right; count = c.args.count } in
    subst (IsIn h) (sym c.word_at-second.ensures) (first_in h c.args.pending.now.rests.items rest c.requires.some c.requires.waiting).1

pub make_equal-requires-clause-waiting : goal.make_equal-requires-clause-waiting
make_equal-requires-clause-waiting c =
    let h = heap_of c.args.cells.now in
    let rest : Rest = record { left = c.args.left; right = c.args.right; count = c.args.count } in
    let rs = c.args.pending.now.rests.items in
    subst (λ (n : Rest). AreWaiting h rs n) (sym c.after_first-next.ensures) (after_off h rs rest c.requires.some c.requires.waiting)

pub make_equal-requires-clause-met : goal.make_equal-requires-clause-met
make_equal-requires-clause-met c =
    let h = heap_of c.args.cells.now in
    let rest : Rest = record { left = c.args.left; right = c.args.right; count = c.args.count } in
    let rs = c.args.pending.now.rests.items in
    let ms = c.args.pending.now.met.list.items in
    let p : Pair = record { left = c.deref-a.result; right = c.deref-b.result } in
    subst (λ (n : Rest). All (IsMet h (waiting h rs n ++ p ∷ [])) ms) (sym c.after_first-next.ensures)
    (all_followed h (waiting h rs rest) (waiting h rs (rest_after rest)) (pair_at h.args h.args rest) p ms
    (waiting_off h rs rest c.requires.some c.requires.waiting) (c.deref-a.ensures.means ∙ ap (meaning h) c.word_at-first.ensures)
    (c.deref-b.ensures.means ∙ ap (meaning h) c.word_at-second.ensures) c.requires.met)

pub returns-clause-moved : goal.returns-clause-moved
returns-clause-moved c =
    let h = heap_of c.args.cells.now in
    let rest : Rest = record { left = c.args.left; right = c.args.right; count = c.args.count } in
    let rs = c.args.pending.now.rests.items in
    let d = heap_of c.make_equal.new.cells in
    let ss = c.make_equal.new.pending.rests.items in
    let ms = c.make_equal.new.pending.met.list.items in
    let p : Pair = record { left = c.deref-a.result; right = c.deref-b.result } in
    moved_if c.make_equal.result h rs (rest_after rest) (pair_at h.args h.args rest) p d ss ms c.make_equal.new.older
    (c.deref-a.ensures.means ∙ ap (meaning h) c.word_at-first.ensures) (c.deref-b.ensures.means ∙ ap (meaning h) c.word_at-second.ensures)
    (subst (λ (n : Rest). IfOk c.make_equal.result (λ r. Moved r h rs n p d ss ms c.make_equal.new.older)) c.after_first-next.ensures c.make_equal.ensures.moved)
