use Rattle.std.proofs.Common.{◌≡◌, [], ap₂, sym, subst, ◌∙◌}
use Rattle.term_store.specs.declared.words.Plan.{Plan}
use Rattle.term_store.specs.declared.words.Plan.TheVariants.{Same, Clash, Bind, Open}
use Rattle.term_store.specs.declared.words.Word.{Word}
use Rattle.term_store.specs.Cells.{IsFree, heap_of}
use Rattle.term_store.specs.Fit.{IsIn, Fit}
use Rattle.term_store.specs.Heap.{Heap}
use Rattle.term_store.specs.Unifying.{plan_of}
use Rattle.term_store.specs.Waiting.{Met, waiting}
use Rattle.term_store.proofs.Handing.{met_bound, met_joined, opened_if}
use Rattle.term_store.proofs.Planning.{Planned, planned}
use Rattle.term_store.proofs.Turning.{never_clash, never_occurs}
use Rattle.term_store.proofs.unify.make_equal.Goals as goal

-- What the plan says of the two words.
as_planned : (h : Heap) (a b : Word) (p q : Plan) → Fit h → IsIn h a → IsIn h b → IsFree h a → IsFree h b → p ≡ plan_of a b → p ≡ q → Planned h a b q
as_planned h a b p q fit i j f g e k = subst (Planned h a b) (sym e ∙ k) (planned h a b fit i j f g)

pub returns-in-Same-clause-moved : goal.returns-in-Same-clause-moved
returns-in-Same-clause-moved c =
    let h = heap_of c.args.cells.now in
    let r = c.requires in
    met_joined h c.args.pending.now.rests.items c.args.next c.args.pair c.args.pending.now.met.list.items c.args.older.now
    (as_planned h c.args.pair.left c.args.pair.right c.compare_words.result Same r.fit.fit r.left r.right r.left_free r.right_free c.compare_words.ensures c.in-Same.is)
    r.apart r.waiting r.met

pub returns-in-Clash-clause-moved : goal.returns-in-Clash-clause-moved
returns-in-Clash-clause-moved c =
    let h = heap_of c.args.cells.now in
    let r = c.requires in
    never_clash h (waiting h c.args.pending.now.rests.items c.args.next) c.args.pair.left c.args.pair.right h []
    (as_planned h c.args.pair.left c.args.pair.right c.compare_words.result Clash r.fit.fit r.left r.right r.left_free r.right_free c.compare_words.ensures c.in-Clash.is)

pub returns-then-branch-clause-moved : goal.returns-then-branch-clause-moved
returns-then-branch-clause-moved c =
    let h = heap_of c.args.cells.now in
    let r = c.requires in
    never_occurs h (waiting h c.args.pending.now.rests.items c.args.next) c.args.pair.left c.args.pair.right h [] c.in-Bind.slot c.in-Bind.word
    (as_planned h c.args.pair.left c.args.pair.right c.compare_words.result (Bind c.in-Bind.slot c.in-Bind.word) r.fit.fit r.left r.right r.left_free r.right_free
    c.compare_words.ensures c.in-Bind.is)
    (sym c.in_ok-occurs-in-Bind.ensures.has ∙ c.if-branch.true)

pub returns-in_ok-bind-in-Bind-clause-moved : goal.returns-in_ok-bind-in-Bind-clause-moved
returns-in_ok-bind-in-Bind-clause-moved c =
    let h = heap_of c.args.cells.now in
    let r = c.requires in
    let rs = c.args.pending.now.rests.items in
    let ms = c.args.pending.now.met.list.items in
    let absent = c.in_ok-occurs-in-Bind.ensures.has in
    subst (λ d. Met h rs c.args.next c.args.pair d rs c.args.next ms c.occurs.new.older) (sym c.in_ok-bind-in-Bind.ensures.bound)
    (met_bound h rs c.args.next c.args.pair c.in-Bind.slot c.in-Bind.word ms c.occurs.new.older
    (as_planned h c.args.pair.left c.args.pair.right c.compare_words.result (Bind c.in-Bind.slot c.in-Bind.word) r.fit.fit r.left r.right r.left_free r.right_free
    c.compare_words.ensures c.in-Bind.is)
    (sym absent ∙ c.if-branch.false) (c.in_ok-occurs-in-Bind.ensures.apart c.if-branch.false) r.waiting r.met)

pub returns-in-Open-clause-moved : goal.returns-in-Open-clause-moved
returns-in-Open-clause-moved c =
    let h = heap_of c.args.cells.now in
    let r = c.requires in
    let both =
    as_planned h c.args.pair.left c.args.pair.right c.compare_words.result (Open c.in-Open.k c.in-Open.l) r.fit.fit r.left r.right r.left_free r.right_free
    c.compare_words.ensures c.in-Open.is in
    opened_if c.meet.result h c.in-Open.k c.in-Open.l c.args.pending.now.rests.items c.args.next c.args.pair c.meet.new.pending.rests.items
    c.meet.new.pending.met.list.items c.args.older.now (ap₂ (λ v w. record { left = v; right = w }) both.0 both.1) r.apart c.meet.ensures
