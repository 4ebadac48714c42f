use Rattle.std.proofs.Common.{◌++◌, ◌∷◌, [], IfOk, refl, sym, subst}
use Rattle.std.specs.List.{All}
use Rattle.term_store.specs.declared.older.Older.{Older}
use Rattle.term_store.specs.declared.words.Rest.{Rest}
use Rattle.term_store.specs.declared.words.Word.TheVariants.{Var, Comp}
use Rattle.term_store.specs.Cells.{heap_of}
use Rattle.term_store.specs.Heap.{pushed}
use Rattle.term_store.specs.Meeting.{IsMet}
use Rattle.term_store.specs.Rests.{pair_at, rest_after}
use Rattle.term_store.specs.Shorts.{long_word}
use Rattle.term_store.specs.Waiting.{AreWaiting, Met, Opened, waiting}
use Rattle.term_store.proofs.Handing.{after_off, first_in, given, joined, next_differs, next_equal, next_given, next_joined, next_parted, part_left, part_met, part_right}
use Rattle.term_store.proofs.unify.meet_next.Goals as goal

pub follow-left-requires-clause-inside : goal.follow-left-requires-clause-inside
follow-left-requires-clause-inside c =
    (first_in (heap_of c.args.cells.now) c.args.pending.now.rests.items c.args.rest c.requires.some c.requires.waiting).0

pub follow-right-requires-clause-inside : goal.follow-right-requires-clause-inside
follow-right-requires-clause-inside c =
    (first_in (heap_of c.args.cells.now) c.args.pending.now.rests.items c.args.rest c.requires.some c.requires.waiting).1

pub bind_short-requires-clause-slot : goal.bind_short-requires-clause-slot
bind_short-requires-clause-slot c =
    let h = heap_of c.args.cells.now in
    let rs = c.args.pending.now.rests.items in
    let ms = c.args.pending.now.met.list.items in
    (joined h c.requires.fit.fit rs c.args.rest c.requires.some c.requires.waiting ms c.requires.met c.args.older.now c.requires.apart
    c.follow-left.result c.follow-right.result c.follow-left.ensures c.follow-right.ensures c.compare_shorts.result c.compare_shorts.ensures
    c.in-Join.slot c.in-Join.other c.in-Join.is).slot

pub bind_short-requires-clause-free : goal.bind_short-requires-clause-free
bind_short-requires-clause-free c =
    let h = heap_of c.args.cells.now in
    let rs = c.args.pending.now.rests.items in
    let ms = c.args.pending.now.met.list.items in
    (joined h c.requires.fit.fit rs c.args.rest c.requires.some c.requires.waiting ms c.requires.met c.args.older.now c.requires.apart
    c.follow-left.result c.follow-right.result c.follow-left.ensures c.follow-right.ensures c.compare_shorts.result c.compare_shorts.ensures
    c.in-Join.slot c.in-Join.other c.in-Join.is).free

pub bind_short-requires-clause-below : goal.bind_short-requires-clause-below
bind_short-requires-clause-below c =
    let h = heap_of c.args.cells.now in
    let rs = c.args.pending.now.rests.items in
    let ms = c.args.pending.now.met.list.items in
    (joined h c.requires.fit.fit rs c.args.rest c.requires.some c.requires.waiting ms c.requires.met c.args.older.now c.requires.apart
    c.follow-left.result c.follow-right.result c.follow-left.ensures c.follow-right.ensures c.compare_shorts.result c.compare_shorts.ensures
    c.in-Join.slot c.in-Join.other c.in-Join.is).below

pub bind_short-requires-clause-inside : goal.bind_short-requires-clause-inside
bind_short-requires-clause-inside c =
    let h = heap_of c.args.cells.now in
    let rs = c.args.pending.now.rests.items in
    let ms = c.args.pending.now.met.list.items in
    (joined h c.requires.fit.fit rs c.args.rest c.requires.some c.requires.waiting ms c.requires.met c.args.older.now c.requires.apart
    c.follow-left.result c.follow-right.result c.follow-left.ensures c.follow-right.ensures c.compare_shorts.result c.compare_shorts.ensures
    c.in-Join.slot c.in-Join.other c.in-Join.is).inside

pub bind_short-requires-clause-absent : goal.bind_short-requires-clause-absent
bind_short-requires-clause-absent c =
    let h = heap_of c.args.cells.now in
    let rs = c.args.pending.now.rests.items in
    let ms = c.args.pending.now.met.list.items in
    (joined h c.requires.fit.fit rs c.args.rest c.requires.some c.requires.waiting ms c.requires.met c.args.older.now c.requires.apart
    c.follow-left.result c.follow-right.result c.follow-left.ensures c.follow-right.ensures c.compare_shorts.result c.compare_shorts.ensures
    c.in-Join.slot c.in-Join.other c.in-Join.is).absent

pub bind_short-requires-in-Give-clause-slot : goal.bind_short-requires-in-Give-clause-slot
bind_short-requires-in-Give-clause-slot c =
    let h = heap_of c.args.cells.now in
    let rs = c.args.pending.now.rests.items in
    let ms = c.args.pending.now.met.list.items in
    (given h c.requires.fit.fit rs c.args.rest c.requires.some c.requires.waiting ms c.requires.met c.args.older.now c.requires.apart
    c.follow-left.result c.follow-right.result c.follow-left.ensures c.follow-right.ensures c.compare_shorts.result c.compare_shorts.ensures
    c.in-Give.slot c.in-Give.short c.in-Give.is).slot

pub bind_short-requires-in-Give-clause-free : goal.bind_short-requires-in-Give-clause-free
bind_short-requires-in-Give-clause-free c =
    let h = heap_of c.args.cells.now in
    let rs = c.args.pending.now.rests.items in
    let ms = c.args.pending.now.met.list.items in
    (given h c.requires.fit.fit rs c.args.rest c.requires.some c.requires.waiting ms c.requires.met c.args.older.now c.requires.apart
    c.follow-left.result c.follow-right.result c.follow-left.ensures c.follow-right.ensures c.compare_shorts.result c.compare_shorts.ensures
    c.in-Give.slot c.in-Give.short c.in-Give.is).free

pub bind_short-requires-in-Give-clause-plain : goal.bind_short-requires-in-Give-clause-plain
bind_short-requires-in-Give-clause-plain c =
    let h = heap_of c.args.cells.now in
    let rs = c.args.pending.now.rests.items in
    let ms = c.args.pending.now.met.list.items in
    (given h c.requires.fit.fit rs c.args.rest c.requires.some c.requires.waiting ms c.requires.met c.args.older.now c.requires.apart
    c.follow-left.result c.follow-right.result c.follow-left.ensures c.follow-right.ensures c.compare_shorts.result c.compare_shorts.ensures
    c.in-Give.slot c.in-Give.short c.in-Give.is).plain

pub bind_short-requires-in-Give-clause-word : goal.bind_short-requires-in-Give-clause-word
bind_short-requires-in-Give-clause-word c =
    let h = heap_of c.args.cells.now in
    let rs = c.args.pending.now.rests.items in
    let ms = c.args.pending.now.met.list.items in
    (given h c.requires.fit.fit rs c.args.rest c.requires.some c.requires.waiting ms c.requires.met c.args.older.now c.requires.apart
    c.follow-left.result c.follow-right.result c.follow-left.ensures c.follow-right.ensures c.compare_shorts.result c.compare_shorts.ensures
    c.in-Give.slot c.in-Give.short c.in-Give.is).word

pub bind_short-requires-in-Give-clause-below : goal.bind_short-requires-in-Give-clause-below
bind_short-requires-in-Give-clause-below c =
    let h = heap_of c.args.cells.now in
    let rs = c.args.pending.now.rests.items in
    let ms = c.args.pending.now.met.list.items in
    (given h c.requires.fit.fit rs c.args.rest c.requires.some c.requires.waiting ms c.requires.met c.args.older.now c.requires.apart
    c.follow-left.result c.follow-right.result c.follow-left.ensures c.follow-right.ensures c.compare_shorts.result c.compare_shorts.ensures
    c.in-Give.slot c.in-Give.short c.in-Give.is).below

pub bind_short-requires-in-Give-clause-inside : goal.bind_short-requires-in-Give-clause-inside
bind_short-requires-in-Give-clause-inside c =
    let h = heap_of c.args.cells.now in
    let rs = c.args.pending.now.rests.items in
    let ms = c.args.pending.now.met.list.items in
    (given h c.requires.fit.fit rs c.args.rest c.requires.some c.requires.waiting ms c.requires.met c.args.older.now c.requires.apart
    c.follow-left.result c.follow-right.result c.follow-left.ensures c.follow-right.ensures c.compare_shorts.result c.compare_shorts.ensures
    c.in-Give.slot c.in-Give.short c.in-Give.is).inside

pub bind_short-requires-in-Give-clause-absent : goal.bind_short-requires-in-Give-clause-absent
bind_short-requires-in-Give-clause-absent c =
    let h = heap_of c.args.cells.now in
    let rs = c.args.pending.now.rests.items in
    let ms = c.args.pending.now.met.list.items in
    (given h c.requires.fit.fit rs c.args.rest c.requires.some c.requires.waiting ms c.requires.met c.args.older.now c.requires.apart
    c.follow-left.result c.follow-right.result c.follow-left.ensures c.follow-right.ensures c.compare_shorts.result c.compare_shorts.ensures
    c.in-Give.slot c.in-Give.short c.in-Give.is).absent

pub meet-requires-clause-left : goal.meet-requires-clause-left
meet-requires-clause-left c =
    let h = heap_of c.args.cells.now in
    let rs = c.args.pending.now.rests.items in
    let ms = c.args.pending.now.met.list.items in
    part_left h c.requires.fit.fit rs c.args.rest c.requires.some c.requires.waiting ms c.requires.met c.args.older.now c.requires.apart
    c.follow-left.result c.follow-right.result c.follow-left.ensures c.follow-right.ensures c.compare_shorts.result c.compare_shorts.ensures
    c.in-Part.k c.in-Part.l c.in-Part.is

pub meet-requires-clause-right : goal.meet-requires-clause-right
meet-requires-clause-right c =
    let h = heap_of c.args.cells.now in
    let rs = c.args.pending.now.rests.items in
    let ms = c.args.pending.now.met.list.items in
    part_right h c.requires.fit.fit rs c.args.rest c.requires.some c.requires.waiting ms c.requires.met c.args.older.now c.requires.apart
    c.follow-left.result c.follow-right.result c.follow-left.ensures c.follow-right.ensures c.compare_shorts.result c.compare_shorts.ensures
    c.in-Part.k c.in-Part.l c.in-Part.is

pub meet-requires-clause-waiting : goal.meet-requires-clause-waiting
meet-requires-clause-waiting c =
    let h = heap_of c.args.cells.now in
    let rs = c.args.pending.now.rests.items in
    subst (λ (n : Rest). AreWaiting h rs n) (sym c.after_first-next.ensures) (after_off h rs c.args.rest c.requires.some c.requires.waiting)

pub meet-requires-clause-met : goal.meet-requires-clause-met
meet-requires-clause-met c =
    let h = heap_of c.args.cells.now in
    let rs = c.args.pending.now.rests.items in
    let ms = c.args.pending.now.met.list.items in
    subst (λ (n : Rest). All (IsMet h (waiting h rs n ++ record { left = Comp c.in-Part.k; right = Comp c.in-Part.l } ∷ [])) ms) (sym c.after_first-next.ensures)
    (part_met h c.requires.fit.fit rs c.args.rest c.requires.some c.requires.waiting ms c.requires.met c.args.older.now c.requires.apart
    c.follow-left.result c.follow-right.result c.follow-left.ensures c.follow-right.ensures c.compare_shorts.result c.compare_shorts.ensures
    c.in-Part.k c.in-Part.l c.in-Part.is)

pub returns-in-Equal-clause-moved : goal.returns-in-Equal-clause-moved
returns-in-Equal-clause-moved c =
    let h = heap_of c.args.cells.now in
    let rs = c.args.pending.now.rests.items in
    let ms = c.args.pending.now.met.list.items in
    let p = pair_at h.args h.args c.args.rest in
    subst (λ (n : Rest). Met h rs (rest_after c.args.rest) p h rs n ms c.args.older.now) (sym c.after_first-next.ensures)
    (next_equal h c.requires.fit.fit rs c.args.rest c.requires.some c.requires.waiting ms c.requires.met c.args.older.now c.requires.apart
    c.follow-left.result c.follow-right.result c.follow-left.ensures c.follow-right.ensures c.compare_shorts.result c.compare_shorts.ensures
    c.in-Equal.is)

pub returns-in-Differ-clause-moved : goal.returns-in-Differ-clause-moved
returns-in-Differ-clause-moved c =
    let h = heap_of c.args.cells.now in
    let rs = c.args.pending.now.rests.items in
    let ms = c.args.pending.now.met.list.items in
    next_differs h c.requires.fit.fit rs c.args.rest c.requires.some c.requires.waiting ms c.requires.met c.args.older.now c.requires.apart
    c.follow-left.result c.follow-right.result c.follow-left.ensures c.follow-right.ensures c.compare_shorts.result c.compare_shorts.ensures
    h c.in-Differ.is

pub returns-in_ok-bind_short-in-Join-clause-moved : goal.returns-in_ok-bind_short-in-Join-clause-moved
returns-in_ok-bind_short-in-Join-clause-moved c =
    let h = heap_of c.args.cells.now in
    let rs = c.args.pending.now.rests.items in
    let ms = c.args.pending.now.met.list.items in
    let p = pair_at h.args h.args c.args.rest in
    let o = c.args.older.now in
    let q : Older = record { slots = o.slots; heads = o.heads; top = c.raised-older.result } in
    subst (λ d. Met h rs (rest_after c.args.rest) p d rs c.after_first-next.result ms q) (sym c.in_ok-bind_short-in-Join.ensures.bound)
    (subst (λ (n : Rest). Met h rs (rest_after c.args.rest) p (pushed h c.in-Join.slot (Var c.in-Join.other)) rs n ms q) (sym c.after_first-next.ensures)
    (next_joined h c.requires.fit.fit rs c.args.rest c.requires.some c.requires.waiting ms c.requires.met c.args.older.now c.requires.apart
    c.follow-left.result c.follow-right.result c.follow-left.ensures c.follow-right.ensures c.compare_shorts.result c.compare_shorts.ensures
    c.in-Join.slot c.in-Join.other q c.in-Join.is refl refl c.raised-older.ensures.raised c.raised-older.ensures.above))

pub returns-in_ok-bind_short-in-Give-clause-moved : goal.returns-in_ok-bind_short-in-Give-clause-moved
returns-in_ok-bind_short-in-Give-clause-moved c =
    let h = heap_of c.args.cells.now in
    let rs = c.args.pending.now.rests.items in
    let ms = c.args.pending.now.met.list.items in
    let p = pair_at h.args h.args c.args.rest in
    let o = c.args.older.now in
    subst (λ d. Met h rs (rest_after c.args.rest) p d rs c.after_first-next.result ms o) (sym c.in_ok-bind_short-in-Give.ensures.bound)
    (subst (λ (n : Rest). Met h rs (rest_after c.args.rest) p (pushed h c.in-Give.slot (long_word [] c.in-Give.short)) rs n ms o) (sym c.after_first-next.ensures)
    (next_given h c.requires.fit.fit rs c.args.rest c.requires.some c.requires.waiting ms c.requires.met c.args.older.now c.requires.apart
    c.follow-left.result c.follow-right.result c.follow-left.ensures c.follow-right.ensures c.compare_shorts.result c.compare_shorts.ensures
    c.in-Give.slot c.in-Give.short c.in-Give.is))

pub returns-in-Part-clause-moved : goal.returns-in-Part-clause-moved
returns-in-Part-clause-moved c =
    let h = heap_of c.args.cells.now in
    let rs = c.args.pending.now.rests.items in
    let ms = c.args.pending.now.met.list.items in
    let ss = c.meet.new.pending.rests.items in
    let ns = c.meet.new.pending.met.list.items in
    next_parted h c.requires.fit.fit rs c.args.rest c.requires.some c.requires.waiting ms c.requires.met c.args.older.now c.requires.apart
    c.follow-left.result c.follow-right.result c.follow-left.ensures c.follow-right.ensures c.compare_shorts.result c.compare_shorts.ensures
    c.meet.result c.in-Part.k c.in-Part.l ss ns c.in-Part.is
    (subst (λ (n : Rest). IfOk c.meet.result (λ r. Opened r h c.in-Part.k c.in-Part.l rs n ss ns)) c.after_first-next.ensures c.meet.ensures)
