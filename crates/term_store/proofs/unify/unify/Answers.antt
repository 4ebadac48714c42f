use Rattle.std.proofs.Common.{◌++◌, ap, subst, ◌∙◌, append_assoc}
use Rattle.term_store.specs.Cells.{heap_of}
use Rattle.term_store.specs.Heap.{Heap, with_trail}
use Rattle.term_store.specs.Rests.{pair_at, rest_after}
use Rattle.term_store.specs.Unifying.{Grown}
use Rattle.term_store.specs.Waiting.{Refilled, waiting}
use Rattle.term_store.proofs.Handing.{TakenOn, goes_further, met_taken, moved_never, moved_some, never_further, none_on, taken_on}
use Rattle.term_store.proofs.Turning.{unifies}
use Rattle.term_store.proofs.unify.unify.Goals as goal

grown_twice : (c d e : Heap) → Grown c d → Grown d e → Grown c e
grown_twice c d e g k =
    record {
      bonds = g.bonds ++ k.bonds;
      grown =
          k.grown ∙ ap (λ h. with_trail h (h.trail ++ k.bonds)) g.grown
          ∙ ap (with_trail c) (append_assoc c.trail g.bonds k.bonds);
    }

pub returns-then-not-refill-clause-solves : goal.returns-then-not-refill-clause-solves
returns-then-not-refill-clause-solves c =
    let d = heap_of c.loop.cells in
    let rs = c.loop.pending.rests.items in
    unifies (heap_of c.args.cells.now) d c.args.left c.args.right (waiting d rs c.loop.hand) c.loop.invariant.goes
    (none_on d rs c.loop.hand c.refill.new.rests.items
    (subst (λ b. Refilled b rs c.loop.hand c.refill.new.rests.items c.refill.new.hand) c.if-not-refill.true c.refill.ensures))

pub meet_next-requires-clause-some : goal.meet_next-requires-clause-some
meet_next-requires-clause-some c =
    let d = heap_of c.loop.cells in
    let rs = c.loop.pending.rests.items in
    let ss = c.refill.new.rests.items in
    let rest = c.refill.new.hand in
    let t : TakenOn d rs c.loop.hand ss rest =
    taken_on d rs c.loop.hand ss rest c.loop.invariant.waits (subst (λ b. Refilled b rs c.loop.hand ss rest) c.if-not-refill.false c.refill.ensures) in
    t.some

pub meet_next-requires-clause-waiting : goal.meet_next-requires-clause-waiting
meet_next-requires-clause-waiting c =
    let d = heap_of c.loop.cells in
    let rs = c.loop.pending.rests.items in
    let ss = c.refill.new.rests.items in
    let rest = c.refill.new.hand in
    let t : TakenOn d rs c.loop.hand ss rest =
    taken_on d rs c.loop.hand ss rest c.loop.invariant.waits (subst (λ b. Refilled b rs c.loop.hand ss rest) c.if-not-refill.false c.refill.ensures) in
    t.kept

pub meet_next-requires-clause-met : goal.meet_next-requires-clause-met
meet_next-requires-clause-met c =
    let d = heap_of c.loop.cells in
    let rs = c.loop.pending.rests.items in
    let ss = c.refill.new.rests.items in
    let rest = c.refill.new.hand in
    let t : TakenOn d rs c.loop.hand ss rest =
    taken_on d rs c.loop.hand ss rest c.loop.invariant.waits (subst (λ b. Refilled b rs c.loop.hand ss rest) c.if-not-refill.false c.refill.ensures) in
    met_taken (heap_of c.args.cells.now) d c.args.left c.args.right rs c.loop.hand ss rest c.loop.invariant.goes t c.loop.pending.met.list.items c.loop.invariant.met

pub returns-in_default-2-clause-solves : goal.returns-in_default-2-clause-solves
returns-in_default-2-clause-solves c =
    let d = heap_of c.loop.cells in
    let rs = c.loop.pending.rests.items in
    let ss = c.refill.new.rests.items in
    let rest = c.refill.new.hand in
    let t : TakenOn d rs c.loop.hand ss rest =
    taken_on d rs c.loop.hand ss rest c.loop.invariant.waits (subst (λ b. Refilled b rs c.loop.hand ss rest) c.if-not-refill.false c.refill.ensures) in
    let e = heap_of c.meet_next.new.cells in
    never_further (heap_of c.args.cells.now) d c.args.left c.args.right rs c.loop.hand ss rest c.loop.invariant.goes t e
    (moved_never c.in_ok-next.field-0 d ss (rest_after rest) (pair_at d.args d.args rest) e c.meet_next.new.pending.rests.items
    c.meet_next.new.pending.met.list.items c.meet_next.new.older c.in_default-2.not-Some c.in_ok-next.ensures.moved)

pub loop-preserved : goal.loop-preserved
loop-preserved c =
    let d = heap_of c.loop.cells in
    let rs = c.loop.pending.rests.items in
    let ss = c.refill.new.rests.items in
    let rest = c.refill.new.hand in
    let t : TakenOn d rs c.loop.hand ss rest =
    taken_on d rs c.loop.hand ss rest c.loop.invariant.waits (subst (λ b. Refilled b rs c.loop.hand ss rest) c.if-not-refill.false c.refill.ensures) in
    let b = heap_of c.args.cells.now in
    let e = heap_of c.meet_next.new.cells in
    let xs = c.meet_next.new.pending.rests.items in
    let ms = c.meet_next.new.pending.met.list.items in
    let o = c.meet_next.new.older in
    let next = c.in-Some-2.next in
    let m =
    moved_some c.in_ok-next.field-0 next d ss (rest_after rest) (pair_at d.args d.args rest) e xs ms o c.in-Some-2.is c.in_ok-next.ensures.moved in
    record {
      fit = c.meet_next.ensures.fit;
      apart = m.apart;
      grown = grown_twice b d e c.loop.invariant.grown c.meet_next.ensures.grown;
      waits = m.waits;
      goes = goes_further b d c.args.left c.args.right rs c.loop.hand ss rest c.loop.invariant.goes t e xs next ms o m;
      met = m.met;
    }
