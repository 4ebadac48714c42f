use Rattle.std.proofs.Common.{refl, sym, subst}
use Rattle.term_store.specs.declared.words.Word.TheVariants.{Atom}
use Rattle.term_store.specs.declared.shorts.Short.TheVariants.{Slot}
use Rattle.term_store.specs.Cells.{IsFree, heap_of}
use Rattle.term_store.specs.Entering.{Joined}
use Rattle.term_store.specs.Fit.{IsIn}
use Rattle.term_store.specs.Heap.{meaning, numbered}
use Rattle.term_store.proofs.Constants.{atom_bound, atoms_joined, other_never}
use Rattle.term_store.proofs.Entering.{constant_absent}
use Rattle.term_store.proofs.Extending.{extends_grown, extends_longer}
use Rattle.term_store.proofs.Knowing.{longer_same}
use Rattle.term_store.proofs.Shorting.{word_is}
use Rattle.term_store.proofs.heads.meet_name.Goals as goal

pub bind_short-requires-clause-slot : goal.bind_short-requires-clause-slot
bind_short-requires-clause-slot c =
    let f = c.requires.held.1 in
    subst (IsIn (heap_of c.args.cells.now)) (word_is c.args.held (Slot c.in-Slot.slot) f.word tt c.in-Slot.is f.short) f.inside

pub bind_short-requires-clause-free : goal.bind_short-requires-clause-free
bind_short-requires-clause-free c =
    let f = c.requires.held.1 in
    subst (IsFree (heap_of c.args.cells.now)) (word_is c.args.held (Slot c.in-Slot.slot) f.word tt c.in-Slot.is f.short) f.free

pub bind_short-requires-clause-absent : goal.bind_short-requires-clause-absent
bind_short-requires-clause-absent c =
    let h = heap_of c.args.cells.now in
    constant_absent h (numbered h c.in-Slot.slot) (Atom c.args.atom) tt

pub returns-in_err-bind_short-in-Slot-clause-extends : goal.returns-in_err-bind_short-in-Slot-clause-extends
returns-in_err-bind_short-in-Slot-clause-extends c =
    let h = heap_of c.args.cells.now in
    let d = heap_of c.bind_short.new.cells in
    extends_longer h d (longer_same h d c.in_err-bind_short-in-Slot.ensures.kept)

pub returns-in_ok-bind_short-in-Slot-clause-extends : goal.returns-in_ok-bind_short-in-Slot-clause-extends
returns-in_ok-bind_short-in-Slot-clause-extends c =
    let h = heap_of c.args.cells.now in
    let d = heap_of c.bind_short.new.cells in
    extends_grown h d (record { bonds = _; grown = c.in_ok-bind_short-in-Slot.ensures.bound })

pub returns-in_ok-bind_short-in-Slot-clause-joins : goal.returns-in_ok-bind_short-in-Slot-clause-joins
returns-in_ok-bind_short-in-Slot-clause-joins c w f from known known_is =
    let h = heap_of c.args.cells.now in
    subst (λ d. Joined h from known w (meaning h (Atom c.args.atom)) d known) (sym c.in_ok-bind_short-in-Slot.ensures.bound)
    (atom_bound h c.requires.fit.fit c.args.held w f c.args.atom from known c.in-Slot.slot c.in-Slot.is known_is)

pub returns-in-Name-clause-extends : goal.returns-in-Name-clause-extends
returns-in-Name-clause-extends c = let h = heap_of c.args.cells.now in extends_longer h h (longer_same h h refl)

pub returns-in-Name-clause-joins : goal.returns-in-Name-clause-joins
returns-in-Name-clause-joins c w f from known known_is =
    let h = heap_of c.args.cells.now in
    atoms_joined h c.requires.fit.fit c.args.held w f c.args.atom from known c.in-Name.a c.in-Name.is known_is

pub returns-in_default-clause-extends : goal.returns-in_default-clause-extends
returns-in_default-clause-extends c = let h = heap_of c.args.cells.now in extends_longer h h (longer_same h h refl)

pub returns-in_default-clause-joins : goal.returns-in_default-clause-joins
returns-in_default-clause-joins c w f from known known_is =
    let h = heap_of c.args.cells.now in
    other_never h c.requires.fit.fit c.args.held w f c.args.atom from known c.in_default.not-Slot
    c.in_default.not-Name
