use Rattle.std.proofs.Common.{get_or, pos}
use Rattle.term_store.specs.declared.words.Word.TheVariants.{Int, Atom}
use Rattle.term_store.specs.declared.shorts.Short.TheVariants.{Slot, Number, Name}
use Rattle.term_store.specs.Cells.{heap_of}
use Rattle.term_store.specs.Frontiers.{IsNewer}
use Rattle.term_store.proofs.Closing.{harmless_newer}
use Rattle.term_store.proofs.Constants.{harmless_constant}
use Rattle.term_store.proofs.Shorting.{word_is}
use Rattle.term_store.proofs.holding.is_met.Goals as goal

pub returns-in-Number-clause-none : goal.returns-in-Number-clause-none
returns-in-Number-clause-none c _ =
    let known = c.args.known.now.items in
    let p = get_or c.args.block.now.args.items c.args.at (Int (pos 0)) in
    let x = c.in-Slot.x in
    harmless_constant (heap_of c.args.cells.now) c.args.slot known c.args.before x p (Int c.in-Number.field-0)
    (word_is c.short.result (Slot x) p tt c.in-Slot.is c.short.ensures) tt
    (word_is c.short-2.result (Number c.in-Number.field-0) (get_or known x (Int (pos 0))) tt c.in-Number.is c.short-2.ensures)

pub returns-in-Name-clause-none : goal.returns-in-Name-clause-none
returns-in-Name-clause-none c _ =
    let known = c.args.known.now.items in
    let p = get_or c.args.block.now.args.items c.args.at (Int (pos 0)) in
    let x = c.in-Slot.x in
    harmless_constant (heap_of c.args.cells.now) c.args.slot known c.args.before x p (Atom c.in-Name.field-0)
    (word_is c.short.result (Slot x) p tt c.in-Slot.is c.short.ensures) tt
    (word_is c.short-2.result (Name c.in-Name.field-0) (get_or known x (Int (pos 0))) tt c.in-Name.is c.short-2.ensures)

pub returns-then-is_newer-clause-none : goal.returns-then-is_newer-clause-none
returns-then-is_newer-clause-none c _ =
    let h = heap_of c.args.cells.now in
    let known = c.args.known.now.items in
    let p = get_or c.args.block.now.args.items c.args.at (Int (pos 0)) in
    let x = c.in-Slot.x in
    let f = c.args.cells.now.frontier in
    let newer : IsNewer f c.args.slot c.short-2.result = c.is_newer.ensures c.if-is_newer.true in
    harmless_newer h f c.args.slot known c.args.before x p c.short-2.result c.requires.fit.fit c.requires.fit.closed c.requires.slot
    (word_is c.short.result (Slot x) p tt c.in-Slot.is c.short.ensures) newer c.short-2.ensures
