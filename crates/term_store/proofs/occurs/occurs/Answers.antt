use Rattle.std.proofs.Common.{sym, ◌∙◌, refl, arith}
use Rattle.term_store.specs.Cells.{heap_of}
use Rattle.term_store.proofs.Apartness.{apart_pushed, bounds_tell}
use Rattle.term_store.proofs.Closing.{closed_apart}
use Rattle.term_store.proofs.occurs.occurs.Goals as goal

pub returns-then-is_apart-clause-has : goal.returns-then-is_apart-clause-has
returns-then-is_apart-clause-has c =
    let h = heap_of c.args.cells.now in
    sym (bounds_tell h c.args.older.now c.args.slot c.args.word c.requires.apart c.requires.slot (sym c.is_apart.ensures ∙ c.if-is_apart.true)).0

pub returns-then-is_apart-clause-apart : goal.returns-then-is_apart-clause-apart
returns-then-is_apart-clause-apart c _ =
    let h = heap_of c.args.cells.now in
    let o = c.args.older.now in
    apart_pushed h c.args.slot c.args.word o o c.requires.apart refl refl (omega arith)
    (bounds_tell h o c.args.slot c.args.word c.requires.apart c.requires.slot (sym c.is_apart.ensures ∙ c.if-is_apart.true)).1

pub returns-clause-apart : goal.returns-clause-apart
returns-clause-apart c absent =
    let h = heap_of c.args.cells.now in
    let o = c.args.older.now in
    let e = c.in_ok-found.ensures in
    apart_pushed h c.args.slot c.args.word o (record { slots = o.slots; heads = o.heads; top = c.is_found.new.top }) c.requires.apart refl refl e.raised
    (e.others absent)

pub returns-then-is_newer_word-clause-has : goal.returns-then-is_newer_word-clause-has
returns-then-is_newer_word-clause-has c =
    let h = heap_of c.args.cells.now in
    let newer = c.is_newer_word.ensures c.if-is_newer_word.true in
    sym (closed_apart h c.args.cells.now.frontier c.requires.fit.fit c.requires.fit.closed c.args.word newer.1 c.args.slot newer.0 c.requires.slot)

pub returns-then-is_newer_word-clause-apart : goal.returns-then-is_newer_word-clause-apart
returns-then-is_newer_word-clause-apart c _ =
    let h = heap_of c.args.cells.now in
    let o = c.args.older.now in
    let f = c.args.cells.now.frontier in
    let newer = c.is_newer_word.ensures c.if-is_newer_word.true in
    apart_pushed h c.args.slot c.args.word o (record { slots = o.slots; heads = o.heads; top = c.max-older.result }) c.requires.apart refl refl
    (omega (arith, c.max-older.ensures)) (λ i above below.
    closed_apart h f c.requires.fit.fit c.requires.fit.closed c.args.word newer.1 i (omega (arith, above, c.max-older.ensures)) below)
