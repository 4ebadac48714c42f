use Rattle.std.proofs.Common.{◌≡◌, ◌<◌, length, None, sym, ap, subst, ◌∙◌}
use Rattle.std.proofs.lemmas.List.Elements.{All-weaker}
use Rattle.pl_term.specs.Variables.{has}
use Rattle.term_store.specs.Apart.{IsApart}
use Rattle.term_store.specs.Blocks.{arguments_of}
use Rattle.term_store.specs.Cells.{heap_of}
use Rattle.term_store.specs.Entering.{IsGroundBefore, IsHarmless}
use Rattle.term_store.specs.Fit.{IsIn}
use Rattle.term_store.specs.Heap.{Heap, find, meaning, numbered}
use Rattle.term_store.proofs.Apartness.{apart_none}
use Rattle.term_store.proofs.Finding.{ground_harmless}
use Rattle.term_store.proofs.Harmless.{part_absent}
use Rattle.term_store.proofs.holding.is_held.Goals as goal

pub occurs-requires-clause-slot : goal.occurs-requires-clause-slot
occurs-requires-clause-slot c = subst (λ (g : Heap). c.args.slot < length g.numbers) (sym c.may_hold.ensures.kept) c.requires.slot

pub occurs-requires-clause-free : goal.occurs-requires-clause-free
occurs-requires-clause-free c = subst (λ (g : Heap). find c.args.slot g.trail ≡ None) (sym c.may_hold.ensures.kept) c.requires.free

pub occurs-requires-clause-inside : goal.occurs-requires-clause-inside
occurs-requires-clause-inside c = subst (λ (g : Heap). IsIn g c.args.word) (sym c.may_hold.ensures.kept) c.requires.inside

pub occurs-requires-clause-apart : goal.occurs-requires-clause-apart
occurs-requires-clause-apart c =
    subst (IsApart (heap_of c.may_hold.new.cells)) (sym c.none-older.ensures) (apart_none (heap_of c.may_hold.new.cells))

pub returns-then-not-may-clause-held : goal.returns-then-not-may-clause-held
returns-then-not-may-clause-held c =
    let e = heap_of c.args.cells.now in
    let means = c.requires.means in
    sym (ap (has (numbered e c.args.slot)) means.1
    ∙ part_absent c.args.block.now c.requires.block e means.0 c.args.known.now.items c.requires.known c.args.before c.args.slot c.args.k c.requires.part c.requires.ready
    c.requires.new (c.in_ok-may.ensures.none c.if-not-may.true))

pub returns-clause-held : goal.returns-clause-held
returns-clause-held c =
    c.in_ok-held.ensures.has ∙ ap (λ (g : Heap). has (numbered g c.args.slot) (meaning g c.args.word)) c.may_hold.ensures.kept

pub returns-then-not-met-clause-held : goal.returns-then-not-met-clause-held
returns-then-not-met-clause-held c =
    let e = heap_of c.args.cells.now in
    let b = c.args.block.now in
    let known = c.args.known.now.items in
    let means = c.requires.means in
    sym (ap (has (numbered e c.args.slot)) means.1
    ∙ part_absent b c.requires.block e means.0 known c.requires.known c.args.before c.args.slot c.args.k c.requires.part c.requires.ready c.requires.new
    (λ j lo hi.
    All-weaker (IsGroundBefore e known c.args.before) (IsHarmless e c.args.slot known c.args.before) (ground_harmless e c.args.slot known c.args.before) (arguments_of b j)
    (c.requires.ground c.if-not-met.true j lo hi)))
