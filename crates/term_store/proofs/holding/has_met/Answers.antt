use Rattle.std.proofs.Common.{◌≡◌, ◌+◌, ◌<◌, ◌≤◌, length, get_or, pos, None, refl, sym, take, subst, ◌∙◌, arith}
use Rattle.std.specs.List.{All}
use Rattle.term_store.specs.declared.words.Head.{Head}
use Rattle.term_store.specs.declared.words.Word.TheVariants.{Int}
use Rattle.term_store.specs.Cells.{heap_of}
use Rattle.term_store.specs.Entering.{IsHarmless}
use Rattle.term_store.specs.Fit.{IsIn, no_head}
use Rattle.term_store.specs.Heap.{Heap, find, words_of}
use Rattle.term_store.proofs.Copying.{head_fits}
use Rattle.term_store.proofs.Harmless.{harmless_kept}
use Rattle.term_store.proofs.Slicing.{arguments_all, arguments_more}
use Rattle.term_store.proofs.holding.has_met.Goals as goal

pub is_met-requires-clause-slot : goal.is_met-requires-clause-slot
is_met-requires-clause-slot c = subst (λ (g : Heap). c.args.slot < length g.numbers) (sym c.loop-i.invariant.kept) c.requires.slot

pub is_met-requires-clause-free : goal.is_met-requires-clause-free
is_met-requires-clause-free c = subst (λ (g : Heap). find c.args.slot g.trail ≡ None) (sym c.loop-i.invariant.kept) c.requires.free

pub is_met-requires-clause-known : goal.is_met-requires-clause-known
is_met-requires-clause-known c = subst (λ (g : Heap). All (IsIn g) c.args.known.now.items) (sym c.loop-i.invariant.kept) c.requires.known

pub is_met-requires-clause-at : goal.is_met-requires-clause-at
is_met-requires-clause-at c =
    let within =
    subst (λ (g : Head). g.start + g.count ≤ length c.args.block.now.args.items) (sym c.block_head-head.ensures)
    (head_fits c.args.block.now c.requires.block c.args.j c.requires.here).within in
    omega (arith, within, c.loop-i-test.true)

pub loop-i-preserved : goal.loop-i-preserved
loop-i-preserved c =
    let inv = c.loop-i.invariant in
    let h = heap_of c.args.cells.now in
    let b = c.args.block.now in
    let known = c.args.known.now.items in
    let fits = head_fits b c.requires.block c.args.j c.requires.here in
    let is = c.block_head-head.ensures in
    let g = c.block_head-head.result in
    let w = get_or b.args.items (g.start + c.loop-i.i) (Int (pos 0)) in
    record {
      fit = c.is_met.ensures.fit;
      kept = c.is_met.ensures.kept ∙ inv.kept;
      harmless =
          subst (λ (e : Head). All (IsHarmless h c.args.slot known c.args.before) (take (c.loop-i.i + 1) (words_of b.args.items e))) is
          (arguments_more (IsHarmless h c.args.slot known c.args.before) b.args.items g c.loop-i.i w
          (subst (λ (e : Head). e.start + e.count ≤ length b.args.items) (sym is) fits.within) c.loop-i-test.true refl
          (subst (λ (e : Head). All (IsHarmless h c.args.slot known c.args.before) (take c.loop-i.i (words_of b.args.items e))) (sym is) inv.harmless)
          (harmless_kept (heap_of c.loop-i.cells) h c.args.slot known c.args.before w inv.kept (c.in_ok-met.ensures.none c.if-met.false)));
    }

pub returns-in_err-met-clause-kept : goal.returns-in_err-met-clause-kept
returns-in_err-met-clause-kept c = c.is_met.ensures.kept ∙ c.loop-i.invariant.kept

pub returns-then-met-clause-kept : goal.returns-then-met-clause-kept
returns-then-met-clause-kept c = c.is_met.ensures.kept ∙ c.loop-i.invariant.kept

pub returns-clause-none : goal.returns-clause-none
returns-clause-none c _ =
    let b = c.args.block.now in
    let fits = head_fits b c.requires.block c.args.j c.requires.here in
    let past = subst (λ (e : Head). e.count ≤ c.loop-i.i) c.block_head-head.ensures (omega (arith, c.loop-i-test.false)) in
    subst (All (IsHarmless (heap_of c.args.cells.now) c.args.slot c.args.known.now.items c.args.before))
    (arguments_all b.args.items (get_or b.heads.items c.args.j no_head) c.loop-i.i fits.within past) c.loop-i.invariant.harmless
