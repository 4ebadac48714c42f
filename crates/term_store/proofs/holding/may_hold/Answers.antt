use Rattle.std.proofs.Common.{◌≡◌, inl, inr, ◌<◌, length, None, refl, sym, ap, subst, ◌∙◌, arith}
use Rattle.std.specs.List.{All}
use Rattle.std.proofs.lemmas.Bool.{cases_lt}
use Rattle.term_store.specs.Blocks.{arguments_of}
use Rattle.term_store.specs.Cells.{heap_of}
use Rattle.term_store.specs.Entering.{IsHarmless}
use Rattle.term_store.specs.Fit.{IsIn}
use Rattle.term_store.specs.Heap.{Heap, find}
use Rattle.term_store.proofs.holding.may_hold.Goals as goal

pub loop-j-init : goal.loop-j-init
loop-j-init c =
    record {
      fit = c.requires.fit;
      kept = refl;
      harmless = λ i lo hi. absurd (omega (arith, lo, hi, ap (λ r. r.low) c.range_of-range.ensures));
    }

pub has_met-requires-clause-slot : goal.has_met-requires-clause-slot
has_met-requires-clause-slot c = subst (λ (g : Heap). c.args.slot < length g.numbers) (sym c.loop-j.invariant.kept) c.requires.slot

pub has_met-requires-clause-free : goal.has_met-requires-clause-free
has_met-requires-clause-free c = subst (λ (g : Heap). find c.args.slot g.trail ≡ None) (sym c.loop-j.invariant.kept) c.requires.free

pub has_met-requires-clause-known : goal.has_met-requires-clause-known
has_met-requires-clause-known c = subst (λ (g : Heap). All (IsIn g) c.args.known.now.items) (sym c.loop-j.invariant.kept) c.requires.known

pub loop-j-preserved : goal.loop-j-preserved
loop-j-preserved c =
    let inv = c.loop-j.invariant in
    let known = c.args.known.now.items in
    record {
      fit = c.has_met.ensures.fit;
      kept = c.has_met.ensures.kept ∙ inv.kept;
      harmless = λ i lo hi. elim (cases_lt i c.loop-j.j) [
        | inl below ↦ inv.harmless i lo below
        | inr up ↦
            let same : c.loop-j.j ≡ i = omega arith in
            subst (λ j. All (IsHarmless (heap_of c.args.cells.now) c.args.slot known c.args.before) (arguments_of c.args.block.now j)) same
            (subst (λ (h : Heap). All (IsHarmless h c.args.slot known c.args.before) (arguments_of c.args.block.now c.loop-j.j)) inv.kept
            (c.in_ok-met.ensures.none c.if-met.false))
      ];
    }

pub returns-in_err-met-clause-kept : goal.returns-in_err-met-clause-kept
returns-in_err-met-clause-kept c = c.has_met.ensures.kept ∙ c.loop-j.invariant.kept

pub returns-then-met-clause-kept : goal.returns-then-met-clause-kept
returns-then-met-clause-kept c = c.has_met.ensures.kept ∙ c.loop-j.invariant.kept

pub returns-clause-none : goal.returns-clause-none
returns-clause-none c _ j lo hi = c.loop-j.invariant.harmless j lo (omega (arith, hi, c.loop-j-test.false))
