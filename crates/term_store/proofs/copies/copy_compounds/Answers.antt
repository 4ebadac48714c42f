use Rattle.std.proofs.Common.{◌≡◌, ◌⊎◌, inl, inr, ℕ, ◌+◌, ◌<◌, ◌≤◌, length, List, get_or, map, refl, sym, subst, arith}
use Rattle.std.specs.List.{All}
use Rattle.std.proofs.lemmas.Bool.{cases_lt}
use Rattle.std.proofs.lemmas.List.Elements.{All-weaker}
use Rattle.term_store.specs.declared.words.Word.{Word}
use Rattle.term_store.specs.declared.words.Word.TheVariants.{Comp}
use Rattle.term_store.specs.declared.block.Block.{Block}
use Rattle.term_store.specs.declared.block.Range.{Range}
use Rattle.term_store.specs.Blocks.{IsBlock, IsPart, arguments_of, copied, no_range}
use Rattle.term_store.specs.Cells.{heap_of}
use Rattle.term_store.specs.Entering.{IsGroundBefore}
use Rattle.term_store.specs.Fit.{IsIn, no_head}
use Rattle.term_store.specs.Heap.{Heap, meaning}
use Rattle.term_store.specs.Making.{Made}
use Rattle.term_store.specs.Nodes.{Gains}
use Rattle.term_store.proofs.Copying.{copied_more, head_fits, none_copied, parts_ready, words_inside}
use Rattle.term_store.proofs.Finding.{ground_earlier}
use Rattle.term_store.proofs.Stacking.{gains_none, gains_made, gains_twice}
use Rattle.term_store.proofs.copies.copy_compounds.Goals as goal

pub loop-j-init : goal.loop-j-init
loop-j-init c =
    let h = heap_of c.args.cells.now in
    let low = c.range_of-range.result.low in
    record {
      fit = c.requires.fit;
      gains = gains_none h;
      many = omega (arith, c.len-above.ensures, c.args.cells.now.heads.ok.0);
      copied = λ from. none_copied c.args.block.now c.requires.block h from c.args.known.now.items c.requires.known low c.len-above.result h;
      ground = λ _ i lo hi. absurd (omega (arith, lo, hi));
    }

pub returns-in_err-copy_compound-clause-gains : goal.returns-in_err-copy_compound-clause-gains
returns-in_err-copy_compound-clause-gains c =
    subst (Gains (heap_of c.args.cells.now)) (sym c.in_err-copy_compound.ensures.kept) c.loop-j.invariant.gains

-- The parts of the compound term that is made next.
parts_of_next : (b : Block) → IsBlock b → (known : List Word) (k j : ℕ) (r : Range) → k < length b.heads.items → r ≡ get_or b.ranges.items k no_range
    → (get_or b.ranges.items k no_range).variables ≤ length known → r.low ≤ j → j < k + 1
    → All (IsPart (record { low = r.low; variables = length known })) (arguments_of b j)
parts_of_next b block known k j r inside e ready lo hi =
    subst (λ q. All (IsPart (record { low = q.low; variables = length known })) (arguments_of b j)) (sym e)
    (parts_ready b block known k inside ready j (subst (λ q. q.low ≤ j) e lo) hi)

pub copy_compound-requires-clause-parts : goal.copy_compound-requires-clause-parts
copy_compound-requires-clause-parts c =
    parts_of_next c.args.block.now c.requires.block c.args.known.now.items c.args.k c.loop-j.j c.range_of-range.result c.requires.inside c.range_of-range.ensures
    c.requires.ready c.loop-j.auto.j c.loop-j-test.true

pub copy_compound-requires-clause-inside : goal.copy_compound-requires-clause-inside
copy_compound-requires-clause-inside c =
    let inside = c.requires.inside in
    words_inside c.args.block.now c.requires.block (heap_of c.args.cells.now) 0 c.args.known.now.items c.requires.known c.range_of-range.result.low c.len-above.result
    c.loop-j.j (heap_of c.loop-j.cells) c.loop-j.invariant.gains.keeps.inside c.loop-j.invariant.many (arguments_of c.args.block.now c.loop-j.j)
    (head_fits c.args.block.now c.requires.block c.loop-j.j (omega (arith, c.loop-j-test.true))).earlier
    (parts_of_next c.args.block.now c.requires.block c.args.known.now.items c.args.k c.loop-j.j c.range_of-range.result c.requires.inside c.range_of-range.ensures
    c.requires.ready c.loop-j.auto.j c.loop-j-test.true)

-- The compound terms before one, and that one.
ground_next : (c d : Heap) (known : List Word) (before : ℕ) (b : Block) (low i j : ℕ) → All (IsIn c) known → before ≤ length known
    → ((w : Word) → IsIn c w → meaning d w ≡ meaning c w)
    → ((i : ℕ) → low ≤ i → i < j → All (IsGroundBefore c known before) (arguments_of b i)) → All (IsGroundBefore d known before) (arguments_of b j)
    → low ≤ i → i < j + 1 → All (IsGroundBefore c known before) (arguments_of b i)
ground_next c d known before b low i j words few means done here lo hi = go (cases_lt i j)
  where
    go : (i < j) ⊎ (j ≤ i) → All (IsGroundBefore c known before) (arguments_of b i)
    go (inl less) = done i lo less
    go (inr more) =
        let is : j ≡ i = omega (arith, more, hi) in
        subst (λ n. All (IsGroundBefore c known before) (arguments_of b n)) is
        (All-weaker (IsGroundBefore d known before) (IsGroundBefore c known before) (ground_earlier c d known before words few means) (arguments_of b j) here)

pub loop-j-preserved : goal.loop-j-preserved
loop-j-preserved c =
    let b = c.args.block.now in
    let h = heap_of c.args.cells.now in
    let before = heap_of c.loop-j.cells in
    let after = heap_of c.copy_compound.new.cells in
    let j = c.loop-j.j in
    let low = c.range_of-range.result.low in
    let above = c.len-above.result in
    let known = c.args.known.now.items in
    let inv = c.loop-j.invariant in
    let inside = c.requires.inside in
    let many = inv.many in
    let heads = c.in_ok-copy_compound.ensures.heads in
    let parts =
    parts_of_next b c.requires.block known c.args.k j c.range_of-range.result c.requires.inside c.range_of-range.ensures c.requires.ready c.loop-j.auto.j
    c.loop-j-test.true in
    let m : Made before (get_or b.heads.items j no_head).name (map (copied known low above) (arguments_of b j)) after (Comp (length before.heads)) =
    c.in_ok-copy_compound.ensures.made in
    record {
      fit = c.copy_compound.ensures.fit;
      gains = gains_twice h before after inv.gains (gains_made before after _ _ _ m);
      many = omega (arith, many, heads);
      copied = λ from.
          copied_more b c.requires.block h from known c.requires.known low above j before after (get_or b.heads.items j no_head) inv.gains.keeps.means
          (omega (arith, c.loop-j-test.true)) c.loop-j.auto.j refl inv.many (inv.copied from) parts m;
      ground = λ e i lo hi.
          ground_next h before known c.args.before b low i j c.requires.known c.requires.few inv.gains.keeps.means
          (inv.ground (c.in_ok-copy_compound.ensures.before e)) (c.in_ok-copy_compound.ensures.ground e) lo hi;
    }

pub returns-clause-ground : goal.returns-clause-ground
returns-clause-ground c e j lo hi =
    c.loop-j.invariant.ground e j (subst (λ (q : Range). q.low ≤ j) (sym c.range_of-range.ensures) lo) (omega (arith, hi, c.loop-j-test.false))
