use Rattle.std.specs.List.{All}
use Rattle.std.proofs.Common.{subst, take, arith}
use Rattle.term_store.specs.Blocks.{IsPart}
use Rattle.term_store.specs.Fit.{IsWord}
use Rattle.term_store.specs.Heap.{words_of}
use Rattle.term_store.proofs.Ranging.{parts_wider}
use Rattle.term_store.proofs.Slicing.{argument_is, arguments_all, arguments_more}
use Rattle.term_store.proofs.block.own_range.Goals as goal

pub with_word-range-requires-clause-word : goal.with_word-range-requires-clause-word
with_word-range-requires-clause-word c =
    argument_is (IsWord c.args.count c.args.k) c.args.args.now.items c.args.head c.loop-i.i c.get-word.result c.requires.within c.loop-i-test.true c.get-word.ensures
    c.requires.words

pub loop-i-preserved : goal.loop-i-preserved
loop-i-preserved c =
    let inv = c.loop-i.invariant in
    let e = c.with_word-range.ensures in
    let low = e.low in
    let before = inv.low in
    record {
      low = omega arith;
      few = e.few;
      parts =
          arguments_more (IsPart c.with_word-range.result) c.args.args.now.items c.args.head c.loop-i.i c.get-word.result c.requires.within c.loop-i-test.true
          c.get-word.ensures
          (parts_wider c.loop-i.range c.with_word-range.result (take c.loop-i.i (words_of c.args.args.now.items c.args.head)) e.low e.more inv.parts) e.part;
    }

pub returns-clause-parts : goal.returns-clause-parts
returns-clause-parts c =
    subst (All (IsPart c.loop-i.range)) (arguments_all c.args.args.now.items c.args.head c.loop-i.i c.requires.within (omega (arith, c.loop-i-test.false)))
    c.loop-i.invariant.parts
