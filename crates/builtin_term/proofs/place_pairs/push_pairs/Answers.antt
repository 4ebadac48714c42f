use Rattle.std.proofs.Common.{◌<◌, ◌-◌, [], length, arith}
use Rattle.pl_term.specs.Tree.{atom}
use Rattle.term_store.specs.Contents.{arguments_at}
use Rattle.builtin_term.specs.declared.place_pairs.Pair.{Pair}
use Rattle.builtin_term.proofs.Seeing.{arguments_long}
use Rattle.builtin_term.proofs.Comparing.{gains_all, gains_more, gains_none}
use Rattle.builtin_term.proofs.Stacking.{argument_pairs}
use Rattle.builtin_term.proofs.place_pairs.push_pairs.Goals as goal

pub loop-i-init : goal.loop-i-init
loop-i-init c =
    let s = c.args.store.now in
    let ts = arguments_at s c.args.left in
    let us = arguments_at s c.args.right in
    record {
      within = omega arith;
      gains =
          gains_none s ts us c.args.pending.now.items c.len-i.result (omega (arith, arguments_long s c.args.left c.requires.left, c.len-i.ensures))
          (omega (arith, arguments_long s c.args.right c.requires.right, c.requires.count, c.len-i.ensures));
      pairs = λ m these those all. all;
    }

pub loop-i-preserved : goal.loop-i-preserved
loop-i-preserved c =
    let s = c.args.store.now in
    let ts = arguments_at s c.args.left in
    let us = arguments_at s c.args.right in
    let i = c.loop-i.i in
    let within = c.loop-i.invariant.within in
    let some = c.loop-i-test.true in
    let left : i - 1 < length ts = omega (arith, arguments_long s c.args.left c.requires.left, within, some) in
    let right : i - 1 < length us = omega (arith, arguments_long s c.args.right c.requires.right, c.requires.count, within, some) in
    let p : Pair = record { left = c.argument.result; right = c.argument-in-loop-i.result } in
    record {
      within = omega arith;
      gains =
          gains_more s ts us c.args.pending.now.items c.loop-i.pending.items c.push.new.self.items p i (atom []) some left right
          c.loop-i.invariant.gains c.in_ok-push.ensures.ok c.argument.ensures.stands c.argument-in-loop-i.ensures.stands;
      pairs = λ m these those all.
          argument_pairs m s ts us c.loop-i.pending.items c.push.new.self.items p (i - 1) (atom []) left right these those
          (c.loop-i.invariant.pairs m these those all) c.in_ok-push.ensures.ok c.argument.ensures.holds c.argument-in-loop-i.ensures.holds
          c.argument.ensures.stands c.argument-in-loop-i.ensures.stands;
    }

pub returns-clause-gains : goal.returns-clause-gains
returns-clause-gains c =
    let s = c.args.store.now in
    gains_all s (arguments_at s c.args.left) (arguments_at s c.args.right) c.args.pending.now.items c.loop-i.pending.items c.loop-i.i (omega arith)
    c.loop-i.invariant.gains
