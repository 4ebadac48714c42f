use Rattle.std.proofs.Common.{◌≡◌, ◌-◌, ◌+◌, suc, zero, length, refl, arith}
use Rattle.source_check.proofs.Lines.{comes_done, comes_last, comes_left, comes_more, comes_start}
use Rattle.source_check.proofs.listing.checked.Goals.{else-loop-test, then-loop-test+in-End}
use Rattle.source_check.proofs.listing.checked.Goals as goal

pub loop-init : goal.loop-init
loop-init c =
    let all : length c.args.bytes.now + 1 - 0 ≡ suc (length c.args.bytes.now) = omega arith in
    (comes_start c.args.name.now c.args.bytes.now _ c.in_ok-checker.checker all c.in_ok-checker.ensures.stands, c.in_ok-checker.ensures.counted, refl)

pub loop-preserved : goal.loop-preserved
loop-preserved c =
    let name = c.args.name.now in
    let bytes = c.args.bytes.now in
    let n = length bytes + 1 - (c.loop.counter + 1) in
    let before : length bytes + 1 - c.loop.counter ≡ suc n = omega (arith, c.loop-test.true) in (
      comes_more name bytes n c.in-Item.at c.loop.checker c.take.new.self
          (comes_left name bytes (length bytes + 1 - c.loop.counter) (suc n) c.loop.checker before c.loop.invariant.0)
          c.in-Item.is
          c.in_ok-take-in-Item.ensures.stands,
      omega (arith, c.in_ok-take-in-Item.ensures.counted, c.loop.invariant.1),
      refl,
    )

pub returns : goal.returns
returns c =
    let name = c.args.name.now in
    let bytes = c.args.bytes.now in
    elim c.loop-test.branch [
      | else-loop-test w ↦
          let over : length bytes + 1 - c.loop.counter ≡ zero = omega (arith, w.loop-test.false) in
          comes_last name bytes c.loop.checker (comes_left name bytes (length bytes + 1 - c.loop.counter) zero c.loop.checker over c.loop.invariant.0)
      | then-loop-test+in-End w ↦ comes_done name bytes (length bytes + 1 - c.loop.counter) c.loop.checker c.loop.invariant.0 w.in-End.is
    ]
