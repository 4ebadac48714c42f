use Rattle.std.proofs.Common.{◌≡◌, ◌+◌, ◌≤◌, zero, get_or, length, subst, arith}
use Rattle.std.proofs.lemmas.List.Elements.{All-get_or}
use Rattle.pl_term.specs.Variables.{variables}
use Rattle.iso_search.specs.declared.copies.Copied.{Copied}
use Rattle.iso_search.proofs.CopyTerms.{above_more, built_more, left_first, left_more, rise_each}
use Rattle.iso_search.proofs.findall.build_all.Goals as goal

pub build-requires-clause-room : goal.build-requires-clause-room
build-requires-clause-room c =
    let cs = c.args.copies.now in
    let x = c.copy-item.result in
    let i = c.loop-copy.copy-index in
    let seen = c.copy-item.is in
    let found : get_or cs i x ≡ x = cc in
    let r = c.requires.rise in
    let first = left_first c.loop-copy.store cs r.0 i x c.loop-copy-test.true found (c.loop-copy.invariant.left r.0 r.1.0) in
    omega (arith, first.1, r.1.1)

pub loop-copy-preserved : goal.loop-copy-preserved
loop-copy-preserved c =
    let s = c.args.store.now in
    let t = c.loop-copy.store in
    let u = c.build.new.self in
    let cs = c.args.copies.now in
    let x = c.copy-item.result in
    let i = c.loop-copy.copy-index in
    let seen = c.copy-item.is in
    let found : get_or cs i x ≡ x = cc in
    let lt = c.loop-copy-test.true in
    let above = c.in_ok-place.ensures.above in
    let n = x.from + length (variables x.term) in
    record {
      built =
          built_more s t u cs i x c.loop-copy.places.items c.push.new.self.items c.in_ok-place.place lt found c.loop-copy.invariant.built
          c.in_ok-place.ensures.built c.in_ok-place.ensures.adds c.in_ok-push.ensures.items;
      left = λ high r. left_more t u cs high i x lt found (c.loop-copy.invariant.left high r) above;
      above =
          λ low h r.
          let P : Copied → Type 0 = λ y. y.from + length (variables y.term) ≤ low in
          let here = subst P found (All-get_or P cs i x lt (rise_each zero cs low r)) in
          above_more n low u here above;
    }
