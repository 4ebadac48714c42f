use Rattle.std.proofs.Common.{◌≡◌, ◌+◌, ◌++◌, suc, length, map, refl, rules, take, ap, sym, subst, ◌∙◌, arith}
use Rattle.std.specs.BTreeSet as set
use Rattle.std.proofs.lemmas.Iterator.{YieldsList-from_map, YieldsList-from_slice}
use Rattle.std.proofs.lemmas.Iterator.Adapters.{fact_from_collect}
use Rattle.std.proofs.lemmas.Iterator.Consumers.{YieldsList-at}
use Rattle.std.proofs.lemmas.List.{take_all}
use Rattle.std.proofs.lemmas.Option.{slice_get_read}
use borrow.Author.Tests.{tests}
use Rattle.gen_core.specs.NumberMaps.{flat}
use Rattle.gen_core.specs.ClauseIndex.{pair_order, erased_from}
use Rattle.gen_core.proofs.Listed.{at_ok}
use Rattle.gen_core.proofs.RowReads.{erasure_of, erasures_more, mapped_same}
use Rattle.gen_core.proofs.clause_index.erasures.Goals as goal

pub loop-row-preserved : goal.loop-row-preserved
loop-row-preserved g c =
    let rows = c.rows-rows.result.now in
    let row = c.row-item.result in
    let here = slice_get_read rows (length rows) c.loop-row.row-index row refl (omega (arith, c.loop-row-test.true)) c.row-item.is in
    let next : suc c.loop-row.row-index ≡ c.loop-row.row-index + 1 = omega arith in
    subst (λ n. c.push_erasures.new.pairs.items ≡ map (erasure_of c.args.place) (flat (take n rows))) next
    (c.in_ok-push_erasures.ensures
    ∙ ap (λ xs. c.loop-row.pairs.items ++ map (λ x. (erased_from c.args.place x.value.dated, x.number)) xs) c.as_slice.ensures.value
    ∙ ap (λ ps. ps ++ map (λ x. (erased_from c.args.place x.value.dated, x.number)) row.value.items) c.loop-row.invariant
    ∙ sym (erasures_more c.args.place rows c.loop-row.row-index row here))

pub returns : goal.returns
returns g c =
    let rows = c.rows-rows.result.now in
    let made : set.IsFromIterResult pair_order (map (λ p. p) c.deref.result.now) c.in_ok-all.all =
    at_ok _ _ _ c.in_ok-all.was
    (fact_from_collect (set.IsFromIterResult pair_order) c.collect.result c.collect.ensures.ran (YieldsList-from_map _ (λ p. p) (YieldsList-at c.map.ensures.source (YieldsList-from_slice c.deref.result.now c.iter.ensures.rest)) c.map.ensures.closure (λ x r q k. search (rules, tests)))) in
    subst (λ ps. set.IsFromIterResult pair_order ps c.in_ok-all.all)
    (mapped_same c.deref.result.now
    ∙ c.deref.ensures.value
    ∙ c.loop-row.invariant
    ∙ ap (λ rs. map (erasure_of c.args.place) (flat rs)) (take_all c.loop-row.row-index rows (omega (arith, c.loop-row-test.false)))
    ∙ ap (map (erasure_of c.args.place)) c.rows-rows.ensures)
    made
