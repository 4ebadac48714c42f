use Rattle.std.proofs.Common.{◌≤◌, ltb, ltb-true, ltb-false, length, arith, rules, refl, ap, subst}
use Rattle.std.specs.Slice.{IsItemAt}
use Rattle.std.proofs.lemmas.List.Sorted.{IsPartitionPoint-from_clause, IsPartitionedBy-ltb}
use Rattle.std.proofs.lemmas.Option.{slice_get_read, get_or_from_slice_get}
use Rattle.gen_core.proofs.NumberLaws.{gap_is, not_falling}
use Rattle.gen_core.proofs.number_map.search.Goals as goal

pub returns-else-item-number-2 : goal.returns-else-item-number-2
returns-else-item-number-2 g c =
    let xs = c.args.items.now in
    let at = c.partition_point-at.result in
    let parted = IsPartitionedBy-ltb (λ x. x.number) xs c.args.number (not_falling xs c.requires) in
    let point = IsPartitionPoint-from_clause (λ x. ltb x.number c.args.number) xs at c.partition_point-at.ensures.partitioned parted (λ a r q k. search rules) in
    let item = subst (IsItemAt xs at) c.in-Some-get.is c.get-2.ensures.lookup in
    let here = slice_get_read xs (length xs) at c.in-Some-get.item.now refl item.3.0 item.1 in
    gap_is xs at c.args.number c.partition_point-at.ensures.bound (λ k d lt. ltb-true _ _ (point.0 k d (omega arith) lt))
    (λ d lt.
    let le = ltb-false _ _ (point.1 at d (omega arith) lt) in
    let same = ap (λ x. x.number) (get_or_from_slice_get xs at c.in-Some-get.item.now d here) in
    let other = c.if-item-number-2.false in
    omega arith)

pub returns-in-None : goal.returns-in-None
returns-in-None g c =
    let xs = c.args.items.now in
    let at = c.partition_point-at.result in
    let parted = IsPartitionedBy-ltb (λ x. x.number) xs c.args.number (not_falling xs c.requires) in
    let point = IsPartitionPoint-from_clause (λ x. ltb x.number c.args.number) xs at c.partition_point-at.ensures.partitioned parted (λ a r q k. search rules) in
    let item = subst (IsItemAt xs at) c.in-None.is c.get-2.ensures.lookup in
    gap_is xs at c.args.number c.partition_point-at.ensures.bound (λ k d lt. ltb-true _ _ (point.0 k d (omega arith) lt)) (λ d lt. let past : length xs ≤ at = item.3 in let no : ⊥ = omega arith in absurd no)
