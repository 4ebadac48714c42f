use Rattle.std.proofs.Common.{◌≡◌, ◌/◌, Some, arith, ap, refl, sym, subst, ◌∙◌}
use Rattle.std.specs.List.{AllByRecursion, slice_get}
use Rattle.std.specs.List.Sorted.{IsStrictlySortedBy}
use Rattle.std.specs.Ordering.{nat_cmp}
use Rattle.gen_core.specs.NumberMaps.{IsAscending, IsGap, numbers_of, pairs_of}
use Rattle.gen_core.proofs.NumberLaws.{all_put, gap_within, insert_gap, insert_place, numbers_set, sorted_put}
use Rattle.gen_core.proofs.number_map.put.Goals as goal

pub insert-requires : goal.insert-requires
insert-requires g c =
    let le = gap_within c.as_slice.result.now c.in-Err.i c.args.number c.in-Err.ensures in
    let len = c.as_slice.ensures.len in
    omega arith

pub returns-in-Ok-clause-ascending : goal.returns-in-Ok-clause-ascending
returns-in-Ok-clause-ascending g c =
    let here = subst (λ xs. slice_get (numbers_of xs) c.in-Ok.i ≡ Some c.args.number) c.as_slice.ensures.value c.in-Ok.ensures in
    subst (IsStrictlySortedBy nat_cmp) (sym (numbers_set c.args.number c.args.items.now.items c.in-Ok.i (record { number = c.args.number; value = c.args.value }) refl here)) c.requires

pub returns-in-Ok-clause-ok : goal.returns-in-Ok-clause-ok
returns-in-Ok-clause-ok g c =
    let here = subst (λ xs. slice_get (numbers_of xs) c.in-Ok.i ≡ Some c.args.number) c.as_slice.ensures.value c.in-Ok.ensures in
    sym (insert_place c.args.number c.args.items.now.items c.in-Ok.i c.args.value c.requires here)

pub returns-in-Ok-insert-clause-ascending : goal.returns-in-Ok-insert-clause-ascending
returns-in-Ok-insert-clause-ascending g c =
    let gap = subst (λ xs. IsGap (numbers_of xs) c.args.number c.in-Err.i) c.as_slice.ensures.value c.in-Err.ensures in
    subst IsAscending (sym c.in-Ok-insert.ensures.items) (sorted_put c.args.items.now.items c.in-Err.i (record { number = c.args.number; value = c.args.value }) c.requires gap)

pub returns-in-Ok-insert-clause-ok : goal.returns-in-Ok-insert-clause-ok
returns-in-Ok-insert-clause-ok g c =
    let gap = subst (λ xs. IsGap (numbers_of xs) c.args.number c.in-Err.i) c.as_slice.ensures.value c.in-Err.ensures in
    ap pairs_of c.in-Ok-insert.ensures.items ∙ sym (insert_gap c.args.number c.args.items.now.items c.in-Err.i c.args.value gap)

pub returns-in-Ok-clause-quotient : goal.returns-in-Ok-clause-quotient
returns-in-Ok-clause-quotient g c = λ n e a.
    let here = subst (λ xs. slice_get (numbers_of xs) c.in-Ok.i ≡ Some c.args.number) c.as_slice.ensures.value c.in-Ok.ensures in
    subst (AllByRecursion (λ k. k / 64 ≡ n)) (sym (numbers_set c.args.number c.args.items.now.items c.in-Ok.i (record { number = c.args.number; value = c.args.value }) refl here)) a

pub returns-in-Ok-insert-clause-quotient : goal.returns-in-Ok-insert-clause-quotient
returns-in-Ok-insert-clause-quotient g c = λ n e a.
    subst (λ xs. AllByRecursion (λ k. k / 64 ≡ n) (numbers_of xs)) (sym c.in-Ok-insert.ensures.items)
    (all_put (λ k. k / 64 ≡ n) c.args.items.now.items c.in-Err.i (record { number = c.args.number; value = c.args.value }) a e)
