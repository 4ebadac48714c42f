use Rattle.std.proofs.Common.{◌≡◌, ◌/◌, Some, ap, sym, subst, ◌∙◌}
use Rattle.std.specs.List.{AllByRecursion, slice_get}
use Rattle.gen_core.specs.NumberMaps.{IsAscending, IsGap, numbers_of, pairs_of}
use Rattle.gen_core.proofs.NumberLaws.{all_out, lookup_gap, remove_none, remove_place, sorted_out, value_place}
use Rattle.gen_core.proofs.number_map.take.Goals as goal

pub returns-in-Ok-clause-ascending : goal.returns-in-Ok-clause-ascending
returns-in-Ok-clause-ascending g c = subst IsAscending (sym c.remove.ensures.items) (sorted_out c.args.items.now.items c.in-Ok.i c.requires)

pub returns-in-Ok-clause-value : goal.returns-in-Ok-clause-value
returns-in-Ok-clause-value g c =
    let here = subst (λ xs. slice_get (numbers_of xs) c.in-Ok.i ≡ Some c.args.number) c.as_slice.ensures.value c.in-Ok.ensures in
    ap (λ v. Some v) (c.value_in.ensures ∙ ap (λ x. x.value) c.remove.ensures.value)
    ∙ value_place c.args.number c.args.items.now.items c.in-Ok.i c.remove.result c.requires here

pub returns-in-Ok-clause-pairs : goal.returns-in-Ok-clause-pairs
returns-in-Ok-clause-pairs g c =
    let here = subst (λ xs. slice_get (numbers_of xs) c.in-Ok.i ≡ Some c.args.number) c.as_slice.ensures.value c.in-Ok.ensures in
    ap pairs_of c.remove.ensures.items ∙ sym (remove_place c.args.number c.args.items.now.items c.in-Ok.i c.requires here)

pub returns-in-Err-clause-value : goal.returns-in-Err-clause-value
returns-in-Err-clause-value g c =
    let gap = subst (λ xs. IsGap (numbers_of xs) c.args.number c.in-Err.field-0) c.as_slice.ensures.value c.in-Err.ensures in
    sym (lookup_gap c.args.number c.args.items.now.items c.in-Err.field-0 c.requires gap)

pub returns-in-Err-clause-pairs : goal.returns-in-Err-clause-pairs
returns-in-Err-clause-pairs g c =
    let gap = subst (λ xs. IsGap (numbers_of xs) c.args.number c.in-Err.field-0) c.as_slice.ensures.value c.in-Err.ensures in
    sym (remove_none c.args.number (pairs_of c.args.items.now.items) (lookup_gap c.args.number c.args.items.now.items c.in-Err.field-0 c.requires gap))

pub returns-in-Ok-clause-quotient : goal.returns-in-Ok-clause-quotient
returns-in-Ok-clause-quotient g c = λ n a.
    subst (λ xs. AllByRecursion (λ k. k / 64 ≡ n) (numbers_of xs)) (sym c.remove.ensures.items) (all_out (λ k. k / 64 ≡ n) c.args.items.now.items c.in-Ok.i a)
