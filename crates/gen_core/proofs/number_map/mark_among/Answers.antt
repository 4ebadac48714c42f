use Rattle.std.proofs.Common.{◌≡◌, Some, ap, length, refl, subst, ◌∙◌}
use Rattle.std.specs.List.{slice_get}
use Rattle.std.proofs.lemmas.Option.{slice_get_read}
use Rattle.gen_core.specs.NumberMaps.{IsGap, numbers_of, pairs_of}
use Rattle.gen_core.proofs.NumberLaws.{lookup_gap, numbers_set, place_number, place_within}
use Rattle.gen_core.proofs.Markings.{marked_none, marked_place}
use Rattle.gen_core.proofs.number_map.mark_among.Goals as goal

pub returns-in-Ok-clause-numbers : goal.returns-in-Ok-clause-numbers
returns-in-Ok-clause-numbers g c =
    let xs = c.args.items.now.items in
    let there = subst (λ ys. slice_get (numbers_of ys) c.in-Ok.i ≡ Some c.args.number) c.as_slice.ensures.value c.in-Ok.ensures in
    numbers_set c.args.number xs c.in-Ok.i _ (ap (λ x. x.number) c.index_mut.ensures.value ∙ place_number xs c.in-Ok.i c.args.number c.index_mut.result.now there) there

pub returns-in-Ok-clause-pairs : goal.returns-in-Ok-clause-pairs
returns-in-Ok-clause-pairs g c =
    let xs = c.args.items.now.items in
    let there = subst (λ ys. slice_get (numbers_of ys) c.in-Ok.i ≡ Some c.args.number) c.as_slice.ensures.value c.in-Ok.ensures in
    let here = slice_get_read xs (length xs) c.in-Ok.i c.index_mut.result.now refl (place_within xs c.in-Ok.i c.args.number there) c.index_mut.ensures.value in
    marked_place c.args.number c.args.place xs c.in-Ok.i c.index_mut.result.now c.requires there here

pub returns-in_default-clause-pairs : goal.returns-in_default-clause-pairs
returns-in_default-clause-pairs g c =
    let xs = c.args.items.now.items in
    let gap = subst (λ ys. IsGap (numbers_of ys) c.args.number c.in_default.field-0) c.as_slice.ensures.value c.in_default.ensures in
    marked_none c.args.number c.args.place (pairs_of xs) (lookup_gap c.args.number xs c.in_default.field-0 c.requires gap)
