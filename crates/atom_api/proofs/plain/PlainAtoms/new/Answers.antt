use Rattle.std.proofs.Common.{◌≡◌, ◌≤◌, ℕ, List, length, sym, ap, ◌∙◌, arith, Some, None, Option}
use Rattle.atom_api.specs.Fixed.{fixed, fixed_count}
use Rattle.atom_api.specs.Names.{Names, with_name}
use Rattle.atom_api.specs.Slots.{names_of}
use Rattle.atom_api.proofs.FixedTexts.{fixed_within}
use Rattle.atom_api.proofs.PlainFixed.{first_none, first_all, first_absent, first_next, next_slot, row_is, rows_count}
use Rattle.atom_api.proofs.plain.PlainAtoms.new.Goals as goal

pub loop-row-init : goal.loop-row-init
loop-row-init c =
    let empty : length c.new-slots.result.texts.items ≡ 0 = ap length c.new-slots.ensures in
    record {
      slots = omega arith;
      names = λ k. ap (λ (xs : List (Option (List ℕ))). names_of xs k) c.new-slots.ensures ∙ sym (first_none k);
    }

pub put-requires-clause-fits : goal.put-requires-clause-fits
put-requires-clause-fits c =
    let here : fixed c.loop-row.row-index ≡ Some c.row-item.result.1 =
    row_is c.deref-row-items.result.now c.in_ok-rows.rows.items c.loop-row.row-index c.row-item.result c.deref-row-items.ensures.value c.in_ok-rows.ensures c.loop-row-test.true c.row-item.is in
    (fixed_within c.loop-row.row-index c.row-item.result.1 here).1

pub put-requires-clause-absent : goal.put-requires-clause-absent
put-requires-clause-absent c =
    let here : fixed c.loop-row.row-index ≡ Some c.row-item.result.1 =
    row_is c.deref-row-items.result.now c.in_ok-rows.rows.items c.loop-row.row-index c.row-item.result c.deref-row-items.ensures.value c.in_ok-rows.ensures c.loop-row-test.true c.row-item.is in
    first_absent (names_of c.loop-row.slots.texts.items) c.loop-row.row-index c.row-item.result.1 c.loop-row.invariant.names here

pub loop-row-preserved : goal.loop-row-preserved
loop-row-preserved c =
    let here : fixed c.loop-row.row-index ≡ Some c.row-item.result.1 =
    row_is c.deref-row-items.result.now c.in_ok-rows.rows.items c.loop-row.row-index c.row-item.result c.deref-row-items.ensures.value c.in_ok-rows.ensures c.loop-row-test.true c.row-item.is in
    let free : (c.in_ok-put.field-0 ≤ length c.loop-row.slots.texts.items) × (names_of c.loop-row.slots.texts.items c.in_ok-put.field-0 ≡ None) = c.in_ok-put.ensures.free in
    let near : c.in_ok-put.field-0 ≤ c.loop-row.row-index = omega (arith, c.loop-row.invariant.slots, free.0) in
    let same : c.in_ok-put.field-0 ≡ c.loop-row.row-index =
    next_slot (names_of c.loop-row.slots.texts.items) c.loop-row.row-index c.in_ok-put.field-0 c.row-item.result.1 c.loop-row.invariant.names here near free.1 in
    record {
      slots = omega (arith, c.loop-row.invariant.slots, c.put.ensures.slots);
      names = λ k.
          ap (λ (m : Names). m k) c.in_ok-put.ensures.put
          ∙ ap (λ (a : ℕ). with_name (names_of c.loop-row.slots.texts.items) a c.row-item.result.1 k) same
          ∙ first_next (names_of c.loop-row.slots.texts.items) c.loop-row.row-index c.row-item.result.1 c.loop-row.invariant.names here k;
    }

pub invariant_of-result : goal.invariant_of-result
invariant_of-result c =
    let count : length c.deref-row-items.result.now ≡ fixed_count = rows_count c.deref-row-items.result.now c.in_ok-rows.rows.items c.deref-row-items.ensures.value c.in_ok-rows.ensures in
    let all : fixed_count ≤ c.loop-row.row-index = omega arith in
    record { fixed_stand = λ a t e. c.loop-row.invariant.names a ∙ first_all c.loop-row.row-index a all ∙ e }

pub returns : goal.returns
returns c =
    let count : length c.deref-row-items.result.now ≡ fixed_count = rows_count c.deref-row-items.result.now c.in_ok-rows.rows.items c.deref-row-items.ensures.value c.in_ok-rows.ensures in
    let all : fixed_count ≤ c.loop-row.row-index = omega arith in
    λ a. c.loop-row.invariant.names a ∙ first_all c.loop-row.row-index a all
