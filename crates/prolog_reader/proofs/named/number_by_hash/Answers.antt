use Rattle.std.proofs.Common.{◌≡◌, Some, refl, ap, sym, ◌∙◌, arith}
use Rattle.std.specs.Prelude.{nat_eq}
use Rattle.std.specs.HashMap as table
use Rattle.std.proofs.lemmas.Option.{none-some, same_Some}
use Rattle.prolog_reader.specs.ByHash.{hash_of}
use Rattle.prolog_reader.specs.declared.names.NamedVariable.{NamedVariable}
use Rattle.prolog_reader.proofs.ByHash.{none_by_hash, other_by_hash, one_by_hash, at_place, no_place}
use Rattle.prolog_reader.proofs.named.number_by_hash.Goals as goal

pub returns-in_default : goal.returns-in_default
returns-in_default c =
    none_by_hash c.args.names.now c.args.by_hash.now c.args.name.now c.requires
    (ap (table.get nat_eq c.args.by_hash.now) (sym c.hash_of.ensures) ∙ sym c.in_default.ensures.value)

pub returns-then-place-lt-FEW : goal.returns-then-place-lt-FEW
returns-then-place-lt-FEW c =
    other_by_hash c.args.names.now c.args.by_hash.now c.args.name.now c.requires c.in-Some.place.now
    (ap (table.get nat_eq c.args.by_hash.now) (sym c.hash_of.ensures) ∙ sym c.in-Some.ensures.value)
    (λ n above is same. absurd (omega (arith, above, c.if-place-lt-FEW.true)))

pub returns-then-same : goal.returns-then-same
returns-then-same c =
    one_by_hash c.args.names.now c.args.by_hash.now c.args.name.now c.requires c.in-Some.place.now c.in-Some-get.named.now
    (ap (table.get nat_eq c.args.by_hash.now) (sym c.hash_of.ensures) ∙ sym c.in-Some.ensures.value)
    (omega (arith, c.if-place-lt-FEW.false))
    (at_place c.args.names.now c.in-Some.place.now c.get-2.result c.in-Some-get.named c.in-Some-get.is c.get-2.ensures.lookup)
    (c.if-same.ensures.0 refl)

pub returns-else-same : goal.returns-else-same
returns-else-same c =
    other_by_hash c.args.names.now c.args.by_hash.now c.args.name.now c.requires c.in-Some.place.now
    (ap (table.get nat_eq c.args.by_hash.now) (sym c.hash_of.ensures) ∙ sym c.in-Some.ensures.value)
    (λ n above is same.
    let here : Some c.in-Some-get.named.now ≡ Some n = sym (at_place c.args.names.now c.in-Some.place.now c.get-2.result c.in-Some-get.named c.in-Some-get.is c.get-2.ensures.lookup) ∙ is in
    let h = c.if-same.ensures.1 (ap (λ (m : NamedVariable). m.name) (same_Some c.in-Some-get.named.now n here) ∙ same) in cc h)

pub returns-in-None : goal.returns-in-None
returns-in-None c =
    other_by_hash c.args.names.now c.args.by_hash.now c.args.name.now c.requires c.in-Some.place.now
    (ap (table.get nat_eq c.args.by_hash.now) (sym c.hash_of.ensures) ∙ sym c.in-Some.ensures.value)
    (λ n above is same. none-some n (sym (no_place c.args.names.now c.in-Some.place.now c.get-2.result c.in-None.is c.get-2.ensures.lookup) ∙ is))
