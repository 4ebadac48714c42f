use Rattle.std.proofs.Common.{◌<◌, ◌^◌, arith, refl, sym, ap, subst, ◌∙◌, to_z, of_z, w64, []}
use Rattle.std.specs.Prelude.{IsSome, codes}
use Rattle.std.specs.List.{All}
use Rattle.std.proofs.Math.Facts.{to_z_pos}
use Rattle.std.proofs.lemmas.List.Elements.{All-nil, All-cons}
use Rattle.std.proofs.lemmas.Result.{IfOk-weaker}
use Rattle.pl_term.specs.Tree.{Tree, int}
use Rattle.pl_model.specs.ErrorTerms.{domain_error}
use Rattle.term_store.specs.NumberedNames.{names_of, neck}
use Rattle.counted_terms.specs.CountedTerms.{said}
use Rattle.counted_terms.proofs.MadeTerms.{neck_some, two, two_named, two_says}
use Rattle.hub_database.proofs.Errors.{some_held}
use Rattle.hub_database.proofs.PutOperators.{domain_fixed, priority_fixed}
use Rattle.hub_database.proofs.operators.priority_error.Goals as goal

pub from_nodes-requires : goal.from_nodes-requires
from_nodes-requires c = (two c.slot.result c.slot-2.result (int (to_z w64 (of_z w64 c.from.result))), refl)

pub returns : goal.returns
returns c =
    let f = c.slot.result in
    let a = c.slot-2.result in
    let low : c.args.priority < 2 ^ 63 = (let fits = c.ranges.priority.fits in omega (arith, fits)) in
    let number = int (to_z w64 (of_z w64 c.from.result)) in
    IfOk-weaker c.from_nodes.result _ _
    (λ e made m stand held. (
      ap (said m) made
          ∙ two_says m stand f a number (codes "domain_error") (codes "operator_priority") (ap m c.slot.ensures ∙ stand 77 (codes "domain_error") domain_fixed) (ap m c.slot-2.ensures ∙ stand 138 (codes "operator_priority") priority_fixed)
          ∙ ap (λ i. domain_error (codes "operator_priority") (int i)) (ap (λ i. to_z w64 (of_z w64 i)) c.from.ensures ∙ to_z_pos w64 low),
      subst (λ (z : Tree). All (λ k. IsSome (m k)) (names_of z)) (sym made)
          (two_named m number (All-cons (λ k. IsSome (m k)) neck [] (neck_some m stand) (All-nil (λ k. IsSome (m k)))) f a
          (subst (λ k. IsSome (m k)) (sym c.slot.ensures) (some_held m 77 (codes "domain_error") stand domain_fixed)) (subst (λ k. IsSome (m k)) (sym c.slot-2.ensures) (some_held m 138 (codes "operator_priority") stand priority_fixed))),
    ))
    c.from_nodes.ensures
