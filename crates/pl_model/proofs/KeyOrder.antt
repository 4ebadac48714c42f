-- The order of the table is total, and only a key itself ties with it.
use Rattle.std.proofs.Common.{◌≡◌, ap}
use Rattle.std.specs.Ordering.{nat_cmp}
use Rattle.std.specs.Cmp.{IsTotalOrder, nat_cmp_total}
use Rattle.std.proofs.lemmas.Cmp.{then_total, on_total, nat_list_cmp_total}
use Rattle.std.proofs.lemmas.Map.Lookups.{exact_pairs, exact_bytes, exact_unsigned}
use Rattle.std.specs.FinMap.{IsAntisymmetric}
use Rattle.std.specs.declared.cmp.Ordering.TheVariants.{Equal}
use Rattle.pl_term.specs.Order.{text_order}
use Rattle.pl_model.specs.OperatorTable.{Key, key_order, place_rank, place_ranked, place_ranked-rank}
use Rattle.pl_model.specs.declared.operators.Place.{Place}
use Rattle.std.proofs.Common.{sym, ◌∙◌}

pub key_order_total : IsTotalOrder key_order
key_order_total =
    then_total (on_total (λ (k : Key). k.0) nat_list_cmp_total) (on_total (λ (k : Key). place_rank k.1) nat_cmp_total)

same_place : (p q : Place) → nat_cmp (place_rank p) (place_rank q) ≡ Equal → p ≡ q
same_place p q e =
    sym (place_ranked-rank p) ∙ ap place_ranked (exact_unsigned (place_rank p) (place_rank q) e) ∙ place_ranked-rank q

pub key_order_exact : IsAntisymmetric key_order
key_order_exact = exact_pairs text_order (λ p q. nat_cmp (place_rank p) (place_rank q)) exact_bytes same_place
