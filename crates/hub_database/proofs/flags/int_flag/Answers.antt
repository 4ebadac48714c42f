use Rattle.std.proofs.Common.{to_z, of_z, w64, [], refl, sym, ap, subst, ◌∙◌}
use Rattle.std.specs.Prelude.{IsSome}
use Rattle.std.proofs.lemmas.Int.{to_z-of_z}
use Rattle.std.specs.List.{All}
use Rattle.std.proofs.lemmas.List.Elements.{All-nil, All-cons}
use Rattle.pl_term.specs.Tree.{Tree, int}
use Rattle.term_store.specs.NumberedNames.{names_of, neck}
use Rattle.counted_terms.specs.CountedTerms.{said}
use Rattle.counted_terms.proofs.MadeTerms.{neck_some}
use Rattle.hub_database.proofs.flags.int_flag.Goals as goal

pub from_nodes-requires : goal.from_nodes-requires
from_nodes-requires c = (int (to_z w64 (of_z w64 c.args.value)), refl)

pub returns : goal.returns
returns c = λ t f. record {
  flag = λ m stand. stand c.args.flag t f;
  value = λ m stand. ap (said m) c.in_ok-value.ensures ∙ ap int (to_z-of_z w64 c.args.value c.ranges.value);
  named = λ m stand. subst (λ (z : Tree). All (λ k. IsSome (m k)) (names_of z)) (sym c.in_ok-value.ensures) (All-cons (λ k. IsSome (m k)) neck [] (neck_some m stand) (All-nil (λ k. IsSome (m k))));
}
