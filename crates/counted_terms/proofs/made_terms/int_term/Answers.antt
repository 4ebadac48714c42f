use Rattle.std.proofs.Common.{◌≡◌, ℕ, [], ◌∷◌, refl, sym, subst, to_z, w64}
use Rattle.std.specs.Option.{IsSome}
use Rattle.std.specs.List.{All}
use Rattle.std.proofs.lemmas.List.Elements.{All-nil, All-cons}
use Rattle.std.proofs.lemmas.Result.{IfOk-weaker}
use Rattle.pl_term.specs.Tree.{Tree, int}
use Rattle.term_store.specs.NumberedNames.{names_of, neck}
use Rattle.counted_terms.proofs.MadeTerms.{neck_some}
use Rattle.counted_terms.proofs.made_terms.int_term.Goals as goal

pub from_nodes-requires : goal.from_nodes-requires
from_nodes-requires c = (int (to_z w64 c.args.n), refl)

pub returns-clause-named : goal.returns-clause-named
returns-clause-named c =
    IfOk-weaker c.from_nodes.result _ _
    (λ e made m stand. subst (λ (z : Tree). All (λ k. IsSome (m k)) (names_of z)) (sym made)
    (All-cons (λ k. IsSome (m k)) neck [] (neck_some m stand) (All-nil (λ k. IsSome (m k)))))
    c.from_nodes.ensures
