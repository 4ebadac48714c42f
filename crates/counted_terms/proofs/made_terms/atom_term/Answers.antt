use Rattle.std.proofs.Common.{◌≡◌, ℕ, [], ◌∷◌, refl, sym, ap, subst, ◌∙◌}
use Rattle.std.specs.Option.{IsSome}
use Rattle.std.specs.List.{All}
use Rattle.std.proofs.lemmas.List.Elements.{All-nil, All-cons}
use Rattle.std.proofs.lemmas.Result.{IfOk-weaker}
use Rattle.pl_term.specs.Tree.{Tree, atom}
use Rattle.term_store.specs.Heap.{atom_name}
use Rattle.term_store.specs.NumberedNames.{names_of, neck}
use Rattle.counted_terms.specs.CountedTerms.{said}
use Rattle.counted_terms.proofs.MadeTerms.{atom_says, neck_some}
use Rattle.counted_terms.proofs.made_terms.atom_term.Goals as goal

pub from_nodes-requires : goal.from_nodes-requires
from_nodes-requires c = (atom (atom_name c.slot.result), refl)

pub returns-clause-says : goal.returns-clause-says
returns-clause-says c =
    IfOk-weaker c.from_nodes.result _ _ (λ e made m t stand p. ap (said m) made ∙ atom_says m stand c.slot.result t (ap m c.slot.ensures ∙ p)) c.from_nodes.ensures

pub returns-clause-named : goal.returns-clause-named
returns-clause-named c =
    IfOk-weaker c.from_nodes.result _ _
    (λ e made m stand p. subst (λ (z : Tree). All (λ k. IsSome (m k)) (names_of z)) (sym made)
    (All-cons (λ k. IsSome (m k)) neck (c.slot.result ∷ []) (neck_some m stand) (All-cons (λ k. IsSome (m k)) c.slot.result [] (subst (λ (k : ℕ). IsSome (m k)) (sym c.slot.ensures) p) (All-nil (λ k. IsSome (m k))))))
    c.from_nodes.ensures
