use Rattle.std.proofs.Common.{◌≡◌, ℕ, List, [], ◌∷◌, ◌++◌, sym, ap, subst, ◌∙◌}
use Rattle.std.specs.Option.{IsSome}
use Rattle.std.proofs.lemmas.Result.{IfOk-weaker}
use Rattle.pl_term.specs.Tree.{Tree}
use Rattle.pl_term.specs.Nodes.{nodes}
use Rattle.atom_api.specs.Names.{Names}
use Rattle.term_store.specs.Nodes.{node_views}
use Rattle.term_store.specs.NumberedNames.{names_of}
use Rattle.std.specs.List.{All}
use Rattle.counted_terms.specs.CountedTerms.{said}
use Rattle.counted_terms.proofs.MadeTerms.{two, two_named, two_nodes, two_same, two_says, whole}
use Rattle.counted_terms.proofs.made_terms.paired.Goals as goal

pub from_nodes-requires : goal.from_nodes-requires
from_nodes-requires c = (
  two c.slot.result c.slot-2.result c.args.behind.now,
  ap node_views (c.as_slice.ensures.value ∙ c.in_ok-nodes.ensures) ∙ two_nodes c.nodes.result.now c.args.behind.now c.nodes.ensures.spelled c.slot.result c.slot-2.result,
)

pub returns-clause-says : goal.returns-clause-says
returns-clause-says c =
    let b = c.args.behind.now in
    let f = c.slot.result in
    let a = c.slot-2.result in
    IfOk-weaker c.from_nodes.result _ _
    (λ e made m t u stand p q.
    ap (said m) (whole c.as_slice.result.now (two f a b) e (ap node_views (c.as_slice.ensures.value ∙ c.in_ok-nodes.ensures) ∙ two_nodes c.nodes.result.now b c.nodes.ensures.spelled f a) made (two_same b c.nodes.ensures.numbered f a))
    ∙ two_says m stand f a b t u (ap m c.slot.ensures ∙ p) (ap m c.slot-2.ensures ∙ q))
    c.from_nodes.ensures

pub returns-clause-named : goal.returns-clause-named
returns-clause-named c =
    let b = c.args.behind.now in
    let f = c.slot.result in
    let a = c.slot-2.result in
    IfOk-weaker c.from_nodes.result _ _
    (λ e made m p q all.
    subst (λ (z : Tree). All (λ k. IsSome (m k)) (names_of z)) (sym (whole c.as_slice.result.now (two f a b) e (ap node_views (c.as_slice.ensures.value ∙ c.in_ok-nodes.ensures) ∙ two_nodes c.nodes.result.now b c.nodes.ensures.spelled f a) made (two_same b c.nodes.ensures.numbered f a)))
    (two_named m b all f a (subst (λ (k : ℕ). IsSome (m k)) (sym c.slot.ensures) p) (subst (λ (k : ℕ). IsSome (m k)) (sym c.slot-2.ensures) q)))
    c.from_nodes.ensures
