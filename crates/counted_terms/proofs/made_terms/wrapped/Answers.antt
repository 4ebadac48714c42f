use Rattle.std.proofs.Common.{◌≡◌, ℕ, List, [], ◌∷◌, ◌++◌, sym, ap, subst, ◌∙◌}
use Rattle.std.specs.Option.{IsSome}
use Rattle.std.proofs.lemmas.Result.{IfOk-weaker}
use Rattle.pl_term.specs.Tree.{Tree}
use Rattle.pl_term.specs.Nodes.{nodes}
use Rattle.term_store.specs.Nodes.{node_views}
use Rattle.term_store.specs.NumberedNames.{names_of}
use Rattle.std.specs.List.{All}
use Rattle.counted_terms.specs.CountedTerms.{said}
use Rattle.counted_terms.proofs.MadeTerms.{one, one_named, one_nodes, one_same, one_says, whole}
use Rattle.counted_terms.proofs.made_terms.wrapped.Goals as goal

pub from_nodes-requires : goal.from_nodes-requires
from_nodes-requires c = (
  one c.slot.result c.args.argument.now,
  ap node_views (c.as_slice.ensures.value ∙ c.in_ok-nodes.ensures) ∙ one_nodes c.nodes.result.now c.args.argument.now c.nodes.ensures.spelled c.slot.result,
)

pub returns-clause-says : goal.returns-clause-says
returns-clause-says c =
    let b = c.args.argument.now in
    let f = c.slot.result in
    IfOk-weaker c.from_nodes.result _ _
    (λ e made m t stand p.
    ap (said m) (whole c.as_slice.result.now (one f b) e (ap node_views (c.as_slice.ensures.value ∙ c.in_ok-nodes.ensures) ∙ one_nodes c.nodes.result.now b c.nodes.ensures.spelled f) made (one_same b c.nodes.ensures.numbered f))
    ∙ one_says m stand f b t (ap m c.slot.ensures ∙ p))
    c.from_nodes.ensures

pub returns-clause-named : goal.returns-clause-named
returns-clause-named c =
    let b = c.args.argument.now in
    let f = c.slot.result in
    IfOk-weaker c.from_nodes.result _ _
    (λ e made m p all.
    subst (λ (z : Tree). All (λ k. IsSome (m k)) (names_of z)) (sym (whole c.as_slice.result.now (one f b) e (ap node_views (c.as_slice.ensures.value ∙ c.in_ok-nodes.ensures) ∙ one_nodes c.nodes.result.now b c.nodes.ensures.spelled f) made (one_same b c.nodes.ensures.numbered f)))
    (one_named m b all f (subst (λ (k : ℕ). IsSome (m k)) (sym c.slot.ensures) p)))
    c.from_nodes.ensures
