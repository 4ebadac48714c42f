use Rattle.std.proofs.Common.{◌≡◌, ℕ, List, [], ◌∷◌, ◌++◌, sym, ap, subst, ◌∙◌, codes}
use Rattle.std.specs.Option.{IsSome}
use Rattle.std.proofs.lemmas.Result.{IfOk-weaker}
use Rattle.pl_term.specs.Tree.{Tree}
use Rattle.pl_term.specs.Nodes.{nodes}
use Rattle.term_store.specs.Nodes.{node_views}
use Rattle.term_store.specs.NumberedNames.{names_of}
use Rattle.std.specs.List.{All}
use Rattle.counted_terms.specs.CountedTerms.{said}
use Rattle.counted_terms.proofs.MadeTerms.{three, three_named, three_nodes, three_same, three_says, whole, held_some, permission_is}
use Rattle.counted_terms.proofs.made_terms.permission_error.Goals as goal

pub from_nodes-requires : goal.from_nodes-requires
from_nodes-requires c = (
  three c.slot.result c.slot-2.result c.slot-3.result c.args.culprit.now,
  ap node_views (c.as_slice.ensures.value ∙ c.in_ok-nodes.ensures) ∙ three_nodes c.nodes.result.now c.args.culprit.now c.nodes.ensures.spelled c.slot.result c.slot-2.result c.slot-3.result,
)

pub returns-clause-says : goal.returns-clause-says
returns-clause-says c =
    let b = c.args.culprit.now in
    let f = c.slot.result in
    let a = c.slot-2.result in
    let d = c.slot-3.result in
    IfOk-weaker c.from_nodes.result _ _
    (λ e made m t u stand p q.
    ap (said m) (whole c.as_slice.result.now (three f a d b) e (ap node_views (c.as_slice.ensures.value ∙ c.in_ok-nodes.ensures) ∙ three_nodes c.nodes.result.now b c.nodes.ensures.spelled f a d) made (three_same b c.nodes.ensures.numbered f a d))
    ∙ three_says m stand f a d b (codes "permission_error") t u (ap m c.slot.ensures ∙ stand 142 (codes "permission_error") permission_is) (ap m c.slot-2.ensures ∙ p) (ap m c.slot-3.ensures ∙ q))
    c.from_nodes.ensures

pub returns-clause-named : goal.returns-clause-named
returns-clause-named c =
    let b = c.args.culprit.now in
    let f = c.slot.result in
    let a = c.slot-2.result in
    let d = c.slot-3.result in
    IfOk-weaker c.from_nodes.result _ _
    (λ e made m stand p q all.
    subst (λ (z : Tree). All (λ k. IsSome (m k)) (names_of z)) (sym (whole c.as_slice.result.now (three f a d b) e (ap node_views (c.as_slice.ensures.value ∙ c.in_ok-nodes.ensures) ∙ three_nodes c.nodes.result.now b c.nodes.ensures.spelled f a d) made (three_same b c.nodes.ensures.numbered f a d)))
    (three_named m b all f a d (held_some m f (codes "permission_error") (ap m c.slot.ensures ∙ stand 142 (codes "permission_error") permission_is)) (subst (λ (k : ℕ). IsSome (m k)) (sym c.slot-2.ensures) p) (subst (λ (k : ℕ). IsSome (m k)) (sym c.slot-3.ensures) q)))
    c.from_nodes.ensures
