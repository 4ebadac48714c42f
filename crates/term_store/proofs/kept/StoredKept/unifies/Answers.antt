use Rattle.std.proofs.Common.{ap, ◌∙◌}
use Rattle.pl_term.specs.Variables.{rename}
use Rattle.term_store.proofs.KeptTerms.{stored_names, unified_apart}
use Rattle.term_store.proofs.kept.StoredKept.unifies.Goals as goal

pub unify-requires-clause-left : goal.unify-requires-clause-left
unify-requires-clause-left c = c.in_ok-right.ensures.adds.places c.in_ok-left.left c.in_ok-left.ensures.built.holds

pub returns : goal.returns
returns c =
    let left = c.in_ok-left.ensures.built in
    let right = c.in_ok-right.ensures.built in
    unified_apart c.in_ok-same.same c.args.self.now c.args.other.now c.build-2.new.self c.unify.new.self c.in_ok-left.left c.in_ok-right.right
    (stored_names c.args.self.now c.nodes-mine.result.now c.nodes-mine.ensures.spelled)
    (stored_names c.args.other.now c.nodes-others.result.now c.nodes-others.ensures.spelled)
    (right.others c.in_ok-left.left left.holds ∙ left.means)
    (right.means ∙ ap (λ n. rename n c.args.other.now) c.variables-count.ensures)
    c.in_ok-same.ensures.unified
