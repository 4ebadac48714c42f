use Rattle.std.proofs.Common.{◌≡◌, length, ap, sym, subst, ◌∙◌}
use Rattle.std.specs.Arc.{arc_value}
use Rattle.std.specs.List.{All}
use Rattle.pl_term.specs.Nodes.{nodes}
use Rattle.pl_term.specs.Variables.{rename, variables}
use Rattle.term_store.specs.Nodes.{IsNodeBelow, node_views}
use Rattle.term_store.proofs.stored.Stored.nodes.Goals as goal

pub returns : goal.returns
returns c =
    let v = c.self.view_is in
    let i = c.self.invariant.0 in
    let e : c.as_slice.result.now ≡ (arc_value c.self.inside.forms).nodes.items =
    c.as_slice.ensures.value ∙ ap (λ f. f.nodes.items) c.deref.ensures in
    record {
      spelled = ap node_views e ∙ sym i.spelled ∙ ap nodes v;
      numbered = subst (λ t. rename 0 t ≡ t) v i.numbered;
      below =
          subst (λ n. All (IsNodeBelow n) c.as_slice.result.now) (i.variables_are ∙ ap (λ t. length (variables t)) v)
          (subst (λ ns. All (IsNodeBelow c.self.inside.variables) ns) (sym e) i.below);
    }
