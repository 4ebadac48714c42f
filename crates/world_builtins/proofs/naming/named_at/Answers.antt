use Rattle.std.proofs.Common.{refl, sym, subst, ◌∙◌, rules}
use Rattle.std.proofs.lemmas.Result.{IfOk-weaker}
use Rattle.named_terms.specs.NamedNodes.{nodes_by}
use Rattle.named_terms.proofs.NamedLaws.{same_tree}
use Rattle.world_builtins.specs.Spelling.{reads}
use Rattle.world_builtins.specs.TermsTaken.{IsTaken}
use Rattle.world_builtins.proofs.MetLaws.{none_met}
use Rattle.world_builtins.proofs.TakenLaws.{all_taken, none_taken}
use Rattle.world_builtins.proofs.naming.named_at.Goals as goal

pub loop-init : goal.loop-init
loop-init g c =
    let m = g.A.Atoms.held c.args.atoms.now in
    record {
      taken =
          none_taken m c.args.store.now c.args.place _ c.requires.inside c.requires.held c.in_ok-places.ensures.items c.new-nodes.ensures.items
          (none_met m _ _ c.new-met.ensures.slots c.new-met.ensures.names);
      same = refl;
      refusals = refl;
      asked = refl;
    }

pub take-requires : goal.take-requires
take-requires g c =
    let m = g.A.Atoms.held c.args.atoms.now in
    let s = c.args.store.now in
    let t = reads m s c.args.place in
    (t, subst (λ k. IsTaken k s t c.loop.taking) (sym c.loop.invariant.same) c.loop.invariant.taken)

pub loop-preserved : goal.loop-preserved
loop-preserved g c =
    let m = g.A.Atoms.held c.args.atoms.now in
    let s = c.args.store.now in
    let t = reads m s c.args.place in
    let e = c.in_ok-more.ensures in
    record {
      taken =
          subst (λ k. IsTaken k s t c.take.new.self) c.loop.invariant.same
          (e.taken t (subst (λ k. IsTaken k s t c.loop.taking) (sym c.loop.invariant.same) c.loop.invariant.taken));
      same = e.same ∙ c.loop.invariant.same;
      refusals = e.refusals ∙ c.loop.invariant.refusals;
      asked = e.asked ∙ c.loop.invariant.asked;
    }

-- Nothing is left: `c.in_ok-more.ensures.over` at the branch that was taken.

pub from_parts-requires : goal.from_parts-requires
from_parts-requires g c =
    let m = g.A.Atoms.held c.args.atoms.now in
    let s = c.args.store.now in
    let t = reads m s c.args.place in
    let e = c.in_ok-more.ensures in
    let taken : IsTaken m s t c.take.new.self =
    subst (λ k. IsTaken k s t c.take.new.self) c.loop.invariant.same
    (e.taken t (subst (λ k. IsTaken k s t c.loop.taking) (sym c.loop.invariant.same) c.loop.invariant.taken)) in
    record { spelled = (t, all_taken m s t c.take.new.self taken (e.over (search rules))); named = taken.named }

pub returns-then-not-more-clause-term : goal.returns-then-not-more-clause-term
returns-then-not-more-clause-term g c =
    let m = g.A.Atoms.held c.args.atoms.now in
    let s = c.args.store.now in
    let t = reads m s c.args.place in
    let e = c.in_ok-more.ensures in
    let taken : IsTaken m s t c.take.new.self =
    subst (λ k. IsTaken k s t c.take.new.self) c.loop.invariant.same
    (e.taken t (subst (λ k. IsTaken k s t c.loop.taking) (sym c.loop.invariant.same) c.loop.invariant.taken)) in
    IfOk-weaker c.from_parts.result _ _
    (λ n h. same_tree n t (nodes_by c.take.new.self.met.names.items c.take.new.self.nodes.items) h (all_taken m s t c.take.new.self taken (e.over (search rules))))
    c.from_parts.ensures
