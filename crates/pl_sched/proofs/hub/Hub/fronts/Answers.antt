use Rattle.std.proofs.Common.{◌≡◌, ℕ, List, ◌∷◌, sym, ap, subst, ◌∙◌}
use Rattle.std.specs.List.{All, Contains}
use Rattle.pl_model.specs.History.{History}
use Rattle.pl_history.specs.Fronts.{FrontState}
use Rattle.pl_hub.specs.Called.{called_in}
use Rattle.pl_hub.specs.Order.{IsInOrder}
use Rattle.pl_sched.specs.Ledger.{AreOnly, carried_by, named_in}
use Rattle.pl_sched.proofs.LedgerLaws.{all_named, are_whole}
use Rattle.pl_sched.proofs.hub.Hub.fronts.Goals as goal

abbrev AreThere : List ℕ → List FrontState → Type 0
AreThere ns fs = (k : ℕ) → Contains (1 ∷ ns) k → Contains (carried_by fs) k

pub settle_all-requires-clause-before : goal.settle_all-requires-clause-before
settle_all-requires-clause-before g c =
    subst (λ (h : History). All (λ (f : FrontState). f.seen ≡ h) c.finish_all.new.done.items) (ap (λ (f : FrontState). f.seen) (sym c.finish_all.ensures.same)) c.in_ok-finish_all.ensures.after

pub returns-clause-seen : goal.returns-clause-seen
returns-clause-seen g c =
    subst (λ (h : History). All (λ (f : FrontState). f.seen ≡ h) c.settle_all.new.done.items) (ap (λ (f : FrontState). f.seen) (c.finish_all.ensures.same ∙ c.self.view_is)) c.in_ok-settle_all.ensures.after

pub returns-clause-only : goal.returns-clause-only
returns-clause-only g c = subst (λ (f : FrontState). AreOnly f.seen) c.self.view_is c.self.invariant.1

pub returns-clause-order : goal.returns-clause-order
returns-clause-order g c = subst (λ (f : FrontState). IsInOrder g.K.Naming.goals f.seen) c.self.view_is c.in_order.ensures

pub returns-clause-begun : goal.returns-clause-begun
returns-clause-begun g c =
    subst (λ (f : FrontState). c.into_begun.result.items ≡ named_in f.seen) c.self.view_is
    (c.into_begun.ensures
    ∙ (ap (λ (f : FrontState). called_in f.seen) (c.settle_all.ensures.same ∙ c.finish_all.ensures.same)
    ∙ all_named c.self.inside.shared.seen))

pub returns-clause-whole : goal.returns-clause-whole
returns-clause-whole g c =
    are_whole c.self.inside.started.items c.self.inside.shared _ c.settle_all.new.done.items c.self.invariant.0 (c.has_begun.ensures.0 c.if-has_begun.false) (ap (λ (f : FrontState). f.seen) c.self.view_is)
    (subst (λ (ns : List ℕ). AreThere ns c.settle_all.new.done.items) c.as_slice.ensures.value
    (subst (λ (fs : List FrontState). AreThere c.as_slice.result.now fs) c.as_slice-2.ensures.value (c.in_ok-are_done.ensures c.if-not-branch.false)))
