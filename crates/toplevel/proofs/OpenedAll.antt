-- All engines are opened, and none is left out.
use Rattle.std.proofs.Common.{◌≡◌, ◌⊎◌, inl, inr, ℕ, List, [], subst}
use Rattle.std.specs.List.{Contains}
use Rattle.pl_model.specs.History.{History}
use Rattle.pl_history.specs.Fronts.{FrontState}
use Rattle.pl_sched.specs.Ledger.{AreWhole, carried_by}
use Rattle.toplevel.specs.declared.opened.OpenedEngine.{OpenedEngine}
use Rattle.toplevel.specs.Kept.{AllBegun}
use Rattle.toplevel.specs.Opened.{opened_numbers}
use Rattle.toplevel.proofs.Members.{nowhere}

pub all_begun : (h : History) (dones whole : List FrontState) (os : List OpenedEngine)
    → dones ≡ []
    → ((e : ℕ) → Contains (carried_by whole) e → Contains (carried_by dones) e ⊎ Contains (opened_numbers os) e)
    → AreWhole h whole
    → AllBegun h os
all_begun h dones whole os none cover all e begun = go (cover e (all e begun))
  where
    go : Contains (carried_by dones) e ⊎ Contains (opened_numbers os) e → Contains (opened_numbers os) e
    go (inl q) = absurd (nowhere e (subst (λ (fs : List FrontState). Contains (carried_by fs) e) none q))
    go (inr q) = q
