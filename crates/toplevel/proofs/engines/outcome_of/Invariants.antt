use Rattle.std.proofs.Common.{◌≡◌, ◌⊎◌, ℕ, length}
use Rattle.std.specs.List.{All, Contains}
use Rattle.pl_model.specs.History.{History}
use Rattle.pl_history.specs.Fronts.{FrontState}
use Rattle.pl_sched.specs.Ledger.{carried_by}
use Rattle.toplevel.specs.Opened.{IsOpened, opened_numbers}
use Rattle.toplevel.proofs.engines.outcome_of.Given as goal

abbrev pub invariant-loop-done : goal.invariant-loop-done
invariant-loop-done g l =
    (h : History)
    → All (λ (f : FrontState). f.seen ≡ h) l.initial.dones.items
    → All (λ (f : FrontState). f.seen ≡ h) l.dones.items
    × All (IsOpened g.K.Command.program g.K.Command.file g.K.Command.board h) l.opened.items
    × ((e : ℕ) → Contains (carried_by l.initial.dones.items) e → Contains (carried_by l.dones.items) e ⊎ Contains (opened_numbers l.opened.items) e)

abbrev pub decreases-loop-done : goal.decreases-loop-done
decreases-loop-done g l = length l.dones.items
