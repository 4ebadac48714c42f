use Rattle.std.proofs.Common.{◌≡◌, ◌⊎◌, inl, ◌∷◌, ◌++◌, [], ℕ, List, Option, sym, ◌∙◌, ap, subst}
use Rattle.std.specs.Prelude.{IfSome}
use Rattle.std.specs.List.{All, Contains}
use Rattle.std.specs.Option.{option_to_list}
use Rattle.std.proofs.lemmas.Result.{IfOk-weaker}
use Rattle.std.proofs.lemmas.List.Elements.{All-nil, All-pop}
use Rattle.pl_term.specs.Tree.{Chars}
use Rattle.pl_history.specs.Fronts.{FrontState, own_engine}
use Rattle.pl_sched.specs.Ledger.{carried_by}
use Rattle.toplevel.specs.declared.opened.OpenedEngine.{OpenedEngine}
use Rattle.toplevel.specs.Opened.{IsOpened, opened_numbers}
use Rattle.toplevel.specs.RunOutcomes.{HasRunAll, IsReadyOf}
use Rattle.toplevel.proofs.OpenedAll.{all_begun}
use Rattle.toplevel.proofs.OpenedLaws.{all_more}
use Rattle.toplevel.proofs.OrderLaws.{once_in}
use Rattle.toplevel.proofs.StandingLaws.{length_none}
use Rattle.toplevel.proofs.engines.outcome_of.Goals as goal

pub loop-done-init : goal.loop-done-init
loop-done-init g c h seen = (
  seen,
  subst (All (IsOpened g.K.Command.program g.K.Command.file g.K.Command.board h)) (sym c.new-opened.ensures.items)
      (All-nil (IsOpened g.K.Command.program g.K.Command.file g.K.Command.board h)),
  λ e q. inl q,
)

pub loop-done-preserved : goal.loop-done-preserved
loop-done-preserved g c h seen =
    let p = g.K.Command.program in
    let file = g.K.Command.file in
    let board = g.K.Command.board in
    let inv = c.loop-done.invariant h seen in
    let d = c.in-Some.done in
    let rest = c.pop.new.self.items in
    let popped : c.loop-done.dones.items ≡ rest ++ d ∷ [] =
    c.pop.ensures.items ∙ ap (λ (o : Option FrontState). rest ++ option_to_list o) c.in-Some.is in
    let left = All-pop (λ (f : FrontState). f.seen ≡ h) c.loop-done.dones.items rest c.pop.result c.pop.ensures.items inv.0 in
    let there : d.seen ≡ h = subst (λ (o : Option FrontState). IfSome o (λ (f : FrontState). f.seen ≡ h)) c.in-Some.is left.1 in
    let is = c.open.ensures.opened h there in
    let number = is.left.number ∙ sym is.front.own ∙ ap (λ (f : FrontState). own_engine f.lives) c.open.ensures.front in
    let more =
    all_more p file board h rest d c.loop-done.opened.items c.open.result _ is number inv.1
    (λ e q. subst (λ (fs : List FrontState). Contains (carried_by fs) e ⊎ Contains (opened_numbers c.loop-done.opened.items) e) popped (inv.2 e q)) in (
      left.0,
      subst (All (IsOpened p file board h)) (sym c.in_ok-push-in-Ok.ensures.items) more.0,
      λ e q. subst (λ (os : List OpenedEngine). Contains (carried_by rest) e ⊎ Contains (opened_numbers os) e) (sym c.in_ok-push-in-Ok.ensures.items) (more.1 e q),
    )

pub returns-in_default : goal.returns-in_default
returns-in_default g c =
    let p = g.K.Command.program in
    let board = g.K.Command.board in
    let ran : HasRunAll g.K.Naming.goals c.in-Ok.ran.dones.items c.in-Ok.ran.begun.items = rw c.in-Ok.is at c.requires.ran in
    let h = ran.0 in
    let inv = c.loop-done.invariant h ran.1 in
    let none = length_none _ _ c.loop-done.dones.ok.0 c.in_default.ensures.cases.0 in
    IfOk-weaker c.make_ready.result _ _
    (λ r is. subst (λ (f : Chars). IsReadyOf f p r) (sym c.requires.file) is)
    (c.make_ready.ensures p board h c.requires.words
    (subst (λ (f : Chars). All (IsOpened p f board h) c.loop-done.opened.items) c.requires.file inv.1)
    (all_begun h c.loop-done.dones.items c.in-Ok.ran.dones.items c.loop-done.opened.items none inv.2 ran.2)
    ran.3
    (once_in g.K.Naming.goals h ran.4)
    (c.as_slice.ensures.value ∙ ran.5))
