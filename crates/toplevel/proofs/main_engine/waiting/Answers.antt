use Rattle.std.proofs.Common.{refl, sym, ◌∙◌}
use Rattle.std.proofs.lemmas.Result.{IfOk-weaker}
use Rattle.toplevel.proofs.MainLaws.{waits_at, waits_so}
use Rattle.toplevel.proofs.main_engine.waiting.Goals as goal

pub returns-in_ok-put_waiting_directive-in-Some : goal.returns-in_ok-put_waiting_directive-in-Some
returns-in_ok-put_waiting_directive-in-Some c p h x k quotes f end place =
    waits_at p c.args.name.now h c.args.script c.args.text.items k quotes x f _ c.in-Some.place refl refl end (sym c.directive_at.ensures ∙ c.in-Some.is)
    c.in_ok-put_waiting_directive-in-Some.ensures

pub returns-in-None : goal.returns-in-None
returns-in-None c p h x k quotes f end place =
    IfOk-weaker c.as_written.result _ _
    (λ m a. waits_so p c.args.name.now h c.args.script c.args.text.items k quotes x f m a.2 a.1 a.3 end (place ∙ a.0))
    c.as_written.ensures
