use Rattle.std.proofs.Common.{refl, sym, ◌∙◌, ap, Some}
use Rattle.pl_term.specs.Tree.{Tree}
use Rattle.pl_model.specs.declared.ends.How.{How}
use Rattle.std.proofs.lemmas.Result.{IfOk-weaker}
use Rattle.toplevel.proofs.MainLaws.{ended_so}
use Rattle.toplevel.proofs.main_engine.ended.Goals as goal

pub returns-in-AtomSpace : goal.returns-in-AtomSpace
returns-in-AtomSpace c p h x f end place =
    c.without_place.ensures p h x c.in-AtomSpace.field-0 f (end ∙ ap (λ (w : How Tree). Some w) c.in-AtomSpace.is) place

pub returns-in_default : goal.returns-in_default
returns-in_default c p h x f end place =
    IfOk-weaker c.as_written.result _ _
    (λ m a.
    ended_so p c.args.name.now h c.args.script c.args.text.items c.args.part.now c.args.quotes x f m c.args.how.now a.2 a.1 a.3 end c.in_default.not-AtomSpace
    (place ∙ a.0))
    c.as_written.ensures
