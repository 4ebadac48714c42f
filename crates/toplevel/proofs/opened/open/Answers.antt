use Rattle.std.proofs.Common.{refl, ◌∙◌, ap}
use Rattle.pl_history.specs.Fronts.{FrontState}
use Rattle.toplevel.proofs.OpenedLaws.{opened_so}
use Rattle.toplevel.proofs.opened.open.Goals as goal

pub returns-clause-opened : goal.returns-clause-opened
returns-clause-opened g c h seen =
    let parts = c.into_parts-engine.result in
    let made = c.into_parts-script.ensures in
    opened_so g.K.Command.program g.K.Naming.history g.K.Command.file g.K.Command.board g.K.Naming.goals parts.number parts.end parts.awaits parts.operators parts.quotes parts.front parts.engine _ h
    c.requires
    (ap (λ (f : FrontState). f.seen) c.into_parts-engine.ensures.front ∙ seen)
    c.into_parts-engine.ensures.done
    c.into_parts-engine.ensures.writes
    (record {
      script = made.script;
      text = ap (λ v. v.items) made.text;
      front_number = refl;
      front = refl;
      number = refl;
      end_is = refl;
      awaits = refl;
      operators = refl;
      output = ap (λ v. v.items) made.output;
      quotes_are = refl;
    })

pub returns-clause-front : goal.returns-clause-front
returns-clause-front g c = c.into_parts-engine.ensures.front
