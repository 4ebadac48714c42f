use Rattle.std.proofs.Common.{length, sym, ap, ap₂, ◌∙◌}
use Rattle.pl_model.specs.Flags.{Flags}
use Rattle.pl_model.specs.Requests.{standing}
use Rattle.pl_model.specs.SharedState.{state_at}
use Rattle.hub_database.proofs.Served.{looked, operators_read}
use Rattle.hub_database.proofs.looking.look.Goals as goal

pub returns-in-Ok-clause-look : goal.returns-in-Ok-clause-look
returns-in-Ok-clause-look c = λ goals e h k text is.
    let s = state_at goals h (length h) in
    record {
      reply = standing s.operators s.flags.double_quotes;
      serves = looked e s (length h);
      says = ap₂ standing (sym (c.in-Ok.ensures ∙ is.operators)) (sym (ap (λ (f : Flags). f.double_quotes) (c.flags.ensures ∙ is.flags)));
    }

pub returns-in-Ok-clause-operators : goal.returns-in-Ok-clause-operators
returns-in-Ok-clause-operators c = λ goals e h k text is.
    let s = state_at goals h (length h) in
    record {
      reply = standing s.operators s.flags.double_quotes;
      serves = operators_read e s (length h);
      says = ap₂ standing (sym (c.in-Ok.ensures ∙ is.operators)) (sym (ap (λ (f : Flags). f.double_quotes) (c.flags.ensures ∙ is.flags)));
    }
