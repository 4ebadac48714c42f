use Rattle.std.proofs.Common.{Some, sym, ap, ◌∙◌}
use Rattle.hub_database.proofs.naming.reads.Goals as goal

pub returns-clause-reads : goal.returns-clause-reads
returns-clause-reads g c = λ yes. c.text.ensures.text ∙ ap (λ t. Some t) (sym (c.is_text.ensures yes))
