use Rattle.std.proofs.Common.{ap, ◌∙◌}
use Rattle.toplevel.proofs.beginning.runner_of.Goals as goal

pub returns : goal.returns
returns c =
    record {
      script = c.new.ensures.script;
      stage = c.new.ensures.stage;
      budgets = c.new.ensures.budgets ∙ c.budgets_of.ensures;
      wanted = c.new.ensures.wanted;
      lines = c.new.ensures.lines;
      stays = c.new.ensures.stays;
      text_is = ap (λ v. v.items) c.new.ensures.text;
      output = c.new.ensures.output;
      moves = c.new.ensures.moves;
    }
