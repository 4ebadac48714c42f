use Rattle.std.proofs.Common.{sym, ◌∙◌}
use Rattle.pl_consult.proofs.TakingLaws.{puts_off}
use Rattle.pl_consult.proofs.consult.Consult.take_directive.Goals as goal

pub returns-in_ok-push_back-in-Some-clause-later : goal.returns-in_ok-push_back-in-Some-clause-later
returns-in_ok-push_back-in-Some-clause-later c t is =
    puts_off t c.args.goal c.in-Some.later c.args.start c.args.self.now.later.items _ is (sym c.in-Some.is ∙ c.in_ok-initialization_of.ensures) c.in_ok-push_back-in-Some.ensures.items
