use Rattle.std.proofs.Common.{◌≡◌, sym, ◌∙◌}
use Rattle.shared_builtins.specs.declared.following.Following.TheVariants as by
use Rattle.shared_builtins.proofs.ReplyRows.{plain_by}
use Rattle.shared_builtins.proofs.replies.follow_as.Goals as goal

pub succeeds-requires-clause-plain : goal.succeeds-requires-clause-plain
succeeds-requires-clause-plain c = plain_by c.args.goal.now.pred c.args.following c.requires.follows (λ e. let no : by.Succeeds ≡ by.Names = sym c.in-Succeeds.is ∙ e in cc)

pub gives_message-requires-clause-plain : goal.gives_message-requires-clause-plain
gives_message-requires-clause-plain c = plain_by c.args.goal.now.pred c.args.following c.requires.follows (λ e. let no : by.Messages ≡ by.Names = sym c.in-Messages.is ∙ e in cc)

pub gives_status-requires-clause-plain : goal.gives_status-requires-clause-plain
gives_status-requires-clause-plain c = plain_by c.args.goal.now.pred c.args.following c.requires.follows (λ e. let no : by.Statuses ≡ by.Names = sym c.in-Statuses.is ∙ e in cc)

pub gives_flags-requires-clause-follows : goal.gives_flags-requires-clause-follows
gives_flags-requires-clause-follows c = sym c.requires.follows ∙ c.in-Flags.is
