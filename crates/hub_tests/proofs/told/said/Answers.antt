use Rattle.std.proofs.Common.{subst}
use Rattle.std.specs.Prelude.{IsSome}
use Rattle.std.specs.List.{All}
use Rattle.pl_term.specs.Tree.{Tree}
use Rattle.term_store.specs.NumberedNames.{names_of}
use Rattle.world_api.specs.declared.reply.Reply.{Reply}
use Rattle.world_api.specs.Replies.{reply_names}
use Rattle.hub_tests.proofs.told.said.Goals as goal

pub with_term-requires : goal.with_term-requires
with_term-requires g c = subst (λ (r : Reply Tree). All (λ a. IsSome (g.A.Atoms.held c.args.atoms.now a)) (reply_names names_of r)) c.in-Message.is c.requires

pub with_term-requires-in-Status : goal.with_term-requires-in-Status
with_term-requires-in-Status g c = subst (λ (r : Reply Tree). All (λ a. IsSome (g.A.Atoms.held c.args.atoms.now a)) (reply_names names_of r)) c.in-Status.is c.requires

pub with_term-requires-in-Refused : goal.with_term-requires-in-Refused
with_term-requires-in-Refused g c = subst (λ (r : Reply Tree). All (λ a. IsSome (g.A.Atoms.held c.args.atoms.now a)) (reply_names names_of r)) c.in-Refused.is c.requires
