use Rattle.std.proofs.Common.{Option, subst}
use Rattle.std.specs.Prelude.{IsSome}
use Rattle.std.specs.List.{All}
use Rattle.pl_term.specs.Tree.{Tree}
use Rattle.term_store.specs.NumberedNames.{names_of}
use Rattle.world_api.specs.declared.reply.Found.{Found}
use Rattle.world_api.specs.Replies.{found_names}
use Rattle.hub_tests.proofs.told.clauses.Goals as goal

pub with_term-requires : goal.with_term-requires
with_term-requires g c = subst (λ (o : Option (Found Tree)). All (λ a. IsSome (g.A.Atoms.held c.args.atoms.now a)) (found_names names_of o)) c.in-Some.is c.requires
