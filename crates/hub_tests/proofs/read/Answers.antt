use Rattle.std.proofs.Common.{sym, subst}
use Rattle.std.specs.List.{All}
use Rattle.std.specs.Prelude.{IsSome}
use Rattle.atom_api.specs.Names.{Names}
use Rattle.term_store.specs.NumberedNames.{names_of}
use Rattle.hub_tests.proofs.read.Goals as goal

pub with_texts-requires : goal.with_texts-requires
with_texts-requires g c = subst (λ (m : Names). All (λ a. IsSome (m a)) (names_of c.in_ok-term.term)) (sym c.forget_by.ensures.held) c.in_ok-term.ensures.named
