use Rattle.std.proofs.Common.{refl, ap, IsSome}
use Rattle.std.proofs.lemmas.List.Elements.{All-nil}
use Rattle.world_builtins.specs.Spelling.{reads}
use Rattle.shared_builtins.specs.Shared.{one_comes}
use Rattle.shared_builtins.proofs.one.of_one.Goals as goal

pub returns-in-ThreadSelf-clause-comes : goal.returns-in-ThreadSelf-clause-comes
returns-in-ThreadSelf-clause-comes c m tells held = (
  _,
  _,
  record { means = ap (λ p. one_comes p (reads m c.args.store.now c.args.term)) c.in-ThreadSelf.is; asks = refl; held = All-nil (λ a. IsSome (m a)); by_names = tt },
)
