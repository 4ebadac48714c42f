use Rattle.std.specs.Prelude.{◌++◌, IsSome}
use Rattle.std.proofs.lemmas.List.Elements.{All-append}
use Rattle.term_store.specs.NumberedNames.{names_of}
use Rattle.world_api.specs.Visits.{optional_names}
use Rattle.hub_tests.proofs.asked.create.Goals as goal

pub returns : goal.returns
returns c =
    let goal_names = names_of c.in_ok-goal.goal in
    let more = optional_names names_of c.in_ok-error.error in
    record {
      held = λ m stand has.
          All-append (λ k. IsSome (m k)) goal_names (c.in_ok-aliases.aliases.items ++ more) (c.in_ok-goal.ensures m stand has)
          (All-append (λ k. IsSome (m k)) c.in_ok-aliases.aliases.items more (c.in_ok-aliases.ensures m stand has) (c.in_ok-error.ensures m stand has));
      first = λ text t. tt;
      plain = λ old_text new_text r g old before new h. h;
    }
