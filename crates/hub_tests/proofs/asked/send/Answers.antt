use Rattle.std.specs.Prelude.{IsSome}
use Rattle.std.proofs.lemmas.List.Elements.{All-append}
use Rattle.term_store.specs.NumberedNames.{names_of}
use Rattle.hub_tests.proofs.asked.send.Goals as goal

pub returns : goal.returns
returns c =
    record {
      held = λ m stand has.
          All-append (λ k. IsSome (m k)) (names_of c.in_ok-queue.queue) (names_of c.in_ok-message.message) (c.in_ok-queue.ensures m stand has) (c.in_ok-message.ensures m stand has);
      first = λ text t. tt;
      plain = λ old_text new_text r g old before new h. h;
    }
