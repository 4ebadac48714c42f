-- Terms and visits that name fixed atoms alone, beside one atom that is held.
use Rattle.std.specs.Prelude.{ℕ, List, IsSome}
use Rattle.std.specs.List.{All}
use Rattle.pl_term.specs.Tree.{Chars, Tree}
use Rattle.atom_api.specs.Names.{FixedStand, Names}
use Rattle.term_store.specs.ArgumentKeys.{clause_key, key_atoms}
use Rattle.term_store.specs.NumberedNames.{names_of, term_by}
use Rattle.term_store.specs.declared.argument_key.ArgumentKey.{ArgumentKey}
use Rattle.pl_model.specs.History.{History}
use Rattle.world_api.specs.declared.reply.Reply.{Reply}
use Rattle.world_api.specs.Answers.{CanVisit, IsServed, Serves}
use Rattle.world_api.specs.Told.{Told}
use Rattle.world_api.specs.Visits.{visit_names}
use Rattle.world_api.specs.declared.visit.Visit.{Visit}

-- whoever holds the atom holds these
abbrev pub AreHeldBeside : ℕ → List ℕ → Type 0
AreHeldBeside own ks = (m : Names) → FixedStand m → IsSome (m own) → All (λ k. IsSome (m k)) ks

-- and can make the visit
pub record IsReady (own : ℕ) (v : Visit Tree ArgumentKey) : Type 0 where
  pub held : AreHeldBeside own (visit_names names_of key_atoms v)
  pub first : (text : ℕ → Chars) (t : Told) → CanVisit term_by clause_key text v t
  pub plain : (old_text new_text : ℕ → Chars) (r : Reply Tree) (g : ℕ) (old : Told) (before : History) (new : Told)
      → Serves term_by clause_key old_text new_text v r g old before new → IsServed term_by clause_key old_text new_text v r g old before new
