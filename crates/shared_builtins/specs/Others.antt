-- The places of the arguments of a goal, where one is still to be given.
use Rattle.std.specs.Prelude.{◌≡◌}
use Rattle.pl_model.specs.Terms.{arguments}
use Rattle.atom_api.specs.Names.{Names}
use Rattle.builtin_rows.specs.Rows.{ArePlaced, listed, terms_at}
use Rattle.builtin_rows.specs.declared.row.Places.{Places}
use Rattle.builtin_rows.specs.declared.row.Places.TheVariants.{One, Two, Three}
use Rattle.term_store.specs.declared.words.Place.{Place}
use Rattle.term_store.specs.Contents.{Contents, Holds, term_at}
use Rattle.world_builtins.specs.Naming.{IsHeldAt}
use Rattle.world_builtins.specs.Spelling.{reads}
use Rattle.shared_builtins.specs.declared.goal.StateGoal.{StateGoal}
use Rattle.shared_builtins.specs.Following.{with_answer}

abbrev pub with_given : Places → Place → Places
with_given (One p) g = One g
with_given (Two p q) g = Two p g
with_given (Three p q r) g = Three p g r

-- In a later store, and with the given place, these are the arguments with the given term among them.
pub record AreOthers (m : Names) (s : Contents) (x : StateGoal) (ps : Places) : Type 0 where
  pub terms :
      (t : Contents) (g : Place)
      → ((p : Place) → Holds s p → term_at t p ≡ term_at s p)
      → terms_at m t (listed (with_given ps g)) ≡ with_answer x.pred (arguments (reads m s x.place)) (reads m t g)
  pub placed :
      (t : Contents) (g : Place)
      → ((p : Place) → Holds s p → term_at t p ≡ term_at s p)
      → ((p : Place) → Holds s p → Holds t p)
      → Holds t g
      → IsHeldAt m t g
      → ArePlaced m t (listed (with_given ps g))
