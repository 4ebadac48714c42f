-- An evaluation by steps, over a stack of what is still to be done.
use Rattle.std.specs.Prelude.{◌≡◌, List, [], ◌∷◌, reverse, Ok, Err}
use Rattle.std.specs.List.{All}
use Rattle.pl_model.specs.declared.evaluables.Op1.{Op1}
use Rattle.pl_model.specs.declared.evaluables.Op2.{Op2}
use Rattle.pl_model.specs.Evaluables.{Evaluated, Value, and_then, applied1, applied2, evaluated, operation}
use Rattle.atom_api.specs.Names.{Names}
use Rattle.term_store.specs.declared.words.Place.{Place}
use Rattle.term_store.specs.Contents.{Contents, Holds}
use Rattle.world_builtins.specs.Naming.{IsHeldAt}
use Rattle.world_builtins.specs.Spelling.{reads}
use Rattle.builtin_arithmetic.specs.declared.values.ValueFault.TheVariants.{Operation}
use Rattle.builtin_arithmetic.specs.declared.steps.Pending.{Pending}
use Rattle.builtin_arithmetic.specs.declared.steps.Pending.TheVariants as pending
use Rattle.builtin_arithmetic.specs.declared.steps.Step.{Step}
use Rattle.builtin_arithmetic.specs.declared.steps.Step.TheVariants.{Visit, One, Two, Is, Ended}
use Rattle.builtin_arithmetic.specs.Texts.{AreTexts}
use Rattle.builtin_arithmetic.specs.Values.{IsValueHeld, value_of}

abbrev pub step_of : Value → Step
step_of (Ok x) = Is x
step_of (Err f) = Ended (Err (Operation f))

-- The value of an operation of the terms at places.
abbrev pub of_one : Names → Contents → Op1 → Place → Evaluated
of_one m s op p = and_then (evaluated (reads m s p)) (λ x. operation (applied1 op x))

abbrev pub of_two : Names → Contents → Op2 → Place → Place → Evaluated
of_two m s op p q = and_then (evaluated (reads m s p)) (λ x. and_then (evaluated (reads m s q)) (λ y. operation (applied2 op x y)))

-- What comes of a value.
abbrev pub followed : Names → Contents → Pending → Evaluated → Evaluated
followed m s (pending.One op) v = and_then v (λ x. operation (applied1 op x))
followed m s (pending.Left op q) v = and_then v (λ x. and_then (evaluated (reads m s q)) (λ y. operation (applied2 op x y)))
followed m s (pending.Right op x) v = and_then v (λ y. operation (applied2 op x y))

-- What comes of it in the end. The first of the list is done first.
abbrev pub resumed : Names → Contents → List Pending → Evaluated → Evaluated
resumed m s [] v = v
resumed m s (p ∷ ps) v = resumed m s ps (followed m s p v)

-- The value of the whole.
abbrev pub outcome : Names → Contents → List Pending → Step → Evaluated
outcome m s ps (Visit p) = resumed m s ps (evaluated (reads m s p))
outcome m s ps (One op p) = resumed m s ps (of_one m s op p)
outcome m s ps (Two op p q) = resumed m s ps (of_two m s op p q)
outcome m s ps (Is x) = resumed m s ps (Ok x)
outcome m s ps (Ended v) = value_of m v

-- The places are of the store.
abbrev pub IsPendingIn : Contents → Pending → Type 0
IsPendingIn s (pending.One op) = Unit {0}
IsPendingIn s (pending.Left op q) = Holds s q
IsPendingIn s (pending.Right op x) = Unit {0}

abbrev pub IsStepIn : Contents → Step → Type 0
IsStepIn s (Visit p) = Holds s p
IsStepIn s (One op p) = Holds s p
IsStepIn s (Two op p q) = Holds s p × Holds s q
IsStepIn s (Is x) = Unit {0}
IsStepIn s (Ended v) = Unit {0}

-- The atoms of their terms are held.
abbrev pub IsPendingHeld : Names → Contents → Pending → Type 0
IsPendingHeld m s (pending.One op) = Unit {0}
IsPendingHeld m s (pending.Left op q) = IsHeldAt m s q
IsPendingHeld m s (pending.Right op x) = Unit {0}

abbrev pub IsStepHeld : Names → Contents → Step → Type 0
IsStepHeld m s (Visit p) = IsHeldAt m s p
IsStepHeld m s (One op p) = IsHeldAt m s p
IsStepHeld m s (Two op p q) = IsHeldAt m s p × IsHeldAt m s q
IsStepHeld m s (Is x) = Unit {0}
IsStepHeld m s (Ended v) = IsValueHeld m v

-- The stack, whose last member is done first, and the step.
pub record AreHeld (m : Names) (s : Contents) (ps : List Pending) (n : Step) : Type 0 where
  pub stack : All (IsPendingHeld m s) ps
  pub step : IsStepHeld m s n

-- From the one stack and step to the other, the value of the whole stays, and no further atom comes in.
pub record Leads (s : Contents) (ps : List Pending) (n : Step) (qs : List Pending) (k : Step) : Type 0 where
  pub means : (m : Names) → AreTexts m → outcome m s (reverse qs) k ≡ outcome m s (reverse ps) n
  pub held : (m : Names) → AreHeld m s ps n → AreHeld m s qs k

-- The step for the term at a place.
pub record IsStepFor (s : Contents) (p : Place) (n : Step) : Type 0 where
  pub inside : IsStepIn s n
  pub means : (m : Names) → AreTexts m → (ps : List Pending) → outcome m s ps n ≡ outcome m s ps (Visit p)
  pub held : (m : Names) → IsHeldAt m s p → IsStepHeld m s n
