-- Scripts that start with a goal.
use Rattle.std.proofs.Common.{◌≡◌, ℕ, List, [], Bool, false, Option, refl, sym, ap, subst}
use Rattle.pl_term.specs.Tree.{Chars, Tree}
use Rattle.run_model.specs.Execution.{Script, Job, runs, Consulted, Execution}
use Rattle.term_store.specs.NumberedNames.{names_of, term_by}
use Rattle.script_api.specs.declared.either.Either.{Either}
use Rattle.script_api.specs.declared.either.Either.TheVariants.{Second}
use Rattle.script_api.specs.declared.named_once.NamedOnce.{NamedOnce}
use Rattle.script_api.specs.declared.once.Stage.{Stage}
use Rattle.script_api.specs.declared.once.Stage.TheVariants.{Fresh}
use Rattle.script_api.specs.Eithers.{EitherIs, either}
use Rattle.script_api.specs.Onces.{execution_of, over_of, part_of, plays_of}
use Rattle.script_api.specs.Onces as onces
use Rattle.script_api.specs.Parts.{Part}
use Rattle.script_api.specs.Starts.{StartsWith}

pub named_starts : (goal : Tree) (s : NamedOnce Tree) → s.once.stage ≡ Fresh goal
    → StartsWith (λ text (r : NamedOnce Tree) job cs. execution_of term_by text r.once.stage job cs) (λ (r : NamedOnce Tree). part_of r.once.stage) (λ text (r : NamedOnce Tree) x. plays_of term_by text r.once.stage x)
    (λ (r : NamedOnce Tree). over_of r.once.stage) (λ (r : NamedOnce Tree). false) (λ (r : NamedOnce Tree). onces.names_of names_of r.once.stage) goal s
named_starts goal s is =
    record {
      nothing = ap (λ (g : Stage Tree). part_of g) is;
      goes_on = ap (λ (g : Stage Tree). over_of g) is;
      faultless = refl;
      named = ap (λ (g : Stage Tree). onces.names_of names_of g) is;
      playing = λ text. subst (λ (g : Stage Tree). plays_of term_by text g (runs (term_by text goal))) (sym is) refl;
      execution_is = λ text job. ap (λ (g : Stage Tree). execution_of term_by text g job []) is;
    }

-- The second of two scripts does.
module _ {A B : Type 0} (first : (ℕ → Chars) → A → Job → List Consulted → Execution) (second : (ℕ → Chars) → B → Job → List Consulted → Execution) (part : A → Option Part) (parts : B → Option Part)
    (plays : (ℕ → Chars) → A → Script → Type 0) (performs : (ℕ → Chars) → B → Script → Type 0) (over : A → Bool) (overs : B → Bool) (kept : A → Bool) (keeps : B → Bool) (names : A → List ℕ) (others : B → List ℕ) where
  pub second_starts : (goal : Tree) (b : B) → StartsWith second parts performs overs keeps others goal b
      → StartsWith (λ text (s : Either A B) job cs. either (λ (a : A). first text a job cs) (λ (d : B). second text d job cs) s) (λ (s : Either A B). either part parts s)
      (λ text (s : Either A B) x. EitherIs (λ (a : A). plays text a x) (λ (d : B). performs text d x) s)
      (λ (s : Either A B). either over overs s) (λ (s : Either A B). either kept keeps s) (λ (s : Either A B). either names others s) goal (Second b)
  second_starts goal b s = record { nothing = s.nothing; goes_on = s.goes_on; faultless = s.faultless; named = s.named; playing = s.playing; execution_is = s.execution_is }
