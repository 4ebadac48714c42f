-- One of two scripts.
use Rattle.std.specs.Prelude.{◌≡◌, ℕ, List, []}
use Rattle.std.specs.List.{All}
use Rattle.pl_term.specs.Tree.{Chars}
use Rattle.run_model.specs.Execution.{Script, Job, Consulted, Execution}
use Rattle.run_model.specs.Lawful.{IsRunning}
use Rattle.script_api.specs.declared.either.Either.{Either}
use Rattle.script_api.specs.declared.either.Either.TheVariants.{First, Second}
use Rattle.script_api.specs.Scripts.{texts_at}

-- What is told of the script that it is.
abbrev pub either : {A B : Type 0} {R : Type 0} → (A → R) → (B → R) → Either A B → R
either f g (First a) = f a
either f g (Second b) = g b

-- The same where what is told is a statement.
abbrev pub EitherIs : {A B : Type 0} → (A → Type 0) → (B → Type 0) → Either A B → Type 0
EitherIs f g (First a) = f a
EitherIs f g (Second b) = g b

module _ {A B : Type 0} (first : (ℕ → Chars) → A → Job → List Consulted → Execution) (second : (ℕ → Chars) → B → Job → List Consulted → Execution) where
  abbrev execution_of : (ℕ → Chars) → Either A B → Job → List Consulted → Execution
  execution_of text s job cs = either (λ (a : A). first text a job cs) (λ (b : B). second text b job cs) s

  pub lines_told : ((text : ℕ → Chars) (a : A) (job : Job) (cs : List Consulted) → (first text a job cs).consulted ≡ cs)
      → ((text : ℕ → Chars) (b : B) (job : Job) (cs : List Consulted) → (second text b job cs).consulted ≡ cs)
      → (text : ℕ → Chars) (s : Either A B) (job : Job) (cs : List Consulted)
      → (execution_of text s job cs).consulted ≡ cs
  lines_told f g text (First a) job cs = f text a job cs
  lines_told f g text (Second b) job cs = g text b job cs

  pub running_told : ((text : ℕ → Chars) (a : A) (job : Job) (cs : List Consulted) → IsRunning (first text a job cs))
      → ((text : ℕ → Chars) (b : B) (job : Job) (cs : List Consulted) → IsRunning (second text b job cs))
      → (text : ℕ → Chars) (s : Either A B) (job : Job) (cs : List Consulted)
      → IsRunning (execution_of text s job cs)
  running_told f g text (First a) job cs = f text a job cs
  running_told f g text (Second b) job cs = g text b job cs

  pub reported_told : ((text : ℕ → Chars) (a : A) (job : Job) (cs : List Consulted) → texts_at (first text a job cs).activity ≡ [])
      → ((text : ℕ → Chars) (b : B) (job : Job) (cs : List Consulted) → texts_at (second text b job cs).activity ≡ [])
      → (text : ℕ → Chars) (s : Either A B) (job : Job) (cs : List Consulted)
      → texts_at (execution_of text s job cs).activity ≡ []
  reported_told f g text (First a) job cs = f text a job cs
  reported_told f g text (Second b) job cs = g text b job cs

  module _ (plays : (ℕ → Chars) → A → Script → Type 0) (performs : (ℕ → Chars) → B → Script → Type 0) (names : A → List ℕ) (others : B → List ℕ) where
    pub names_same : ((a : A) (text other : ℕ → Chars) → All (λ k. text k ≡ other k) (names a)
        → ((job : Job) (cs : List Consulted) → first text a job cs ≡ first other a job cs) × ((x : Script) → plays text a x → plays other a x))
        → ((b : B) (text other : ℕ → Chars) → All (λ k. text k ≡ other k) (others b)
        → ((job : Job) (cs : List Consulted) → second text b job cs ≡ second other b job cs) × ((x : Script) → performs text b x → performs other b x))
        → (s : Either A B) (text other : ℕ → Chars)
        → All (λ k. text k ≡ other k) (either names others s)
        → ((job : Job) (cs : List Consulted) → execution_of text s job cs ≡ execution_of other s job cs)
        × ((x : Script) → EitherIs (λ (a : A). plays text a x) (λ (b : B). performs text b x) s
        → EitherIs (λ (a : A). plays other a x) (λ (b : B). performs other b x) s)
    names_same f g (First a) text other same = f a text other same
    names_same f g (Second b) text other same = g b text other same
