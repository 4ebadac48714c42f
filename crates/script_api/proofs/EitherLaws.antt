-- What is given by one of two scripts is given by either.
use Rattle.std.proofs.Common.{◌≡◌, ℕ, List, Bool, Option, Some, None, sym, subst}
use Rattle.pl_term.specs.Tree.{Chars, Tree}
use Rattle.pl_model.specs.declared.ends.How.{How}
use Rattle.pl_model.specs.Resolution.{State}
use Rattle.run_model.specs.Execution.{Script, Job, Consulted, Execution}
use Rattle.world_api.specs.Told.{Told}
use Rattle.script_api.specs.declared.either.Either.{Either}
use Rattle.script_api.specs.declared.either.Either.TheVariants.{First, Second}
use Rattle.script_api.specs.declared.script.Next.{Next}
use Rattle.script_api.specs.declared.script.Next.TheVariants.{Item, Done, NeedsAtoms, Retry, Worn, Memory}
use Rattle.script_api.specs.Eithers.{EitherIs, either}
use Rattle.script_api.specs.Parts.{Part}
use Rattle.script_api.specs.Scripts.{Given, StandsAfter, StandsBefore}

module _ {A B T : Type 0} (first : (ℕ → Chars) → A → Job → List Consulted → Execution) (second : (ℕ → Chars) → B → Job → List Consulted → Execution)
    (part : A → Option Part) (parts : B → Option Part) (term : (ℕ → Chars) → T → Tree) where
  abbrev execution_by : (ℕ → Chars) → Either A B → Job → List Consulted → Execution
  execution_by = λ (text : ℕ → Chars) (s : Either A B) (job : Job) (cs : List Consulted). either (λ (a : A). first text a job cs) (λ (b : B). second text b job cs) s

  abbrev part_by : Either A B → Option Part
  part_by = λ (s : Either A B). either part parts s

  before_first : (text : ℕ → Chars) (a : A) (job : Job) (o : Option Part) (how : Option (How Tree)) (searched : Option State) (cs : List Consulted) (x : Execution)
      → StandsBefore execution_by part_by term text (First a) job o how searched cs x
      → StandsBefore first part term text a job o how searched cs x
  before_first text a job None None searched cs x h = h
  before_first text a job (Some p) (Some how) (Some r) cs x h = h
  before_first text a job None (Some how) searched cs x h = absurd h
  before_first text a job (Some p) None searched cs x h = absurd h
  before_first text a job (Some p) (Some how) None cs x h = absurd h

  after_first : (text : ℕ → Chars) (a : A) (job : Job) (was : Option Part) (searched : Option State) (next : Next T) (cs : List Consulted) (y : Execution)
      → StandsAfter first part term text a job was searched next cs y
      → StandsAfter execution_by part_by term text (First a) job was searched next cs y
  after_first text a job was searched (Item t directive) cs y h = h
  after_first text a job was searched (Done halted) cs y h = h
  after_first text a job was searched (NeedsAtoms pass) cs y h = h
  after_first text a job was searched (Retry cause) cs y h = h
  after_first text a job was searched (Worn word) cs y h = h
  after_first text a job was searched Memory cs y h = h

  before_second : (text : ℕ → Chars) (b : B) (job : Job) (o : Option Part) (how : Option (How Tree)) (searched : Option State) (cs : List Consulted) (x : Execution)
      → StandsBefore execution_by part_by term text (Second b) job o how searched cs x
      → StandsBefore second parts term text b job o how searched cs x
  before_second text b job None None searched cs x h = h
  before_second text b job (Some p) (Some how) (Some r) cs x h = h
  before_second text b job None (Some how) searched cs x h = absurd h
  before_second text b job (Some p) None searched cs x h = absurd h
  before_second text b job (Some p) (Some how) None cs x h = absurd h

  after_second : (text : ℕ → Chars) (b : B) (job : Job) (was : Option Part) (searched : Option State) (next : Next T) (cs : List Consulted) (y : Execution)
      → StandsAfter second parts term text b job was searched next cs y
      → StandsAfter execution_by part_by term text (Second b) job was searched next cs y
  after_second text b job was searched (Item t directive) cs y h = h
  after_second text b job was searched (Done halted) cs y h = h
  after_second text b job was searched (NeedsAtoms pass) cs y h = h
  after_second text b job was searched (Retry cause) cs y h = h
  after_second text b job was searched (Worn word) cs y h = h
  after_second text b job was searched Memory cs y h = h

  module _ (plays : (ℕ → Chars) → A → Script → Type 0) (performs : (ℕ → Chars) → B → Script → Type 0) (kept : A → Bool) (keeps : B → Bool) (name : A → Chars) (others : B → Chars) where
    abbrev GivenBy : (ℕ → Chars) → (ℕ → Chars) → Either A B → Option (How Tree) → Told → ℕ → List ℕ → Next T → Either A B → Told → ℕ → List ℕ → Type 0
    GivenBy old_text new_text old how t before bytes next new u after more =
        Given execution_by part_by term (λ (text : ℕ → Chars) (s : Either A B) (x : Script). EitherIs (λ (a : A). plays text a x) (λ (b : B). performs text b x) s) (λ (s : Either A B). either kept keeps s)
        (either name others old) old_text new_text old how t before bytes next new u after more

    pub first_gives : (old_text new_text : ℕ → Chars) (old : Either A B) (s r : A) (how : Option (How Tree)) (t u : Told) (before after : ℕ) (bytes more : List ℕ) (next : Next T) → old ≡ First s
        → Given first part term plays kept (name s) old_text new_text s how t before bytes next r u after more
        → GivenBy old_text new_text old how t before bytes next (First r) u after more
    first_gives old_text new_text old s r how t u before after bytes more next is given =
        subst (λ (e : Either A B). GivenBy old_text new_text e how t before bytes next (First r) u after more) (sym is)
        (λ job cs searched x p b w k.
        let g = given job cs searched x p (before_first old_text s job (part s) how searched cs x b) w k in
        (g.0, g.1, g.2, after_first new_text r job (part s) searched next g.0 g.1 g.3, g.4, g.5, g.6))

    pub second_gives : (old_text new_text : ℕ → Chars) (old : Either A B) (s r : B) (how : Option (How Tree)) (t u : Told) (before after : ℕ) (bytes more : List ℕ) (next : Next T) → old ≡ Second s
        → Given second parts term performs keeps (others s) old_text new_text s how t before bytes next r u after more
        → GivenBy old_text new_text old how t before bytes next (Second r) u after more
    second_gives old_text new_text old s r how t u before after bytes more next is given =
        subst (λ (e : Either A B). GivenBy old_text new_text e how t before bytes next (Second r) u after more) (sym is)
        (λ job cs searched x p b w k.
        let g = given job cs searched x p (before_second old_text s job (parts s) how searched cs x b) w k in
        (g.0, g.1, g.2, after_second new_text r job (parts s) searched next g.0 g.1 g.3, g.4, g.5, g.6))
