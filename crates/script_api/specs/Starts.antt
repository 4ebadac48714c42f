-- The script of an engine that was started with a goal.
use Rattle.std.specs.Prelude.{◌≡◌, ℕ, List, [], Bool, false, Option, None}
use Rattle.pl_term.specs.Tree.{Chars, Tree}
use Rattle.run_model.specs.Execution.{Script, Job, runs, Consulted, Execution, at_activity, beginning}
use Rattle.term_store.specs.NumberedNames.{names_of, term_by}
use Rattle.script_api.specs.Parts.{Part}

module _ {S : Type 0} (execution : (ℕ → Chars) → S → Job → List Consulted → Execution) (part : S → Option Part) (plays : (ℕ → Chars) → S → Script → Type 0)
    (over kept : S → Bool) (names : S → List ℕ) where
  -- Its engine is to take up this goal.
  pub record StartsWith (goal : Tree) (s : S) : Type 0 where
    pub nothing : part s ≡ None
    pub goes_on : over s ≡ false
    pub faultless : kept s ≡ false
    pub named : names s ≡ names_of goal
    pub playing : (text : ℕ → Chars) → plays text s (runs (term_by text goal))
    pub execution_is : (text : ℕ → Chars) (job : Job) → execution text s job [] ≡ at_activity (beginning (term_by text goal))
