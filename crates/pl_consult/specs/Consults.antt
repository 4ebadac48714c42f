-- What a consult is of an execution: how far the file is taken up, and what is written of it.
use Rattle.std.specs.Prelude.{◌≡◌, ℕ, zero, List, [], ◌∷◌, Bool, Option, Some, None, length, nat_lt, encode_utf8_all, if◌then◌else◌}
use Rattle.pl_term.specs.Tree.{Chars, Tree}
use Rattle.pl_term.specs.Variables.{rename}
use Rattle.pl_model.specs.OperatorTable.{OperatorTable}
use Rattle.pl_model.specs.Control.{start}
use Rattle.run_model.specs.Execution.{Job, most_bytes, Consulted, too_large, bytes_in, directive_limits, Rest, items_from, initialization, Activity, taking, adding, directing, initializing, reading, Execution}
use Rattle.run_model.specs.Report.{all_consulted}
use Rattle.pl_consult.specs.declared.consult.Place.{Place}
use Rattle.pl_consult.specs.declared.consult.Place.TheVariants.{Item, Initialization}
use Rattle.pl_consult.specs.declared.consult.Taken.{Taken}
use Rattle.pl_consult.specs.declared.consult.Taken.TheVariants.{Clause, Directive, Passed}
use Rattle.pl_consult.specs.declared.consult.Consult.{Consult}
use Rattle.pl_consult.specs.Checks.{kept_clause}

abbrev pub rest_of : Place → Rest
rest_of (Item at) = items_from at
rest_of Initialization = initialization

-- What is done where consulting goes on at this place.
abbrev pub activity_of : Place → Activity
activity_of (Item at) = taking at
activity_of Initialization = initializing

-- Where consulting begins, and what is written of the file then.
abbrev pub is_too_large : List ℕ → Bool
is_too_large bytes = nat_lt most_bytes (length bytes)

abbrev pub first_place : Bool → Place
first_place too = if too then Initialization else Item 0

abbrev pub first_lines : Bool → List Consulted
first_lines too = if too then too_large ∷ [] else []

-- It is the file of this execution, with the goals of initialization/1 that were not run yet, and the bytes are the
-- lines that are written of the file.
pub record Stands (c : Consult) (job : Job) (x : Execution) (out : List ℕ) : Type 0 where
  pub bytes : bytes_in job.script ≡ c.text.items
  pub later : x.later ≡ c.later.items
  pub lines : out ≡ encode_utf8_all (all_consulted c.name [] x.consulted)

-- What the execution does with the item.
abbrev pub Does : Taken → Place → Job → OperatorTable → Activity → Type 0
Does (Clause term place) (Item next) job ops a = (a ≡ adding ops place next (kept_clause term)) × (rename zero term ≡ term)
Does (Clause term place) Initialization job ops a = ⊥
Does (Directive goal place) to job ops a = a ≡ directing place (rest_of to) (start (directive_limits job) goal)
Does Passed to job ops a = a ≡ activity_of to

-- The item is taken up so, of the file with this name.
abbrev pub Took : Taken → Chars → Consult → Job → OperatorTable → Execution → List ℕ → Type 0
Took taken name c job ops x out = Stands c job x out × Does taken c.place job ops x.activity × (c.name ≡ name)

-- The next goal of initialization/1, with the place of its item, or none.
abbrev pub Initializes : Option (ℕ × Tree) → Job → Activity → Type 0
Initializes None job a = a ≡ reading
Initializes (Some g) job a = a ≡ directing g.0 initialization (start (directive_limits job) g.1)
