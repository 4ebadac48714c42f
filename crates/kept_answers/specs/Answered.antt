-- Answers that are given again.
use Rattle.std.specs.Prelude.{◌≡◌, ◌≤◌, ℕ, List, [], ◌∷◌, ◌++◌, length, get_or, slice_index_or, Option, Some, None, IsSome, Bool, true, refl}
use Rattle.std.specs.Option.{is_some, option_map}
use Rattle.std.specs.Coded.{Coded, Coded-set, code_by, coded_bool, coded_option, coded_ℕ, coded×, Unit-prop, le_prop, ×_prop}
use Rattle.std.specs.List.{All}
use Rattle.std.specs.Str.{all_scalars}
use Rattle.pl_term.specs.Nodes.{coded_tree}
use Rattle.pl_term.specs.Tree.{Chars, Tree}
use Rattle.pl_model.specs.History.{Clause, History}
use Rattle.pl_model.specs.Database.{Stored}
use Rattle.pl_model.specs.Requests.{call_clauses, listed}
use Rattle.pl_model.specs.Service.{Served, answers, served_now}
use Rattle.atom_api.specs.Names.{FixedStand, Names}
use Rattle.term_store.specs.ArgumentKeys.{clause_key, key_atoms}
use Rattle.term_store.specs.NumberedNames.{names_of, term_by}
use Rattle.term_store.specs.declared.argument_key.ArgumentKey.{ArgumentKey}
use Rattle.world_api.specs.declared.asking.After.{After}
use Rattle.world_api.specs.declared.asking.Asked.{Asked}
use Rattle.world_api.specs.declared.reply.Found.{Found}
use Rattle.world_api.specs.declared.reply.Reply.TheVariants.{Clauses}
use Rattle.world_api.specs.Answers.{Serves}
use Rattle.world_api.specs.Replies.{follows_some, found_names}
use Rattle.world_api.specs.Texts.{Holds, text_of}
use Rattle.world_api.specs.Told.{Told, behind, clause_list}
use Rattle.world_api.specs.Visits.{IsGoal, clause_in, visit_for}
use Rattle.kept_answers.specs.declared.answers.Kept.{Kept}
use Rattle.kept_answers.specs.declared.answers.Space.{Space}

-- WHAT AN ENGINE HOLDS: the fixed atoms have their texts, no two atoms have one text, and each text is one of characters
pub record IsNaming (m : Names) : Type 0 where
  pub stand : FixedStand m
  pub unlike : (a b : ℕ) (t : Chars) → m a ≡ Some t → m b ≡ Some t → a ≡ b
  pub scalars : (a : ℕ) (t : Chars) → m a ≡ Some t → all_scalars t ≡ true

-- the atoms that it names
abbrev pub asked_atoms : Asked ArgumentKey → List ℕ
asked_atoms a = a.procedure.name ∷ key_atoms a.first

-- the generation of its answer where the history has this length, and the generations of the engine's visits after it
abbrev pub stood : Option After → ℕ → ℕ
stood None n = n
stood (Some x) n = x.generation

abbrev pub gens_after : Option After → ℕ → List ℕ → List ℕ
gens_after None n gens = gens ++ n ∷ []
gens_after (Some x) n gens = gens

abbrev pub told : ℕ → ℕ → History → List ℕ → Told
told e goals h gens = record { engine = e; goals = goals; history = h; gens = gens }

-- the atoms that a request and its answer name
abbrev pub answer_atoms : Asked ArgumentKey → Option (Found Tree) → List ℕ
answer_atoms a f = asked_atoms a ++ found_names names_of f

-- THE LIST that the definitions answer a goal, if it is one and nothing is changed: of a call, or of those behind a clause
abbrev pub listed_in : Served → Option (List (Stored Clause))
listed_in (answers (listed cs) None) = Some cs
listed_in s = None

abbrev pub rows_for : ℕ → History → Option After → Tree → Option (List (Stored Clause))
rows_for goals h None goal = listed_in (served_now 0 goals h (call_clauses goal))
rows_for goals h (Some x) goal = Some (behind x.place (clause_list goals h x.generation goal))

-- the first of a list, and what was found by the texts of a map: a clause with its place, and whether others follow
abbrev pub Row : Type 0
Row = Clause × (ℕ × Bool)

abbrev pub first_row : List (Stored Clause) → Option Row
first_row [] = None
first_row (c ∷ cs) = Some (c.clause, (c.place, follows_some cs))

abbrev pub found_row : (ℕ → Chars) → Option (Found Tree) → Option Row
found_row text None = None
found_row text (Some f) = Some (clause_in (term_by text f.clause), (f.place, f.more))

-- THE CLAUSE ANSWERS every goal that is asked for so, by the texts that are held, whatever else is held
pub record IsKept (goals : ℕ) (h : History) (a : Asked ArgumentKey) (f : Option (Found Tree)) (n : Names) : Type 0 where
  pub held : All (λ x. IsSome (n x)) (answer_atoms a f)
  pub again :
      (m : Names)
      → IsNaming m
      → All (λ x. m x ≡ n x) (answer_atoms a f)
      → (goal : Tree)
      → IsGoal term_by clause_key (text_of m) a.procedure a.first goal
      → option_map first_row (rows_for goals h a.after goal) ≡ Some (found_row (text_of m) f)

-- IT WAS FOUND so: the shared state answered a visit that asked for this, with which the engine came to hold what it holds
pub record IsGiven (goals : ℕ) (h : History) (w : Names) (a : Asked ArgumentKey) (f : Option (Found Tree)) : Type 0 where
  pub v : Names
  pub naming : IsNaming v
  pub holds : Holds v w
  pub asked : All (λ x. IsSome (v x)) (asked_atoms a)
  pub held : All (λ x. IsSome (w x)) (answer_atoms a f)
  pub g : ℕ
  pub old : Told
  pub new : Told
  pub before : History
  pub serves : Serves term_by clause_key (text_of v) (text_of w) (visit_for a) (Clauses f) g old before new
  pub goals_are : new.goals ≡ goals
  pub history : new.history ≡ h

-- so the visit is answered to any engine
abbrev pub Again : ℕ → History → Asked ArgumentKey → Option (Found Tree) → Names → Type 0
Again goals h a f m =
    (e : ℕ) (gens : List ℕ)
    → Serves term_by clause_key (text_of m) (text_of m) (visit_for a) (Clauses f) (stood a.after (length h)) (told e goals h gens) h
    (told e goals h (gens_after a.after (length h) gens))

-- WHAT IS KEPT at the length that the history has is so; no answer is of a longer one
abbrev pub IsAnswer : ℕ → History → Names → Kept → Type 0
IsAnswer goals h n k = (k.generation ≤ length h) × (k.generation ≡ length h → IsKept goals h k.asked k.found n)

abbrev pub IsSoundIn : ℕ → History → Names → Option Kept → Type 0
IsSoundIn goals h n None = Unit {0}
IsSoundIn goals h n (Some k) = IsAnswer goals h n k

abbrev pub IsSound : ℕ → History → Names → Space → Type 0
IsSound goals h n s = IsSoundIn goals h n s.kept

abbrev pub AreSound : ℕ → History → Names → List Space → Type 0
AreSound goals h n ss = All (IsSound goals h n) ss

-- WHAT IS KEPT at a place, or else another
abbrev pub found_or : Option (Found Tree) → Option Kept → Option (Found Tree)
found_or f None = f
found_or f (Some k) = k.found

-- a place at which nothing is kept
abbrev pub free : Space
free = record { mark = 0; kept = None }

abbrev pub found_at : List Space → ℕ → Option (Found Tree) → Option (Found Tree)
found_at ss i f = found_or f (slice_index_or ss i free).kept

-- how clauses are told apart where a fact about them is stored
coded_clause : Coded Clause
coded_clause =
    code_by
    (Tree × (Tree × ℕ))
    (coded× coded_tree (coded× coded_tree coded_ℕ))
    (λ c. (c.head, (c.body, c.variables)))
    (λ t. record { head = t.0; body = t.1.0; variables = t.1.1 })
    (λ _. refl)

-- There is one way at most in which all this is so.
module _ (goals : ℕ) (h : History) (n : Names) where
  row_is : (x y : Option (Option Row)) → IsProp (x ≡ y)
  row_is = Coded-set (coded_option (coded_option (coded× coded_clause (coded× coded_ℕ coded_bool))))

  kept_is : (a : Asked ArgumentKey) (f : Option (Found Tree)) → IsProp (IsKept goals h a f n)
  kept_is a f x y =
      λ i.
      record {
        held = λ k d lt. Coded-set coded_bool (is_some (n (get_or (answer_atoms a f) k d))) true (x.held k d lt) (y.held k d lt) i;
        again = λ m naming same goal asked.
            row_is (option_map first_row (rows_for goals h a.after goal)) (Some (found_row (text_of m) f)) (x.again m naming same goal asked) (y.again m naming same goal asked) i;
      }

  sound_is : (k : Option Kept) → IsProp (IsSoundIn goals h n k)
  sound_is None = Unit-prop
  sound_is (Some k) = ×_prop le_prop (λ x y. λ i same. kept_is k.asked k.found (x same) (y same) i)

  pub are_sound_is : (ss : List Space) → IsProp (AreSound goals h n ss)
  are_sound_is ss x y = λ i k d lt. sound_is (get_or ss k d).kept (x k d lt) (y k d lt) i
