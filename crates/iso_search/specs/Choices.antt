-- What choice points stand for. The older ones are read from the store as it was when the newest was made.
use Rattle.std.specs.Prelude.{◌≤◌, ℕ, List, [], ◌∷◌, length, take, drop}
use Rattle.std.specs.List.{All}
use Rattle.pl_term.specs.Tree.{Tree}
use Rattle.pl_model.specs.BuiltinRows.{unifying}
use Rattle.pl_model.specs.History.{head_part}
use Rattle.pl_model.specs.Predicates.{proc_of}
use Rattle.pl_model.specs.Resolution.{Node, resolving, inspecting, retracting, Choice, clauses, answers, branch, barrier, catch, findall}
use Rattle.pl_model.specs.Resolution as resolution
use Rattle.pl_model.specs.Terms.{arguments}
use Rattle.term_store.specs.declared.words.Place.{Place}
use Rattle.term_store.specs.Contents.{Contents, Holds, IsMark, back_to}
use Rattle.iso_search.specs.declared.frames.Task.{Task}
use Rattle.iso_search.specs.declared.frames.Task.TheVariants.{Goal, Commit, Refute, Leave, Collect}
use Rattle.iso_search.specs.declared.frames.Frame.{Frame}
use Rattle.iso_search.specs.declared.choices.Alternative.{Alternative}
use Rattle.iso_search.specs.declared.choices.Alternative.TheVariants.{Clauses, Answers, Told, Branch, Barrier, Catch, Findall}
use Rattle.iso_search.specs.declared.choices.Purpose.{Purpose}
use Rattle.iso_search.specs.declared.choices.Purpose.TheVariants.{Resolving, Inspecting, Retracting}
use Rattle.iso_search.specs.declared.choices.ChoicePoint.{ChoicePoint}
use Rattle.iso_search.specs.Collecting.{IsCollectionIn, copies_of}
use Rattle.iso_search.specs.Frames.{tasks, AreLinked}
use Rattle.iso_search.specs.Lines.{lines_of}
use Rattle.iso_search.specs.Reading.{View, reads, node_at}
use Rattle.iso_search.specs.Told.{told_from}

abbrev pub purpose_of : Purpose → resolution.Purpose
purpose_of Resolving = resolving
purpose_of Inspecting = inspecting
purpose_of Retracting = retracting

-- The goal for which clauses are listed: the goal itself, or the head of the rule of clause/2 or retract/1.
abbrev pub listed_goal : resolution.Purpose → Tree → Tree
listed_goal resolving t = t
listed_goal inspecting t = head_part t
listed_goal retracting t = head_part t

-- The answers of a built-in predicate, called by this goal, that come from the lines of its table from a line on.
abbrev pub answers_from : Tree → ℕ → Node → Choice
answers_from t line n = answers (proc_of t) (arguments t) (unifying (arguments t) (drop line (lines_of t))) n

-- The choice with this node after it.
abbrev pub choice_at : View → (Place → Tree) → Node → Alternative → Choice
choice_at v r n (Clauses p w generation place) =
    clauses (purpose_of p) (r w) (v.left (listed_goal (purpose_of p) (r w)) generation place) n
choice_at v r n (Answers w line) = answers_from (r w) line n
choice_at v r n (Told w lines line) = told_from v.names (r w) lines.items line n
choice_at v r n Branch = branch n
choice_at v r n Barrier = barrier
choice_at v r n (Catch c w) = catch (r c) (r w) n
choice_at v r n (Findall w found) = findall (r w) (copies_of v found) n

-- The node after a choice point.
abbrev pub node_behind : View → List Place → Contents → List Frame → ChoicePoint → Node
node_behind v ws s fs k = node_at (reads v (back_to k.mark s)) (tasks (take k.frames fs) k.next) ws k.mark.used

-- The choices, the newest first.
abbrev pub choices_at : View → List Place → Contents → List Frame → List ChoicePoint → List Choice
choices_at v ws s fs [] = []
choices_at v ws s fs (k ∷ ks) =
    choice_at v (reads v (back_to k.mark s)) (node_behind v ws s fs k) k.alternative
    ∷ choices_at v ws (back_to k.mark s) (take k.frames fs) ks

abbrev pub IsTaskIn : Contents → Task → Type 0
IsTaskIn s (Goal w n) = Holds s w
IsTaskIn s (Commit n) = Unit {0}
IsTaskIn s (Refute n) = Unit {0}
IsTaskIn s (Leave n) = Unit {0}
IsTaskIn s (Collect w n) = Holds s w

abbrev pub IsAlternativeIn : Contents → Alternative → Type 0
IsAlternativeIn s (Clauses p w g k) = Holds s w
IsAlternativeIn s (Answers w line) = Holds s w
IsAlternativeIn s (Told w lines line) = Holds s w
IsAlternativeIn s Branch = Unit {0}
IsAlternativeIn s Barrier = Unit {0}
IsAlternativeIn s (Catch c w) = Holds s c × Holds s w
IsAlternativeIn s (Findall w found) = Holds s w × IsCollectionIn s found

-- The places of the frames and of the answer are of the store, and the frames are well made.
pub record IsBase (ws : List Place) (s : Contents) (fs : List Frame) : Type 0 where
  pub answer : All (Holds s) ws
  pub words : All (λ f. IsTaskIn s f.task) fs
  pub linked : AreLinked fs

-- A choice point can be gone back to.
pub record IsRest (ws : List Place) (s : Contents) (fs : List Frame) (k : ChoicePoint) : Type 0 where
  pub mark : IsMark k.mark s
  pub frames : k.frames ≤ length fs
  pub next : k.next ≤ k.frames
  pub base : IsBase ws (back_to k.mark s) (take k.frames fs)
  pub words : IsAlternativeIn (back_to k.mark s) k.alternative

abbrev pub AreRests : List Place → Contents → List Frame → List ChoicePoint → Type 0
AreRests ws s fs [] = Unit {0}
AreRests ws s fs (k ∷ ks) = IsRest ws s fs k × AreRests ws (back_to k.mark s) (take k.frames fs) ks
