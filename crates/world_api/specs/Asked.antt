-- What a visit interns.
use Rattle.std.specs.Prelude.{◌≡◌, ℕ, List, [], ◌∷◌, ◌++◌, map, Option, codes}
use Rattle.std.specs.List.{Contains}
use Rattle.pl_term.specs.Tree.{Chars, Tree, Trees, var, int, atom, comp, none, more}
use Rattle.pl_model.specs.History.{Clause, History, Kind, Proc}
use Rattle.pl_model.specs.Database.{Stored}
use Rattle.pl_model.specs.OperatorTable.{Key, Entry, operators}
use Rattle.pl_model.specs.Service.{answers, served_now}
use Rattle.pl_model.specs.Requests.{Request, standing, listed, procedures, flags, named, message, no_message, status, done, gone, refused}
use Rattle.pl_model.specs.Requests as requests
use Rattle.world_api.specs.declared.visit.Visit.{Visit}
use Rattle.world_api.specs.declared.visit.Visit.TheVariants.{Look, ReadOperators, Next}
use Rattle.world_api.specs.Told.{Told, Follows, clause_list, behind}
use Rattle.world_api.specs.Visits.{IsGoal, Asks}

-- The names of the atoms and compound terms of a term, in prefix order.
abbrev mutual
  pub texts_in : Tree → List Chars
  texts_in (var x) = []
  texts_in (int i) = []
  texts_in (atom a) = a ∷ []
  texts_in (comp f t ts) = f ∷ (texts_in t ++ texts_in_all ts)

  pub texts_in_all : Trees → List Chars
  texts_in_all none = []
  texts_in_all (more t ts) = texts_in t ++ texts_in_all ts

-- Those of a clause as one term: the neck, and those of its head and its body.
abbrev pub clause_texts : Clause → List Chars
clause_texts c = codes ":-" ∷ (texts_in c.head ++ texts_in c.body)

-- Those of the first clause of a list.
abbrev pub front_texts : List (Stored Clause) → List Chars
front_texts [] = []
front_texts (c ∷ cs) = clause_texts c.clause

abbrev pub flag_texts : List (Chars × Tree) → List Chars
flag_texts [] = []
flag_texts (f ∷ fs) = f.0 ∷ (texts_in f.1 ++ flag_texts fs)

-- Those of what an engine is handed of a reply: of a list of clauses the first one, and of the operators their names.
abbrev pub handed_texts : requests.Reply → List Chars
handed_texts (standing ops quotes) = map (λ (o : Key × Entry). o.0.0) (operators ops)
handed_texts (listed cs) = front_texts cs
handed_texts (procedures ps) = map (λ (p : Proc). p.name) ps
handed_texts (flags fs) = flag_texts fs
handed_texts (named t) = texts_in t
handed_texts (message t) = texts_in t
handed_texts no_message = []
handed_texts (status t) = texts_in t
handed_texts done = []
handed_texts gone = []
handed_texts (refused t) = texts_in t

-- The request is answered so after all entries, and the text is one of what is handed of the reply.
pub record IsInReply (t : Told) (before : History) (q : Request) (c : Chars) : Type 0 where
  pub reply : requests.Reply
  pub update : Option Kind
  pub served : served_now t.engine t.goals before q ≡ answers reply update
  pub handed : Contains (handed_texts reply) c

module _ {T K : Type 0} (term : (ℕ → Chars) → T → Tree) (key : T → K) (text : ℕ → Chars) where
  -- The text is one of what is handed of the reply to any request that the visit stands for, after all entries; or of the
  -- next clause of a list. The table of the operators is handed out without a name.
  abbrev pub StandsIn : Visit T K → Told → History → Chars → Type 0
  StandsIn (Next p k h place) t before c =
      (goal : Tree) → IsGoal term key text p k goal → Contains (front_texts (behind place (clause_list t.goals before h goal))) c
  StandsIn Look t before c = ⊥
  StandsIn ReadOperators t before c = ⊥
  StandsIn v t before c = (q : Request) → Asks term key text v q → IsInReply t before q c

  -- The text stands in what a visit is answered after those entries that the engine had seen and others of other engines.
  pub record IsInAnswer (v : Visit T K) (t : Told) (c : Chars) : Type 0 where
    pub before : History
    pub follows : Follows t.engine t.history before
    pub stands : StandsIn v t before c
