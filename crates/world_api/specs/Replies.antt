-- What a reply says.
use Rattle.std.specs.Prelude.{◌≡◌, ℕ, pos, List, [], ◌∷◌, ◌++◌, map, Option, Some, None, Bool, true, false}
use Rattle.std.specs.Arc.{arc_value}
use Rattle.pl_term.specs.Tree.{Chars, Tree, int, atom}
use Rattle.pl_model.specs.History.{Clause}
use Rattle.pl_model.specs.Database.{Stored}
use Rattle.pl_model.specs.OperatorTable.{Key, Entry, operators, place_of}
use Rattle.pl_model.specs.Requests.{standing, listed, procedures, flags, named, message, no_message, status, done, gone, refused}
use Rattle.pl_model.specs.Requests as requests
use Rattle.world_api.specs.declared.visit.Procedure.{Procedure}
use Rattle.world_api.specs.declared.reply.Found.{Found}
use Rattle.world_api.specs.declared.reply.Name.{Name}
use Rattle.world_api.specs.declared.reply.Name.TheVariants.{Number, Alias}
use Rattle.world_api.specs.declared.reply.FlagValue.{FlagValue}
use Rattle.world_api.specs.declared.reply.Operator.{Operator}
use Rattle.world_api.specs.declared.reply.Reply.{Reply}
use Rattle.world_api.specs.declared.reply.Reply.TheVariants.{Standing, Clauses, Procedures, Flags, Operators, Named, Message, NoMessage, Status, Done, Gone, Refused}
use Rattle.world_api.specs.declared.visit.Visit.{Visit}
use Rattle.world_api.specs.declared.visit.Visit.TheVariants.{Look, ReadOperators, AllOperators}
use Rattle.world_api.specs.Visits.{proc_named, clause_in}

abbrev pub follows_some : {A : Type 0} → List A → Bool
follows_some [] = false
follows_some (x ∷ xs) = true

abbrev pub name_term : (ℕ → Chars) → Name → Tree
name_term text (Number n) = int (pos n)
name_term text (Alias a) = atom (text a)

-- The operators by their table with the flag, and by their names.
abbrev pub HasTable : {T : Type 0} → Reply T → Type 0
HasTable (Standing ops quotes) = Unit {0}
HasTable _ = ⊥

abbrev pub HasNames : {T : Type 0} → Reply T → Type 0
HasNames (Operators os) = Unit {0}
HasNames _ = ⊥

-- Operators are told as they were asked for.
abbrev pub Suits : {T K : Type 0} → Visit T K → Reply T → Type 0
Suits Look r = HasTable r
Suits ReadOperators r = HasTable r
Suits AllOperators r = HasNames r
Suits _ _ = Unit {0}

-- An operator as the table has it.
abbrev pub operator_in : (ℕ → Chars) → Operator → Key × Entry
operator_in text o = ((text o.name, place_of o.kind), (o.priority, o.kind))

module _ {T : Type 0} (term : (ℕ → Chars) → T → Tree) (text : ℕ → Chars) where
  -- The first of a list of clauses, or that there is none.
  pub record IsFirst (f : Found T) (c : Stored Clause) (cs : List (Stored Clause)) : Type 0 where
    pub clause : clause_in (term text f.clause) ≡ c.clause
    pub place : f.place ≡ c.place
    pub more : f.more ≡ follows_some cs

  abbrev pub IsFront : Option (Found T) → List (Stored Clause) → Type 0
  IsFront None [] = Unit {0}
  IsFront (Some f) (c ∷ cs) = IsFirst f c cs
  IsFront _ _ = ⊥

  -- The reply says this.
  abbrev pub Says : Reply T → requests.Reply → Type 0
  Says (Standing ops quotes) r = r ≡ standing (arc_value ops) quotes
  Says (Clauses f) (listed cs) = IsFront f cs
  Says (Procedures ps) r = r ≡ procedures (map (proc_named text) ps.items)
  Says (Flags fs) r = r ≡ flags (map (λ (f : FlagValue T). (text f.flag, term text f.value)) fs.items)
  Says (Operators os) (standing t quotes) = operators t ≡ map (operator_in text) os.items
  Says (Named n) r = r ≡ named (name_term text n)
  Says (Message t) r = r ≡ message (term text t)
  Says NoMessage r = r ≡ no_message
  Says (Status t) r = r ≡ status (term text t)
  Says Done r = r ≡ done
  Says Gone r = r ≡ gone
  Says (Refused e) r = r ≡ refused (term text e)
  Says _ _ = ⊥

module _ {T : Type 0} (names : T → List ℕ) where
  abbrev pub found_names : Option (Found T) → List ℕ
  found_names None = []
  found_names (Some f) = names f.clause

  abbrev pub all_flag_names : List (FlagValue T) → List ℕ
  all_flag_names [] = []
  all_flag_names (f ∷ fs) = f.flag ∷ (names f.value ++ all_flag_names fs)

  -- The atoms that a reply names.
  abbrev pub reply_names : Reply T → List ℕ
  reply_names (Clauses f) = found_names f
  reply_names (Procedures ps) = map (λ (p : Procedure). p.name) ps.items
  reply_names (Flags fs) = all_flag_names fs.items
  reply_names (Operators os) = map (λ (o : Operator). o.name) os.items
  reply_names (Named (Alias a)) = a ∷ []
  reply_names (Message t) = names t
  reply_names (Status t) = names t
  reply_names (Refused e) = names e
  reply_names _ = []
