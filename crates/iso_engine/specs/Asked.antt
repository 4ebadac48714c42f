-- What an engine's steps intern.
use Rattle.std.specs.Prelude.{◌≡◌, ℕ, List, ◌∷◌, ◌⊎◌}
use Rattle.std.specs.List.{Contains}
use Rattle.pl_term.specs.Tree.{Chars, Tree, Trees}
use Rattle.pl_model.specs.BuiltinRows.{Answer}
use Rattle.pl_model.specs.History.{Clause, History, Proc}
use Rattle.pl_model.specs.Database.{Stored}
use Rattle.pl_model.specs.Requests.{Request}
use Rattle.pl_model.specs.Resolution.{Choice, Node, Output, Purpose, answers, clauses, clearing, failing}
use Rattle.atom_api.specs.Names.{Names}
use Rattle.builtin_rows.specs.Given.{terms_of, texts_of_all}
use Rattle.world_api.specs.Asked.{front_texts, IsInReply}
use Rattle.world_api.specs.Told.{Told, Follows}
use Rattle.iso_search.specs.Searching.{choices_of}
use Rattle.iso_engine.specs.declared.engine.Engine.{Engine}
use Rattle.iso_engine.specs.declared.slices.Slice.{Slice}
use Rattle.iso_engine.specs.declared.slices.Slice.TheVariants.{Memory}
use Rattle.iso_engine.specs.Advancing.{Advances}
use Rattle.iso_engine.specs.Asking.{IsAsking}
use Rattle.iso_engine.specs.Views.{view_of}
use Rattle.iso_engine.specs.Leaving.{IsExitText}
use Rattle.iso_engine.specs.Rows.{IsRowText}
use Rattle.iso_engine.specs.Standing.{doing_of}

-- The engine's next step makes a request, and the text is one of what is handed of the reply to it after entries of others.
pub record IsAnswerText (m : Names) (t : Told) (e : Engine) (c : Chars) : Type 0 where
  pub request : Request
  pub asking : IsAsking m t e request
  pub before : History
  pub follows : Follows t.engine t.history before
  pub handed : IsInReply t before request c

-- The engine's next step goes back to clauses that were not tried, and the text is one of the first of them.
pub record IsClauseText (m : Names) (t : Told) (e : Engine) (c : Chars) : Type 0 where
  pub fails : doing_of (view_of m t) e.search e.doing ≡ failing
  pub purpose : Purpose
  pub goal : Tree
  pub left : List (Stored Clause)
  pub node : Node
  pub older : List Choice
  pub newest : choices_of (view_of m t) e.search ≡ clauses purpose goal left node ∷ older
  pub first : Contains (front_texts left) c

-- The engine's next step goes back to answers of a built-in predicate that were not tried, and the text is one of theirs.
pub record IsLineText (m : Names) (t : Told) (e : Engine) (c : Chars) : Type 0 where
  pub fails : doing_of (view_of m t) e.search e.doing ≡ failing
  pub predicate : Proc
  pub terms : Trees
  pub left : List Answer
  pub node : Node
  pub older : List Choice
  pub newest : choices_of (view_of m t) e.search ≡ answers predicate terms left node ∷ older
  pub given : Contains (texts_of_all (terms_of left)) c

-- The engine's next step looks at the next of the clauses for retractall/1, and the text is one of the first of them.
pub record IsClearText (m : Names) (t : Told) (e : Engine) (c : Chars) : Type 0 where
  pub head : Tree
  pub left : List (Stored Clause)
  pub node : Node
  pub clears : doing_of (view_of m t) e.search e.doing ≡ clearing head left node
  pub first : Contains (front_texts left) c

-- The engine's next step asks for the text.
abbrev pub AsksFor : Names → Told → Engine → Chars → Type 0
AsksFor m t e c = IsAnswerText m t e c ⊎ (IsClauseText m t e c ⊎ (IsLineText m t e c ⊎ (IsRowText m t e c ⊎ (IsExitText m t e c ⊎ IsClearText m t e c))))

-- The engine comes to where its next step asks for the text.
pub record ComesToAsk (m : Names) (t : Told) (e : Engine) (c : Chars) : Type 0 where
  pub steps : ℕ
  pub names : Names
  pub told : Told
  pub engine : Engine
  pub written : List Output
  pub advances : Advances steps m t e names told engine written
  pub asks : AsksFor names told engine c

-- It comes there on the way from the one state to the other.
pub record AsksOnWay (m : Names) (t : Told) (e : Engine) (n : Names) (u : Told) (f : Engine) (c : Chars) : Type 0 where
  pub there : ComesToAsk m t e c
  pub steps : ℕ
  pub written : List Output
  pub advances : Advances steps there.names there.told there.engine n u f written

-- In a slice it comes there on the way to the last state, of which nothing is said after running out of memory.
abbrev pub AsksInSlice : Slice → Names → Told → Engine → Names → Told → Engine → Chars → Type 0
AsksInSlice Memory m t e n u f c = ComesToAsk m t e c
AsksInSlice s m t e n u f c = AsksOnWay m t e n u f c
