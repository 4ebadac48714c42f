-- Which goals are built-in predicates.
use Rattle.std.proofs.Common.{◌≡◌, ◌==◌, ℕ, suc, ◌<◌, Bool, true, false, List, [], ◌∷◌, length, Option, Some, None, is_some, bytes_eq, codes, refl, sym, ap, ap₂, subst, ◌∙◌, arith}
use Rattle.std.proofs.lemmas.Bool.{false≢true, true≢false}
use Rattle.std.proofs.lemmas.Bool.Decides.{Decides-eqb}
use Rattle.std.proofs.lemmas.Slice.Eq.{bytes_eq-Decides}
use Rattle.pl_term.specs.Tree.{Chars, Tree, none as no_trees, var, atom, count, compound, trees}
use Rattle.pl_model.specs.BuiltinRows.{Row}
use Rattle.pl_model.specs.BuiltinRows as basic
use Rattle.pl_model.specs.Builtins.{row}
use Rattle.pl_model.specs.SharedBuiltins.{shared}
use Rattle.pl_model.specs.Terms.{arguments}
use Rattle.pl_model.specs.Control.{construct, name_of, other}
use Rattle.term_store.specs.declared.words.Place.{Place}
use Rattle.term_store.specs.declared.views.Arguments.{Arguments}
use Rattle.term_store.specs.Heap.{atom_name}
use Rattle.term_store.specs.Contents.{Contents, Holds, IsArguments, arguments_at, term_at}
use Rattle.shared_builtins.specs.Goals.{IsPredicate}
use Rattle.builtin_rows.specs.declared.predicates.Meaning.{Meaning}
use Rattle.builtin_rows.specs.declared.predicates.Meaning.TheVariants as meaning
use Rattle.builtin_rows.specs.Predicates.{has_row}
use Rattle.builtin_rows.specs.Laws.{AreTexts, IsNamed, TellsConstructs, TellsRows, TellsShared, goal_of, is_predicate}
use Rattle.iso_search.specs.Lines.{lines_of, table_of}
use Rattle.iso_search.specs.Reading.{IsView, View, reads}
use Rattle.iso_search.specs.Spelling.{spelled, spelled_all, text_of}
use Rattle.iso_search.proofs.Constructing.{count-trees, how_many}
use Rattle.iso_search.proofs.Naming.{is_named, text_is}
use Rattle.iso_search.proofs.Spelt.{count-spelled}
use Rattle.iso_engine.specs.declared.builtin.Builtin.TheVariants as builtin
use Rattle.iso_engine.specs.Builtins.{AsksOnce, IsAskedAt, IsBuiltinAt, IsNoBuiltin}
use Rattle.iso_engine.specs.Collections.{collection_name}
use Rattle.iso_engine.specs.declared.state.collecting.Collection.{Collection}
use Rattle.iso_engine.specs.declared.state.collecting.Collection.TheVariants.{Atoms, Clauses}
use Rattle.shared_builtins.specs.declared.goal.StateGoal.{StateGoal}
use Rattle.iso_engine.proofs.CollectGoals.{collection_is, collection_text}

one_name : (a b : ℕ) → atom_name a ≡ atom_name b → a ≡ b
one_name a b e = first a b [] [] e
  where
    first : (x y : ℕ) (xs ys : List ℕ) → x ∷ xs ≡ y ∷ ys → x ≡ y
    first x y xs ys h = cc

-- What is told of a predicate by its name and the number of its arguments.
pub record IsTold (name arity : ℕ) (o : Option Meaning) : Type 0 where
  pub named : IsNamed name arity o
  pub rows : TellsRows name arity o
  pub shares : TellsShared name arity o
  pub constructs : TellsConstructs name arity o

none_of : (o : Option Row) → is_some o ≡ false → o ≡ None
none_of None e = refl
none_of (Some r) e = absurd (true≢false e)

no_lines : (o : Option Row) → is_some o ≡ false → table_of o ≡ []
no_lines None e = refl
no_lines (Some r) e = absurd (true≢false e)

-- A goal without arguments has no table.
no_row_alone : (f : Chars) (next : ℕ) → row f no_trees next ≡ None
unfolding row basic.row
no_row_alone f next = refl

pub alone_no_lines : (g : Chars → Chars) (t x : Tree) → t ≡ x → arguments (spelled g x) ≡ no_trees → lines_of (spelled g t) ≡ []
alone_no_lines g t x is no_arguments =
    ap (λ y. lines_of (spelled g y)) is
    ∙ ap (λ ts. table_of (row (name_of (spelled g x)) ts 0)) no_arguments
    ∙ ap table_of (no_row_alone (name_of (spelled g x)) 0)

-- Nor is call/0 a predicate of the shared state, or one without arguments but the two of the collections.
no_call : shared (codes "call") no_trees ≡ None
unfolding shared
no_call = refl

not_true : (b : Bool) → (b ≡ true → ⊥) → b ≡ false
not_true true never = absurd (never refl)
not_true false never = refl

alone_not_shared : (f : Chars) → bytes_eq f (codes "garbage_collect_atoms") ≡ false → bytes_eq f (codes "garbage_collect_clauses") ≡ false
    → is_some (shared f no_trees) ≡ false
unfolding shared
alone_not_shared f a b = rw (a, b)

module _ (v : View) (view : IsView v) where
  abbrev pub texts : ℕ → Chars
  texts a = text_of v.names (atom_name a)

  are_texts : AreTexts texts
  are_texts =
      record {
        standing = λ a t e. text_is v view a t e;
        apart = λ a b e.
            one_name a b
            ((bytes_eq-Decides (atom_name a) (atom_name b)).0
            (sym (view.apart (atom_name a) (atom_name b)) ∙ (bytes_eq-Decides (texts a) (texts b)).1 e));
      }

  -- The text of another atom than a collection's.
  differs : (name : ℕ) (x : Collection) → (name ≡ collection_name x → ⊥) → bytes_eq (texts name) (collection_text x) ≡ false
  differs name x apart =
      is_named v view name (collection_name x) (collection_text x) (collection_is x)
      ∙ not_true (name == collection_name x) (λ e. apart ((Decides-eqb name (collection_name x)).0 e))

  module _ (g : Tree) (name arity : ℕ) (named : name_of g ≡ texts name) (many : count (arguments g) ≡ arity)
      (plain : construct g ≡ other → is_predicate (construct (goal_of (texts name) (arguments g))) ≡ false) where
    none_is : TellsRows name arity None → TellsShared name arity None → IsNoBuiltin g
    none_is rows shares =
        record {
          no_row = λ next. ap (λ f. is_some (row f (arguments g) next)) named ∙ rows texts are_texts (arguments g) many next;
          not_shared = ap (λ f. is_some (shared f (arguments g))) named ∙ shares texts are_texts (arguments g) many;
        }

    -- A step of the search is no other goal.
    no_step : TellsConstructs name arity (Some meaning.Steps) → construct g ≡ other → ⊥
    no_step constructs is = false≢true (sym (plain is) ∙ constructs texts are_texts (arguments g) many)

    asks_it : TellsShared name arity (Some meaning.Asks) → AsksOnce name arity
    asks_it shares = (texts, are_texts, arguments g, many, shares texts are_texts (arguments g) many)

  -- The goal at a place
  module _ (s : Contents) (at : Place) where
    pub variable_is : (n : ℕ) → term_at s at ≡ var n → IsNoBuiltin (reads v s at)
    variable_is n is =
        subst (λ x. IsNoBuiltin (spelled (text_of v.names) x)) (sym is)
        (record { no_row = λ next. ap is_some (no_row_alone (codes "call") next); not_shared = ap is_some no_call })

    pub atom_is : (name : ℕ) → term_at s at ≡ atom (atom_name name) → ((x : Collection) → name ≡ collection_name x → ⊥) → IsNoBuiltin (reads v s at)
    atom_is name is apart =
        subst (λ x. IsNoBuiltin (spelled (text_of v.names) x)) (sym is)
        (record {
          no_row = λ next. ap is_some (no_row_alone (texts name) next);
          not_shared = alone_not_shared (texts name) (differs name Atoms (apart Atoms)) (differs name Clauses (apart Clauses));
        })

    pub atom_is_none : (name : ℕ) → term_at s at ≡ atom (atom_name name) → TellsRows name 0 None → TellsShared name 0 None → IsNoBuiltin (reads v s at)
    atom_is_none name is rows shares =
        subst (λ x. IsNoBuiltin (spelled (text_of v.names) x)) (sym is)
        (none_is (atom (texts name)) name 0 refl refl (λ k. ap is_predicate k) rows shares)

    -- A goal with arguments reads as one.
    module _ (name : ℕ) (a : Arguments) (is : term_at s at ≡ compound (atom_name name) (arguments_at s a)) (args : IsArguments s a) (some : 0 < a.count) where
      abbrev IsOfGoals : (Tree → Type 0) → Type 0
      IsOfGoals P =
          (g : Tree) → name_of g ≡ texts name → count (arguments g) ≡ a.count
          → (construct g ≡ other → is_predicate (construct (goal_of (texts name) (arguments g))) ≡ false) → P g

      counted : (x : Tree) (xs : List Tree) → suc (count (spelled_all (text_of v.names) (trees xs))) ≡ length (x ∷ xs)
      counted x xs = ap suc (count-spelled (text_of v.names) (trees xs) ∙ count-trees xs)

      listed : (P : Tree → Type 0) (xs : List Tree) → 0 < length xs → length xs ≡ a.count → IsOfGoals P
          → P (spelled (text_of v.names) (compound (atom_name name) xs))
      listed P [] more long told = absurd (omega (arith, more))
      listed P (x ∷ xs) more long told =
          told (spelled (text_of v.names) (compound (atom_name name) (x ∷ xs))) refl
          (counted x xs ∙ long) (λ k. ap is_predicate k)

      told_at : (P : Tree → Type 0) → IsOfGoals P → P (reads v s at)
      told_at P told =
          let long = how_many s a args
          in subst (λ x. P (spelled (text_of v.names) x)) (sym is) (listed P (arguments_at s a) (omega (arith, long, some)) long told)

      pub compound_is_none : TellsRows name a.count None → TellsShared name a.count None → IsNoBuiltin (reads v s at)
      compound_is_none rows shares = told_at IsNoBuiltin (λ g named many plain. none_is g name a.count named many plain rows shares)

      pub compound_no_row : (o : Option Meaning) → has_row o ≡ false → TellsRows name a.count o → (next : ℕ) → row (name_of (reads v s at)) (arguments (reads v s at)) next ≡ None
      compound_no_row o no_row rows next =
          told_at (λ g. row (name_of g) (arguments g) next ≡ None)
          (λ g named many plain.
          none_of (row (name_of g) (arguments g) next)
          (ap (λ f. is_some (row f (arguments g) next)) named ∙ rows texts are_texts (arguments g) many next ∙ no_row))

      pub compound_no_lines : (o : Option Meaning) → has_row o ≡ false → TellsRows name a.count o → lines_of (reads v s at) ≡ []
      compound_no_lines o no_row rows =
          told_at (λ g. lines_of g ≡ [])
          (λ g named many plain.
          no_lines (row (name_of g) (arguments g) 0)
          (ap (λ f. is_some (row f (arguments g) 0)) named ∙ rows texts are_texts (arguments g) many 0 ∙ no_row))

      pub compound_no_step : TellsConstructs name a.count (Some meaning.Steps) → construct (reads v s at) ≡ other → ⊥
      compound_no_step constructs =
          told_at (λ g. construct g ≡ other → ⊥) (λ g named many plain. no_step g name a.count named many plain constructs)

      pub compound_asks : TellsShared name a.count (Some meaning.Asks) → AsksOnce name a.count
      compound_asks shares = told_at (λ g. AsksOnce name a.count) (λ g named many plain. asks_it g name a.count named many plain shares)

-- What a goal of a predicate of the shared state is.
pub asked_is : (s : Contents) (goal : Place) (name : ℕ) (a : Arguments) → Holds s goal → term_at s goal ≡ compound (atom_name name) (arguments_at s a) → IsArguments s a
    → 0 < a.count → TellsRows name a.count (Some meaning.Asks) → (x : StateGoal) → IsAskedAt goal name a x → IsBuiltinAt s goal (builtin.State x)
asked_is s goal name a holds is args some rows x h = (
  h.0,
  record {
    holds = subst (Holds s) (sym h.0) holds;
    inside = subst (IsArguments s) (sym h.2) args;
    means =
        ap (term_at s) h.0
        ∙ is
        ∙ ap₂ (λ (k : ℕ) (b : Arguments). compound (atom_name k) (arguments_at s b)) (sym h.1) (sym h.2);
    predicate =
        subst (λ (k : ℕ). IsPredicate k x.arguments.count x.pred) (sym h.1)
        (subst (λ (b : Arguments). IsPredicate name b.count x.pred) (sym h.2) h.3);
  },
  λ v view next. compound_no_row v view s goal name a is args some (Some meaning.Asks) refl rows next,
)

-- What asks something is known.
pub never_unknown : (name arity : ℕ) → AsksOnce name arity → TellsShared name arity None → ⊥
never_unknown name arity asks none = true≢false (sym asks.4 ∙ none asks.0 asks.1 asks.2 asks.3)
