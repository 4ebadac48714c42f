-- The newest choice point of an engine that stands for the same state by all views may be gone on with.
use Rattle.std.proofs.Common.{◌≡◌, ◌≢◌, ℕ, zero, suc, ◌<◌, ◌≤◌, ◌⊎◌, inl, inr, Bool, true, false, ◌==◌, List, [], ◌∷◌, length, Option, None, pos, refl, sym, ap, ap₂, subst, ◌∙◌, arith, IsSome, is_some, codes}
use Rattle.std.specs.List.{All, Contains}
use Rattle.std.specs.Str.{all_scalars}
use Rattle.std.specs.Prelude.{◌^◌, Some}
use Rattle.std.proofs.lemmas.Bool.{false≢true, true≢false}
use Rattle.std.proofs.lemmas.Bool.Decides.{eqb_tells, leb_tells}
use Rattle.pl_term.specs.Texts.{size}
use Rattle.pl_term.specs.Tree.{Chars, Tree, Trees, var, int, atom, comp, none as no_trees, more}
use Rattle.pl_model.specs.History.{Clause, Proc}
use Rattle.pl_model.specs.Predicates.{proc_of}
use Rattle.pl_model.specs.Terms.{arguments}
use Rattle.pl_model.specs.Database.{Stored}
use Rattle.pl_model.specs.Resolution.{Choice, clauses, answers, branch, barrier, catch, findall}
use Rattle.atom_api.specs.Names.{FixedStand, Names}
use Rattle.term_store.specs.declared.words.Place.{Place}
use Rattle.term_store.specs.Contents.{term_at}
use Rattle.term_store.specs.NumberedNames.{atoms_in}
use Rattle.world_api.specs.Told.{Told, clause_list, has_place}
use Rattle.world_builtins.specs.Naming.{IsHeldAt}
use Rattle.iso_search.specs.declared.choices.Purpose.{Purpose}
use Rattle.iso_search.specs.declared.search.Search.{Search}
use Rattle.iso_search.specs.Choices.{answers_from, listed_goal, purpose_of}
use Rattle.iso_search.specs.Reading.{IsView, View, reads}
use Rattle.iso_search.specs.Searching.{choices_of, node_of}
use Rattle.iso_search.specs.Spelling.{spelled, text_of}
use Rattle.iso_engine.proofs.Outputs.{atoms_same}
use Rattle.iso_engine.specs.declared.doing.Doing.{Doing}
use Rattle.iso_engine.specs.Views.{view_of}
use Rattle.iso_engine.specs.Following.{is_integer}
use Rattle.iso_engine.specs.Ready.{IsAlike, IsStable, MayGoOn}
use Rattle.iso_search.specs.declared.frames.Task.TheVariants.{Goal}
use Rattle.iso_search.specs.Frames.{tasks}
use Rattle.iso_engine.specs.declared.doing.Doing.TheVariants.{Running}
use Rattle.iso_engine.specs.declared.engine.Engine.{Engine}
use Rattle.iso_engine.proofs.Reading.{goal_read}
use Rattle.iso_engine.proofs.Alike.{alike_view}
use Rattle.iso_engine.proofs.Held.{names_held}
use Rattle.iso_engine.proofs.Heldness.{held_names}
use Rattle.iso_engine.proofs.Later.{held_later}

-- Whether it may be gone on with

own_or : (gs : List ℕ) (g : ℕ) → Contains gs g ⊎ (Contains gs g → ⊥)
own_or [] g = inr (λ h. let lt = h.1 in omega (arith, lt))
own_or (x ∷ xs) g = go (eqb_tells x g) (own_or xs g)
  where
    later : x ≢ g → (Contains xs g → ⊥) → (k : ℕ) → k < length (x ∷ xs) → Rattle.std.proofs.Common.get_or (x ∷ xs) k g ≡ g → ⊥
    later other none zero lt is = other is
    later other none (suc k) lt is = none (k, omega (arith, lt), is)

    go : (((x == g) ≡ true) × (x ≡ g)) ⊎ (((x == g) ≡ false) × (x ≢ g)) → Contains xs g ⊎ (Contains xs g → ⊥) → Contains (x ∷ xs) g ⊎ (Contains (x ∷ xs) g → ⊥)
    go (inl (b, same)) rest = inl (0, omega arith, same)
    go (inr (b, other)) (inl h) = inl (suc h.0, (let lt = h.1 in omega (arith, lt)), h.2)
    go (inr (b, other)) (inr none) = inr (λ h. later other none h.0 h.1 h.2)

is_or : (b c : Bool) → (b ≡ c) ⊎ (b ≡ c → ⊥)
is_or true true = inl refl
is_or false false = inl refl
is_or true false = inr true≢false
is_or false true = inr false≢true

pub may_or : (t : Told) (goal : Tree) (g place : ℕ) → MayGoOn t goal g place ⊎ (MayGoOn t goal g place → ⊥)
may_or t goal g place = go (own_or t.gens g) (leb_tells g (length t.history)) (is_or (has_place place (clause_list t.goals t.history g goal)) true) (is_or (is_integer goal) false)
  where
    go : {A B : Type 0} → Contains t.gens g ⊎ (Contains t.gens g → ⊥) → (A × (g ≤ length t.history)) ⊎ (B × (length t.history < g))
        → (has_place place (clause_list t.goals t.history g goal) ≡ true) ⊎ (has_place place (clause_list t.goals t.history g goal) ≡ true → ⊥)
        → (is_integer goal ≡ false) ⊎ (is_integer goal ≡ false → ⊥)
        → MayGoOn t goal g place ⊎ (MayGoOn t goal g place → ⊥)
    go (inl own) (inl (a, within)) (inl among) (inl callable) =
        inl (record { callable = callable; listed = record { own = own; within = within; among = among } })
    go (inr none) b c d = inr (λ may. none may.listed.own)
    go a (inr (b, lt)) c d = inr (λ may. let le = may.listed.within in omega (arith, le, lt))
    go a b (inr none) d = inr (λ may. none may.listed.among)
    go a b c (inr none) = inr (λ may. none may.callable)

-- A view in which all other lists have one clause more.
abbrev pub extra : Stored Clause
extra =
    record {
      place = 0;
      procedure = record { name = []; arity = 0 };
      clause = record { head = int (pos 0); body = int (pos 0); variables = 0 };
      erased = None;
    }

abbrev pub longer_by : {A B : Type 0} → A ⊎ B → List (Stored Clause) → List (Stored Clause)
longer_by (inl a) cs = cs
longer_by (inr b) cs = extra ∷ cs

pub longer_same : {A : Type 0} (d : A ⊎ (A → ⊥)) (cs : List (Stored Clause)) → A → longer_by d cs ≡ cs
longer_same (inl a) cs h = refl
longer_same (inr none) cs h = absurd (none h)

never_longer : (x : Stored Clause) (cs : List (Stored Clause)) → x ∷ cs ≡ cs → ⊥
never_longer x cs e =
    let same : suc (length cs) ≡ length cs = ap (λ (l : List (Stored Clause)). length l) e in omega (arith, same)

pub same_longer : {A : Type 0} (d : A ⊎ (A → ⊥)) (cs : List (Stored Clause)) → longer_by d cs ≡ cs → A
same_longer (inl a) cs e = a
same_longer (inr none) cs e = absurd (never_longer extra cs e)

abbrev first_clauses : List (Stored Clause) → List Choice → List (Stored Clause)
first_clauses ds [] = ds
first_clauses ds (clauses p t cs n ∷ older) = cs
first_clauses ds (answers p ts xs n ∷ older) = ds
first_clauses ds (branch n ∷ older) = ds
first_clauses ds (barrier ∷ older) = ds
first_clauses ds (catch c r n ∷ older) = ds
first_clauses ds (findall list ts n ∷ older) = ds

abbrev first_tree : Tree → List Choice → Tree
first_tree d [] = d
first_tree d (clauses p t cs n ∷ older) = t
first_tree d (answers p ts xs n ∷ older) = d
first_tree d (branch n ∷ older) = d
first_tree d (barrier ∷ older) = d
first_tree d (catch c r n ∷ older) = d
first_tree d (findall list ts n ∷ older) = d

-- The choice point of clauses was taken off the search `e`, which left `x`.
module _ (m : Names) (t : Told) (e x : Search) (d : Doing) (q : Purpose) (goal : Place) (g place next : ℕ) (stable : IsStable m t e d)
    (taken : (v : View) → choices_of v e
    ≡ clauses (purpose_of q) (reads v x.store goal) (v.left (listed_goal (purpose_of q) (reads v x.store goal)) g place) (node_of v x next) ∷ choices_of v x)
    (view : IsView (view_of m t)) where
  abbrev goal_now : Tree
  goal_now = reads (view_of m t) x.store goal

  longer_view : View
  longer_view = record { names = m; all = (view_of m t).all; left = λ h k p. longer_by (may_or t h k p) ((view_of m t).left h k p) }

  longer_alike : IsAlike m t longer_view
  unfolding longer_view
  longer_alike = record { holds = λ a y h. h; all = λ h k may. refl; left = λ h k p may. longer_same (may_or t h k p) ((view_of m t).left h k p) may }

  longer_is : IsView longer_view
  unfolding longer_view
  longer_is = record { fixed = view.fixed; apart = view.apart }

  abbrev listed_now : Tree
  listed_now = listed_goal (purpose_of q) goal_now

  pub newest_open : MayGoOn t listed_now g place
  unfolding longer_view
  newest_open =
      same_longer (may_or t listed_now g place) ((view_of m t).left listed_now g place)
      (ap (first_clauses []) (sym (taken longer_view) ∙ (stable longer_view longer_is longer_alike).0 ∙ taken (view_of m t)))

  pub newest_held : FixedStand m → ((a b : ℕ) (y : Chars) → m a ≡ Some y → m b ≡ Some y → a ≡ b)
      → ((a : ℕ) (y : Chars) → m a ≡ Some y → (a < 2 ^ 32) × (size y ≤ 248) × (all_scalars y ≡ true))
      → All (λ a. IsSome (m a)) (atoms_in (term_at x.store goal))
  newest_held stands unlike finite =
      names_held m stands x.store goal
      (held_names m stands unlike finite (term_at x.store goal)
      (λ q fixes apart later.
      let other : IsView (view_of q t) = record { fixed = fixes; apart = apart }
      in let same = (stable (view_of q t) other (alike_view m q t t (held_later m q t later))).0
      in ap (first_tree goal_now) (sym (taken (view_of q t)) ∙ same ∙ taken (view_of m t))))

-- A goal by its predicate and its arguments

abbrev first_proc : Proc → List Choice → Proc
first_proc d [] = d
first_proc d (clauses p t cs n ∷ older) = d
first_proc d (answers p ts xs n ∷ older) = p
first_proc d (branch n ∷ older) = d
first_proc d (barrier ∷ older) = d
first_proc d (catch c r n ∷ older) = d
first_proc d (findall list ts n ∷ older) = d

abbrev first_terms : Trees → List Choice → Trees
first_terms d [] = d
first_terms d (clauses p t cs n ∷ older) = d
first_terms d (answers p ts xs n ∷ older) = ts
first_terms d (branch n ∷ older) = d
first_terms d (barrier ∷ older) = d
first_terms d (catch c r n ∷ older) = d
first_terms d (findall list ts n ∷ older) = d

abbrev goal_with : Chars → Trees → Tree
goal_with f no_trees = atom f
goal_with f (more t ts) = comp f t ts

read_alike : (g h : Chars → Chars) (t : Tree) → proc_of (spelled g t) ≡ proc_of (spelled h t) → arguments (spelled g t) ≡ arguments (spelled h t)
    → spelled g t ≡ spelled h t
read_alike g h (var x) p a = refl
read_alike g h (int i) p a = refl
read_alike g h (atom f) p a = ap (λ (q : Proc). atom q.name) p
read_alike g h (comp f t ts) p a = ap₂ (λ (q : Proc) us. goal_with q.name us) p a

-- The choice point of lines of a table was taken off the search `e`, which left `x`.
pub line_held : (m : Names) (t : Told) (e x : Search) (d : Doing) (goal : Place) (line next : ℕ) → IsStable m t e d
    → ((v : View) → choices_of v e ≡ answers_from (reads v x.store goal) line (node_of v x next) ∷ choices_of v x)
    → FixedStand m → ((a b : ℕ) (y : Chars) → m a ≡ Some y → m b ≡ Some y → a ≡ b)
    → ((a : ℕ) (y : Chars) → m a ≡ Some y → (a < 2 ^ 32) × (size y ≤ 248) × (all_scalars y ≡ true))
    → IsHeldAt m x.store goal
line_held m t e x d goal line next stable taken stands unlike finite =
    subst (All (λ a. IsSome (m a))) (sym (atoms_same (term_at x.store goal)))
    (names_held m stands x.store goal
    (held_names m stands unlike finite (term_at x.store goal)
    (λ q fixes apart later.
    let other : IsView (view_of q t) = record { fixed = fixes; apart = apart }
    in let same = (stable (view_of q t) other (alike_view m q t t (held_later m q t later))).0
    in let here = sym (taken (view_of q t)) ∙ same ∙ taken (view_of m t)
    in let g = reads (view_of m t) x.store goal
    in read_alike (text_of q) (text_of m) (term_at x.store goal) (ap (first_proc (proc_of g)) here) (ap (first_terms (arguments g)) here))))

-- The atoms of a goal that is the first of a list.
pub goal_held : (m : Names) (t : Told) (e : Engine) (list cut : ℕ) (at : Place) (rest : ℕ) → e.doing ≡ Running list
    → tasks e.search.frames.items list ≡ Goal at cut ∷ tasks e.search.frames.items rest → IsStable m t e.search e.doing → FixedStand m
    → ((a b : ℕ) (y : Chars) → m a ≡ Some y → m b ≡ Some y → a ≡ b)
    → ((a : ℕ) (y : Chars) → m a ≡ Some y → (a < 2 ^ 32) × (size y ≤ 248) × (all_scalars y ≡ true))
    → All (λ a. IsSome (m a)) (atoms_in (term_at e.search.store at))
goal_held m t e list cut at rest doing first stable stands unlike finite =
    names_held m stands e.search.store at
    (held_names m stands unlike finite (term_at e.search.store at)
    (λ q fixes apart later.
    let other : IsView (view_of q t) = record { fixed = fixes; apart = apart }
    in goal_read e list cut at rest doing first (view_of q t) (view_of m t) (stable (view_of q t) other (alike_view m q t t (held_later m q t later))).1))
