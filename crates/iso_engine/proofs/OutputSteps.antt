-- Goals that write, as steps of the definition.
use Rattle.std.proofs.Common.{◌≡◌, inl, inr, ℕ, suc, ◌+◌, ◌<◌, ◌≤◌, cond, List, [], ◌∷◌, ◌++◌, length, Option, Some, None, IsSome, is_some, refl, sym, ap, ap₂, subst, ◌∙◌, arith}
use Rattle.std.specs.Prelude.{encode_utf8_all}
use Rattle.std.specs.List.{AllByRecursion}
use Rattle.std.proofs.lemmas.Bool.{le-ltb, lt-ltb, true≢false}
use Rattle.std.proofs.lemmas.List.Elements.{recursion_from_All}
use Rattle.pl_term.specs.Tree.{Chars, Tree, Trees, var, int, atom, comp, none, more}
use Rattle.pl_model.specs.AtomBuiltins.{character_error}
use Rattle.pl_model.specs.Balls.{no_inferences}
use Rattle.pl_model.specs.TermWriting.{write_canonical}
use Rattle.pl_model.specs.Predicates.{proc_of}
use Rattle.pl_model.specs.Requests.{Reply, read_operators, standing}
use Rattle.pl_model.specs.History.{History, Kind}
use Rattle.pl_model.specs.Service.{Served, answers, serve, waits, entry_by, served_now}
use Rattle.world_api.specs.Answers.{seen_as}
use Rattle.pl_model.specs.Resolution.{Limits, Next, Node, State, asks, goes}
use Rattle.pl_model.specs.Control.{costing, raised, take_up, with_character, with_operators, with_text}
use Rattle.atom_api.specs.Names.{Names}
use Rattle.term_store.specs.declared.words.Place.{Place}
use Rattle.term_store.specs.Contents.{Contents, term_at}
use Rattle.world_api.specs.Texts.{Holds}
use Rattle.world_api.specs.Told.{Told}
use Rattle.world_builtins.specs.declared.styles.Style.{Style}
use Rattle.world_builtins.specs.Naming.{IsHeldAt, atoms_in, atoms_in_all, number_of}
use Rattle.world_builtins.specs.Spelling as written
use Rattle.world_builtins.specs.Styles.{text_by}
use Rattle.world_builtins.specs.Writing.{IsWritten}
use Rattle.iso_search.specs.declared.outcome.Outcome.TheVariants.{Run}
use Rattle.iso_search.specs.declared.search.Search.{Search}
use Rattle.iso_search.specs.Outcomes.{Setting, limits_in, state_in}
use Rattle.iso_search.specs.Reading.{IsView, View, reads}
use Rattle.iso_search.specs.Searching.{node_of}
use Rattle.iso_search.specs.Spelling.{or_no_text, spelled, spelled_all, text_of}
use Rattle.iso_engine.specs.declared.write.goals.OutputGoal.{OutputGoal}
use Rattle.iso_engine.specs.declared.write.goals.OutputGoal.TheVariants.{Term, Canonical, NewLine, Character}
use Rattle.iso_engine.specs.declared.write.wrote.Wrote.{Wrote}
use Rattle.iso_engine.specs.declared.write.wrote.Wrote.TheVariants as wrote
use Rattle.iso_engine.specs.OutputGoals.{IsGoalOf, construction}
use Rattle.iso_engine.specs.Wrote.{IsDone, IsRun, IsSpent, IsUnderOperators, IsWrote, WritesAlone, taken}

-- Terms over atoms that are held

module _ (m n : Names) (grown : Holds m n) where
  abbrev IsHeld : ℕ → Type 0
  IsHeld a = IsSome (m a)

  name_same : (f : Chars) → IsHeld (number_of f) → written.text_of m f ≡ text_of n f
  name_same [] h = refl
  name_same (a ∷ []) h = go (m a) refl h
    where
      go : (o : Option Chars) → m a ≡ o → IsSome (m a) → written.text_of m (a ∷ []) ≡ text_of n (a ∷ [])
      go None e there = absurd (true≢false (sym there ∙ ap is_some e))
      go (Some t) e there = ap (written.or_no_text (a ∷ [])) e ∙ sym (ap (or_no_text (a ∷ [])) (grown a t e))
  name_same (a ∷ (b ∷ bs)) h = refl

  parted : (xs ys : List ℕ) → AllByRecursion IsHeld (xs ++ ys) → AllByRecursion IsHeld xs × AllByRecursion IsHeld ys
  parted [] ys h = (tt, h)
  parted (x ∷ xs) ys h = let both = parted xs ys h.1 in ((h.0, both.0), both.1)

  mutual
    pub term_same : (t : Tree) → AllByRecursion IsHeld (atoms_in t) → written.spelled (written.text_of m) t ≡ spelled (text_of n) t
    term_same (var x) h = refl
    term_same (int i) h = refl
    term_same (atom a) h = ap atom (name_same a h.0)
    term_same (comp f t ts) h =
        let both = parted (atoms_in t) (atoms_in_all ts) h.1 in
        ap (λ g. comp g (written.spelled (written.text_of m) t) (written.spelled_all (written.text_of m) ts)) (name_same f h.0)
        ∙ ap₂ (comp (text_of n f)) (term_same t both.0) (terms_same ts both.1)

    pub terms_same : (ts : Trees) → AllByRecursion IsHeld (atoms_in_all ts) → written.spelled_all (written.text_of m) ts ≡ spelled_all (text_of n) ts
    terms_same none h = refl
    terms_same (more t ts) h =
        let both = parted (atoms_in t) (atoms_in_all ts) h in ap₂ more (term_same t both.0) (terms_same ts both.1)

-- What is written is what every view reads in which the engine's atoms have their texts.
pub read_held : (m : Names) (v : View) → Holds m v.names → (s : Contents) (p : Place) → IsHeldAt m s p → written.reads m s p ≡ reads v s p
read_held m v grown s p held =
    term_same m v.names grown (term_at s p) (recursion_from_All (λ a. IsSome (m a)) (atoms_in (term_at s p)) held)

-- The step

-- The state with one inference more.
abbrev pub counted : State → State
counted q = record q { inferences = suc q.inferences }

-- What follows the inference of a goal that writes.
abbrev pub follows : View → Contents → Node → Tree → OutputGoal → State → Next
follows v c n g (Term style w) q = asks read_operators (with_operators q n (λ ops. text_by style (reads v c w) ops))
follows v c n g (Canonical w) q = goes (with_text q n (write_canonical (reads v c w)))
follows v c n g NewLine q = goes (with_text q n (10 ∷ []))
follows v c n g (Character w) q = goes (with_character q n g (reads v c w) (character_error (reads v c w)))

costs : (l : Limits) (q : State) (n : Node) (g : Tree) (h : ℕ) (v : View) (c : Contents) (o : OutputGoal)
    → take_up l q n g h (construction v c o) ≡ costing l q n g (follows v c n g o)
unfolding take_up
costs l q n g h v c (Term style w) = refl
costs l q n g h v c (Canonical w) = refl
costs l q n g h v c NewLine = refl
costs l q n g h v c (Character w) = refl

module _ (e : Search) (goal : Place) (rest : ℕ) (o : OutputGoal) (is : IsGoalOf e.store o goal) where
  takes : (s : Setting) (h : ℕ) → IsView s.view
      → taken s e goal rest h
      ≡ costing (limits_in s e) (state_in s e) (node_of s.view e rest) (reads s.view e.store goal) (follows s.view e.store (node_of s.view e rest) (reads s.view e.store goal) o)
  takes s h view =
      let g = reads s.view e.store goal in
      ap (take_up (limits_in s e) (state_in s e) (node_of s.view e rest) g h) (sym (is s.view view).0)
      ∙ costs (limits_in s e) (state_in s e) (node_of s.view e rest) g h s.view e.store o

  -- No inference can be made.
  pub spent : e.budgets.inferences ≤ e.inferences → IsSpent e goal rest
  spent most s h view =
      let g = reads s.view e.store goal in
      let n = node_of s.view e rest in
      takes s h view
      ∙ ap (λ b. cond b (follows s.view e.store n g o (counted (state_in s e))) (goes (raised (state_in s e) n no_inferences (proc_of g))))
      (le-ltb e.inferences e.budgets.inferences most)

  -- An inference can be made.
  pub made : e.inferences < e.budgets.inferences → (s : Setting) (h : ℕ) → IsView s.view
      → taken s e goal rest h ≡ follows s.view e.store (node_of s.view e rest) (reads s.view e.store goal) o (counted (state_in s e))
  made few s h view =
      let g = reads s.view e.store goal in
      let n = node_of s.view e rest in
      takes s h view
      ∙ ap (λ b. cond b (follows s.view e.store n g o (counted (state_in s e))) (goes (raised (state_in s e) n no_inferences (proc_of g))))
      (lt-ltb e.inferences e.budgets.inferences few)

pub one_more : (n : ℕ) → suc n ≡ n + 1
one_more n = omega arith

abbrev pub with_count : Search → ℕ → Search
with_count e k = record e { inferences = k }

-- Terms under operators

update_of : Served → Option Kind
update_of (answers r k) = k
update_of waits = None

-- The request for the operators makes no entry.
never_updates : (e goals : ℕ) (h : History) (r : Reply) (k : Option Kind) → served_now e goals h read_operators ≡ answers r k → k ≡ None
unfolding serve update_of
never_updates e goals h r k is = sym (ap update_of is)

pub under_operators : (m n : Names) (t u : Told) (e : Search) (style : Style) (term goal : Place) (rest : ℕ) (a b : List ℕ) → IsHeldAt m e.store term
    → e.inferences < e.budgets.inferences
    → IsGoalOf e.store (Term style term) goal
    → IsWritten (text_by style (written.reads m e.store term)) t u a b
    → IsRun m t e goal rest a n u (with_count e (e.inferences + 1)) b (Run rest)
under_operators m n t u e style term goal rest a b held few is w =
    let none = never_updates t.engine t.goals w.before (standing w.operators w.quotes) w.update w.served in
    inr (subst (λ k. IsUnderOperators m t e goal rest a n u (with_count e k) b (Run rest)) (one_more e.inferences)
    (record {
      before = w.before;
      follows = w.follows;
      operators = w.operators;
      quotes = w.quotes;
      served = w.served ∙ ap (answers (standing w.operators w.quotes)) none;
      told = w.told ∙ ap (λ (k : Option Kind). seen_as t (w.before ++ entry_by t.engine k) (t.gens ++ length w.before ∷ [])) none;
      next = λ s. with_operators (counted (state_in s e)) (node_of s.view e rest) (λ ops. text_by style (reads s.view e.store term) ops);
      asking = made e goal rest (Term style term) is few;
      written = text_by style (written.reads m e.store term) w.operators;
      leads =
          λ s view grown.
          ap (λ x. with_text (counted (state_in s e)) (node_of s.view e rest) (text_by style x w.operators)) (sym (read_held m s.view grown e.store term held));
      goes_on = refl;
      search = refl;
      out = w.out;
    }))

-- Goals that ask for nothing

-- A text is written.
module _ (m : Names) (e : Search) (o : OutputGoal) (goal : Place) (rest : ℕ) (a b : List ℕ) (few : e.inferences < e.budgets.inferences)
    (is : IsGoalOf e.store o goal) where
  pub text_done : (w : Chars)
      → ((s : Setting) → Holds m s.view.names → follows s.view e.store (node_of s.view e rest) (reads s.view e.store goal) o (counted (state_in s e))
      ≡ goes (with_text (counted (state_in s e)) (node_of s.view e rest) w))
      → b ≡ a ++ encode_utf8_all w
      → IsDone m e goal rest a (with_count e (e.inferences + 1)) b (Run rest)
  text_done w writes out =
      subst (λ k. IsDone m e goal rest a (with_count e k) b (Run rest)) (one_more e.inferences)
      (record {
        more = Some w;
        leads = λ s h view grown. made e goal rest o is few s h view ∙ writes s grown;
        after = record { budgets = refl; inside = tt };
        out = out;
      })

pub canonical_done : (m : Names) (e : Search) (term goal : Place) (rest : ℕ) (a b : List ℕ) → IsHeldAt m e.store term
    → e.inferences < e.budgets.inferences
    → b ≡ a ++ encode_utf8_all (write_canonical (written.reads m e.store term))
    → IsGoalOf e.store (Canonical term) goal
    → IsDone m e goal rest a (with_count e (e.inferences + 1)) b (Run rest)
canonical_done m e term goal rest a b held few out is =
    text_done m e (Canonical term) goal rest a b few is (write_canonical (written.reads m e.store term))
    (λ s grown. ap (λ x. goes (with_text (counted (state_in s e)) (node_of s.view e rest) (write_canonical x))) (sym (read_held m s.view grown e.store term held)))
    out

pub new_line_done : (m : Names) (e : Search) (goal : Place) (rest : ℕ) (a b : List ℕ) → e.inferences < e.budgets.inferences
    → b ≡ a ++ encode_utf8_all (10 ∷ [])
    → IsGoalOf e.store NewLine goal
    → IsDone m e goal rest a (with_count e (e.inferences + 1)) b (Run rest)
new_line_done m e goal rest a b few out is = text_done m e NewLine goal rest a b few is (10 ∷ []) (λ s grown. refl) out

-- Such a goal as any other.
pub alone_wrote : (m n : Names) (t : Told) (e : Search) (o : OutputGoal) (goal : Place) (rest : ℕ) (a : List ℕ) (d : Search) (b : List ℕ) (w : Wrote)
    → n ≡ m
    → WritesAlone m e o rest a d b w
    → IsGoalOf e.store o goal
    → IsWrote m t e goal rest a n t d b w
alone_wrote m n t e o goal rest a d b wrote.Spent same h is = (((λ k. ap (λ (x : Names). x k) same), refl, h.0, h.1), h.2 goal is)
alone_wrote m n t e o goal rest a d b (wrote.Ran x) same h is =
    inl (record { names = λ k. ap (λ (y : Names). y k) same; told = refl; done = h goal is })
