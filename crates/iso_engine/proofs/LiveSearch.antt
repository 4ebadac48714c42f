-- The choice points and nodes of a search that two views tell alike, and that a third one reads as these do.
use Rattle.std.proofs.Common.{◌≡◌, ◌+◌, ℕ, Bool, true, false, cond, List, [], ◌∷◌, ◌++◌, map, take, drop, slice_index_or, Option, Some, None, is_some, pos, codes, refl, sym, ap, ap₂, ◌∙◌}
use Rattle.std.specs.List.{All}
use Rattle.std.specs.Option.{option_map}
use Rattle.std.proofs.lemmas.List.{drop-map}
use Rattle.std.proofs.lemmas.List.Elements.{All-nil, All-cons, All-head, All-tail, All-push, All-take, All-drop}
use Rattle.pl_term.specs.Tree.{Chars, Tree, Trees, var, int, atom, comp, none, more}
use Rattle.pl_term.specs.Variables.{place, rename_all_by, rename_by, variables}
use Rattle.pl_model.specs.Balls.{indicator}
use Rattle.pl_model.specs.BuiltinRows.{Answer, plain_answer, unifying}
use Rattle.pl_model.specs.Database.{Stored}
use Rattle.pl_model.specs.History.{Clause, Proc}
use Rattle.pl_model.specs.Predicates.{proc_of}
use Rattle.pl_model.specs.Resolution.{Choice, Node, Pending, goal, commit, refute, leave, collect, clauses, answers, branch, barrier, catch, findall}
use Rattle.pl_model.specs.Resolution as resolution
use Rattle.pl_model.specs.Terms.{arguments}
use Rattle.pl_model.specs.Unify.{solve_all}
use Rattle.atom_api.specs.Fixed.{fixed, fixed_texts}
use Rattle.atom_api.specs.FixedNames.{slash_name}
use Rattle.term_store.specs.declared.words.Place.{Place}
use Rattle.term_store.specs.declared.words.StoreMark.{StoreMark}
use Rattle.term_store.specs.Contents.{Contents, back_to, term_at}
use Rattle.term_store.specs.Heap.{Heap, atom_name}
use Rattle.term_store.specs.Marks.{cut}
use Rattle.iso_search.specs.declared.frames.Task.{Task}
use Rattle.iso_search.specs.declared.frames.Task.TheVariants.{Goal, Commit, Refute, Leave, Collect}
use Rattle.iso_search.specs.declared.frames.Frame.{Frame}
use Rattle.iso_search.specs.declared.choices.Alternative.{Alternative}
use Rattle.iso_search.specs.declared.choices.Alternative.TheVariants.{Clauses, Answers, Told, Branch, Barrier, Catch, Findall}
use Rattle.iso_search.specs.declared.choices.ChoicePoint.{ChoicePoint}
use Rattle.iso_search.specs.declared.copies.Copied.{Copied}
use Rattle.iso_search.specs.declared.told.Constant.{Constant}
use Rattle.iso_search.specs.declared.told.Constant.TheVariants as constants
use Rattle.iso_search.specs.declared.told.Line.{Line}
use Rattle.iso_search.specs.declared.told.Line.TheVariants.{Indicator, Flag, Operator}
use Rattle.iso_search.specs.Choices.{answers_from, choice_at, choices_at, listed_goal, purpose_of}
use Rattle.iso_search.specs.Collecting.{copy_of, copy_over}
use Rattle.iso_search.specs.Frames.{stacked, tasks}
use Rattle.iso_search.specs.Reading.{IsView, View, node_at, pending, reads}
use Rattle.iso_search.specs.Spelling.{spelled, spelled_all, text_of}
use Rattle.iso_search.specs.Told.{constant_term, line_answer, told_answers}
use Rattle.iso_search.proofs.Naming.{text_is}
use Rattle.iso_search.proofs.Spelt.{solve_all-spelled}
use Rattle.iso_engine.proofs.Naming.{AllNames, AllNamesIn}
use Rattle.iso_engine.proofs.LiveNames.{HeapNamed, WordNamed, all_or, meaning_named}
use Rattle.iso_engine.proofs.LiveSeen.{cons_first, cons_rest, seen, told_goal}

slash_is : fixed slash_name ≡ Some (codes "/")
unfolding fixed_texts
slash_is = refl

-- Names of what a search has beside its store.
module _ (P : Chars → Type 0) where
  abbrev pub PlaceNamed : Place → Type 0
  PlaceNamed p = WordNamed P p.word

  abbrev pub TaskNamed : Task → Type 0
  TaskNamed (Goal w h) = PlaceNamed w
  TaskNamed (Commit h) = Unit {0}
  TaskNamed (Refute h) = Unit {0}
  TaskNamed (Leave h) = Unit {0}
  TaskNamed (Collect w h) = PlaceNamed w

  abbrev pub ConstantNamed : Constant → Type 0
  ConstantNamed (constants.Int i) = Unit {0}
  ConstantNamed (constants.Atom a) = P (atom_name a)

  abbrev pub LineNamed : Line → Type 0
  LineNamed (Indicator name arity) = P (atom_name name)
  LineNamed (Flag flag value) = P (atom_name flag) × ConstantNamed value
  LineNamed (Operator priority specifier name) = P (atom_name specifier) × P (atom_name name)

  abbrev pub AlternativeNamed : Alternative → Type 0
  AlternativeNamed (Clauses p w g place) = PlaceNamed w
  AlternativeNamed (Answers w line) = PlaceNamed w
  AlternativeNamed (Told w lines line) = PlaceNamed w × All LineNamed lines.items
  AlternativeNamed Branch = Unit {0}
  AlternativeNamed Barrier = Unit {0}
  AlternativeNamed (Catch c w) = PlaceNamed c × PlaceNamed w
  AlternativeNamed (Findall w found) = PlaceNamed w × All (λ c. AllNames P c.term) found.copies.items

  -- The tasks of a list are those of frames.
  stacked_named : (fs : List Frame) (done : List (List Task)) → All (λ f. TaskNamed f.task) fs → All (All TaskNamed) done → All (All TaskNamed) (stacked fs done)
  stacked_named [] done a b = b
  stacked_named (f ∷ fs) done a b =
      stacked_named fs (done ++ (f.task ∷ slice_index_or done f.continuation []) ∷ []) (All-tail (λ f. TaskNamed f.task) f fs a)
      (All-push (All TaskNamed) done (f.task ∷ slice_index_or done f.continuation []) b
      (All-cons TaskNamed f.task (slice_index_or done f.continuation []) (All-head (λ f. TaskNamed f.task) f fs a)
      (all_or (All TaskNamed) done f.continuation [] b (All-nil TaskNamed))))

  pub tasks_named : (fs : List Frame) (i : ℕ) → All (λ f. TaskNamed f.task) fs → All TaskNamed (tasks fs i)
  unfolding tasks
  tasks_named fs i a =
      all_or (All TaskNamed) (stacked fs ([] ∷ [])) i []
      (stacked_named fs ([] ∷ []) a (All-cons (All TaskNamed) [] [] (All-nil TaskNamed) (All-nil (All TaskNamed)))) (All-nil TaskNamed)

  -- What was there at a mark.
  pub cut_named : (k : StoreMark) (h : Heap) → HeapNamed P h → HeapNamed P (cut k h)
  cut_named k h n =
      record {
        heads = All-take (λ x. P (atom_name x.name)) k.heads h.heads n.heads;
        args = All-take (WordNamed P) k.args h.args n.args;
        trail = All-take (λ b. WordNamed P b.word) k.trail h.trail n.trail;
      }

  mutual
    pub renamed_named : (f : ℕ → ℕ) (t : Tree) → AllNames P t → AllNames P (rename_by f t)
    renamed_named f (var x) a = tt
    renamed_named f (int i) a = tt
    renamed_named f (atom g) a = a
    renamed_named f (comp g u us) a = (a.0, (renamed_named f u a.1.0, all_renamed_named f us a.1.1))

    all_renamed_named : (f : ℕ → ℕ) (us : Trees) → AllNamesIn P us → AllNamesIn P (rename_all_by f us)
    all_renamed_named f none a = tt
    all_renamed_named f (more u us) a = (renamed_named f u a.0, all_renamed_named f us a.1)

-- Lines over numbers of atoms.
abbrev constant_over : Constant → Tree
constant_over (constants.Int i) = int i
constant_over (constants.Atom a) = atom (atom_name a)

abbrev line_over : Line → Trees
line_over (Indicator name arity) = more (comp (atom_name slash_name) (atom (atom_name name)) (more (int (pos arity)) none)) none
line_over (Flag flag value) = more (atom (atom_name flag)) (more (constant_over value) none)
line_over (Operator priority specifier name) = more (int (pos priority)) (more (atom (atom_name specifier)) (more (atom (atom_name name)) none))

constant_read : (v : View) (c : Constant) → spelled (text_of v.names) (constant_over c) ≡ constant_term v.names c
constant_read v (constants.Int i) = refl
constant_read v (constants.Atom a) = refl

line_read : (v : View) → IsView v → (l : Line) → spelled_all (text_of v.names) (line_over l) ≡ (line_answer v.names l).terms
line_read v view (Indicator name arity) =
    ap (λ s. more (comp s (atom (text_of v.names (atom_name name))) (more (int (pos arity)) none)) none) (text_is v view slash_name (codes "/") slash_is)
line_read v view (Flag flag value) = ap (λ c. more (atom (text_of v.names (atom_name flag))) (more c none)) (constant_read v value)
line_read v view (Operator priority specifier name) = refl

arguments_read : (g : Chars → Chars) (t : Tree) → spelled_all g (arguments t) ≡ arguments (spelled g t)
arguments_read g (var x) = refl
arguments_read g (int i) = refl
arguments_read g (atom a) = refl
arguments_read g (comp f t ts) = refl

test_mapped : {A B : Type 0} (f : A → B) (o : Option A) → is_some (option_map f o) ≡ is_some o
test_mapped f None = refl
test_mapped f (Some a) = refl

-- Whether the line unifies with the arguments of a goal does not depend on the view.
line_test : (v : View) → IsView v → (t : Tree) (l : Line)
    → is_some (solve_all [] (arguments (spelled (text_of v.names) t)) (line_answer v.names l).terms) ≡ is_some (solve_all [] (arguments t) (line_over l))
line_test v view t l =
    ap₂ (λ ts us. is_some (solve_all [] ts us)) (sym (arguments_read (text_of v.names) t)) (sym (line_read v view l))
    ∙ ap is_some (solve_all-spelled (text_of v.names) view.apart [] (arguments t) (line_over l))
    ∙ test_mapped _ (solve_all [] (arguments t) (line_over l))

indicator_name : (x y : Chars) (c : Chars) (t : Tree) → more (comp c (atom x) (more t none)) none ≡ more (comp c (atom y) (more t none)) none → x ≡ y
indicator_name x y c t e = cc

first_atom : (x y : Chars) (ts us : Trees) → more (atom x) ts ≡ more (atom y) us → x ≡ y
first_atom x y ts us e = cc

second_term : (t u a b : Tree) → more t (more a none) ≡ more u (more b none) → a ≡ b
second_term t u a b e = cc

middle_atom : (t : Tree) (x y a b : Chars) → more t (more (atom x) (more (atom a) none)) ≡ more t (more (atom y) (more (atom b) none)) → x ≡ y
middle_atom t x y a b e = cc

last_atom : (t : Tree) (x y a b : Chars) → more t (more (atom x) (more (atom a) none)) ≡ more t (more (atom y) (more (atom b) none)) → a ≡ b
last_atom t x y a b e = cc

goal_term : (t u : Tree) (h : ℕ) → goal t h ≡ goal u h → t ≡ u
goal_term t u h e = cc

collect_term : (t u : Tree) (h : ℕ) → collect t h ≡ collect u h → t ≡ u
collect_term t u h e = cc

-- Parts of choice points that are the same
module _ {p q : resolution.Purpose} {t x : Tree} {cs ds : List (Stored Clause)} {n m : Node} where
  clauses_goal : clauses p t cs n ≡ clauses q x ds m → t ≡ x
  clauses_goal e = cc

  clauses_node : clauses p t cs n ≡ clauses q x ds m → n ≡ m
  clauses_node e = cc

module _ {p q : Proc} {ts us : Trees} {xs ys : List Answer} {n m : Node} where
  answers_proc : answers p ts xs n ≡ answers q us ys m → p ≡ q
  answers_proc e = cc

  answers_arguments : answers p ts xs n ≡ answers q us ys m → ts ≡ us
  answers_arguments e = cc

  answers_lines : answers p ts xs n ≡ answers q us ys m → xs ≡ ys
  answers_lines e = cc

  answers_node : answers p ts xs n ≡ answers q us ys m → n ≡ m
  answers_node e = cc

  answers_same : p ≡ q → ts ≡ us → xs ≡ ys → n ≡ m → answers p ts xs n ≡ answers q us ys m
  answers_same a b c d = cc

module _ {t x g y : Tree} {n m : Node} where
  catch_ball : catch t g n ≡ catch x y m → t ≡ x
  catch_ball e = cc

  catch_goal : catch t g n ≡ catch x y m → g ≡ y
  catch_goal e = cc

  catch_node : catch t g n ≡ catch x y m → n ≡ m
  catch_node e = cc

  catch_same : t ≡ x → g ≡ y → n ≡ m → catch t g n ≡ catch x y m
  catch_same a b c = cc

module _ {t x : Tree} {cs ds : List Tree} {n m : Node} where
  findall_list : findall t cs n ≡ findall x ds m → t ≡ x
  findall_list e = cc

  findall_copies : findall t cs n ≡ findall x ds m → cs ≡ ds
  findall_copies e = cc

  findall_node : findall t cs n ≡ findall x ds m → n ≡ m
  findall_node e = cc

  findall_same : t ≡ x → cs ≡ ds → n ≡ m → findall t cs n ≡ findall x ds m
  findall_same a b c = cc

branch_node : {n m : Node} → branch n ≡ branch m → n ≡ m
branch_node e = cc

-- The third view `v`, and the two that tell alike.
module _ (P : Chars → Type 0) (v w u : View) (view : IsView v) (viewed : IsView w) (also : IsView u)
    (knows : (x : Chars) → P x → text_of w.names x ≡ text_of u.names x → text_of v.names x ≡ text_of w.names x) (nothing : P [])
    (left : (g : Tree) (gen place : ℕ) → v.left g gen place ≡ w.left g gen place) where
  abbrev reading : Tree → Tree
  reading = spelled (text_of w.names)

  pub term_seen : (t : Tree) → AllNames P t → spelled (text_of w.names) t ≡ spelled (text_of u.names) t → spelled (text_of v.names) t ≡ spelled (text_of w.names) t
  term_seen t n e = seen P (text_of v.names) (text_of w.names) (text_of u.names) knows t n e

  module _ (s : Contents) (inside : HeapNamed P s.heap) where
    pub place_seen : (p : Place) → PlaceNamed P p → reads w s p ≡ reads u s p → reads v s p ≡ reads w s p
    place_seen p n e = term_seen (term_at s p) (meaning_named P nothing s.heap p.word inside n) e

    pub pending_seen : (x : Task) → TaskNamed P x → pending (reads w s) x ≡ pending (reads u s) x → pending (reads v s) x ≡ pending (reads w s) x
    pending_seen (Goal p h) n e = ap (λ t. goal t h) (place_seen p n (goal_term (reads w s p) (reads u s p) h e))
    pending_seen (Commit h) n e = refl
    pending_seen (Refute h) n e = refl
    pending_seen (Leave h) n e = refl
    pending_seen (Collect p h) n e = ap (λ t. collect t h) (place_seen p n (collect_term (reads w s p) (reads u s p) h e))

    pub tasks_seen : (xs : List Task) → All (TaskNamed P) xs → map (pending (reads w s)) xs ≡ map (pending (reads u s)) xs
        → map (pending (reads v s)) xs ≡ map (pending (reads w s)) xs
    tasks_seen [] n e = refl
    tasks_seen (x ∷ xs) n e =
        ap₂ (λ y ys. y ∷ ys)
        (pending_seen x (All-head (TaskNamed P) x xs n)
        (cons_first (pending (reads w s) x) (pending (reads u s) x) (map (pending (reads w s)) xs) (map (pending (reads u s)) xs) e))
        (tasks_seen xs (All-tail (TaskNamed P) x xs n)
        (cons_rest (pending (reads w s) x) (pending (reads u s) x) (map (pending (reads w s)) xs) (map (pending (reads u s)) xs) e))

    pub places_seen : (ps : List Place) → All (PlaceNamed P) ps → map (reads w s) ps ≡ map (reads u s) ps → map (reads v s) ps ≡ map (reads w s) ps
    places_seen [] n e = refl
    places_seen (p ∷ ps) n e =
        ap₂ (λ y ys. y ∷ ys)
        (place_seen p (All-head (PlaceNamed P) p ps n) (cons_first (reads w s p) (reads u s p) (map (reads w s) ps) (map (reads u s) ps) e))
        (places_seen ps (All-tail (PlaceNamed P) p ps n) (cons_rest (reads w s p) (reads u s p) (map (reads w s) ps) (map (reads u s) ps) e))

    pub node_seen : (xs : List Task) (ps : List Place) (used : ℕ) → All (TaskNamed P) xs → All (PlaceNamed P) ps
        → node_at (reads w s) xs ps used ≡ node_at (reads u s) xs ps used → node_at (reads v s) xs ps used ≡ node_at (reads w s) xs ps used
    node_seen xs ps used a b e =
        ap₂ (λ (gs : List Pending) (ts : List Tree). let n : Node = record { goals = gs; answer = ts; used = used } in n)
        (tasks_seen xs a (ap (λ (n : Node). n.goals) e)) (places_seen ps b (ap (λ (n : Node). n.answer) e))

  line_seen : (l : Line) → LineNamed P l → line_answer w.names l ≡ line_answer u.names l → line_answer v.names l ≡ line_answer w.names l
  line_seen (Indicator name arity) n e =
      ap (λ (x : Chars). let a : Answer = record { terms = more (indicator (record { name = x; arity = arity })) none; fresh = 0; made = 3 } in a)
      (knows (atom_name name) n
      (indicator_name (text_of w.names (atom_name name)) (text_of u.names (atom_name name)) (codes "/") (int (pos arity)) (ap (λ (a : Answer). a.terms) e)))
  line_seen (Flag flag value) n e =
      let terms = ap (λ (a : Answer). a.terms) e
      in ap₂ (λ (x : Chars) (c : Tree). plain_answer (more (atom x) (more c none)))
      (knows (atom_name flag) n.0 (first_atom (text_of w.names (atom_name flag)) (text_of u.names (atom_name flag)) (more (constant_term w.names value) none) (more (constant_term u.names value) none) terms))
      (constant_seen value n.1
      (second_term (atom (text_of w.names (atom_name flag))) (atom (text_of u.names (atom_name flag))) (constant_term w.names value) (constant_term u.names value) terms))
    where
      atom_same : (x y : Chars) → atom x ≡ atom y → x ≡ y
      atom_same x y h = cc

      constant_seen : (c : Constant) → ConstantNamed P c → constant_term w.names c ≡ constant_term u.names c → constant_term v.names c ≡ constant_term w.names c
      constant_seen (constants.Int i) m h = refl
      constant_seen (constants.Atom a) m h = ap atom (knows (atom_name a) m (atom_same (text_of w.names (atom_name a)) (text_of u.names (atom_name a)) h))
  line_seen (Operator priority specifier name) n e =
      let terms = ap (λ (a : Answer). a.terms) e
      in let p = int (pos priority)
      in ap₂ (λ (x : Chars) (y : Chars). plain_answer (more p (more (atom x) (more (atom y) none))))
      (knows (atom_name specifier) n.0
      (middle_atom p (text_of w.names (atom_name specifier)) (text_of u.names (atom_name specifier)) (text_of w.names (atom_name name)) (text_of u.names (atom_name name)) terms))
      (knows (atom_name name) n.1
      (last_atom p (text_of w.names (atom_name specifier)) (text_of u.names (atom_name specifier)) (text_of w.names (atom_name name)) (text_of u.names (atom_name name)) terms))

  -- The lines that unify with a goal that is told alike.
  abbrev lines_by : View → Tree → List Line → List Answer
  lines_by x t ls = unifying (arguments (spelled (text_of x.names) t)) (map (line_answer x.names) ls)

  abbrev step_by : View → Tree → Line → List Line → Bool → List Answer
  step_by x t l ls b = cond b (line_answer x.names l ∷ lines_by x t ls) (lines_by x t ls)

  by_test : (x : View) → IsView x → (t : Tree) (l : Line) (ls : List Line) (b : Bool) → is_some (solve_all [] (arguments t) (line_over l)) ≡ b
      → lines_by x t (l ∷ ls) ≡ step_by x t l ls b
  by_test x seen_so t l ls b is = ap (step_by x t l ls) (line_test x seen_so t l ∙ is)

  unified_lines : (t : Tree) (ls : List Line) → All (LineNamed P) ls → lines_by w t ls ≡ lines_by u t ls → lines_by v t ls ≡ lines_by w t ls
  unified_lines t [] n e = refl
  unified_lines t (l ∷ ls) n e = go (unified_lines t ls (All-tail (LineNamed P) l ls n)) (is_some (solve_all [] (arguments t) (line_over l))) refl
    where
      go : (lines_by w t ls ≡ lines_by u t ls → lines_by v t ls ≡ lines_by w t ls) → (b : Bool) → is_some (solve_all [] (arguments t) (line_over l)) ≡ b
          → lines_by v t (l ∷ ls) ≡ lines_by w t (l ∷ ls)
      go rest true is =
          let both = sym (by_test w viewed t l ls true is) ∙ e ∙ by_test u also t l ls true is
          in by_test v view t l ls true is
          ∙ ap₂ (λ (y : Answer) (ys : List Answer). y ∷ ys)
          (line_seen l (All-head (LineNamed P) l ls n) (cons_first (line_answer w.names l) (line_answer u.names l) (lines_by w t ls) (lines_by u t ls) both))
          (rest (cons_rest (line_answer w.names l) (line_answer u.names l) (lines_by w t ls) (lines_by u t ls) both))
          ∙ sym (by_test w viewed t l ls true is)
      go rest false is =
          let both = sym (by_test w viewed t l ls false is) ∙ e ∙ by_test u also t l ls false is
          in by_test v view t l ls false is ∙ rest both ∙ sym (by_test w viewed t l ls false is)

  told_by : (x : View) (t : Tree) (ls : List Line) (line : ℕ) → told_answers x.names (spelled (text_of x.names) t) ls line ≡ lines_by x t (drop line ls)
  told_by x t ls line = ap (unifying (arguments (spelled (text_of x.names) t))) (drop-map (line_answer x.names) line ls)

  copy_seen : (cs : List Copied) → All (λ c. AllNames P c.term) cs → map (copy_of w) cs ≡ map (copy_of u) cs → map (copy_of v) cs ≡ map (copy_of w) cs
  copy_seen [] n e = refl
  copy_seen (c ∷ cs) n e =
      ap₂ (λ (y : Tree) (ys : List Tree). y ∷ ys)
      (term_seen (copy_over c) (renamed_named P (λ x. c.from + place x (variables c.term)) c.term (All-head (λ c. AllNames P c.term) c cs n))
      (cons_first (copy_of w c) (copy_of u c) (map (copy_of w) cs) (map (copy_of u) cs) e))
      (copy_seen cs (All-tail (λ c. AllNames P c.term) c cs n) (cons_rest (copy_of w c) (copy_of u c) (map (copy_of w) cs) (map (copy_of u) cs) e))

  -- A choice point, read from the store as it was when it was made
  module _ (s : Contents) (inside : HeapNamed P s.heap) (xs : List Task) (ps : List Place) (used : ℕ) (tasked : All (TaskNamed P) xs) (placed : All (PlaceNamed P) ps) where
    abbrev node_by : View → Node
    node_by x = node_at (reads x s) xs ps used

    abbrev choice_by : View → Alternative → Choice
    choice_by x k = choice_at x (reads x s) (node_by x) k

    node_told : node_by w ≡ node_by u → node_by v ≡ node_by w
    node_told e = node_seen s inside xs ps used tasked placed e

    goal_told : (q : Place) → PlaceNamed P q → proc_of (reads w s q) ≡ proc_of (reads u s q) → arguments (reads w s q) ≡ arguments (reads u s q) → reads v s q ≡ reads w s q
    goal_told q n p a = place_seen s inside q n (told_goal P (text_of v.names) (text_of w.names) (text_of u.names) knows (term_at s q) p a)

    pub choice_seen : (k : Alternative) → AlternativeNamed P k → choice_by w k ≡ choice_by u k → choice_by v k ≡ choice_by w k
    choice_seen (Clauses p q g place) n e =
        let t = place_seen s inside q n (clauses_goal e)
        in let node = node_told (clauses_node e)
        in ap₂ (λ (y : Tree) (m : Node). clauses (purpose_of p) y (v.left (listed_goal (purpose_of p) y) g place) m) t node
        ∙ ap (λ (cs : List (Stored Clause)). clauses (purpose_of p) (reads w s q) cs (node_by w)) (left (listed_goal (purpose_of p) (reads w s q)) g place)
    choice_seen (Answers q line) n e =
        ap₂ (λ (y : Tree) (m : Node). answers_from y line m) (goal_told q n (answers_proc e) (answers_arguments e)) (node_told (answers_node e))
    choice_seen (Told q lines line) n e =
        let t = goal_told q n.0 (answers_proc e) (answers_arguments e)
        in let told = unified_lines (term_at s q) (drop line lines.items) (All-drop (LineNamed P) line lines.items n.1)
        (sym (told_by w (term_at s q) lines.items line) ∙ answers_lines e ∙ told_by u (term_at s q) lines.items line)
        in answers_same (ap proc_of t) (ap arguments t) (told_by v (term_at s q) lines.items line ∙ told ∙ sym (told_by w (term_at s q) lines.items line)) (node_told (answers_node e))
    choice_seen Branch n e = ap branch (node_told (branch_node e))
    choice_seen Barrier n e = refl
    choice_seen (Catch c q) n e = catch_same (place_seen s inside c n.0 (catch_ball e)) (place_seen s inside q n.1 (catch_goal e)) (node_told (catch_node e))
    choice_seen (Findall q found) n e =
        findall_same (place_seen s inside q n.0 (findall_list e)) (copy_seen found.copies.items n.1 (findall_copies e)) (node_told (findall_node e))

  pub choices_seen : (ps : List Place) (s : Contents) (fs : List Frame) (ks : List ChoicePoint) → HeapNamed P s.heap → All (PlaceNamed P) ps
      → All (λ f. TaskNamed P f.task) fs → All (λ k. AlternativeNamed P k.alternative) ks
      → choices_at w ps s fs ks ≡ choices_at u ps s fs ks → choices_at v ps s fs ks ≡ choices_at w ps s fs ks
  choices_seen ps s fs [] inside a b n e = refl
  choices_seen ps s fs (k ∷ ks) inside a b n e =
      let there = cut_named P k.mark s.heap inside
      in let before = All-take (λ f. TaskNamed P f.task) k.frames fs b
      in ap₂ (λ (y : Choice) (ys : List Choice). y ∷ ys)
      (choice_seen (back_to k.mark s) there (tasks (take k.frames fs) k.next) ps k.mark.used (tasks_named P (take k.frames fs) k.next before) a k.alternative
      (All-head (λ k. AlternativeNamed P k.alternative) k ks n) (cons_first _ _ _ _ e))
      (choices_seen ps (back_to k.mark s) (take k.frames fs) ks there a before (All-tail (λ k. AlternativeNamed P k.alternative) k ks n) (cons_rest _ _ _ _ e))
