-- What an engine does, which two views tell alike, and a third one reads as these do.
use Rattle.std.proofs.Common.{◌≡◌, ◌==◌, ℕ, Bool, true, false, cond, List, [], ◌∷◌, map, Option, Some, None, length, if◌then◌else◌, refl, sym, ap, ap₂, ◌∙◌}
use Rattle.std.specs.List.{All}
use Rattle.std.proofs.lemmas.List.Elements.{All-head, All-tail}
use Rattle.pl_term.specs.Tree.{Chars, Tree, Trees, var, int, atom, comp, none, more}
use Rattle.pl_model.specs.Database.{Stored}
use Rattle.pl_model.specs.History.{Clause, body_part, head_part}
use Rattle.pl_model.specs.Resolution as resolution
use Rattle.pl_model.specs.Resolution.{Ending, Node, Pending, running, failing, throwing, erasing, clearing, answering, ended, goal}
use Rattle.pl_model.specs.Terms.{variable_count}
use Rattle.term_store.specs.declared.words.Place.{Place}
use Rattle.term_store.specs.ArgumentKeys.{head_in}
use Rattle.term_store.specs.Contents.{term_at}
use Rattle.term_store.specs.Entering.{body_in}
use Rattle.term_store.specs.Heap.{atom_name}
use Rattle.term_store.specs.NumberedNames.{atoms_in, atoms_in_all, by_number, neck, number_of, term_by, text_by}
use Rattle.term_store.specs.NumberedNames as numbered
use Rattle.atom_api.specs.FixedNames.{true_name}
use Rattle.iso_search.proofs.Copying.{variables-spelled}
use Rattle.iso_engine.proofs.Readings.{read_over}
use Rattle.iso_engine.proofs.Copies.{head_read, body_read}
use Rattle.world_api.specs.Texts as worlds
use Rattle.world_api.specs.Visits.{clause_in}
use Rattle.iso_search.specs.declared.frames.Task.{Task}
use Rattle.iso_search.specs.declared.frames.Task.TheVariants.{Goal, Commit, Refute, Leave, Collect}
use Rattle.iso_search.specs.declared.search.Search.{Search}
use Rattle.iso_search.specs.Frames.{tasks}
use Rattle.iso_search.specs.Reading.{IsView, View, pending, reads}
use Rattle.iso_search.specs.Searching.{node_of}
use Rattle.iso_search.specs.Spelling.{spelled, text_of}
use Rattle.iso_engine.specs.declared.doing.Doing.{Doing}
use Rattle.iso_engine.specs.declared.doing.Doing.TheVariants.{Running, Failing, Throwing, Erasing, Clearing, Answering, Ended}
use Rattle.iso_engine.specs.declared.doing.End.{End}
use Rattle.iso_engine.specs.declared.doing.End.TheVariants.{Solved, NoMore, Threw, Halted, Exited}
use Rattle.iso_engine.specs.declared.doing.Left.{Left}
use Rattle.iso_engine.specs.declared.doing.Left.TheVariants as left
use Rattle.iso_engine.specs.Standing.{base_of, clearing_by, clearing_task, doing_of, ending_of, first_of, found_in, head_of, left_clauses}
use Rattle.iso_engine.proofs.Naming.{AllNames}
use Rattle.iso_engine.proofs.LiveNames.{HeapNamed, meaning_named}
use Rattle.iso_engine.proofs.LiveSearch.{PlaceNamed, TaskNamed, node_seen, tasks_named, tasks_seen, term_seen}
use Rattle.iso_engine.proofs.LiveSeen.{cons_first}

abbrev all_by_number : Trees → Trees
all_by_number ts = numbered.spelled_all (λ f. atom_name (number_of f)) ts

module _ (P : Chars → Type 0) where
  abbrev pub LeftNamed : Left → Type 0
  LeftNamed left.None = Unit {0}
  LeftNamed (left.Found a f) = AllNames P (by_number f.clause)
  LeftNamed (left.After place) = Unit {0}

  abbrev pub EndNamed : End → Type 0
  EndNamed (Threw b) = AllNames P b
  EndNamed (Exited b) = AllNames P b
  EndNamed _ = Unit {0}

  abbrev pub DoingNamed : Doing → Type 0
  DoingNamed (Throwing b outer) = AllNames P b
  DoingNamed (Clearing list g x) = LeftNamed x
  DoingNamed (Ended x) = EndNamed x
  DoingNamed _ = Unit {0}

  pick : (b : Bool) (t u : Tree) → AllNames P t → AllNames P u → AllNames P (cond b t u)
  pick true t u a b = a
  pick false t u a b = b

  head_in_named : (t : Tree) → AllNames P t → AllNames P (head_in t)
  head_in_named (var x) n = n
  head_in_named (int i) n = n
  head_in_named (atom a) n = n
  head_in_named (comp f t none) n = n
  head_in_named (comp f t (more u none)) n = pick (number_of f == neck) t (comp f t (more u none)) n.1.0 n
  head_in_named (comp f t (more u (more w ts))) n = n

  head_of_named : (t : Tree) → AllNames P t → AllNames P (head_of t)
  head_of_named (var x) n = n
  head_of_named (int i) n = n
  head_of_named (atom a) n = n
  head_of_named (comp f t ts) n = n.1.0

head_spelled : (g : Chars → Chars) (t : Tree) → head_of (spelled g t) ≡ spelled g (head_of t)
head_spelled g (var x) = refl
head_spelled g (int i) = refl
head_spelled g (atom a) = refl
head_spelled g (comp f t ts) = refl

-- A term by numbers is over atoms, and is read as the term is.
mutual
  over : (t : Tree) → by_number (by_number t) ≡ by_number t
  over (var x) = refl
  over (int i) = refl
  over (atom a) = refl
  over (comp f t ts) = ap₂ (comp (atom_name (number_of f))) (over t) (all_over ts)

  all_over : (ts : Trees) → all_by_number (all_by_number ts) ≡ all_by_number ts
  all_over none = refl
  all_over (more t ts) = ap₂ more (over t) (all_over ts)

mutual
  by_same : (text : ℕ → Chars) (t : Tree) → term_by text (by_number t) ≡ term_by text t
  by_same text (var x) = refl
  by_same text (int i) = refl
  by_same text (atom a) = refl
  by_same text (comp f t ts) = ap₂ (comp (text_by text f)) (by_same text t) (all_by_same text ts)

  all_by_same : (text : ℕ → Chars) (ts : Trees) → numbered.spelled_all (text_by text) (all_by_number ts) ≡ numbered.spelled_all (text_by text) ts
  all_by_same text none = refl
  all_by_same text (more t ts) = ap₂ more (by_same text t) (all_by_same text ts)

-- The clause that a stored term is, by a view.
abbrev clause_by : View → Tree → Clause
clause_by x t = clause_in (term_by (worlds.text_of x.names) t)

module _ (x : View) (view : IsView x) (t : Tree) where
  read_clause : term_by (worlds.text_of x.names) t ≡ spelled (text_of x.names) (by_number t)
  read_clause = sym (by_same (worlds.text_of x.names) t) ∙ read_over x.names view.fixed (by_number t) (over t)

  clause_head : (clause_by x t).head ≡ spelled (text_of x.names) (head_in (by_number t))
  clause_head = ap head_part read_clause ∙ head_read x view (by_number t) (over t)

  clause_body : (clause_by x t).body ≡ spelled (text_of x.names) (body_in (by_number t))
  clause_body = ap body_part read_clause ∙ body_read x view (by_number t) (over t)

  clause_variables : (clause_by x t).variables ≡ variable_count (by_number t)
  clause_variables = ap variable_count read_clause ∙ ap length (variables-spelled (text_of x.names) (by_number t))

-- Parts of what is done that are the same
module _ {t x : Tree} {cs ds : List (Stored Clause)} {n m : Node} where
  clearing_head : clearing t cs n ≡ clearing x ds m → t ≡ x
  clearing_head e = cc

  clearing_clauses : clearing t cs n ≡ clearing x ds m → cs ≡ ds
  clearing_clauses e = cc

  clearing_node : clearing t cs n ≡ clearing x ds m → n ≡ m
  clearing_node e = cc

  clearing_same : t ≡ x → cs ≡ ds → n ≡ m → clearing t cs n ≡ clearing x ds m
  clearing_same a b c = cc

running_node : {n m : Node} → running n ≡ running m → n ≡ m
running_node e = cc

erasing_node : {k : ℕ} {n m : Node} → erasing k n ≡ erasing k m → n ≡ m
erasing_node e = cc

throwing_ball : {t x : Tree} {ps qs : List Pending} → throwing t ps ≡ throwing x qs → t ≡ x
throwing_ball e = cc

throwing_goals : {t x : Tree} {ps qs : List Pending} → throwing t ps ≡ throwing x qs → ps ≡ qs
throwing_goals e = cc

ended_how : {a b : Ending} → ended a ≡ ended b → a ≡ b
ended_how e = cc

threw_ball : {t x : Tree} → resolution.threw t ≡ resolution.threw x → t ≡ x
threw_ball e = cc

exited_ball : {t x : Tree} → resolution.exited t ≡ resolution.exited x → t ≡ x
exited_ball e = cc

module _ (P : Chars → Type 0) (v w u : View) (view : IsView v) (viewed : IsView w) (also : IsView u)
    (knows : (x : Chars) → P x → text_of w.names x ≡ text_of u.names x → text_of v.names x ≡ text_of w.names x) (nothing : P [])
    (true_named : P (atom_name true_name))
    (all : (g : Tree) (gen : ℕ) → v.all g gen ≡ w.all g gen) (among : (g : Tree) (gen : ℕ) → w.all g gen ≡ u.all g gen)
    (left_same : (g : Tree) (gen place : ℕ) → v.left g gen place ≡ w.left g gen place) where
  told : (t : Tree) → AllNames P t → spelled (text_of w.names) t ≡ spelled (text_of u.names) t → spelled (text_of v.names) t ≡ spelled (text_of w.names) t
  told t n e = term_seen P v w u view viewed also knows nothing left_same t n e

  body_in_named : (t : Tree) → AllNames P t → AllNames P (body_in t)
  body_in_named (var x) n = true_named
  body_in_named (int i) n = true_named
  body_in_named (atom a) n = true_named
  body_in_named (comp f t none) n = true_named
  body_in_named (comp f t (more b none)) n = pick P (number_of f == neck) b (atom (atom_name true_name)) n.1.1.0 true_named
  body_in_named (comp f t (more b (more x ts))) n = true_named

  clause_seen : (t : Tree) → AllNames P (by_number t) → clause_by w t ≡ clause_by u t → clause_by v t ≡ clause_by w t
  clause_seen t n e =
      ap₂ (λ (h : Tree) (r : Tree × ℕ). let c : Clause = record { head = h; body = r.0; variables = r.1 } in c)
      (clause_head v view t
      ∙ told (head_in (by_number t)) (head_in_named P (by_number t) n)
      (sym (clause_head w viewed t) ∙ ap (λ (c : Clause). c.head) e ∙ clause_head u also t)
      ∙ sym (clause_head w viewed t))
      (ap₂ (λ (b : Tree) (k : ℕ). let r : Tree × ℕ = (b, k) in r)
      (clause_body v view t
      ∙ told (body_in (by_number t)) (body_in_named (by_number t) n)
      (sym (clause_body w viewed t) ∙ ap (λ (c : Clause). c.body) e ∙ clause_body u also t)
      ∙ sym (clause_body w viewed t))
      (clause_variables v view t ∙ sym (clause_variables w viewed t)))

  base_same : (h : Tree) (g : ℕ) (a : Option ℕ) → base_of v h g a ≡ base_of w h g a
  base_same h g None = all h g
  base_same h g (Some place) = left_same h g place

  -- What is left of the clauses for a head that is read so.
  left_seen : (h k : Tree) (g : ℕ) (x : Left) → LeftNamed P x → h ≡ k → left_clauses w h g x ≡ left_clauses u k g x → left_clauses v h g x ≡ left_clauses w h g x
  left_seen h k g left.None n same e = refl
  left_seen h k g (left.After place) n same e = left_same h g place
  left_seen h k g (left.Found a f) n same e =
      ap₂ (λ (c : Stored Clause) (cs : List (Stored Clause)). c ∷ cs)
      (ap₂ (λ (cs : List (Stored Clause)) (c : Clause). let s : Stored Clause = record (first_of cs) { place = f.place; clause = c } in s) (base_same h g a)
      (clause_seen f.clause n (ap (λ (s : Stored Clause). s.clause) (cons_first (found_in w (base_of w h g a) f) (found_in u (base_of u k g a) f) _ _ e))))
      (ap (λ (cs : List (Stored Clause)). if f.more then cs else []) (left_same h g f.place))

  module _ (e : Search) (inside : HeapNamed P e.store.heap) (framed : All (λ f. TaskNamed P f.task) e.frames.items) (placed : All (PlaceNamed P) e.answer.items) where
    nodes_seen : (list : ℕ) → node_of w e list ≡ node_of u e list → node_of v e list ≡ node_of w e list
    nodes_seen list h =
        node_seen P v w u view viewed also knows nothing left_same e.store inside (tasks e.frames.items list) e.answer.items e.store.used
        (tasks_named P e.frames.items list framed) placed h

    goals_seen : (xs : List Task) → All (TaskNamed P) xs → map (pending (reads w e.store)) xs ≡ map (pending (reads u e.store)) xs
        → map (pending (reads v e.store)) xs ≡ map (pending (reads w e.store)) xs
    goals_seen xs n h = tasks_seen P v w u view viewed also knows nothing left_same e.store inside xs n h

    head_seen : (q : Place) → PlaceNamed P q → head_of (reads w e.store q) ≡ head_of (reads u e.store q) → head_of (reads v e.store q) ≡ head_of (reads w e.store q)
    head_seen q n h =
        let t = term_at e.store q
        in head_spelled (text_of v.names) t
        ∙ told (head_of t) (head_of_named P t (meaning_named P nothing e.store.heap q.word inside n))
        (sym (head_spelled (text_of w.names) t) ∙ h ∙ head_spelled (text_of u.names) t)
        ∙ sym (head_spelled (text_of w.names) t)

    task_seen : (y : Task) (ys : List Task) (g : ℕ) (x : Left) → TaskNamed P y → All (TaskNamed P) ys → LeftNamed P x
        → clearing_task w e y ys g x ≡ clearing_task u e y ys g x → clearing_task v e y ys g x ≡ clearing_task w e y ys g x
    task_seen (Goal q k) ys g x n ns m h =
        let head = head_seen q n (clearing_head h)
        in clearing_same head
        (ap (λ (t : Tree). left_clauses v t g x) head ∙ left_seen (head_of (reads w e.store q)) (head_of (reads u e.store q)) g x m (clearing_head h) (clearing_clauses h))
        (node_seen P v w u view viewed also knows nothing left_same e.store inside ys e.answer.items e.store.used ns placed (clearing_node h))
    task_seen (Commit k) ys g x n ns m h = refl
    task_seen (Refute k) ys g x n ns m h = refl
    task_seen (Leave k) ys g x n ns m h = refl
    task_seen (Collect q k) ys g x n ns m h = refl

    clearing_seen : (ys : List Task) (g : ℕ) (x : Left) → All (TaskNamed P) ys → LeftNamed P x → clearing_by w e ys g x ≡ clearing_by u e ys g x
        → clearing_by v e ys g x ≡ clearing_by w e ys g x
    clearing_seen [] g x ns m h = refl
    clearing_seen (y ∷ ys) g x ns m h = task_seen y ys g x (All-head (TaskNamed P) y ys ns) (All-tail (TaskNamed P) y ys ns) m h

    end_seen : (x : End) → EndNamed P x → ending_of w x ≡ ending_of u x → ending_of v x ≡ ending_of w x
    end_seen Solved n h = refl
    end_seen NoMore n h = refl
    end_seen (Threw b) n h = ap resolution.threw (told b n (threw_ball h))
    end_seen (Halted k) n h = refl
    end_seen (Exited b) n h = ap resolution.exited (told b n (exited_ball h))

    pub doing_seen : (d : Doing) → DoingNamed P d → doing_of w e d ≡ doing_of u e d → doing_of v e d ≡ doing_of w e d
    doing_seen (Running list) n h = ap running (nodes_seen list (running_node h))
    doing_seen Failing n h = refl
    doing_seen (Throwing b outer) n h =
        ap₂ throwing (told b n (throwing_ball h)) (goals_seen (tasks e.frames.items outer) (tasks_named P e.frames.items outer framed) (throwing_goals h))
    doing_seen (Erasing place list) n h = ap (erasing place) (nodes_seen list (erasing_node h))
    doing_seen (Clearing list g x) n h = clearing_seen (tasks e.frames.items list) g x (tasks_named P e.frames.items list framed) n h
    doing_seen Answering n h = refl
    doing_seen (Ended x) n h = ap ended (end_seen x n (ended_how h))
