-- What a search stands for depends on the texts of the atoms that it has in use.
use Rattle.std.proofs.Common.{◌≡◌, ℕ, List, [], ◌∷◌, ◌++◌, map, take, drop, reverse, flat_map, ◌+◌, refl, ap, ap₂, ◌∙◌, pos}
use Rattle.std.specs.List.{All}
use Rattle.std.proofs.lemmas.List.Elements.{All-cons, All-head, All-nil, All-tail, All-take, All-weaker}
use Rattle.pl_term.specs.Tree.{Chars, Tree, Trees, var, int, atom, comp, none, more}
use Rattle.pl_term.specs.Variables.{place, rename_all_by, rename_by, variables}
use Rattle.pl_model.specs.BuiltinRows.{unifying, plain_answer}
use Rattle.pl_model.specs.Balls.{indicator}
use Rattle.pl_model.specs.Predicates.{proc_of}
use Rattle.pl_model.specs.Resolution.{Node, Choice, answers, barrier, branch, catch, clauses, collect, findall, goal}
use Rattle.pl_model.specs.Terms.{arguments}
use Rattle.atom_api.specs.Names.{Names}
use Rattle.term_store.specs.declared.words.Place.{Place}
use Rattle.term_store.specs.declared.words.StoreMark.{StoreMark}
use Rattle.term_store.specs.Contents.{Contents, back_to}
use Rattle.term_store.specs.Heap.{atom_name}
use Rattle.term_store.specs.Live.{cell_atoms, head_atoms, place_atoms, word_atoms}
use Rattle.term_store.specs.NumberedNames.{atoms_in, atoms_in_all, number_of}
use Rattle.term_store.proofs.Naming as naming
use Rattle.iso_search.specs.declared.choices.Alternative.{Alternative}
use Rattle.iso_search.specs.declared.choices.Alternative.TheVariants.{Clauses, Answers, Told, Branch, Barrier, Catch, Findall}
use Rattle.iso_search.specs.declared.choices.ChoicePoint.{ChoicePoint}
use Rattle.iso_search.specs.declared.copies.Copied.{Copied}
use Rattle.iso_search.specs.declared.frames.Task.{Task}
use Rattle.iso_search.specs.declared.frames.Task.TheVariants.{Goal, Commit, Refute, Leave, Collect}
use Rattle.iso_search.specs.declared.frames.Frame.{Frame}
use Rattle.iso_search.specs.declared.search.Search.{Search}
use Rattle.iso_search.specs.declared.told.Constant.{Constant}
use Rattle.iso_search.specs.declared.told.Constant.TheVariants as constants
use Rattle.iso_search.specs.declared.told.Line.{Line}
use Rattle.iso_search.specs.declared.told.Line.TheVariants.{Indicator, Flag, Operator}
use Rattle.iso_search.specs.Choices.{answers_from, choice_at, choices_at, listed_goal, node_behind, purpose_of}
use Rattle.iso_search.specs.Collecting.{copies_of, copy_of}
use Rattle.iso_search.specs.Frames.{tasks}
use Rattle.iso_search.specs.Live.{AgreeOn, ReadsAlike, alternative_atoms, constant_atoms, line_atoms, search_atoms, task_atoms}
use Rattle.iso_search.specs.Reading.{View, node_at, pending, reads}
use Rattle.iso_search.specs.Spelling.{named, or_no_text, spelled, spelled_all, text_of}
use Rattle.iso_search.specs.Told.{constant_term, line_answer, told_from}
use Rattle.iso_search.proofs.Grown.{tasks_inside}
use Rattle.iso_search.proofs.Listing.{All-reverse, map-agree}

module _ (m n : Names) where
  abbrev pub Same : ℕ → Type 0
  Same a = m a ≡ n a

  abbrev pub Alike : Chars → Type 0
  Alike f = text_of m f ≡ text_of n f

  name_alike : (f : Chars) → Same (number_of f) → Alike f
  name_alike [] e = refl
  name_alike (a ∷ []) e = ap (or_no_text (a ∷ [])) e
  name_alike (a ∷ (b ∷ bs)) e = refl

  atom_alike : (a : ℕ) → Same a → Alike (atom_name a)
  atom_alike a e = ap (or_no_text (atom_name a)) e

  mutual
    spelled_alike : (t : Tree) → naming.Names Alike t → spelled (text_of m) t ≡ spelled (text_of n) t
    spelled_alike (var x) a = refl
    spelled_alike (int i) a = refl
    spelled_alike (atom f) a = ap atom a
    spelled_alike (comp f t ts) a =
        ap₂ (λ g u. comp g u (spelled_all (text_of m) ts)) a.0 (spelled_alike t a.1.0)
        ∙ ap (comp (text_of n f) (spelled (text_of n) t)) (all_spelled_alike ts a.1.1)

    all_spelled_alike : (ts : Trees) → naming.NamesAll Alike ts → spelled_all (text_of m) ts ≡ spelled_all (text_of n) ts
    all_spelled_alike none a = refl
    all_spelled_alike (more t ts) a = ap₂ more (spelled_alike t a.0) (all_spelled_alike ts a.1)

  -- The numbers of variables do not matter.
  mutual
    renamed_alike : (f : ℕ → ℕ) (t : Tree) → naming.Names Alike t → naming.Names Alike (rename_by f t)
    renamed_alike f (var x) a = tt
    renamed_alike f (int i) a = tt
    renamed_alike f (atom g) a = a
    renamed_alike f (comp g t ts) a = (a.0, (renamed_alike f t a.1.0, all_renamed_alike f ts a.1.1))

    all_renamed_alike : (f : ℕ → ℕ) (ts : Trees) → naming.NamesAll Alike ts → naming.NamesAll Alike (rename_all_by f ts)
    all_renamed_alike f none a = tt
    all_renamed_alike f (more t ts) a = (renamed_alike f t a.0, all_renamed_alike f ts a.1)

  mutual
    pub names_alike : (t : Tree) → All Same (atoms_in t) → naming.Names Alike t
    names_alike (var x) same = tt
    names_alike (int i) same = tt
    names_alike (atom a) same = name_alike a (All-head Same (number_of a) [] same)
    names_alike (comp a t ts) same =
        let rest : All Same (atoms_in t ++ atoms_in_all ts) = All-tail Same (number_of a) (atoms_in t ++ atoms_in_all ts) same in (
          name_alike a (All-head Same (number_of a) (atoms_in t ++ atoms_in_all ts) same),
          (names_alike t (naming.left_all Same (atoms_in t) (atoms_in_all ts) rest), all_names_alike ts (naming.right_all Same (atoms_in t) (atoms_in_all ts) rest)),
        )

    all_names_alike : (ts : Trees) → All Same (atoms_in_all ts) → naming.NamesAll Alike ts
    all_names_alike none same = tt
    all_names_alike (more t ts) same =
        (names_alike t (naming.left_all Same (atoms_in t) (atoms_in_all ts) same), all_names_alike ts (naming.right_all Same (atoms_in t) (atoms_in_all ts) same))

  -- A term over atoms is spelled alike where the texts of the atoms that it names are the same.
  pub term_alike : (t : Tree) → All Same (atoms_in t) → spelled (text_of m) t ≡ spelled (text_of n) t
  term_alike t same = spelled_alike t (names_alike t same)

  constant_alike : (c : Constant) → All Same (constant_atoms c) → constant_term m c ≡ constant_term n c
  constant_alike (constants.Int i) same = refl
  constant_alike (constants.Atom a) same = ap atom (atom_alike a (All-head Same a [] same))

  line_alike : (l : Line) → All Same (line_atoms l) → line_answer m l ≡ line_answer n l
  line_alike (Indicator name arity) same =
      ap (λ f. record { terms = more (indicator (record { name = f; arity = arity })) none; fresh = 0; made = 3 }) (atom_alike name (All-head Same name [] same))
  line_alike (Flag flag value) same =
      ap₂ (λ f t. plain_answer (more (atom f) (more t none))) (atom_alike flag (All-head Same flag (constant_atoms value) same))
      (constant_alike value (All-tail Same flag (constant_atoms value) same))
  line_alike (Operator priority specifier name) same =
      ap₂ (λ f g. plain_answer (more (int (pos priority)) (more (atom f) (more (atom g) none))))
      (atom_alike specifier (All-head Same specifier (name ∷ []) same)) (atom_alike name (All-head Same name [] (All-tail Same specifier (name ∷ []) same)))

-- The cells of a store name atoms with the same texts.
pub record CellsAlike (m n : Names) (s : Contents) : Type 0 where
  pub heads : All (λ g. Alike m n (atom_name g.name)) s.heap.heads
  pub args : All (λ w. All (λ a. Alike m n (atom_name a)) (word_atoms w)) s.heap.args
  pub trail : All (λ b. All (λ a. Alike m n (atom_name a)) (word_atoms b.word)) s.heap.trail

pub cells_alike : (m n : Names) (s : Contents) → All (Same m n) (cell_atoms s) → CellsAlike m n s
cells_alike m n s same =
    let Q : ℕ → Type 0 = λ a. Alike m n (atom_name a) in
    let all : All Q (cell_atoms s) = All-weaker (Same m n) Q (λ a e. atom_alike m n a e) (cell_atoms s) same in
    let names = flat_map head_atoms s.heap.heads in
    let words = flat_map word_atoms s.heap.args in
    let bonds = flat_map (λ b. word_atoms b.word) s.heap.trail in
    let behind : All Q (words ++ bonds) = naming.right_all Q names (words ++ bonds) all in
    record {
      heads =
          All-weaker (λ g. All Q (head_atoms g)) (λ g. Q g.name) (λ g one. All-head Q g.name [] one) s.heap.heads
          (naming.each_all Q head_atoms s.heap.heads (naming.left_all Q names (words ++ bonds) all));
      args = naming.each_all Q word_atoms s.heap.args (naming.left_all Q words bonds behind);
      trail = naming.each_all Q (λ b. word_atoms b.word) s.heap.trail (naming.right_all Q words bonds behind);
    }

pub cut_alike : (m n : Names) (s : Contents) (k : StoreMark) → CellsAlike m n s → CellsAlike m n (back_to k s)
cut_alike m n s k c =
    let Q : ℕ → Type 0 = λ a. Alike m n (atom_name a) in
    record {
      heads = All-take (λ g. Q g.name) k.heads s.heap.heads c.heads;
      args = All-take (λ w. All Q (word_atoms w)) k.args s.heap.args c.args;
      trail = All-take (λ b. All Q (word_atoms b.word)) k.trail s.heap.trail c.trail;
    }

module _ (v w : View) (left : (t : Tree) (g p : ℕ) → v.left t g p ≡ w.left t g p) where
  abbrev Agrees : ℕ → Type 0
  Agrees = Same v.names w.names

  read_alike : (s : Contents) → CellsAlike v.names w.names s → (p : Place) → All Agrees (place_atoms p) → reads v s p ≡ reads w s p
  read_alike s c p same =
      let Q : ℕ → Type 0 = λ a. Alike v.names w.names (atom_name a) in
      let own : All Q (place_atoms p) = All-weaker Agrees Q (λ a e. atom_alike v.names w.names a e) (place_atoms p) same in
      spelled_alike v.names w.names _ (naming.names_meaning (Alike v.names w.names) refl s.heap p.word c.heads c.args c.trail own)

  pending_alike : (s : Contents) → CellsAlike v.names w.names s → (t : Task) → All Agrees (task_atoms t) → pending (reads v s) t ≡ pending (reads w s) t
  pending_alike s c (Goal p h) same = ap (λ x. goal x h) (read_alike s c p same)
  pending_alike s c (Commit h) same = refl
  pending_alike s c (Refute h) same = refl
  pending_alike s c (Leave h) same = refl
  pending_alike s c (Collect p h) same = ap (λ x. collect x h) (read_alike s c p same)

  node_alike : (s : Contents) (ps : List Place) (ts : List Task) (used : ℕ) → CellsAlike v.names w.names s → All (λ p. All Agrees (place_atoms p)) ps
      → All (λ t. All Agrees (task_atoms t)) ts → node_at (reads v s) ts ps used ≡ node_at (reads w s) ts ps used
  node_alike s ps ts used c places task_names =
      ap₂ (λ gs ts. record { goals = gs; answer = ts; used = used })
      (map-agree (λ t. All Agrees (task_atoms t)) (pending (reads v s)) (pending (reads w s)) (λ t same. pending_alike s c t same) ts task_names)
      (map-agree (λ p. All Agrees (place_atoms p)) (reads v s) (reads w s) (λ p same. read_alike s c p same) ps places)

  copy_alike : (c : Copied) → All Agrees (atoms_in c.term) → copy_of v c ≡ copy_of w c
  copy_alike c same =
      spelled_alike v.names w.names _ (renamed_alike v.names w.names (λ x. c.from + place x (variables c.term)) c.term (names_alike v.names w.names c.term same))

  choice_alike : (s : Contents) (n : Node) (a : Alternative) → CellsAlike v.names w.names s → All Agrees (alternative_atoms a)
      → choice_at v (reads v s) n a ≡ choice_at w (reads w s) n a
  choice_alike s n (Clauses p q g k) c same =
      let e : reads v s q ≡ reads w s q = read_alike s c q same in
      ap (λ x. clauses (purpose_of p) x (v.left (listed_goal (purpose_of p) x) g k) n) e
      ∙ ap (λ l. clauses (purpose_of p) (reads w s q) l n) (left (listed_goal (purpose_of p) (reads w s q)) g k)
  choice_alike s n (Answers q line) c same = ap (λ x. answers_from x line n) (read_alike s c q same)
  choice_alike s n (Told q ls line) c same =
      let lines = flat_map line_atoms ls.items in
      ap₂ (λ x rows. answers (proc_of x) (arguments x) (unifying (arguments x) (drop line rows)) n)
      (read_alike s c q (naming.left_all Agrees (place_atoms q) lines same))
      (map-agree (λ l. All Agrees (line_atoms l)) (line_answer v.names) (line_answer w.names) (λ l h. line_alike v.names w.names l h) ls.items
      (naming.each_all Agrees line_atoms ls.items (naming.right_all Agrees (place_atoms q) lines same)))
  choice_alike s n Branch c same = refl
  choice_alike s n Barrier c same = refl
  choice_alike s n (Catch p q) c same =
      ap₂ (λ x y. catch x y n) (read_alike s c p (naming.left_all Agrees (place_atoms p) (place_atoms q) same))
      (read_alike s c q (naming.right_all Agrees (place_atoms p) (place_atoms q) same))
  choice_alike s n (Findall q found) c same =
      let copies = flat_map (λ (k : Copied). atoms_in k.term) found.copies.items in
      ap₂ (λ x ts. findall x ts n) (read_alike s c q (naming.left_all Agrees (place_atoms q) copies same))
      (map-agree (λ (k : Copied). All Agrees (atoms_in k.term)) (copy_of v) (copy_of w) (λ k h. copy_alike k h) found.copies.items
      (naming.each_all Agrees (λ (k : Copied). atoms_in k.term) found.copies.items (naming.right_all Agrees (place_atoms q) copies same)))

  behind_alike : (ps : List Place) (s : Contents) (fs : List Frame) (k : ChoicePoint) → CellsAlike v.names w.names s → All (λ p. All Agrees (place_atoms p)) ps
      → All (λ f. All Agrees (task_atoms f.task)) fs → node_behind v ps s fs k ≡ node_behind w ps s fs k
  behind_alike ps s fs k c places frames =
      node_alike (back_to k.mark s) ps (tasks (take k.frames fs) k.next) k.mark.used (cut_alike v.names w.names s k.mark c) places
      (tasks_inside (λ t. All Agrees (task_atoms t)) (take k.frames fs) k.next (All-take (λ f. All Agrees (task_atoms f.task)) k.frames fs frames))

  choices_alike : (ps : List Place) (s : Contents) (fs : List Frame) (ks : List ChoicePoint) → CellsAlike v.names w.names s
      → All (λ p. All Agrees (place_atoms p)) ps → All (λ f. All Agrees (task_atoms f.task)) fs → All (λ k. All Agrees (alternative_atoms k.alternative)) ks
      → choices_at v ps s fs ks ≡ choices_at w ps s fs ks
  choices_alike ps s fs [] c places frames all = refl
  choices_alike ps s fs (k ∷ ks) c places frames all =
      let P : ChoicePoint → Type 0 = λ l. All Agrees (alternative_atoms l.alternative) in
      let t = back_to k.mark s in
      let d : CellsAlike v.names w.names t = cut_alike v.names w.names s k.mark c in
      ap (λ n. choice_at v (reads v t) n k.alternative ∷ choices_at v ps t (take k.frames fs) ks) (behind_alike ps s fs k c places frames)
      ∙ ap₂ (λ x xs. x ∷ xs) (choice_alike t (node_behind w ps s fs k) k.alternative d (All-head P k ks all))
      (choices_alike ps t (take k.frames fs) ks d places (All-take (λ f. All Agrees (task_atoms f.task)) k.frames fs frames) (All-tail P k ks all))

pub read_by : (v w : View) (e : Search) → AgreeOn v w (search_atoms e) → ReadsAlike v w e
read_by v w e agree =
    let A : ℕ → Type 0 = λ a. v.names a ≡ w.names a in
    let cells = cell_atoms e.store in
    let answer = flat_map place_atoms e.answer.items in
    let frames = flat_map (λ (f : Frame). task_atoms f.task) e.frames.items in
    let choices = flat_map (λ (k : ChoicePoint). alternative_atoms k.alternative) e.choices.items in
    let behind : All A (answer ++ (frames ++ choices)) = naming.right_all A cells (answer ++ (frames ++ choices)) agree.names in
    let last : All A (frames ++ choices) = naming.right_all A answer (frames ++ choices) behind in
    let c = cells_alike v.names w.names e.store (naming.left_all A cells (answer ++ (frames ++ choices)) agree.names) in
    let places = naming.each_all A place_atoms e.answer.items (naming.left_all A answer (frames ++ choices) behind) in
    let task_names = naming.each_all A (λ (f : Frame). task_atoms f.task) e.frames.items (naming.left_all A frames choices last) in
    let all = naming.each_all A (λ (k : ChoicePoint). alternative_atoms k.alternative) e.choices.items (naming.right_all A frames choices last) in
    record {
      choices =
          choices_alike v w agree.left e.answer.items e.store e.frames.items (reverse e.choices.items) c places task_names
          (All-reverse (λ (k : ChoicePoint). All A (alternative_atoms k.alternative)) e.choices.items all);
      nodes = λ list.
          node_alike v w agree.left e.store e.answer.items (tasks e.frames.items list) e.store.used c places
          (tasks_inside (λ t. All A (task_atoms t)) e.frames.items list task_names);
    }
