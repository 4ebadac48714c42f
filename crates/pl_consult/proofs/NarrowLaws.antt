-- Of the names and the requests of a script none comes with a step.
use Rattle.std.proofs.Common.{◌≡◌, ◌⊎◌, inl, inr, arith, ℕ, zero, suc, List, [], ◌∷◌, ◌++◌, drop, map, true, Option, Some, None, Vec, refl, sym, ap, ◌∙◌, subst}
use Rattle.std.specs.List.{Contains}
use Rattle.std.proofs.lemmas.List.Elements.{Contains-append_left, Contains-append_right, Contains-append_cases, Contains-push, Contains-push_cases}
use Rattle.std.specs.Arc.{arc_value}
use Rattle.std.specs.declared.alloc.Global.{Global}
use Rattle.std.specs.declared.sync.Arc.{Arc}
use Rattle.pl_term.specs.Tree.{Chars, Tree}
use Rattle.pl_term.specs.Variables.{rename}
use Rattle.pl_model.specs.declared.grammar.Quotes.{Quotes}
use Rattle.pl_model.specs.OperatorTable.{OperatorTable}
use Rattle.pl_model.specs.Requests.{Request, consult_clause, start_goal}
use Rattle.run_model.specs.Execution.{Word, goal_word, faulty_word, word_read, further_goals, numbered_goals}
use Rattle.pl_consult.specs.declared.consult.Place.{Place}
use Rattle.pl_consult.specs.declared.consult.Consult.{Consult}
use Rattle.pl_consult.specs.declared.consult.Taken.{Taken}
use Rattle.pl_consult.specs.declared.consult.Taken.TheVariants.{Clause as ClauseTaken, Directive as DirectiveTaken, Passed}
use Rattle.pl_consult.specs.Checks.{kept_clause}
use Rattle.pl_consult.specs.Taking.{IsTakenAt, HasPutOff, IsNextOf, HasLost}
use Rattle.world_api.specs.Visits.{clause_in}
use Rattle.world_api.specs.Told.{Told}
use Rattle.world_api.specs.Gains.{Gains}
use Rattle.world_api.specs.Asked.{texts_in}
use Rattle.script_api.specs.Parts.{of_goal}
use Rattle.script_api.specs.Scripts.{IsLater, IsReplied}
use Rattle.world_api.proofs.Gaining.{gains_then, gains_weaker}
use Rattle.script_api.proofs.LaterLaws.{nothing_in, later_same, replied_later}
use Rattle.pl_consult.specs.declared.stage.Stage.{Stage}
use Rattle.pl_consult.specs.declared.stage.Stage.TheVariants.{Items, Clause, Directive, AtDirective, Report, Words, Starts, Goal, AtGoal, Over, Lost}
use Rattle.pl_consult.specs.declared.file_script.FileScript.{FileScript}
use Rattle.pl_consult.specs.declared.stage.Step.{Step}
use Rattle.pl_consult.specs.declared.goal_words.WordsRead.{WordsRead}
use Rattle.pl_consult.specs.Steps.{IsBegun, IsFirst, can_step, part_of, stage_by, stage_for}
use Rattle.pl_consult.specs.GoalWords.{AreReadSo, IsAt, words_of}
use Rattle.pl_consult.specs.ItemTexts.{IsItem, IsItemText, named, added, IsWordGoal, IsWordText, later_texts, first_texts, stage_texts, IsOwnText, of_item, of_word, of_later, at_hand, clause_words, clause_at, goals_at, IsFileRequest, adds, IsStartRequest, IsOwnRequest, of_file, of_start, clause_at_hand, start_at_hand, MayIntern, MayStart, Narrows}
use Rattle.pl_consult.proofs.ItemLaws.{clause_name, directive_name, later_name, later_more, numbered_name}

no_goal_in_list : (g : ℕ × Tree) → Contains [] g → ⊥
no_goal_in_list g p = let low = p.1 in omega (arith, low)

-- A list contains its first element, and what the rest contains, and no more.
contains_here : {X : Type 0} (x : X) (xs : List X) → Contains (x ∷ xs) x
contains_here x xs = Contains-append_left (x ∷ []) xs x (Contains-push [] x)

contains_there : {X : Type 0} (y : X) (xs : List X) (x : X) → Contains xs x → Contains (y ∷ xs) x
contains_there y xs x p = Contains-append_right (y ∷ []) xs x p

contains_cases : {X : Type 0} (y : X) (xs : List X) (x : X) → Contains (y ∷ xs) x → (x ≡ y) ⊎ Contains xs x
contains_cases y xs x p = go (Contains-append_cases (y ∷ []) xs x p)
  where
    only : Contains [] x ⊎ (y ≡ x) → (x ≡ y) ⊎ Contains xs x
    only (inl q) = let low = q.1 in absurd (let no : ⊥ = omega (arith, low) in no)
    only (inr e) = inl (sym e)

    go : Contains (y ∷ []) x ⊎ Contains xs x → (x ≡ y) ⊎ Contains xs x
    go (inl q) = only (Contains-push_cases [] y x q)
    go (inr q) = inr q

pub narrows_same : (words : List Chars) (c : Consult) (stage : Stage) → Narrows words c stage c stage
narrows_same words c stage = record { texts = λ x p. p; requests = λ q p. p }

pub narrows_then : (words : List Chars) (b c d : Consult) (first second third : Stage)
    → Narrows words b first c second
    → Narrows words c second d third
    → Narrows words b first d third
narrows_then words b c d first second third n m =
    record { texts = λ x p. n.texts x (m.texts x p); requests = λ q p. n.requests q (m.requests q p) }

-- A stage at which no term is at hand.
pub narrows_bare : (words : List Chars) (c : Consult) (stage then : Stage)
    → stage_texts then ≡ []
    → clause_at then ≡ None
    → goals_at then ≡ []
    → Narrows words c stage c then
narrows_bare words c stage then bare none gone = record { texts = texts; requests = requests }
  where
    texts : (x : Chars) → IsOwnText c words then x → IsOwnText c words stage x
    texts x (of_item p) = of_item p
    texts x (of_word p) = of_word p
    texts x (of_later p) = of_later p
    texts x (at_hand p) = absurd (nothing_in x (subst (λ us. Contains us x) bare p))

    requests : (q : Request) → IsOwnRequest c words then q → IsOwnRequest c words stage q
    requests q (of_file p) = of_file p
    requests q (of_start p) = of_start p
    requests q (clause_at_hand t e is) = absurd (let no : ⊥ = (let bad : None ≡ Some t = sym none ∙ e in cc) in no)
    requests q (start_at_hand g p is) = absurd (no_goal_in_list g (subst (λ gs. Contains gs g) gone p))

-- The item that is taken up.
taken_text : (words : List Chars) (c : Consult) (at : ℕ) (ops : Arc OperatorTable Global) (quotes : Quotes) (taken : Taken) (x : Chars)
    → IsTakenAt c.text.items at (arc_value ops) quotes taken
    → Contains (stage_texts (stage_by taken ops)) x
    → IsOwnText c words Items x
taken_text words c at ops quotes (ClauseTaken k place) x is p = go (clause_name is.0 k x is.2.1 p)
  where
    read : IsItem c.text.items is.0
    read = record { at = at; operators = arc_value ops; quotes = quotes; read = is.1 }

    go : Contains (texts_in is.0) x ⊎ Contains clause_words x → IsOwnText c words Items x
    go (inl q) = of_item (named is.0 read q)
    go (inr q) = of_item (added is.0 read is.2.0 q)
taken_text words c at ops quotes (DirectiveTaken g place) x is p =
    of_item (named is.0 (record { at = at; operators = arc_value ops; quotes = quotes; read = is.1 }) (directive_name is.0 g x is.2 p))
taken_text words c at ops quotes Passed x is p = absurd (nothing_in x p)

taken_request : (c : Consult) (at : ℕ) (ops : Arc OperatorTable Global) (quotes : Quotes) (taken : Taken) (t : Tree) (q : Request)
    → IsTakenAt c.text.items at (arc_value ops) quotes taken
    → clause_at (stage_by taken ops) ≡ Some t
    → q ≡ consult_clause (kept_clause (rename zero t))
    → IsFileRequest c.text.items q
taken_request c at ops quotes (ClauseTaken k place) t q is e asked =
    let same : k ≡ t = cc in
    adds is.0 (kept_clause k) (record { at = at; operators = arc_value ops; quotes = quotes; read = is.1 }) is.2.0 is.2.1
    (asked ∙ ap (λ u. consult_clause (kept_clause (rename zero u))) (sym same) ∙ ap (λ u. consult_clause (kept_clause u)) is.2.2)
taken_request c at ops quotes (DirectiveTaken g place) t q is e asked = absurd (let no : ⊥ = cc in no)
taken_request c at ops quotes Passed t q is e asked = absurd (let no : ⊥ = cc in no)

taken_goals : (taken : Taken) (ops : Arc OperatorTable Global) → goals_at (stage_by taken ops) ≡ []
taken_goals (ClauseTaken t place) ops = refl
taken_goals (DirectiveTaken g place) ops = refl
taken_goals Passed ops = refl

put_off_text : (words : List Chars) (c : Consult) (at : ℕ) (ops : OperatorTable) (quotes : Quotes) (later : List (ℕ × Tree)) (x : Chars)
    → HasPutOff c.text.items at ops quotes c.later.items later
    → Contains (later_texts later) x
    → IsOwnText c words Items x
put_off_text words c at ops quotes later x (inl e) p = of_later (subst (λ gs. Contains (later_texts gs) x) e p)
put_off_text words c at ops quotes later x (inr o) p =
    go (Contains-append_cases (later_texts c.later.items) (texts_in o.2.goal) x
    (subst (λ us. Contains us x) (ap later_texts o.2.grown ∙ later_more c.later.items o.2.place o.2.goal) p))
  where
    go : Contains (later_texts c.later.items) x ⊎ Contains (texts_in o.2.goal) x → IsOwnText c words Items x
    go (inl q) = of_later q
    go (inr q) =
        of_item
        (named o.0 (record { at = at; operators = ops; quotes = quotes; read = o.1 })
        (directive_name o.0 o.2.directive x o.2.item (later_name o.2.directive o.2.goal x o.2.later q)))

pub taken_narrows : (words : List Chars) (c d : Consult) (at : ℕ) (ops : Arc OperatorTable Global) (quotes : Quotes) (taken : Taken)
    → d.text.items ≡ c.text.items
    → IsTakenAt c.text.items at (arc_value ops) quotes taken
    → HasPutOff c.text.items at (arc_value ops) quotes c.later.items d.later.items
    → Narrows words c Items d (stage_by taken ops)
taken_narrows words c d at ops quotes taken text is later = record { texts = texts; requests = requests }
  where
    texts : (x : Chars) → IsOwnText d words (stage_by taken ops) x → IsOwnText c words Items x
    texts x (of_item p) = of_item (subst (λ bs. IsItemText bs x) text p)
    texts x (of_word p) = of_word p
    texts x (of_later p) = put_off_text words c at (arc_value ops) quotes d.later.items x later p
    texts x (at_hand p) = taken_text words c at ops quotes taken x is p

    requests : (q : Request) → IsOwnRequest d words (stage_by taken ops) q → IsOwnRequest c words Items q
    requests q (of_file p) = of_file (subst (λ bs. IsFileRequest bs q) text p)
    requests q (of_start p) = of_start p
    requests q (clause_at_hand t e asked) = of_file (taken_request c at ops quotes taken t q is e asked)
    requests q (start_at_hand g p asked) = absurd (no_goal_in_list g (subst (λ gs. Contains gs g) (taken_goals taken ops) p))

-- The next goal of initialization/1.
lost_text : (words : List Chars) (c : Consult) (later : List (ℕ × Tree)) (x : Chars)
    → HasLost c.later.items later
    → Contains (later_texts later) x
    → IsOwnText c words Items x
lost_text words c later x (inl e) p = of_later (subst (λ gs. Contains (later_texts gs) x) e p)
lost_text words c later x (inr o) p =
    of_later (subst (λ gs. Contains (later_texts gs) x) (sym o.1) (Contains-append_right (texts_in o.0.1) (later_texts later) x p))

next_text : (words : List Chars) (c : Consult) (later : List (ℕ × Tree)) (g : Option (ℕ × Tree)) (x : Chars)
    → IsNextOf g c.later.items later
    → Contains (stage_texts (stage_for g)) x
    → IsOwnText c words Items x
next_text words c later None x is p = absurd (nothing_in x p)
next_text words c later (Some g) x is p =
    of_later
    (subst (λ gs. Contains (later_texts gs) x) (sym is.1)
    (Contains-append_left (texts_in is.0) (later_texts later) x (numbered_name is.0 x (subst (λ u. Contains (texts_in u) x) is.2 p))))

next_clause : (g : Option (ℕ × Tree)) → clause_at (stage_for g) ≡ None
next_clause None = refl
next_clause (Some g) = refl

next_goals : (g : Option (ℕ × Tree)) → goals_at (stage_for g) ≡ []
next_goals None = refl
next_goals (Some g) = refl

pub next_narrows : (words : List Chars) (c d : Consult) (g : Option (ℕ × Tree))
    → d.text.items ≡ c.text.items
    → IsNextOf g c.later.items d.later.items
    → HasLost c.later.items d.later.items
    → Narrows words c Items d (stage_for g)
next_narrows words c d g text is later = record { texts = texts; requests = requests }
  where
    texts : (x : Chars) → IsOwnText d words (stage_for g) x → IsOwnText c words Items x
    texts x (of_item p) = of_item (subst (λ bs. IsItemText bs x) text p)
    texts x (of_word p) = of_word p
    texts x (of_later p) = lost_text words c d.later.items x later p
    texts x (at_hand p) = next_text words c d.later.items g x is p

    requests : (q : Request) → IsOwnRequest d words (stage_for g) q → IsOwnRequest c words Items q
    requests q (of_file p) = of_file (subst (λ bs. IsFileRequest bs q) text p)
    requests q (of_start p) = of_start p
    requests q (clause_at_hand t e asked) = absurd (let no : ⊥ = (let bad : None ≡ Some t = sym (next_clause g) ∙ e in cc) in no)
    requests q (start_at_hand h p asked) = absurd (no_goal_in_list h (subst (λ gs. Contains gs h) (next_goals g) p))

pub lost_narrows : (words : List Chars) (c d : Consult)
    → d.text.items ≡ c.text.items
    → HasLost c.later.items d.later.items
    → Narrows words c Items d Items
lost_narrows words c d text later = record { texts = texts; requests = requests }
  where
    texts : (x : Chars) → IsOwnText d words Items x → IsOwnText c words Items x
    texts x (of_item p) = of_item (subst (λ bs. IsItemText bs x) text p)
    texts x (of_word p) = of_word p
    texts x (of_later p) = lost_text words c d.later.items x later p
    texts x (at_hand p) = at_hand p

    requests : (q : Request) → IsOwnRequest d words Items q → IsOwnRequest c words Items q
    requests q (of_file p) = of_file (subst (λ bs. IsFileRequest bs q) text p)
    requests q (of_start p) = of_start p
    requests q (clause_at_hand t e asked) = absurd (let no : ⊥ = cc in no)
    requests q (start_at_hand g p asked) = absurd (no_goal_in_list g p)

-- The goals of the words that were read.
first_text : (words : List Chars) (ops : OperatorTable) (quotes : Quotes) (o : Option Tree) (ws : List Word) (x : Chars)
    → ws ≡ map (word_read ops quotes) words
    → IsFirst o ws
    → Contains (first_texts o) x
    → IsWordText words x
first_text [] ops quotes o [] x is first p = absurd (nothing_in x (subst (λ k. Contains (first_texts k) x) first p))
first_text [] ops quotes o (w ∷ ws) x is first p = absurd (let no : ⊥ = cc in no)
first_text (c ∷ cs) ops quotes o [] x is first p = absurd (let no : ⊥ = cc in no)
first_text (c ∷ cs) ops quotes o (goal_word t names ∷ ws) x is first p =
    let read : goal_word t names ≡ word_read ops quotes c = cc in (
      t,
      record { word = c; among = contains_here c cs; operators = ops; quotes = quotes; names = names; read = sym read },
      subst (λ k. Contains (first_texts k) x) first p,
    )
first_text (c ∷ cs) ops quotes o (faulty_word kind at ∷ ws) x is first p = absurd (nothing_in x (subst (λ k. Contains (first_texts k) x) first p))

among_more : (c : Chars) (cs : List Chars) (t : Tree) → IsWordGoal cs t → IsWordGoal (c ∷ cs) t
among_more c cs t g =
    record { word = g.word; among = contains_there c cs g.word g.among; operators = g.operators; quotes = g.quotes; names = g.names; read = g.read }

-- A numbered goal is one of the words.
head_goal : (c : Chars) (cs : List Chars) (ops : OperatorTable) (quotes : Quotes) (n : ℕ) (t : Tree) (names : List (Chars × ℕ)) (gs : List (ℕ × Tree)) (g : ℕ × Tree)
    → word_read ops quotes c ≡ goal_word t names
    → (Contains gs g → IsWordGoal cs g.1)
    → (g ≡ (n, t)) ⊎ Contains gs g
    → IsWordGoal (c ∷ cs) g.1
head_goal c cs ops quotes n t names gs g read rest (inl e) =
    record {
      word = c;
      among = contains_here c cs;
      operators = ops;
      quotes = quotes;
      names = names;
      read = read ∙ ap (λ (u : Tree). goal_word u names) (sym (ap (λ (k : ℕ × Tree). k.1) e));
    }
head_goal c cs ops quotes n t names gs g read rest (inr more) = among_more c cs g.1 (rest more)

abbrev goals_with : ℕ → Word → List (ℕ × Tree) → List (ℕ × Tree)
goals_with n (goal_word t names) gs = (n, t) ∷ gs
goals_with n (faulty_word kind at) gs = gs

with_first : (n : ℕ) (w : Word) (ws : List Word) → numbered_goals n (w ∷ ws) ≡ goals_with n w (numbered_goals (suc n) ws)
with_first n (goal_word t names) ws = refl
with_first n (faulty_word kind at) ws = refl

numbered_goal : (words : List Chars) (ops : OperatorTable) (quotes : Quotes) (n : ℕ) (g : ℕ × Tree)
    → Contains (numbered_goals n (map (word_read ops quotes) words)) g
    → IsWordGoal words g.1
numbered_goal [] ops quotes n g p = absurd (no_goal_in_list g p)
numbered_goal (c ∷ cs) ops quotes n g p =
    go (numbered_goal cs ops quotes (suc n) g) (word_read ops quotes c) refl
    (subst (λ gs. Contains gs g) (with_first n (word_read ops quotes c) (map (word_read ops quotes) cs)) p)
  where
    go : (Contains (numbered_goals (suc n) (map (word_read ops quotes) cs)) g → IsWordGoal cs g.1)
        → (w : Word)
        → word_read ops quotes c ≡ w
        → Contains (goals_with n w (numbered_goals (suc n) (map (word_read ops quotes) cs))) g
        → IsWordGoal (c ∷ cs) g.1
    go rest (goal_word t names) read q =
        head_goal c cs ops quotes n t names (numbered_goals (suc n) (map (word_read ops quotes) cs)) g read rest
        (contains_cases (n, t) (numbered_goals (suc n) (map (word_read ops quotes) cs)) g q)
    go rest (faulty_word kind at) read q = among_more c cs g.1 (rest q)

further_goal : (words : List Chars) (ops : OperatorTable) (quotes : Quotes) (g : ℕ × Tree)
    → Contains (further_goals (map (word_read ops quotes) words)) g
    → IsWordGoal words g.1
further_goal [] ops quotes g p = absurd (no_goal_in_list g p)
further_goal (c ∷ cs) ops quotes g p = among_more c cs g.1 (numbered_goal cs ops quotes 2 g p)

-- A name in one of a list of goals.
goals_text : (words : List Chars) (gs : List (ℕ × Tree)) (x : Chars)
    → ((g : ℕ × Tree) → Contains gs g → IsWordGoal words g.1)
    → Contains (later_texts gs) x
    → IsWordText words x
goals_text words [] x all p = absurd (nothing_in x p)
goals_text words (g ∷ gs) x all p = go (goals_text words gs x (λ h r. all h (contains_there g gs h r))) (Contains-append_cases (texts_in g.1) (later_texts gs) x p)
  where
    go : (Contains (later_texts gs) x → IsWordText words x) → Contains (texts_in g.1) x ⊎ Contains (later_texts gs) x → IsWordText words x
    go rest (inl q) = (g.1, all g (contains_here g gs), q)
    go rest (inr q) = rest q

pub read_narrows : (words : List Chars) (c d : Consult) (ops : Arc OperatorTable Global) (quotes : Quotes) (w : WordsRead) (at : ℕ)
    → d ≡ c
    → AreReadSo (arc_value ops) quotes words w
    → Narrows words c Words d (Starts ops w.first w.goals at)
read_narrows words c d ops quotes w at same so =
    subst (λ (e : Consult). Narrows words c Words e (Starts ops w.first w.goals at)) (sym same) (record { texts = texts; requests = requests })
  where
    all_read : (g : ℕ × Tree) → Contains w.goals.items g → IsWordGoal words g.1
    all_read g p = further_goal words (arc_value ops) quotes g (subst (λ gs. Contains gs g) (so.goals_are ∙ ap further_goals so.words_are) p)

    hand_text : (x : Chars) → Contains (first_texts w.first) x ⊎ Contains (later_texts w.goals.items) x → IsWordText words x
    hand_text x (inl q) = first_text words (arc_value ops) quotes w.first (words_of w.read.items) x so.words_are so.first_is q
    hand_text x (inr q) = goals_text words w.goals.items x all_read q

    texts : (x : Chars) → IsOwnText c words (Starts ops w.first w.goals at) x → IsOwnText c words Words x
    texts x (of_item p) = of_item p
    texts x (of_word p) = of_word p
    texts x (of_later p) = of_later p
    texts x (at_hand p) = of_word (hand_text x (Contains-append_cases (first_texts w.first) (later_texts w.goals.items) x p))

    requests : (q : Request) → IsOwnRequest c words (Starts ops w.first w.goals at) q → IsOwnRequest c words Words q
    requests q (of_file p) = of_file p
    requests q (of_start p) = of_start p
    requests q (clause_at_hand u e asked) = absurd (let no : ⊥ = cc in no)
    requests q (start_at_hand g p asked) = of_start (record { number = g.0; goal = g.1; is_goal = all_read g p; is = asked })

-- One goal more was started.
pub started_narrows : (words : List Chars) (c d : Consult) (ops : Arc OperatorTable Global) (first : Option Tree) (goals : Vec (ℕ × Tree) Global) (at next : ℕ)
    → d ≡ c
    → Narrows words c (Starts ops first goals at) d (Starts ops first goals next)
started_narrows words c d ops first goals at next same =
    subst (λ (e : Consult). Narrows words c (Starts ops first goals at) e (Starts ops first goals next)) (sym same) (record { texts = texts; requests = requests })
  where
    texts : (x : Chars) → IsOwnText c words (Starts ops first goals next) x → IsOwnText c words (Starts ops first goals at) x
    texts x (of_item p) = of_item p
    texts x (of_word p) = of_word p
    texts x (of_later p) = of_later p
    texts x (at_hand p) = at_hand p

    requests : (q : Request) → IsOwnRequest c words (Starts ops first goals next) q → IsOwnRequest c words (Starts ops first goals at) q
    requests q (of_file p) = of_file p
    requests q (of_start p) = of_start p
    requests q (clause_at_hand u e asked) = absurd (let no : ⊥ = cc in no)
    requests q (start_at_hand g p asked) = start_at_hand g p asked

-- After all starts the first goal is at hand, or none.
begun_text : (first : Option Tree) (stage : Stage) (step : Step) (x : Chars) → IsBegun first stage step → Contains (stage_texts stage) x → Contains (first_texts first) x
begun_text None stage step x is p = subst (λ (k : Stage). Contains (stage_texts k) x) is.0 p
begun_text (Some t) stage step x is p = subst (λ (k : Stage). Contains (stage_texts k) x) is.0 p

begun_clause : (first : Option Tree) (stage : Stage) (step : Step) → IsBegun first stage step → clause_at stage ≡ None
begun_clause None stage step is = ap clause_at is.0
begun_clause (Some t) stage step is = ap clause_at is.0

begun_goals : (first : Option Tree) (stage : Stage) (step : Step) → IsBegun first stage step → goals_at stage ≡ []
begun_goals None stage step is = ap goals_at is.0
begun_goals (Some t) stage step is = ap goals_at is.0

pub begun_narrows : (words : List Chars) (c : Consult) (ops : Arc OperatorTable Global) (first : Option Tree) (goals : Vec (ℕ × Tree) Global) (at : ℕ) (stage : Stage) (step : Step)
    → IsBegun first stage step
    → Narrows words c (Starts ops first goals at) c stage
begun_narrows words c ops first goals at stage step is = record { texts = texts; requests = requests }
  where
    texts : (x : Chars) → IsOwnText c words stage x → IsOwnText c words (Starts ops first goals at) x
    texts x (of_item p) = of_item p
    texts x (of_word p) = of_word p
    texts x (of_later p) = of_later p
    texts x (at_hand p) = at_hand (Contains-append_left (first_texts first) (later_texts goals.items) x (begun_text first stage step x is p))

    requests : (q : Request) → IsOwnRequest c words stage q → IsOwnRequest c words (Starts ops first goals at) q
    requests q (of_file p) = of_file p
    requests q (of_start p) = of_start p
    requests q (clause_at_hand u e asked) = absurd (let no : ⊥ = (let bad : None ≡ Some u = sym (begun_clause first stage step is) ∙ e in cc) in no)
    requests q (start_at_hand g p asked) = absurd (no_goal_in_list g (subst (λ gs. Contains gs g) (begun_goals first stage step is) p))

-- What the start of a goal interns.
goal_text : (gs : List (ℕ × Tree)) (g : ℕ × Tree) (x : Chars) → Contains gs g → Contains (texts_in g.1) x → Contains (later_texts gs) x
goal_text [] g x among p = absurd (no_goal_in_list g among)
goal_text (h ∷ gs) g x among p = go (λ q. goal_text gs g x q p) (contains_cases h gs g among)
  where
    go : (Contains gs g → Contains (later_texts gs) x) → (g ≡ h) ⊎ Contains gs g → Contains (texts_in h.1 ++ later_texts gs) x
    go rest (inl e) = Contains-append_left (texts_in h.1) (later_texts gs) x (subst (λ (k : ℕ × Tree). Contains (texts_in k.1) x) e p)
    go rest (inr q) = Contains-append_right (texts_in h.1) (later_texts gs) x (rest q)

in_rest : (gs : List (ℕ × Tree)) (at : ℕ) (g : ℕ × Tree) → Contains (drop at gs) g → Contains gs g
in_rest gs zero g p = p
in_rest [] (suc at) g p = absurd (no_goal_in_list g p)
in_rest (h ∷ gs) (suc at) g p = contains_there h gs g (in_rest gs at g p)

-- Of the start of a goal that is kept so.
pub started_asked : (n : ℕ) (k g : Tree) (t : Told) (a b e : Option (List Chars))
    → k ≡ g
    → Gains (Contains (texts_in g)) a b
    → Gains (IsReplied (λ (q : Request). q ≡ start_goal n k) t) b e
    → Gains (MayStart n g t) a e
started_asked n k g t a b e same first second =
    gains_then (MayStart n g t) a b e (gains_weaker (Contains (texts_in g)) (MayStart n g t) a b (λ x p. inl p) first)
    (gains_weaker (IsReplied (λ (q : Request). q ≡ start_goal n k) t) (MayStart n g t) b e
    (λ x r. inr (subst (λ (h : Tree). IsReplied (λ (q : Request). q ≡ start_goal n h) t x) same r)) second)

pub interned_asked : (n : ℕ) (g : Tree) (t : Told) (a b : Option (List Chars)) → Gains (Contains (texts_in g)) a b → Gains (MayStart n g t) a b
interned_asked n g t a b gains = gains_weaker (Contains (texts_in g)) (MayStart n g t) a b (λ x p. inl p) gains

pub start_asked : (words : List Chars) (c : Consult) (ops : Arc OperatorTable Global) (first : Option Tree) (goals : Vec (ℕ × Tree) Global) (at n : ℕ) (g : Tree) (t : Told) (a b : Option (List Chars))
    → IsAt at n g goals.items
    → Gains (MayStart n g t) a b
    → Gains (MayIntern c words (Starts ops first goals at) t) a b
start_asked words c ops first goals at n g t a b is gains =
    gains_weaker (MayStart n g t) (MayIntern c words (Starts ops first goals at) t) a b may gains
  where
    among : Contains goals.items (n, g)
    among = in_rest goals.items at (n, g) (subst (λ gs. Contains gs (n, g)) (sym is) (contains_here (n, g) (drop (suc at) goals.items)))

    may : (x : Chars) → MayStart n g t x → MayIntern c words (Starts ops first goals at) t x
    may x (inl p) = inl (at_hand (Contains-append_right (first_texts first) (later_texts goals.items) x (goal_text goals.items (n, g) x among p)))
    may x (inr r) =
        inr
        (replied_later (IsOwnRequest c words (Starts ops first goals at)) (λ (q : Request). q ≡ start_goal n g) t t x (λ q asked. start_at_hand (n, g) among asked)
        (later_same t t refl) r)

-- What is interned later is interned of what was there before.
pub may_later : (words : List Chars) (c d : Consult) (stage then : Stage) (t u : Told) (x : Chars)
    → Narrows words c stage d then
    → IsLater t u
    → MayIntern d words then u x
    → MayIntern c words stage t x
may_later words c d stage then t u x n l (inl p) = inl (n.texts x p)
may_later words c d stage then t u x n l (inr r) = inr (replied_later (IsOwnRequest c words stage) (IsOwnRequest d words then) t u x n.requests l r)

pub interns_then : (words : List Chars) (c d : Consult) (stage then : Stage) (t u : Told) (a b e : Option (List Chars))
    → Narrows words c stage d then
    → IsLater t u
    → Gains (MayIntern c words stage t) a b
    → Gains (MayIntern d words then u) b e
    → Gains (MayIntern c words stage t) a e
interns_then words c d stage then t u a b e n l first second =
    gains_then (MayIntern c words stage t) a b e first
    (gains_weaker (MayIntern d words then u) (MayIntern c words stage t) b e (λ x. may_later words c d stage then t u x n l) second)

-- The names of the term that is at hand are interned.
pub given_asked : (words : List Chars) (c : Consult) (stage : Stage) (t : Tree) (u : Told) (a b : Option (List Chars))
    → stage_texts stage ≡ texts_in t
    → Gains (Contains (texts_in t)) a b
    → Gains (MayIntern c words stage u) a b
given_asked words c stage t u a b is g =
    gains_weaker (Contains (texts_in t)) (MayIntern c words stage u) a b (λ x p. inl (at_hand (subst (λ us. Contains us x) (sym is) p))) g

-- And then the reply to its adding is.
pub added_asked : (words : List Chars) (c : Consult) (t kept : Tree) (place : ℕ) (ops : Arc OperatorTable Global) (u : Told) (a b e : Option (List Chars))
    → kept ≡ rename zero t
    → Gains (Contains (texts_in t)) a b
    → Gains (IsReplied (λ q. q ≡ consult_clause (clause_in kept)) u) b e
    → Gains (MayIntern c words (Clause t place ops) u) a e
added_asked words c t kept place ops u a b e is g h =
    let stage : Stage = Clause t place ops in
    gains_then (MayIntern c words stage u) a b e
    (given_asked words c stage t u a b refl g)
    (gains_weaker (IsReplied (λ q. q ≡ consult_clause (clause_in kept)) u) (MayIntern c words stage u) b e
    (λ x r. inr (replied_later (IsOwnRequest c words stage) (λ q. q ≡ consult_clause (clause_in kept)) u u x
    (λ q asked. clause_at_hand t refl (asked ∙ ap (λ k. consult_clause (kept_clause k)) is)) (later_same u u refl) r))
    h)

-- One step more.
pub step_more : (words w : List Chars) (c d e : Consult) (stage then third : Stage) (t u : Told) (a b x : Option (List Chars))
    → w ≡ words
    → Narrows words c stage d then
    → IsLater t u
    → Gains (MayIntern c words stage t) a b
    → Narrows w d then e third
    → Gains (MayIntern d w then u) b x
    → Narrows words c stage e third × Gains (MayIntern c words stage t) a x
step_more words w c d e stage then third t u a b x is n l g m h = (
  narrows_then words c d e stage then third n (subst (λ v. Narrows v d then e third) is m),
  interns_then words c d stage then t u a b x n l g (subst (λ v. Gains (MayIntern d v then u) b x) is h),
)

-- The stage at which the script is left: the one after the step, or it is lost.
pub handed_narrows : (words : List Chars) (c d e : Consult) (stage then before final : Stage)
    → Narrows words c stage d then
    → e ≡ d
    → (final ≡ before) ⊎ (final ≡ then)
    → before ≡ Lost
    → Narrows words c stage e final
handed_narrows words c d e stage then before final n same (inl kept) lost =
    narrows_then words c d e stage then final n
    (subst (λ (k : Stage). Narrows words d then e k) (sym (kept ∙ lost))
    (subst (λ (f : Consult). Narrows words d then f Lost) (sym same) (narrows_bare words d then Lost refl refl refl)))
handed_narrows words c d e stage then before final n same (inr is) lost =
    subst (λ (k : Stage). Narrows words c stage e k) (sym is) (subst (λ (f : Consult). Narrows words c stage f then) (sym same) n)

-- The names and the requests of a script among those of another one.
pub own_texts : (s r : FileScript) (k : Stage)
    → k ≡ s.stage
    → r.words.items ≡ s.words.items
    → Narrows s.words.items s.consult k r.consult r.stage
    → (x : Chars)
    → IsOwnText r.consult r.words.items r.stage x
    → IsOwnText s.consult s.words.items s.stage x
own_texts s r k stage words n x p =
    subst (λ (j : Stage). IsOwnText s.consult s.words.items j x) stage (n.texts x (subst (λ ws. IsOwnText r.consult ws r.stage x) words p))

pub own_requests : (s r : FileScript) (k : Stage)
    → k ≡ s.stage
    → r.words.items ≡ s.words.items
    → Narrows s.words.items s.consult k r.consult r.stage
    → (q : Request)
    → IsOwnRequest r.consult r.words.items r.stage q
    → IsOwnRequest s.consult s.words.items s.stage q
own_requests s r k stage words n q p =
    subst (λ (j : Stage). IsOwnRequest s.consult s.words.items j q) stage (n.requests q (subst (λ ws. IsOwnRequest r.consult ws r.stage q) words p))

-- Those of a script before its first step.
pub fresh_texts : (c : Consult) (bytes : List ℕ) (words : List Chars)
    → c.text.items ≡ bytes
    → c.later.items ≡ []
    → (x : Chars)
    → IsOwnText c words Items x
    → IsItemText bytes x ⊎ IsWordText words x
fresh_texts c bytes words text later x (of_item p) = inl (subst (λ bs. IsItemText bs x) text p)
fresh_texts c bytes words text later x (of_word p) = inr p
fresh_texts c bytes words text later x (of_later p) = absurd (nothing_in x (subst (λ gs. Contains (later_texts gs) x) later p))
fresh_texts c bytes words text later x (at_hand p) = absurd (nothing_in x p)

pub fresh_requests : (c : Consult) (bytes : List ℕ) (words : List Chars)
    → c.text.items ≡ bytes
    → (q : Request)
    → IsOwnRequest c words Items q
    → IsFileRequest bytes q ⊎ IsStartRequest words q
fresh_requests c bytes words text q (of_file p) = inl (subst (λ bs. IsFileRequest bs q) text p)
fresh_requests c bytes words text q (of_start p) = inr p
fresh_requests c bytes words text q (clause_at_hand t e asked) = absurd (let no : ⊥ = cc in no)
fresh_requests c bytes words text q (start_at_hand g p asked) = absurd (no_goal_in_list g p)

-- What is interned from a stage at which no term is at hand.
pub from_bare : (words : List Chars) (c : Consult) (stage then : Stage) (t : Told) (a b : Option (List Chars))
    → stage_texts then ≡ []
    → clause_at then ≡ None
    → goals_at then ≡ []
    → Gains (MayIntern c words then t) a b
    → Gains (MayIntern c words stage t) a b
from_bare words c stage then t a b bare none gone g =
    gains_weaker (MayIntern c words then t) (MayIntern c words stage t) a b
    (λ x. may_later words c c stage then t t x (narrows_bare words c stage then bare none gone) (later_same t t refl)) g

-- A goal of the command is at hand at one stage alone.
pub no_goal_at : (p : Place) (stage : Stage) → can_step stage ≡ true → part_of p stage ≡ Some of_goal → ⊥
no_goal_at p Items can is = let no : ⊥ = cc in no
no_goal_at p (Clause t place ops) can is = let no : ⊥ = cc in no
no_goal_at p (Directive g place) can is = let no : ⊥ = cc in no
no_goal_at p (AtDirective place) can is = let no : ⊥ = cc in no
no_goal_at p (Report place how) can is = let no : ⊥ = cc in no
no_goal_at p Words can is = let no : ⊥ = cc in no
no_goal_at p (Starts ops first goals at) can is = let no : ⊥ = cc in no
no_goal_at p (Goal g) can is = let no : ⊥ = cc in no
no_goal_at p AtGoal can is = let no : ⊥ = cc in no
no_goal_at p Over can is = let no : ⊥ = cc in no
no_goal_at p Lost can is = let no : ⊥ = cc in no

pub no_goal_in : (p : Place) (stage : Stage) (place : ℕ) → stage ≡ AtDirective place → part_of p stage ≡ Some of_goal → ⊥
no_goal_in p stage place is goal =
    let bad : part_of p (AtDirective place) ≡ Some of_goal = subst (λ (k : Stage). part_of p k ≡ Some of_goal) is goal in
    let no : ⊥ = cc in no

-- Of a script that is left where no term is at hand.
left_narrows : (words : List Chars) (c : Consult) (stage final then : Stage)
    → final ≡ then
    → stage_texts then ≡ []
    → clause_at then ≡ None
    → goals_at then ≡ []
    → Narrows words c stage c final
left_narrows words c stage final then is bare none gone =
    narrows_bare words c stage final (ap stage_texts is ∙ bare) (ap clause_at is ∙ none) (ap goals_at is ∙ gone)

pub left_texts : (words : List Chars) (c : Consult) (stage final then : Stage)
    → final ≡ then
    → stage_texts then ≡ []
    → clause_at then ≡ None
    → goals_at then ≡ []
    → (x : Chars)
    → IsOwnText c words final x
    → IsOwnText c words stage x
left_texts words c stage final then is bare none gone = (left_narrows words c stage final then is bare none gone).texts

pub left_requests : (words : List Chars) (c : Consult) (stage final then : Stage)
    → final ≡ then
    → stage_texts then ≡ []
    → clause_at then ≡ None
    → goals_at then ≡ []
    → (q : Request)
    → IsOwnRequest c words final q
    → IsOwnRequest c words stage q
left_requests words c stage final then is bare none gone = (left_narrows words c stage final then is bare none gone).requests
