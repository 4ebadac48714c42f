-- What the start of a further goal is answered, and leads to.
use Rattle.std.proofs.Common.{◌≡◌, ◌⊎◌, inl, inr, ℕ, suc, zero, Bool, true, false, List, [], ◌∷◌, ◌++◌, ◌<◌, drop, get_or, length, Option, Some, None, Ok, Vec, Global, Err, refl, sym, ap, ◌∙◌, subst, append-nil, append_assoc}
use Rattle.std.specs.Prelude.{if◌then◌else◌, nat_le, codes}
use Rattle.std.specs.Arc.{arc_value}
use Rattle.std.specs.declared.sync.Arc.{Arc}
use Rattle.pl_term.specs.Tree.{Chars, Tree, atom}
use Rattle.pl_term.specs.Variables.{rename}
use Rattle.pl_model.specs.OperatorTable.{OperatorTable}
use Rattle.pl_model.specs.History.{Kind, History, start as begins}
use Rattle.pl_model.specs.Requests.{start_goal, done, refused}
use Rattle.pl_model.specs.Requests as requests
use Rattle.pl_model.specs.Service.{answers, waits, refuses, serve, most_updates, served_now}
use Rattle.pl_model.specs.ErrorTerms.{permission_error, resource_error}
use Rattle.pl_model.specs.Threads.{goal_alias, has_engine, is_alias}
use Rattle.pl_model.specs.SharedState.{state_at}
use Rattle.pl_model.specs.Balls.{error_ball}
use Rattle.pl_model.specs.Control.{start, consult_proc}
use Rattle.pl_model.specs.Resolution.{solved}
use Rattle.std.proofs.Math.Seq.{drop-cons}
use Rattle.std.proofs.lemmas.List.{map-append}
use Rattle.run_model.specs.Execution.{Job, consults, Execution, Word, goal_word, faulty_word, Refusal, refusal, starting, searching, over, first_activity, further_goals, goal_started, numbered_goals, move, move_by, moves, requests as asking}
use Rattle.world_api.specs.declared.reply.Reply.{Reply}
use Rattle.world_api.specs.declared.reply.Reply.TheVariants.{Standing, Clauses, Procedures, Flags, Operators, Named, Message, NoMessage, Status, Done, Gone, Refused}
use Rattle.world_api.specs.declared.visit.Visit.TheVariants.{StartGoal}
use Rattle.world_api.specs.declared.answer.Answer.TheVariants.{Served}
use Rattle.world_api.specs.Told.{Told}
use Rattle.world_api.specs.Answers.{Visited}
use Rattle.world_api.specs.Gains.{Gains}
use Rattle.world_api.specs.Asked.{IsInAnswer}
use Rattle.world_api.proofs.Gaining.{gains_weaker}
use Rattle.script_api.specs.Comes.{ComesIn}
use Rattle.script_api.specs.Scripts.{IsReplied, next_names}
use Rattle.std.specs.List.{All}
use Rattle.std.proofs.lemmas.List.Elements.{All-nil}
use Rattle.script_api.specs.declared.script.Next.{Next}
use Rattle.script_api.specs.declared.script.Next.TheVariants.{Item, Done as NextDone, NeedsAtoms, Retry, Worn, Memory}
use Rattle.script_api.proofs.ComesLaws.{comes_same, comes_by_move, comes_by_request}
use Rattle.pl_consult.specs.declared.consult.Consult.{Consult}
use Rattle.pl_consult.specs.declared.stage.Stage.{Stage}
use Rattle.pl_consult.specs.declared.stage.Stage.TheVariants.{Starts}
use Rattle.pl_consult.specs.declared.stage.Step.{Step}
use Rattle.pl_consult.specs.declared.stage.Step.TheVariants.{Goes, Gives}
use Rattle.pl_consult.specs.declared.goal_words.RefusedGoal.{RefusedGoal}
use Rattle.pl_consult.specs.declared.file_script.FileScript.{FileScript}
use Rattle.pl_consult.specs.Steps.{Asked, At, Grows, IsAdded, IsAddition, IsAfter, IsBegun, IsFirst, IsQuiet, IsStay, StartedSo, StartsSo, can_step}
use Rattle.pl_consult.specs.GoalWords.{IsAt, goal_of, refusal_of, refusals_of, word_of, words_of, read_of}
use Rattle.word_board.specs.declared.word.GoalWord.{GoalWord}
use Rattle.word_board.specs.declared.word.GoalWord.TheVariants.{Goal as IsGoal, Faulty}
use Rattle.pl_consult.specs.FileScripts.{FileMoved, Whole}
use Rattle.pl_consult.proofs.AddLaws.{Adds, said}
use Rattle.pl_consult.proofs.FileLaws.{file_moved}
use Rattle.pl_consult.proofs.GrowLaws.{grows_none}
use Rattle.pl_consult.proofs.StepLaws.{stayed}

-- The goal was started, or refused with an error.
three : (b d f : Bool) (x y z : Tree) (k : Kind)
    → Adds (if b then refuses x else (if d then (if f then refuses y else answers done (Some k)) else refuses z))
three true d f x y z k = inr (x, refl)
three false true true x y z k = inr (y, refl)
three false true false x y z k = inl refl
three false false f x y z k = inr (z, refl)

starts : (e goals : ℕ) (h : History) (n : ℕ) (g : Tree) → Adds (served_now e goals h (start_goal n g))
unfolding serve
starts e goals h n g =
    let s = state_at goals h (length h) in
    three (is_alias s.threads (goal_alias n)) (has_engine s.threads) (nat_le most_updates (length h))
    (permission_error (codes "create") (codes "thread") (atom (goal_alias n))) (resource_error (codes "generations")) (resource_error (codes "threads"))
    (begins n (rename zero g) (Some (goal_alias n)))

pub start_serves : (e goals : ℕ) (h : History) (n : ℕ) (g : Tree) → served_now e goals h (start_goal n g) ≡ waits → ⊥
start_serves e goals h n g is = subst Adds is (starts e goals h n g)

start_answers : (e goals : ℕ) (h : History) (n : ℕ) (g : Tree) (reply : requests.Reply) (update : Option Kind)
    → served_now e goals h (start_goal n g) ≡ answers reply update
    → (reply ≡ done) ⊎ ((b : Tree) × (reply ≡ refused b))
start_answers e goals h n g reply update is = subst Adds is (starts e goals h n g)

module _ {K : Type 0} (term : (ℕ → Chars) → Tree → Tree) (key : Tree → K) (text other : ℕ → Chars) where
  pub start_told : (n : ℕ) (kept : Tree) (r : Reply Tree) (g : ℕ) (t : Told) (before : History) (u : Told)
      → Visited term key text other (StartGoal n kept) (Served r g) t before u
      → IsAddition r
  start_told n kept r g t before u v =
      let s = v.1.serves (start_goal n (term text kept)) refl in
      said term key text other r s.0 (start_answers t.engine t.goals before n (term text kept) s.0 v.1.update s.1) s.2

  pub start_started : (n : ℕ) (kept : Tree) (r : Reply Tree) (g : ℕ) (t : Told) (before : History) (u : Told) (a : Option Tree)
      → Visited term key text other (StartGoal n kept) (Served r g) t before u
      → IsAdded r a
      → StartsSo n (term text kept) (term other) (Ok a) t u
  start_started n kept Done g t before u a v is =
      let s = v.1.serves (start_goal n (term text kept)) refl in
      subst (λ (b : Option Tree). StartsSo n (term text kept) (term other) (Ok b) t u) (sym is)
      (record { before = before; update = v.1.update; follows = v.0; served = s.1 ∙ ap (λ (q : requests.Reply). answers q v.1.update) s.2; told = v.1.told })
  start_started n kept (Refused e) g t before u a v is =
      let s = v.1.serves (start_goal n (term text kept)) refl in
      subst (λ (b : Option Tree). StartsSo n (term text kept) (term other) (Ok b) t u) (sym is)
      (record { before = before; update = v.1.update; follows = v.0; served = s.1 ∙ ap (λ (q : requests.Reply). answers q v.1.update) s.2; told = v.1.told })
  start_started n kept (Standing o q) g t before u a v is = absurd is
  start_started n kept (Clauses f) g t before u a v is = absurd is
  start_started n kept (Procedures ps) g t before u a v is = absurd is
  start_started n kept (Flags fs) g t before u a v is = absurd is
  start_started n kept (Operators os) g t before u a v is = absurd is
  start_started n kept (Named m) g t before u a v is = absurd is
  start_started n kept (Message m) g t before u a v is = absurd is
  start_started n kept NoMessage g t before u a v is = absurd is
  start_started n kept (Status m) g t before u a v is = absurd is
  start_started n kept Gone g t before u a v is = absurd is

  -- What is interned for it is handed of the reply.
  pub visit_asked : (n : ℕ) (kept : Tree) (t : Told) (old new : Option (List Chars))
      → Gains (IsInAnswer term key text (StartGoal n kept) t) old new
      → Gains (IsReplied (λ q. q ≡ start_goal n (term text kept)) t) old new
  visit_asked n kept t old new g =
      gains_weaker (IsInAnswer term key text (StartGoal n kept) t) (IsReplied (λ q. q ≡ start_goal n (term text kept)) t) old new
      (λ x a.
      record {
        before = a.before;
        later = a.follows.later;
        follows = a.follows.grown;
        request = start_goal n (term text kept);
        is = refl;
        stands = a.stands (start_goal n (term text kept)) refl;
      })
      g

-- The moves of the execution.
start_move : (job : Job) (x : Execution) (ops : OperatorTable) (n : ℕ) (g : Tree) (gs : List (ℕ × Tree))
    → x.activity ≡ starting ops ((n, g) ∷ gs)
    → move job x ≡ asking (start_goal n g) (goal_started x ops n gs)
unfolding move
start_move job x ops n g gs is = ap (move_by job x) is

last_move : (job : Job) (x : Execution) (ops : OperatorTable)
    → x.activity ≡ starting ops []
    → move job x ≡ moves (record x { activity = first_activity job x.words })
unfolding move
last_move job x ops is = ap (move_by job x) is

comes_start : (job : Job) (x : Execution) (ops : OperatorTable) (n : ℕ) (g : Tree) (gs : List (ℕ × Tree)) (t u : Told) (reply : requests.Reply)
    → x.activity ≡ starting ops ((n, g) ∷ gs)
    → Asked t u (start_goal n g) reply
    → ComesIn job 1 x t (goal_started x ops n gs reply) u
comes_start job x ops n g gs t u reply is l =
    comes_by_request job x (start_goal n g) (goal_started x ops n gs) t u l.before reply l.update (start_move job x ops n g gs is) l.follows l.served l.told

-- A start writes nothing of the file.
started_grows : (x : Execution) (ops : OperatorTable) (n : ℕ) (gs : List (ℕ × Tree)) (reply : requests.Reply) → Grows x.consulted (goal_started x ops n gs reply).consulted
started_grows x ops n gs (refused e) = grows_none x.consulted
started_grows x ops n gs reply = grows_none x.consulted

module _ (term : Tree → Tree) (name : Chars) (s : FileScript) (ops : Arc OperatorTable Global) (first : Option Tree) (goals : Vec (ℕ × Tree) Global) (at : ℕ) (out : List ℕ) where
  does_at : (job : Job) (x : Execution) (n : ℕ) (g : Tree)
      → IsAt at n g goals.items
      → At job s.consult (Starts ops first goals at) x out
      → x.activity ≡ starting (arc_value ops) ((n, g) ∷ drop (suc at) goals.items)
  does_at job x n g is here = here.does ∙ ap (starting (arc_value ops)) is

  -- The goal was started.
  pub started_goes : (n : ℕ) (g : Tree) (t u : Told)
      → IsAt at n g goals.items
      → Asked t u (start_goal n g) done
      → FileMoved term name s (Starts ops first goals at) t out Goes s (Starts ops first goals (suc at)) u out
  started_goes n g t u is l job x runs = (
    record x { activity = starting (arc_value ops) (drop (suc at) goals.items) },
    comes_start job x (arc_value ops) n g (drop (suc at) goals.items) t u done (does_at job x n g is runs.at) l,
    grows_none x.consulted,
    (
      record {
        script = runs.whole.script;
        name_is = runs.whole.name_is;
        words_are = runs.whole.words_are;
        refusals = runs.whole.refusals;
        output = runs.whole.output;
      },
      record {
        stands = record { bytes = runs.at.stands.bytes; later = runs.at.stands.later; lines = runs.at.stands.lines };
        does = refl;
        fits = runs.at.fits;
      },
    ),
  )

  -- It is refused, and the refusal is kept.
  pub refused_goes : (n : ℕ) (g e : Tree) (r : FileScript) (k : RefusedGoal) (t u : Told)
      → IsAt at n g goals.items
      → Asked t u (start_goal n g) (refused e)
      → refusal_of k ≡ refusal n e (arc_value ops)
      → r.consult ≡ s.consult
      → r.words.items ≡ s.words.items
      → read_of r.read ≡ read_of s.read
      → r.refused.items ≡ s.refused.items ++ k ∷ []
      → FileMoved term name s (Starts ops first goals at) t out Goes r (Starts ops first goals (suc at)) u out
  refused_goes n g e r k t u is l kept file words read also job x runs =
      let y : Execution =
      record x { activity = starting (arc_value ops) (drop (suc at) goals.items); refusals = x.refusals ++ refusal n e (arc_value ops) ∷ [] } in (
        y,
        comes_start job x (arc_value ops) n g (drop (suc at) goals.items) t u (requests.refused e) (does_at job x n g is runs.at) l,
        grows_none x.consulted,
        (
          record {
            script =
                runs.whole.script
                ∙ ap (λ (c : Consult). consults c.text.items s.words.items) (sym file)
                ∙ ap (λ ws. consults r.consult.text.items ws) (sym words);
            name_is = ap (λ (c : Consult). c.name) file ∙ runs.whole.name_is;
            words_are = runs.whole.words_are ∙ ap words_of (sym read);
            refusals =
                ap (λ rs. rs ++ refusal n e (arc_value ops) ∷ []) runs.whole.refusals
                ∙ ap (λ (f : Refusal). refusals_of s.refused.items ++ f ∷ []) (sym kept)
                ∙ sym (map-append refusal_of s.refused.items (k ∷ []))
                ∙ ap refusals_of (sym also);
            output = runs.whole.output;
          },
          subst (λ (c : Consult). At job c (Starts ops first goals (suc at)) y out) (sym file)
              (record {
                stands = record { bytes = runs.at.stands.bytes; later = runs.at.stands.later; lines = runs.at.stands.lines };
                does = refl;
                fits = runs.at.fits;
              }),
        ),
      )

  -- There was no memory, or memory ran out after the call.
  pub asked_failed : (n : ℕ) (g : Tree) (reply : requests.Reply) (r : FileScript) (stage : Stage) (t u : Told)
      → IsAt at n g goals.items
      → Asked t u (start_goal n g) reply
      → FileMoved term name s (Starts ops first goals at) t out (Gives Memory) r stage u out
  asked_failed n g reply r stage t u is l job x runs = (
    goal_started x (arc_value ops) n (drop (suc at) goals.items) reply,
    (1, comes_start job x (arc_value ops) n g (drop (suc at) goals.items) t u reply (does_at job x n g is runs.at) l),
    started_grows x (arc_value ops) n (drop (suc at) goals.items) reply,
    tt,
  )

  pub start_failed : (r : FileScript) (stage : Stage) (t u : Told)
      → u ≡ t
      → FileMoved term name s (Starts ops first goals at) t out (Gives Memory) r stage u out
  start_failed r stage t u same job x runs =
      (x, (0, subst (λ (v : Told). ComesIn job 0 x t x v) (sym same) (comes_same job x x t refl)), grows_none x.consulted, tt)

-- All goals were started.
comes_last : (job : Job) (x : Execution) (ops : OperatorTable) (gs : List (ℕ × Tree)) (t : Told)
    → gs ≡ []
    → x.activity ≡ starting ops gs
    → ComesIn job 1 x t (record x { activity = first_activity job x.words }) t
comes_last job x ops gs t none is =
    comes_by_move job x (record x { activity = first_activity job x.words }) t (last_move job x ops (is ∙ ap (starting ops) none))

first_none : (job : Job) (ws : List Word) → IsFirst None ws → first_activity job ws ≡ over solved
first_none job [] is = refl
first_none job (goal_word t names ∷ ws) is = absurd (let no : ⊥ = cc in no)
first_none job (faulty_word kind at ∷ ws) is = refl

first_some : (job : Job) (t : Tree) (ws : List Word) → IsFirst (Some t) ws → first_activity job ws ≡ searching (start job.limits t)
first_some job t [] is = absurd (let no : ⊥ = cc in no)
first_some job t (goal_word u names ∷ ws) is = let same : u ≡ t = cc in ap (λ v. searching (start job.limits v)) same
first_some job t (faulty_word kind at ∷ ws) is = absurd (let no : ⊥ = cc in no)

last_whole : (job : Job) (name : Chars) (s : FileScript) (x : Execution)
    → Whole job name s x
    → Whole job name s (record x { activity = first_activity job x.words })
last_whole job name s x w =
    record { script = w.script; name_is = w.name_is; words_are = w.words_are; refusals = w.refusals; output = w.output }

pub begun_moved : (term : Tree → Tree) (name : Chars) (s : FileScript) (ops : Arc OperatorTable Global) (first : Option Tree) (goals : Vec (ℕ × Tree) Global) (at : ℕ) (out : List ℕ) (stage : Stage) (step : Step) (t : Told)
    → drop at goals.items ≡ []
    → IsBegun first stage step
    → FileMoved term name s (Starts ops first goals at) t out step s stage t out
begun_moved term name s ops None goals at out stage step t end is =
    subst (λ (p : Step). FileMoved term name s (Starts ops None goals at) t out p s stage t out) (sym is.1)
    (subst (λ (d : Stage). FileMoved term name s (Starts ops None goals at) t out (Gives (NextDone None)) s d t out) (sym is.0)
    (λ job x runs. (
      record x { activity = first_activity job x.words },
      comes_last job x (arc_value ops) (drop at goals.items) t end runs.at.does,
      grows_none x.consulted,
      (
        last_whole job name s x runs.whole,
        (
          first_none job x.words runs.at.fits,
          refl,
          record { bytes = runs.at.stands.bytes; later = runs.at.stands.later; lines = runs.at.stands.lines },
        ),
      ),
    )))
begun_moved term name s ops (Some g) goals at out stage step t end is =
    subst (λ (p : Step). FileMoved term name s (Starts ops (Some g) goals at) t out p s stage t out) (sym is.1)
    (subst (λ (d : Stage). FileMoved term name s (Starts ops (Some g) goals at) t out Goes s d t out) (sym is.0)
    (λ job x runs. (
      record x { activity = first_activity job x.words },
      comes_last job x (arc_value ops) (drop at goals.items) t end runs.at.does,
      grows_none x.consulted,
      (
        last_whole job name s x runs.whole,
        record {
          stands = record { bytes = runs.at.stands.bytes; later = runs.at.stands.later; lines = runs.at.stands.lines };
          does = first_some job g x.words runs.at.fits;
          fits = tt;
        },
      ),
    )))

pub begun_after : (first : Option Tree) (stage : Stage) (step : Step) → IsBegun first stage step → IsAfter step stage
begun_after None stage step is = subst (λ (p : Step). IsAfter p stage) (sym is.1) is.0
begun_after (Some t) stage step is =
    subst (λ (p : Step). IsAfter p stage) (sym is.1) (subst (λ (d : Stage). IsAfter Goes d) (sym is.0) refl)

-- The goals of words.
pub goals_first : (n : ℕ) (w : GoalWord) (ws : List GoalWord) → numbered_goals n (words_of (w ∷ ws)) ≡ goal_of n (word_of w) ++ numbered_goals (suc n) (words_of ws)
goals_first n (IsGoal t names) ws = refl
goals_first n (Faulty f) ws = refl

pub goals_start : (ws : List GoalWord) → numbered_goals 2 (words_of (drop 1 ws)) ≡ further_goals (words_of ws)
goals_start [] = refl
goals_start (w ∷ ws) = refl

-- One word more.
pub goals_more : (all : List GoalWord) (i : ℕ) (w : GoalWord) (old new : List (ℕ × Tree))
    → drop i all ≡ w ∷ drop (suc i) all
    → new ≡ old ++ goal_of (suc i) (word_of w)
    → old ++ numbered_goals (suc i) (words_of (drop i all)) ≡ further_goals (words_of all)
    → new ++ numbered_goals (suc (suc i)) (words_of (drop (suc i) all)) ≡ further_goals (words_of all)
goals_more all i w old new at put so =
    ap (λ gs. gs ++ numbered_goals (suc (suc i)) (words_of (drop (suc i) all))) put
    ∙ append_assoc old (goal_of (suc i) (word_of w)) (numbered_goals (suc (suc i)) (words_of (drop (suc i) all)))
    ∙ ap (λ gs. old ++ gs) (sym (goals_first (suc i) w (drop (suc i) all)))
    ∙ ap (λ ws. old ++ numbered_goals (suc i) (words_of ws)) (sym at)
    ∙ so

-- The goal at a place of the list.
pub goal_at : (gs : List (ℕ × Tree)) (at : ℕ) (x : ℕ × Tree) → at < length gs → x ≡ get_or gs at x → IsAt at x.0 x.1 gs
goal_at gs at x low is = drop-cons gs at x low ∙ ap (λ (g : ℕ × Tree). g ∷ drop (suc at) gs) (sym is)

pub goals_all : (all : List GoalWord) (i : ℕ) (gs : List (ℕ × Tree))
    → drop i all ≡ []
    → gs ++ numbered_goals (suc i) (words_of (drop i all)) ≡ further_goals (words_of all)
    → gs ≡ further_goals (words_of all)
goals_all all i gs none so =
    sym (append-nil gs) ∙ ap (λ ws. gs ++ numbered_goals (suc i) (words_of ws)) (sym none) ∙ so

-- What the start of a goal that is kept so comes to.
pub started_none : (n : ℕ) (k g : Tree) (term : Tree → Tree) (t u : Told)
    → k ≡ g
    → StartsSo n k term (Ok None) t u
    → StartedSo n g (Ok None) t u
started_none n k g term t u same l = subst (λ (h : Tree). Asked t u (start_goal n h) done) same l

pub started_some : (n : ℕ) (k g e b : Tree) (term : Tree → Tree) (t u : Told)
    → k ≡ g
    → StartsSo n k term (Ok (Some e)) t u
    → b ≡ error_ball (term e) consult_proc
    → StartedSo n g (Ok (Some b)) t u
started_some n k g e b term t u same l is = (term e, subst (λ (h : Tree). Asked t u (start_goal n h) (refused (term e))) same l, is)

pub started_lost : (n : ℕ) (k g e : Tree) (term : Tree → Tree) (t u : Told)
    → k ≡ g
    → StartsSo n k term (Ok (Some e)) t u
    → StartedSo n g (Err Memory) t u
started_lost n k g e term t u same l = inr (refused (term e), subst (λ (h : Tree). Asked t u (start_goal n h) (refused (term e))) same l)

pub started_stays : (n : ℕ) (g : Tree) (next : Next Tree) (t u : Told) → IsStay next → u ≡ t → StartedSo n g (Err next) t u
started_stays n g (Item i d) t u stays same = absurd stays
started_stays n g (NextDone h) t u stays same = absurd stays
started_stays n g (NeedsAtoms p) t u stays same = (stays, same)
started_stays n g (Retry c) t u stays same = (stays, same)
started_stays n g (Worn w) t u stays same = (stays, same)
started_stays n g Memory t u stays same = inl same

-- Where a start was not served, the script stays where it is.
pub start_stays : (term : Tree → Tree) (name : Chars) (s : FileScript) (ops : Arc OperatorTable Global) (first : Option Tree) (goals : Vec (ℕ × Tree) Global) (at n : ℕ) (g : Tree) (next : Next Tree) (t u : Told) (out : List ℕ)
    → IsAt at n g goals.items
    → StartedSo n g (Err next) t u
    → FileMoved term name s (Starts ops first goals at) t out (Gives next) s (Starts ops first goals at) u out
start_stays term name s ops first goals at n g (Item i d) t u out is l = absurd l.0
start_stays term name s ops first goals at n g (NextDone h) t u out is l = absurd l.0
start_stays term name s ops first goals at n g (NeedsAtoms p) t u out is l =
    file_moved term name s s (Starts ops first goals at) (Starts ops first goals at) t u out out (Gives (NeedsAtoms p)) refl refl refl
    (stayed term s.consult (Starts ops first goals at) t u out (NeedsAtoms p) l.0 l.1 refl)
start_stays term name s ops first goals at n g (Retry c) t u out is l =
    file_moved term name s s (Starts ops first goals at) (Starts ops first goals at) t u out out (Gives (Retry c)) refl refl refl
    (stayed term s.consult (Starts ops first goals at) t u out (Retry c) l.0 l.1 refl)
start_stays term name s ops first goals at n g (Worn w) t u out is l =
    file_moved term name s s (Starts ops first goals at) (Starts ops first goals at) t u out out (Gives (Worn w)) refl refl refl
    (stayed term s.consult (Starts ops first goals at) t u out (Worn w) l.0 l.1 refl)
start_stays term name s ops first goals at n g Memory t u out is (inl same) = start_failed term name s ops first goals at out s (Starts ops first goals at) t u same
start_stays term name s ops first goals at n g Memory t u out is (inr l) =
    asked_failed term name s ops first goals at out n g l.0 s (Starts ops first goals at) t u is l.1

pub start_after : (n : ℕ) (g : Tree) (next : Next Tree) (t u : Told) (stage : Stage) → StartedSo n g (Err next) t u → can_step stage ≡ true → IsAfter (Gives next) stage
start_after n g (Item i d) t u stage l can = absurd l.0
start_after n g (NextDone h) t u stage l can = absurd l.0
start_after n g (NeedsAtoms p) t u stage l can = can
start_after n g (Retry c) t u stage l can = can
start_after n g (Worn w) t u stage l can = can
start_after n g Memory t u stage l can = tt

-- Such an answer is no item.
pub start_names : (P : ℕ → Type 0) (names : Tree → List ℕ) (n : ℕ) (g : Tree) (next : Next Tree) (t u : Told) → StartedSo n g (Err next) t u → All P (next_names names next)
start_names P names n g (Item i d) t u l = absurd l.0
start_names P names n g (NextDone h) t u l = All-nil P
start_names P names n g (NeedsAtoms p) t u l = All-nil P
start_names P names n g (Retry c) t u l = All-nil P
start_names P names n g (Worn w) t u l = All-nil P
start_names P names n g Memory t u l = All-nil P

-- A goal that is refused so is kept so.
pub refused_kept : (n : ℕ) (e b : Tree) (ops : OperatorTable) (k : RefusedGoal)
    → refusal_of k ≡ record { number = n; ball = b; operators = ops }
    → b ≡ error_ball e consult_proc
    → refusal_of k ≡ refusal n e ops
refused_kept n e b ops k kept is = kept ∙ ap (λ (x : Tree). let r : Refusal = record { number = n; ball = x; operators = ops } in r) is

-- The step after a start.
pub started_after : (ops : Arc OperatorTable Global) (first : Option Tree) (goals : Vec (ℕ × Tree) Global) (at : ℕ) (stage : Stage) (step : Step)
    → stage ≡ Starts ops first goals at
    → step ≡ Goes
    → IsAfter step stage
started_after ops first goals at stage step is goes =
    subst (λ (p : Step). IsAfter p stage) (sym goes) (subst (λ (k : Stage). IsAfter Goes k) (sym is) refl)

pub started_quiet : (step : Step) → step ≡ Goes → IsQuiet step
started_quiet step goes = subst IsQuiet (sym goes) tt
