-- The steps by which the items of the file are taken up.
use Rattle.std.proofs.Common.{◌≡◌, ℕ, List, [], ◌∷◌, Option, Some, None, true, false, refl, sym, ap, ◌∙◌, subst}
use Rattle.std.specs.List.{All}
use Rattle.std.proofs.lemmas.List.Elements.{All-nil}
use Rattle.std.specs.Prelude.{Result, Ok, Err}
use Rattle.std.specs.Arc.{arc_value}
use Rattle.std.specs.declared.alloc.Global.{Global}
use Rattle.std.specs.declared.sync.Arc.{Arc}
use Rattle.pl_term.specs.Tree.{Tree}
use Rattle.pl_model.specs.declared.grammar.Quotes.{Quotes}
use Rattle.pl_model.specs.OperatorTable.{OperatorTable}
use Rattle.pl_model.specs.History.{Clause as ClauseOf}
use Rattle.pl_model.specs.Grammar.{Item as ItemOf, clause, fault, end_of_text}
use Rattle.pl_model.specs.TermGrammar.{item_of}
use Rattle.pl_model.specs.BodyChecks.{clause_of_term}
use Rattle.pl_model.specs.Requests.{look, standing}
use Rattle.run_model.specs.Execution.{Job, Word, bytes_in, Rest, items_from, initialization, Activity, taking, Execution, move, move_by, requests, item_taken, with_item, with_term, with_clause, with_goal, with_line, gone_on, directive_of, initialization_of, behind_fault, syntax_fault, directive_halted, directive_limits, directing, reporting, initializing, searching, over, moves, next_initialization, directive_ended, reported, directive_failed, ball_of_item}
use Rattle.pl_consult.specs.declared.consult.Place.{Place}
use Rattle.pl_consult.specs.declared.consult.Place.TheVariants.{Item as AtItem, Initialization}
use Rattle.pl_consult.specs.declared.consult.Consult.{Consult}
use Rattle.pl_consult.specs.declared.consult.Taken.{Taken}
use Rattle.pl_consult.specs.declared.consult.Taken.TheVariants.{Clause as ClauseTaken, Directive as DirectiveTaken, Passed}
use Rattle.pl_consult.specs.Consults.{rest_of, activity_of, Stands, Does, Took, Initializes}
use Rattle.pl_consult.proofs.ConsultLemmas.{gone_does}
use Rattle.run_model.specs.Lawful.{EndsSo}
use Rattle.pl_model.specs.Balls.{error_ball}
use Rattle.pl_model.specs.Control.{start, consult_proc}
use Rattle.pl_model.specs.Resolution.{Ending, solved, no_more, threw, exited, halted}
use Rattle.pl_model.specs.declared.ends.How.{How}
use Rattle.pl_model.specs.declared.ends.How.TheVariants.{Solved, False, Threw, Exited, Halted, AtomSpace}
use Rattle.script_api.specs.declared.script.Next.{Next}
use Rattle.script_api.specs.declared.script.Next.TheVariants.{Item, Done, NeedsAtoms, Retry, Worn, Memory}
use Rattle.world_api.specs.Told.{Told}
use Rattle.script_api.specs.Parts.{of_goal, of_directive}
use Rattle.script_api.specs.Comes.{ComesIn}
use Rattle.script_api.proofs.ComesLaws.{comes_same, comes_by_move, comes_by_request}
use Rattle.pl_consult.proofs.GrowLaws.{grows_none, grows_line}
use Rattle.pl_consult.specs.declared.stage.Stage.{Stage}
use Rattle.pl_consult.specs.declared.stage.Stage.TheVariants.{Items, Directive, AtDirective, Report, Goal, AtGoal, Over}
use Rattle.pl_consult.specs.declared.stage.Step.{Step}
use Rattle.pl_consult.specs.declared.stage.Step.TheVariants.{Goes, Gives}
use Rattle.pl_consult.specs.Steps.{IsStay, Looked, can_step, IsAfter, activity_in, Fits, SameGoals, SameFile, part_of, After, CameAt, Keeps, Moved, stage_by, stage_for, IsQuiet, step_names, step_refusals, IsTold, ending_of, status_of}

comes_still : (job : Job) (x : Execution) (t u : Told) → u ≡ t → ComesIn job 0 x t x u
comes_still job x t u same = subst (λ (v : Told). ComesIn job 0 x t x v) (sym same) (comes_same job x x t refl)

pub same_goals : (x : Execution) → SameGoals x x
same_goals x = record { words = refl; refusals = refl; output = refl; lines = grows_none x.consulted }

pub same_file : (c : Consult) → SameFile c c
same_file c = record { name = refl; text = refl }

-- The script stays where it is.
pub stayed : (term : Tree → Tree) (c : Consult) (stage : Stage) (t u : Told) (out : List ℕ) (next : Next Tree)
    → IsStay next
    → u ≡ t
    → part_of c.place stage ≡ None
    → Moved term c stage t out (Gives next) c stage u out
stayed term c stage t u out (Item g d) stays same whole job x at = absurd stays
stayed term c stage t u out (Done h) stays same whole job x at = absurd stays
stayed term c stage t u out (NeedsAtoms p) stays same whole job x at = (x, comes_still job x t u same, same_goals x, same_file c, (at, whole))
stayed term c stage t u out (Retry r) stays same whole job x at = (x, comes_still job x t u same, same_goals x, same_file c, (at, whole))
stayed term c stage t u out (Worn w) stays same whole job x at = (x, comes_still job x t u same, same_goals x, same_file c, (at, whole))
stayed term c stage t u out Memory stays same whole job x at = (x, (0, comes_still job x t u same), same_goals x, tt, tt)

-- What an item changes of the goals of the command: nothing.
pub gone_goals : (x y : Execution) (r : Rest) → SameGoals x y → SameGoals x (gone_on y r)
gone_goals x y (items_from at) s = record { words = s.words; refusals = s.refusals; output = s.output; lines = s.lines }
gone_goals x y initialization s = record { words = s.words; refusals = s.refusals; output = s.output; lines = s.lines }

clause_goals : (x : Execution) (ops : OperatorTable) (start next : ℕ) (r : Result ClauseOf Tree) → SameGoals x (with_clause x ops start next r)
clause_goals x ops start next (Ok c) = record { words = refl; refusals = refl; output = refl; lines = grows_none x.consulted }
clause_goals x ops start next (Err e) =
    record { words = refl; refusals = refl; output = refl; lines = grows_line x.consulted (ball_of_item ops start (error_ball e consult_proc)) refl }

goal_goals : (job : Job) (x : Execution) (place next : ℕ) (t : Tree) (o : Option Tree) → SameGoals x (with_goal job x place next t o)
goal_goals job x place next t (Some g) = record { words = refl; refusals = refl; output = refl; lines = grows_none x.consulted }
goal_goals job x place next t None = record { words = refl; refusals = refl; output = refl; lines = grows_none x.consulted }

term_goals : (job : Job) (x : Execution) (ops : OperatorTable) (place next : ℕ) (t : Tree) (o : Option Tree) → SameGoals x (with_term job x ops place next t o)
term_goals job x ops place next t None = clause_goals x ops place next (clause_of_term t)
term_goals job x ops place next t (Some g) = goal_goals job x place next g (initialization_of g)

item_goals : (job : Job) (x : Execution) (ops : OperatorTable) (at : ℕ) (i : ItemOf) → SameGoals x (with_item job x ops at i)
item_goals job x ops at (clause t names place next) = term_goals job x ops place next t (directive_of t)
item_goals job x ops at (fault kind place) =
    gone_goals x (with_line x (syntax_fault kind place)) (behind_fault (bytes_in job.script) at kind)
    (record { words = refl; refusals = refl; output = refl; lines = grows_line x.consulted (syntax_fault kind place) refl })
item_goals job x ops at end_of_text = gone_goals x x initialization (same_goals x)

-- The item that is taken up.
taking_move : (job : Job) (x : Execution) (at : ℕ) → x.activity ≡ taking at → move job x ≡ requests look (item_taken job x at)
unfolding move
taking_move job x at is = ap (move_by job x) is

at_by : (taken : Taken) (job : Job) (d : Consult) (p : Place) (ops : Arc OperatorTable Global) (a : Activity) (ws : List Word)
    → Does taken p job (arc_value ops) a
    → (a ≡ activity_in job p (stage_by taken ops)) × Fits (stage_by taken ops) p ws
at_by (ClauseTaken t place) job d (AtItem next) ops a ws does = (does.0, (tt, does.1))
at_by (ClauseTaken t place) job d Initialization ops a ws does = absurd does
at_by (DirectiveTaken g place) job d p ops a ws does = (does, tt)
at_by Passed job d p ops a ws does = (does, tt)

pub item_moved : (term : Tree → Tree) (c d : Consult) (at : ℕ) (ops : Arc OperatorTable Global) (quotes : Quotes) (taken : Taken) (t u : Told) (out more : List ℕ)
    → c.place ≡ AtItem at
    → Looked t u (arc_value ops) quotes
    → ((job : Job) (x : Execution) → Stands c job x out → Took taken c.name d job (arc_value ops) (item_taken job x at (standing (arc_value ops) quotes)) more)
    → Moved term c Items t out Goes d (stage_by taken ops) u more
item_moved term c d at ops quotes taken t u out more place l took job x here =
    let y : Execution = item_taken job x at (standing (arc_value ops) quotes) in
    let k : Took taken c.name d job (arc_value ops) y more = took job x here.stands in
    let b = at_by taken job d d.place ops y.activity y.words k.1 in (
      y,
      comes_by_request job x look (item_taken job x at) t u l.before (standing (arc_value ops) quotes) l.update
          (taking_move job x at (here.does ∙ ap activity_of place)) l.follows l.served l.told,
      item_goals job x (arc_value ops) at (item_of (bytes_in job.script) at (arc_value ops) quotes),
      record { name = k.2; text = sym k.0.bytes ∙ here.stands.bytes },
      record { stands = k.0; does = b.0; fits = b.1 },
    )

pub item_failed : (term : Tree → Tree) (c d : Consult) (at : ℕ) (ops : OperatorTable) (quotes : Quotes) (stage : Stage) (t u : Told) (out more : List ℕ)
    → c.place ≡ AtItem at
    → Looked t u ops quotes
    → Moved term c Items t out (Gives Memory) d stage u more
item_failed term c d at ops quotes stage t u out more place l job x here = (
  item_taken job x at (standing ops quotes),
  (
    1,
    comes_by_request job x look (item_taken job x at) t u l.before (standing ops quotes) l.update
        (taking_move job x at (here.does ∙ ap activity_of place)) l.follows l.served l.told,
  ),
  item_goals job x ops at (item_of (bytes_in job.script) at ops quotes),
  tt,
  tt,
)

-- The goal of a directive is given.
pub given : (term : Tree → Tree) (c : Consult) (goal kept : Tree) (place : ℕ) (t : Told) (out : List ℕ)
    → term kept ≡ goal
    → Moved term c (Directive goal place) t out (Gives (Item kept true)) c (AtDirective place) t out
given term c goal kept place t out e job x at = (
  x,
  comes_same job x x t refl,
  same_goals x,
  same_file c,
  (of_directive place (rest_of c.place), refl, refl, at.does ∙ ap (λ g. directing place (rest_of c.place) (start (directive_limits job) g)) (sym e), at.stands),
)

-- The goal of the command is given.
pub given_goal : (term : Tree → Tree) (c : Consult) (goal kept : Tree) (t : Told) (out : List ℕ)
    → term kept ≡ goal
    → Moved term c (Goal goal) t out (Gives (Item kept false)) c AtGoal t out
given_goal term c goal kept t out e job x at = (
  x,
  comes_same job x x t refl,
  same_goals x,
  same_file c,
  (of_goal, refl, refl, at.does ∙ ap (λ g. searching (start job.limits g)) (sym e), at.stands),
)

-- The stage after a step.
pub stay_after : (next : Next Tree) (stage : Stage) → IsStay next → can_step stage ≡ true → IsAfter (Gives next) stage
stay_after (Item t d) stage stays can = absurd stays
stay_after (Done h) stage stays can = absurd stays
stay_after (NeedsAtoms p) stage stays can = can
stay_after (Retry r) stage stays can = can
stay_after (Worn w) stage stays can = can
stay_after Memory stage stays can = tt

pub taken_after : (taken : Taken) (ops : Arc OperatorTable Global) → can_step (stage_by taken ops) ≡ true
taken_after (ClauseTaken t place) ops = refl
taken_after (DirectiveTaken goal place) ops = refl
taken_after Passed ops = refl

pub initial_after : (g : Option (ℕ × Tree)) → can_step (stage_for g) ≡ true
initial_after None = refl
initial_after (Some g) = refl

-- The next goal of initialization/1.
initial_goals : (job : Job) (x : Execution) (gs : List (ℕ × Tree)) → SameGoals x (next_initialization job x gs)
initial_goals job x [] = record { words = refl; refusals = refl; output = refl; lines = grows_none x.consulted }
initial_goals job x (g ∷ gs) = record { words = refl; refusals = refl; output = refl; lines = grows_none x.consulted }

initial_move : (job : Job) (x : Execution) → x.activity ≡ initializing → move job x ≡ moves (next_initialization job x x.later)
unfolding move
initial_move job x is = ap (move_by job x) is

initial_at : (g : Option (ℕ × Tree)) (job : Job) (p : Place) (a : Activity) (ws : List Word) → p ≡ Initialization → Initializes g job a
    → (a ≡ activity_in job p (stage_for g)) × Fits (stage_for g) p ws
initial_at None job p a ws place is = (is, tt)
initial_at (Some g) job p a ws place is =
    (is ∙ ap (λ q. directing g.0 (rest_of q) (start (directive_limits job) g.1)) (sym place), tt)

pub initial_moved : (term : Tree → Tree) (c d : Consult) (g : Option (ℕ × Tree)) (t : Told) (out : List ℕ)
    → c.place ≡ Initialization
    → ((job : Job) (x : Execution) (lines : List ℕ) → Stands c job x lines
    → Stands d job (next_initialization job x x.later) lines
    × Initializes g job (next_initialization job x x.later).activity
    × (d.place ≡ c.place) × (d.name ≡ c.name))
    → Moved term c Items t out Goes d (stage_for g) t out
initial_moved term c d g t out place next job x at =
    let y : Execution = next_initialization job x x.later in
    let n = next job x out at.stands in
    let b = initial_at g job d.place y.activity y.words (n.2 ∙ place) n.1 in (
      y,
      comes_by_move job x y t (initial_move job x (at.does ∙ ap activity_of place)),
      initial_goals job x x.later,
      record { name = n.3; text = sym n.0.bytes ∙ at.stands.bytes },
      record { stands = n.0; does = b.0; fits = b.1 },
    )

pub initial_failed : (term : Tree → Tree) (c d : Consult) (stage : Stage) (t : Told) (out : List ℕ)
    → Moved term c Items t out (Gives Memory) d stage t out
initial_failed term c d stage t out job x at = (x, (0, comes_same job x x t refl), same_goals x, tt, tt)

-- The end of a directive.
report_move : (job : Job) (x : Execution) (place : ℕ) (rest : Rest) (how : Ending)
    → x.activity ≡ reporting place rest how
    → move job x ≡ requests look (directive_ended x place rest how)
unfolding move
report_move job x place rest how is = ap (move_by job x) is

reported_goals : (x : Execution) (place : ℕ) (rest : Rest) (e : Ending) (ops : OperatorTable) → SameGoals x (reported x place rest e ops)
reported_goals x place rest solved ops = gone_goals x x rest (same_goals x)
reported_goals x place rest no_more ops = gone_goals x (with_line x (directive_failed place)) rest (record { words = refl; refusals = refl; output = refl; lines = grows_line x.consulted (directive_failed place) refl })
reported_goals x place rest (threw b) ops = gone_goals x (with_line x (ball_of_item ops place b)) rest (record { words = refl; refusals = refl; output = refl; lines = grows_line x.consulted (ball_of_item ops place b) refl })
reported_goals x place rest (exited u) ops = gone_goals x x rest (same_goals x)
reported_goals x place rest (halted n) ops = record { words = refl; refusals = refl; output = refl; lines = grows_line x.consulted (directive_halted place n) refl }

report_by : (term : Tree → Tree) (c : Consult) (place : ℕ) (how : How Tree) (ops : OperatorTable) (quotes : Quotes) (t u : Told) (out more : List ℕ) (stage : Stage) (step : Step)
    → Looked t u ops quotes
    → ((job : Job) (x y : Execution) → ComesIn job 1 x t y u → CameAt step job x t y u)
    → ((job : Job) (x : Execution) → Stands c job x out → IsTold how
    → Keeps term step c c × After term step job c stage (reported x place (rest_of c.place) (ending_of how) ops) more)
    → Moved term c (Report place how) t out step c stage u more
report_by term c place how ops quotes t u out more stage step l came after job x at =
    let y : Execution = reported x place (rest_of c.place) (ending_of how) ops in
    let a = after job x at.stands at.fits in (
      y,
      came job x y
          (comes_by_request job x look (directive_ended x place (rest_of c.place) (ending_of how)) t u l.before (standing ops quotes) l.update
          (report_move job x place (rest_of c.place) (ending_of how) at.does) l.follows l.served l.told),
      reported_goals x place (rest_of c.place) (ending_of how) ops,
      a.0,
      a.1,
    )

told_ends : (how : How Tree) → IsTold how → EndsSo (ending_of how) how
told_ends Solved is = tt
told_ends False is = tt
told_ends (Threw b) is = refl
told_ends (Exited u) is = refl
told_ends (Halted n) is = refl
told_ends (AtomSpace r) is = absurd is

reported_does : (x : Execution) (place : ℕ) (p : Place) (how : How Tree) (ops : OperatorTable)
    → status_of how ≡ None
    → IsTold how
    → (reported x place (rest_of p) (ending_of how) ops).activity ≡ activity_of p
reported_does x place p Solved ops is told = gone_does x p
reported_does x place p False ops is told = gone_does (with_line x (directive_failed place)) p
reported_does x place p (Threw b) ops is told = gone_does (with_line x (ball_of_item ops place b)) p
reported_does x place p (Exited u) ops is told = gone_does x p
reported_does x place p (Halted n) ops is told = absurd (let no : ⊥ = cc in no)
reported_does x place p (AtomSpace r) ops is told = absurd told

halted_does : (x : Execution) (place : ℕ) (rest : Rest) (how : How Tree) (ops : OperatorTable) (n : ℕ)
    → status_of how ≡ Some n
    → (reported x place rest (ending_of how) ops).activity ≡ over (halted n)
halted_does x place rest Solved ops n is = absurd (let no : ⊥ = cc in no)
halted_does x place rest False ops n is = absurd (let no : ⊥ = cc in no)
halted_does x place rest (Threw b) ops n is = absurd (let no : ⊥ = cc in no)
halted_does x place rest (Exited u) ops n is = absurd (let no : ⊥ = cc in no)
halted_does x place rest (Halted m) ops n is = let same : m ≡ n = cc in ap (λ k. over (halted k)) same
halted_does x place rest (AtomSpace r) ops n is = absurd (let no : ⊥ = cc in no)

pub report_goes : (term : Tree → Tree) (c : Consult) (place : ℕ) (how : How Tree) (ops : OperatorTable) (quotes : Quotes) (t u : Told) (out more : List ℕ)
    → Looked t u ops quotes
    → status_of how ≡ None
    → ((job : Job) (x : Execution) (e : Ending) → Stands c job x out → EndsSo e how → Stands c job (reported x place (rest_of c.place) e ops) more)
    → Moved term c (Report place how) t out Goes c Items u more
report_goes term c place how ops quotes t u out more l none put =
    report_by term c place how ops quotes t u out more Items Goes l
    (λ job x y c. c)
    (λ job x s told. (
      same_file c,
      record {
        stands = put job x (ending_of how) s (told_ends how told);
        does = reported_does x place c.place how ops none told;
        fits = tt;
      },
    ))

pub report_halts : (term : Tree → Tree) (c : Consult) (place : ℕ) (how : How Tree) (ops : OperatorTable) (quotes : Quotes) (t u : Told) (out more : List ℕ) (n : ℕ)
    → Looked t u ops quotes
    → status_of how ≡ Some n
    → ((job : Job) (x : Execution) (e : Ending) → Stands c job x out → EndsSo e how → Stands c job (reported x place (rest_of c.place) e ops) more)
    → Moved term c (Report place how) t out (Gives (Done (Some n))) c Over u more
report_halts term c place how ops quotes t u out more n l is put =
    report_by term c place how ops quotes t u out more Over (Gives (Done (Some n))) l
    (λ job x y c. c)
    (λ job x s told. (
      same_file c,
      (halted_does x place (rest_of c.place) how ops n is, refl, put job x (ending_of how) s (told_ends how told)),
    ))

pub report_failed : (term : Tree → Tree) (c : Consult) (place : ℕ) (how : How Tree) (ops : OperatorTable) (quotes : Quotes) (t u : Told) (out more : List ℕ) (stage : Stage)
    → Looked t u ops quotes
    → Moved term c (Report place how) t out (Gives Memory) c stage u more
report_failed term c place how ops quotes t u out more stage l =
    report_by term c place how ops quotes t u out more stage (Gives Memory) l (λ job x y c. (1, c)) (λ job x s told. (tt, tt))

pub quiet_names : (P : ℕ → Type 0) (names : Tree → List ℕ) (s : Step) → IsQuiet s → All P (step_names names s)
quiet_names P names Goes q = All-nil P
quiet_names P names (Gives (Item t d)) q = absurd q
quiet_names P names (Gives (Done h)) q = All-nil P
quiet_names P names (Gives (NeedsAtoms p)) q = absurd q
quiet_names P names (Gives (Retry r)) q = absurd q
quiet_names P names (Gives (Worn w)) q = absurd q
quiet_names P names (Gives Memory) q = All-nil P

pub quiet_refusals : (s : Step) → IsQuiet s → step_refusals s ≡ []
quiet_refusals Goes q = refl
quiet_refusals (Gives (Item t d)) q = absurd q
quiet_refusals (Gives (Done h)) q = refl
quiet_refusals (Gives (NeedsAtoms p)) q = absurd q
quiet_refusals (Gives (Retry r)) q = absurd q
quiet_refusals (Gives (Worn w)) q = absurd q
quiet_refusals (Gives Memory) q = refl
