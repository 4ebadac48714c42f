-- What the adding of a clause of the file is answered, and leads to.
use Rattle.std.proofs.Common.{◌≡◌, ◌⊎◌, inl, inr, ℕ, zero, Bool, true, false, List, [], length, Option, Some, Ok, refl, sym, ap, ◌∙◌, subst}
use Rattle.std.specs.Prelude.{if◌then◌else◌, nat_le, codes}
use Rattle.std.specs.Arc.{arc_value}
use Rattle.std.specs.declared.alloc.Global.{Global}
use Rattle.std.specs.declared.sync.Arc.{Arc}
use Rattle.pl_term.specs.Tree.{Chars, Tree}
use Rattle.pl_term.specs.Variables.{rename}
use Rattle.pl_model.specs.OperatorTable.{OperatorTable}
use Rattle.pl_model.specs.History.{Kind, History, Clause as ClauseOf, add_last, consult}
use Rattle.pl_model.specs.Requests.{consult_clause, done, refused}
use Rattle.pl_model.specs.Requests as requests
use Rattle.pl_model.specs.Service.{Served as ServedSo, answers, waits, refuses, serve, most_updates, clause_cells, served_now}
use Rattle.pl_model.specs.Predicates.{proc_of}
use Rattle.pl_model.specs.Errors.{static_procedure}
use Rattle.pl_model.specs.ErrorTerms.{resource_error}
use Rattle.pl_model.specs.Database.{is_system, has_room}
use Rattle.pl_model.specs.SharedState.{state_at}
use Rattle.run_model.specs.Execution.{Job, Execution, adding, move, move_by, requests as asking, clause_added, gone_on, items_from, with_line, ball_of_item}
use Rattle.pl_consult.specs.declared.consult.Place.{Place}
use Rattle.pl_consult.specs.declared.consult.Place.TheVariants.{Item as AtItem, Initialization}
use Rattle.pl_consult.specs.declared.consult.Consult.{Consult}
use Rattle.pl_consult.specs.Checks.{kept_clause}
use Rattle.pl_consult.specs.Consults.{activity_of, Stands}
use Rattle.pl_consult.proofs.ConsultLemmas.{gone_stands}
use Rattle.world_api.specs.declared.reply.Reply.{Reply}
use Rattle.world_api.specs.declared.reply.Reply.TheVariants.{Standing, Clauses, Procedures, Flags, Operators, Named, Message, NoMessage, Status, Done, Gone, Refused}
use Rattle.world_api.specs.declared.visit.Visit.TheVariants.{Consult as ConsultVisit}
use Rattle.world_api.specs.declared.answer.Answer.TheVariants.{Served}
use Rattle.world_api.specs.Visits.{clause_in}
use Rattle.world_api.specs.Told.{Told}
use Rattle.std.specs.List.{All}
use Rattle.std.proofs.lemmas.List.Elements.{All-nil, All-same}
use Rattle.world_api.specs.Replies.{Says, reply_names}
use Rattle.world_api.specs.Answers.{Visited}
use Rattle.world_api.specs.Gains.{Gains}
use Rattle.world_api.specs.Asked.{IsInAnswer}
use Rattle.script_api.specs.Comes.{ComesIn}
use Rattle.script_api.specs.Scripts.{IsReplied}
use Rattle.world_api.proofs.Gaining.{gains_weaker}
use Rattle.script_api.proofs.ComesLaws.{comes_by_request}
use Rattle.pl_consult.specs.declared.stage.Stage.{Stage}
use Rattle.pl_consult.specs.declared.stage.Stage.TheVariants.{Items, Clause}
use Rattle.pl_consult.specs.declared.stage.Step.{Step}
use Rattle.pl_consult.specs.declared.stage.Step.TheVariants.{Goes, Gives}
use Rattle.script_api.specs.declared.script.Next.TheVariants.{Memory}
use Rattle.pl_model.specs.Balls.{error_ball}
use Rattle.pl_model.specs.Control.{consult_proc}
use Rattle.pl_consult.specs.Steps.{Asked, AddedSo, IsAddition, IsAdded, added_names, IsItem, SameGoals, Keeps, After, CameAt, Moved, next_of}
use Rattle.pl_consult.proofs.GrowLaws.{grows_line}
use Rattle.pl_consult.proofs.StepLaws.{same_file, same_goals, gone_goals}

-- The clause was added, or refused with an error.
abbrev pub Adds : ServedSo → Type 0
Adds (answers r k) = (r ≡ done) ⊎ ((e : Tree) × (r ≡ refused e))
Adds waits = ⊥

three : (b d f : Bool) (x y z : Tree) (k : Kind)
    → Adds (if b then refuses x else (if d then (if f then refuses y else answers done (Some k)) else refuses z))
three true d f x y z k = inr (x, refl)
three false true true x y z k = inr (y, refl)
three false true false x y z k = inl refl
three false false f x y z k = inr (z, refl)

adds : (e goals : ℕ) (h : History) (c : ClauseOf) → Adds (served_now e goals h (consult_clause c))
unfolding serve
adds e goals h c =
    let s = state_at goals h (length h) in
    three (is_system (proc_of c.head)) (has_room clause_cells c s.database) (nat_le most_updates (length h)) (static_procedure (proc_of c.head)) (resource_error (codes "generations")) (resource_error (codes "database")) (add_last (proc_of c.head) c consult)

pub add_serves : (e goals : ℕ) (h : History) (c : ClauseOf) → served_now e goals h (consult_clause c) ≡ waits → ⊥
add_serves e goals h c is = subst Adds is (adds e goals h c)

add_answers : (e goals : ℕ) (h : History) (c : ClauseOf) (reply : requests.Reply) (update : Option Kind)
    → served_now e goals h (consult_clause c) ≡ answers reply update
    → (reply ≡ done) ⊎ ((b : Tree) × (reply ≡ refused b))
add_answers e goals h c reply update is = subst Adds is (adds e goals h c)

module _ {K : Type 0} (term : (ℕ → Chars) → Tree → Tree) (key : Tree → K) (text other : ℕ → Chars) where
  said_done : (r : Reply Tree) → Says term other r done → IsAddition r
  said_done (Standing o q) says = absurd (let no : ⊥ = cc in no)
  said_done (Clauses f) says = absurd says
  said_done (Procedures ps) says = absurd (let no : ⊥ = cc in no)
  said_done (Flags fs) says = absurd (let no : ⊥ = cc in no)
  said_done (Operators os) says = absurd says
  said_done (Named n) says = absurd (let no : ⊥ = cc in no)
  said_done (Message t) says = absurd (let no : ⊥ = cc in no)
  said_done NoMessage says = absurd (let no : ⊥ = cc in no)
  said_done (Status t) says = absurd (let no : ⊥ = cc in no)
  said_done Done says = tt
  said_done Gone says = absurd (let no : ⊥ = cc in no)
  said_done (Refused e) says = tt

  said_refused : (r : Reply Tree) (b : Tree) → Says term other r (refused b) → IsAddition r
  said_refused (Standing o q) b says = absurd (let no : ⊥ = cc in no)
  said_refused (Clauses f) b says = absurd says
  said_refused (Procedures ps) b says = absurd (let no : ⊥ = cc in no)
  said_refused (Flags fs) b says = absurd (let no : ⊥ = cc in no)
  said_refused (Operators os) b says = absurd says
  said_refused (Named n) b says = absurd (let no : ⊥ = cc in no)
  said_refused (Message t) b says = absurd (let no : ⊥ = cc in no)
  said_refused NoMessage b says = absurd (let no : ⊥ = cc in no)
  said_refused (Status t) b says = absurd (let no : ⊥ = cc in no)
  said_refused Done b says = tt
  said_refused Gone b says = absurd (let no : ⊥ = cc in no)
  said_refused (Refused e) b says = tt

  pub said : (r : Reply Tree) (reply : requests.Reply) → (reply ≡ done) ⊎ ((b : Tree) × (reply ≡ refused b)) → Says term other r reply → IsAddition r
  said r reply (inl e) says = said_done r (subst (λ (q : requests.Reply). Says term other r q) e says)
  said r reply (inr p) says = said_refused r p.0 (subst (λ (q : requests.Reply). Says term other r q) p.1 says)

  pub add_told : (kept : Tree) (r : Reply Tree) (g : ℕ) (t : Told) (before : History) (u : Told)
      → Visited term key text other (ConsultVisit kept) (Served r g) t before u
      → IsAddition r
  add_told kept r g t before u v =
      let s = v.1.serves (consult_clause (clause_in (term text kept))) refl in
      said r s.0 (add_answers t.engine t.goals before (clause_in (term text kept)) s.0 v.1.update s.1) s.2

  pub add_added : (kept : Tree) (r : Reply Tree) (g : ℕ) (t : Told) (before : History) (u : Told) (a : Option Tree)
      → Visited term key text other (ConsultVisit kept) (Served r g) t before u
      → IsAdded r a
      → AddedSo (term text kept) (term other) (Ok a) t u
  add_added kept Done g t before u a v is =
      let s = v.1.serves (consult_clause (clause_in (term text kept))) refl in
      subst (λ (b : Option Tree). AddedSo (term text kept) (term other) (Ok b) t u) (sym is)
      (record { before = before; update = v.1.update; follows = v.0; served = s.1 ∙ ap (λ (q : requests.Reply). answers q v.1.update) s.2; told = v.1.told })
  add_added kept (Refused e) g t before u a v is =
      let s = v.1.serves (consult_clause (clause_in (term text kept))) refl in
      subst (λ (b : Option Tree). AddedSo (term text kept) (term other) (Ok b) t u) (sym is)
      (record { before = before; update = v.1.update; follows = v.0; served = s.1 ∙ ap (λ (q : requests.Reply). answers q v.1.update) s.2; told = v.1.told })
  add_added kept (Standing o q) g t before u a v is = absurd is
  add_added kept (Clauses f) g t before u a v is = absurd is
  add_added kept (Procedures ps) g t before u a v is = absurd is
  add_added kept (Flags fs) g t before u a v is = absurd is
  add_added kept (Operators os) g t before u a v is = absurd is
  add_added kept (Named n) g t before u a v is = absurd is
  add_added kept (Message m) g t before u a v is = absurd is
  add_added kept NoMessage g t before u a v is = absurd is
  add_added kept (Status m) g t before u a v is = absurd is
  add_added kept Gone g t before u a v is = absurd is

  -- What is interned for it is handed of the reply.
  pub add_asked : (kept : Tree) (t : Told) (old new : Option (List Chars))
      → Gains (IsInAnswer term key text (ConsultVisit kept) t) old new
      → Gains (IsReplied (λ q. q ≡ consult_clause (clause_in (term text kept))) t) old new
  add_asked kept t old new g =
      gains_weaker (IsInAnswer term key text (ConsultVisit kept) t) (IsReplied (λ q. q ≡ consult_clause (clause_in (term text kept))) t) old new
      (λ x a.
      record {
        before = a.before;
        later = a.follows.later;
        follows = a.follows.grown;
        request = consult_clause (clause_in (term text kept));
        is = refl;
        stands = a.stands (consult_clause (clause_in (term text kept))) refl;
      })
      g

-- The clause of an item is added or refused.
adding_move : (job : Job) (x : Execution) (ops : OperatorTable) (place next : ℕ) (clause kept : Tree)
    → x.activity ≡ adding ops place next (kept_clause clause)
    → kept ≡ clause
    → move job x ≡ asking (consult_clause (clause_in kept)) (clause_added x ops place next)
unfolding move
adding_move job x ops place next clause kept is same =
    ap (move_by job x) is ∙ ap (λ k. asking (consult_clause (kept_clause k)) (clause_added x ops place next)) (sym same)

gone_to : (x : Execution) (p : Place) → IsItem p → (gone_on x (items_from (next_of p))).activity ≡ activity_of p
gone_to x (AtItem next) is = refl
gone_to x Initialization is = absurd is

add_by : (term : Tree → Tree) (c : Consult) (clause kept : Tree) (place : ℕ) (ops : Arc OperatorTable Global) (t u : Told) (out more : List ℕ) (reply : requests.Reply) (stage : Stage) (step : Step)
    → kept ≡ rename zero clause
    → Asked t u (consult_clause (clause_in kept)) reply
    → ((x : Execution) → SameGoals x (clause_added x (arc_value ops) place (next_of c.place) reply))
    → ((job : Job) (x y : Execution) → ComesIn job 1 x t y u → CameAt step job x t y u)
    → ((job : Job) (x : Execution) → Stands c job x out → IsItem c.place
    → Keeps term step c c × After term step job c stage (clause_added x (arc_value ops) place (next_of c.place) reply) more)
    → Moved term c (Clause clause place ops) t out step c stage u more
add_by term c clause kept place ops t u out more reply stage step renamed l goals came after job x at =
    let a = after job x at.stands at.fits.0 in (
      clause_added x (arc_value ops) place (next_of c.place) reply,
      came job x (clause_added x (arc_value ops) place (next_of c.place) reply)
          (comes_by_request job x (consult_clause (clause_in kept)) (clause_added x (arc_value ops) place (next_of c.place)) t u l.before reply l.update
          (adding_move job x (arc_value ops) place (next_of c.place) clause kept at.does (renamed ∙ at.fits.1)) l.follows l.served l.told),
      goals x,
      a.0,
      a.1,
    )

pub add_goes : (term : Tree → Tree) (c : Consult) (clause kept : Tree) (place : ℕ) (ops : Arc OperatorTable Global) (t u : Told) (out : List ℕ)
    → kept ≡ rename zero clause
    → Asked t u (consult_clause (clause_in kept)) done
    → Moved term c (Clause clause place ops) t out Goes c Items u out
add_goes term c clause kept place ops t u out renamed l =
    add_by term c clause kept place ops t u out out done Items Goes renamed l
    (λ x. gone_goals x x (items_from (next_of c.place)) (same_goals x))
    (λ job x y c. c)
    (λ job x s is. (
      same_file c,
      record {
        stands = gone_stands c job x (items_from (next_of c.place)) out s;
        does = gone_to x c.place is;
        fits = tt;
      },
    ))

refused_goals : (x : Execution) (ops : OperatorTable) (place next : ℕ) (e : Tree) → SameGoals x (clause_added x ops place next (refused e))
refused_goals x ops place next e =
    gone_goals x (with_line x (ball_of_item ops place (error_ball e consult_proc))) (items_from next) (record { words = refl; refusals = refl; output = refl; lines = grows_line x.consulted (ball_of_item ops place (error_ball e consult_proc)) refl })

pub refuse_goes : (term : Tree → Tree) (c : Consult) (clause kept error : Tree) (place : ℕ) (ops : Arc OperatorTable Global) (t u : Told) (out more : List ℕ)
    → kept ≡ rename zero clause
    → Asked t u (consult_clause (clause_in kept)) (refused error)
    → ((job : Job) (x : Execution) (next : ℕ) → Stands c job x out → Stands c job (clause_added x (arc_value ops) place next (refused error)) more)
    → Moved term c (Clause clause place ops) t out Goes c Items u more
refuse_goes term c clause kept error place ops t u out more renamed l put =
    add_by term c clause kept place ops t u out more (refused error) Items Goes renamed l
    (λ x. refused_goals x (arc_value ops) place (next_of c.place) error)
    (λ job x y c. c)
    (λ job x s is. (
      same_file c,
      record {
        stands = put job x (next_of c.place) s;
        does = gone_to (with_line x (ball_of_item (arc_value ops) place (error_ball error consult_proc))) c.place is;
        fits = tt;
      },
    ))

pub refuse_failed : (term : Tree → Tree) (c : Consult) (clause kept error : Tree) (place : ℕ) (ops : Arc OperatorTable Global) (t u : Told) (out more : List ℕ) (stage : Stage)
    → kept ≡ rename zero clause
    → Asked t u (consult_clause (clause_in kept)) (refused error)
    → Moved term c (Clause clause place ops) t out (Gives Memory) c stage u more
refuse_failed term c clause kept error place ops t u out more stage renamed l =
    add_by term c clause kept place ops t u out more (refused error) stage (Gives Memory) renamed l
    (λ x. refused_goals x (arc_value ops) place (next_of c.place) error)
    (λ job x y c. (1, c))
    (λ job x s is. (tt, tt))

-- What the adding names.
pub added_named : (P : ℕ → Type 0) (names : Tree → List ℕ) (r : Reply Tree) (a : Option Tree) → IsAdded r a → All P (reply_names names r) → All P (added_names names (Ok a))
added_named P names Done a is all = All-same P (added_names names (Ok a)) [] (ap (λ (b : Option Tree). added_names names (Ok b)) is) (All-nil P)
added_named P names (Refused e) a is all = All-same P (added_names names (Ok a)) (names e) (ap (λ (b : Option Tree). added_names names (Ok b)) is) all
added_named P names (Standing o q) a is all = absurd is
added_named P names (Clauses f) a is all = absurd is
added_named P names (Procedures ps) a is all = absurd is
added_named P names (Flags fs) a is all = absurd is
added_named P names (Operators os) a is all = absurd is
added_named P names (Named n) a is all = absurd is
added_named P names (Message m) a is all = absurd is
added_named P names NoMessage a is all = absurd is
added_named P names (Status m) a is all = absurd is
added_named P names Gone a is all = absurd is
