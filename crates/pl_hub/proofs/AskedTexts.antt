-- The texts that a visit interns stand in its answer.
use Rattle.std.proofs.Common.{◌≡◌, ℕ, List, length, map, Option, Some, None, refl, sym, ap, subst, ◌∙◌, arith}
use Rattle.std.specs.List.{Contains}
use Rattle.std.specs.Prelude.{true, codes, if◌then◌else◌}
use Rattle.std.proofs.lemmas.List.Elements.{All-weaker}
use Rattle.atomic_table.specs.Seated.{TableId}
use Rattle.pl_term.specs.Tree.{Chars, Tree, atom}
use Rattle.pl_model.specs.Database.{current_procedures}
use Rattle.pl_model.specs.ErrorTerms.{permission_error}
use Rattle.pl_model.specs.History.{History, Proc, mine}
use Rattle.pl_model.specs.OperatorTable.{OperatorTable, operators}
use Rattle.pl_model.specs.Requests.{Request, all_procedures, done, named, own_name, procedures, read_operators, refused, standing, start_goal}
use Rattle.pl_model.specs.Service.{alias_taken, answers, name_term, serve, served_now, started}
use Rattle.pl_model.specs.SharedState.{state_at}
use Rattle.pl_model.specs.Threads.{Threads, alias_of, goal_alias, is_alias}
use Rattle.atom_words.specs.declared.view.View.{View}
use Rattle.pl_history.specs.Fronts.{FrontState, own_engine}
use Rattle.term_store.specs.ArgumentKeys.{clause_key}
use Rattle.term_store.specs.NumberedNames.{term_by}
use Rattle.world_api.specs.Asked.{IsInAnswer, IsInReply, texts_in}
use Rattle.world_api.specs.Gains.{Gains}
use Rattle.world_api.specs.declared.visit.Visit.TheVariants.{AllOperators, AllProcedures, OwnName, StartGoal}
use Rattle.clause_db.specs.Parts.{Held as HeldClauses}
use Rattle.hub_database.specs.Database.{IsDatabase, databases}
use Rattle.hub_database.specs.Listing.{AsksAmong, AsksSome, operator_names}
use Rattle.hub_threads.specs.Held.{Held as HeldThreads}
use Rattle.hub_threads.specs.Threads.{IsThreads}
use Rattle.pl_hub.specs.Fronts.{IsOwn, told_of}
use Rattle.pl_hub.specs.Settling.{IsBehind}
use Rattle.pl_hub.proofs.Own.{follows}

named_by_alias : (e goals : ℕ) (h : History) → served_now e goals h own_name ≡ answers (named (name_term e (alias_of (state_at goals h (length h)).threads e))) None
unfolding serve
named_by_alias e goals h = refl

listed_now : (e goals : ℕ) (h : History) → served_now e goals h all_procedures ≡ answers (procedures (current_procedures (length h) (databases goals h (length h)))) None
unfolding serve
listed_now e goals h = refl

operators_now : (e goals : ℕ) (h : History)
    → served_now e goals h read_operators ≡ answers (standing (state_at goals h (length h)).operators (state_at goals h (length h)).flags.double_quotes) None
unfolding serve
operators_now e goals h = refl

started_now : (e goals : ℕ) (h : History) (n : ℕ) (goal : Tree) → is_alias (state_at goals h (length h)).threads (goal_alias n) ≡ true
    → served_now e goals h (start_goal n goal) ≡ answers (refused (permission_error (codes "create") (codes "thread") (atom (goal_alias n)))) None
unfolding serve
started_now e goals h n goal taken = ap (λ b. if b then alias_taken (codes "thread") (goal_alias n) else started (state_at goals h (length h)) (length h) n goal (Some (goal_alias n)) done) taken

handed_alias : (a t : Chars) → t ≡ a → Contains (texts_in (permission_error (codes "create") (codes "thread") (atom a))) t
handed_alias a t same = subst (λ (x : Chars). Contains (texts_in (permission_error (codes "create") (codes "thread") (atom a))) x) (sym same) (3, omega arith, refl)

module _ (table : TableId) (goals e : ℕ) (f : FrontState) (own : IsOwn table e f) (h : History) (behind : IsBehind h f) (text : ℕ → Chars) where
  -- THE ALIAS of the engine
  pub own_asked : (k : View) (q : HeldThreads Tree) (c : ℕ) → IsThreads k q c goals h → (old new : List Chars)
      → Gains (λ t. alias_of q.state e ≡ Some t) (Some old) (Some new)
      → Gains (IsInAnswer term_by clause_key text OwnName (told_of goals f)) (Some old) (Some new)
  own_asked k q c is old new gains = record {
    more = gains.more;
    asked = gains.asked;
    each = All-weaker (λ t. alias_of q.state e ≡ Some t) (IsInAnswer term_by clause_key text OwnName (told_of goals f)) (λ t alias. record {
      before = h;
      follows = follows f h own.runs (own.updates ∙ ap (mine f.seen) (sym own.engine)) behind;
      stands = λ r asks. subst (λ (z : Request). IsInReply (told_of goals f) h z t) (sym asks) (record {
        reply = named (name_term (own_engine f.lives) (alias_of (state_at goals h (length h)).threads (own_engine f.lives)));
        update = None;
        served = named_by_alias (own_engine f.lives) goals h;
        handed = subst (λ (o : Option Chars). Contains (texts_in (name_term (own_engine f.lives) o)) t)
            (sym (ap (λ (s : Threads Tree). alias_of s (own_engine f.lives)) is.threads ∙ ap (alias_of q.state) own.engine ∙ alias)) (0, omega arith, refl);
      });
    }) gains.more gains.each;
  }

  -- THE NAMES of procedures
  pub listed_asked : (g : ℕ) → length h ≡ g → (old new : List Chars)
      → AsksSome (current_procedures g (databases goals h g)) old new
      → Gains (IsInAnswer term_by clause_key text AllProcedures (told_of goals f)) (Some old) (Some new)
  listed_asked g at old new asks = record {
    more = asks.more;
    asked = ap Some asks.asked;
    each = All-weaker (λ t. Contains (map (λ (p : Proc). p.name) (current_procedures g (databases goals h g))) t) (IsInAnswer term_by clause_key text AllProcedures (told_of goals f)) (λ t among. record {
      before = h;
      follows = follows f h own.runs (own.updates ∙ ap (mine f.seen) (sym own.engine)) behind;
      stands = λ r same. subst (λ (z : Request). IsInReply (told_of goals f) h z t) (sym same) (record {
        reply = procedures (current_procedures (length h) (databases goals h (length h)));
        update = None;
        served = listed_now (own_engine f.lives) goals h;
        handed = subst (λ (n : ℕ). Contains (map (λ (p : Proc). p.name) (current_procedures n (databases goals h n))) t) (sym at) among;
      });
    }) asks.more asks.each;
  }

  -- THE NAMES of operators
  pub operators_asked : (k : View) (db : HeldClauses Tree) → IsDatabase k db goals h → (old new : List Chars)
      → AsksAmong (operator_names (operators db.operators)) old new
      → Gains (IsInAnswer term_by clause_key text AllOperators (told_of goals f)) (Some old) (Some new)
  operators_asked k db is old new asks = record {
    more = asks.more;
    asked = ap Some asks.asked;
    each = All-weaker (λ t. Contains (operator_names (operators db.operators)) t) (IsInAnswer term_by clause_key text AllOperators (told_of goals f)) (λ t among. record {
      before = h;
      follows = follows f h own.runs (own.updates ∙ ap (mine f.seen) (sym own.engine)) behind;
      stands = λ r same. subst (λ (z : Request). IsInReply (told_of goals f) h z t) (sym same) (record {
        reply = standing (state_at goals h (length h)).operators (state_at goals h (length h)).flags.double_quotes;
        update = None;
        served = operators_now (own_engine f.lives) goals h;
        handed = subst (λ (o : OperatorTable). Contains (operator_names (operators o)) t) is.operators among;
      });
    }) asks.more asks.each;
  }

  -- THE ALIAS of a goal, where it is taken
  pub start_asked : (k : View) (q : HeldThreads Tree) (c : ℕ) → IsThreads k q c goals h → (n : ℕ) (goal : Tree) (old new : List Chars)
      → Gains (λ t. (t ≡ goal_alias n) × (is_alias q.state t ≡ true)) (Some old) (Some new)
      → Gains (IsInAnswer term_by clause_key text (StartGoal n goal) (told_of goals f)) (Some old) (Some new)
  start_asked k q c is n goal old new gains = record {
    more = gains.more;
    asked = gains.asked;
    each = All-weaker (λ t. (t ≡ goal_alias n) × (is_alias q.state t ≡ true)) (IsInAnswer term_by clause_key text (StartGoal n goal) (told_of goals f)) (λ t alias. record {
      before = h;
      follows = follows f h own.runs (own.updates ∙ ap (mine f.seen) (sym own.engine)) behind;
      stands = λ r asks. subst (λ (z : Request). IsInReply (told_of goals f) h z t) (sym asks) (record {
        reply = refused (permission_error (codes "create") (codes "thread") (atom (goal_alias n)));
        update = None;
        served = started_now (own_engine f.lives) goals h n (term_by text goal)
            (ap (λ (s : Threads Tree). is_alias s (goal_alias n)) is.threads ∙ ap (is_alias q.state) (sym alias.0) ∙ alias.1);
        handed = handed_alias (goal_alias n) t alias.0;
      });
    }) gains.more gains.each;
  }
