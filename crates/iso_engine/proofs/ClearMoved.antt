-- What an engine comes to by the steps of retractall/1.
use Rattle.std.proofs.Common.{◌≡◌, ℕ, Bool, true, false, if◌then◌else◌, List, [], ◌∷◌, Option, None, IsSome, codes, refl, sym, ap, ap₂, subst, ◌∙◌, append-nil}
use Rattle.std.specs.List.{All}
use Rattle.std.proofs.lemmas.List.Elements.{All-tail}
use Rattle.pl_term.specs.Tree.{Chars, Tree}
use Rattle.pl_model.specs.Balls.{error_ball}
use Rattle.pl_model.specs.Control.{clear_next, cleared, retractall_proc, step}
use Rattle.pl_model.specs.Database.{Stored}
use Rattle.pl_model.specs.History.{Clause, Proc, proc}
use Rattle.pl_model.specs.Requests.{done, erase_clause, gone, refused}
use Rattle.pl_model.specs.Requests as requests
use Rattle.pl_model.specs.Resolution.{Limits, Node, Output, State, clearing, failing, goes, running, throwing}
use Rattle.pl_model.specs.Service.{answers}
use Rattle.atom_api.specs.FixedNames.{retractall_name}
use Rattle.atom_api.specs.Names.{FixedStand, Names}
use Rattle.term_store.specs.declared.words.Place.{Place}
use Rattle.term_store.specs.ArgumentKeys.{clause_key}
use Rattle.term_store.specs.NumberedNames.{atoms_in, names_of, neck, term_by}
use Rattle.world_api.specs.declared.reply.Found.{Found}
use Rattle.world_api.specs.declared.reply.Reply.{Reply}
use Rattle.world_api.specs.declared.reply.Reply.TheVariants.{Standing, Clauses, Procedures, Flags, Operators, Named, Message, NoMessage, Status, Done, Gone, Refused}
use Rattle.world_api.specs.declared.visit.Visit.TheVariants.{Erase}
use Rattle.world_api.specs.Asked.{IsInAnswer}
use Rattle.world_api.specs.Gains.{Gains}
use Rattle.world_api.specs.Replies.{reply_names}
use Rattle.world_api.specs.Texts as worlds
use Rattle.world_api.specs.Texts.{Holds}
use Rattle.world_api.specs.Told.{Told, Follows}
use Rattle.world_api.specs.Answers.{seen_as}
use Rattle.world_api.proofs.Gaining.{gains_weaker}
use Rattle.iso_search.specs.declared.frames.Task.TheVariants.{Goal}
use Rattle.iso_search.specs.declared.outcome.Fault.{Fault}
use Rattle.iso_search.specs.declared.outcome.Outcome.TheVariants.{Raise}
use Rattle.iso_search.specs.declared.search.Search.{Search}
use Rattle.iso_search.specs.Frames.{tasks}
use Rattle.iso_search.specs.Outcomes.{Setting, doing_by, fault_term, limits_in, state_in}
use Rattle.iso_search.specs.Reading.{IsView, View, reads}
use Rattle.iso_search.specs.Searching.{IsWhole, node_of, state_of}
use Rattle.iso_search.specs.Spelling.{spelled, text_of}
use Rattle.iso_search.proofs.Naming.{text_is}
use Rattle.iso_engine.specs.declared.doing.Doing.TheVariants.{Running, Clearing}
use Rattle.iso_engine.specs.declared.doing.Left.{Left}
use Rattle.iso_engine.specs.declared.doing.Left.TheVariants as left
use Rattle.iso_engine.specs.declared.engine.Engine.{Engine}
use Rattle.iso_engine.specs.declared.state.clearing.Cleared.TheVariants.{Lists}
use Rattle.iso_engine.specs.declared.state.meeting.Met.TheVariants.{Meets, Differs, Raises}
use Rattle.iso_engine.specs.Asked.{IsAnswerText}
use Rattle.iso_engine.specs.Clearing.{ClearsAt, IsClearAt, IsClearDone, IsClearRaised, IsClearedTo, IsMet, clear_procedure}
use Rattle.iso_engine.specs.Erasing.{IsErased}
use Rattle.iso_engine.specs.Following.{proc_in}
use Rattle.iso_engine.specs.Ready.{IsAlike, IsReady}
use Rattle.iso_engine.specs.Standing.{aims_of, base_of, found_in, left_after, left_clauses, left_of, state_at, staying}
use Rattle.iso_engine.specs.Views.{view_of}
use Rattle.iso_engine.proofs.ClearGoals.{clear_is, clearing_is}
use Rattle.iso_engine.proofs.GoalsMoved.{set, step_is}
use Rattle.iso_engine.proofs.LaterLists.{same_term}
use Rattle.iso_engine.proofs.Moving.{IsMoved, asked_moved, seen_moved}
use Rattle.iso_engine.proofs.Readings.{read_over}
use Rattle.iso_engine.proofs.RowTaken.{IsFollowedAs}

-- The goal was taken up, and the clauses are to be looked at.
module _ (m n : Names) (t u : Told) (e f : Engine) (goal head : Place) (list cut rest : ℕ) (running_is : e.doing ≡ Running list)
    (first : tasks e.search.frames.items list ≡ Goal goal cut ∷ tasks e.search.frames.items rest) (clears : IsClearAt e.search.store goal head)
    (holds : Holds m n) (view : IsView (view_of n u)) (ready : IsReady m t e)
    (wanted : aims_of f ≡ aims_of e) (given : f.solutions_found ≡ e.solutions_found) (whole : IsWhole f.search) where
  pub lists_moved : (g : ℕ) (found : Option (Found Tree)) → IsClearDone t e.search goal head rest n u f.search (Lists g found)
      → f.doing ≡ Clearing list g (left_of None found) → IsMoved m n t u e f holds view ready
  lists_moved g found led doing =
      let a = led.0
      in let at : ClearsAt f.search list head rest =
      subst (λ (y : Search). ClearsAt y list head rest) (sym led.1) (record { goal = goal; cut = cut; first = first; at = clears })
      in asked_moved m n t u e f holds view ready a.before a.update a.asked a.request a.reply a.served
      (λ r viewed alike wants gave.
      let one = a.asking (set e goal list cut rest running_is first r) cut viewed alike
      in (
        one.0,
        step_is e goal list cut rest running_is first r ∙ one.1,
        one.2
            ∙ ap (λ d. state_of r.view f.search d r.output) (sym (clearing_is r.view f.search list head rest at g (left_of None found)))
            ∙ ap (λ d. state_at r.view f.search d r.output) (sym doing),
      ))
      (ap (λ (y : Search). y.budgets) led.1) wanted given whole

-- The step of the definition.
clear_by : (l : Limits) (v : View) (e : Search) (h : Tree) (cs : List (Stored Clause)) (n : Node) (out : List Output)
    → step l (state_of v e (clearing h cs n) out) ≡ clear_next l (state_of v e (clearing h cs n) out) n h cs
unfolding step
clear_by l v e h cs n out = refl

-- What is left behind the first one.
behind_is : (v : View) (h : Tree) (g : ℕ) (x : Found Tree) → left_clauses v h g (left_after x) ≡ (if x.more then v.left h g x.place else [])
behind_is v h g x = go x.more
  where
    go : (b : Bool) → left_clauses v h g (if b then left.After x.place else left.None) ≡ (if b then v.left h g x.place else [])
    go true = refl
    go false = refl

proc_is : (v : View) → IsView v → proc_in v clear_procedure ≡ retractall_proc
proc_is v view = ap (λ (f : Chars). proc f 1) (text_is v view retractall_name (codes "retractall") clear_is)

-- There is none left.
module _ (m n : Names) (t u : Told) (e f : Engine) (list : ℕ) (head : Place) (rest g : ℕ) (x : Left) (clears : ClearsAt e.search list head rest)
    (doing_is : e.doing ≡ Clearing list g x)
    (holds : Holds m n) (view : IsView (view_of n u)) (ready : IsReady m t e)
    (wanted : aims_of f ≡ aims_of e) (given : f.solutions_found ≡ e.solutions_found) (whole : IsWhole f.search) where
  pub nothing_moved : (before : Rattle.pl_model.specs.History.History) → Follows t.engine t.history before → u ≡ seen_as t before t.gens
      → ((v : View) → IsView v → IsAlike n u v → left_clauses v (reads v e.search.store head) g x ≡ [])
      → f.search ≡ e.search → f.doing ≡ Running rest → IsMoved m n t u e f holds view ready
  nothing_moved before follows told nothing same doing =
      seen_moved m n t u e f holds view ready before follows told
      (λ r viewed alike wants gave.
      let v = r.view
      in let l = limits_in r e.search
      in let h = reads v e.search.store head
      in let node = node_of v e.search rest
      in ap (λ d. step l (state_at v e.search d r.output)) doing_is
      ∙ ap (λ d. step l (state_of v e.search d r.output)) (clearing_is v e.search list head rest clears g x)
      ∙ ap (λ cs. step l (state_of v e.search (clearing h cs node) r.output)) (nothing v viewed alike)
      ∙ clear_by l v e.search h [] node r.output
      ∙ ap goes
      (ap (λ (y : Search). state_of v y (running (node_of v y rest)) r.output) (sym same) ∙ ap (λ d. state_at v f.search d r.output) (sym doing)))
      (ap (λ (y : Search). y.budgets) same) wanted given whole

-- A clause is looked at.
module _ (e : Engine) (list : ℕ) (head : Place) (rest g : ℕ) (after : Option ℕ) (x : Found Tree) (clears : ClearsAt e.search list head rest)
    (doing_is : e.doing ≡ Clearing list g (left.Found after x)) where
  abbrev head_by : View → Tree
  head_by v = reads v e.search.store head

  abbrev one_by : View → Stored Clause
  one_by v = found_in v (base_of v (head_by v) g after) x

  abbrev more_by : View → List (Stored Clause)
  more_by v = if x.more then v.left (head_by v) g x.place else []

  abbrev node_by : View → Node
  node_by v = node_of v e.search rest

  abbrev begun : Setting → Setting
  begun r = record r { doing = clearing (head_by r.view) (one_by r.view ∷ more_by r.view) (node_by r.view) }

  found_step : (r : Setting) → step (limits_in r e.search) (state_at r.view e.search e.doing r.output)
      ≡ clear_next (limits_in r e.search) (state_in (begun r) e.search) (node_by r.view) (head_by r.view) (one_by r.view ∷ more_by r.view)
  found_step r =
      let v = r.view
      in let l = limits_in r e.search
      in ap (λ d. step l (state_at v e.search d r.output)) doing_is
      ∙ ap (λ d. step l (state_of v e.search d r.output)) (clearing_is v e.search list head rest clears g (left.Found after x))
      ∙ clear_by l v e.search (head_by v) (one_by v ∷ more_by v) (node_by v) r.output

  -- The clauses after it are next.
  behind_stands : (d : Search) → (let y : Search = record e.search { next_variable = d.next_variable } in d ≡ y) → (r : Setting)
      → (let y : State = record (state_in (begun r) d) { doing = clearing (head_by r.view) (more_by r.view) (node_by r.view) } in y)
      ≡ state_at r.view d (Clearing list g (left_after x)) r.output
  behind_stands d kept r =
      let v = r.view
      in let at : ClearsAt d list head rest =
      subst (λ (y : Search). ClearsAt y list head rest) (sym kept) (record { goal = clears.goal; cut = clears.cut; first = clears.first; at = clears.at })
      in ap (λ k. state_of v d k r.output)
      (sym (clearing_is v d list head rest at g (left_after x)
      ∙ ap (λ (y : Search). let h = reads v y.store head in clearing h (left_clauses v h g (left_after x)) (node_of v y rest)) kept
      ∙ ap (λ cs. clearing (head_by v) cs (node_by v)) (behind_is v (head_by v) g x)))

  abbrev now_by : Names → Told → List Output → Setting
  now_by m t written = record { view = view_of m t; solutions = e.solution_limit; stays = staying e.stays; doing = failing; output = written }

  -- Where its head unifies the engine asks to erase it.
  pub found_asks : (m : Names) (t : Told) (d : Search) → IsView (view_of m t) → IsMet e.search head x.clause d Meets → (old new : Option (List Chars))
      → Gains (IsInAnswer term_by clause_key (worlds.text_of m) (Erase x.place) t) old new → Gains (IsAnswerText m t e) old new
  found_asks m t d view met old new =
      gains_weaker (IsInAnswer term_by clause_key (worlds.text_of m) (Erase x.place) t) (IsAnswerText m t e) old new
      (λ c a. record {
        request = erase_clause x.place;
        asking = record {
          follows = λ written count. let r = now_by m t written in cleared (state_in (begun r) d) (node_by r.view) (head_by r.view) (more_by r.view);
          asks_is = λ written count. let r = now_by m t written in found_step r ∙ met (begun r) rest (one_by r.view) (more_by r.view) view refl;
        };
        before = a.before;
        follows = a.follows;
        handed = a.stands (erase_clause x.place) refl;
      })

  module _ (m n : Names) (t u : Told) (f : Engine) (holds : Holds m n) (view : IsView (view_of n u)) (ready : IsReady m t e)
      (wanted : aims_of f ≡ aims_of e) (given : f.solutions_found ≡ e.solutions_found) (whole : IsWhole f.search)
      (kept : (let y : Search = record e.search { next_variable = f.search.next_variable } in f.search ≡ y)) where
    budgets : f.search.budgets ≡ e.search.budgets
    budgets = ap (λ (y : Search). y.budgets) kept

    entries : Follows t.engine t.history t.history
    entries = record { later = []; grown = sym (append-nil t.history); others = refl }

    -- Its head does not unify.
    pub differs_moved : u ≡ t → IsMet e.search head x.clause f.search Differs → f.doing ≡ Clearing list g (left_after x) → IsMoved m n t u e f holds view ready
    differs_moved told met doing =
        seen_moved m n t u e f holds view ready t.history entries told
        (λ r viewed alike wants gave.
        found_step r
        ∙ met (begun r) rest (one_by r.view) (more_by r.view) viewed refl
        ∙ ap goes (behind_stands f.search kept r ∙ ap (λ d. state_at r.view f.search d r.output) (sym doing)))
        budgets wanted given whole

    -- There were no numbers or no cells for it.
    pub raises_moved : u ≡ t → (fault : Fault) → IsMet e.search head x.clause f.search (Raises fault) → IsFollowedAs f rest clear_procedure (Raise fault)
        → IsMoved m n t u e f holds view ready
    raises_moved told fault met follows =
        seen_moved m n t u e f holds view ready t.history entries told
        (λ r viewed alike wants gave.
        let v = r.view
        in let one = met (begun r) rest (one_by v) (more_by v) viewed refl
        in found_step r
        ∙ one.1
        ∙ ap goes
        (ap (λ (q : Proc). state_of v e.search (throwing (error_ball (fault_term (reads v e.search.store) fault) q) (node_by v).goals) r.output) (sym (proc_is v viewed))
        ∙ ap (λ (y : Search). state_of v y (doing_by r y (node_of v y rest) (proc_in v clear_procedure) (Raise fault)) r.output) (sym one.0)
        ∙ ap (λ d. state_of v f.search d r.output) (sym (follows r viewed))))
        budgets wanted given whole

    -- Its head unifies, and its erasure was answered.
    abbrev Leads : requests.Reply → Type 0
    Leads reply =
        (r : Setting) → IsView r.view → IsAlike n u r.view
        → cleared (state_in (begun r) f.search) (node_by r.view) (head_by r.view) (more_by r.view) reply ≡ state_at r.view f.search f.doing r.output

    behind_leads : f.doing ≡ Clearing list g (left_after x) → (r : Setting)
        → (let y : State = record (state_in (begun r) f.search) { doing = clearing (head_by r.view) (more_by r.view) (node_by r.view) } in y)
        ≡ state_at r.view f.search f.doing r.output
    behind_leads doing r = behind_stands f.search kept r ∙ ap (λ d. state_at r.view f.search d r.output) (sym doing)

    raised_leads : FixedStand n → (error : Tree) → All (λ a. IsSome (n a)) (names_of error) → IsClearRaised error rest f.doing
        → Leads (refused (term_by (worlds.text_of n) error))
    raised_leads fixes error named thrown r viewed alike =
        let v = r.view
        in let read : term_by (worlds.text_of n) error ≡ spelled (text_of v.names) error =
        sym (same_term n v.names fixes viewed.fixed alike.holds error (All-tail (λ a. IsSome (n a)) neck (atoms_in error) named))
        ∙ read_over v.names viewed.fixed error thrown.over
        in let ball : error_ball (term_by (worlds.text_of n) error) retractall_proc ≡ spelled (text_of v.names) thrown.ball =
        ap₂ error_ball read (sym (proc_is v viewed)) ∙ sym (thrown.is v viewed)
        in ap₂ (λ b gs. state_of v f.search (throwing b gs) r.output) ball (ap (λ (y : Search). (node_of v y rest).goals) (sym kept))
        ∙ ap (λ d. state_at v f.search d r.output) (sym thrown.throws)

    moved_by : IsMet e.search head x.clause f.search Meets → (r : Reply Tree) (y : IsErased n t x.place r u) (reply : requests.Reply) → y.reply ≡ reply → Leads reply
        → IsMoved m n t u e f holds view ready
    moved_by met r y reply is leads =
        asked_moved m n t u e f holds view ready y.before y.update y.asked (erase_clause x.place) reply
        (y.served ∙ ap (λ (k : requests.Reply). answers k y.update) is)
        (λ s viewed alike wants gave. (
          cleared (state_in (begun s) f.search) (node_by s.view) (head_by s.view) (more_by s.view),
          found_step s ∙ met (begun s) rest (one_by s.view) (more_by s.view) viewed refl,
          leads s viewed alike,
        ))
        budgets wanted given whole

    pub meets_moved : IsMet e.search head x.clause f.search Meets → FixedStand n → (r : Reply Tree) → IsErased n t x.place r u → All (λ a. IsSome (n a)) (reply_names names_of r)
        → IsClearedTo r list g (left_after x) rest f.doing → IsMoved m n t u e f holds view ready
    meets_moved met fixes Done y named to = moved_by met Done y done y.says (λ r viewed alike. behind_leads to r)
    meets_moved met fixes Gone y named to = moved_by met Gone y gone y.says (λ r viewed alike. behind_leads to r)
    meets_moved met fixes (Refused error) y named to =
        moved_by met (Refused error) y (refused (term_by (worlds.text_of n) error)) y.says (raised_leads fixes error named to)
    meets_moved met fixes (Standing ops quotes) y named to = absurd to
    meets_moved met fixes (Clauses k) y named to = absurd to
    meets_moved met fixes (Procedures ps) y named to = absurd to
    meets_moved met fixes (Flags fs) y named to = absurd to
    meets_moved met fixes (Operators os) y named to = absurd to
    meets_moved met fixes (Named k) y named to = absurd to
    meets_moved met fixes (Message k) y named to = absurd to
    meets_moved met fixes NoMessage y named to = absurd to
    meets_moved met fixes (Status k) y named to = absurd to
