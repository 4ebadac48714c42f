-- A clause was erased, as a step of the definition.
use Rattle.std.proofs.Common.{◌≡◌, ◌⊎◌, inl, inr, ℕ, Bool, true, false, cond, List, [], ◌∷◌, ◌++◌, length, Option, None, Some, IsSome, codes, refl, sym, ap, ap₂, subst, ◌∙◌}
use Rattle.std.specs.List.{All}
use Rattle.std.proofs.lemmas.List.Elements.{All-tail}
use Rattle.pl_term.specs.Tree.{Chars, Tree}
use Rattle.pl_model.specs.Balls.{error_ball}
use Rattle.pl_model.specs.ErrorTerms.{resource_error}
use Rattle.pl_model.specs.Database.{is_there}
use Rattle.pl_model.specs.History.{History, Kind, erase}
use Rattle.pl_model.specs.Requests.{Request, erase_clause, done, gone, refused}
use Rattle.pl_model.specs.Requests as requests
use Rattle.pl_model.specs.Service.{answers, most_updates, reads, refuses, serve, served_now, waits}
use Rattle.pl_model.specs.SharedState.{state_at}
use Rattle.pl_model.specs.Resolution.{Output, State, asks, failing, throwing}
use Rattle.pl_model.specs.Control.{erased, step}
use Rattle.atom_api.specs.Fixed.{fixed, fixed_texts}
use Rattle.atom_api.specs.FixedNames.{retract_name}
use Rattle.atom_api.specs.Names.{FixedStand, Names}
use Rattle.term_store.specs.ArgumentKeys.{clause_key}
use Rattle.term_store.specs.NumberedNames.{atoms_in, names_of, neck, term_by}
use Rattle.world_api.specs.declared.reply.Reply.{Reply}
use Rattle.world_api.specs.declared.reply.Reply.TheVariants.{Standing, Clauses, Procedures, Flags, Operators, Named, Message, NoMessage, Status, Done, Gone, Refused}
use Rattle.world_api.specs.declared.visit.Visit.TheVariants.{Erase}
use Rattle.world_api.specs.declared.answer.On.{On}
use Rattle.world_api.specs.Answers.{IsServed, IsWaiting}
use Rattle.world_api.specs.Asked.{IsInAnswer}
use Rattle.world_api.specs.Gains.{Gains}
use Rattle.world_api.specs.Replies.{Says, reply_names}
use Rattle.world_api.specs.Texts as worlds
use Rattle.world_api.specs.Told.{Told, Follows}
use Rattle.world_api.proofs.Gaining.{gains_weaker}
use Rattle.iso_search.specs.declared.search.Search.{Search}
use Rattle.iso_search.specs.Outcomes.{Setting, limits_in}
use Rattle.iso_search.specs.Reading.{IsView, View}
use Rattle.iso_search.specs.Searching.{IsWhole, node_of}
use Rattle.iso_search.specs.Spelling.{spelled, text_of}
use Rattle.iso_search.proofs.Naming.{text_is}
use Rattle.iso_engine.specs.declared.doing.Doing.{Doing}
use Rattle.iso_engine.specs.declared.doing.Doing.TheVariants.{Running, Failing, Throwing, Erasing}
use Rattle.iso_engine.specs.declared.engine.Engine.{Engine}
use Rattle.iso_engine.specs.Asked.{AsksFor}
use Rattle.iso_engine.specs.Erasing.{IsErased, IsErasedReply, IsErasedTo, IsRaised}
use Rattle.iso_engine.specs.Ready.{IsAlike, IsReady}
use Rattle.iso_engine.specs.Standing.{limits_of, state_at as standing_at, staying, aims_of}
use Rattle.iso_engine.specs.Views.{view_of}
use Rattle.iso_engine.proofs.LaterLists.{same_term}
use Rattle.iso_engine.proofs.Moving.{IsMoved, asked_moved}
use Rattle.iso_engine.proofs.Readings.{read_over}
use Rattle.iso_engine.proofs.Serving.{says_error}

retract_is : fixed retract_name ≡ Some (codes "retract")
unfolding fixed_texts
retract_is = refl

-- How the shared state answers

erase_answered : (e goals : ℕ) (h : History) (j : ℕ) (reply : requests.Reply) (update : Option Kind) → served_now e goals h (erase_clause j) ≡ answers reply update
    → (reply ≡ done) ⊎ ((reply ≡ gone) ⊎ ((x : Tree) × (reply ≡ refused x)))
unfolding serve
erase_answered e goals h j reply update is =
    go (is_there j (state_at goals h (length h)).database) (Rattle.std.proofs.Common.nat_le most_updates (length h)) is
  where
    go : (b c : Bool) → cond b (cond c (refuses (resource_error (codes "generations"))) (answers done (Some (erase j)))) (reads gone) ≡ answers reply update
        → (reply ≡ done) ⊎ ((reply ≡ gone) ⊎ ((x : Tree) × (reply ≡ refused x)))
    go true true same = inr (inr (resource_error (codes "generations"), cc))
    go true false same = inl (cc)
    go false c same = inr (inl (cc))

pub erase_never_waits : (e goals : ℕ) (h : History) (j : ℕ) → served_now e goals h (erase_clause j) ≡ waits → ⊥
unfolding serve
erase_never_waits e goals h j is =
    go (is_there j (state_at goals h (length h)).database) (Rattle.std.proofs.Common.nat_le most_updates (length h)) is
  where
    go : (b c : Bool) → cond b (cond c (refuses (resource_error (codes "generations"))) (answers done (Some (erase j)))) (reads gone) ≡ waits → ⊥
    go true true same = cc
    go true false same = cc
    go false c same = cc

-- What the reply says.
module _ (text : ℕ → Chars) where
  says_done : (r : Reply Tree) → Says term_by text r done → IsErasedReply r
  says_done (Standing ops quotes) s = absurd (cc)
  says_done (Clauses f) s = absurd s
  says_done (Procedures ps) s = absurd (cc)
  says_done (Flags fs) s = absurd (cc)
  says_done (Operators os) s = absurd s
  says_done (Named n) s = absurd (cc)
  says_done (Message t) s = absurd (cc)
  says_done NoMessage s = absurd (cc)
  says_done (Status t) s = absurd (cc)
  says_done Done s = tt
  says_done Gone s = tt
  says_done (Refused e) s = tt

  says_gone : (r : Reply Tree) → Says term_by text r gone → IsErasedReply r
  says_gone (Standing ops quotes) s = absurd (cc)
  says_gone (Clauses f) s = absurd s
  says_gone (Procedures ps) s = absurd (cc)
  says_gone (Flags fs) s = absurd (cc)
  says_gone (Operators os) s = absurd s
  says_gone (Named n) s = absurd (cc)
  says_gone (Message t) s = absurd (cc)
  says_gone NoMessage s = absurd (cc)
  says_gone (Status t) s = absurd (cc)
  says_gone Done s = tt
  says_gone Gone s = tt
  says_gone (Refused e) s = tt

  erased_reply : (r : Reply Tree) (reply : requests.Reply) → Says term_by text r reply → (reply ≡ done) ⊎ ((reply ≡ gone) ⊎ ((x : Tree) × (reply ≡ refused x)))
      → IsErasedReply r
  erased_reply r reply s (inl is) = says_done r (subst (λ (x : requests.Reply). Says term_by text r x) is s)
  erased_reply r reply s (inr (inl is)) = says_gone r (subst (λ (x : requests.Reply). Says term_by text r x) is s)
  erased_reply r reply s (inr (inr error)) =
      let shape = says_error text r error.0 (subst (λ (x : requests.Reply). Says term_by text r x) error.1 s) in
      subst IsErasedReply (sym shape.1) tt

-- The visit was served.
module _ (m n : Names) (t u : Told) (place : ℕ) (r : Reply Tree) (gen : ℕ) (before : History) (follows : Follows t.engine t.history before)
    (served : IsServed term_by clause_key (worlds.text_of m) (worlds.text_of n) (Erase place) r gen t before u) where
  pub erased_by_visit : IsErased n t place r u
  erased_by_visit =
      let one = served.serves (erase_clause place) refl in
      record {
        before = before;
        reply = one.0;
        update = served.update;
        asked = record { follows = follows; told = served.told };
        served = one.1;
        says = one.2;
      }

  pub reply_by_visit : IsErasedReply r
  reply_by_visit =
      let one = served.serves (erase_clause place) refl in
      erased_reply (worlds.text_of n) r one.0 one.2 (erase_answered t.engine t.goals before place one.0 served.update one.1)

pub visit_waits : (m n : Names) (t u : Told) (place : ℕ) (on : On) (gen : ℕ) (before : History)
    → IsWaiting term_by clause_key (worlds.text_of m) (worlds.text_of n) (Erase place) on gen t before u → ⊥
visit_waits m n t u place on gen before w = erase_never_waits t.engine t.goals before place (w.waiting (erase_clause place) refl)

-- The step of the definition.
erasing_step : (r : Setting) (e : Search) (place list : ℕ)
    → step (limits_in r e) (standing_at r.view e (Erasing place list) r.output)
    ≡ asks (erase_clause place) (erased (standing_at r.view e (Erasing place list) r.output) (node_of r.view e list))
unfolding step
erasing_step r e place list = refl

-- What the engine asks of the atoms.
pub erase_asks_for : (m : Names) (t : Told) (e : Engine) (place list : ℕ) → e.doing ≡ Erasing place list → (old new : Option (List Chars))
    → Gains (IsInAnswer term_by clause_key (worlds.text_of m) (Erase place) t) old new → Gains (AsksFor m t e) old new
erase_asks_for m t e place list erases old new =
    gains_weaker (IsInAnswer term_by clause_key (worlds.text_of m) (Erase place) t) (AsksFor m t e) old new
    (λ c a. inl (record {
      request = erase_clause place;
      asking = record {
        follows = λ written count. erased (standing_at (view_of m t) e.search (Erasing place list) written) (node_of (view_of m t) e.search list);
        asks_is =
            λ written count.
            ap (λ (d : Doing). step (limits_of e) (standing_at (view_of m t) e.search d written)) erases
            ∙ erasing_step (record { view = view_of m t; solutions = e.solution_limit; stays = staying e.stays; doing = failing; output = written }) e.search place list;
      };
      before = a.before;
      follows = a.follows;
      handed = a.stands (erase_clause place) refl;
    }))

-- The engine after it.
module _ (m n : Names) (t u : Told) (e f : Engine) (place list : ℕ) (erases : e.doing ≡ Erasing place list) (holds : worlds.Holds m n) (view : IsView (view_of n u))
    (fixes : FixedStand n) (ready : IsReady m t e) (same : f.search ≡ e.search) (wanted : aims_of f ≡ aims_of e) (given : f.solutions_found ≡ e.solutions_found) where
  -- By each view by which it may be read from then on, the reply leads to what it does next.
  abbrev Leads : requests.Reply → Type 0
  Leads reply =
      (v : View) → IsView v → IsAlike n u v → (out : List Output)
      → erased (standing_at v e.search (Erasing place list) out) (node_of v e.search list) reply ≡ standing_at v f.search f.doing out

  leads_to : (d : Doing) → f.doing ≡ d → (v : View) (out : List Output) → standing_at v e.search d out ≡ standing_at v f.search f.doing out
  leads_to d is v out = ap₂ (λ (x : Search) (y : Doing). standing_at v x y out) (sym same) (sym is)

  raised_leads : (error : Tree) → All (λ a. IsSome (n a)) (names_of error) → IsRaised error list f.doing → Leads (refused (term_by (worlds.text_of n) error))
  raised_leads error named raised v viewed alike out =
      let read : term_by (worlds.text_of n) error ≡ spelled (text_of v.names) error =
      sym (same_term n v.names fixes viewed.fixed alike.holds error (All-tail (λ a. IsSome (n a)) neck (atoms_in error) named))
      ∙ read_over v.names viewed.fixed error raised.over
      in let ball : error_ball (term_by (worlds.text_of n) error) (record { name = codes "retract"; arity = 1 }) ≡ spelled (text_of v.names) raised.ball =
      ap₂ (λ x (f : Chars). error_ball x (record { name = f; arity = 1 })) read (sym (text_is v viewed retract_name (codes "retract") retract_is)) ∙ sym (raised.is v viewed)
      in ap (λ b. let y : State = record (standing_at v e.search (Erasing place list) out) { doing = throwing b (node_of v e.search list).goals } in y) ball
      ∙ leads_to (Throwing raised.ball list) raised.throws v out

  moved_by : (r : Reply Tree) (x : IsErased n t place r u) (reply : requests.Reply) → x.reply ≡ reply → Leads reply → IsMoved m n t u e f holds view ready
  moved_by r x reply is leads =
      asked_moved m n t u e f holds view ready x.before x.update x.asked (erase_clause place) reply
      (x.served ∙ ap (λ (y : requests.Reply). answers y x.update) is)
      (λ s viewed alike wants gave. (
        erased (standing_at s.view e.search (Erasing place list) s.output) (node_of s.view e.search list),
        ap (λ (d : Doing). step (limits_in s e.search) (standing_at s.view e.search d s.output)) erases ∙ erasing_step s e.search place list,
        leads s.view viewed alike s.output,
      ))
      (ap (λ (y : Search). y.budgets) same) wanted given (subst IsWhole (sym same) ready.whole)

  pub erased_moved : (r : Reply Tree) → IsErased n t place r u → All (λ a. IsSome (n a)) (reply_names names_of r) → IsErasedTo r list f.doing
      → IsMoved m n t u e f holds view ready
  erased_moved Done x named to = moved_by Done x done x.says (λ v viewed alike out. leads_to (Running list) to v out)
  erased_moved Gone x named to = moved_by Gone x gone x.says (λ v viewed alike out. leads_to Failing to v out)
  erased_moved (Refused error) x named to = moved_by (Refused error) x (refused (term_by (worlds.text_of n) error)) x.says (raised_leads error named to)
  erased_moved (Standing ops quotes) x named to = absurd to
  erased_moved (Clauses g) x named to = absurd to
  erased_moved (Procedures ps) x named to = absurd to
  erased_moved (Flags fs) x named to = absurd to
  erased_moved (Operators os) x named to = absurd to
  erased_moved (Named k) x named to = absurd to
  erased_moved (Message k) x named to = absurd to
  erased_moved NoMessage x named to = absurd to
  erased_moved (Status k) x named to = absurd to
