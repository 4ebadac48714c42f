-- What an engine's steps intern.
use Rattle.std.proofs.Common.{◌≡◌, ℕ, ◌+◌, ◌≤◌, List, ◌∷◌, ◌++◌, drop, length, Option, None, Some, inl, inr, sym, ap, subst}
use Rattle.std.proofs.lemmas.Bool.{lt-ltb}
use Rattle.pl_term.specs.Tree.{Chars}
use Rattle.pl_model.specs.BuiltinRows.{unifying}
use Rattle.pl_model.specs.Predicates.{proc_of}
use Rattle.pl_model.specs.Requests.{call_clauses}
use Rattle.pl_model.specs.Resolution.{Output, clauses, failing}
use Rattle.pl_model.specs.Terms.{arguments}
use Rattle.atom_api.specs.Names.{Names}
use Rattle.term_store.specs.declared.words.Place.{Place}
use Rattle.world_api.specs.Gains.{Gains}
use Rattle.world_api.specs.Told.{Told}
use Rattle.world_api.specs.declared.visit.Procedure.{Procedure}
use Rattle.world_api.proofs.Gaining.{gains_nothing, gains_then, gains_weaker}
use Rattle.iso_search.specs.declared.frames.Task.TheVariants.{Goal}
use Rattle.iso_search.specs.declared.choices.Purpose.{Purpose}
use Rattle.iso_search.specs.declared.choices.Purpose.TheVariants.{Resolving}
use Rattle.iso_search.specs.declared.search.Search.{Search}
use Rattle.iso_search.specs.Choices.{answers_from, listed_goal, purpose_of}
use Rattle.iso_search.specs.Frames.{tasks}
use Rattle.iso_search.specs.Lines.{lines_of}
use Rattle.iso_search.specs.Reading.{IsView, View, reads}
use Rattle.iso_search.specs.Searching.{choices_of, node_of}
use Rattle.iso_engine.specs.ClausesAsked.{IsListAsked, IsRetryAsked}
use Rattle.iso_engine.specs.declared.doing.Doing.{Doing}
use Rattle.iso_engine.specs.declared.doing.Doing.TheVariants.{Failing, Running}
use Rattle.iso_engine.specs.declared.engine.Engine.{Engine}
use Rattle.iso_engine.specs.declared.slices.Slice.{Slice}
use Rattle.iso_engine.specs.declared.slices.Slice.TheVariants.{Yield, Solution, NeedsAtoms, Retry, Worn, Waits, Ended, Memory}
use Rattle.iso_engine.specs.Advancing.{Advances}
use Rattle.iso_engine.specs.Asked.{AsksFor, AsksInSlice, AsksOnWay, ComesToAsk}
use Rattle.iso_engine.specs.Calling.{IsCallAt}
use Rattle.iso_engine.specs.Views.{view_of}
use Rattle.iso_engine.specs.Leaving.{IsExitText}
use Rattle.iso_engine.specs.Lines.{IsLineAsked}
use Rattle.iso_engine.specs.Rows.{IsRowText}
use Rattle.iso_engine.specs.Slices.{IsStepped}
use Rattle.iso_engine.specs.Standing.{doing_of, staying}
use Rattle.iso_engine.proofs.Calls.{answer_to, step_asks}
use Rattle.iso_engine.proofs.Stability.{advance_then}

-- Nothing was asked of the atoms.
pub nothing_asked : (P : Chars → Type 0) (old new : Option (List Chars)) → new ≡ old → Gains P old new
nothing_asked P old new same = gains_nothing P old new same

-- One step

-- A call of the program's clauses.
pub call_asks_for : (m : Names) (t : Told) (e : Engine) (at : Place) (p : Procedure) (list cut rest : ℕ) → e.doing ≡ Running list
    → tasks e.search.frames.items list ≡ Goal at cut ∷ tasks e.search.frames.items rest
    → rest ≤ length e.search.frames.items
    → IsCallAt e.search.store at p
    → IsView (view_of m t)
    → (old new : Option (List Chars))
    → Gains (IsListAsked Resolving m t e.search at) old new
    → Gains (AsksFor m t e) old new
call_asks_for m t e at p list cut rest running_is first le call view old new =
    gains_weaker (IsListAsked Resolving m t e.search at) (AsksFor m t e) old new
    (λ c a. inl (record {
      request = call_clauses (reads (view_of m t) e.search.store at);
      asking = record {
        follows =
            λ written count.
            answer_to m m t t e e at p list cut rest running_is first le call
            (record { view = view_of m t; solutions = e.solution_limit; stays = staying e.stays; doing = failing; output = written });
        asks_is =
            λ written count.
            step_asks m m t t e e at p list cut rest running_is first le call
            (record { view = view_of m t; solutions = e.solution_limit; stays = staying e.stays; doing = failing; output = written })
            view
            (lt-ltb e.search.inferences e.search.budgets.inferences a.count);
      };
      before = a.before;
      follows = a.follows;
      handed = a.handed;
    }))

-- Going back to clauses, whose choice point was taken off the engine's search.
pub retry_asks_for : (m : Names) (t : Told) (e : Engine) (x : Search) (q : Purpose) (goal : Place) (g place next : ℕ) → e.doing ≡ Failing
    → ((v : View) → choices_of v e.search
    ≡ clauses (purpose_of q) (reads v x.store goal) (v.left (listed_goal (purpose_of q) (reads v x.store goal)) g place) (node_of v x next) ∷ choices_of v x)
    → (old new : Option (List Chars))
    → Gains (IsRetryAsked m t x q goal g place) old new
    → Gains (AsksFor m t e) old new
retry_asks_for m t e x q goal g place next fails taken old new =
    gains_weaker (IsRetryAsked m t x q goal g place) (AsksFor m t e) old new
    (λ c a. inr (inl (record {
      fails = ap (doing_of (view_of m t) e.search) fails;
      purpose = purpose_of q;
      goal = reads (view_of m t) x.store goal;
      left = (view_of m t).left (listed_goal (purpose_of q) (reads (view_of m t) x.store goal)) g place;
      node = node_of (view_of m t) x next;
      older = choices_of (view_of m t) x;
      newest = taken (view_of m t);
      first = a;
    })))

-- Going back to lines of a table, whose choice point was taken off the engine's search.
pub line_asks_for : (m : Names) (t : Told) (e : Engine) (x : Search) (goal : Place) (line next : ℕ) → e.doing ≡ Failing
    → ((v : View) → choices_of v e.search ≡ answers_from (reads v x.store goal) line (node_of v x next) ∷ choices_of v x)
    → (old new : Option (List Chars))
    → Gains (IsLineAsked m x.store goal line) old new
    → Gains (AsksFor m t e) old new
line_asks_for m t e x goal line next fails taken old new =
    gains_weaker (IsLineAsked m x.store goal line) (AsksFor m t e) old new
    (λ c a. let g = reads (view_of m t) x.store goal in inr (inr (inl (record {
      fails = ap (doing_of (view_of m t) e.search) fails;
      predicate = proc_of g;
      terms = arguments g;
      left = unifying (arguments g) (drop line (lines_of g));
      node = node_of (view_of m t) x next;
      older = choices_of (view_of m t) x;
      newest = taken (view_of m t);
      given = a;
    }))))

-- A built-in predicate that is a function of its arguments.
pub row_asks_for : (m : Names) (t : Told) (e : Engine) (old new : Option (List Chars)) → Gains (λ c. (u : Told) → IsRowText m u e c) old new
    → Gains (AsksFor m t e) old new
row_asks_for m t e old new = gains_weaker (λ c. (u : Told) → IsRowText m u e c) (AsksFor m t e) old new (λ c text. inr (inr (inr (inl (text t)))))

-- thread_exit/1, which does not leave what is run.
pub exit_asks_for : (m : Names) (t : Told) (e : Engine) (old new : Option (List Chars)) → Gains (λ c. (u : Told) → IsExitText m u e c) old new
    → Gains (AsksFor m t e) old new
exit_asks_for m t e old new = gains_weaker (λ c. (u : Told) → IsExitText m u e c) (AsksFor m t e) old new (λ c text. inr (inr (inr (inr (inl (text t))))))

-- The engine's work was taken out and put back.
pub asked_again : (m : Names) (t : Told) (e : Engine) (d : Doing) (old new : Option (List Chars)) → e.doing ≡ d
    → (let g : Engine = record e { doing = d } in Gains (AsksFor m t g) old new)
    → Gains (AsksFor m t e) old new
asked_again m t e d old new same h =
    let again = subst (λ (x : Doing). let g : Engine = record e { doing = x } in Gains (AsksFor m t g) old new) (sym same) h in again

-- The engine's search is as before.
pub asked_same : (m : Names) (t : Told) (e : Engine) (x : Search) (old new : Option (List Chars)) → x ≡ e.search
    → (let g : Engine = record e { search = x } in Gains (AsksFor m t g) old new)
    → Gains (AsksFor m t e) old new
asked_same m t e x old new same h =
    let again = subst (λ (y : Search). let g : Engine = record e { search = y } in Gains (AsksFor m t g) old new) same h in again

-- Several steps

-- A step more, from where the walk has come.
module _ (j k : ℕ) (m n r : Names) (t u w : Told) (e f g : Engine) (xs ys : List Output) (a b d : Option (List Chars)) where
  further : Advances k n u f r w g ys → (c : Chars) → AsksOnWay m t e n u f c → AsksOnWay m t e r w g c
  further step c way =
      record {
        there = way.there;
        steps = k + way.steps;
        written = way.written ++ ys;
        advances =
            advance_then way.steps k way.there.names n r way.there.told u w way.there.engine f g way.written ys way.advances step;
      }

  abbrev come : Advances j m t e n u f xs → (c : Chars) → AsksFor n u f c → ComesToAsk m t e c
  come walk c asks = record { steps = j; names = n; told = u; engine = f; written = xs; advances = walk; asks = asks }

  pub way_gains : Advances j m t e n u f xs → Advances k n u f r w g ys → Gains (AsksOnWay m t e n u f) a b → Gains (AsksFor n u f) b d
      → Gains (AsksOnWay m t e r w g) a d
  way_gains walk step way more =
      gains_then (AsksOnWay m t e r w g) a b d
      (gains_weaker (AsksOnWay m t e n u f) (AsksOnWay m t e r w g) a b (further step) way)
      (gains_weaker (AsksFor n u f) (AsksOnWay m t e r w g) b d (λ c asks. record { there = come walk c asks; steps = k; written = ys; advances = step }) more)

  -- A step that came to no end.
  pub come_gains : Advances j m t e n u f xs → Gains (AsksOnWay m t e n u f) a b → Gains (AsksFor n u f) b d → Gains (ComesToAsk m t e) a d
  come_gains walk way more =
      gains_then (ComesToAsk m t e) a b d
      (gains_weaker (AsksOnWay m t e n u f) (ComesToAsk m t e) a b (λ c way. way.there) way)
      (gains_weaker (AsksFor n u f) (ComesToAsk m t e) b d (come walk) more)

-- The last step came to no end.
pub came : (m n : Names) (t u : Told) (e f : Engine) (a b : Option (List Chars)) → Gains (AsksOnWay m t e n u f) a b → Gains (ComesToAsk m t e) a b
came m n t u e f a b way = gains_weaker (AsksOnWay m t e n u f) (ComesToAsk m t e) a b (λ c asks. asks.there) way

-- What a step has come to.
pub step_advances : (n r : Names) (u w : Told) (f g : Engine) (o : Option Slice) (more : List Output) → IsStepped n u f o r w g more
    → (k : ℕ) × Advances k n u f r w g more
step_advances n r u w f g None more h = (1, h)
step_advances n r u w f g (Some Yield) more h = absurd h.1
step_advances n r u w f g (Some (Solution ops)) more h = (1, h.2)
step_advances n r u w f g (Some (NeedsAtoms p)) more h = (0, h.2)
step_advances n r u w f g (Some (Retry q)) more h = (0, h.2)
step_advances n r u w f g (Some (Worn q)) more h = (0, h.2)
step_advances n r u w f g (Some (Waits on q)) more h = (0, h.2)
step_advances n r u w f g (Some Ended) more h = (0, h.2)
step_advances n r u w f g (Some Memory) more h = absurd h.1

-- The slice that ends so.
pub in_slice : (s : Slice) (m : Names) (t : Told) (e : Engine) (n : Names) (u : Told) (f : Engine) (a b : Option (List Chars))
    → Gains (AsksOnWay m t e n u f) a b → Gains (AsksInSlice s m t e n u f) a b
in_slice Yield m t e n u f a b h = h
in_slice (Solution ops) m t e n u f a b h = h
in_slice (NeedsAtoms p) m t e n u f a b h = h
in_slice (Retry q) m t e n u f a b h = h
in_slice (Worn q) m t e n u f a b h = h
in_slice (Waits on q) m t e n u f a b h = h
in_slice Ended m t e n u f a b h = h
in_slice Memory m t e n u f a b h = gains_weaker (AsksOnWay m t e n u f) (ComesToAsk m t e) a b (λ c way. way.there) h
