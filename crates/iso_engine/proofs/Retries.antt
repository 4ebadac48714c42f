-- The next clause of a list was tried, as a step of the definition.
use Rattle.std.proofs.Common.{◌≡◌, ◌∷◌, ℕ, ◌≤◌, length, IsSome, refl, sym, ap, subst, ◌∙◌}
use Rattle.std.specs.List.{All}
use Rattle.pl_term.specs.Tree.{Tree}
use Rattle.pl_model.specs.Control.{tried_by}
use Rattle.atom_api.specs.Names.{Names}
use Rattle.term_store.specs.declared.words.Place.{Place}
use Rattle.term_store.specs.Contents.{term_at}
use Rattle.term_store.specs.Heap.{atom_name}
use Rattle.term_store.specs.NumberedNames.{atoms_in}
use Rattle.world_api.specs.declared.visit.Procedure.{Procedure}
use Rattle.world_api.specs.Texts.{Holds}
use Rattle.world_api.specs.Told.{Told}
use Rattle.iso_search.specs.declared.failure.Back.TheVariants.{Retry as RetryBack}
use Rattle.iso_search.specs.declared.outcome.Outcome.{Outcome}
use Rattle.iso_search.specs.declared.choices.Purpose.{Purpose}
use Rattle.iso_search.specs.Choices.{choice_at, listed_goal, purpose_of}
use Rattle.iso_search.specs.declared.choices.Alternative.TheVariants.{Clauses}
use Rattle.iso_search.specs.Outcomes.{Setting, doing_by}
use Rattle.iso_search.specs.Reading.{IsView, View, reads}
use Rattle.iso_search.specs.declared.search.Search.{Search}
use Rattle.iso_search.specs.Searching.{choices_of, node_of, state_of}
use Rattle.iso_search.specs.Spelling.{text_of}
use Rattle.iso_engine.specs.Lists.{IsListed}
use Rattle.iso_engine.specs.Retried.{IsNextRun, IsPutBack as IsPutBackAfter}
use Rattle.iso_engine.specs.declared.engine.Engine.{Engine}
use Rattle.iso_engine.specs.Following.{proc_in}
use Rattle.iso_engine.specs.Views.{IsLater, view_of}
use Rattle.iso_engine.specs.Ready.{MayGoOn}
use Rattle.iso_engine.specs.Retrying.{IsPutBack, IsTried}
use Rattle.iso_engine.specs.Standing.{doing_of}
use Rattle.iso_engine.proofs.Alike.{may_later, visits_same}
use Rattle.iso_engine.proofs.Calls.{at_once, from_at_once, left_alike, listed_alike}
use Rattle.iso_engine.proofs.Followed.{doing_same}
use Rattle.iso_engine.proofs.Fresh.{spelled_later}
use Rattle.iso_engine.proofs.Stability.{history_of}

module _ (m n : Names) (t u : Told) (e f : Engine) (q : Purpose) (goal : Place) (g place next : ℕ) (o : Outcome) (p : Procedure) (holds : Holds m n)
    (held : All (λ a. IsSome (m a)) (atoms_in (term_at e.search.store goal)))
    (opens : MayGoOn t (listed_goal (purpose_of q) (reads (view_of m t) e.search.store goal)) g place) (le : next ≤ length e.search.frames.items)
    (procedure : (r : Setting) → IsView r.view → tried_by (purpose_of q) (reads r.view e.search.store goal) ≡ proc_in r.view p)
    (run : IsNextRun t e.search q goal g place next n u f.search o)
    (follows : (r : Setting) → IsView r.view → doing_of r.view f.search f.doing
    ≡ doing_by r f.search (node_of r.view f.search next) (record { name = text_of r.view.names (atom_name p.name); arity = p.arity }) o)
    (rest : (let x : Engine = record e { search = f.search; doing = f.doing } in f ≡ x)) where
  later : IsLater m t n u
  later =
      record {
        holds = holds;
        later = run.follows.later;
        grown = ap history_of run.told ∙ run.follows.grown;
        engine = ap (λ (x : Told). x.engine) run.told;
        goals = ap (λ (x : Told). x.goals) run.told;
      }

  abbrev listed_by : Tree → Tree
  listed_by x = listed_goal (purpose_of q) x

  may : MayGoOn u (listed_by (reads (view_of m t) e.search.store goal)) g place
  may =
      may_later m n t u later (visits_same t u (ap (λ (x : Told). x.gens) run.told)) (listed_by (reads (view_of m t) e.search.store goal)) g place opens

  pub tried : IsTried t e (RetryBack q goal g place next) n u f
  tried =
      record {
        before = run.before;
        follows = run.follows;
        told = run.told;
        stands =
            λ r view alike.
            let v = r.view
            in let s = e.search.store
            in let same : reads v s goal ≡ reads (view_of m t) s goal = spelled_later m v.names (λ a x h. alike.holds a x (holds a x h)) (term_at s goal) held
            in let h : Tree = listed_by (reads v s goal)
            in let here : MayGoOn u h g place = subst (λ (y : Tree). MayGoOn u (listed_by y) g place) (sym same) may
            in let there = run.answered (at_once n u v alike view) (from_at_once n u v alike view)
            in let is : IsListed v h g run.found (v.left h g place) =
            subst (IsListed v h g run.found) (sym (left_alike n u v alike view h g place here.callable here.listed))
            (listed_alike n u v alike view h g run.found ((at_once n u v alike view).left h g place) here.callable there.0 there.1)
            in sym (run.runs r (v.left h g place) view is)
            ∙ ap (λ d. state_of v f.search d r.output)
            (sym (follows r view ∙ doing_same r e.search f.search (record { name = text_of v.names (atom_name p.name); arity = p.arity }) (tried_by (purpose_of q) (reads v s goal)) next o le run.after.inside (sym (procedure r view))));
        budgets = run.after.budgets;
        rest = rest;
      }

-- The choice point is there again.
pub put_back : (t u : Told) (e : Engine) (f : Search) (q : Purpose) (goal : Place) (g place next : ℕ) → IsPutBackAfter t e.search q goal g place next u f
    → (let y : Engine = record e { search = f } in IsPutBack t e (RetryBack q goal g place next) u y)
put_back t u e f q goal g place next put = record { told = put.told; taken = put.choices; search = put.search; rest = refl }

-- The same where the choice point was made anew.
pub put_again : (t u : Told) (e : Engine) (d f : Search) (q : Purpose) (goal : Place) (g place next : ℕ) → u ≡ t → d ≡ e.search
    → ((v : View) → choices_of v f ≡ choice_at v (reads v d.store) (node_of v d next) (Clauses q goal g place) ∷ choices_of v d)
    → (let y : Search = record d { choices = f.choices } in f ≡ y)
    → (let y : Engine = record e { search = f } in IsPutBack t e (RetryBack q goal g place next) u y)
put_again t u e d f q goal g place next told search choices kept =
    put_back t u e f q goal g place next
    (record {
      told = told;
      choices = subst (λ (x : Search). (v : View) → choices_of v f ≡ choice_at v (reads v x.store) (node_of v x next) (Clauses q goal g place) ∷ choices_of v x) search choices;
      search = subst (λ (x : Search). let y : Search = record x { choices = f.choices } in f ≡ y) search kept;
    })
