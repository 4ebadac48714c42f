-- The arguments of a goal are unified with places, as a step of a search.
use Rattle.std.proofs.Common.{◌≡◌, ◌<◌, ℕ, false, true, List, [], ◌∷◌, map, reverse, Option, Some, None, refl, sym, ap, ap₂, subst, ◌∙◌, arith}
use Rattle.std.specs.List.{All}
use Rattle.std.specs.Option.{option_map}
use Rattle.pl_term.specs.Tree.{Chars, Trees, more, trees}
use Rattle.pl_model.specs.BuiltinRows.{plain_answer}
use Rattle.pl_model.specs.Control.{answer_tried, taking, unified}
use Rattle.pl_model.specs.History.{Proc}
use Rattle.pl_model.specs.Resolution.{Doing, Node, State, failing, node_instance, running}
use Rattle.pl_model.specs.Terms.{arguments}
use Rattle.pl_model.specs.Unify.{Bindings, bound, solve_all}
use Rattle.term_store.specs.declared.words.Place.{Place}
use Rattle.term_store.specs.Contents.{Adds, Contents, SameSize, term_at}
use Rattle.iso_search.specs.declared.outcome.Outcome.{Outcome}
use Rattle.iso_search.specs.declared.outcome.Outcome.TheVariants.{Fail, Run}
use Rattle.iso_search.specs.declared.search.Search.{Search}
use Rattle.iso_search.specs.Frames.{tasks}
use Rattle.iso_search.specs.Outcomes.{Setting, limits_in, result_in, state_in}
use Rattle.iso_search.specs.Reading.{IsView, View, reads}
use Rattle.iso_search.specs.Searching.{IsWhole, choices_of, node_of, state_of}
use Rattle.iso_search.specs.Spelling.{spelled, spelled_all, spelled_bindings, text_of}
use Rattle.iso_search.proofs.Equalling.{result_goals}
use Rattle.iso_search.proofs.Instances.{choices_kept, node-bound}
use Rattle.iso_search.proofs.Over.{state_by}
use Rattle.iso_search.proofs.Spelt.{bound-spelled, solve_all-spelled}
use Rattle.iso_engine.specs.Leading.{AreUnified}
use Rattle.iso_engine.proofs.FollowedRows.{arguments_spelled}
use Rattle.iso_engine.proofs.Grown.{whole_still}

pub terms_read : (v : View) (s : Contents) (ps : List Place) → trees (map (reads v s) ps) ≡ spelled_all (text_of v.names) (trees (map (term_at s) ps))
terms_read v s [] = refl
terms_read v s (p ∷ ps) = ap (more (reads v s p)) (terms_read v s ps)

module _ (e : Search) (at : Place) (ps : List Place) (rest : ℕ) (u : Contents) (w : IsWhole e) (adds : Adds e.store u) (size : SameSize e.store u) where
  abbrev later : Search
  later = record e { store = u }

  pub unified_whole : IsWhole later
  unified_whole =
      whole_still e e.store u adds w e.next_variable (omega arith) size.budget (subst (λ ns. All (λ m. m < e.next_variable) ns) (sym size.numbers) w.above)

  abbrev lefts : Trees
  lefts = arguments (term_at e.store at)

  abbrev rights : Trees
  rights = trees (map (term_at e.store) ps)

  module _ (t : Setting) (p : Proc) (view : IsView t.view) where
    abbrev g : Chars → Chars
    g = text_of t.view.names

    abbrev node : Node
    node = node_of t.view e rest

    abbrev here : State
    here = state_in t e

    abbrev definition : State
    definition = unified here node (solve_all [] (arguments (reads t.view e.store at)) (trees (map (reads t.view e.store) ps)))

    state_is : (d : Doing) → state_of t.view later d t.output ≡ record here { doing = d }
    state_is d =
        state_by d d (choices_of t.view later) (choices_of t.view e) e.next_variable e.next_variable e.inferences e.inferences t.output refl
        (choices_kept t.view e.answer.items e.store u e.frames.items (reverse e.choices.items) adds w.rests) refl refl

    solved : (o : Option Bindings) → solve_all [] lefts rights ≡ o → definition ≡ unified here node (option_map (spelled_bindings g) o)
    solved o is =
        ap (unified here node)
        (ap₂ (solve_all []) (arguments_spelled g (term_at e.store at)) (terms_read t.view e.store ps)
        ∙ solve_all-spelled g view.apart [] lefts rights
        ∙ ap (option_map (spelled_bindings g)) is)

    pub places_differ : AreUnified false e.store lefts rights u → result_in t later node p Fail ≡ definition
    places_differ differ = state_is failing ∙ sym (solved None differ)

    pub places_unified : AreUnified true e.store lefts rights u → result_in t later node p (Run rest) ≡ definition
    places_unified same =
        let bs : Bindings = spelled_bindings g same.0 in
        let puts : (q : Place) → reads t.view u q ≡ bound bs (reads t.view e.store q) =
        λ q. ap (spelled g) (same.1.1 q) ∙ sym (bound-spelled g same.0 (term_at e.store q)) in
        let node_is : node_of t.view later rest ≡ node_instance bs node =
        node-bound (reads t.view e.store) (reads t.view u) bs puts (tasks e.frames.items rest) e.answer.items e.store.used u.used size.used in
        state_is (running (node_of t.view later rest))
        ∙ ap (λ d. record here { doing = running d }) node_is
        ∙ sym (solved (Some same.0) same.1.0)

-- The same after nothing was taken.
pub tried_run : (t : Setting) (e d f : Search) (p : Proc) (at : Place) (ps : List Place) (rest : ℕ) (o : Outcome)
    → d ≡ record e { store = record e.store { used = d.store.used }; next_variable = d.next_variable }
    → ((list : ℕ) (q : Proc) (next : State → Node → State)
    → next (state_in t d) (node_of t.view d list) ≡ taking (limits_in t e) (state_in t e) (node_of t.view e list) q 0 0 next)
    → result_in t f (node_of t.view d rest) p o
    ≡ unified (state_in t d) (node_of t.view d rest) (solve_all [] (arguments (reads t.view d.store at)) (trees (map (reads t.view d.store) ps)))
    → result_in t f (node_of t.view e rest) p o
    ≡ answer_tried (limits_in t e) (state_in t e) (node_of t.view e rest) p (arguments (reads t.view e.store at))
    (plain_answer (trees (map (reads t.view e.store) ps)))
tried_run t e d f p at ps rest o kept taken done =
    let v = t.view in
    result_goals t f (node_of v e rest) (node_of v d rest) p o (sym (ap (λ (x : Search). (node_of v x rest).goals) kept))
    ∙ done
    ∙ ap (unified (state_in t d) (node_of v d rest))
    (ap (λ (x : Search). solve_all [] (arguments (reads v x.store at)) (trees (map (reads v x.store) ps))) kept)
    ∙ taken rest p (λ s' n'. unified s' n' (solve_all [] (arguments (reads v e.store at)) (trees (map (reads v e.store) ps))))
