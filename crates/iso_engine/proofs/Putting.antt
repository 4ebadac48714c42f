-- put_char/1, as a step of the definition.
use Rattle.std.proofs.Common.{◌≡◌, ℕ, suc, ◌+◌, ◌<◌, pos, List, [], ◌∷◌, ◌++◌, Option, Some, None, codes, refl, sym, ap, ap₂, subst, ◌∙◌, append-nil}
use Rattle.std.specs.List.{All}
use Rattle.std.proofs.lemmas.List.Elements.{All-cons, All-nil}
use Rattle.pl_term.specs.Tree.{Tree, int, atom, comp, none, more}
use Rattle.pl_model.specs.AtomBuiltins.{character_error}
use Rattle.pl_model.specs.Balls.{error_ball, instantiation_error, type_error}
use Rattle.pl_model.specs.Checks.{text_of_atom}
use Rattle.pl_model.specs.Predicates.{proc_of}
use Rattle.pl_model.specs.Resolution.{Choice, Doing, Node, Output, State, goes, throwing}
use Rattle.pl_model.specs.History.{proc}
use Rattle.pl_model.specs.Control.{with_character, with_text}
use Rattle.atom_api.specs.FixedNames.{character_name, error_name, put_char_name, slash_name, type_error_name}
use Rattle.atom_api.specs.Fixed.{fixed, fixed_texts}
use Rattle.atom_api.specs.Names.{Names}
use Rattle.term_store.specs.declared.words.Place.{Place}
use Rattle.term_store.specs.Heap.{atom_name}
use Rattle.term_store.specs.Contents.{Contents, Holds, term_at}
use Rattle.world_api.specs.Texts.{Holds as Knows}
use Rattle.world_builtins.specs.declared.characters.Character.TheVariants as characters
use Rattle.world_builtins.specs.Characters.{IsPut}
use Rattle.world_builtins.specs.Naming.{IsHeldAt}
use Rattle.world_builtins.specs.Spelling as written
use Rattle.iso_search.specs.declared.outcome.Fault.TheVariants.{Instantiation}
use Rattle.iso_search.specs.declared.outcome.Outcome.TheVariants.{Run, Raise, Throw}
use Rattle.iso_search.specs.declared.search.Search.{Search}
use Rattle.iso_search.specs.Conversions.{Grows}
use Rattle.iso_search.specs.Outcomes.{Setting, state_in}
use Rattle.iso_search.specs.Reading.{IsView, View, reads}
use Rattle.iso_search.specs.Searching.{IsWhole, choices_of, node_of}
use Rattle.iso_search.specs.Spelling.{spelled, text_of}
use Rattle.iso_search.proofs.Converting.{stays_again}
use Rattle.iso_search.proofs.Grown.{choices_grown, node_grown, whole_grown}
use Rattle.iso_search.proofs.Naming.{put_char_is, text_is}
use Rattle.iso_engine.specs.declared.write.goals.OutputGoal.TheVariants.{Character}
use Rattle.iso_engine.specs.OutputGoals.{IsGoalOf}
use Rattle.iso_engine.specs.Wrote.{IsDone}
use Rattle.iso_engine.proofs.OutputSteps.{counted, made, one_more, read_held, text_done, with_count}

-- The ball of the type error

pub grows_again : (s t u : Contents) → Grows s t → Grows t u → Grows s u
grows_again s t u g h = record { stays = stays_again s t u g.stays h.stays; numbers = h.numbers ∙ g.numbers }

pub two_places : (s : Contents) (p q : Place) → Holds s p → Holds s q → All (Holds s) (p ∷ (q ∷ []))
two_places s p q hp hq = All-cons (Holds s) p (q ∷ []) hp (All-cons (Holds s) q [] hq (All-nil (Holds s)))

type_error_is : fixed type_error_name ≡ Some (codes "type_error")
unfolding fixed_texts
type_error_is = refl

character_is : fixed character_name ≡ Some (codes "character")
unfolding fixed_texts
character_is = refl

slash_is : fixed slash_name ≡ Some (codes "/")
unfolding fixed_texts
slash_is = refl

error_is : fixed error_name ≡ Some (codes "error")
unfolding fixed_texts
error_is = refl

-- The ball over atoms.
abbrev ball_tree : Tree → Tree
ball_tree t =
    comp (atom_name error_name) (comp (atom_name type_error_name) (atom (atom_name character_name)) (more t none))
    (more (comp (atom_name slash_name) (atom (atom_name put_char_name)) (more (int (pos 1)) none)) none)

pub ball_read : (v : View) → IsView v → (s u : Contents) (term ball : Place) → term_at u ball ≡ ball_tree (term_at s term)
    → reads v u ball ≡ error_ball (type_error (codes "character") (reads v s term)) (proc (codes "put_char") 1)
ball_read v view s u term ball is =
    let g = text_of v.names in
    let t = reads v s term in
    ap (spelled g) is
    ∙ ap₂ (λ x y. comp x (comp y (atom (g (atom_name character_name))) (more t none)) (more (comp (g (atom_name slash_name)) (atom (g (atom_name put_char_name))) (more (int (pos 1)) none)) none))
    (text_is v view error_name (codes "error") error_is) (text_is v view type_error_name (codes "type_error") type_error_is)
    ∙ ap₂ (λ x y. comp (codes "error") (comp (codes "type_error") (atom x) (more t none)) (more (comp y (atom (g (atom_name put_char_name))) (more (int (pos 1)) none)) none))
    (text_is v view character_name (codes "character") character_is) (text_is v view slash_name (codes "/") slash_is)
    ∙ ap (λ x. comp (codes "error") (comp (codes "type_error") (atom (codes "character")) (more t none)) (more (comp (codes "/") (atom x) (more (int (pos 1)) none)) none))
    (text_is v view put_char_name (codes "put_char") put_char_is)

-- The step

-- The same state in all but its parts.
same_parts : (d e : Doing) (cs ds : List Choice) (k i : ℕ) (o p : List Output) → d ≡ e → cs ≡ ds → o ≡ p
    → (let l : State = record { doing = d; choices = cs; next = k; inferences = i; output = o } in
    let r : State = record { doing = e; choices = ds; next = k; inferences = i; output = p } in l ≡ r)
same_parts d e cs ds k i o p f g h = cc

abbrev pub with_store : Search → Contents → ℕ → Search
with_store e u k = record e { store = u; inferences = k }

pub refused_whole : (e : Search) (u : Contents) → IsWhole e → Grows e.store u → IsWhole (with_store e u (e.inferences + 1))
refused_whole e u whole grows =
    let w = whole_grown e u grows whole in record { base = w.base; rests = w.rests; budget = w.budget; above = w.above; older = w.older }

module _ (m : Names) (e : Search) (term goal : Place) (rest : ℕ) (a b : List ℕ) (held : IsHeldAt m e.store term) (few : e.inferences < e.budgets.inferences)
    (is : IsGoalOf e.store (Character term) goal) where
  abbrev t : Tree
  t = written.reads m e.store term

  abbrev after_cost : Setting → Option Tree → State
  after_cost s r =
      with_character (counted (state_in s e)) (node_of s.view e rest) (reads s.view e.store goal) (reads s.view e.store term) r

  found : (s : Setting) → Knows m s.view.names → (r : Option Tree) → character_error t ≡ r → after_cost s (character_error (reads s.view e.store term)) ≡ after_cost s r
  found s grown r f = ap (λ x. after_cost s (character_error x)) (sym (read_held m s.view grown e.store term held)) ∙ ap (after_cost s) f

  pub put_done : IsPut t characters.Put a b → IsDone m e goal rest a (with_count e (e.inferences + 1)) b (Run rest)
  put_done put =
      text_done m e (Character term) goal rest a b few is (text_of_atom t)
      (λ s grown.
      ap goes (found s grown None put.0)
      ∙ ap (λ x. goes (with_text (counted (state_in s e)) (node_of s.view e rest) (text_of_atom x))) (sym (read_held m s.view grown e.store term held)))
      put.1

  pub unbound_done : IsPut t characters.Unbound a b → IsDone m e goal rest a (with_count e (e.inferences + 1)) b (Raise Instantiation)
  unbound_done put =
      subst (λ k. IsDone m e goal rest a (with_count e k) b (Raise Instantiation)) (one_more e.inferences)
      (record {
        more = None;
        leads =
            λ s h view grown.
            let n = node_of s.view e rest in
            let p = proc_of (reads s.view e.store goal) in
            made e goal rest (Character term) is few s h view
            ∙ ap goes (found s grown (Some instantiation_error) put.0
            ∙ same_parts (throwing (error_ball instantiation_error p) n.goals) (throwing (error_ball instantiation_error p) n.goals) (choices_of s.view e) (choices_of s.view e)
            e.next_variable (suc e.inferences) s.output (s.output ++ []) refl refl (sym (append-nil s.output)));
        after = record { budgets = refl; inside = (tt, λ v j le. refl) };
        out = put.1 ∙ sym (append-nil a);
      })

  pub refused_done : (u : Contents) (ball : Place) → IsWhole e → Grows e.store u → Holds u ball
      → ((v : View) → IsView v → reads v u ball ≡ error_ball (type_error (codes "character") (reads v e.store term)) (proc (codes "put_char") 1))
      → IsPut t characters.Refused a b
      → IsDone m e goal rest a (with_store e u (e.inferences + 1)) b (Throw ball)
  refused_done u ball whole grows inside ball_is put =
      subst (λ k. IsDone m e goal rest a (with_store e u k) b (Throw ball)) (one_more e.inferences)
      (record {
        more = None;
        leads =
            λ s h view grown.
            let n = node_of s.view e rest in
            let p = proc_of (reads s.view e.store goal) in
            let x = type_error (codes "character") in
            let same = read_held m s.view grown e.store term held in
            let ball_there : error_ball (x t) p ≡ reads s.view u ball =
            ap₂ (λ y q. error_ball (x y) q) same (is s.view view).1 ∙ sym (ball_is s.view view) in
            made e goal rest (Character term) is few s h view
            ∙ ap goes (found s grown (Some (x t)) put.0
            ∙ same_parts (throwing (error_ball (x t) p) n.goals) (throwing (reads s.view u ball) n.goals) (choices_of s.view e)
            (choices_of s.view (record e { store = u })) e.next_variable (suc e.inferences) s.output (s.output ++ []) (ap (λ y. throwing y n.goals) ball_there)
            (sym (choices_grown e u grows.stays whole s.view)) (sym (append-nil s.output)));
        after = record { budgets = refl; inside = (inside, λ v j le. ap (λ (n : Node). n.goals) (node_grown e u grows.stays whole v j)) };
        out = put.1 ∙ sym (append-nil a);
      })

-- The ball as it was made.
pub ball_made : (s t u w : Contents) (term kind name one error indicator ball : Place)
    → term_at s kind ≡ atom (atom_name character_name)
    → term_at t name ≡ atom (atom_name put_char_name)
    → term_at t one ≡ int (pos 1)
    → term_at t error ≡ comp (atom_name type_error_name) (term_at s kind) (more (term_at s term) none)
    → term_at u error ≡ term_at t error
    → term_at u indicator ≡ comp (atom_name slash_name) (term_at t name) (more (term_at t one) none)
    → term_at w ball ≡ comp (atom_name error_name) (term_at u error) (more (term_at u indicator) none)
    → term_at w ball ≡ ball_tree (term_at s term)
ball_made s t u w term kind name one error indicator ball k n i e same d h =
    h
    ∙ ap₂ (λ x y. comp (atom_name error_name) x (more y none)) (same ∙ e ∙ ap (λ x. comp (atom_name type_error_name) x (more (term_at s term) none)) k)
    (d ∙ ap₂ (λ x y. comp (atom_name slash_name) x (more y none)) n i)
