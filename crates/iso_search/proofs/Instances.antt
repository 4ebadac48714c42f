-- A search whose store has gained bindings, terms or variables.
use Rattle.std.proofs.Common.{◌≡◌, ℕ, List, [], ◌∷◌, map, Some, None, true, refl, sym, ap, ap₂, subst, ◌∙◌, append-nil}
use Rattle.std.specs.Option.{option_map}
use Rattle.std.proofs.lemmas.List.Elements.{All-weaker}
use Rattle.pl_term.specs.Tree.{Tree}
use Rattle.pl_model.specs.Unify.{Bindings, bound, unify}
use Rattle.pl_model.specs.History.{Proc}
use Rattle.pl_model.specs.Resolution.{Pending, goal, collect, Node, running, failing, pending_instance, node_instance}
use Rattle.pl_model.specs.Control.{unified}
use Rattle.term_store.specs.declared.words.Place.{Place}
use Rattle.term_store.specs.Contents.{Contents, Holds, Adds, Unified, term_at}
use Rattle.iso_search.specs.declared.frames.Task.{Task}
use Rattle.iso_search.specs.declared.frames.Task.TheVariants.{Goal, Commit, Refute, Leave, Collect}
use Rattle.iso_search.specs.declared.frames.Frame.{Frame}
use Rattle.iso_search.specs.declared.choices.ChoicePoint.{ChoicePoint}
use Rattle.iso_search.specs.declared.search.Search.{Search}
use Rattle.iso_search.specs.declared.outcome.Outcome.TheVariants.{Run, Fail}
use Rattle.iso_search.specs.Spelling.{spelled, spelled_bindings, text_of}
use Rattle.iso_search.specs.Frames.{tasks}
use Rattle.iso_search.specs.Reading.{View, IsView, reads, pending, node_at}
use Rattle.iso_search.specs.Choices.{choices_at, IsTaskIn, IsBase, AreRests}
use Rattle.iso_search.specs.Outcomes.{Setting, state_in, result_in}
use Rattle.iso_search.specs.Searching.{node_of, choices_of}
use Rattle.iso_search.proofs.Spelt.{unify-spelled, bound-spelled}
use Rattle.iso_search.proofs.Resting.{rests_added, choices_added}
use Rattle.iso_search.proofs.Over.{state_by}

pending-bound : (r q : Place → Tree) (bs : Bindings) → ((p : Place) → q p ≡ bound bs (r p)) → (t : Task) → pending q t ≡ pending_instance bs (pending r t)
pending-bound r q bs e (Goal w h) = ap (λ x. goal x h) (e w)
pending-bound r q bs e (Commit h) = refl
pending-bound r q bs e (Refute h) = refl
pending-bound r q bs e (Leave h) = refl
pending-bound r q bs e (Collect w h) = ap (λ x. collect x h) (e w)

pendings-bound : (r q : Place → Tree) (bs : Bindings) → ((p : Place) → q p ≡ bound bs (r p)) → (ts : List Task)
    → map (pending q) ts ≡ map (pending_instance bs) (map (pending r) ts)
pendings-bound r q bs e [] = refl
pendings-bound r q bs e (t ∷ ts) = ap₂ (λ x xs. x ∷ xs) (pending-bound r q bs e t) (pendings-bound r q bs e ts)

answers-bound : (r q : Place → Tree) (bs : Bindings) → ((p : Place) → q p ≡ bound bs (r p)) → (ws : List Place)
    → map q ws ≡ map (bound bs) (map r ws)
answers-bound r q bs e [] = refl
answers-bound r q bs e (w ∷ ws) = ap₂ (λ x xs. x ∷ xs) (e w) (answers-bound r q bs e ws)

node_by : (g₁ g₂ : List Pending) (a₁ a₂ : List Tree) (u₁ u₂ : ℕ) → g₁ ≡ g₂ → a₁ ≡ a₂ → u₁ ≡ u₂
    → (let l : Node = record { goals = g₁; answer = a₁; used = u₁ } in let r : Node = record { goals = g₂; answer = a₂; used = u₂ } in l ≡ r)
node_by g₁ g₂ a₁ a₂ u₁ u₂ p q r = cc

-- A node after each place had bindings put into its term.
pub node-bound : (r q : Place → Tree) (bs : Bindings) → ((p : Place) → q p ≡ bound bs (r p)) → (ts : List Task) (ws : List Place) (used now : ℕ) → now ≡ used
    → node_at q ts ws now ≡ node_instance bs (node_at r ts ws used)
node-bound r q bs e ts ws used now same =
    node_by (map (pending q) ts) (map (pending_instance bs) (map (pending r) ts)) (map q ws) (map (bound bs) (map r ws)) now used
    (pendings-bound r q bs e ts) (answers-bound r q bs e ws) same

task_added : (s t : Contents) → Adds s t → (k : Task) → IsTaskIn s k → IsTaskIn t k
task_added s t a (Goal w h) i = a.places w i
task_added s t a (Commit h) i = tt
task_added s t a (Refute h) i = tt
task_added s t a (Leave h) i = tt
task_added s t a (Collect w h) i = a.places w i

pub base_added : (ws : List Place) (s t : Contents) (fs : List Frame) → Adds s t → IsBase ws s fs → IsBase ws t fs
base_added ws s t fs a b =
    record {
      answer = All-weaker (Holds s) (Holds t) a.places ws b.answer;
      words = All-weaker (λ f. IsTaskIn s f.task) (λ f. IsTaskIn t f.task) (λ f i. task_added s t a f.task i) fs b.words;
      linked = b.linked;
    }

pub rests_kept : (ws : List Place) (s t : Contents) (fs : List Frame) (ks : List ChoicePoint) → Adds s t → AreRests ws s fs ks → AreRests ws t fs ks
rests_kept ws s t fs ks a r = subst (λ l. AreRests ws t l ks) (append-nil fs) (rests_added ws s t fs [] ks a r)

pub choices_kept : (v : View) (ws : List Place) (s t : Contents) (fs : List Frame) (ks : List ChoicePoint) → Adds s t → AreRests ws s fs ks
    → choices_at v ws t fs ks ≡ choices_at v ws s fs ks
choices_kept v ws s t fs ks a r =
    ap (λ l. choices_at v ws t l ks) (sym (append-nil fs)) ∙ choices_added v ws s t fs [] ks a r

-- The terms at two places were unified.
pub unified_run : (t : Setting) (e d : Search) (a b : Place) (rest : ℕ) (p : Proc) → IsView t.view → Unified true e.store a b d.store
    → d.frames.items ≡ e.frames.items → d.answer.items ≡ e.answer.items → d.store.used ≡ e.store.used
    → choices_of t.view d ≡ choices_of t.view e → d.next_variable ≡ e.next_variable → d.inferences ≡ e.inferences
    → result_in t d (node_of t.view e rest) p (Run rest)
    ≡ unified (state_in t e) (node_of t.view e rest) (unify (reads t.view e.store a) (reads t.view e.store b))
unified_run t e d a b rest p view u frames answer used cs next inferences =
    let g = text_of t.view.names in
    let bs : Bindings = spelled_bindings g u.0 in
    let found : unify (reads t.view e.store a) (reads t.view e.store b) ≡ Some bs =
    unify-spelled g view.apart (term_at e.store a) (term_at e.store b) ∙ ap (option_map (spelled_bindings g)) u.1.0 in
    let terms : (q : Place) → reads t.view d.store q ≡ bound bs (reads t.view e.store q) =
    λ q. ap (spelled g) (u.1.1 q) ∙ sym (bound-spelled g u.0 (term_at e.store q)) in
    let node : node_of t.view d rest ≡ node_instance bs (node_of t.view e rest) =
    ap₂ (λ fs ws. node_at (reads t.view d.store) (tasks fs rest) ws d.store.used) frames answer
    ∙ node-bound (reads t.view e.store) (reads t.view d.store) bs terms (tasks e.frames.items rest) e.answer.items e.store.used d.store.used used in
    state_by (running (node_of t.view d rest)) (running (node_instance bs (node_of t.view e rest))) (choices_of t.view d) (choices_of t.view e)
    d.next_variable e.next_variable d.inferences e.inferences t.output (ap running node) cs next inferences
    ∙ ap (unified (state_in t e) (node_of t.view e rest)) (sym found)

pub unified_fail : (t : Setting) (e d : Search) (a b : Place) (n : Node) (p : Proc) → IsView t.view → unify (term_at e.store a) (term_at e.store b) ≡ None
    → choices_of t.view d ≡ choices_of t.view e → d.next_variable ≡ e.next_variable → d.inferences ≡ e.inferences
    → result_in t d n p Fail ≡ unified (state_in t e) n (unify (reads t.view e.store a) (reads t.view e.store b))
unified_fail t e d a b n p view u cs next inferences =
    let g = text_of t.view.names in
    let found : unify (reads t.view e.store a) (reads t.view e.store b) ≡ None =
    unify-spelled g view.apart (term_at e.store a) (term_at e.store b) ∙ ap (option_map (spelled_bindings g)) u in
    state_by failing failing (choices_of t.view d) (choices_of t.view e) d.next_variable e.next_variable d.inferences e.inferences t.output refl cs next inferences
    ∙ ap (unified (state_in t e) n) (sym found)
