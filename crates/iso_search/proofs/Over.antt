-- Running a goal over a choice point.
use Rattle.std.proofs.Common.{◌≡◌, ℕ, ◌<◌, ◌≤◌, Bool, true, false, cond, List, ◌∷◌, length, reverse, nat_lt, refl, sym, ap, ap₂, ◌∙◌, arith}
use Rattle.std.proofs.lemmas.Bool.Decides.{Decides-ltb}
use Rattle.std.proofs.lemmas.List.{length-reverse}
use Rattle.pl_model.specs.History.{Proc}
use Rattle.pl_model.specs.Balls.{error_ball, no_choices}
use Rattle.pl_model.specs.Resolution.{Limits, Pending, Node, Choice, Doing, Output, State, running, throwing}
use Rattle.pl_model.specs.Control.{before, over, run_on}
use Rattle.iso_search.specs.declared.search.Search.{Search}
use Rattle.iso_search.specs.declared.search.Budgets.{Budgets}
use Rattle.iso_search.specs.declared.outcome.Outcome.TheVariants.{Run, Raise}
use Rattle.iso_search.specs.declared.outcome.Fault.TheVariants.{Choices}
use Rattle.iso_search.specs.Outcomes.{Setting, limits_in, state_in, result_in}
use Rattle.iso_search.specs.Reading.{View}
use Rattle.iso_search.specs.Searching.{node_of, choices_of}
use Rattle.iso_search.proofs.Resting.{length-choices_at}

pub state_by : (d e : Doing) (cs ds : List Choice) (n m i j : ℕ) (out : List Output) → d ≡ e → cs ≡ ds → n ≡ m → i ≡ j
    → (let l : State = record { doing = d; choices = cs; next = n; inferences = i; output = out } in
    let r : State = record { doing = e; choices = ds; next = m; inferences = j; output = out } in l ≡ r)
state_by d e cs ds n m i j out p q r s = cc

pub over_made : (t : Setting) (e d : Search) (n : Node) (p : Proc) (c : Choice) (first : ℕ → List Pending) (list : ℕ)
    → nat_lt (length (choices_of t.view e)) e.budgets.choices ≡ true → choices_of t.view d ≡ c ∷ choices_of t.view e
    → node_of t.view d list ≡ before (first (length (choices_of t.view e))) n → d.next_variable ≡ e.next_variable → d.inferences ≡ e.inferences
    → result_in t d n p (Run list) ≡ over (limits_in t e) (state_in t e) n p c first
over_made t e d n p c first list fits cs at next inferences =
    state_by (running (node_of t.view d list)) (running (before (first (length (choices_of t.view e))) n)) (choices_of t.view d) (c ∷ choices_of t.view e)
    d.next_variable e.next_variable d.inferences e.inferences t.output (ap running at) cs next inferences
    ∙ ap (λ b. cond b (record (state_in t e) { choices = c ∷ choices_of t.view e; doing = running (before (first (length (choices_of t.view e))) n) })
    (record (state_in t e) { doing = throwing (error_ball no_choices p) n.goals })) (sym fits)

pub over_full : (t : Setting) (e d : Search) (n : Node) (p : Proc) (c : Choice) (first : ℕ → List Pending)
    → nat_lt (length (choices_of t.view e)) e.budgets.choices ≡ false → choices_of t.view d ≡ choices_of t.view e
    → d.next_variable ≡ e.next_variable → d.inferences ≡ e.inferences
    → result_in t d n p (Raise Choices) ≡ over (limits_in t e) (state_in t e) n p c first
over_full t e d n p c first fits cs next inferences =
    state_by (throwing (error_ball no_choices p) n.goals) (throwing (error_ball no_choices p) n.goals) (choices_of t.view d) (choices_of t.view e)
    d.next_variable e.next_variable d.inferences e.inferences t.output refl cs next inferences
    ∙ ap (λ b. cond b (record (state_in t e) { choices = c ∷ choices_of t.view e; doing = running (before (first (length (choices_of t.view e))) n) })
    (record (state_in t e) { doing = throwing (error_ball no_choices p) n.goals })) (sym fits)

pub run_made : (t : Setting) (e d : Search) (n m : Node) (p : Proc) (list : ℕ) → choices_of t.view d ≡ choices_of t.view e
    → node_of t.view d list ≡ m → d.next_variable ≡ e.next_variable → d.inferences ≡ e.inferences → result_in t d n p (Run list) ≡ run_on (state_in t e) m
run_made t e d n m p list cs at next inferences =
    state_by (running (node_of t.view d list)) (running m) (choices_of t.view d) (choices_of t.view e)
    d.next_variable e.next_variable d.inferences e.inferences t.output (ap running at) cs next inferences

pub not_below : (a b : ℕ) → b ≤ a → nat_lt a b ≡ false
not_below a b le = go (nat_lt a b) refl
  where
    go : (q : Bool) → nat_lt a b ≡ q → q ≡ false
    go true e = let lt : a < b = (Decides-ltb a b).0 e in absurd (omega arith)
    go false e = refl

pub is_below : (a b : ℕ) → a < b → nat_lt a b ≡ true
is_below a b lt = (Decides-ltb a b).1 lt

pub length_choices : (v : View) (e : Search) → length (choices_of v e) ≡ length e.choices.items
length_choices v e =
    length-choices_at v e.answer.items e.store e.frames.items (reverse e.choices.items) ∙ length-reverse e.choices.items

pub same_limits : (t : Setting) (b e : Search) → b.budgets ≡ e.budgets → limits_in t b ≡ limits_in t e
same_limits t b e k =
    let limits : Budgets → Limits =
    λ g. record { inferences = g.inferences; cells = g.cells; choices = g.choices; solutions = t.solutions; stays = t.stays } in
    ap limits k

pub same_state : (t : Setting) (b e : Search) → choices_of t.view b ≡ choices_of t.view e → b.next_variable ≡ e.next_variable → b.inferences ≡ e.inferences
    → state_in t b ≡ state_in t e
same_state t b e cs next inferences =
    state_by t.doing t.doing (choices_of t.view b) (choices_of t.view e) b.next_variable e.next_variable b.inferences e.inferences t.output refl cs next inferences

-- The same over a choice point that is made in equal states.
pub over_same : (l m : Limits) (s u : State) (n : Node) (p : Proc) (c d : Choice) (first next : ℕ → List Pending)
    → l ≡ m → s ≡ u → c ≡ d → first ≡ next → over l s n p c first ≡ over m u n p d next
over_same l m s u n p c d first next a b e f =
    ap₂ (λ x y. over x y n p c first) a b ∙ ap₂ (λ x y. over m u n p x y) e f
