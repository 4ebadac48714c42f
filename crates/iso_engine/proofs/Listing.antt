-- The clauses of a list are tried, by the definition.
use Rattle.std.proofs.Common.{◌≡◌, ℕ, Bool, true, false, cond, ◌&&◌, nat_le, List, [], ◌∷◌, length, Option, Some, None, refl, sym, ap, ap₂, subst, ◌∙◌}
use Rattle.std.proofs.lemmas.Bool.{false≢true}
use Rattle.pl_term.specs.Tree.{Tree}
use Rattle.pl_model.specs.History.{Clause}
use Rattle.pl_model.specs.Database.{Stored}
use Rattle.pl_model.specs.Balls.{no_choices}
use Rattle.pl_model.specs.Resolution.{Node, Purpose, State, clauses}
use Rattle.pl_model.specs.Control.{first_clause, next_clause, raised, several, tried, tried_by}
use Rattle.term_store.specs.declared.words.Place.{Place}
use Rattle.term_store.specs.NumberedNames.{term_by}
use Rattle.world_api.specs.declared.reply.Found.{Found}
use Rattle.world_api.specs.Texts.{text_of}
use Rattle.world_api.specs.Visits.{clause_in}
use Rattle.world_api.specs.Replies.{IsFront}
use Rattle.iso_search.specs.declared.outcome.Outcome.{Outcome}
use Rattle.iso_search.specs.declared.outcome.Outcome.TheVariants.{Fail, Raise}
use Rattle.iso_search.specs.declared.outcome.Fault.TheVariants.{Choices}
use Rattle.iso_search.specs.declared.search.Search.{Search}
use Rattle.iso_search.specs.Choices.{listed_goal}
use Rattle.iso_search.specs.Outcomes.{Setting, limits_in, result_in, state_in}
use Rattle.iso_search.specs.Reading.{reads}
use Rattle.iso_search.specs.Searching.{choices_of, node_of}
use Rattle.iso_search.proofs.Over.{length_choices, state_by}
use Rattle.iso_engine.specs.Lists.{IsListed}
use Rattle.iso_engine.specs.Parts.{has_more}

pub nothing_next : (t : Setting) (e : Search) (q : Purpose) (n : Node) (g : Tree) (gen : ℕ) (cs : List (Stored Clause)) → IsListed t.view (listed_goal q g) gen None cs
    → result_in t e n (tried_by q g) Fail ≡ next_clause (limits_in t e) q (state_in t e) g n cs
unfolding next_clause
nothing_next t e q n g gen [] listed = refl
nothing_next t e q n g gen (c ∷ cs) listed = absurd listed.front

-- The clause is tried in the search `d`, to which a choice point was added.
pub one_of_more : (t : Setting) (q : Purpose) (e d f : Search) (goal : Place) (rest gen height : ℕ) (found : Found Tree) (cs : List (Stored Clause)) (o : Outcome)
    → found.more ≡ true
    → IsListed t.view (listed_goal q (reads t.view e.store goal)) gen (Some found) cs
    → (let x : Search = record e { choices = d.choices } in d ≡ x)
    → choices_of t.view d
    ≡ clauses q (reads t.view e.store goal) (t.view.left (listed_goal q (reads t.view e.store goal)) gen found.place) (node_of t.view e rest) ∷ choices_of t.view e
    → height ≡ length (choices_of t.view e)
    → ((c : Stored Clause) → clause_in (term_by (text_of t.view.names) found.clause) ≡ c.clause → found.place ≡ c.place
    → result_in t f (node_of t.view d rest) (tried_by q (reads t.view d.store goal)) o
    ≡ tried (limits_in t d) q (state_in t d) (reads t.view d.store goal) (node_of t.view d rest) height c)
    → result_in t f (node_of t.view e rest) (tried_by q (reads t.view e.store goal)) o
    ≡ next_clause (limits_in t e) q (state_in t e) (reads t.view e.store goal) (node_of t.view e rest) cs
unfolding next_clause
one_of_more t q e d f goal rest gen height found [] o more listed kept choices at ran = absurd listed.front
one_of_more t q e d f goal rest gen height found (c ∷ []) o more listed kept choices at ran =
    absurd (false≢true (sym listed.front.more ∙ more))
one_of_more t q e d f goal rest gen height found (c ∷ (k ∷ ks)) o more listed kept choices at ran =
    let v = t.view in
    let g = reads v e.store goal in
    let n = node_of v e rest in
    let x : Search = record e { choices = d.choices } in
    let there =
    subst (λ (y : Search). result_in t f (node_of v y rest) (tried_by q (reads v y.store goal)) o
    ≡ tried (limits_in t y) q (state_in t y) (reads v y.store goal) (node_of v y rest) height c) kept (ran c listed.front.clause listed.front.place) in
    let state : state_in t x ≡ record (state_in t e) { choices = clauses q g (k ∷ ks) n ∷ choices_of v e } =
    state_by t.doing t.doing (choices_of v x) (clauses q g (k ∷ ks) n ∷ choices_of v e) e.next_variable e.next_variable e.inferences e.inferences t.output refl
    (sym (ap (choices_of v) kept) ∙ choices ∙ ap (λ l. clauses q g l n ∷ choices_of v e) (listed.left more)) refl refl in
    there ∙ ap₂ (λ (s : State) h. tried (limits_in t e) q s g n h c) state at

-- The last one leaves no choice point.
pub one_alone : (t : Setting) (q : Purpose) (e f : Search) (goal : Place) (rest gen height : ℕ) (found : Found Tree) (cs : List (Stored Clause)) (o : Outcome)
    → found.more ≡ false
    → IsListed t.view (listed_goal q (reads t.view e.store goal)) gen (Some found) cs
    → height ≡ length (choices_of t.view e)
    → ((c : Stored Clause) → clause_in (term_by (text_of t.view.names) found.clause) ≡ c.clause → found.place ≡ c.place
    → result_in t f (node_of t.view e rest) (tried_by q (reads t.view e.store goal)) o
    ≡ tried (limits_in t e) q (state_in t e) (reads t.view e.store goal) (node_of t.view e rest) height c)
    → result_in t f (node_of t.view e rest) (tried_by q (reads t.view e.store goal)) o
    ≡ next_clause (limits_in t e) q (state_in t e) (reads t.view e.store goal) (node_of t.view e rest) cs
unfolding next_clause
one_alone t q e f goal rest gen height found [] o last listed at ran = absurd listed.front
one_alone t q e f goal rest gen height found (c ∷ []) o last listed at ran =
    ran c listed.front.clause listed.front.place
    ∙ ap (λ h. tried (limits_in t e) q (state_in t e) (reads t.view e.store goal) (node_of t.view e rest) h c) at
one_alone t q e f goal rest gen height found (c ∷ (k ∷ ks)) o last listed at ran = absurd (false≢true (sym last ∙ listed.front.more))

-- Whether a choice point is made

several_is : (text : ℕ → List ℕ) (f : Option (Found Tree)) (cs : List (Stored Clause)) → IsFront term_by text f cs → several cs ≡ has_more f
several_is text None [] front = refl
several_is text None (c ∷ cs) front = absurd front
several_is text (Some f) [] front = absurd front
several_is text (Some f) (c ∷ []) front = sym front.more
several_is text (Some f) (c ∷ (k ∷ ks)) front = sym front.more

full_is : (t : Setting) (e : Search) (g : Tree) (gen : ℕ) (f : Option (Found Tree)) (cs : List (Stored Clause)) (b : Bool) → IsListed t.view g gen f cs
    → b ≡ (has_more f && nat_le e.budgets.choices (length e.choices.items))
    → (several cs && nat_le e.budgets.choices (length (choices_of t.view e))) ≡ b
full_is t e g gen f cs b listed is =
    ap₂ (λ x k. x && nat_le e.budgets.choices k) (several_is (text_of t.view.names) f cs listed.front) (length_choices t.view e) ∙ sym is

pub no_choice : (t : Setting) (e : Search) (q : Purpose) (n : Node) (g : Tree) (gen : ℕ) (f : Option (Found Tree)) (cs : List (Stored Clause)) (b : Bool)
    → IsListed t.view (listed_goal q g) gen f cs → b ≡ (has_more f && nat_le e.budgets.choices (length e.choices.items)) → b ≡ true
    → result_in t e n (tried_by q g) (Raise Choices) ≡ first_clause (limits_in t e) q (state_in t e) g n cs
no_choice t e q n g gen f cs b listed is full =
    let s = state_in t e in
    sym (ap (λ z. cond z (raised s n no_choices (tried_by q g)) (next_clause (limits_in t e) q s g n cs)) (full_is t e (listed_goal q g) gen f cs b listed is ∙ full))

pub some_choice : (t : Setting) (e : Search) (q : Purpose) (n : Node) (g : Tree) (gen : ℕ) (f : Option (Found Tree)) (cs : List (Stored Clause)) (b : Bool) (r : State)
    → IsListed t.view (listed_goal q g) gen f cs → b ≡ (has_more f && nat_le e.budgets.choices (length e.choices.items)) → b ≡ false
    → r ≡ next_clause (limits_in t e) q (state_in t e) g n cs
    → r ≡ first_clause (limits_in t e) q (state_in t e) g n cs
some_choice t e q n g gen f cs b r listed is room ran =
    let s = state_in t e in
    ran ∙ sym (ap (λ z. cond z (raised s n no_choices (tried_by q g)) (next_clause (limits_in t e) q s g n cs)) (full_is t e (listed_goal q g) gen f cs b listed is ∙ room))
