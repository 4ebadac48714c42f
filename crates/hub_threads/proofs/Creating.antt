-- A queue is made, and names are answered.
use Rattle.std.proofs.Common.{◌≡◌, ◌<◌, ℕ, suc, ◌+◌, List, [], ◌∷◌, ◌++◌, length, Option, Some, None, Bool, true, false, refl, sym, ap, subst, ◌∙◌, append-nil, arith, codes, eq-eqb, inl, inr}
use Rattle.std.specs.Prelude.{◌^◌, ◌||◌, IfNone, if◌then◌else◌, pos}
use Rattle.std.specs.List.{All}
use Rattle.std.specs.Option.{IsSome}
use Rattle.std.proofs.lemmas.Bool.{cases_eq, le-ltb, ne_eqb}
use Rattle.std.proofs.lemmas.List.Elements.{All-cons, All-nil}
use Rattle.pl_term.specs.Tree.{Chars, Tree, atom, int}
use Rattle.pl_term.specs.Variables.{is_in}
use Rattle.pl_model.specs.ErrorTerms.{permission_error}
use Rattle.pl_model.specs.History.{Entry, History, make_queue}
use Rattle.pl_model.specs.Requests.{Request, create_queue, named, own_name}
use Rattle.pl_model.specs.Service.{alias_taken, name_term, reads, refuses, serve, served_now, updates}
use Rattle.pl_model.specs.SharedState.{state_at}
use Rattle.pl_model.specs.Threads.{alias_of, counted, is_alias, queue_made}
use Rattle.atom_api.specs.Interns.{Interns, asked_with, refused}
use Rattle.atom_api.specs.Names.{Names, with_name}
use Rattle.atom_api.specs.declared.interned.Interned.{Interned}
use Rattle.atom_api.specs.declared.interned.Interned.TheVariants.{Is, Full, Again, TooLong}
use Rattle.atom_api.specs.declared.interned.Interned.TheVariants as interned
use Rattle.atom_words.specs.declared.view.View.{View}
use Rattle.hub_threads.specs.declared.held.fault.QueueFault.TheVariants.{AliasTaken}
use Rattle.hub_threads.specs.Distinct.{has_number}
use Rattle.hub_threads.specs.Held.{Held, IsSound, thread_numbers}
use Rattle.hub_threads.specs.Refusals.{make_refusal}
use Rattle.hub_threads.specs.Serving.{unless}
use Rattle.hub_threads.specs.Weights.{IsBelow, weigh}
use Rattle.hub_threads.proofs.Below.{stays_below}
use Rattle.hub_threads.proofs.Served.{all_changes, served}
use Rattle.hub_threads.proofs.Weighing.{keeps_all}
use Rattle.world_api.specs.Gains.{Gains}
use Rattle.world_api.specs.Replies.{name_term as reply_term}
use Rattle.world_api.specs.Texts.{or_no_text, text_of}
use Rattle.world_api.specs.declared.reply.Name.{Name}
use Rattle.world_api.specs.declared.reply.Name.TheVariants.{Number, Alias}
use Rattle.world_api.specs.declared.reply.Reply.TheVariants.{Named}
use Rattle.counted_terms.specs.CountedTerms.{said}
use Rattle.counted_terms.specs.Keeping.{HoldsOn, kept}
use Rattle.counted_terms.specs.Rows.{Answers, row_names, row_refusals}
use Rattle.counted_terms.proofs.MadeTerms.{held_some}
use Rattle.hub_threads.specs.Rows.{Changed, Decides, row_named, updates_in}
use Rattle.hub_threads.specs.Threads.{IsThreads}
use Rattle.hub_threads.proofs.RefusedRows.{updates_made}
use Rattle.hub_threads.proofs.Steps.{goals_stay, moves_on}

counted_up : (c : ℕ) → counted c c ≡ c + 1
counted_up c = ap (λ b. if b then c else suc c) (le-ltb c c (omega arith)) ∙ (let e : suc c ≡ c + 1 = omega arith in e)

module _ (q r : Held Tree) (c : ℕ) (a : Option Chars) (sound : IsSound q) (made : r ≡ record q { state = queue_made c a q.state }) where
  abbrev after : Held Tree
  after = record q { state = queue_made c a q.state }

  pub made_weighs : (w : Tree → ℕ) → weigh w r ≡ weigh w q
  made_weighs w = ap (weigh w) made ∙ (keeps_all w q sound).made c a

  pub made_below : (g d : ℕ) → d ≡ c + 1 → IsBelow c g q → IsBelow d (g + 1) r
  made_below g d next below = subst (IsBelow d (g + 1)) (sym made)
      ((stays_below (counted c c) g after ((stays_below c g q below).made c a)).later d (g + 1) (let e = counted_up c in let n = next in omega (arith, e, n)) (omega arith))

  pub made_stands : (k : View) (e goals : ℕ) (h : History) (d : ℕ) → d ≡ c + 1 → IsThreads k q c goals h → IsThreads k r d goals (h ++ record { engine = e; kind = make_queue c a } ∷ [])
  made_stands k e goals h d next stands =
      let u = make_queue c a in
      let x : Entry = record { engine = e; kind = u } in
      subst (λ (n : ℕ). IsThreads k r n goals (h ++ x ∷ [])) (counted_up c ∙ sym next)
      (subst (λ (z : Held Tree). IsThreads k z (counted c c) goals (h ++ x ∷ [])) (sym made)
      (moves_on k k q c goals h sound (λ t inside. refl) stands e u (queue_made c a) (counted c) after
      (λ z. refl)
      (λ z. refl)
      (sym ((all_changes (said (kept k)) q.state).made c a))
      (λ b. or_false (has_number b (thread_numbers q.state.threads) || is_in b q.state.joined))
      (goals_stay k k q c goals h sound (λ t inside. refl) stands e u (queue_made c a) (counted c) after x (λ b. refl))))
    where
      or_false : (b : Bool) → (b || false) ≡ b
      or_false true = refl
      or_false false = refl

module _ (k : View) (q : Held Tree) (c goals : ℕ) (h : History) (stands : IsThreads k q c goals h) (e : ℕ) where
  -- without an alias
  pub unnamed : served_now e goals h (create_queue None) ≡ updates (length h) (named (int (pos c))) (make_queue c None)
  unfolding serve
  unnamed = ap (λ n. updates (length h) (named (int (pos n))) (make_queue n None)) stands.number

  -- with one that is free, and with one that is not
  makes : (a : Chars) → served_now e goals h (create_queue (Some a)) ≡ unless (make_refusal q.state (Some a)) (λ f. alias_taken (codes "message_queue") a) (updates (length h) (named (atom a)) (make_queue c (Some a)))
  makes a = (served (said (kept k)) q.state (state_at goals h (length h)) stands.threads).makes e (length h) a
      ∙ ap (λ n. unless (make_refusal q.state (Some a)) (λ f. alias_taken (codes "message_queue") a) (updates (length h) (named (atom a)) (make_queue n (Some a)))) stands.number

  pub free : (a : Chars) → is_alias q.state a ≡ false → served_now e goals h (create_queue (Some a)) ≡ updates (length h) (named (atom a)) (make_queue c (Some a))
  free a is = makes a ∙ ap (λ b. unless (if b then Some AliasTaken else None) (λ f. alias_taken (codes "message_queue") a) (updates (length h) (named (atom a)) (make_queue c (Some a)))) is

  pub taken : (a : Chars) → is_alias q.state a ≡ true → served_now e goals h (create_queue (Some a)) ≡ refuses (permission_error (codes "create") (codes "message_queue") (atom a))
  taken a is = makes a ∙ ap (λ b. unless (if b then Some AliasTaken else None) (λ f. alias_taken (codes "message_queue") a) (updates (length h) (named (atom a)) (make_queue c (Some a)))) is

  -- the engine's name
  names_as : served_now e goals h own_name ≡ reads (named (name_term e (alias_of q.state e)))
  names_as = (served (said (kept k)) q.state (state_at goals h (length h)) stands.threads).names e (length h)

  pub own_number : (text : ℕ → Chars) → alias_of q.state e ≡ None → Answers goals e text own_name h (Named (Number e)) None
  own_number text none = record { reply = named (int (pos e)); serves = names_as ∙ ap (λ o. reads (named (name_term e o))) none; says = refl }

  pub own_alias : (m : Names) (a : ℕ) (t : Chars) → alias_of q.state e ≡ Some t → m a ≡ Some t → Answers goals e (text_of m) own_name h (Named (Alias a)) None
  own_alias m a t some_ held = record {
    reply = named (atom t);
    serves = names_as ∙ ap (λ o. reads (named (name_term e o))) some_;
    says = ap (λ (o : Option Chars). named (atom (or_no_text a o))) (sym held);
  }

-- The atom of a text that was interned
pub interned_text : (m n : Names) (a : ℕ) (t : Chars) → n ≡ with_name m a t → n a ≡ Some t
interned_text m n a t e = ap (λ (f : Names). f a) e ∙ ap (λ b. if b then Some t else m a) (eq-eqb a a refl)

-- THE ANSWERS OF INTERN
module _ (m n : Names) (t : Chars) where
  pub interned_holds : (i : Interned) → Interns m t i n → HoldsOn m n
  interned_holds (Is a) h = λ b u e. elim (cases_eq b a) [
    | inl is ↦ subst (λ (x : ℕ). n x ≡ Some u) (sym is) (interned_text m n a t h.now ∙ ap Some (sym (h.own u (ap m (sym is) ∙ e))))
    | inr ne ↦ ap (λ (f : Names). f b) h.now ∙ ap (λ c. if c then Some t else m b) (ne_eqb b a ne) ∙ e
  ]
  interned_holds (Full p) h = λ b u e. ap (λ (f : Names). f b) h.1 ∙ e
  interned_holds (Again c) h = λ b u e. ap (λ (f : Names). f b) h.1 ∙ e
  interned_holds (TooLong s) h = λ b u e. ap (λ (f : Names). f b) h.2 ∙ e
  interned_holds (interned.Worn w) h = λ b u e. ap (λ (f : Names). f b) h.1 ∙ e
  interned_holds interned.Memory h = λ b u e. ap (λ (f : Names). f b) h.1 ∙ e

  pub interned_named : (i : Interned) → Interns m t i n → All (λ a. IsSome (n a)) (row_names (row_named i))
  interned_named (Is a) h = All-cons (λ k. IsSome (n k)) a [] (held_some n a t (interned_text m n a t h.now)) (All-nil (λ k. IsSome (n k)))
  interned_named (Full p) h = All-nil (λ k. IsSome (n k))
  interned_named (Again c) h = All-nil (λ k. IsSome (n k))
  interned_named (TooLong s) h = All-nil (λ k. IsSome (n k))
  interned_named (interned.Worn w) h = All-nil (λ k. IsSome (n k))
  interned_named interned.Memory h = All-nil (λ k. IsSome (n k))

  pub interned_decides : (i : Interned) → Interns m t i n → (k : View) (q : Held Tree) (count goals : ℕ) (h : History) (e : ℕ) → alias_of q.state e ≡ Some t → IsThreads k q count goals h → Decides k n e own_name q count goals h (row_named i)
  interned_decides (Is a) i k q count goals h e some_ stands = (own_alias k q count goals h stands e n a t some_ (interned_text m n a t i.now), stands)
  interned_decides (Full p) i k q count goals h e some_ stands = stands
  interned_decides (Again c) i k q count goals h e some_ stands = stands
  interned_decides (TooLong s) i k q count goals h e some_ stands = stands
  interned_decides (interned.Worn w) i k q count goals h e some_ stands = stands
  interned_decides interned.Memory i k q count goals h e some_ stands = stands

pub interned_refusals : (i : Interned) → row_refusals (row_named i) ≡ refused i
interned_refusals (Is a) = refl
interned_refusals (Full p) = refl
interned_refusals (Again c) = refl
interned_refusals (TooLong s) = refl
interned_refusals (interned.Worn w) = refl
interned_refusals interned.Memory = refl

pub interned_reads : (i : Interned) → updates_in (row_named i) ≡ 0
interned_reads (Is a) = refl
interned_reads (Full p) = refl
interned_reads (Again c) = refl
interned_reads (TooLong s) = refl
interned_reads (interned.Worn w) = refl
interned_reads interned.Memory = refl

module _ (P : Chars → Type 0) (t : Chars) (is : P t) (old new : List Chars) where
  one_more : Some new ≡ Some (old ++ t ∷ []) → Gains P (Some old) (Some new)
  one_more e = record { more = t ∷ []; asked = e; each = All-cons P t [] is (All-nil P) }

  no_more : Some new ≡ Some old → Gains P (Some old) (Some new)
  no_more e = record { more = []; asked = e ∙ ap Some (sym (append-nil old)); each = All-nil P }

  pub interned_asks : (i : Interned) → Some new ≡ asked_with i t (Some old) → Gains P (Some old) (Some new)
  interned_asks (Is a) e = one_more e
  interned_asks (Full p) e = one_more e
  interned_asks (Again c) e = one_more e
  interned_asks (TooLong s) e = no_more e
  interned_asks (interned.Worn w) e = one_more e
  interned_asks interned.Memory e = no_more e

pub asks_nothing : (P : Chars → Type 0) (old : List Chars) → Gains P (Some old) (Some old)
asks_nothing P old = record { more = []; asked = ap Some (sym (append-nil old)); each = All-nil P }

-- A queue was made.
pub made_changes : (q r : Held Tree) (c d : ℕ) (a : Option Chars) → IsSound q → r ≡ record q { state = queue_made c a q.state } → d ≡ c + 1
    → (k : View) (m : Names) (e goals g : ℕ) (h : History) (v : Request) (t : Tree) (x : Name)
    → length h ≡ g
    → g < 2 ^ 47
    → served_now e goals h v ≡ updates (length h) (named t) (make_queue c a)
    → t ≡ reply_term (text_of m) x
    → IsThreads k q c goals h
    → Changed k m e v r d goals h (Named x)
made_changes q r c d a sound made next k m e goals g h v t x long low serves says stands = record {
  update = make_queue c a;
  answers = record {
    reply = named t;
    serves = serves ∙ updates_made (length h) (named t) (make_queue c a) (let l = long in let b = low in omega (arith, l, b));
    says = ap named says;
  };
  stands = made_stands q r c a sound made k e goals h d next stands;
  fresh = λ b f. absurd (cc);
}

-- Where the alias is free, the queue was made.
none_is : {P : Type 0} (b : Bool) → b ≡ false → IfNone (if b then Some AliasTaken else None) P → P
none_is true e h = absurd (let f : true ≡ false = e in cc)
none_is false e h = h

pub free_made : {P : Type 0} (q : Held Tree) (a : Chars) → is_alias q.state a ≡ false → IfNone (make_refusal q.state (Some a)) P → P
free_made q a e h = none_is (is_alias q.state a) e h
