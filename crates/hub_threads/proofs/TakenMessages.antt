-- A message is taken, or looked at.
use Rattle.std.proofs.Common.{◌≡◌, ◌<◌, ◌≤◌, ℕ, ◌+◌, [], ◌∷◌, ◌++◌, length, Option, Some, None, Result, Ok, Err, Bool, true, false, refl, sym, ap, subst, ◌∙◌, arith}
use Rattle.std.specs.Prelude.{◌^◌, ◌||◌, IfOk, IsSome, codes, option_map}
use Rattle.std.specs.List.{All, sum_by}
use Rattle.std.proofs.lemmas.List.Elements.{All-nil}
use Rattle.std.proofs.lemmas.Option.{same_Some}
use Rattle.pl_term.specs.Tree.{Tree}
use Rattle.pl_term.specs.Variables.{is_in}
use Rattle.pl_model.specs.declared.threads.Name.{Name as SharedName}
use Rattle.pl_model.specs.declared.threads.Message.{Message}
use Rattle.pl_model.specs.declared.threads.On.TheVariants.{Queue as OnQueue}
use Rattle.pl_model.specs.ErrorTerms.{resource_error}
use Rattle.pl_model.specs.FirstArguments.{unify_apart}
use Rattle.pl_model.specs.History.{History, Kind, begins, has_begun}
use Rattle.pl_model.specs.History as entries
use Rattle.pl_term.specs.declared.memory.Memory.{Memory as NoMemory}
use Rattle.pl_model.specs.Requests.{Request, get_message, message, no_message, peek_message}
use Rattle.pl_model.specs.Service.{answers, got, matches, name_of, no_queue, peeked, reads, refuses, served_now, waits}
use Rattle.pl_model.specs.SharedState.{state_at}
use Rattle.pl_model.specs.Threads.{Queue, first_message, message_taken, queue_named, queue_numbered}
use Rattle.atom_api.specs.Names.{Names}
use Rattle.atom_words.specs.declared.view.View.{View}
use Rattle.atom_table.specs.Naming.{names}
use Rattle.term_store.specs.NumberedNames.{names_of, unify_by_number}
use Rattle.hub_threads.specs.Distinct.{has_number}
use Rattle.hub_threads.specs.Held.{Held, IsSound, Takes, contents, named_message, thread_numbers}
use Rattle.hub_threads.specs.Serving.{found, message_as}
use Rattle.hub_threads.specs.Weights.{IsBelow, weigh}
use Rattle.hub_threads.proofs.Below.{stays_below}
use Rattle.hub_threads.proofs.Served.{all_changes, served}
use Rattle.hub_threads.proofs.Weighing.{keeps_all}
use Rattle.world_api.specs.declared.answer.On.TheVariants.{Queue as WaitsQueue, Thread as WaitsThread}
use Rattle.world_api.specs.declared.reply.Reply.TheVariants.{Message as Handed}
use Rattle.counted_terms.specs.Agreements.{Agreed}
use Rattle.counted_terms.specs.CountedTerms.{IsCounted, naming, said}
use Rattle.counted_terms.specs.Keeping.{kept, tally}
use Rattle.counted_terms.specs.Rows.{row_names, row_refusals}
use Rattle.counted_terms.specs.Sharing.{Counts, Restored, Sums}
use Rattle.counted_terms.proofs.Sharing.{forget_restores, restored_wider}
use Rattle.counted_terms.specs.declared.row.Row.{Row}
use Rattle.counted_terms.specs.declared.row.Row.TheVariants.{Reads, Makes, Waits, NeedsAtoms, Retry, Worn, Memory}
use Rattle.hub_threads.specs.Rows.{Changed, Decides, WaitsOnQueue, row_of, updates_in}
use Rattle.hub_threads.specs.Threads.{IsStored, IsThreads, thread_counts}
use Rattle.hub_threads.proofs.RefusedRows.{updates_made, updates_refused}
use Rattle.hub_threads.proofs.Same.{find_same}
use Rattle.hub_threads.proofs.Steps.{goals_stay, moves_on, stays}

-- WHAT TAKING ANSWERS
pub takes_none : (o : Option (Message Tree)) (old new : Held Tree) → Takes o None old new → (o ≡ None) × (new ≡ old)
takes_none None old new h = (refl, h.1)
takes_none (Some m) old new h = absurd (let e : None ≡ Some (named_message m) = h.0 in cc)

pub record Took (o : Option (Message Tree)) (m : Tree) (old new : Held Tree) : Type 0 where
  pub message : Message Tree
  pub found : o ≡ Some message
  pub content : m ≡ message.content
  pub left : new ≡ record old { state = message_taken message.place old.state }

pub takes_some : (o : Option (Message Tree)) (p : ℕ × Tree) (old new : Held Tree) → Takes o (Some p) old new → Took o p.1 old new
takes_some None p old new h = absurd (let e : Some p ≡ None = h.0 in cc)
takes_some (Some y) p old new h = record { message = y; found = refl; content = ap (λ (z : ℕ × Tree). z.1) (same_Some p (named_message y) h.0); left = h.1 }

-- A message that was looked at
pub record Saw (o : Option (Message Tree)) (m : Tree) : Type 0 where
  pub message : Message Tree
  pub found : o ≡ Some message
  pub content : m ≡ message.content

pub sees_some : (o : Option (Message Tree)) (p : ℕ × Tree) → Some p ≡ option_map named_message o → Saw o p.1
sees_some None p e = absurd (let f : Some p ≡ None = e in cc)
sees_some (Some y) p e = record { message = y; found = refl; content = ap (λ (z : ℕ × Tree). z.1) (same_Some p (named_message y) e) }

pub sees_none : (o : Option (Message Tree)) → None ≡ option_map named_message o → o ≡ None
sees_none None e = refl
sees_none (Some y) e = absurd (let f : None ≡ Some (named_message y) = e in cc)

module _ (k : View) (q : Held Tree) (sound : IsSound q) (x : Queue Tree) (numbered_so : queue_numbered q.state x.number ≡ Some x) where
  -- the messages of the queue are stored
  pub message_stored : (t : Tree) → ((w : Tree → ℕ) → w t ≤ sum_by w (contents x.messages)) → IsStored t q
  message_stored t le w = let d = (keeps_all w q sound).dropped x.number x numbered_so in let h = le w in omega (arith, d, h)

  -- THE FIRST MESSAGE THAT UNIFIES BY NUMBERS is the first that does in texts
  pub first_alike : (v : View) (p : Tree) → Agreed v k → All (λ a. IsSome (names v a)) (names_of p) → ((t : Tree) → IsStored t q → IsCounted t k)
      → first_message (unify_by_number p) x ≡ first_message (λ m. matches (said (names v) p) (said (kept k) m)) x
  unfolding unify_apart
  first_alike v p agreed held counted =
      find_same (unify_by_number p) (λ m. matches (said (names v) p) (said (kept k) m)) x.messages
      (λ t le. agreed.unified p t held (counted t (message_stored t le)))

module _ (k : View) (q : Held Tree) (count goals : ℕ) (h : History) (stands : IsThreads k q count goals h) (e : ℕ) (y : Tree) (name : SharedName) (named : name_of y ≡ Some name) (x : Queue Tree) (there : queue_named q.state name ≡ Some x) (p : Tree) where
  abbrev term : Tree → Tree
  term t = said (kept k) t

  abbrev looked : Option (Message Tree)
  looked = first_message (λ m. matches p (term m)) x

  gets : served_now e goals h (get_message (Some y) p) ≡ got (length h) (found term p x)
  gets = (served term q.state (state_at goals h (length h)) stands.threads).gets e (length h) y p name named
      ∙ ap (λ o. elim o [ None ↦ no_queue y | Some z ↦ got (length h) (found term p z) ]) there

  peeks : served_now e goals h (peek_message (Some y) p) ≡ peeked (found term p x)
  peeks = (served term q.state (state_at goals h (length h)) stands.threads).peeks e (length h) y p name named
      ∙ ap (λ o. elim o [ None ↦ no_queue y | Some z ↦ peeked (found term p z) ]) there

  pub get_waits : looked ≡ None → served_now e goals h (get_message (Some y) p) ≡ waits
  get_waits none = gets ∙ ap (λ o. got (length h) (option_map (message_as term) o)) none

  pub peek_none : looked ≡ None → served_now e goals h (peek_message (Some y) p) ≡ reads no_message
  peek_none none = peeks ∙ ap (λ o. peeked (option_map (message_as term) o)) none

  module _ (m : Message Tree) (some_ : looked ≡ Some m) where
    pub get_takes : length h < 2 ^ 47 → served_now e goals h (get_message (Some y) p) ≡ answers (message (term m.content)) (Some (entries.take m.place))
    get_takes low = gets ∙ ap (λ o. got (length h) (option_map (message_as term) o)) some_ ∙ updates_made (length h) (message (term m.content)) (entries.take m.place) low

    pub get_worn : 2 ^ 47 ≤ length h → served_now e goals h (get_message (Some y) p) ≡ refuses (resource_error (codes "generations"))
    get_worn high = gets ∙ ap (λ o. got (length h) (option_map (message_as term) o)) some_ ∙ updates_refused (length h) (message (term m.content)) (entries.take m.place) high

    pub peek_sees : served_now e goals h (peek_message (Some y) p) ≡ reads (message (term m.content))
    peek_sees = peeks ∙ ap (λ o. peeked (option_map (message_as term) o)) some_

-- THE MESSAGE IS TAKEN OUT
module _ (q r : Held Tree) (x : Queue Tree) (m : Message Tree) (test : Tree → Bool) (sound : IsSound q) (numbered_so : queue_numbered q.state x.number ≡ Some x) (first_so : first_message test x ≡ Some m) (taken : r ≡ record q { state = message_taken m.place q.state }) where
  pub taken_weighs : (w : Tree → ℕ) → weigh w q ≡ w m.content + weigh w r
  taken_weighs w = (keeps_all w q sound).taken x.number x test m numbered_so first_so ∙ ap (λ z. w m.content + weigh w z) (sym taken)

  -- it was stored
  pub taken_stored : IsStored m.content q
  taken_stored w = let g = taken_weighs w in omega (arith, g)

  pub taken_restores : (k l : View) (g : ℕ) → ((u : Tree) → IsCounted u l → said (kept l) u ≡ said (kept k) u) → ((a : ℕ) → naming a m.content + tally l a ≡ tally k a) → Restored (thread_counts q) (thread_counts r) k l g (g + 1)
  taken_restores k l g others counts =
      restored_wider (thread_counts q) (thread_counts r) k l g g (g + 1)
      (forget_restores (thread_counts q) (thread_counts r) k l g m.content (λ a. taken_weighs (naming a)) others counts)
      (omega arith)

pub taken_below : (q r : Held Tree) (place count g : ℕ) → r ≡ record q { state = message_taken place q.state } → IsBelow count g q → IsBelow count (g + 1) r
taken_below q r place count g taken below = subst (IsBelow count (g + 1)) (sym taken)
    ((stays_below count g (record q { state = message_taken place q.state }) ((stays_below count g q below).taken place)).later count (g + 1) (omega arith) (omega arith))

pub taken_stands : (k l : View) (q r : Held Tree) (place : ℕ) → IsSound q → IsSound r → r ≡ record q { state = message_taken place q.state }
    → (e count goals : ℕ) (h : History)
    → ((t : Tree) → IsStored t r → said (kept l) t ≡ said (kept k) t)
    → IsThreads k q count goals h
    → IsThreads l r count goals (h ++ record { engine = e; kind = entries.take place } ∷ [])
taken_stands k l q r place sound sound_after taken e count goals h same stands =
    let u = entries.take place in
    let x₁ : entries.Entry = record { engine = e; kind = u } in
    let after : Held Tree = record q { state = message_taken place q.state } in
    stays k l r count goals (h ++ x₁ ∷ []) sound_after same
    (subst (λ (z : Held Tree). IsThreads k z count goals (h ++ x₁ ∷ [])) (sym taken)
    (moves_on k k q count goals h sound (λ t inside. refl) stands e u (message_taken place) (λ c. c) after
    (λ z. refl)
    (λ z. refl)
    (sym ((all_changes (said (kept k)) q.state).taken place))
    (λ b. or_false (has_number b (thread_numbers q.state.threads) || is_in b q.state.joined))
    (goals_stay k k q count goals h sound (λ t inside. refl) stands e u (message_taken place) (λ c. c) after x₁ (λ b. refl))))
  where
    or_false : (b : Bool) → (b || false) ≡ b
    or_false true = refl
    or_false false = refl

-- THE ENGINE WAITS
module _ (l : View) (n : Names) (e : ℕ) (q : Held Tree) (count goals : ℕ) (h : History) (y p : Tree) (name : SharedName) (named : name_of y ≡ Some name) (waiting : served_now e goals h (get_message (Some y) p) ≡ waits) (stands : IsThreads l q count goals h) where
  pub waits_decides : (row : Row) → WaitsOnQueue n name row → Decides l n e (get_message (Some y) p) q count goals h row
  waits_decides (Waits (WaitsQueue x)) says = (record { waiting = waiting; awaits = ap (option_map OnQueue) named ∙ ap (λ z. Some (OnQueue z)) (sym says) }, stands)
  waits_decides (Waits (WaitsThread x)) says = absurd says
  waits_decides (Reads r) says = absurd says
  waits_decides (Makes r) says = absurd says
  waits_decides (NeedsAtoms c) says = absurd says
  waits_decides (Retry c) says = absurd says
  waits_decides (Worn w) says = absurd says
  waits_decides Memory says = stands

-- nothing was changed but the counts, which are as they were
pub same_stands : (k l : View) (q : Held Tree) (count goals : ℕ) (h : History) → IsSound q → kept l ≡ kept k → IsThreads k q count goals h → IsThreads l q count goals h
same_stands k l q count goals h sound keeps stands = stays k l q count goals h sound (λ t inside. ap (λ (m : Names). said m t) keeps) stands

pub counts_same : (k l : View) (part : ℕ → ℕ) (g : ℕ) → tally l ≡ tally k → Counts part k g → Counts part l g
counts_same k l part g same counts = record {
  rest = counts.rest;
  exact = λ a. ap (λ (f : ℕ → ℕ). f a) same ∙ counts.exact a;
  few = λ a. subst (λ (n : ℕ). n ≤ g) (sym (ap (λ (f : ℕ → ℕ). f a) same)) (counts.few a);
}

-- WHAT IS TAKEN AND HANDED OVER
pub took_changes : (k l : View) (q r : Held Tree) (g : ℕ) (x : Queue Tree) (n n' : Names) (p m : Tree)
    → (sound : IsSound q) → IsSound r
    → queue_numbered q.state x.number ≡ Some x
    → (t : Took (first_message (λ y. matches (said n p) (said (kept k) y)) x) m q r)
    → ((u : Tree) → IsStored u r → said (kept l) u ≡ said (kept k) u)
    → (s : Tree) → said n' s ≡ said (kept k) m
    → g < 2 ^ 47
    → (e count goals : ℕ) (h : History) (y : Tree) (name : SharedName)
    → length h ≡ g
    → IsThreads k q count goals h
    → name_of y ≡ Some name
    → queue_named q.state name ≡ Some x
    → Changed l n' e (get_message (Some y) (said n p)) r count goals h (Handed s)
took_changes k l q r g x n n' p m sound after numbered_so t same s reads_so low e count goals h y name long stands named there =
    record {
      update = entries.take t.message.place;
      answers = record {
        reply = message (said (kept k) t.message.content);
        serves = get_takes k q count goals h stands e y name named x there (said n p) t.message t.found (let a = long in let b = low in omega (arith, a, b));
        says = ap message (sym (reads_so ∙ ap (said (kept k)) t.content));
      };
      stands = taken_stands k l q r t.message.place sound after t.left e count goals h same stands;
      fresh = λ b f. absurd (cc);
    }

-- a term of what is left is counted still
pub left_counted : (k l : View) (q r : Held Tree) (m : Tree) (rest : ℕ → ℕ)
    → Sums (thread_counts q) rest k
    → ((w : Tree → ℕ) → weigh w q ≡ w m + weigh w r)
    → ((a : ℕ) → naming a m + tally l a ≡ tally k a)
    → (t : Tree) → IsStored t r → IsCounted t l
left_counted k l q r m rest sums gone counts t inside a some_ =
    let s = sums a in let g = gone (naming a) in let c = counts a in let i = inside (naming a) in let p = some_ in omega (arith, s, g, c, i, p)

-- WHAT IS SEEN IS STORED, AND LENT
pub seen_stored : (q : Held Tree) (x : Queue Tree) (m : Message Tree) (test : Tree → Bool) → IsSound q → queue_numbered q.state x.number ≡ Some x → first_message test x ≡ Some m → IsStored m.content q
seen_stored q x m test sound numbered_so first_so w = let g = (keeps_all w q sound).taken x.number x test m numbered_so first_so in omega (arith, g)

pub lent_named : (P : ℕ → Type 0) (r : Result Tree NoMemory) → IfOk r (λ s. All P (names_of s)) → All P (row_names (row_of r))
lent_named P (Ok s) h = h
lent_named P (Err m) h = All-nil P

pub lent_reads : (r : Result Tree NoMemory) → updates_in (row_of r) ≡ 0
lent_reads (Ok s) = refl
lent_reads (Err m) = refl

pub lent_silent : (r : Result Tree NoMemory) → row_refusals (row_of r) ≡ []
lent_silent (Ok s) = refl
lent_silent (Err m) = refl

pub lent_decides : (l : View) (n : Names) (e : ℕ) (v : Request) (q : Held Tree) (count goals : ℕ) (h : History) (t : Tree) → served_now e goals h v ≡ reads (message t) → IsThreads l q count goals h
    → (r : Result Tree NoMemory) → IfOk r (λ s. said n s ≡ t) → Decides l n e v q count goals h (row_of r)
lent_decides l n e v q count goals h t serves stands (Ok s) says = (record { reply = message t; serves = serves; says = ap message (sym says) }, stands)
lent_decides l n e v q count goals h t serves stands (Err m) says = stands
