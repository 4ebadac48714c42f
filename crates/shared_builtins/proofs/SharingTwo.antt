-- What predicates of two arguments come to.
use Rattle.std.proofs.Common.{◌≡◌, ℕ, true, [], ◌∷◌, ◌++◌, map, Option, Some, None, IsSome, refl, sym, ap, ap₂, subst, ◌∙◌}
use Rattle.std.specs.List.{All}
use Rattle.std.proofs.lemmas.List.Elements.{All-append, All-cons, All-nil}
use Rattle.pl_term.specs.Tree.{Chars, Tree, Trees, var, int, atom, comp, none, more}
use Rattle.pl_model.specs.BuiltinRows.{error}
use Rattle.pl_model.specs.Balls.{uninstantiation_error}
use Rattle.pl_model.specs.Checks.{atom_error, bound_error, callable_error, error_if, first_error, text_of_atom}
use Rattle.pl_model.specs.Requests.{all_flags, create_thread, get_message, join_thread, peek_message, put_flag, send_message}
use Rattle.pl_model.specs.SharedBuiltins.{asks_for, creates_thread, creates_with, fixed_error, flag_error, flags_row, gets_from, gives_row, joins, lists_flags, message_row, no_options, peeks_at, puts_flag, sends, status_row, succeeds_with, unless, value_error}
use Rattle.pl_model.specs.Terms.{is_variable}
use Rattle.std.specs.Prelude.{not}
use Rattle.std.proofs.Common.{Vec, Global}
use Rattle.atom_api.specs.Names.{Names}
use Rattle.term_store.specs.declared.words.Place.{Place}
use Rattle.term_store.specs.Contents.{Contents, term_at}
use Rattle.term_store.specs.Heap.{atom_name}
use Rattle.term_store.specs.NumberedNames.{names_of}
use Rattle.world_api.specs.declared.visit.Visit.TheVariants as visits
use Rattle.world_api.specs.Texts as worlds
use Rattle.world_builtins.specs.Spelling.{reads}
use Rattle.shared_builtins.specs.declared.shared.Shared.TheVariants as comes
use Rattle.shared_builtins.specs.Checks.{atom_in, value_among, value_in}
use Rattle.shared_builtins.specs.Kept.{IsKept}
use Rattle.shared_builtins.specs.Shared.{ComesTo}
use Rattle.shared_builtins.proofs.Naming.{name_told}
use Rattle.shared_builtins.proofs.Sharing.{one_error}

-- A value that passed its check is an atom.
value_is : (v : Tree) (f : Option ℕ) → value_among f (atom_in v) ≡ true → (g : Chars) × (v ≡ atom g)
value_is (atom g) f e = (g, refl)
value_is (var x) None e = absurd cc
value_is (var x) (Some a) e = absurd cc
value_is (int i) None e = absurd cc
value_is (int i) (Some a) e = absurd cc
value_is (comp g t ts) None e = absurd cc
value_is (comp g t ts) (Some a) e = absurd cc

pub value_passed : (f v : Tree) → value_in f v ≡ true → (g : Chars) × (v ≡ atom g)
value_passed f v e = value_is v (atom_in f) e

module _ (m : Names) (s : Contents) (first second : Place) where
  abbrev T : Tree
  T = reads m s first

  abbrev U : Tree
  U = reads m s second

  abbrev ts : Trees
  ts = more T (more U none)

  -- Flags

  pub flag_put : (a b : ℕ) → term_at s first ≡ atom (atom_name a) → term_at s second ≡ atom (atom_name b) → IsSome (m a) → IsSome (m b)
      → first_error (bound_error T ∷ (bound_error U ∷ (atom_error T ∷ (flag_error T ∷ (fixed_error T ∷ (value_error T U ∷ [])))))) ≡ None
      → ComesTo m s ts (puts_flag T U) (comes.Asks (visits.PutFlag a b))
  flag_put a b fa fb ha hb e = (
    _,
    _,
    record {
      means =
          ap (λ o. unless o (asks_for (put_flag (text_of_atom T) (text_of_atom U)) (succeeds_with ts))) e
          ∙ ap₂ (λ x y. asks_for (put_flag (text_of_atom x) (text_of_atom y)) (succeeds_with ts)) (name_told m s first a fa) (name_told m s second b fb);
      asks = refl;
      held = All-cons (λ k. IsSome (m k)) a (b ∷ []) ha (All-cons (λ k. IsSome (m k)) b [] hb (All-nil (λ k. IsSome (m k))));
      by_names = tt;
    },
  )

  pub flag_refused : (x : Tree) → first_error (bound_error T ∷ (bound_error U ∷ (atom_error T ∷ (flag_error T ∷ (fixed_error T ∷ (value_error T U ∷ [])))))) ≡ Some x
      → puts_flag T U ≡ gives_row (error x)
  flag_refused x e = ap (λ o. unless o (asks_for (put_flag (text_of_atom T) (text_of_atom U)) (succeeds_with ts))) e

  pub flags_listed : first_error (atom_error T ∷ (flag_error T ∷ [])) ≡ None → ComesTo m s ts (lists_flags T U) (comes.Asks visits.AllFlags)
  flags_listed e = (_, _, record { means = ap (λ o. unless o (asks_for all_flags flags_row)) e; asks = refl; held = All-nil (λ a. IsSome (m a)); by_names = tt })

  pub flags_refused : (x : Tree) → first_error (atom_error T ∷ (flag_error T ∷ [])) ≡ Some x → lists_flags T U ≡ gives_row (error x)
  flags_refused x e = ap (λ o. unless o (asks_for all_flags flags_row)) e

  -- Threads

  abbrev thread_checks : Option Tree
  thread_checks = first_error (bound_error T ∷ (callable_error T ∷ (error_if (not (is_variable U)) (uninstantiation_error U) ∷ [])))

  pub thread_created : (k : Tree) (v : Vec ℕ Global) → v.items ≡ [] → IsKept m T k → thread_checks ≡ None → ComesTo m s ts (creates_thread T U) (comes.Asks (visits.CreateThread k v None))
  thread_created k v empty h e = (
    _,
    _,
    record {
      means = ap (λ o. unless o (creates_with T (λ t. more T (more t none)) no_options)) e;
      asks = ap₂ (λ x xs. create_thread x xs None) (sym h.stands) (sym (ap (map (worlds.text_of m)) empty));
      held =
          All-append (λ a. IsSome (m a)) (names_of k) (v.items ++ []) h.held
          (subst (λ xs. All (λ a. IsSome (m a)) (xs ++ [])) (sym empty) (All-nil (λ a. IsSome (m a))));
      by_names = tt;
    },
  )

  pub thread_refused : (x : Tree) → thread_checks ≡ Some x → creates_thread T U ≡ gives_row (error x)
  thread_refused x e = ap (λ o. unless o (creates_with T (λ t. more T (more t none)) no_options)) e

  -- Threads and queues by their names

  abbrev named_check : Option Tree
  named_check = first_error (bound_error T ∷ [])

  pub joined_as : (k : Tree) → IsKept m T k → named_check ≡ None → ComesTo m s ts (joins T U) (comes.Asks (visits.JoinThread k))
  joined_as k h e = (
    _,
    _,
    record {
      means = ap (λ o. unless o (asks_for (join_thread T) (status_row (λ t. more T (more t none))))) (sym (one_error (bound_error T)) ∙ e);
      asks = ap join_thread (sym h.stands);
      held = h.held;
      by_names = tt;
    },
  )

  pub join_refused : (x : Tree) → named_check ≡ Some x → joins T U ≡ gives_row (error x)
  join_refused x e = ap (λ o. unless o (asks_for (join_thread T) (status_row (λ t. more T (more t none))))) (sym (one_error (bound_error T)) ∙ e)

  pub sent : (j k : Tree) → IsKept m T j → IsKept m U k → named_check ≡ None → ComesTo m s ts (sends T U) (comes.Asks (visits.SendMessage j k))
  sent j k h i e = (
    _,
    _,
    record {
      means = ap (λ o. unless o (asks_for (send_message T U) (succeeds_with ts))) (sym (one_error (bound_error T)) ∙ e);
      asks = ap₂ send_message (sym h.stands) (sym i.stands);
      held = All-append (λ a. IsSome (m a)) (names_of j) (names_of k) h.held i.held;
      by_names = tt;
    },
  )

  pub send_refused : (x : Tree) → named_check ≡ Some x → sends T U ≡ gives_row (error x)
  send_refused x e = ap (λ o. unless o (asks_for (send_message T U) (succeeds_with ts))) (sym (one_error (bound_error T)) ∙ e)

  pub got_from : (j k : Tree) → IsKept m T j → IsKept m U k → named_check ≡ None → ComesTo m s ts (gets_from T U) (comes.Asks (visits.GetMessage (Some j) k))
  got_from j k h i e = (
    _,
    _,
    record {
      means = ap (λ o. unless o (asks_for (get_message (Some T) U) (message_row (λ t. more T (more t none))))) (sym (one_error (bound_error T)) ∙ e);
      asks = ap₂ (λ x y. get_message (Some x) y) (sym h.stands) (sym i.stands);
      held = All-append (λ a. IsSome (m a)) (names_of j) (names_of k) h.held i.held;
      by_names = tt;
    },
  )

  pub get_refused : (x : Tree) → named_check ≡ Some x → gets_from T U ≡ gives_row (error x)
  get_refused x e = ap (λ o. unless o (asks_for (get_message (Some T) U) (message_row (λ t. more T (more t none))))) (sym (one_error (bound_error T)) ∙ e)

  pub peeked_from : (j k : Tree) → IsKept m T j → IsKept m U k → named_check ≡ None → ComesTo m s ts (peeks_at T U) (comes.Asks (visits.PeekMessage (Some j) k))
  peeked_from j k h i e = (
    _,
    _,
    record {
      means = ap (λ o. unless o (asks_for (peek_message (Some T) U) (message_row (λ t. more T (more t none))))) (sym (one_error (bound_error T)) ∙ e);
      asks = ap₂ (λ x y. peek_message (Some x) y) (sym h.stands) (sym i.stands);
      held = All-append (λ a. IsSome (m a)) (names_of j) (names_of k) h.held i.held;
      by_names = tt;
    },
  )

  pub peek_refused : (x : Tree) → named_check ≡ Some x → peeks_at T U ≡ gives_row (error x)
  peek_refused x e = ap (λ o. unless o (asks_for (peek_message (Some T) U) (message_row (λ t. more T (more t none))))) (sym (one_error (bound_error T)) ∙ e)
