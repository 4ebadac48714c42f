-- What predicates of three arguments come to.
use Rattle.std.proofs.Common.{◌≡◌, ℕ, ◌<◌, ◌≤◌, Bool, true, false, not, List, [], ◌∷◌, ◌++◌, length, map, Vec, Global, Option, Some, None, Result, Ok, Err, IsSome, pos, negsuc, refl, sym, ap, ap₂, subst, ◌∙◌, arith}
use Rattle.std.specs.Prelude.{nat_lt}
use Rattle.std.specs.List.{All}
use Rattle.std.specs.Option.{option_map}
use Rattle.std.proofs.lemmas.Bool.Decides.{nat_tests}
use Rattle.std.proofs.lemmas.List.Elements.{All-append, All-nil}
use Rattle.pl_term.specs.Tree.{Chars, Tree, Trees, var, int, atom, comp, none, more}
use Rattle.pl_model.specs.declared.operators.Kind.{Kind}
use Rattle.pl_model.specs.BuiltinRows.{error}
use Rattle.pl_model.specs.Checks.{atom_error, bound_error, elements, first_error, integer_error, natural_of, text_of_atom}
use Rattle.pl_model.specs.Requests.{create_thread, put_operators, read_operators}
use Rattle.pl_model.specs.SharedBuiltins as shared
use Rattle.pl_model.specs.SharedBuiltins.{asks_for, creates_with, creates_with_options, gives_row, lists_operators, named_row, names_in, on_ok, operators_row, options_of, priority_error, puts_names, puts_operators, specifier_error, specifier_named, succeeds_with, thread_errors, unless}
use Rattle.atom_api.specs.Names.{Names}
use Rattle.builtin_rows.specs.Kinds.{passes}
use Rattle.builtin_rows.specs.Lists.{IsNaming}
use Rattle.term_store.specs.declared.words.Place.{Place}
use Rattle.term_store.specs.Contents.{Contents, term_at}
use Rattle.term_store.specs.Heap.{atom_name}
use Rattle.term_store.specs.NumberedNames.{names_of}
use Rattle.world_api.specs.declared.visit.Visit.TheVariants as visits
use Rattle.world_api.specs.Texts as worlds
use Rattle.world_builtins.specs.Spelling.{reads, spelled, text_of}
use Rattle.shared_builtins.specs.declared.faults.Fault.{Fault}
use Rattle.shared_builtins.specs.declared.kinds.TheConstants.{BOUND, INTEGER}
use Rattle.shared_builtins.specs.declared.names.Named.{Named}
use Rattle.shared_builtins.specs.declared.names.Named.TheVariants.{Atoms, Refused}
use Rattle.shared_builtins.specs.declared.shared.Shared.{Shared}
use Rattle.shared_builtins.specs.declared.shared.Shared.TheVariants as comes
use Rattle.shared_builtins.specs.Checks.{priority_in, specifier_in}
use Rattle.shared_builtins.specs.Faults.{fault_term}
use Rattle.shared_builtins.specs.Kept.{IsKept}
use Rattle.shared_builtins.specs.Names.{AreNamedBy}
use Rattle.shared_builtins.specs.Operators.{kind_named}
use Rattle.shared_builtins.specs.Shared.{ComesTo, operators_by, operators_of}
use Rattle.shared_builtins.proofs.Named.{specifier_told}

-- A priority that passed its check

not_lt : (b : Bool) → not b ≡ true → b ≡ false
not_lt true e = absurd cc
not_lt false e = refl

pub priority_small : (t : Tree) (n : ℕ) → t ≡ int (pos n) → priority_in t ≡ true → n ≤ 1200
priority_small t n is e =
    let there : not (nat_lt 1200 n) ≡ true = subst (λ u. priority_in u ≡ true) is e in
    let below : nat_lt 1200 n ≡ false = not_lt (nat_lt 1200 n) there in
    grind (arith, nat_tests)

pub specifier_some : (t : Tree) (a : ℕ) → t ≡ atom (atom_name a) → specifier_in t ≡ true → IsSome (kind_named a)
specifier_some t a is e = subst (λ u. specifier_in u ≡ true) is e

-- op/3

module _ (m : Names) (naming : IsNaming m) (s : Contents) (first second third : Place) where
  abbrev P : Tree
  P = reads m s first

  abbrev K : Tree
  K = reads m s second

  abbrev F : Tree
  F = reads m s third

  abbrev ts : Trees
  ts = more P (more K (more F none))

  abbrev op_checks : Option Tree
  op_checks = first_error (bound_error P ∷ (bound_error K ∷ (bound_error F ∷ (integer_error P ∷ (priority_error P ∷ (atom_error K ∷ (specifier_error K ∷ [])))))))

  pub op_refused : (x : Tree) → op_checks ≡ Some x → puts_operators P K F ≡ gives_row (error x)
  op_refused x e = ap (λ o. unless o (on_ok (names_in F) (puts_names ts P (specifier_named (text_of_atom K))))) e

  named_put : (p : ℕ) (k : Kind) (r : Result (List Tree) Tree) (n : Named) → AreNamedBy m s r n → natural_of P ≡ p
      → ComesTo m s ts (on_ok r (puts_names ts P (Some k))) (operators_of p k n)
  named_put p k (Ok fs) (Atoms as₁) h e = (
    _,
    _,
    record {
      means =
          ap (λ o. unless o (asks_for (put_operators (natural_of P) k (map text_of_atom fs)) (succeeds_with ts))) h.0
          ∙ ap₂ (λ n xs. asks_for (put_operators n k xs) (succeeds_with ts)) e h.1.0;
      asks = refl;
      held = h.1.1;
      by_names = tt;
    },
  )
  named_put p k (Ok fs) (Refused f) h e =
      (ap (λ o. unless o (asks_for (put_operators (natural_of P) k (map text_of_atom fs)) (succeeds_with ts))) h.0, h.1)
  named_put p k (Err x) (Atoms as₁) h e = absurd h
  named_put p k (Err x) (Refused f) h e = (ap (λ y. gives_row (error y)) h.0, h.1)

  pub operators_put : (a p : ℕ) (n : Named) (r : Shared) → r ≡ operators_by p (kind_named a) n → term_at s first ≡ int (pos p) → term_at s second ≡ atom (atom_name a) → IsSome (m a)
      → IsSome (kind_named a) → op_checks ≡ None → AreNamedBy m s (names_in F) n → ComesTo m s ts (puts_operators P K F) r
  operators_put a p n r is pe ke held some e h =
      subst (ComesTo m s ts (puts_operators P K F)) (sym is)
      (subst (λ d. ComesTo m s ts d (operators_by p (kind_named a) n))
      (sym (ap (λ o. unless o (on_ok (names_in F) (puts_names ts P (specifier_named (text_of_atom K))))) e
      ∙ ap (λ o. on_ok (names_in F) (puts_names ts P o)) (ap (λ t. specifier_named (text_of_atom (spelled (text_of m) t))) ke ∙ specifier_told m naming a held)))
      (go (kind_named a) some))
    where
      go : (o : Option Kind) → IsSome o → ComesTo m s ts (on_ok (names_in F) (puts_names ts P o)) (operators_by p o n)
      go None some = absurd cc
      go (Some k) some = named_put p k (names_in F) n h (ap (λ t. natural_of (spelled (text_of m) t)) pe)

  -- current_op/3

  pub operators_listed : first_error (priority_error P ∷ (specifier_error K ∷ (atom_error F ∷ []))) ≡ None → ComesTo m s ts (lists_operators P K F) (comes.Asks visits.AllOperators)
  operators_listed e = (_, _, record { means = ap (λ o. unless o (asks_for read_operators operators_row)) e; asks = refl; held = All-nil (λ a. IsSome (m a)); by_names = tt })

  pub operators_unlisted : (x : Tree) → first_error (priority_error P ∷ (specifier_error K ∷ (atom_error F ∷ []))) ≡ Some x → lists_operators P K F ≡ gives_row (error x)
  operators_unlisted x e = ap (λ o. unless o (asks_for read_operators operators_row)) e

  -- thread_create/3

  pub options_refused : (x : Tree) → thread_errors P K ≡ Some x → creates_with_options P K F ≡ gives_row (error x)
  options_refused x e = ap (λ o. unless o (on_ok (elements F) (λ os. creates_with P (λ t. more P (more t (more F none))) (options_of os)))) e

  pub options_passed : (r : Shared) → thread_errors P K ≡ None
      → ComesTo m s ts (on_ok (elements F) (λ os. creates_with P (λ t. more P (more t (more F none))) (options_of os))) r → ComesTo m s ts (creates_with_options P K F) r
  options_passed r e h =
      subst (λ d. ComesTo m s ts d r) (sym (ap (λ o. unless o (on_ok (elements F) (λ os. creates_with P (λ t. more P (more t (more F none))) (options_of os)))) e)) h

-- By the options

plain_created : (g : Tree) (terms : Tree → Trees) (xs : List Chars)
    → (let o : shared.Options = record { aliases = xs; error = None } in creates_with g terms o) ≡ asks_for (create_thread g xs None) (named_row terms)
plain_created g terms [] = refl
plain_created g terms (x ∷ xs) = refl

wrongly_created : (g : Tree) (terms : Tree → Trees) (xs : List Chars) (e : Tree) → 0 < length xs
    → (let o : shared.Options = record { aliases = xs; error = Some e } in creates_with g terms o) ≡ asks_for (create_thread g xs (Some e)) (named_row terms)
wrongly_created g terms [] e some = absurd (omega arith)
wrongly_created g terms (x ∷ xs) e some = refl

length-mapped : (f : ℕ → Chars) (xs : List ℕ) → length (map f xs) ≡ length xs
length-mapped f [] = refl
length-mapped f (x ∷ xs) = let rest = length-mapped f xs in omega (arith, rest)

module _ (m : Names) (s : Contents) (goal : Place) (ts : Trees) (terms : Tree → Trees) where
  abbrev G : Tree
  G = reads m s goal

  abbrev made : List ℕ → Option Tree → shared.Shared
  made xs e = let o : shared.Options = record { aliases = map (worlds.text_of m) xs; error = e } in creates_with G terms o

  pub thread_made : (k : Tree) (v : Vec ℕ Global) → IsKept m G k → All (λ a. IsSome (m a)) v.items → ComesTo m s ts (made v.items None) (comes.Asks (visits.CreateThread k v None))
  thread_made k v h held = (
    _,
    _,
    record {
      means = plain_created G terms (map (worlds.text_of m) v.items);
      asks = ap (λ x. create_thread x (map (worlds.text_of m) v.items) None) (sym h.stands);
      held = All-append (λ a. IsSome (m a)) (names_of k) (v.items ++ []) h.held (All-append (λ a. IsSome (m a)) v.items [] held (All-nil (λ a. IsSome (m a))));
      by_names = tt;
    },
  )

  pub thread_made_wrong : (k j e : Tree) (v : Vec ℕ Global) → IsKept m G k → IsKept m e j → All (λ a. IsSome (m a)) v.items → 0 < length v.items
      → ComesTo m s ts (made v.items (Some e)) (comes.Asks (visits.CreateThread k v (Some j)))
  thread_made_wrong k j e v h i held some = (
    _,
    _,
    record {
      means = wrongly_created G terms (map (worlds.text_of m) v.items) e (omega (arith, length-mapped (worlds.text_of m) v.items));
      asks = ap₂ (λ x y. create_thread x (map (worlds.text_of m) v.items) (Some y)) (sym h.stands) (sym i.stands);
      held =
          All-append (λ a. IsSome (m a)) (names_of k) (v.items ++ names_of j) h.held (All-append (λ a. IsSome (m a)) v.items (names_of j) held i.held);
      by_names = tt;
    },
  )

  -- The same, by the fault.
  pub made_by : (xs : List ℕ) (o f : Option Fault) (r : Shared) → o ≡ f → ComesTo m s ts (made xs (option_map (fault_term m s) f)) r
      → ComesTo m s ts (made xs (option_map (fault_term m s) o)) r
  made_by xs o f r is h = subst (λ (g : Option Fault). ComesTo m s ts (made xs (option_map (fault_term m s) g)) r) (sym is) h

  pub none_made : (xs : List ℕ) (e : Tree) → xs ≡ [] → made xs (Some e) ≡ gives_row (error e)
  none_made xs e is = ap (λ ys. made ys (Some e)) is

pub empty_list : (xs : List ℕ) → length xs ≡ 0 → xs ≡ []
empty_list [] e = refl
empty_list (x ∷ xs) e = absurd (omega arith)

pub some_long : (xs : List ℕ) (k : ℕ) → k ≡ length xs → (k ≡ 0 → ⊥) → 0 < length xs
some_long [] k is not = absurd (not is)
some_long (x ∷ xs) k is not = omega arith

pub priority_natural : (t : Tree) → passes BOUND t ≡ true → passes INTEGER t ≡ true → priority_in t ≡ true → (n : ℕ) × (t ≡ int (pos n))
priority_natural (var x) b a e = absurd cc
priority_natural (int (pos k)) b a e = (k, refl)
priority_natural (int (negsuc k)) b a e = absurd cc
priority_natural (atom f) b a e = absurd cc
priority_natural (comp f t ts) b a e = absurd cc
