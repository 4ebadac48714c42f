-- What predicates of one argument come to.
use Rattle.std.proofs.Common.{◌≡◌, ℕ, true, false, cond, ◌<◌, length, arith, List, [], ◌∷◌, map, Option, Some, None, Ok, Err, IsSome, codes, refl, sym, ap, subst, ◌∙◌}
use Rattle.std.specs.List.{All}
use Rattle.std.proofs.lemmas.List.Elements.{All-cons, All-head, All-nil, All-tail}
use Rattle.pl_term.specs.Tree.{Tree, Trees, var, int, atom, comp, compound, none, more}
use Rattle.pl_model.specs.BuiltinRows.{error, one_answer}
use Rattle.pl_model.specs.Checks.{bound_error, first_error}
use Rattle.pl_model.specs.Requests.{abolish_procedure, all_procedures, assert_first, assert_last, create_queue, destroy_queue, get_message, make_dynamic, peek_message}
use Rattle.pl_model.specs.SharedBuiltins.{abolishes, asks_for, asserts, checks_indicators, creates_queue, destroys, gives_row, lists_procedures, makes_dynamic, named_row, on_ok, procedures_row, succeeds_with, unless, wrong}
use Rattle.pl_model.specs.Balls.{type_error}
use Rattle.atom_api.specs.Names.{Names}
use Rattle.builtin_rows.specs.Kinds.{passes}
use Rattle.term_store.specs.declared.words.Place.{Place}
use Rattle.term_store.specs.Contents.{Contents, term_at}
use Rattle.term_store.specs.Heap.{atom_name}
use Rattle.world_api.specs.declared.visit.Procedure.{Procedure}
use Rattle.world_api.specs.declared.visit.Visit.TheVariants as visits
use Rattle.world_builtins.specs.Naming.{IsHeldAt, atoms_in}
use Rattle.world_builtins.specs.Spelling.{reads, spelled, text_of}
use Rattle.shared_builtins.specs.declared.clauses.Given.{Given}
use Rattle.shared_builtins.specs.declared.clauses.Given.TheVariants as clauses
use Rattle.shared_builtins.specs.declared.faults.Fault.{Fault}
use Rattle.shared_builtins.specs.declared.faults.Fault.TheVariants.{For}
use Rattle.shared_builtins.specs.declared.indicators.Indicated.{Indicated}
use Rattle.shared_builtins.specs.declared.indicators.Indicated.TheVariants as indicators
use Rattle.shared_builtins.specs.declared.kinds.TheConstants.{VARIABLE}
use Rattle.shared_builtins.specs.declared.shared.Shared.{Shared}
use Rattle.shared_builtins.specs.declared.shared.Shared.TheVariants as comes
use Rattle.shared_builtins.specs.declared.preds.StateOne.TheVariants as one
use Rattle.shared_builtins.specs.Clauses.{IsClauseOf}
use Rattle.shared_builtins.specs.Faults.{fault_term}
use Rattle.shared_builtins.specs.Indicators.{AreIndicated, IsIndicated}
use Rattle.shared_builtins.specs.Kept.{IsKept}
use Rattle.shared_builtins.specs.Pairs.{is_pair}
use Rattle.shared_builtins.specs.Shared.{ComesTo, clause_first, clause_last, declared_only, made_dynamic, one_comes}
use Rattle.shared_builtins.proofs.Checking.{for_term}
use Rattle.shared_builtins.proofs.FixedNames.{atom_is, predicate_indicator_is, type_error_is}
use Rattle.shared_builtins.proofs.Reading.{one_text}

-- One error alone
pub one_error : (o : Option Tree) → first_error (o ∷ []) ≡ o
one_error None = refl
one_error (Some e) = refl

named_all : (m : Names) (qs : List Procedure) → All (λ (q : Procedure). IsSome (m q.name)) qs → All (λ a. IsSome (m a)) (map (λ (q : Procedure). q.name) qs)
named_all m [] h = All-nil (λ a. IsSome (m a))
named_all m (q ∷ qs) h =
    All-cons (λ a. IsSome (m a)) q.name (map (λ (q : Procedure). q.name) qs) (All-head (λ (q : Procedure). IsSome (m q.name)) q qs h)
    (named_all m qs (All-tail (λ (q : Procedure). IsSome (m q.name)) q qs h))

module _ (m : Names) (s : Contents) (term : Place) where
  abbrev T : Tree
  T = reads m s term

  abbrev ts : Trees
  ts = more T none

  -- Clauses

  pub first_comes : (g : Given) (r : Shared) → r ≡ clause_first g → IsClauseOf m s term g → ComesTo m s ts (asserts assert_first T) r
  first_comes g r e h = subst (ComesTo m s ts (asserts assert_first T)) (sym e) (go g h)
    where
      go : (g : Given) → IsClauseOf m s term g → ComesTo m s ts (asserts assert_first T) (clause_first g)
      go (clauses.Clause c) h = (
        _,
        _,
        record { means = ap (λ k. on_ok k (λ c. asks_for (assert_first c) (succeeds_with ts))) h.0; asks = refl; held = h.1; by_names = tt },
      )
      go (clauses.Refused f) h = (ap (λ k. on_ok k (λ c. asks_for (assert_first c) (succeeds_with ts))) h.0, h.1)

  pub last_comes : (g : Given) (r : Shared) → r ≡ clause_last g → IsClauseOf m s term g → ComesTo m s ts (asserts assert_last T) r
  last_comes g r e h = subst (ComesTo m s ts (asserts assert_last T)) (sym e) (go g h)
    where
      go : (g : Given) → IsClauseOf m s term g → ComesTo m s ts (asserts assert_last T) (clause_last g)
      go (clauses.Clause c) h = (
        _,
        _,
        record { means = ap (λ k. on_ok k (λ c. asks_for (assert_last c) (succeeds_with ts))) h.0; asks = refl; held = h.1; by_names = tt },
      )
      go (clauses.Refused f) h = (ap (λ k. on_ok k (λ c. asks_for (assert_last c) (succeeds_with ts))) h.0, h.1)

  -- Indicators

  pub abolished : (p : Procedure) → IsIndicated m s term (Ok p) → ComesTo m s ts (abolishes T) (comes.Asks (visits.Abolish p))
  abolished p h = (
    _,
    _,
    record {
      means = ap (λ k. on_ok k (λ p. asks_for (abolish_procedure p) (succeeds_with ts))) h.0;
      asks = refl;
      held = All-cons (λ a. IsSome (m a)) p.name [] h.1 (All-nil (λ a. IsSome (m a)));
      by_names = tt;
    },
  )

  pub not_abolished : (f : Fault) → IsIndicated m s term (Err f) → ComesTo m s ts (abolishes T) (comes.Refused f)
  not_abolished f h = (ap (λ k. on_ok k (λ p. asks_for (abolish_procedure p) (succeeds_with ts))) h.0, h.1)

  pub dynamic_comes : (i : Indicated) (r : Shared) → r ≡ made_dynamic i → AreIndicated m s term i → ComesTo m s ts (makes_dynamic T) r
  dynamic_comes i r e h = subst (ComesTo m s ts (makes_dynamic T)) (sym e) (go i h)
    where
      go : (i : Indicated) → AreIndicated m s term i → ComesTo m s ts (makes_dynamic T) (made_dynamic i)
      go (indicators.Predicates ps) h = (
        _,
        _,
        record { means = ap (λ k. on_ok k (λ ps. asks_for (make_dynamic ps) (succeeds_with ts))) h.0; asks = refl; held = named_all m ps.items h.1; by_names = tt },
      )
      go (indicators.Refused f) h = (ap (λ k. on_ok k (λ ps. asks_for (make_dynamic ps) (succeeds_with ts))) h.0, h.1)

  pub declared_comes : (i : Indicated) (r : Shared) → r ≡ declared_only i → AreIndicated m s term i → ComesTo m s ts (checks_indicators T) r
  declared_comes i r e h = subst (ComesTo m s ts (checks_indicators T)) (sym e) (go i h)
    where
      go : (i : Indicated) → AreIndicated m s term i → ComesTo m s ts (checks_indicators T) (declared_only i)
      go (indicators.Predicates ps) h = ap (λ k. on_ok k (λ ps. gives_row (one_answer ts))) h.0
      go (indicators.Refused f) h = (ap (λ k. on_ok k (λ ps. gives_row (one_answer ts))) h.0, h.1)

  -- Queues

  pub own_got : (k : Tree) → IsKept m T k → ComesTo m s ts (one_comes one.GetOwn T) (comes.Asks (visits.GetMessage None k))
  own_got k h = (_, _, record { means = refl; asks = ap (get_message None) (sym h.stands); held = h.held; by_names = tt })

  pub own_peeked : (k : Tree) → IsKept m T k → ComesTo m s ts (one_comes one.PeekOwn T) (comes.Asks (visits.PeekMessage None k))
  own_peeked k h = (_, _, record { means = refl; asks = ap (peek_message None) (sym h.stands); held = h.held; by_names = tt })

  pub unnamed_queue : (x : ℕ) → term_at s term ≡ var x → ComesTo m s ts (creates_queue T) (comes.Asks (visits.CreateQueue None))
  unnamed_queue x e = (_, _, record { means = ap (λ t. creates_queue (spelled (text_of m) t)) e; asks = refl; held = All-nil (λ a. IsSome (m a)); by_names = tt })

  pub named_queue : (a : ℕ) → term_at s term ≡ atom (atom_name a) → IsHeldAt m s term → ComesTo m s ts (creates_queue T) (comes.Asks (visits.CreateQueue (Some a)))
  named_queue a e held =
      let P : ℕ → Type 0 = λ k. IsSome (m k) in (
        _,
        _,
        record {
          means = ap (λ t. creates_queue (spelled (text_of m) t)) e ∙ ap (λ x. asks_for (create_queue (Some x)) (named_row (λ t. more t none))) (sym (one_text m a));
          asks = refl;
          held = All-cons P a [] (All-head P a [] (subst (λ t. All P (atoms_in t)) e held)) (All-nil P);
          by_names = tt;
        },
      )

  atom_refused : type_error (codes "atom") T ≡ fault_term m s (For 177 45 term)
  atom_refused = for_term m s term 177 45 (codes "type_error") (codes "atom") type_error_is atom_is

  pub integer_queue : (i : _) → term_at s term ≡ int i → creates_queue T ≡ gives_row (error (fault_term m s (For 177 45 term)))
  integer_queue i e =
      ap (λ t. creates_queue (spelled (text_of m) t)) e ∙ ap (λ t. wrong (type_error (codes "atom") (spelled (text_of m) t))) (sym e) ∙ ap wrong atom_refused

  pub compound_queue : (f : ℕ) (us : List Tree) → 0 < length us → term_at s term ≡ compound (atom_name f) us → creates_queue T ≡ gives_row (error (fault_term m s (For 177 45 term)))
  compound_queue f [] some e = absurd (omega arith)
  compound_queue f (u ∷ us) some e =
      ap (λ t. creates_queue (spelled (text_of m) t)) e ∙ ap (λ t. wrong (type_error (codes "atom") (spelled (text_of m) t))) (sym e) ∙ ap wrong atom_refused

  pub destroyed : (k : Tree) → IsKept m T k → first_error (bound_error T ∷ []) ≡ None → ComesTo m s ts (destroys T) (comes.Asks (visits.DestroyQueue k))
  destroyed k h e = (
    _,
    _,
    record {
      means = ap (λ o. unless o (asks_for (destroy_queue T) (succeeds_with ts))) (sym (one_error (bound_error T)) ∙ e);
      asks = ap destroy_queue (sym h.stands);
      held = h.held;
      by_names = tt;
    },
  )

  pub not_destroyed : (e : Tree) → first_error (bound_error T ∷ []) ≡ Some e → destroys T ≡ gives_row (error e)
  not_destroyed e is = ap (λ o. unless o (asks_for (destroy_queue T) (succeeds_with ts))) (sym (one_error (bound_error T)) ∙ is)

  -- Procedures

  procedures_of : (t : Tree) → passes VARIABLE t ≡ true → lists_procedures (spelled (text_of m) t) ≡ asks_for all_procedures procedures_row
  procedures_of (var x) e = refl
  procedures_of (int i) e = absurd cc
  procedures_of (atom a) e = absurd cc
  procedures_of (comp f u us) e = absurd cc

  no_procedures : (t : Tree) → passes VARIABLE t ≡ false → is_pair (codes "/") (spelled (text_of m) t) ≡ false
      → lists_procedures (spelled (text_of m) t) ≡ wrong (type_error (codes "predicate_indicator") (spelled (text_of m) t))
  no_procedures (var x) v e = absurd cc
  no_procedures (int i) v e = refl
  no_procedures (atom a) v e = refl
  no_procedures (comp f u none) v e = refl
  no_procedures (comp f u (more x none)) v e =
      ap (λ c. cond c (asks_for all_procedures procedures_row) (wrong (type_error (codes "predicate_indicator") (spelled (text_of m) (comp f u (more x none)))))) e
  no_procedures (comp f u (more x (more y us))) v e = refl

  pub all_listed : passes VARIABLE (term_at s term) ≡ true → ComesTo m s ts (lists_procedures T) (comes.Asks visits.AllProcedures)
  all_listed v = (_, _, record { means = procedures_of (term_at s term) v; asks = refl; held = All-nil (λ a. IsSome (m a)); by_names = tt })

  pub pair_listed : (x y : Place) → T ≡ comp (codes "/") (reads m s x) (more (reads m s y) none) → ComesTo m s ts (lists_procedures T) (comes.Asks visits.AllProcedures)
  pair_listed x y e = (_, _, record { means = ap lists_procedures e; asks = refl; held = All-nil (λ a. IsSome (m a)); by_names = tt })

  pub not_listed : passes VARIABLE (term_at s term) ≡ false → is_pair (codes "/") T ≡ false → lists_procedures T ≡ gives_row (error (fault_term m s (For 177 143 term)))
  not_listed v e =
      no_procedures (term_at s term) v e
      ∙ ap wrong (for_term m s term 177 143 (codes "type_error") (codes "predicate_indicator") type_error_is predicate_indicator_is)
