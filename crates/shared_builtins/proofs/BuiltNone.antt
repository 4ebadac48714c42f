-- Names that no predicate of the shared state has.
use Rattle.std.proofs.Common.{◌≡◌, ◌==◌, ◌<◌, ℕ, Bool, true, false, List, [], ◌∷◌, Option, Some, None, IfNone, is_some, codes, bytes_eq, refl, sym, ap, ◌∙◌, arith}
use Rattle.std.proofs.lemmas.Bool.{true≢false}
use Rattle.std.proofs.lemmas.Bool.Decides.{Decides-eqb}
use Rattle.std.proofs.lemmas.Slice.Eq.{bytes_eq-Decides}
use Rattle.pl_term.specs.Tree.{Chars, Tree, Trees, none, more, count}
use Rattle.pl_model.specs.SharedBuiltins.{shared, shared_of_one, shared_of_two, shared_of_three}
use Rattle.atom_api.specs.Fixed.{fixed}
use Rattle.builtin_rows.specs.Laws.{AreTexts, TellsShared}
use Rattle.shared_builtins.specs.declared.preds.StatePred.{StatePred}
use Rattle.shared_builtins.specs.Goals.{IsOff, thread_names}
use Rattle.shared_builtins.proofs.FixedNames.{abolish_is, assert_is, asserta_is, assertz_is, current_op_is, current_predicate_is, current_prolog_flag_is, discontiguous_is, dynamic_is, message_queue_create_is, message_queue_destroy_is, multifile_is, op_is, set_prolog_flag_is, thread_create_is, thread_get_message_is, thread_join_is, thread_peek_message_is, thread_self_is, thread_send_message_is}

not_true : (b : Bool) → (b ≡ true → ⊥) → b ≡ false
not_true true never = absurd (never refl)
not_true false never = refl

-- The names of the predicates of one, two and three arguments, those on threads and queues of one argument aside.
abbrev names_of_one : List ℕ
names_of_one = 43 ∷ 44 ∷ 42 ∷ 37 ∷ 79 ∷ 75 ∷ 127 ∷ 70 ∷ []

abbrev names_of_two : List ℕ
names_of_two = 155 ∷ 71 ∷ 164 ∷ 167 ∷ 172 ∷ 166 ∷ 170 ∷ []

abbrev names_of_three : List ℕ
names_of_three = 136 ∷ 69 ∷ 164 ∷ []

module _ (text : ℕ → Chars) (are : AreTexts text) (name : ℕ) where
  -- An atom other than a fixed one has another text.
  differs : (k : ℕ) (c : Chars) → fixed k ≡ Some c → (name == k) ≡ false → bytes_eq (text name) c ≡ false
  differs k c is apart =
      not_true (bytes_eq (text name) c)
      (λ e. true≢false (sym ((Decides-eqb name k).1 (are.apart name k ((bytes_eq-Decides (text name) c).0 e ∙ sym (are.standing k c is)))) ∙ apart))

  none_of_one : (t : Tree) → IsOff name names_of_one → IsOff name thread_names → is_some (shared_of_one (text name) t) ≡ false
  none_of_one t a b =
      rw (
        differs 43 (codes "asserta") asserta_is a.0,
        differs 44 (codes "assertz") assertz_is a.1.0,
        differs 42 (codes "assert") assert_is a.1.1.0,
        differs 37 (codes "abolish") abolish_is a.1.1.1.0,
        differs 79 (codes "dynamic") dynamic_is a.1.1.1.1.0,
        differs 75 (codes "discontiguous") discontiguous_is a.1.1.1.1.1.0,
        differs 127 (codes "multifile") multifile_is a.1.1.1.1.1.1.0,
        differs 70 (codes "current_predicate") current_predicate_is a.1.1.1.1.1.1.1.0,
        differs 171 (codes "thread_self") thread_self_is b.0,
        differs 166 (codes "thread_get_message") thread_get_message_is b.1.0,
        differs 170 (codes "thread_peek_message") thread_peek_message_is b.1.1.0,
        differs 120 (codes "message_queue_create") message_queue_create_is b.1.1.1.0,
        differs 121 (codes "message_queue_destroy") message_queue_destroy_is b.1.1.1.1.0,
      )

  none_of_two : (t u : Tree) → IsOff name names_of_two → is_some (shared_of_two (text name) t u) ≡ false
  none_of_two t u a =
      rw (
        differs 155 (codes "set_prolog_flag") set_prolog_flag_is a.0,
        differs 71 (codes "current_prolog_flag") current_prolog_flag_is a.1.0,
        differs 164 (codes "thread_create") thread_create_is a.1.1.0,
        differs 167 (codes "thread_join") thread_join_is a.1.1.1.0,
        differs 172 (codes "thread_send_message") thread_send_message_is a.1.1.1.1.0,
        differs 166 (codes "thread_get_message") thread_get_message_is a.1.1.1.1.1.0,
        differs 170 (codes "thread_peek_message") thread_peek_message_is a.1.1.1.1.1.1.0,
      )

  none_of_three : (t u v : Tree) → IsOff name names_of_three → is_some (shared_of_three (text name) t u v) ≡ false
  none_of_three t u v a =
      rw (
        differs 136 (codes "op") op_is a.0,
        differs 69 (codes "current_op") current_op_is a.1.0,
        differs 164 (codes "thread_create") thread_create_is a.1.1.0,
      )

  one_counted : IsOff name names_of_one → IsOff name thread_names → (ts : Trees) → count ts ≡ 1 → is_some (shared (text name) ts) ≡ false
  unfolding shared
  one_counted a b none e = absurd (omega (arith, e))
  one_counted a b (more t none) e = none_of_one t a b
  one_counted a b (more t (more u us)) e = absurd (omega (arith, e))

  two_counted : IsOff name names_of_two → (ts : Trees) → count ts ≡ 2 → is_some (shared (text name) ts) ≡ false
  unfolding shared
  two_counted a none e = absurd (omega (arith, e))
  two_counted a (more t none) e = absurd (omega (arith, e))
  two_counted a (more t (more u none)) e = none_of_two t u a
  two_counted a (more t (more u (more v vs))) e = absurd (omega (arith, e))

  three_counted : IsOff name names_of_three → (ts : Trees) → count ts ≡ 3 → is_some (shared (text name) ts) ≡ false
  unfolding shared
  three_counted a none e = absurd (omega (arith, e))
  three_counted a (more t none) e = absurd (omega (arith, e))
  three_counted a (more t (more u none)) e = absurd (omega (arith, e))
  three_counted a (more t (more u (more v none))) e = none_of_three t u v a
  three_counted a (more t (more u (more v (more w ws)))) e = absurd (omega (arith, e))

  -- No predicate has more than three arguments.
  many_counted : (arity : ℕ) → 3 < arity → (ts : Trees) → count ts ≡ arity → is_some (shared (text name) ts) ≡ false
  unfolding shared
  many_counted arity lt none e = absurd (omega (arith, e, lt))
  many_counted arity lt (more t none) e = absurd (omega (arith, e, lt))
  many_counted arity lt (more t (more u none)) e = absurd (omega (arith, e, lt))
  many_counted arity lt (more t (more u (more v none))) e = absurd (omega (arith, e, lt))
  many_counted arity lt (more t (more u (more v (more w ws)))) e = refl

pub no_one : (name : ℕ) → IsOff name names_of_one → (o : Option StatePred) → IfNone o (IsOff name thread_names) → IfNone o (TellsShared name 1 None)
no_one name a None b = λ text are ts e. one_counted text are name a b ts e
no_one name a (Some p) b = tt

pub no_two : (name : ℕ) → IsOff name names_of_two → TellsShared name 2 None
no_two name a = λ text are ts e. two_counted text are name a ts e

pub no_three : (name : ℕ) → IsOff name names_of_three → TellsShared name 3 None
no_three name a = λ text are ts e. three_counted text are name a ts e

pub no_more : (name arity : ℕ) → 3 < arity → TellsShared name arity None
no_more name arity lt = λ text are ts e. many_counted text are name arity lt ts e
