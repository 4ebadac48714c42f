-- What is/2 and arithmetic comparison give.
use Rattle.std.proofs.Common.{◌≡◌, ℕ, zero, ◌+◌, ◌<◌, ◌≤◌, ◌^◌, ℤ, Bool, false, [], ◌∷◌, nat_le, if◌then◌else◌, IsSome, Ok, Err, refl, sym, ap, subst, ◌∙◌, arith}
use Rattle.std.specs.List.{All}
use Rattle.std.proofs.lemmas.Bool.{lt-ltb, lt-leb}
use Rattle.std.proofs.lemmas.List.Elements.{All-cons, All-nil}
use Rattle.pl_term.specs.Tree.{Tree, Trees, int, none, more}
use Rattle.pl_model.specs.History.{Proc}
use Rattle.pl_model.specs.declared.evaluables.EvalFault.{EvalFault}
use Rattle.pl_model.specs.Balls.{error_ball, no_inferences}
use Rattle.pl_model.specs.BuiltinRows.{Row as Defined, error, one_answer, plain_answer, test}
use Rattle.pl_model.specs.Evaluables.{evaluated}
use Rattle.pl_model.specs.TermBuiltins.{compares_values, evaluates, two, value_error, with_value}
use Rattle.atom_api.specs.Names.{Names}
use Rattle.term_store.specs.declared.words.Place.{Place}
use Rattle.term_store.specs.Contents.{Contents, Holds as IsIn, term_at}
use Rattle.world_builtins.specs.Naming.{IsHeldAt, atoms_in}
use Rattle.world_builtins.specs.Spelling.{reads, spelled, text_of}
use Rattle.builtin_rows.specs.Given.{answered, full, given, thrown, with_room}
use Rattle.builtin_rows.specs.declared.row.Places.TheVariants.{Two}
use Rattle.builtin_rows.specs.declared.row.Row.{Row}
use Rattle.builtin_rows.specs.declared.row.Row.TheVariants.{Fails, Holds, Answer, CellsFull}
use Rattle.builtin_rows.specs.Rows.{IsRow}
use Rattle.builtin_rows.proofs.Balls.{makes_from, makes_nothing, two_places}
use Rattle.builtin_rows.proofs.Giving.{gives_error, gives_none, gives_plain}
use Rattle.builtin_rows.proofs.Numbers.{has_room}

-- One answer that takes no cells

pub same_store : (s t : Contents) → t ≡ record s { used = s.used + 0 } → t ≡ s
same_store s t e =
    let none_used : s.used + 0 ≡ s.used = omega arith in
    e ∙ ap (λ n. let c : Contents = record { heap = s.heap; used = n; budget = s.budget } in c) none_used

module _ (m : Names) (s t : Contents) (next : ℕ) (p : Proc) (ts us : Trees) (few : next < 2 ^ 64) where
  pub room_found : s.used + 0 ≤ s.budget → t ≡ record s { used = s.used + 0 } → (r : Row) → IsRow s next ts (answered (us ∷ []) zero zero) m s r
      → IsRow s next ts (given p ts next s.used s.budget (one_answer us)) m t r
  room_found fits e r h =
      subst (λ g. IsRow s next ts g m t r)
      (sym (gives_plain p ts next s.used s.budget us ∙ has_room p next s.used s.budget (plain_answer us) (omega (arith, few)) fits))
      (subst (λ u. IsRow s next ts (answered (us ∷ []) zero zero) m u r) (sym (same_store s t e)) h)

  -- No store is like that.
  pub no_room : (u n : ℕ) → u ≡ s.used → n ≡ 0 → s.budget < s.used + 0 → t ≡ s
      → IsRow s next ts (given p ts next s.used s.budget (one_answer us)) m t (CellsFull u n)
  no_room u n used need over e =
      let is_full : with_room p next s.used s.budget (plain_answer us) ≡ full 0 =
      ap (λ b. if b then (if nat_le (s.used + 0) s.budget then answered (us ∷ []) zero zero else full 0) else thrown (error_ball no_inferences p))
      (lt-ltb (next + 0) (2 ^ 64) (omega (arith, few)))
      ∙ ap (λ b. if b then answered (us ∷ []) zero zero else full 0) (lt-leb (s.used + 0) s.budget over) in
      subst (λ g. IsRow s next ts g m t (CellsFull u n)) (sym (gives_plain p ts next s.used s.budget us ∙ is_full)) (used, (need, e))

-- A value and the expression
module _ (m : Names) (s : Contents) (next : ℕ) (ts : Trees) (x : ℤ) (p e : Place)
    (stands : IsIn s p × (term_at s p ≡ int x)) (holds : IsIn s e) (held : IsHeldAt m s e) where
  pub answer_row : IsRow s next ts (answered (two (int x) (reads m s e) ∷ []) zero zero) m s (Answer (Two p e) zero)
  answer_row =
      let P : ℕ → Type 0 = λ a. IsSome (m a) in (
        ap (λ l. l ∷ [])
            (sym (ap (λ t. more (spelled (text_of m) t) (more (reads m s e) none)) stands.1)),
        (
          refl,
          (
            makes_from next s s (makes_nothing s),
            record {
              inside = two_places s p e stands.0 holds;
              held =
                  All-cons (IsHeldAt m s) p (e ∷ []) (subst (λ t. All P (atoms_in t)) (sym stands.1) (All-nil P))
                  (All-cons (IsHeldAt m s) e [] held (All-nil (IsHeldAt m s)));
            },
          ),
        ),
      )

-- Tests

pub holds_row : (m : Names) (s : Contents) (next : ℕ) (ts : Trees) → IsRow s next ts (answered (ts ∷ []) zero zero) m s Holds
holds_row m s next ts = (refl, (refl, (refl, refl)))

pub fails_row : (m : Names) (s t : Contents) (next : ℕ) (p : Proc) (ts : Trees) → t ≡ s → IsRow s next ts (given p ts next s.used s.budget (test false ts)) m t Fails
fails_row m s t next p ts e = subst (λ g. IsRow s next ts g m t Fails) (sym (gives_none p ts next s.used s.budget)) (refl, e)

-- Errors

pub error_row : (m : Names) (s t : Contents) (next : ℕ) (p : Proc) (ts : Trees) (r : Row) (e : Tree) (d : Defined) → d ≡ error e
    → IsRow s next ts (thrown (error_ball e p)) m t r → IsRow s next ts (given p ts next s.used s.budget d) m t r
error_row m s t next p ts r e d is h =
    subst (λ g. IsRow s next ts g m t r) (sym (ap (given p ts next s.used s.budget) is ∙ gives_error p ts next s.used s.budget e)) h

-- What the definition says of known values

pub no_value : (t u : Tree) (f : EvalFault) → Err f ≡ evaluated u → evaluates t u ≡ error (value_error f)
no_value t u f e = sym (ap (λ v. with_value v (λ x. one_answer (two (int x) u))) e)

pub one_value : (t u : Tree) (x : ℤ) → Ok x ≡ evaluated u → evaluates t u ≡ one_answer (two (int x) u)
one_value t u x e = sym (ap (λ v. with_value v (λ y. one_answer (two (int y) u))) e)

module _ (by : ℤ → ℤ → Bool) (t u : Tree) where
  pub left_fails : (f : EvalFault) → Err f ≡ evaluated t → compares_values by t u ≡ error (value_error f)
  left_fails f e = sym (ap (λ v. with_value v (λ x. with_value (evaluated u) (λ y. test (by x y) (two t u)))) e)

  pub right_fails : (x : ℤ) (f : EvalFault) → Ok x ≡ evaluated t → Err f ≡ evaluated u → compares_values by t u ≡ error (value_error f)
  right_fails x f e g =
      sym
      (ap (λ w. with_value w (λ y. test (by x y) (two t u))) g
      ∙ ap (λ v. with_value v (λ z. with_value (evaluated u) (λ y. test (by z y) (two t u)))) e)

  pub both_known : (x y : ℤ) (b : Bool) → Ok x ≡ evaluated t → Ok y ≡ evaluated u → b ≡ by x y → compares_values by t u ≡ test b (two t u)
  both_known x y b e g is =
      sym
      (ap (λ c. test c (two t u)) is
      ∙ ap (λ w. with_value w (λ z. test (by x z) (two t u))) g
      ∙ ap (λ v. with_value v (λ z. with_value (evaluated u) (λ w. test (by z w) (two t u)))) e)
