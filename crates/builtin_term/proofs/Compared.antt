-- compare/3.
use Rattle.std.proofs.Common.{◌≡◌, ℕ, ◌<◌, ◌^◌, [], ◌∷◌, Result, Ok, Err, Option, Some, IfOk, codes, sym, ap, subst, ◌∙◌}
use Rattle.std.specs.List.{All}
use Rattle.std.specs.declared.cmp.Ordering.{Ordering}
use Rattle.std.proofs.lemmas.List.Elements.{All-cons, All-nil}
use Rattle.pl_term.specs.Order.{order}
use Rattle.pl_term.specs.Tree.{Chars, Tree, Trees, atom, comp, more, none}
use Rattle.pl_model.specs.Balls.{error_ball}
use Rattle.pl_model.specs.BuiltinRows.{error, one_answer}
use Rattle.pl_model.specs.BuiltinRows as rows
use Rattle.pl_model.specs.Checks.{atom_error, first_error}
use Rattle.pl_model.specs.History.{proc}
use Rattle.pl_model.specs.TermBuiltins.{compares, sign, sign_error, three, unless}
use Rattle.atom_api.specs.Fixed.{fixed}
use Rattle.atom_api.specs.Names.{FixedStand, Names}
use Rattle.builtin_rows.specs.Given.{given, thrown}
use Rattle.builtin_rows.specs.Rows.{IsRow, terms_at}
use Rattle.builtin_rows.specs.declared.row.Row.{Row}
use Rattle.builtin_rows.proofs.Balls.{atom_held, text_is}
use Rattle.builtin_rows.proofs.Giving.{gives_error}
use Rattle.term_store.specs.declared.words.Place.{Place}
use Rattle.term_store.specs.Heap.{atom_name}
use Rattle.term_store.specs.Contents.{Contents, term_at}
use Rattle.world_builtins.specs.Naming.{IsHeldAt}
use Rattle.world_builtins.specs.Spelling.{reads, spelled, text_of}
use Rattle.builtin_term.specs.TestRows.{AreNames, Stands}
use Rattle.builtin_term.specs.Orders.{sign_at, sign_number}
use Rattle.builtin_term.specs.declared.signs.Sign.TheVariants.{Fits}
use Rattle.builtin_term.proofs.SignTexts.{no_error, sign_is}
use Rattle.builtin_term.proofs.FixedNames.{compare_is}

-- What compare/3 is to give.
abbrev pub Compares : Contents → Place → Place → Place → Names → Contents → Row → Type 0
Compares s o l r m t q =
    (next : ℕ) → next < 2 ^ 64
    → IsRow s next (three (reads m s o) (reads m s l) (reads m s r))
    (given (proc (codes "compare") 3) (three (reads m s o) (reads m s l) (reads m s r)) next s.used s.budget (compares (reads m s o) (reads m s l) (reads m s r))) m t q

module _ (s : Contents) (o l r : Place) (m : Names) (names : AreNames m) where
  first_wrong : Option Tree
  first_wrong = first_error (atom_error (reads m s o) ∷ (sign_error (reads m s o) ∷ []))

  by_row : (t : Contents) (q : Row) (w : rows.Row) → compares (reads m s o) (reads m s l) (reads m s r) ≡ w
      → ((next : ℕ) → next < 2 ^ 64 → IsRow s next (three (reads m s o) (reads m s l) (reads m s r))
      (given (proc (codes "compare") 3) (three (reads m s o) (reads m s l) (reads m s r)) next s.used s.budget w) m t q)
      → Compares s o l r m t q
  by_row t q w e h next few =
      subst (λ x. IsRow s next (three (reads m s o) (reads m s l) (reads m s r))
      (given (proc (codes "compare") 3) (three (reads m s o) (reads m s l) (reads m s r)) next s.used s.budget x) m t q) (sym e) (h next few)

  sign_reads : (p : Place) (k : ℕ) (x : Ordering) → k ≡ sign_number x → x ≡ order (reads m s l) (reads m s r) → term_at s p ≡ atom (atom_name k)
      → reads m s p ≡ atom (sign (order (reads m s l) (reads m s r)))
  sign_reads p k x number found stands =
      ap (spelled (text_of m)) stands
      ∙ ap atom (text_is m names.fixed k (sign x) (ap fixed number ∙ sign_is x) ∙ ap sign found)

  pub compares_stand : {E : Type 0} (t : Contents) (result : Result Row E) (p : Place) (k : ℕ) (x : Ordering)
      → sign_at (term_at s o) ≡ Fits → x ≡ order (reads m s l) (reads m s r) → k ≡ sign_number x → term_at s p ≡ atom (atom_name k)
      → IsHeldAt m s l → IsHeldAt m s r
      → IfOk result (λ q. (n : Names) (ts : Trees) → let ps = p ∷ (l ∷ (r ∷ [])) in All (IsHeldAt n s) ps → Stands s ts (one_answer (terms_at n s ps)) n t q)
      → IfOk result (Compares s o l r m t)
  compares_stand t (Err y) p k x fits found number stands hl hr h = tt
  compares_stand t (Ok q) p k x fits found number stands hl hr h =
      let ts = three (reads m s o) (reads m s l) (reads m s r) in
      let ps = p ∷ (l ∷ (r ∷ [])) in
      let held : All (IsHeldAt m s) ps =
      All-cons (IsHeldAt m s) p (l ∷ (r ∷ [])) (atom_held m names.fixed s p k (sign x) (ap fixed number ∙ sign_is x) stands)
      (All-cons (IsHeldAt m s) l (r ∷ []) hl (All-cons (IsHeldAt m s) r [] hr (All-nil (IsHeldAt m s)))) in
      by_row t q (one_answer (terms_at m s ps))
      (ap (λ e. unless e (one_answer (three (atom (sign (order (reads m s l) (reads m s r)))) (reads m s l) (reads m s r)))) (no_error m names (term_at s o) fits)
      ∙ ap (λ a. one_answer (three a (reads m s l) (reads m s r))) (sym (sign_reads p k x number found stands)))
      (h m ts held (proc (codes "compare") 3))

  pub refuses_stand : {E : Type 0} (t : Contents) (result : Result Row E) (a k : ℕ) (e x : Chars)
      → first_error (atom_error (reads m s o) ∷ (sign_error (reads m s o) ∷ [])) ≡ Some (comp e (atom x) (more (reads m s o) none))
      → fixed a ≡ Some e → fixed k ≡ Some x → IsHeldAt m s o
      → IfOk result (λ q. (n : Names) (e x p : Chars) (next : ℕ) (ts : Trees) → FixedStand n → IsHeldAt n s o → fixed a ≡ Some e → fixed k ≡ Some x → fixed 64 ≡ Some p
      → IsRow s next ts (thrown (error_ball (comp e (atom x) (more (reads n s o) none)) (proc p 3))) n t q)
      → IfOk result (Compares s o l r m t)
  refuses_stand t (Err y) a k e x wrong is kind held h = tt
  refuses_stand t (Ok q) a k e x wrong is kind held h =
      let ts = three (reads m s o) (reads m s l) (reads m s r) in
      let err = comp e (atom x) (more (reads m s o) none) in
      by_row t q (error err)
      (ap (λ w. unless w (one_answer (three (atom (sign (order (reads m s l) (reads m s r)))) (reads m s l) (reads m s r)))) wrong)
      (λ next few. subst (λ w. IsRow s next ts w m t q) (sym (gives_error (proc (codes "compare") 3) ts next s.used s.budget err))
      (h m e x (codes "compare") next ts names.fixed held is kind compare_is))
