-- Rows of predicates that make no terms.
use Rattle.std.proofs.Common.{◌≡◌, ℕ, zero, ◌+◌, ◌<◌, ◌≤◌, ◌^◌, Bool, true, false, [], ◌∷◌, if◌then◌else◌, Result, Ok, Err, Option, Some, None, IfOk, refl, sym, ap, ap₂, subst, ◌∙◌, arith}
use Rattle.std.specs.Prelude.{IfNone, IfSome, is_some, not}
use Rattle.std.specs.List.{All}
use Rattle.std.proofs.lemmas.Bool.{lt-leb, lt-ltb}
use Rattle.std.proofs.lemmas.List.Elements.{All-cons, All-nil}
use Rattle.pl_term.specs.Tree.{Trees, more, none}
use Rattle.pl_model.specs.History.{Proc}
use Rattle.pl_model.specs.Balls.{error_ball, no_inferences}
use Rattle.pl_model.specs.BuiltinRows.{gives, one_answer, plain_answer, test}
use Rattle.pl_model.specs.Unify.{unify}
use Rattle.atom_api.specs.Names.{Names}
use Rattle.builtin_rows.specs.Given.{answered, full, given, thrown}
use Rattle.builtin_rows.specs.declared.row.Places.{Places}
use Rattle.builtin_rows.specs.declared.row.Row.{Row}
use Rattle.builtin_rows.specs.declared.row.Row.TheVariants.{Answer, CellsFull, Fails, Holds}
use Rattle.builtin_rows.specs.Rows.{IsRow, listed, row_refusals, terms_at}
use Rattle.builtin_rows.proofs.Balls.{makes_from, makes_nothing}
use Rattle.builtin_rows.proofs.Giving.{gives_none, gives_plain}
use Rattle.builtin_rows.proofs.Numbers.{has_room}
use Rattle.term_store.specs.declared.words.Place.{Place}
use Rattle.term_store.specs.Contents.{Contents, Holds as IsIn}
use Rattle.world_builtins.specs.Naming.{IsHeldAt}
use Rattle.world_builtins.specs.Spelling.{reads}
use Rattle.builtin_term.specs.TestRows.{AreNames, IsFull, Stands}

pub uncharged : (s t : Contents) → t ≡ record s { used = s.used + 0 } → t ≡ s
uncharged s t e = e ∙ ap (λ n. record s { used = n }) (omega arith)

pub overdraws : (s : Contents) (r : Row) → r ≡ CellsFull s.used zero → s.budget < s.used + 0 → IsFull s r
overdraws s r e over = record { row = e; over = omega arith }

-- One answer where there is room for it, and where there is none.

pub given_one : (s : Contents) (ts us : Trees) (p : Proc) (next : ℕ) → next < 2 ^ 64 → s.used ≤ s.budget
    → given p ts next s.used s.budget (one_answer us) ≡ answered (us ∷ []) zero zero
given_one s ts us p next few fits =
    gives_plain p ts next s.used s.budget us ∙ has_room p next s.used s.budget (plain_answer us) (omega (arith, few)) (omega (arith, fits))

given_full : (s : Contents) (ts us : Trees) (p : Proc) (next : ℕ) → next < 2 ^ 64 → s.budget < s.used
    → given p ts next s.used s.budget (one_answer us) ≡ full zero
given_full s ts us p next few over =
    gives_plain p ts next s.used s.budget us
    ∙ ap₂ (λ b c. if b then (if c then answered (us ∷ []) zero zero else full zero) else thrown (error_ball no_inferences p))
    (lt-ltb (next + 0) (2 ^ 64) (omega (arith, few))) (lt-leb (s.used + 0) s.budget (omega (arith, over)))

pub full_stands : (s t : Contents) (ts us : Trees) (m : Names) (r : Row) → t ≡ s → IsFull s r → Stands s ts (one_answer us) m t r
full_stands s t ts us m r same is p next few =
    subst (λ q. IsRow s next ts (given p ts next s.used s.budget (one_answer us)) m t q) (sym is.row)
    (subst (λ g. IsRow s next ts g m t (CellsFull s.used zero)) (sym (given_full s ts us p next few is.over)) (refl, (refl, same)))

pub holds_stands : (s t : Contents) (ts : Trees) (m : Names) → t ≡ s → s.used ≤ s.budget → Stands s ts (one_answer ts) m t Holds
holds_stands s t ts m same fits p next few =
    subst (λ g. IsRow s next ts g m t Holds) (sym (given_one s ts ts p next few fits)) (refl, (refl, (refl, same)))

pub fails_stands : (s t : Contents) (ts : Trees) (m : Names) → t ≡ s → Stands s ts (gives []) m t Fails
fails_stands s t ts m same p next few =
    subst (λ g. IsRow s next ts g m t Fails) (sym (gives_none p ts next s.used s.budget)) (refl, same)

pub tests_stand : (b : Bool) (s t : Contents) (ts : Trees) (m : Names) (r : Row) → b ≡ true → Stands s ts (one_answer ts) m t r → Stands s ts (test b ts) m t r
tests_stand b s t ts m r e h = subst (λ c. Stands s ts (test c ts) m t r) (sym e) h

pub tests_fail : (b : Bool) (s t : Contents) (ts : Trees) (m : Names) → b ≡ false → t ≡ s → Stands s ts (test b ts) m t Fails
tests_fail b s t ts m e same = subst (λ c. Stands s ts (test c ts) m t Fails) (sym e) (fails_stands s t ts m same)

pub full_refuses : (s : Contents) (r : Row) → IsFull s r → row_refusals r ≡ []
full_refuses s r is = ap row_refusals is.row

-- The places of an answer.
pub answer_stands : (s t : Contents) (ts : Trees) (m : Names) (ps : Places) → t ≡ s → s.used ≤ s.budget → All (IsIn s) (listed ps) → All (IsHeldAt m s) (listed ps)
    → Stands s ts (one_answer (terms_at m s (listed ps))) m t (Answer ps zero)
answer_stands s t ts m ps same fits inside held p next few =
    subst (λ u. IsRow s next ts (given p ts next s.used s.budget (one_answer (terms_at m s (listed ps)))) m u (Answer ps zero)) (sym same)
    (subst (λ g. IsRow s next ts g m s (Answer ps zero)) (sym (given_one s ts (terms_at m s (listed ps)) p next few fits))
    (refl, (refl, (makes_from next s s (makes_nothing s), record { inside = inside; held = held }))))

-- By what was found of the cells.

pub none_fits : (o : Option Row) (s : Contents) → o ≡ None → IfNone o (s.used ≤ s.budget) → s.used ≤ s.budget
none_fits o s e h = subst (λ x. IfNone x (s.used ≤ s.budget)) e h

pub some_full : (o : Option Row) (r : Row) (s : Contents) → o ≡ Some r → IfSome o (IsFull s) → IsFull s r
some_full o r s e h = subst (λ x. IfSome x (IsFull s)) e h

pub differs_stand : {E : Type 0} (s d t : Contents) (same : Bool) (a b : Place) (result : Result Row E) → d ≡ s
    → ((m : Names) → AreNames m → same ≡ is_some (unify (reads m s a) (reads m s b)))
    → IfOk result (λ r. (m : Names) (ts : Trees) → Stands d ts (test (not same) ts) m t r)
    → IfOk result (λ r. (m : Names) (ts : Trees) → AreNames m → Stands s ts (test (not (is_some (unify (reads m s a) (reads m s b)))) ts) m t r)
differs_stand s d t same a b (Ok r) e tells h =
    λ m ts names. subst (λ q. Stands s ts (test (not q) ts) m t r) (tells m names) (subst (λ x. Stands x ts (test (not same) ts) m t r) e (h m ts))
differs_stand s d t same a b (Err x) e tells h = tt

pub both_stand : {E : Type 0} (s t : Contents) (result : Result Row E) (right : Place)
    → IfOk result (λ r. (m : Names) (ts : Trees) → let ps = right ∷ (right ∷ []) in All (IsHeldAt m s) ps → Stands s ts (one_answer (terms_at m s ps)) m t r)
    → IfOk result (λ r. (m : Names) (ts : Trees) → IsHeldAt m s right → Stands s ts (one_answer (more (reads m s right) (more (reads m s right) none))) m t r)
both_stand s t (Ok r) right h =
    λ m ts held. h m ts (All-cons (IsHeldAt m s) right (right ∷ []) held (All-cons (IsHeldAt m s) right [] held (All-nil (IsHeldAt m s))))
both_stand s t (Err x) right h = tt
