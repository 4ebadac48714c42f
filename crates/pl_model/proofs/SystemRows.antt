-- The rows of the table are those of the list.
use Rattle.std.proofs.Common.{◌≡◌, ℕ, Bool, true, false, cond, ◌==◌, ◌&&◌, ◌||◌, List, [], ◌∷◌, Some, refl, ap, ap₂, ◌∙◌}
use Rattle.std.specs.Prelude.{map, find, is_some, option_map, bytes_eq}
use Rattle.std.specs.List.{list_any}
use Rattle.std.specs.Str.{chars}
use Rattle.pl_model.specs.History.{Proc, proc}
use Rattle.pl_model.specs.Predicates.{same_proc}
use Rattle.pl_model.specs.SystemPredicates.{Row, SystemPredicate, system_predicates, kind_in, is_system}
use Rattle.pl_model.specs.declared.system.TheConstants.{SYSTEM}
use Rattle.pl_term.specs.Tree.{Chars}

-- The row by its characters.
abbrev spelled : Row → Proc
spelled r = proc (chars r.0.now) r.1

abbrev indicators : List SystemPredicate → List Proc
indicators es = map (λ (e : SystemPredicate). e.indicator) es

rows_are : map spelled SYSTEM ≡ indicators system_predicates
unfolding chars system_predicates
rows_are = refl

turned : (b c : Bool) → (b && c) ≡ (c && b)
turned true true = refl
turned true false = refl
turned false true = refl
turned false false = refl

any_row : (f : Chars) (n : ℕ) (rows : List Row)
    → list_any (λ (r : Row). (n == r.1) && bytes_eq f (chars r.0.now)) rows ≡ list_any (same_proc (proc f n)) (map spelled rows)
any_row f n [] = refl
any_row f n (r ∷ rs) = ap₂ (λ b c. b || c) (turned (n == r.1) (bytes_eq f (chars r.0.now))) (any_row f n rs)

any_kind : (p : Proc) (es : List SystemPredicate) → list_any (same_proc p) (indicators es) ≡ is_some (kind_in es p)
any_kind p [] = refl
any_kind p (e ∷ es) = go (same_proc p e.indicator) (any_kind p es)
  where
    go : (b : Bool) → list_any (same_proc p) (indicators es) ≡ is_some (kind_in es p)
        → (b || list_any (same_proc p) (indicators es))
        ≡ is_some (option_map (λ (x : SystemPredicate). x.kind) (cond b (Some e) (find (λ (x : SystemPredicate). same_proc p x.indicator) es)))
    go true rest = refl
    go false rest = rest

pub rows_tell : (f : Chars) (n : ℕ) → list_any (λ (r : Row). (n == r.1) && bytes_eq f (chars r.0.now)) SYSTEM ≡ is_system (proc f n)
rows_tell f n = any_row f n SYSTEM ∙ ap (list_any (same_proc (proc f n))) rows_are ∙ any_kind (proc f n) system_predicates
