-- term_variables/2.
use Rattle.std.proofs.Common.{◌≡◌, ℕ, ◌*◌, Bool, true, false, not, List, [], ◌∷◌, length, map, codes, sym, ap, ap₂, subst, ◌∙◌}
use Rattle.std.specs.Prelude.{IsSome}
use Rattle.std.specs.List.{All}
use Rattle.std.proofs.lemmas.List.{length-map}
use Rattle.std.proofs.lemmas.List.Elements.{All-cons, All-nil}
use Rattle.pl_term.specs.Tree.{Tree, var}
use Rattle.pl_term.specs.Variables.{variables}
use Rattle.pl_model.specs.Balls.{type_error}
use Rattle.pl_model.specs.BuiltinRows.{error}
use Rattle.pl_model.specs.Checks.{error_if}
use Rattle.pl_model.specs.Terms.{is_list_or_partial, list_term, variable_count}
use Rattle.pl_model.specs.TermBuiltins.{lists_variables, makes, two, unless}
use Rattle.atom_api.specs.Names.{Names}
use Rattle.term_store.specs.declared.words.Place.{Place}
use Rattle.term_store.specs.Contents.{Contents, term_at}
use Rattle.world_builtins.specs.Naming.{IsHeldAt, atoms_in}
use Rattle.world_builtins.specs.Spelling.{reads, spelled, text_of}
use Rattle.builtin_term.specs.Giving.{list_row}
use Rattle.builtin_term.proofs.CopyRows.{variables-spelled}
use Rattle.builtin_term.proofs.ListTerms.{terms_read}
use Rattle.builtin_term.proofs.Making.{variables_unspelled}

listed_so : (t l : Tree) (b : Bool) → is_list_or_partial l ≡ b
    → lists_variables t l ≡ unless (error_if (not b) (type_error (codes "list") l)) (makes (two t (list_term (map var (variables t)))) (3 * variable_count t))
listed_so t l b e = ap (λ q. unless (error_if (not q) (type_error (codes "list") l)) (makes (two t (list_term (map var (variables t)))) (3 * variable_count t))) e

pub no_list_refused : (t l : Tree) → is_list_or_partial l ≡ false → lists_variables t l ≡ error (type_error (codes "list") l)
no_list_refused t l e = listed_so t l false e

module _ (m : Names) (s : Contents) (term : Place) (items : List Place) (stand : map (term_at s) items ≡ map var (variables (term_at s term))) where
  items_read : map (reads m s) items ≡ map var (variables (reads m s term))
  items_read =
      terms_read m s items ∙ ap (map (spelled (text_of m))) stand ∙ variables_unspelled (text_of m) (variables (term_at s term))
      ∙ ap (map var) (sym (variables-spelled (text_of m) (term_at s term)))

  how_many_items : length items ≡ variable_count (reads m s term)
  how_many_items = sym (length-map items (reads m s)) ∙ ap length items_read ∙ length-map (variables (reads m s term)) var

  pub variables_row : (l : Tree) → is_list_or_partial l ≡ true → list_row m s term items ≡ lists_variables (reads m s term) l
  variables_row l e =
      ap₂ (λ ts n. makes (two (reads m s term) (list_term ts)) (3 * n)) items_read how_many_items ∙ sym (listed_so (reads m s term) l true e)

pub variables_held : (m : Names) (s : Contents) (items : List Place) (xs : List ℕ) → map (term_at s) items ≡ map var xs → All (IsHeldAt m s) items
variables_held m s [] xs e = All-nil (IsHeldAt m s)
variables_held m s (p ∷ ps) [] e = absurd (cc)
variables_held m s (p ∷ ps) (x ∷ xs) e =
    let first : term_at s p ≡ var x = cc in
    let rest : map (term_at s) ps ≡ map var xs = cc in
    All-cons (IsHeldAt m s) p ps (subst (λ t. All (λ a. IsSome (m a)) (atoms_in t)) (sym first) (All-nil (λ a. IsSome (m a)))) (variables_held m s ps xs rest)
