-- How the list of refusals grows in a turn.
use Rattle.std.proofs.Common.{List, [], ◌∷◌, ◌++◌, ◌≡◌, sym, subst, append-nil}
use Rattle.atom_words.specs.declared.view.Cause.{Cause}
use Rattle.atom_words.specs.declared.view.Refusal.{Refusal}
use Rattle.atom_words.specs.declared.view.Refusal.TheVariants.{Again as RefusalAgain}
use Rattle.engine_run.specs.Searched.{IsRefusedOnce}

pub none_refused : (xs : List Refusal) → IsRefusedOnce xs xs []
none_refused xs = record { causes = []; grown = sym (append-nil xs) }

-- No more were refused.
pub refused_same : (xs ys : List Refusal) → ys ≡ xs → IsRefusedOnce xs ys []
refused_same xs ys same = subst (λ (zs : List Refusal). IsRefusedOnce xs zs []) (sym same) (none_refused xs)

pub refused_last : (xs ys last : List Refusal) → ys ≡ xs ++ last → IsRefusedOnce xs ys last
refused_last xs ys last grown = record { causes = []; grown = grown }

pub refused_again : (xs ys : List Refusal) (c : Cause) → ys ≡ xs ++ RefusalAgain c ∷ [] → IsRefusedOnce xs ys []
refused_again xs ys c grown = record { causes = c ∷ []; grown = grown }

-- After others that refused nothing.
pub refused_from : (xs ws ys last : List Refusal) → ws ≡ xs → IsRefusedOnce ws ys last → IsRefusedOnce xs ys last
refused_from xs ws ys last same h = subst (λ (zs : List Refusal). IsRefusedOnce zs ys last) same h
