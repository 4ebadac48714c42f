-- The view over loads that it keeps nothing of.
use Rattle.std.proofs.Common.{◌≡◌, ℕ, ◌+◌, List, [], ◌∷◌, ◌++◌, length, refl, ap, ◌∙◌, arith}
use Rattle.atom_words.specs.Board.{text_at}
use Rattle.atom_words.specs.Kinds.{view_after, after}
use Rattle.atom_words.specs.declared.size.Size.{Size}
use Rattle.atom_words.specs.declared.view.View.{View}
use Rattle.atom_words.specs.declared.kind.Kind.TheVariants.{Load}
use Rattle.atom_table.specs.Holding.{loads}

pub loads_keep : {A : Type 0} (f : View → A) → ((v : View) (i x : ℕ) → f (view_after v (Load i x)) ≡ f v) → (v : View) (z : Size) (k n : ℕ) (xs : List ℕ) → f (after v (loads z k n xs)) ≡ f v
loads_keep f same v z k n [] = refl
loads_keep f same v z k n (x ∷ xs) = loads_keep f same (view_after v (Load (text_at z k n) x)) z k (n + 1) xs ∙ same v (text_at z k n) x

pub loads_more : (v : View) (z : Size) (k n : ℕ) (xs : List ℕ) (x : ℕ) → after v (loads z k n (xs ++ x ∷ [])) ≡ view_after (after v (loads z k n xs)) (Load (text_at z k (n + length xs)) x)
loads_more v z k n [] x = let e : n ≡ n + 0 = omega arith in ap (λ (i : ℕ). view_after v (Load (text_at z k i) x)) e
loads_more v z k n (y ∷ xs) x = loads_more (view_after v (Load (text_at z k n) y)) z k (n + 1) xs x
    ∙ (let e : n + 1 + length xs ≡ n + length (y ∷ xs) = omega arith in ap (λ (i : ℕ). view_after (after (view_after v (Load (text_at z k n) y)) (loads z k (n + 1) xs)) (Load (text_at z k i) x)) e)
