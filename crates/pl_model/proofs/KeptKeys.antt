-- The key of a clause's first argument by the list of its nodes.
use Rattle.std.proofs.Common.{◌≡◌, ℕ, suc, Bool, true, false, cond, ◌&&◌, ◌==◌, List, [], ◌∷◌, ◌++◌, refl, sym, ap, ◌∙◌, append_assoc, arith}
use Rattle.std.proofs.lemmas.Bool.{ne_eqb}
use Rattle.std.specs.Prelude.{bytes_eq, codes, if◌then◌else◌, IsTrue, ◌↔◌}
use Rattle.std.specs.Str.{chars}
use Rattle.std.proofs.lemmas.Bool.Decides.{same_from_decides, Decides-like}
use Rattle.std.proofs.lemmas.Slice.Eq.{bytes_eq-Decides}
use Rattle.pl_term.specs.declared.node.Node.{Node}
use Rattle.pl_term.specs.declared.node.Node.TheVariants.{Comp}
use Rattle.pl_term.specs.Tree.{Chars, Tree, var, int, atom, comp, none, more, count}
use Rattle.pl_term.specs.Nodes.{nodes, nodes_all}
use Rattle.pl_model.specs.FirstArguments.{argument_key, head_key, head_of}
use Rattle.pl_model.specs.KeptNodes.{head_nodes, first_key}

first_key-argument : (f : List ℕ) (k : ℕ) (t : Tree) (ns : List Node) → first_key (Comp f k ∷ (nodes t ++ ns)) ≡ argument_key t
first_key-argument f k (var x) ns = refl
first_key-argument f k (int i) ns = refl
first_key-argument f k (atom a) ns = refl
first_key-argument f k (comp g t ts) ns = refl

first_key-nodes : (t : Tree) (ns : List Node) → first_key (nodes t ++ ns) ≡ head_key t
first_key-nodes (var x) ns = refl
first_key-nodes (int i) ns = refl
first_key-nodes (atom a) ns = refl
first_key-nodes (comp f t ts) ns =
    ap (λ ms. first_key (Comp f (suc (count ts)) ∷ ms)) (append_assoc (nodes t) (nodes_all ts) ns)
    ∙ first_key-argument f (suc (count ts)) t (nodes_all ts ++ ns)

pub not_two : (n : ℕ) → (suc (suc (suc n)) == 2) ≡ false
not_two n = ne_eqb (suc (suc (suc n))) 2 (λ e. omega arith)

pub first_key-head : (t : Tree) → first_key (head_nodes (nodes t)) ≡ head_key (head_of t)
first_key-head (var x) = refl
first_key-head (int i) = refl
first_key-head (atom a) = refl
first_key-head (comp f t none) = first_key-argument f 1 t []
first_key-head (comp f t (more u none)) = go (bytes_eq f (codes ":-"))
  where
    go : (b : Bool)
        → first_key (if b then nodes t ++ (nodes u ++ []) else Comp f 2 ∷ (nodes t ++ (nodes u ++ [])))
        ≡ head_key (if b then t else comp f t (more u none))
    go true = first_key-nodes t (nodes u ++ [])
    go false = first_key-argument f 2 t (nodes u ++ [])
first_key-head (comp f t (more u (more v ts))) =
    ap (λ b. first_key (cond (b && bytes_eq f (codes ":-")) (nodes t ++ (nodes u ++ (nodes v ++ nodes_all ts))) (Comp f (suc (suc (suc (count ts)))) ∷ (nodes t ++ (nodes u ++ (nodes v ++ nodes_all ts))))))
    (not_two (count ts))
    ∙ first_key-argument f (suc (suc (suc (count ts)))) t (nodes u ++ (nodes v ++ nodes_all ts))

chars-neck : chars (58 ∷ 45 ∷ []) ≡ codes ":-"
unfolding chars
chars-neck = refl

-- Whether a name is that of a rule.
pub word-neck : (b : Bool) (f : Chars) → IsTrue b ↔ (f ≡ chars (58 ∷ 45 ∷ [])) → b ≡ bytes_eq f (codes ":-")
word-neck b f e =
    same_from_decides
    b
    (bytes_eq f (codes ":-"))
    (Decides-like b (λ p. p ∙ chars-neck) (λ p. p ∙ sym chars-neck) e)
    (bytes_eq-Decides f (codes ":-"))
