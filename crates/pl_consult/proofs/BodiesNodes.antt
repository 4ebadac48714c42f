-- The nodes of bodies, of rules and of renamed terms.
use Rattle.std.proofs.Common.{◌≡◌, ℕ, ◌≤◌, List, Bool, false, length, get_or, refl, sym, ap, ◌∙◌, arith}
use Rattle.std.specs.Prelude.{bytes_eq, codes, ◌&&◌, ◌==◌, IsTrue, ◌↔◌}
use Rattle.std.specs.Str.{chars}
use Rattle.std.proofs.lemmas.Bool.Decides.{same_from_decides, Decides-like}
use Rattle.std.proofs.lemmas.Slice.Eq.{bytes_eq-Decides}
use Rattle.pl_term.specs.declared.node.Node.{Node}
use Rattle.pl_term.specs.declared.node.Node.TheVariants.{Comp}
use Rattle.pl_term.specs.Tree.{Chars, Tree, var, int, atom, comp, none, more, count}
use Rattle.pl_term.specs.Nodes.{nodes}
use Rattle.pl_term.specs.Variables.{variables}
use Rattle.pl_term.proofs.CellLemmas.{length-met}
use Rattle.pl_term.proofs.NodeLemmas.{met, met-nodes}
use Rattle.pl_consult.specs.BodyNodes.{is_rule}
use Rattle.pl_consult.proofs.TermNodes.{first_node}
use Rattle.pl_consult.proofs.BodiesConverted.{three_more}
use Rattle.pl_consult.proofs.TermNodes.{root}

-- A text that is a word.
pub word-by : (b : Bool) (f : Chars) (bs cs : List ℕ)
    → IsTrue b ↔ (f ≡ chars bs)
    → chars bs ≡ cs
    → b ≡ bytes_eq f cs
word-by b f bs cs e is =
    same_from_decides
    b
    (bytes_eq f cs)
    (Decides-like b (λ p. p ∙ is) (λ p. p ∙ sym is) e)
    (bytes_eq-Decides f cs)

-- Whether a term is a rule, by its first node.
abbrev pub begins_rule : Node → Bool
begins_rule (Comp f k) = (k == 2) && bytes_eq f (codes ":-")
begins_rule _ = false

pub is_rule-first : (t : Tree) → is_rule t ≡ begins_rule (first_node t)
is_rule-first (var x) = refl
is_rule-first (int i) = refl
is_rule-first (atom a) = refl
is_rule-first (comp f t none) = refl
is_rule-first (comp f t (more u none)) = refl
is_rule-first (comp f t (more u (more v vs))) =
    ap (λ b. b && bytes_eq f (codes ":-")) (sym (three_more (count vs)))

-- No term in memory has more variables than nodes.
pub variables-few : (t : Tree) (ns : List Node) → ns ≡ nodes t → length (variables t) ≤ length ns
variables-few t ns are =
    let size : length (met (nodes t)) ≡ length (variables t) = ap length (met-nodes t)
    in omega (arith, length-met (nodes t), ap (length {A = Node}) are)

pub is_rule-root : (t : Tree) (ns : List Node) (n m : Node)
    → ns ≡ nodes t
    → n ≡ get_or ns 0 n
    → n ≡ m
    → is_rule t ≡ begins_rule m
is_rule-root t ns n m are at is = is_rule-first t ∙ ap begins_rule (sym (root t ns n are at) ∙ is)
