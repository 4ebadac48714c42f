-- Terms of one argument, by their nodes.
use Rattle.std.proofs.Common.{◌≡◌, ℕ, suc, List, [], Bool, true, false, drop, get_or, refl, sym, ap, ◌∙◌, arith, Some, None}
use Rattle.std.proofs.lemmas.Bool.{false≢true, ne_eqb}
use Rattle.std.specs.Prelude.{bytes_eq, codes, ◌&&◌, ◌==◌, if◌then◌else◌}
use Rattle.pl_term.specs.declared.node.Node.{Node}
use Rattle.pl_term.specs.declared.node.Node.TheVariants.{Comp}
use Rattle.pl_term.specs.Tree.{Chars, Tree, var, int, atom, comp, none, more, count}
use Rattle.pl_term.specs.Nodes.{nodes, tree}
use Rattle.run_model.specs.Execution.{directive_of, initialization_of}
use Rattle.pl_consult.specs.Subterms.{StartsTerm}
use Rattle.pl_consult.specs.Items.{is_unary, IsUnary}
use Rattle.pl_consult.proofs.TermNodes.{first_node, tree-front, root}

-- Whether a term has this name and one argument, by its first node.
abbrev pub begins_unary : Chars → Node → Bool
begins_unary name (Comp f k) = (k == 1) && bytes_eq f name
begins_unary name _ = false

two_more : (n : ℕ) → (suc (suc n) == 1) ≡ false
two_more n = ne_eqb (suc (suc n)) 1 (λ e. omega (arith, e))

is_unary-first : (name : Chars) (t : Tree) → is_unary name t ≡ begins_unary name (first_node t)
is_unary-first name (var x) = refl
is_unary-first name (int i) = refl
is_unary-first name (atom a) = refl
is_unary-first name (comp f t none) = refl
is_unary-first name (comp f t (more u us)) = ap (λ b. b && bytes_eq f name) (sym (two_more (count us)))

pub is_unary-root : (name : Chars) (t : Tree) (ns : List Node) (n m : Node)
    → ns ≡ nodes t
    → n ≡ get_or ns 0 n
    → n ≡ m
    → is_unary name t ≡ begins_unary name m
is_unary-root name t ns n m are at is =
    is_unary-first name t ∙ ap (begins_unary name) (sym (root t ns n are at) ∙ is)

-- The argument of such a term.
pub record Only (t : Tree) : Type 0 where
  pub starts : StartsTerm (drop 1 (nodes t))
  pub whole : (r : Tree) → r ≡ tree (drop 1 (nodes t)) → (f : Chars) × (t ≡ comp f r none)

pub only : (t : Tree) → IsUnary t → Only t
only (var x) u = absurd u
only (int i) u = absurd u
only (atom a) u = absurd u
only (comp f t (more v vs)) u = absurd u
only (comp f t none) u = record {
  starts = record { term = t; rest = []; parts = refl };
  whole = λ r e. (f, ap (λ x. comp f x none) (sym (e ∙ tree-front t [])));
}

pub unary : (name : Chars) (t : Tree) → is_unary name t ≡ true → IsUnary t
unary name (var x) e = absurd (false≢true e)
unary name (int i) e = absurd (false≢true e)
unary name (atom a) e = absurd (false≢true e)
unary name (comp f t none) e = tt
unary name (comp f t (more v vs)) e = absurd (false≢true e)

-- The goals of directives.
directive_by : (b c : Bool) (t : Tree) → b ≡ true → Some t ≡ (if b then Some t else (if c then Some t else None))
directive_by true c t e = refl
directive_by false c t e = absurd (false≢true e)

directive_next : (b c : Bool) (t : Tree) → b ≡ false → c ≡ true → Some t ≡ (if b then Some t else (if c then Some t else None))
directive_next true c t d e = absurd (false≢true (sym d))
directive_next false true t d e = refl
directive_next false false t d e = absurd (false≢true e)

none_by : (b c : Bool) (t : Tree) → b ≡ false → c ≡ false → None ≡ (if b then Some t else (if c then Some t else None))
none_by true c t d e = absurd (false≢true (sym d))
none_by false true t d e = absurd (false≢true (sym e))
none_by false false t d e = refl

pub neck_directive : (t r : Tree) → is_unary (codes ":-") t ≡ true → (f : Chars) × (t ≡ comp f r none) → Some r ≡ directive_of t
neck_directive t r e (f, is) =
    directive_by (bytes_eq f (codes ":-")) (bytes_eq f (codes "?-")) r (sym (ap (is_unary (codes ":-")) is) ∙ e) ∙ ap directive_of (sym is)

pub query_directive : (t r : Tree) → is_unary (codes ":-") t ≡ false → is_unary (codes "?-") t ≡ true → (f : Chars) × (t ≡ comp f r none) → Some r ≡ directive_of t
query_directive t r d e (f, is) =
    directive_next (bytes_eq f (codes ":-")) (bytes_eq f (codes "?-")) r (sym (ap (is_unary (codes ":-")) is) ∙ d) (sym (ap (is_unary (codes "?-")) is) ∙ e)
    ∙ ap directive_of (sym is)

pub no_directive : (t : Tree) → is_unary (codes ":-") t ≡ false → is_unary (codes "?-") t ≡ false → None ≡ directive_of t
no_directive (var x) d e = refl
no_directive (int i) d e = refl
no_directive (atom a) d e = refl
no_directive (comp f t none) d e = none_by (bytes_eq f (codes ":-")) (bytes_eq f (codes "?-")) t d e
no_directive (comp f t (more v vs)) d e = refl

later_by : (b : Bool) (t : Tree) → b ≡ true → Some t ≡ (if b then Some t else None)
later_by true t e = refl
later_by false t e = absurd (false≢true e)

not_later : (b : Bool) (t : Tree) → b ≡ false → None ≡ (if b then Some t else None)
not_later true t e = absurd (false≢true (sym e))
not_later false t e = refl

pub initialization_later : (t r : Tree) → is_unary (codes "initialization") t ≡ true → (f : Chars) × (t ≡ comp f r none) → Some r ≡ initialization_of t
initialization_later t r e (f, is) =
    later_by (bytes_eq f (codes "initialization")) r (sym (ap (is_unary (codes "initialization")) is) ∙ e) ∙ ap initialization_of (sym is)

pub no_initialization : (t : Tree) → is_unary (codes "initialization") t ≡ false → None ≡ initialization_of t
no_initialization (var x) e = refl
no_initialization (int i) e = refl
no_initialization (atom a) e = refl
no_initialization (comp f t none) e = not_later (bytes_eq f (codes "initialization")) t e
no_initialization (comp f t (more v vs)) e = refl
