-- The cells of a clause that is kept as one term, by the cells of the term.
use Rattle.std.proofs.Common.{◌≡◌, ℕ, suc, Bool, true, false, ◌+◌, ◌&&◌, ◌==◌, List, [], ◌++◌, refl, sym, ap, ◌∙◌, append-nil, arith, length}
use Rattle.std.proofs.lemmas.Bool.{false≢true, true≢false}
use Rattle.std.specs.Prelude.{bytes_eq, codes, if◌then◌else◌, get_or}
use Rattle.pl_term.specs.declared.node.Node.{Node}
use Rattle.pl_term.specs.Tree.{Chars, Tree, var, int, atom, comp, none, more, count}
use Rattle.pl_term.specs.Nodes.{nodes}
use Rattle.pl_term.specs.Variables.{occurrences, occurrences_all, distinct}
use Rattle.pl_term.specs.Cells.{cells, cells_all, compound_cells}
use Rattle.pl_model.specs.KeptNodes.{is_rule_node}
use Rattle.pl_model.specs.KeptCells.{kept_cells}
use Rattle.pl_model.proofs.KeptKeys.{not_two}

-- The term and a body without cells or variables.
alone : (t u : Tree) → compound_cells u ≡ 0 → occurrences u ≡ [] → cells t ≡ cells_all (more t (more u none))
alone t u c o =
    let vs : length (distinct (occurrences t)) ≡ length (distinct (occurrences_all (more t (more u none)))) =
    ap (λ xs. length (distinct xs)) (sym (ap (λ ys. occurrences t ++ (ys ++ [])) o ∙ append-nil (occurrences t)))
    in omega (arith, c, vs)

never : (r b : Bool) {t : ℕ} {u : ℕ} → r ≡ false → (r && b) ≡ true → t ≡ u
never r b e h = elim (false≢true (sym (ap (λ x. x && b) e) ∙ h)) [ ]

-- Of the two parts of a rule.
both : (f : Chars) (h b : Tree) → cells (comp f h (more b none)) ≡ 3 + cells_all (more h (more b none))
both f h b = omega arith

pub rule_cells : (t : Tree) (d : Node) → is_rule_node (get_or (nodes t) 0 d) ≡ true → cells t ≡ 3 + kept_cells t
rule_cells (var x) d e = elim (false≢true e) [ ]
rule_cells (int i) d e = elim (false≢true e) [ ]
rule_cells (atom a) d e = elim (false≢true e) [ ]
rule_cells (comp f h none) d e = elim (false≢true e) [ ]
rule_cells (comp f h (more b none)) d e = both f h b ∙ go (bytes_eq f (codes ":-")) e
  where
    go : (r : Bool) → r ≡ true
        → 3 + cells_all (more h (more b none))
        ≡ 3 + cells_all (more (if r then h else comp f h (more b none)) (more (if r then b else atom (codes "true")) none))
    go true e = refl
    go false e = elim (false≢true e) [ ]
rule_cells (comp f t (more u (more v ts))) d e =
    never (suc (suc (suc (count ts))) == 2) (bytes_eq f (codes ":-")) (not_two (count ts)) e

pub fact_cells : (t : Tree) (d : Node) → is_rule_node (get_or (nodes t) 0 d) ≡ false → cells t ≡ kept_cells t
fact_cells (var x) d e = alone (var x) (atom (codes "true")) refl refl
fact_cells (int i) d e = alone (int i) (atom (codes "true")) refl refl
fact_cells (atom a) d e = alone (atom a) (atom (codes "true")) refl refl
fact_cells (comp f t none) d e = alone (comp f t none) (atom (codes "true")) refl refl
fact_cells (comp f h (more b none)) d e = go (bytes_eq f (codes ":-")) e
  where
    go : (r : Bool) → r ≡ false
        → cells (comp f h (more b none))
        ≡ cells_all (more (if r then h else comp f h (more b none)) (more (if r then b else atom (codes "true")) none))
    go true e = elim (true≢false e) [ ]
    go false e = alone (comp f h (more b none)) (atom (codes "true")) refl refl
fact_cells (comp f t (more u (more v ts))) d e = alone (comp f t (more u (more v ts))) (atom (codes "true")) refl refl

-- The test of a term's first node.
pub begins : (t : Tree) (r : Bool) (d : Node) (ns : List Node)
    → r ≡ is_rule_node d → d ≡ get_or ns 0 d → ns ≡ nodes t → is_rule_node (get_or (nodes t) 0 d) ≡ r
begins t r d ns test first spelt = sym (test ∙ ap is_rule_node (first ∙ ap (λ (ms : List Node). get_or ms 0 d) spelt))
