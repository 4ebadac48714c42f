-- How a compound term is begun: what was put on the page and on the stack stands for the pieces of the term.
use Rattle.std.proofs.Common.{◌≡◌, ℕ, suc, Bool, true, false, cond, List, [], ◌∷◌, ◌++◌, Option, Some, None, reverse, refl, sym, ◌∙◌, ap, append_assoc, append-nil, arith}
use Rattle.std.specs.Prelude.{◌==◌, ◌&&◌, bytes_eq, if◌then◌else◌, codes}
use Rattle.std.proofs.lemmas.Bool.{eqb-true}
use Rattle.std.proofs.lemmas.List.{reverse-append}
use Rattle.pl_term.specs.Tree.{Chars, Tree, Trees, comp, none, more, count, join, first, after}
use Rattle.pl_term.specs.Nodes.{first-join, after-join}
use Rattle.pl_model.specs.declared.operators.Kind.{Kind}
use Rattle.pl_model.specs.declared.operators.Place.TheVariants.{Prefix as Before, Infix as Between, Postfix as Behind}
use Rattle.pl_model.specs.OperatorTable.{Entry}
use Rattle.pl_model.specs.TermGrammar.{Lookup, left_argument, right_argument}
use Rattle.pl_model.specs.TermWriting.{Manner, Piece, plain, before_operand, Form, list, curly_brackets, infix_operation, prefix_operation, postfix_operation, functional, form, form_of_one, form_of_two, pieces, right_operand, arguments, list_tail, parenthesized, needs_parentheses, infix_pieces, postfix_pieces, functor_by, operator_name}
use Rattle.pl_model.specs.Writing.{Place, alone, operand, left_operand}
use Rattle.term_writer.specs.declared.writer.Work.{Work}
use Rattle.term_writer.specs.declared.writer.Work.TheVariants.{Term, Infix as Infix_work, Postfix as Postfix_work, Arguments, Rest, Parenthesis, Brace}
use Rattle.term_writer.specs.declared.operators.Position.{Position}
use Rattle.term_writer.specs.declared.operators.Position.TheVariants.{Alone, Operand, LeftOperand}
use Rattle.term_writer.specs.declared.operators.Shape.TheVariants.{List as List_shape, Curly, Infix, Prefix, Postfix, Functional}
use Rattle.term_writer.specs.declared.page.Page.{Page}
use Rattle.term_writer.specs.Styles.{shape_view, place_of}
use Rattle.term_writer.specs.Pages.{Puts, behind_page, shown}
use Rattle.term_writer.specs.Work.{coming}

-- One item more on the stack is the next one.
pub pushed : (s0 s1 : List Work) (w : Work) → s1 ≡ s0 ++ w ∷ [] → reverse s1 ≡ w ∷ reverse s0
pushed s0 s1 w e = ap reverse e ∙ reverse-append s0 (w ∷ [])

pub pushed_two : (s0 s1 s2 : List Work) (v w : Work)
    → s1 ≡ s0 ++ v ∷ []
    → s2 ≡ s1 ++ w ∷ []
    → reverse s2 ≡ w ∷ v ∷ reverse s0
pushed_two s0 s1 s2 v w e f = pushed s1 s2 w f ∙ ap (λ ws. w ∷ ws) (pushed s0 s1 v e)

-- The form of a term by its shape.
list_shape : (w : Form) → List_shape ≡ shape_view w → w ≡ list
list_shape list e = refl
list_shape curly_brackets e = cc
list_shape (infix_operation o) e = cc
list_shape (prefix_operation o) e = cc
list_shape (postfix_operation o) e = cc
list_shape functional e = cc

curly_shape : (w : Form) → Curly ≡ shape_view w → w ≡ curly_brackets
curly_shape list e = cc
curly_shape curly_brackets e = refl
curly_shape (infix_operation o) e = cc
curly_shape (prefix_operation o) e = cc
curly_shape (postfix_operation o) e = cc
curly_shape functional e = cc

infix_shape : (w : Form) (p : ℕ) (k : Kind) → Infix p k ≡ shape_view w → w ≡ infix_operation (p, k)
infix_shape list p k e = cc
infix_shape curly_brackets p k e = cc
infix_shape (infix_operation (q, l)) p k e =
    let p_is : p ≡ q = cc in
    let k_is : k ≡ l = cc in
    ap (λ (x : ℕ). infix_operation (x, l)) (sym p_is) ∙ ap (λ (x : Kind). infix_operation (p, x)) (sym k_is)
infix_shape (prefix_operation o) p k e = cc
infix_shape (postfix_operation o) p k e = cc
infix_shape functional p k e = cc

prefix_shape : (w : Form) (p : ℕ) (k : Kind) → Prefix p k ≡ shape_view w → w ≡ prefix_operation (p, k)
prefix_shape list p k e = cc
prefix_shape curly_brackets p k e = cc
prefix_shape (infix_operation o) p k e = cc
prefix_shape (prefix_operation (q, l)) p k e =
    let p_is : p ≡ q = cc in
    let k_is : k ≡ l = cc in
    ap (λ (x : ℕ). prefix_operation (x, l)) (sym p_is) ∙ ap (λ (x : Kind). prefix_operation (p, x)) (sym k_is)
prefix_shape (postfix_operation o) p k e = cc
prefix_shape functional p k e = cc

postfix_shape : (w : Form) (p : ℕ) (k : Kind) → Postfix p k ≡ shape_view w → w ≡ postfix_operation (p, k)
postfix_shape list p k e = cc
postfix_shape curly_brackets p k e = cc
postfix_shape (infix_operation o) p k e = cc
postfix_shape (prefix_operation o) p k e = cc
postfix_shape (postfix_operation (q, l)) p k e =
    let p_is : p ≡ q = cc in
    let k_is : k ≡ l = cc in
    ap (λ (x : ℕ). postfix_operation (x, l)) (sym p_is) ∙ ap (λ (x : Kind). postfix_operation (p, x)) (sym k_is)
postfix_shape functional p k e = cc

functional_shape : (w : Form) → Functional ≡ shape_view w → w ≡ functional
functional_shape list e = cc
functional_shape curly_brackets e = cc
functional_shape (infix_operation o) e = cc
functional_shape (prefix_operation o) e = cc
functional_shape (postfix_operation o) e = cc
functional_shape functional e = refl

-- Which forms take two arguments, and which take one.
takes : Form → Bool → Bool → Bool
takes list two one = two
takes curly_brackets two one = one
takes (infix_operation o) two one = two
takes (prefix_operation o) two one = one
takes (postfix_operation o) two one = one
takes functional two one = true

choice : Bool → Bool → Bool → Bool → Bool → Option Entry → Option Entry → Option Entry → Form
choice two dot curly one braces o1 o2 o3 =
    cond (two && dot) list (cond (curly && (one && braces)) curly_brackets (cond two (form_of_two o1) (cond one (form_of_one o2 o3) functional)))

fits : (two dot curly one braces : Bool) (o1 o2 o3 : Option Entry)
    → takes (choice two dot curly one braces o1 o2 o3) two one ≡ true
unfolding takes choice
fits true true y c q o1 o2 o3 = refl
fits true false true true true o1 o2 o3 = refl
fits true false true true false None o2 o3 = refl
fits true false true true false (Some e) o2 o3 = refl
fits true false true false q None o2 o3 = refl
fits true false true false q (Some e) o2 o3 = refl
fits true false false c q None o2 o3 = refl
fits true false false c q (Some e) o2 o3 = refl
fits false p true true true o1 o2 o3 = refl
fits false p true true false o1 None None = refl
fits false p true true false o1 None (Some e) = refl
fits false p true true false o1 (Some e) o3 = refl
fits false p true false q o1 o2 o3 = refl
fits false p false true q o1 None None = refl
fits false p false true q o1 None (Some e) = refl
fits false p false true q o1 (Some e) o3 = refl
fits false p false false q o1 o2 o3 = refl

opened : Bool → List Piece
opened b = if b then plain (codes "(") ∷ [] else []

parenthesis : Bool → List Work
parenthesis b = if b then Parenthesis ∷ [] else []

-- The items that were pushed, after the parenthesis where there is one.
pushed_behind : (b : Bool) (s0 s1 s2 : List Work) (w : Work)
    → s1 ≡ s0 ++ parenthesis b
    → s2 ≡ s1 ++ w ∷ []
    → reverse s2 ≡ w ∷ (parenthesis b ++ reverse s0)
unfolding parenthesis
pushed_behind true s0 s1 s2 w e1 e2 = pushed s1 s2 w e2 ∙ ap (λ ws. w ∷ ws) (pushed s0 s1 Parenthesis e1)
pushed_behind false s0 s1 s2 w e1 e2 =
    pushed s1 s2 w e2 ∙ ap (λ ws. w ∷ reverse ws) (e1 ∙ append-nil s0)

pushed_three : (b : Bool) (s0 s1 s2 s3 : List Work) (v w : Work)
    → s1 ≡ s0 ++ parenthesis b
    → s2 ≡ s1 ++ v ∷ []
    → s3 ≡ s2 ++ w ∷ []
    → reverse s3 ≡ w ∷ v ∷ (parenthesis b ++ reverse s0)
pushed_three b s0 s1 s2 s3 v w e1 e2 e3 = pushed s2 s3 w e3 ∙ ap (λ ws. w ∷ ws) (pushed_behind b s0 s1 s2 v e1 e2)

module _ (manner : Manner) (ops : Lookup) where
  takes_form : (f : Chars) (n : ℕ) (w : Form) → form manner ops f n ≡ w → takes w (n == 2) (n == 1) ≡ true
  unfolding choice
  takes_form f n w e =
      ap (λ (v : Form). takes v (n == 2) (n == 1)) (sym e)
      ∙ fits (n == 2) (bytes_eq f (codes ".")) manner.curly (n == 1) (bytes_eq f (codes "{}")) (ops f Between) (ops f Before) (ops f Behind)

  list_two : (f : Chars) (n : ℕ) → form manner ops f n ≡ list → n ≡ 2
  unfolding takes
  list_two f n e = eqb-true n 2 (takes_form f n list e)

  curly_one : (f : Chars) (n : ℕ) → form manner ops f n ≡ curly_brackets → n ≡ 1
  unfolding takes
  curly_one f n e = eqb-true n 1 (takes_form f n curly_brackets e)

  infix_two : (f : Chars) (n : ℕ) (o : Entry) → form manner ops f n ≡ infix_operation o → n ≡ 2
  unfolding takes
  infix_two f n o e = eqb-true n 2 (takes_form f n (infix_operation o) e)

  prefix_one : (f : Chars) (n : ℕ) (o : Entry) → form manner ops f n ≡ prefix_operation o → n ≡ 1
  unfolding takes
  prefix_one f n o e = eqb-true n 1 (takes_form f n (prefix_operation o) e)

  postfix_one : (f : Chars) (n : ℕ) (o : Entry) → form manner ops f n ≡ postfix_operation o → n ≡ 1
  unfolding takes
  postfix_one f n o e = eqb-true n 1 (takes_form f n (postfix_operation o) e)

  -- The pieces of a compound term by its form.
  by_form : ℕ → Place → Chars → Tree → Trees → Form → List Piece
  by_form max place f t ts w =
      elim w [
        | list ↦ plain (codes "[") ∷ (pieces manner ops 999 alone t ++ list_tail manner ops ts)
        | curly_brackets ↦ plain (codes "{") ∷ (pieces manner ops 1200 alone t ++ plain (codes "}") ∷ [])
        | infix_operation e ↦ parenthesized (needs_parentheses max place e) (pieces manner ops (left_argument e) (left_operand e.0) t ++ (infix_pieces manner f ++ right_operand manner ops e ts))
        | prefix_operation e ↦ parenthesized (needs_parentheses max place e) (before_operand f (operator_name manner f) ∷ pieces manner ops (right_argument e) operand t)
        | postfix_operation e ↦ parenthesized (needs_parentheses max place e) (pieces manner ops (left_argument e) (left_operand e.0) t ++ postfix_pieces manner f)
        | functional ↦ plain (functor_by manner f) ∷ plain (codes "(") ∷ (pieces manner ops 999 alone t ++ arguments manner ops ts)
      ]

  pieces_by_form : (max : ℕ) (place : Place) (f : Chars) (t : Tree) (ts : Trees) (w : Form)
      → form manner ops f (suc (count ts)) ≡ w
      → pieces manner ops max place (comp f t ts) ≡ by_form max place f t ts w
  unfolding pieces by_form
  pieces_by_form max place f t ts w e = ap (by_form max place f t ts) e

  -- A list: its bracket is put, its first element and what follows it are to come.
  pub list_opens : (old new : Page) (f : Chars) (k max : ℕ) (p : Position) (s0 s1 s2 : List Work) (t : Tree) (ts us : Trees)
      → Puts old new (plain (codes "[") ∷ [])
      → List_shape ≡ shape_view (form manner ops f k)
      → s1 ≡ s0 ++ Rest ∷ []
      → s2 ≡ s1 ++ Term 999 Alone ∷ []
      → k ≡ suc (count ts)
      → shown new.bytes.items (behind_page new) (coming manner ops (reverse s2) (more t (join ts us)))
      ≡ shown old.bytes.items (behind_page old) (pieces manner ops max (place_of p) (comp f t ts) ++ coming manner ops (reverse s0) us)
  unfolding by_form
  list_opens old new f k max p s0 s1 s2 t none us puts shape e1 e2 is =
      absurd (omega (arith, list_two f k (list_shape _ shape)))
  list_opens old new f k max p s0 s1 s2 t (more u none) us puts shape e1 e2 is =
      let w : form manner ops f 2 ≡ list = ap (form manner ops f) (sym is) ∙ list_shape _ shape in
      let head = pieces manner ops 999 alone t in
      let tail = list_tail manner ops (more u none) in
      ap (λ ws. shown new.bytes.items (behind_page new) (coming manner ops ws (more t (more u us)))) (pushed_two s0 s1 s2 Rest (Term 999 Alone) e1 e2)
      ∙ puts (head ++ (tail ++ coming manner ops (reverse s0) us))
      ∙ ap (λ qs. shown old.bytes.items (behind_page old) (plain (codes "[") ∷ qs)) (sym (append_assoc head tail (coming manner ops (reverse s0) us)))
      ∙ ap (λ qs. shown old.bytes.items (behind_page old) (qs ++ coming manner ops (reverse s0) us)) (sym (pieces_by_form max (place_of p) f t (more u none) list w))
  list_opens old new f k max p s0 s1 s2 t (more u (more v vs)) us puts shape e1 e2 is =
      absurd (omega (arith, list_two f k (list_shape _ shape)))

  -- Curly brackets: the first is put, the term between them and the second are to come.
  pub curly_opens : (old new : Page) (f : Chars) (k max : ℕ) (p : Position) (s0 s1 s2 : List Work) (t : Tree) (ts us : Trees)
      → Puts old new (plain (codes "{") ∷ [])
      → Curly ≡ shape_view (form manner ops f k)
      → s1 ≡ s0 ++ Brace ∷ []
      → s2 ≡ s1 ++ Term 1200 Alone ∷ []
      → k ≡ suc (count ts)
      → shown new.bytes.items (behind_page new) (coming manner ops (reverse s2) (more t (join ts us)))
      ≡ shown old.bytes.items (behind_page old) (pieces manner ops max (place_of p) (comp f t ts) ++ coming manner ops (reverse s0) us)
  unfolding by_form
  curly_opens old new f k max p s0 s1 s2 t none us puts shape e1 e2 is =
      let w : form manner ops f 1 ≡ curly_brackets = ap (form manner ops f) (sym is) ∙ curly_shape _ shape in
      let inside = pieces manner ops 1200 alone t in
      ap (λ ws. shown new.bytes.items (behind_page new) (coming manner ops ws (more t us))) (pushed_two s0 s1 s2 Brace (Term 1200 Alone) e1 e2)
      ∙ puts (inside ++ plain (codes "}") ∷ coming manner ops (reverse s0) us)
      ∙ ap (λ qs. shown old.bytes.items (behind_page old) (plain (codes "{") ∷ qs)) (sym (append_assoc inside (plain (codes "}") ∷ []) (coming manner ops (reverse s0) us)))
      ∙ ap (λ qs. shown old.bytes.items (behind_page old) (qs ++ coming manner ops (reverse s0) us)) (sym (pieces_by_form max (place_of p) f t none curly_brackets w))
  curly_opens old new f k max p s0 s1 s2 t (more u vs) us puts shape e1 e2 is =
      absurd (omega (arith, curly_one f k (curly_shape _ shape)))

  -- A name with its arguments: the name and the parenthesis are put.
  pub functional_opens : (old named new : Page) (f : Chars) (k m max : ℕ) (p : Position) (s0 s1 s2 : List Work) (t : Tree) (ts us : Trees)
      → Puts old named (plain (functor_by manner f) ∷ [])
      → Puts named new (plain (codes "(") ∷ [])
      → Functional ≡ shape_view (form manner ops f k)
      → s1 ≡ s0 ++ Arguments m ∷ []
      → s2 ≡ s1 ++ Term 999 Alone ∷ []
      → k ≡ suc (count ts)
      → k ≡ suc m
      → shown new.bytes.items (behind_page new) (coming manner ops (reverse s2) (more t (join ts us)))
      ≡ shown old.bytes.items (behind_page old) (pieces manner ops max (place_of p) (comp f t ts) ++ coming manner ops (reverse s0) us)
  unfolding by_form
  functional_opens old named new f k m max p s0 s1 s2 t ts us puts_name puts_mark shape e1 e2 is one_less =
      let w : form manner ops f (suc (count ts)) ≡ functional = ap (form manner ops f) (sym is) ∙ functional_shape _ shape in
      let head = pieces manner ops 999 alone t in
      let tail = arguments manner ops ts in
      let rest = coming manner ops (reverse s0) us in
      let same : m ≡ count ts = omega arith in
      ap (λ ws. shown new.bytes.items (behind_page new) (coming manner ops ws (more t (join ts us)))) (pushed_two s0 s1 s2 (Arguments m) (Term 999 Alone) e1 e2)
      ∙ ap (λ n. shown new.bytes.items (behind_page new) (head ++ (arguments manner ops (first n (join ts us)) ++ coming manner ops (reverse s0) (after n (join ts us))))) same
      ∙ ap (λ vs. shown new.bytes.items (behind_page new) (head ++ (arguments manner ops vs ++ coming manner ops (reverse s0) (after (count ts) (join ts us))))) (first-join ts us)
      ∙ ap (λ vs. shown new.bytes.items (behind_page new) (head ++ (tail ++ coming manner ops (reverse s0) vs))) (after-join ts us)
      ∙ puts_mark (head ++ (tail ++ rest))
      ∙ puts_name (plain (codes "(") ∷ (head ++ (tail ++ rest)))
      ∙ ap (λ qs. shown old.bytes.items (behind_page old) (plain (functor_by manner f) ∷ plain (codes "(") ∷ qs)) (sym (append_assoc head tail rest))
      ∙ ap (λ qs. shown old.bytes.items (behind_page old) (qs ++ rest)) (sym (pieces_by_form max (place_of p) f t ts functional w))

  -- What stands between parentheses, and what follows them.
  enclosed : (b : Bool) (qs : List Piece) (ws : List Work) (us : Trees)
      → opened b ++ (qs ++ coming manner ops (parenthesis b ++ ws) us) ≡ parenthesized b qs ++ coming manner ops ws us
  unfolding opened parenthesis
  enclosed true qs ws us =
      ap (λ rs. plain (codes "(") ∷ rs) (sym (append_assoc qs (plain (codes ")") ∷ []) (coming manner ops ws us)))
  enclosed false qs ws us = refl

  -- An infix operator's term: its parenthesis is put, its operands with the operator between them are to come.
  pub infix_opens : (old new : Page) (f : Chars) (k max : ℕ) (p : Position) (r l q : ℕ) (d : Kind) (b : Bool) (s0 s1 s2 s3 : List Work) (t : Tree) (ts us : Trees)
      → Puts old new (if b then plain (codes "(") ∷ [] else [])
      → Infix q d ≡ shape_view (form manner ops f k)
      → b ≡ needs_parentheses max (place_of p) (q, d)
      → r ≡ right_argument (q, d)
      → l ≡ left_argument (q, d)
      → s1 ≡ s0 ++ (if b then Parenthesis ∷ [] else [])
      → s2 ≡ s1 ++ Infix_work f r ∷ []
      → s3 ≡ s2 ++ Term l (LeftOperand q) ∷ []
      → k ≡ suc (count ts)
      → shown new.bytes.items (behind_page new) (coming manner ops (reverse s3) (more t (join ts us)))
      ≡ shown old.bytes.items (behind_page old) (pieces manner ops max (place_of p) (comp f t ts) ++ coming manner ops (reverse s0) us)
  unfolding by_form opened parenthesis pieces
  infix_opens old new f k max p r l q d b s0 s1 s2 s3 t none us puts shape needs r_is l_is e1 e2 e3 is =
      absurd (omega (arith, infix_two f k (q, d) (infix_shape _ q d shape)))
  infix_opens old new f k max p r l q d b s0 s1 s2 s3 t (more u none) us puts shape needs r_is l_is e1 e2 e3 is =
      let w : form manner ops f 2 ≡ infix_operation (q, d) = ap (form manner ops f) (sym is) ∙ infix_shape _ q d shape in
      let left = pieces manner ops (left_argument (q, d)) (left_operand q) t in
      let right = pieces manner ops (right_argument (q, d)) operand u in
      let name = infix_pieces manner f in
      let rest = coming manner ops (reverse s0) us in
      ap (λ ws. shown new.bytes.items (behind_page new) (coming manner ops ws (more t (more u us)))) (pushed_three b s0 s1 s2 s3 _ _ e1 e2 e3)
      ∙ ap (λ n. shown new.bytes.items (behind_page new) (pieces manner ops l (left_operand q) t ++ (name ++ (pieces manner ops n operand u ++ coming manner ops (parenthesis b ++ reverse s0) us)))) r_is
      ∙ ap (λ n. shown new.bytes.items (behind_page new) (pieces manner ops n (left_operand q) t ++ (name ++ (right ++ coming manner ops (parenthesis b ++ reverse s0) us)))) l_is
      ∙ puts (left ++ (name ++ (right ++ coming manner ops (parenthesis b ++ reverse s0) us)))
      ∙ ap (λ qs. shown old.bytes.items (behind_page old) (opened b ++ qs)) (regroup left name right (coming manner ops (parenthesis b ++ reverse s0) us))
      ∙ ap (shown old.bytes.items (behind_page old)) (enclosed b (left ++ (name ++ right)) (reverse s0) us)
      ∙ ap (λ c. shown old.bytes.items (behind_page old) (parenthesized c (left ++ (name ++ right)) ++ rest)) needs
      ∙ ap (λ qs. shown old.bytes.items (behind_page old) (qs ++ rest)) (sym (pieces_by_form max (place_of p) f t (more u none) (infix_operation (q, d)) w))
    where
      regroup : (a b c d : List Piece) → a ++ (b ++ (c ++ d)) ≡ (a ++ (b ++ c)) ++ d
      regroup a b c d = sym (append_assoc a (b ++ c) d ∙ ap (λ e. a ++ e) (append_assoc b c d))
  infix_opens old new f k max p r l q d b s0 s1 s2 s3 t (more u (more v vs)) us puts shape needs r_is l_is e1 e2 e3 is =
      absurd (omega (arith, infix_two f k (q, d) (infix_shape _ q d shape)))

  -- A prefix operator's term: its parenthesis and the operator are put, its operand is to come.
  pub prefix_opens : (old begun new : Page) (f : Chars) (k max : ℕ) (p : Position) (r q : ℕ) (d : Kind) (b : Bool) (s0 s1 s2 : List Work) (t : Tree) (ts us : Trees)
      → Puts old begun (if b then plain (codes "(") ∷ [] else [])
      → Puts begun new (before_operand f (operator_name manner f) ∷ [])
      → Prefix q d ≡ shape_view (form manner ops f k)
      → b ≡ needs_parentheses max (place_of p) (q, d)
      → r ≡ right_argument (q, d)
      → s1 ≡ s0 ++ (if b then Parenthesis ∷ [] else [])
      → s2 ≡ s1 ++ Term r Operand ∷ []
      → k ≡ suc (count ts)
      → shown new.bytes.items (behind_page new) (coming manner ops (reverse s2) (more t (join ts us)))
      ≡ shown old.bytes.items (behind_page old) (pieces manner ops max (place_of p) (comp f t ts) ++ coming manner ops (reverse s0) us)
  unfolding by_form opened parenthesis
  prefix_opens old begun new f k max p r q d b s0 s1 s2 t none us puts puts_name shape needs r_is e1 e2 is =
      let w : form manner ops f 1 ≡ prefix_operation (q, d) = ap (form manner ops f) (sym is) ∙ prefix_shape _ q d shape in
      let right = pieces manner ops (right_argument (q, d)) operand t in
      let name = before_operand f (operator_name manner f) in
      let rest = coming manner ops (reverse s0) us in
      ap (λ ws. shown new.bytes.items (behind_page new) (coming manner ops ws (more t us))) (pushed_behind b s0 s1 s2 _ e1 e2)
      ∙ ap (λ n. shown new.bytes.items (behind_page new) (pieces manner ops n operand t ++ coming manner ops (parenthesis b ++ reverse s0) us)) r_is
      ∙ puts_name (right ++ coming manner ops (parenthesis b ++ reverse s0) us)
      ∙ puts (name ∷ (right ++ coming manner ops (parenthesis b ++ reverse s0) us))
      ∙ ap (shown old.bytes.items (behind_page old)) (enclosed b (name ∷ right) (reverse s0) us)
      ∙ ap (λ c. shown old.bytes.items (behind_page old) (parenthesized c (name ∷ right) ++ rest)) needs
      ∙ ap (λ qs. shown old.bytes.items (behind_page old) (qs ++ rest)) (sym (pieces_by_form max (place_of p) f t none (prefix_operation (q, d)) w))
  prefix_opens old begun new f k max p r q d b s0 s1 s2 t (more u vs) us puts puts_name shape needs r_is e1 e2 is =
      absurd (omega (arith, prefix_one f k (q, d) (prefix_shape _ q d shape)))

  -- A postfix operator's term: its parenthesis is put, its operand with the operator after it are to come.
  pub postfix_opens : (old new : Page) (f : Chars) (k max : ℕ) (p : Position) (l q : ℕ) (d : Kind) (b : Bool) (s0 s1 s2 s3 : List Work) (t : Tree) (ts us : Trees)
      → Puts old new (if b then plain (codes "(") ∷ [] else [])
      → Postfix q d ≡ shape_view (form manner ops f k)
      → b ≡ needs_parentheses max (place_of p) (q, d)
      → l ≡ left_argument (q, d)
      → s1 ≡ s0 ++ (if b then Parenthesis ∷ [] else [])
      → s2 ≡ s1 ++ Postfix_work f ∷ []
      → s3 ≡ s2 ++ Term l (LeftOperand q) ∷ []
      → k ≡ suc (count ts)
      → shown new.bytes.items (behind_page new) (coming manner ops (reverse s3) (more t (join ts us)))
      ≡ shown old.bytes.items (behind_page old) (pieces manner ops max (place_of p) (comp f t ts) ++ coming manner ops (reverse s0) us)
  unfolding by_form opened parenthesis
  postfix_opens old new f k max p l q d b s0 s1 s2 s3 t none us puts shape needs l_is e1 e2 e3 is =
      let w : form manner ops f 1 ≡ postfix_operation (q, d) = ap (form manner ops f) (sym is) ∙ postfix_shape _ q d shape in
      let left = pieces manner ops (left_argument (q, d)) (left_operand q) t in
      let name = postfix_pieces manner f in
      let rest = coming manner ops (reverse s0) us in
      let behind = coming manner ops (parenthesis b ++ reverse s0) us in
      ap (λ ws. shown new.bytes.items (behind_page new) (coming manner ops ws (more t us))) (pushed_three b s0 s1 s2 s3 _ _ e1 e2 e3)
      ∙ ap (λ n. shown new.bytes.items (behind_page new) (pieces manner ops n (left_operand q) t ++ (name ++ behind))) l_is
      ∙ puts (left ++ (name ++ behind))
      ∙ ap (λ qs. shown old.bytes.items (behind_page old) (opened b ++ qs)) (sym (append_assoc left name behind))
      ∙ ap (shown old.bytes.items (behind_page old)) (enclosed b (left ++ name) (reverse s0) us)
      ∙ ap (λ c. shown old.bytes.items (behind_page old) (parenthesized c (left ++ name) ++ rest)) needs
      ∙ ap (λ qs. shown old.bytes.items (behind_page old) (qs ++ rest)) (sym (pieces_by_form max (place_of p) f t none (postfix_operation (q, d)) w))
  postfix_opens old new f k max p l q d b s0 s1 s2 s3 t (more u vs) us puts shape needs l_is e1 e2 e3 is =
      absurd (omega (arith, postfix_one f k (q, d) (postfix_shape _ q d shape)))
