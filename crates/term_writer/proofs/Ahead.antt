-- The nodes that are still to be read, and the pieces that are still to come.
use Rattle.std.proofs.Common.{◌≡◌, ◌<◌, ◌+◌, ℕ, suc, Bool, true, false, List, [], ◌∷◌, ◌++◌, length, drop, get_or, refl, sym, ◌∙◌, ap, append_assoc, append-nil, arith, add-one, length-drop, drop-cons, ℤ}
use Rattle.std.specs.Fmt.{signed_decimal}
use Rattle.std.proofs.lemmas.Bool.{false≢true}
use Rattle.pl_term.specs.declared.node.Node.{Node}
use Rattle.pl_term.specs.declared.node.Node.TheVariants.{Var, Int, Atom, Comp}
use Rattle.pl_term.specs.Tree.{Chars, Tree, Trees, var, int, atom, comp, none, more, count, join}
use Rattle.pl_term.specs.Nodes.{nodes, nodes_all, forest, forest-nodes_all}
use Rattle.pl_model.specs.TermGrammar.{Lookup}
use Rattle.pl_model.specs.TermWriting.{Manner, plain, pieces, atom_pieces}
use Rattle.pl_model.specs.Writing.{variable}
use Rattle.term_writer.specs.declared.writer.Work.{Work}
use Rattle.term_writer.specs.declared.writer.Work.TheVariants.{Term}
use Rattle.term_writer.specs.declared.operators.Position.{Position}
use Rattle.term_writer.specs.declared.page.Page.{Page}
use Rattle.term_writer.specs.Styles.{place_of}
use Rattle.term_writer.specs.Pages.{behind_page, shown}
use Rattle.term_writer.specs.Work.{Ahead, reads, coming, left}

join-none : (ts : Trees) → join ts none ≡ ts
join-none none = refl
join-none (more t ts) = ap (more t) (join-none ts)

pub count-join : (ts us : Trees) → count (join ts us) ≡ count ts + count us
count-join none us = omega arith
count-join (more t ts) us = omega (arith, count-join ts us)

-- The nodes of terms spell these terms.
pub forest_all : (ts : Trees) → forest (nodes_all ts) ≡ ts
forest_all ts = ap forest (sym (append-nil (nodes_all ts))) ∙ forest-nodes_all ts [] ∙ join-none ts

nodes_all-join : (ts us : Trees) → nodes_all ts ++ nodes_all us ≡ nodes_all (join ts us)
nodes_all-join none us = refl
nodes_all-join (more t ts) us =
    append_assoc (nodes t) (nodes_all ts) (nodes_all us) ∙ ap (λ ns. nodes t ++ ns) (nodes_all-join ts us)

pub some_node : (t : Tree) (ns : List Node) → 0 < length (nodes t ++ ns)
some_node (var x) ns = omega arith
some_node (int i) ns = omega arith
some_node (atom a) ns = omega arith
some_node (comp f t ts) ns = omega arith

-- Where a term is still to be read, there is a node.
within_trees : (ns : List Node) (at : ℕ) (ts : Trees) → drop at ns ≡ nodes_all ts → 0 < count ts → at < length ns
within_trees ns at none e some = absurd (omega arith)
within_trees ns at (more t ts) e some =
    omega (arith, length-drop at ns, ap length e, some_node t (nodes_all ts))

pub ahead : (ns : List Node) (at : ℕ) (ws : List Work) (ts : Trees)
    → drop at ns ≡ nodes_all ts
    → reads ws ≡ count ts
    → Ahead ns at ws
ahead ns at ws ts spelled enough =
    record { trees = ts; spelled = spelled; enough = enough; within = λ some. within_trees ns at ts spelled (omega arith) }

-- The node at a place, and those after it.
pub node_at : (ns : List Node) (at : ℕ) (r n : Node)
    → at < length ns
    → r ≡ get_or ns at r
    → r ≡ n
    → drop at ns ≡ n ∷ drop (at + 1) ns
node_at ns at r n below is same =
    drop-cons ns at r below ∙ ap (λ m. m ∷ drop (suc at) ns) (sym is ∙ same) ∙ ap (λ k. n ∷ drop k ns) (sym (add-one at))

-- A variable, an integer or an atom is a term by itself.
leaf : Node → Bool
leaf (Var x) = true
leaf (Int i) = true
leaf (Atom a) = true
leaf (Comp f k) = false

leaf_tail : (n : Node) (t : Tree) (us : Trees) (ns : List Node)
    → leaf n ≡ true
    → n ∷ ns ≡ nodes t ++ nodes_all us
    → ns ≡ nodes_all us
unfolding leaf
leaf_tail n (var x) us ns l e = cc
leaf_tail n (int i) us ns l e = cc
leaf_tail n (atom a) us ns l e = cc
leaf_tail n (comp f t ts) us ns l e =
    let is : n ≡ Comp f (suc (count ts)) = cc in
    absurd (false≢true (sym (ap leaf is) ∙ l))

leaf_ahead : (ns : List Node) (at m : ℕ) (ws : List Work) (n : Node) (ts : Trees)
    → leaf n ≡ true
    → drop at ns ≡ n ∷ drop (at + 1) ns
    → drop at ns ≡ nodes_all ts
    → suc (reads ws) ≡ count ts
    → Ahead ns (at + 1) ws
leaf_ahead ns at m ws n none l e spelled enough = absurd (omega arith)
leaf_ahead ns at m ws n (more t ts) l e spelled enough =
    ahead ns (at + 1) ws ts (leaf_tail n t ts (drop (at + 1) ns) l (sym e ∙ spelled)) (omega arith)

pub leaf_read : (ns : List Node) (at : ℕ) (ws : List Work) (a : Chars) (ts : Trees)
    → drop at ns ≡ Atom a ∷ drop (at + 1) ns
    → drop at ns ≡ nodes_all ts
    → suc (reads ws) ≡ count ts
    → Ahead ns (at + 1) ws
unfolding leaf
leaf_read ns at ws a ts e spelled enough = leaf_ahead ns at 0 ws (Atom a) ts refl e spelled enough

module _ (ns : List Node) (at m : ℕ) (p : Position) (ws : List Work) (a : Ahead ns at (Term m p ∷ ws)) where
  pub variable_ahead : (x : ℕ) → drop at ns ≡ Var x ∷ drop (at + 1) ns → Ahead ns (at + 1) ws
  unfolding leaf
  variable_ahead x e = leaf_ahead ns at m ws (Var x) a.trees refl e a.spelled a.enough

  pub integer_ahead : (i : ℤ) → drop at ns ≡ Int i ∷ drop (at + 1) ns → Ahead ns (at + 1) ws
  unfolding leaf
  integer_ahead i e = leaf_ahead ns at m ws (Int i) a.trees refl e a.spelled a.enough

  pub atom_ahead : (f : Chars) → drop at ns ≡ Atom f ∷ drop (at + 1) ns → Ahead ns (at + 1) ws
  unfolding leaf
  atom_ahead f e = leaf_ahead ns at m ws (Atom f) a.trees refl e a.spelled a.enough

-- What comes of a term that is one node.
pub variable_left : (manner : Manner) (ops : Lookup) (ns : List Node) (at m : ℕ) (p : Position) (ws : List Work) (x : ℕ)
    → drop at ns ≡ Var x ∷ drop (at + 1) ns
    → plain (variable x) ∷ left manner ops ns (at + 1) ws ≡ left manner ops ns at (Term m p ∷ ws)
unfolding pieces
variable_left manner ops ns at m p ws x e = ap (λ ms. coming manner ops (Term m p ∷ ws) (forest ms)) (sym e)

pub integer_left : (manner : Manner) (ops : Lookup) (ns : List Node) (at m : ℕ) (p : Position) (ws : List Work) (i : ℤ)
    → drop at ns ≡ Int i ∷ drop (at + 1) ns
    → plain (signed_decimal i) ∷ left manner ops ns (at + 1) ws ≡ left manner ops ns at (Term m p ∷ ws)
unfolding pieces
integer_left manner ops ns at m p ws i e = ap (λ ms. coming manner ops (Term m p ∷ ws) (forest ms)) (sym e)

pub atom_left : (manner : Manner) (ops : Lookup) (ns : List Node) (at m : ℕ) (p : Position) (ws : List Work) (f : Chars)
    → drop at ns ≡ Atom f ∷ drop (at + 1) ns
    → atom_pieces manner ops (place_of p) f ++ left manner ops ns (at + 1) ws ≡ left manner ops ns at (Term m p ∷ ws)
unfolding pieces
atom_left manner ops ns at m p ws f e = ap (λ ms. coming manner ops (Term m p ∷ ws) (forest ms)) (sym e)

-- A compound term whose node is the next one: its arguments' nodes follow.
pub record Compound (ns : List Node) (at : ℕ) (r : ℕ) (f : Chars) (k : ℕ) : Type 0 where
  pub head : Tree
  pub others : Trees
  pub behind : Trees
  pub arity : k ≡ suc (count others)
  pub here : forest (drop at ns) ≡ more (comp f head others) behind
  pub spelled : drop (at + 1) ns ≡ nodes_all (more head (join others behind))
  pub enough : r ≡ count behind

pub compound_read : (ns : List Node) (at r : ℕ) (f : Chars) (k : ℕ) (ts : Trees)
    → drop at ns ≡ Comp f k ∷ drop (at + 1) ns
    → drop at ns ≡ nodes_all ts
    → suc r ≡ count ts
    → Compound ns at r f k
compound_read ns at r f k none e spelled enough = absurd (omega arith)
compound_read ns at r f k (more (var x) us) e spelled enough =
    let c : Comp f k ∷ drop (at + 1) ns ≡ Var x ∷ nodes_all us = sym e ∙ spelled in cc
compound_read ns at r f k (more (int i) us) e spelled enough =
    let c : Comp f k ∷ drop (at + 1) ns ≡ Int i ∷ nodes_all us = sym e ∙ spelled in cc
compound_read ns at r f k (more (atom g) us) e spelled enough =
    let c : Comp f k ∷ drop (at + 1) ns ≡ Atom g ∷ nodes_all us = sym e ∙ spelled in cc
compound_read ns at r f k (more (comp g t ts) us) e spelled enough =
    let c : Comp f k ∷ drop (at + 1) ns ≡ Comp g (suc (count ts)) ∷ ((nodes t ++ nodes_all ts) ++ nodes_all us) = sym e ∙ spelled in
    let name : f ≡ g = cc in
    let rest : drop (at + 1) ns ≡ (nodes t ++ nodes_all ts) ++ nodes_all us = cc in
    record {
      head = t;
      others = ts;
      behind = us;
      arity = cc;
      here = ap forest spelled ∙ forest_all (more (comp g t ts) us) ∙ ap (λ h. more (comp h t ts) us) (sym name);
      spelled = rest ∙ append_assoc (nodes t) (nodes_all ts) (nodes_all us) ∙ ap (λ ms. nodes t ++ ms) (nodes_all-join ts us);
      enough = omega arith;
    }

pub compound_at : (ns : List Node) (at m : ℕ) (p : Position) (ws : List Work) (f : Chars) (k : ℕ)
    → Ahead ns at (Term m p ∷ ws)
    → drop at ns ≡ Comp f k ∷ drop (at + 1) ns
    → Compound ns at (reads ws) f k
compound_at ns at m p ws f k a e = compound_read ns at (reads ws) f k a.trees e a.spelled a.enough

-- The items that were put on the stack read the arguments.
pub compound_ahead : (ns : List Node) (at r : ℕ) (f : Chars) (k : ℕ) (ws : List Work)
    → Compound ns at r f k
    → reads ws ≡ k + r
    → Ahead ns (at + 1) ws
compound_ahead ns at r f k ws c more_reads =
    ahead ns (at + 1) ws (more c.head (join c.others c.behind)) c.spelled (omega (arith, more_reads, c.arity, c.enough, count-join c.others c.behind))

pub compound_left : (manner : Manner) (ops : Lookup) (ns : List Node) (at m : ℕ) (p : Position) (vs ws : List Work) (f : Chars) (k : ℕ) (old new : Page)
    → (c : Compound ns at (reads vs) f k)
    → ((t : Tree) (ts us : Trees) → k ≡ suc (count ts)
    → shown new.bytes.items (behind_page new) (coming manner ops ws (more t (join ts us)))
    ≡ shown old.bytes.items (behind_page old) (pieces manner ops m (place_of p) (comp f t ts) ++ coming manner ops vs us))
    → shown new.bytes.items (behind_page new) (left manner ops ns (at + 1) ws) ≡ shown old.bytes.items (behind_page old) (left manner ops ns at (Term m p ∷ vs))
compound_left manner ops ns at m p vs ws f k old new c shows =
    ap (λ ts. shown new.bytes.items (behind_page new) (coming manner ops ws ts)) (ap forest c.spelled ∙ forest_all (more c.head (join c.others c.behind)))
    ∙ shows c.head c.others c.behind c.arity
    ∙ ap (λ ts. shown old.bytes.items (behind_page old) (coming manner ops (Term m p ∷ vs) ts)) (sym c.here)
