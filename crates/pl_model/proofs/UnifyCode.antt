-- What one turn of unification does, and what the loop of turns keeps.
use Rattle.std.proofs.Common.{◌≡◌, ◌≢◌, ℕ, suc, ◌+◌, ◌<◌, ◌≤◌, true, false, List, [], ◌∷◌, ◌++◌, length, drop, get_or, Option, Some, None, refl, sym, ap, ap₂, subst₂, ◌∙◌, add-zero, append-nil, arith, length-append, length-drop}
use Rattle.std.proofs.Math.Seq.{drop-append_seam}
use Rattle.std.proofs.lemmas.List.{drop-drop, get_or-drop}
use Rattle.std.specs.List.{list_any}
use Rattle.pl_term.specs.declared.node.Node.{Node}
use Rattle.pl_term.specs.Tree.{Tree, Trees, var, int, atom, comp, none, more, count}
use Rattle.pl_term.specs.Nodes.{nodes, nodes_all, forest, tree}
use Rattle.pl_term.specs.Variables.{has, occurrences, occurrences_all, replace_all}
use Rattle.pl_model.specs.Unify.{Bindings, clash, binds, difference, solve, unify}
use Rattle.pl_model.proofs.UnifyReplace.{count-replace}
use Rattle.pl_model.proofs.UnifyEnough.{turns_enough}
use Rattle.pl_model.proofs.UnifyTurns.{solve-same, solve-clash, solve-occurs, solve-binds}
use Rattle.pl_model.specs.laws.UnifySides.{Facing, DiffersAt, is_variable, put_in}
use Rattle.pl_model.proofs.UnifyNodes.{first_node}
use Rattle.pl_model.proofs.UnifyFacing.{behind, facing_of, forest-of}
use Rattle.pl_model.proofs.UnifyFronts.{Front, front, replace-binds}
use Rattle.pl_model.proofs.UnifyPutIn.{list_any-nodes, put_in-nodes_all}

-- After these bindings, what is left of the two terms has this answer within so many turns.
pub record Unifying (bs : Bindings) (ls rs : List Node) (turns : ℕ) (answer : Option Bindings) : Type 0 where
  pub facing : Facing ls rs
  pub solves : solve turns bs (forest ls) (forest rs) ≡ answer

pub turned_same : (ls rs : List Node) → ls ≡ rs → (n : ℕ) (bs : Bindings) → solve (suc n) bs (forest ls) (forest rs) ≡ Some bs
turned_same ls rs e n bs = ap (λ l. solve (suc n) bs (forest l) (forest rs)) e ∙ solve-same n bs (forest rs)

-- The two first terms at the first place where the lists differ.
record There (ls rs : List Node) (at : ℕ) : Type 0 where
  left : Front (drop at ls)
  right : Front (drop at rs)
  counted : count left.others ≡ count right.others
  apart : first_node left.term ≢ first_node right.term
  solves : (n : ℕ) (bs : Bindings) → solve n bs (forest ls) (forest rs) ≡ solve n bs (more left.term left.others) (more right.term right.others)

there : (ls rs : List Node) (at : ℕ) → Facing ls rs → DiffersAt ls rs at → There ls rs at
there ls rs at f d =
    let b = behind at ls rs f (omega (arith, d.in_left)) d.before in
    let l = front (drop at ls) b.facing.left (omega (arith, d.in_left, length-drop at ls)) in
    let r = front (drop at rs) b.facing.right (omega (arith, d.in_right, length-drop at rs)) in
    let counts = sym (ap count l.whole) ∙ b.facing.counted ∙ ap count r.whole in
    record {
      left = l;
      right = r;
      counted = omega (arith, counts);
      apart = λ e. d.here (first_node l.term) (at_place ls at (first_node l.term) ∙ l.node (first_node l.term) ∙ e
          ∙ sym (r.node (first_node l.term)) ∙ sym (at_place rs at (first_node l.term)));
      solves = λ n bs. b.solves n bs ∙ ap₂ (solve n bs) l.whole r.whole;
    }
  where
    at_place : (ns : List Node) (i : ℕ) (d : Node) → get_or ns i d ≡ get_or (drop i ns) 0 d
    at_place ns i d = ap (λ k. get_or ns k d) (sym (add-zero i)) ∙ sym (get_or-drop i ns 0 d)

-- What the difference is called at the two terms there.
named : (ls rs : List Node) (at : ℕ) (t : There ls rs at) → difference (tree (drop at ls)) (tree (drop at rs)) ≡ difference t.left.term t.right.term
named ls rs at t = ap₂ difference t.left.is_first t.right.is_first

pub turned_clash : (ls rs : List Node) (at : ℕ) → Facing ls rs → DiffersAt ls rs at → difference (tree (drop at ls)) (tree (drop at rs)) ≡ clash
    → (n : ℕ) (bs : Bindings) → solve (suc n) bs (forest ls) (forest rs) ≡ None
turned_clash ls rs at f d e n bs =
    let t = there ls rs at f d in
    t.solves (suc n) bs ∙ solve-clash n bs t.left.term t.right.term t.left.others t.right.others (sym (named ls rs at t) ∙ e)

pub turned_occurs : (ls rs : List Node) (at x : ℕ) (s : Tree) → Facing ls rs → DiffersAt ls rs at
    → difference (tree (drop at ls)) (tree (drop at rs)) ≡ binds x s → list_any (is_variable x) (nodes s) ≡ true
    → (n : ℕ) (bs : Bindings) → solve (suc n) bs (forest ls) (forest rs) ≡ None
turned_occurs ls rs at x s f d e h n bs =
    let t = there ls rs at f d in
    t.solves (suc n) bs ∙ solve-occurs n bs t.left.term t.right.term t.left.others t.right.others x s (sym (named ls rs at t) ∙ e)
    (sym (list_any-nodes s x) ∙ h)

behind_front : (ns : List Node) (at k : ℕ) (f : Front (drop at ns)) → k ≡ length (nodes (tree (drop at ns))) → drop (at + k) ns ≡ nodes_all f.others
behind_front ns at k f e =
    sym (drop-drop k at ns) ∙ ap₂ drop (e ∙ ap (λ t. length (nodes t)) f.is_first) f.parts
    ∙ drop-append_seam (nodes f.term) (nodes_all f.others)

-- The first term ends within its list.
ends_within : (ns : List Node) (at k : ℕ) → at < length ns → Front (drop at ns) → k ≡ length (nodes (tree (drop at ns))) → at + k ≤ length ns
ends_within ns at k h f e =
    let size = ap (length {A = Node}) f.parts in
    let first = ap (λ t. length (nodes t)) f.is_first in
    omega (arith, length-drop at ns, length-append (nodes f.term) (nodes_all f.others))

pub ends_left : (ls rs : List Node) (at k : ℕ) → Facing ls rs → DiffersAt ls rs at → k ≡ length (nodes (tree (drop at ls))) → at + k ≤ length ls
ends_left ls rs at k f d e = ends_within ls at k d.in_left (there ls rs at f d).left e

pub ends_right : (ls rs : List Node) (at k : ℕ) → Facing ls rs → DiffersAt ls rs at → k ≡ length (nodes (tree (drop at rs))) → at + k ≤ length rs
ends_right ls rs at k f d e = ends_within rs at k d.in_right (there ls rs at f d).right e

-- The forests of what is left after the variable is bound.
left_with : (ns ms : List Node) (at k x : ℕ) (s : Tree) (f : Front (drop at ns)) → k ≡ length (nodes (tree (drop at ns)))
    → ms ≡ put_in x (nodes s) (drop (at + k) ns) → ms ≡ nodes_all (replace_all x s f.others)
left_with ns ms at k x s f e m = m ∙ ap (put_in x (nodes s)) (behind_front ns at k f e) ∙ put_in-nodes_all f.others x s

pub turned_binds : (ls rs ms ns : List Node) (at k l x : ℕ) (s : Tree) → Facing ls rs → DiffersAt ls rs at
    → difference (tree (drop at ls)) (tree (drop at rs)) ≡ binds x s
    → k ≡ length (nodes (tree (drop at ls))) → l ≡ length (nodes (tree (drop at rs)))
    → list_any (is_variable x) (nodes s) ≡ false
    → ms ≡ put_in x (nodes s) (drop (at + k) ls) → ns ≡ put_in x (nodes s) (drop (at + l) rs)
    → Facing ms ns × ((n : ℕ) (bs : Bindings) → solve (suc n) bs (forest ls) (forest rs) ≡ solve n (bs ++ (x, s) ∷ []) (forest ms) (forest ns))
turned_binds ls rs ms ns at k l x s f d e sk sl h em en =
    let t = there ls rs at f d in
    let left = left_with ls ms at k x s t.left sk em in
    let right = left_with rs ns at l x s t.right sl en in
    let absent : has x s ≡ false = sym (list_any-nodes s x) ∙ h in
    let here = sym (named ls rs at t) ∙ e in (
      rw (left, right) (facing_of (replace_all x s t.left.others) (replace_all x s t.right.others)
          (count-replace t.left.others x s ∙ t.counted ∙ sym (count-replace t.right.others x s))),
      λ n bs. t.solves (suc n) bs
          ∙ solve-binds n bs t.left.term t.right.term t.left.others t.right.others x s here absent
          (replace-binds t.left.term t.right.term x s t.apart here absent)
          ∙ sym (ap₂ (solve n (bs ++ (x, s) ∷ [])) (ap forest left ∙ forest-of (replace_all x s t.left.others))
          (ap forest right ∙ forest-of (replace_all x s t.right.others))),
    )

mutual
  length-occurrences : (t : Tree) → length (occurrences t) ≤ length (nodes t)
  length-occurrences (var x) = omega arith
  length-occurrences (int i) = omega arith
  length-occurrences (atom a) = omega arith
  length-occurrences (comp f t ts) =
      omega (
        arith,
        length-append (occurrences t) (occurrences_all ts),
        length-append (nodes t) (nodes_all ts),
        length-occurrences t,
        length-occurrences_all ts,
      )

  length-occurrences_all : (ts : Trees) → length (occurrences_all ts) ≤ length (nodes_all ts)
  length-occurrences_all none = omega arith
  length-occurrences_all (more t ts) =
      omega (
        arith,
        length-append (occurrences t) (occurrences_all ts),
        length-append (nodes t) (nodes_all ts),
        length-occurrences t,
        length-occurrences_all ts,
      )

forest-one : (t : Tree) → forest (nodes t) ≡ more t none
forest-one t = ap forest (sym (append-nil (nodes t))) ∙ forest-of (more t none)

start_solves : (a b : Tree) (n : ℕ) → length (nodes a) + length (nodes b) < n → solve n [] (more a none) (more b none) ≡ unify a b
unfolding unify
start_solves a b n h =
    turns_enough n [] (more a none) (more b none)
    (omega (arith, length-append (occurrences a) [], length-append (occurrences b) [], length-occurrences a, length-occurrences b))

-- With a turn for each node of the two terms and one more, the loop begins.
pub unifying_start : (a b : Tree) (n : ℕ) → length (nodes a) + length (nodes b) < n → Unifying [] (nodes a) (nodes b) n (unify a b)
unifying_start a b n h =
    record {
      facing = subst₂ Facing (append-nil (nodes a)) (append-nil (nodes b)) (facing_of (more a none) (more b none) refl);
      solves = ap₂ (solve n []) (forest-one a) (forest-one b) ∙ start_solves a b n h;
    }
