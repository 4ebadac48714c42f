-- Two lists of terms, and the lists of their nodes that are read side by side.
use Rattle.std.proofs.Common.{◌≡◌, ℕ, zero, suc, ◌<◌, ◌≤◌, List, [], ◌∷◌, length, take, drop, refl, sym, ap, ap₂, ◌∙◌, inl, inr, append-nil, arith, length-append, length-drop}
use Rattle.std.proofs.Math.Seq.{take-length}
use Rattle.std.proofs.lemmas.List.{take_all}
use Rattle.std.proofs.lemmas.Bool.{cases_lt}
use Rattle.pl_term.specs.declared.node.Node.{Node}
use Rattle.pl_term.specs.Tree.{Tree, Trees, var, int, atom, comp, none, more, count, join}
use Rattle.pl_term.specs.Nodes.{nodes, nodes_all, forest, forest-nodes_all}
use Rattle.pl_model.specs.Unify.{Bindings, solve}
use Rattle.pl_model.proofs.UnifyTurns.{solve-skip, solve-open}
use Rattle.pl_model.specs.laws.Subterms.{arity_of}
use Rattle.pl_model.specs.laws.UnifySides.{Facing}
use Rattle.pl_model.proofs.UnifyNodes.{first_node, opened, nodes-opened, count-opened, length-nodes_pos}

join-none : (ts : Trees) → join ts none ≡ ts
join-none none = refl
join-none (more t ts) = ap (more t) (join-none ts)

pub forest-of : (ts : Trees) → forest (nodes_all ts) ≡ ts
forest-of ts = ap forest (sym (append-nil (nodes_all ts))) ∙ forest-nodes_all ts [] ∙ join-none ts

-- The lists of the nodes of as many terms.
pub facing_of : (ts us : Trees) → count ts ≡ count us → Facing (nodes_all ts) (nodes_all us)
facing_of ts us e =
    record {
      left = ap nodes_all (forest-of ts);
      right = ap nodes_all (forest-of us);
      counted = ap count (forest-of ts) ∙ e ∙ sym (ap count (forest-of us));
    }

pub facing_sym : {ls rs : List Node} → Facing ls rs → Facing rs ls
facing_sym f = record { left = f.right; right = f.left; counted = sym f.counted }

-- Terms whose nodes begin with this one.
record Opening (ts : Trees) (n : Node) (ns : List Node) : Type 0 where
  term : Tree
  others : Trees
  whole : ts ≡ more term others
  first : first_node term ≡ n
  behind : nodes_all (opened term others) ≡ ns

opening : (ts : Trees) (n : Node) (ns : List Node) → nodes_all ts ≡ n ∷ ns → Opening ts n ns
opening none n ns e = cc
opening (more t us) n ns e =
    let same : first_node t ∷ nodes_all (opened t us) ≡ n ∷ ns = sym (nodes-opened t us) ∙ e in
    record { term = t; others = us; whole = refl; first = cc; behind = cc }

-- The first nodes are the same, and go on with the terms after them.
record GoesOn (t u : Tree) (ts us : Trees) : Type 0 where
  counted : count (opened t ts) ≡ count (opened u us)
  solves : (n : ℕ) (bs : Bindings) → solve n bs (more t ts) (more u us) ≡ solve n bs (opened t ts) (opened u us)

goes_on : (t u : Tree) (ts us : Trees) → first_node t ≡ first_node u → count ts ≡ count us → GoesOn t u ts us
goes_on t u ts us e c =
    record {
      counted = omega (arith, count-opened t ts, count-opened u us, ap arity_of e);
      solves = go t u e;
    }
  where
    go : (t u : Tree) → first_node t ≡ first_node u → (n : ℕ) (bs : Bindings) → solve n bs (more t ts) (more u us) ≡ solve n bs (opened t ts) (opened u us)
    go (var x) (var y) e n bs = ap (λ z. solve n bs (more (var z) ts) (more (var y) us)) (cc) ∙ solve-skip n bs (var y) ts us
    go (int i) (int j) e n bs = ap (λ z. solve n bs (more (int z) ts) (more (int j) us)) (cc) ∙ solve-skip n bs (int j) ts us
    go (atom a) (atom b) e n bs = ap (λ z. solve n bs (more (atom z) ts) (more (atom b) us)) (cc) ∙ solve-skip n bs (atom b) ts us
    go (comp f v vs) (comp g w ws) e n bs =
        ap (λ z. solve n bs (more (comp z v vs) ts) (more (comp g w ws) us)) (cc) ∙ solve-open n bs g v w vs ws ts us cc
    go (var x) (int j) e n bs = cc
    go (var x) (atom b) e n bs = cc
    go (var x) (comp g w ws) e n bs = cc
    go (int i) (var y) e n bs = cc
    go (int i) (atom b) e n bs = cc
    go (int i) (comp g w ws) e n bs = cc
    go (atom a) (var y) e n bs = cc
    go (atom a) (int j) e n bs = cc
    go (atom a) (comp g w ws) e n bs = cc
    go (comp f v vs) (var y) e n bs = cc
    go (comp f v vs) (int j) e n bs = cc
    go (comp f v vs) (atom b) e n bs = cc

-- What is left after a common front is solved alike.
pub record Behind (ls rs ms ns : List Node) : Type 0 where
  pub facing : Facing ms ns
  pub solves : (n : ℕ) (bs : Bindings) → solve n bs (forest ls) (forest rs) ≡ solve n bs (forest ms) (forest ns)

behind_one : (n : Node) (ls rs : List Node) → Facing (n ∷ ls) (n ∷ rs) → Behind (n ∷ ls) (n ∷ rs) ls rs
behind_one n ls rs f =
    let o = opening (forest (n ∷ ls)) n ls f.left in
    let p = opening (forest (n ∷ rs)) n rs f.right in
    let more_counted = sym (ap count o.whole) ∙ f.counted ∙ ap count p.whole in
    let g = goes_on o.term p.term o.others p.others (o.first ∙ sym p.first) (omega (arith, more_counted)) in
    let left : forest ls ≡ opened o.term o.others = ap forest (sym o.behind) ∙ forest-of (opened o.term o.others) in
    let right : forest rs ≡ opened p.term p.others = ap forest (sym p.behind) ∙ forest-of (opened p.term p.others) in
    record {
      facing = record {
        left = ap nodes_all left ∙ o.behind;
        right = ap nodes_all right ∙ p.behind;
        counted = ap count left ∙ g.counted ∙ sym (ap count right);
      };
      solves = λ k bs. ap₂ (solve k bs) o.whole p.whole ∙ g.solves k bs ∙ sym (ap₂ (solve k bs) left right);
    }

pub behind : (k : ℕ) (ls rs : List Node) → Facing ls rs → k ≤ length ls → take k ls ≡ take k rs → Behind ls rs (drop k ls) (drop k rs)
behind zero ls rs f h e = record { facing = f; solves = λ n bs. refl }
behind (suc k) [] rs f h e = absurd (omega arith)
behind (suc k) (a ∷ ls) [] f h e = cc
behind (suc k) (a ∷ ls) (b ∷ rs) f h e =
    let same : a ≡ b = cc in
    let q = behind_one b ls rs (rw same at f) in
    let rest : take k ls ≡ take k rs = cc in
    let r = behind k ls rs q.facing (omega arith) rest in
    record {
      facing = r.facing;
      solves = λ n bs. ap (λ x. solve n bs (forest (x ∷ ls)) (forest (b ∷ rs))) same ∙ q.solves n bs ∙ r.solves n bs;
    }

counted_pos : (ts us : Trees) → count ts ≡ count us → 0 < length (nodes_all ts) → 0 < length (nodes_all us)
counted_pos none us e h = absurd (omega arith)
counted_pos (more t ts) none e h = cc
counted_pos (more t ts) (more u us) e h = omega (arith, length-append (nodes u) (nodes_all us), length-nodes_pos u)

-- Neither list ends before the other.
pub facing_pos : (ls rs : List Node) → Facing ls rs → 0 < length ls → 0 < length rs
facing_pos ls rs f h =
    omega (arith, counted_pos (forest ls) (forest rs) f.counted (omega (arith, ap (length {A = Node}) f.left)), ap (length {A = Node}) f.right)

pub facing_within : (ls rs : List Node) (i : ℕ) → Facing ls rs → i < length ls → take i ls ≡ take i rs → i < length rs
facing_within ls rs i f h e =
    let b = behind i ls rs f (omega arith) e in
    omega (arith, facing_pos (drop i ls) (drop i rs) b.facing (omega (arith, length-drop i ls)), length-drop i rs)

-- Two lists of which one is a front of the other are the same.
pub facing_same : (ls rs : List Node) → Facing ls rs → take (length ls) ls ≡ take (length ls) rs → ls ≡ rs
facing_same ls rs f e =
    let within : length rs ≤ length ls =
    ended (length rs) (length ls) (λ k. absurd (omega (
      arith,
      facing_pos (drop (length ls) rs) (drop (length ls) ls)
          (facing_sym (behind (length ls) ls rs f (omega arith) e).facing)
          (omega (arith, length-drop (length ls) rs)),
      length-drop (length ls) ls,
    ))) in
    sym (take-length ls) ∙ e ∙ take_all (length ls) rs within
  where
    ended : (a b : ℕ) → (b < a → a ≤ b) → a ≤ b
    ended a b f = elim (cases_lt b a) [ inl k ↦ f k | inr k ↦ k ]
