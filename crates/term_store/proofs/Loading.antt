-- Variables made one after the other, and a term built over them.
use Rattle.std.proofs.Common.{◌≡◌, ◌≢◌, ℕ, zero, suc, ◌+◌, ◌-◌, ◌<◌, Bool, true, false, ◌==◌, ◌||◌, List, [], ◌∷◌, ◌++◌, length, get_or, Result, Ok, Err, IfOk, OnOk, refl, sym, ap, ap₂, subst, ◌∙◌, arith, append_assoc, append-nil, length-append}
use Rattle.std.specs.List.{All}
use Rattle.std.proofs.Math.Seq.{get_or-append_seam}
use Rattle.std.proofs.lemmas.Bool.{false≢true}
use Rattle.std.proofs.lemmas.Bool.Decides.{Decides-eqb}
use Rattle.std.proofs.lemmas.List.{get_or_append_left, get_or-append-add}
use Rattle.std.proofs.lemmas.List.Elements.{All-nil, All-push, All-append, All-weaker, All-head, All-tail}
use Rattle.pl_term.specs.Tree.{Tree}
use Rattle.pl_term.specs.Nodes.{nodes, tree}
use Rattle.pl_term.specs.NodeLists.{variables_of}
use Rattle.pl_term.specs.Variables.{is_in, occurrences, rename_by}
use Rattle.pl_term.proofs.NodeLemmas.{variables_of-nodes}
use Rattle.pl_term.proofs.Renaming.{rename_same}
use Rattle.pl_term.proofs.Spelled.{tree_spelled}
use Rattle.term_store.specs.declared.nodes.AtomNode.{AtomNode}
use Rattle.term_store.specs.declared.nodes.AtomNode.TheVariants.{Var, Int, Atom, Comp}
use Rattle.term_store.specs.declared.words.Word.{Word}
use Rattle.term_store.specs.Contents.{upwards}
use Rattle.term_store.specs.Heap.{Heap, numbered}
use Rattle.term_store.specs.Fit.{IsBond, Fit}
use Rattle.term_store.specs.Making.{with_more, with_number, with_numbers, Longer, Keeps}
use Rattle.term_store.specs.Nodes.{IsNodeBelow, StandsFor, node_views}
use Rattle.term_store.proofs.Growing.{keeps_longer}

pub length-upwards : (from k : ℕ) → length (upwards from k) ≡ k
length-upwards from zero = refl
length-upwards from (suc k) = length-append (upwards from k) ((from + k) ∷ []) ∙ omega (arith, length-upwards from k)

pub upwards_below : (from k : ℕ) → All (λ n. n < from + k) (upwards from k)
upwards_below from zero = All-nil (λ n. n < from + zero)
upwards_below from (suc k) =
    All-push (λ n. n < from + suc k) (upwards from k) (from + k)
    (All-weaker (λ n. n < from + k) (λ n. n < from + suc k) (λ n lt. omega arith) (upwards from k) (upwards_below from k)) (omega arith)

pub get_or-upwards : (from k i : ℕ) → i < k → get_or (upwards from k) i 0 ≡ from + i
get_or-upwards from zero i lt = absurd (omega arith)
get_or-upwards from (suc k) i lt = go (get_or-upwards from k i) (length-upwards from k) (i == k) refl
  where
    go : (i < k → get_or (upwards from k) i 0 ≡ from + i) → length (upwards from k) ≡ k → (q : Bool) → (i == k) ≡ q
        → get_or (upwards from k ++ (from + k) ∷ []) i 0 ≡ from + i
    go before long true e =
        let same : i ≡ k = (Decides-eqb i k).0 e in
        ap (λ j. get_or (upwards from k ++ (from + k) ∷ []) j 0) (same ∙ sym long)
        ∙ get_or-append_seam (upwards from k) (from + k) [] 0 ∙ ap (λ j. from + j) (sym same)
    go before long false e =
        let ne : i ≢ k = λ s. false≢true (sym e ∙ (Decides-eqb i k).1 s) in
        let below : i < k = omega arith in
        get_or_append_left (upwards from k) ((from + k) ∷ []) 0 i (omega arith) ∙ before below

pub numbers_above : (h d : Heap) (from k : ℕ) → d ≡ with_numbers h (upwards from k) → All (λ n. n < from) h.numbers → All (λ n. n < from + k) d.numbers
numbers_above h d from k e above =
    subst (λ g. All (λ n. n < from + k) g.numbers) (sym e)
    (All-append (λ n. n < from + k) h.numbers (upwards from k)
    (All-weaker (λ n. n < from) (λ n. n < from + k) (λ n lt. omega arith) h.numbers above) (upwards_below from k))

pub one_more_number : (h d e : Heap) (from k : ℕ) → d ≡ with_numbers h (upwards from k) → e ≡ with_number d (from + k) → e ≡ with_numbers h (upwards from (k + 1))
one_more_number h d e from k a b =
    b ∙ ap (λ g. with_number g (from + k)) a
    ∙ ap (λ ns. record { heads = h.heads; args = h.args; numbers = ns; trail = h.trail }) (append_assoc h.numbers (upwards from k) ((from + k) ∷ []))
    ∙ ap (λ j. with_numbers h (upwards from j)) (suc_plus k)
  where
    suc_plus : (j : ℕ) → suc j ≡ j + 1
    suc_plus j = omega arith

pub longer_numbers : (h d : Heap) (ns : List ℕ) → d ≡ with_numbers h ns → Longer h d
longer_numbers h d ns e =
    record {
      heads = [];
      args = [];
      numbers = ns;
      longer =
          e ∙ ap₂ (λ hs ws. record { heads = hs; args = ws; numbers = h.numbers ++ ns; trail = h.trail }) (sym (append-nil h.heads)) (sym (append-nil h.args));
    }

pub longer_twice : (c d e : Heap) → Longer c d → Longer d e → Longer c e
longer_twice c d e g k =
    record {
      heads = g.heads ++ k.heads;
      args = g.args ++ k.args;
      numbers = g.numbers ++ k.numbers;
      longer =
          k.longer ∙ ap (λ h. with_more h k.heads k.args k.numbers) g.longer
          ∙ ap₂ (λ hs ws. record { heads = hs; args = ws; numbers = (c.numbers ++ g.numbers) ++ k.numbers; trail = c.trail })
          (append_assoc c.heads g.heads k.heads) (append_assoc c.args g.args k.args)
          ∙ ap (λ ns. record { heads = c.heads ++ (g.heads ++ k.heads); args = c.args ++ (g.args ++ k.args); numbers = ns; trail = c.trail })
          (append_assoc c.numbers g.numbers k.numbers);
    }

pub keeps_of : (c d : Heap) → Fit c → Longer c d → Keeps c d
keeps_of c d fit l = subst (Keeps c) (sym l.longer) (keeps_longer c l.heads l.args l.numbers fit)

-- All bindings are of the variables that the heap had.
pub bonds_before : (h d : Heap) (ns : List ℕ) (base : ℕ) → Fit h → d ≡ with_numbers h ns → base ≡ length h.numbers → All (λ b. b.slot < base) d.trail
bonds_before h d ns base fit e at =
    subst (λ g. All (λ b. b.slot < base) g.trail) (sym e)
    (All-weaker (IsBond (length h.numbers) (length h.heads)) (λ b. b.slot < base) (λ b fits. omega (arith, fits.slot)) h.trail fit.bonds)

pub nodes_below : (h d : Heap) (from count base : ℕ) (ns : List AtomNode) → d ≡ with_numbers h (upwards from count) → base ≡ length h.numbers
    → All (IsNodeBelow count) ns → All (IsNodeBelow (length d.numbers - base)) ns
nodes_below h d from count base ns e at all =
    let long : length d.numbers - base ≡ count = omega (arith, ap (λ g. length g.numbers) e, length-append h.numbers (upwards from count), length-upwards from count) in
    subst (λ n. All (IsNodeBelow n) ns) (sym long) all

-- Each variable of the nodes is below the bound.
occurs_below : (n x : ℕ) (ns : List AtomNode) → All (IsNodeBelow n) ns → is_in x (variables_of (node_views ns)) ≡ true → x < n
occurs_below n x [] all h = absurd (false≢true h)
occurs_below n x (Int i ∷ ns) all h = occurs_below n x ns (All-tail (IsNodeBelow n) (Int i) ns all) h
occurs_below n x (Atom a ∷ ns) all h = occurs_below n x ns (All-tail (IsNodeBelow n) (Atom a) ns all) h
occurs_below n x (Comp a k ∷ ns) all h = occurs_below n x ns (All-tail (IsNodeBelow n) (Comp a k) ns all) h
occurs_below n x (Var y ∷ ns) all h = go (occurs_below n x ns (All-tail (IsNodeBelow n) (Var y) ns all)) (x == y) refl h
  where
    here : y < n
    here = All-head (IsNodeBelow n) (Var y) ns all

    go : (is_in x (variables_of (node_views ns)) ≡ true → x < n) → (q : Bool) → (x == y) ≡ q → (q || is_in x (variables_of (node_views ns))) ≡ true → x < n
    go ih true e k = let same : x ≡ y = (Decides-eqb x y).0 e in omega (arith, here)
    go ih false e k = ih k

-- The built term has the new numbers.
pub built_raised : (h d e : Heap) (from count base : ℕ) (ns : List AtomNode) (t : Tree) (w : Word) → node_views ns ≡ nodes t → d ≡ with_numbers h (upwards from count)
    → base ≡ length h.numbers → All (IsNodeBelow count) ns → StandsFor e (rename_by (λ x. numbered d (base + x)) (tree (node_views ns))) w
    → StandsFor e (rename_by (λ x. from + x) (tree (node_views ns))) w
built_raised h d e from count base ns t w spelled made at all s =
    record {
      inside = s.inside;
      means =
          s.means ∙ ap (rename_by (λ x. numbered d (base + x))) (tree_spelled (node_views ns) t spelled)
          ∙ rename_same (λ x. numbered d (base + x)) (λ x. from + x) t (λ x h. number_at x h)
          ∙ ap (rename_by (λ x. from + x)) (sym (tree_spelled (node_views ns) t spelled));
    }
  where
    number_at : (x : ℕ) → is_in x (occurrences t) ≡ true → numbered d (base + x) ≡ from + x
    number_at x occurs =
        let below : x < count = occurs_below count x ns all (ap (λ ms. is_in x (variables_of ms)) spelled ∙ ap (is_in x) (variables_of-nodes t) ∙ occurs) in
        ap₂ (λ g k. get_or g.numbers (k + x) 0) made at ∙ get_or-append-add h.numbers (upwards from count) x 0 ∙ get_or-upwards from count x below

pub raised_if : {E : Type 0} (r : Result Word E) (h d e : Heap) (from count base : ℕ) (ns : List AtomNode) (t : Tree) → node_views ns ≡ nodes t
    → d ≡ with_numbers h (upwards from count) → base ≡ length h.numbers → All (IsNodeBelow count) ns
    → IfOk r (StandsFor e (rename_by (λ x. numbered d (base + x)) (tree (node_views ns)))) → IfOk r (StandsFor e (rename_by (λ x. from + x) (tree (node_views ns))))
raised_if (Ok w) h d e from count base ns t spelled made at all s = built_raised h d e from count base ns t w spelled made at all s
raised_if (Err x) h d e from count base ns t spelled made at all s = tt

pub on_ok : {X E A B : Type 0} (r : Result X E) → OnOk r A → (A → B) → OnOk r B
on_ok (Ok x) a f = f a
on_ok (Err x) a f = tt
