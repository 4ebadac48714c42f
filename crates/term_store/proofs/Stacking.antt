-- Words on a stack that become the arguments of a compound term.
use Rattle.std.proofs.Common.{◌≡◌, ℕ, ◌+◌, ◌<◌, List, [], ◌∷◌, ◌++◌, length, map, reverse, take, drop, Result, Ok, Err, IfOk, OnOk, OnErr, refl, sym, ap, ap₂, subst, ◌∙◌, arith, append_assoc, append-nil, length-append}
use Rattle.std.specs.List.{All}
use Rattle.std.proofs.Math.Seq.{take-append_seam, drop-append_seam}
use Rattle.std.proofs.lemmas.List.{length-map, length-reverse, reverse-append, reverse-reverse, map-append}
use Rattle.std.proofs.lemmas.List.Elements.{All-head, All-tail, All-nil, All-push, All-take, All-drop, All-weaker}
use Rattle.pl_term.specs.Tree.{Tree, var, int, atom, more, trees, compound, count}
use Rattle.pl_term.specs.Nodes.{build}
use Rattle.pl_term.proofs.Spelled.{count-trees}
use Rattle.term_store.specs.declared.words.Word.{Word}
use Rattle.term_store.specs.declared.words.Word.TheVariants.{Var, Int, Atom}
use Rattle.term_store.specs.declared.nodes.AtomNode.{AtomNode}
use Rattle.term_store.specs.declared.nodes.AtomNode.TheVariants as nodes
use Rattle.term_store.specs.declared.words.Head.{Head}
use Rattle.term_store.specs.Heap.{Heap, atom_name, bindings, meaning, numbered}
use Rattle.term_store.specs.Fit.{IsIn, Fit}
use Rattle.term_store.specs.Making.{with_more, Keeps, Made}
use Rattle.term_store.specs.Nodes.{Gains, Taken, Joined, standing, placed}
use Rattle.term_store.proofs.Building.{map-same}
use Rattle.term_store.proofs.Equations.{bound-int, bound-atom}
use Rattle.term_store.proofs.Following.{stands}
use Rattle.term_store.proofs.Growing.{find_absent}
use Rattle.term_store.proofs.Pairing.{reverse-cons}
use Rattle.term_store.proofs.Spelling.{build-trees}

pub taken_none : (args stack : List Word) → Taken args args stack stack 0
taken_none args stack =
    record { taken = []; long = refl; moved = sym (append-nil args); split = sym (append-nil stack) }

pub taken_more : (before args args' stack left left' : List Word) (n : ℕ) (w : Word) → Taken before args stack left n
    → left ≡ left' ++ w ∷ [] → args' ≡ args ++ w ∷ [] → Taken before args' stack left' (n + 1)
taken_more before args args' stack left left' n w t e f =
    record {
      taken = t.taken ++ w ∷ [];
      long = length-append t.taken (w ∷ []) ∙ ap (λ k. k + 1) t.long;
      moved = f ∙ ap (λ ws. ws ++ w ∷ []) t.moved ∙ append_assoc before t.taken (w ∷ []);
      split =
          t.split ∙ ap (λ ws. ws ++ reverse t.taken) e ∙ append_assoc left' (w ∷ []) (reverse t.taken)
          ∙ ap (λ ws. left' ++ ws) (sym (reverse-append t.taken (w ∷ [])));
    }

pub All-reverse : {X : Type 0} (P : X → Type 0) (xs : List X) → All P xs → All P (reverse xs)
All-reverse P [] all = All-nil P
All-reverse P (x ∷ xs) all =
    subst (λ ys. All P ys) (sym (reverse-cons x xs)) (All-push P (reverse xs) x (All-reverse P xs (All-tail P x xs all)) (All-head P x xs all))

-- The two parts of a stack.
pub left_inside : (P : Word → Type 0) (stack left taken : List Word) → stack ≡ left ++ reverse taken → All P stack → All P left
left_inside P stack left taken e all =
    subst (λ ws. All P ws) (ap (take (length left)) e ∙ take-append_seam left (reverse taken)) (All-take P (length left) stack all)

pub taken_inside : (P : Word → Type 0) (stack left taken : List Word) → stack ≡ left ++ reverse taken → All P stack → All P taken
taken_inside P stack left taken e all =
    subst (λ ws. All P ws) (reverse-reverse taken)
    (All-reverse P (reverse taken)
    (subst (λ ws. All P ws) (ap (drop (length left)) e ∙ drop-append_seam left (reverse taken)) (All-drop P (length left) stack all)))

pub standing-split : (h : Heap) (stack left taken : List Word) → stack ≡ left ++ reverse taken
    → standing h stack ≡ trees (map (meaning h) taken ++ map (meaning h) (reverse left))
standing-split h stack left taken e =
    ap (λ ws. trees (map (meaning h) (reverse ws))) e
    ∙ ap (λ ws. trees (map (meaning h) ws)) (reverse-append left (reverse taken) ∙ ap (λ ws. ws ++ reverse left) (reverse-reverse taken))
    ∙ ap trees (map-append (meaning h) taken (reverse left))

pub standing-keeps : (c d : Heap) (ws : List Word) → Keeps c d → All (IsIn c) ws → standing d ws ≡ standing c ws
standing-keeps c d ws keeps all =
    ap trees (map-same (meaning d) (meaning c) (IsIn c) (reverse ws) keeps.means (All-reverse (IsIn c) ws all))

pub standing-push : (h : Heap) (ws : List Word) (w : Word) → standing h (ws ++ w ∷ []) ≡ more (meaning h w) (standing h ws)
standing-push h ws w = ap (λ vs. trees (map (meaning h) vs)) (reverse-append ws (w ∷ []))

abbrev heap_with : Heap → List Head → List Word → List ℕ → Heap
heap_with h hs ws ns = record { heads = hs; args = ws; numbers = ns; trail = h.trail }

pub gains_none : (h : Heap) → Gains h h
gains_none h =
    record {
      longer = record { heads = []; args = []; numbers = []; longer = none_more };
      numbers = refl;
      keeps = record { inside = λ w inside. inside; means = λ w inside. refl };
    }
  where
    none_more : h ≡ with_more h [] [] []
    none_more =
        ap (λ hs. heap_with h hs h.args h.numbers) (sym (append-nil h.heads)) ∙ ap (λ ws. heap_with h (h.heads ++ []) ws h.numbers) (sym (append-nil h.args))
        ∙ ap (λ ns. heap_with h (h.heads ++ []) (h.args ++ []) ns) (sym (append-nil h.numbers))

pub gains_made : (c d : Heap) (name : ℕ) (ws : List Word) (w : Word) → Made c name ws d w → Gains c d
gains_made c d name ws w m = record { longer = m.longer; numbers = m.numbers; keeps = m.keeps }

pub gains_twice : (c d e : Heap) → Gains c d → Gains d e → Gains c e
gains_twice c d e g k =
    record {
      longer =
          record {
            heads = g.longer.heads ++ k.longer.heads;
            args = g.longer.args ++ k.longer.args;
            numbers = g.longer.numbers ++ k.longer.numbers;
            longer =
                k.longer.longer ∙ ap (λ h. with_more h k.longer.heads k.longer.args k.longer.numbers) g.longer.longer
                ∙ ap (λ hs. heap_with c hs ((c.args ++ g.longer.args) ++ k.longer.args) ((c.numbers ++ g.longer.numbers) ++ k.longer.numbers))
                (append_assoc c.heads g.longer.heads k.longer.heads)
                ∙ ap₂ (heap_with c (c.heads ++ (g.longer.heads ++ k.longer.heads))) (append_assoc c.args g.longer.args k.longer.args)
                (append_assoc c.numbers g.longer.numbers k.longer.numbers);
          };
      numbers = k.numbers ∙ g.numbers;
      keeps =
          record {
            inside = λ w inside. k.keeps.inside w (g.keeps.inside w inside);
            means = λ w inside. k.keeps.means w (g.keeps.inside w inside) ∙ g.keeps.means w inside;
          };
    }

-- What a node's word stands for, and what is left on the stack.
pub var_placed : (h : Heap) (stack : List Word) (base x : ℕ) (f : ℕ → ℕ) → Fit h → base + x < length h.numbers → All (λ b. b.slot < base) h.trail
    → more (meaning h (Var (base + x))) (standing h stack) ≡ more (var (numbered h (base + x))) (standing h stack)
var_placed h stack base x f fit lt fresh =
    ap (λ t. more t (standing h stack))
    (stands h (base + x) fit lt (find_absent (base + x) h.trail (All-weaker (λ b. b.slot < base) (λ b. b.slot < base + x) (λ b below. omega arith) h.trail fresh)))

pub int_placed : (h : Heap) (stack : List Word) → (n : _) → more (meaning h (Int n)) (standing h stack) ≡ more (int n) (standing h stack)
int_placed h stack n = ap (λ t. more t (standing h stack)) (bound-int (bindings h) n)

pub atom_placed : (h : Heap) (stack : List Word) (a : ℕ) → more (meaning h (Atom a)) (standing h stack) ≡ more (atom (atom_name a)) (standing h stack)
atom_placed h stack a = ap (λ t. more t (standing h stack)) (bound-atom (bindings h) (atom_name a))

pub comp_placed : (c d : Heap) (name n : ℕ) (stack left : List Word) (w : Word) → 0 < n → All (IsIn c) stack → Joined c name n stack left d w
    → more (meaning d w) (standing d left) ≡ build (atom_name name) n (standing c stack)
comp_placed c d name n stack left w some all j =
    ap₂ more j.made.means (standing-keeps c d left j.made.keeps (left_inside (IsIn c) stack left j.taken j.split all))
    ∙ sym
    (ap (build (atom_name name) n) (standing-split c stack left j.taken j.split)
    ∙ build-trees (atom_name name) n (front ++ back) some (omega (arith, length-append front back, length-map j.taken (meaning c), j.long))
    ∙ ap₂ (λ ts us. more (compound (atom_name name) ts) (trees us))
    (ap (λ k. take k (front ++ back)) (sym long) ∙ take-append_seam front back)
    (ap (λ k. drop k (front ++ back)) (sym long) ∙ drop-append_seam front back))
  where
    front : List Tree
    front = map (meaning c) j.taken

    back : List Tree
    back = map (meaning c) (reverse left)

    long : length (map (meaning c) j.taken) ≡ n
    long = length-map j.taken (meaning c) ∙ j.long

pub length-standing : (h : Heap) (ws : List Word) → count (standing h ws) ≡ length ws
length-standing h ws = count-trees (map (meaning h) (reverse ws)) ∙ length-map (reverse ws) (meaning h) ∙ length-reverse ws

module _ {E : Type 0} (c d : Heap) (name n : ℕ) (stack left : List Word) where
  pub joined_gains : (r : Result Word E) → IfOk r (Joined c name n stack left d) → OnErr r (d ≡ c) → Gains c d
  joined_gains (Ok w) j e = gains_made c d name j.taken w j.made
  joined_gains (Err x) j e = subst (Gains c) (sym e) (gains_none c)

  pub joined_words : (r : Result Word E) → IfOk r (Joined c name n stack left d) → All (IsIn c) stack → OnOk r (All (IsIn d) left)
  joined_words (Ok w) j all = All-weaker (IsIn c) (IsIn d) j.made.keeps.inside left (left_inside (IsIn c) stack left j.taken j.split all)
  joined_words (Err x) j all = tt

  pub joined_placed : (r : Result Word E) → IfOk r (Joined c name n stack left d) → 0 < n → All (IsIn c) stack
      → (f : ℕ → ℕ) (node : AtomNode) → node ≡ nodes.Comp name n → IfOk r (λ w. more (meaning d w) (standing d left) ≡ placed f node (standing c stack))
  joined_placed (Ok w) j some all f node is =
      comp_placed c d name n stack left w some all j ∙ ap (λ m. placed f m (standing c stack)) (sym is)
  joined_placed (Err x) j some all f node is = tt
