-- The atoms of a term, listed node by node.
use Rattle.std.proofs.Common.{◌≡◌, ◌≢◌, ℕ, ◌+◌, ◌<◌, ◌≤◌, Bool, true, false, ◌==◌, ◌&&◌, ◌||◌, not, List, [], ◌∷◌, ◌++◌, length, get_or, take, refl, sym, ap, ap₂, ◌∙◌, inl, inr, arith, eq-eqb}
use Rattle.std.specs.List.{list_any}
use Rattle.std.specs.Option.{is_some}
use Rattle.std.specs.Ordering.{is_eq, nat_cmp}
use Rattle.std.specs.BTreeSet as set
use Rattle.std.specs.BTreeSet.{BTreeSet}
use Rattle.std.proofs.lemmas.Bool.{cases_eq, cases_lt, ne_eqb, lt-ltb, le-ltb}
use Rattle.std.proofs.lemmas.List.{take_more}
use Rattle.std.proofs.lemmas.List.Folds.{list_any-append}
use Rattle.pl_term.specs.Tree.{Tree, Trees, var, int, atom, comp, none, more}
use Rattle.pl_term.specs.declared.node.Node.{Node}
use Rattle.pl_term.specs.declared.node.Node.TheVariants as terms
use Rattle.pl_term.specs.Nodes.{nodes, nodes_all}
use Rattle.pl_term.proofs.TextOrder.{nat_cmp-less, nat_cmp-greater}
use Rattle.term_store.specs.declared.nodes.AtomNode.{AtomNode}
use Rattle.term_store.specs.declared.nodes.AtomNode.TheVariants.{Var, Int, Atom, Comp}
use Rattle.term_store.specs.Nodes.{node_views}
use Rattle.term_store.specs.NumberedNames.{number_of, neck, atoms_in, atoms_in_all}
use Rattle.atom_api.specs.Fixed.{fixed, fixed_count}
use Rattle.atom_api.proofs.PlainFixed.{is_fixed}
use Rattle.counted_terms.specs.Keeping.{times}
use Rattle.counted_terms.specs.CountedTerms.{IsListed, bit, has_counted, naming, slots_of}
use Rattle.counted_terms.proofs.Times.{one_here, one_else, times_more}

-- TESTS
and_false : (b : Bool) → (b && false) ≡ false
and_false true = refl
and_false false = refl

or_false : (b : Bool) → (b || false) ≡ b
or_false true = refl
or_false false = refl

or_true : (b : Bool) → (b || true) ≡ true
or_true true = refl
or_true false = refl

both_or : (a b c : Bool) → ((a || b) && c) ≡ ((a && c) || (b && c))
both_or true b true = refl
both_or true b false = sym (and_false b)
both_or false b c = refl

pub was_new : (b : Bool) → not b ≡ true → b ≡ false
was_new false e = refl
was_new true e = cc

pub unmet : {c : Bool} (b : Bool) → c ≡ false → b ≡ (b || c)
unmet b e = sym (or_false b) ∙ ap (λ (x : Bool). b || x) (sym e)

-- lists after each other
pub counted_more : (k : ℕ) (xs ys : List ℕ) → has_counted k (xs ++ ys) ≡ (has_counted k xs || has_counted k ys)
counted_more k xs ys = ap (λ (b : Bool). b && not (is_some (fixed k))) (list_any-append (λ a. a == k) xs ys) ∙ both_or (list_any (λ a. a == k) xs) (list_any (λ a. a == k) ys) (not (is_some (fixed k)))

-- a fixed atom counts nothing
fixed_not : (k : ℕ) (xs : List ℕ) → k < fixed_count → has_counted k xs ≡ false
fixed_not k xs low = ap (λ (b : Bool). list_any (λ a. a == k) xs && not b) (is_fixed k ∙ lt-ltb k fixed_count low) ∙ and_false (list_any (λ a. a == k) xs)

other_not : (k a : ℕ) → k ≢ a → has_counted k (a ∷ []) ≡ false
other_not k a ne = ap (λ (b : Bool). (b || false) && not (is_some (fixed k))) (ne_eqb a k (λ e. ne (sym e)))

this_one : (k a : ℕ) → k ≡ a → fixed_count ≤ a → has_counted k (a ∷ []) ≡ true
this_one k a e high = let free : fixed_count ≤ k = omega arith in (λ i. ((eq-eqb a k (sym e)) i || false) && not ((is_fixed k ∙ le-ltb k fixed_count free) i))

pub fixed_one : (k a : ℕ) → a < fixed_count → has_counted k (a ∷ []) ≡ false
fixed_one k a low = elim (cases_eq k a) [
  | inl is ↦ fixed_not k (a ∷ []) (omega arith)
  | inr ne ↦ other_not k a ne
]

-- THE SET
differs : (a k : ℕ) → a ≢ k → is_eq (nat_cmp a k) ≡ false
differs a k ne = elim (cases_lt a k) [
  | inl lt ↦ ap is_eq (nat_cmp-less a k lt)
  | inr ge ↦ ap is_eq (nat_cmp-greater a k (omega arith))
]

module _ (old new : BTreeSet ℕ) (a : ℕ) (high : fixed_count ≤ a) (updates : set.Updates nat_cmp old new a true) where
  pub set_now : (k : ℕ) → set.contains nat_cmp new k ≡ (set.contains nat_cmp old k || has_counted k (a ∷ []))
  set_now k = elim (cases_eq k a) [
    | inl is ↦ ap (set.contains nat_cmp new) is ∙ (updates.1 ∙ (sym (or_true (set.contains nat_cmp old k)) ∙ ap (λ (b : Bool). set.contains nat_cmp old k || b) (sym (this_one k a is high))))
    | inr ne ↦ updates.2 k (differs a k (λ e. ne (sym e))) ∙ (sym (or_false (set.contains nat_cmp old k)) ∙ ap (λ (b : Bool). set.contains nat_cmp old k || b) (sym (other_not k a ne)))
  ]

  -- it was not there, and is listed now
  pub listed_new : (xs ys : List ℕ) → IsListed old xs → set.contains nat_cmp old a ≡ false → ys ≡ xs ++ a ∷ [] → IsListed new ys
  listed_new xs ys listed gone is k = ap (times k) is ∙ elim (cases_eq k a) [
    | inl e ↦ let sum = times_more k xs (a ∷ []) in let one = one_here a k e in let before = listed k in let none = ap bit (ap (set.contains nat_cmp old) e ∙ gone) in let now : bit (set.contains nat_cmp new k) ≡ 1 = ap bit (ap (set.contains nat_cmp new) e ∙ updates.1) in omega arith
    | inr ne ↦ let sum = times_more k xs (a ∷ []) in let zero_ = one_else a k ne in let before = listed k in let same = ap bit (updates.2 k (differs a k (λ e. ne (sym e)))) in omega arith
  ]

  -- it was there
  pub listed_old : (xs : List ℕ) → IsListed old xs → set.contains nat_cmp old a ≡ true → IsListed new xs
  listed_old xs listed there k = listed k ∙ ap bit (sym (elim (cases_eq k a) [
    | inl e ↦ ap (set.contains nat_cmp new) e ∙ (updates.1 ∙ (sym there ∙ ap (set.contains nat_cmp old) (sym e)))
    | inr ne ↦ updates.2 k (differs a k (λ e. ne (sym e)))
  ]))

-- THE NODES OF A TERM
slots_more : (ms ns : List AtomNode) → slots_of (ms ++ ns) ≡ slots_of ms ++ slots_of ns
slots_more [] ns = refl
slots_more (Var x ∷ ms) ns = slots_more ms ns
slots_more (Int i ∷ ms) ns = slots_more ms ns
slots_more (Atom a ∷ ms) ns = ap (◌∷◌ a) (slots_more ms ns)
slots_more (Comp a n ∷ ms) ns = ap (◌∷◌ a) (slots_more ms ns)

-- one node more
pub slots_next : (k : ℕ) (ns : List AtomNode) (i : ℕ) (d : AtomNode) → i < length ns → has_counted k (slots_of (take (i + 1) ns)) ≡ (has_counted k (slots_of (take i ns)) || has_counted k (slots_of (get_or ns i d ∷ [])))
slots_next k ns i d low = ap (λ (l : List AtomNode). has_counted k (slots_of l)) (take_more ns i d low) ∙ (ap (has_counted k) (slots_more (take i ns) (get_or ns i d ∷ [])) ∙ counted_more k (slots_of (take i ns)) (slots_of (get_or ns i d ∷ [])))

abbrev numbers : List Node → List ℕ
numbers [] = []
numbers (terms.Var x ∷ ns) = numbers ns
numbers (terms.Int i ∷ ns) = numbers ns
numbers (terms.Atom f ∷ ns) = number_of f ∷ numbers ns
numbers (terms.Comp f k ∷ ns) = number_of f ∷ numbers ns

numbers-append : (ms ns : List Node) → numbers (ms ++ ns) ≡ numbers ms ++ numbers ns
numbers-append [] ns = refl
numbers-append (terms.Var x ∷ ms) ns = numbers-append ms ns
numbers-append (terms.Int i ∷ ms) ns = numbers-append ms ns
numbers-append (terms.Atom f ∷ ms) ns = ap (◌∷◌ (number_of f)) (numbers-append ms ns)
numbers-append (terms.Comp f k ∷ ms) ns = ap (◌∷◌ (number_of f)) (numbers-append ms ns)

mutual
  numbers-nodes : (t : Tree) → numbers (nodes t) ≡ atoms_in t
  numbers-nodes (var x) = refl
  numbers-nodes (int i) = refl
  numbers-nodes (atom f) = refl
  numbers-nodes (comp f t ts) =
      ap (◌∷◌ (number_of f)) (numbers-append (nodes t) (nodes_all ts) ∙ ap₂ ◌++◌ (numbers-nodes t) (numbers-nodes_all ts))

  numbers-nodes_all : (ts : Trees) → numbers (nodes_all ts) ≡ atoms_in_all ts
  numbers-nodes_all none = refl
  numbers-nodes_all (more t ts) = numbers-append (nodes t) (nodes_all ts) ∙ ap₂ ◌++◌ (numbers-nodes t) (numbers-nodes_all ts)

numbers-views : (ns : List AtomNode) → numbers (node_views ns) ≡ slots_of ns
numbers-views [] = refl
numbers-views (Var x ∷ ns) = numbers-views ns
numbers-views (Int i ∷ ns) = numbers-views ns
numbers-views (Atom a ∷ ns) = ap (◌∷◌ a) (numbers-views ns)
numbers-views (Comp a n ∷ ns) = ap (◌∷◌ a) (numbers-views ns)

-- the neck is fixed
pub naming_is : (k : ℕ) (ns : List AtomNode) (t : Tree) → node_views ns ≡ nodes t → bit (has_counted k (slots_of ns)) ≡ naming k t
naming_is k ns t e = ap (λ (l : List ℕ). bit (has_counted k l)) (sym (numbers-views ns) ∙ (ap numbers e ∙ numbers-nodes t)) ∙ ap bit (sym (counted_more k (neck ∷ []) (atoms_in t) ∙ ap (λ (b : Bool). b || has_counted k (atoms_in t)) (fixed_one k neck (omega arith))))
