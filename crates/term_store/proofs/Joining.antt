-- A unification that comes to each pair of compound terms once.
use Rattle.std.proofs.Common.{◌≡◌, inl, inr, ℕ, ◌<◌, ◌≤◌, false, List, [], ◌∷◌, ◌++◌, length, get_or, map, drop, reverse, refl, sym, ap, ap₂, subst, ◌∙◌, arith, length-append}
use Rattle.std.specs.List.{All, Contains}
use Rattle.std.proofs.lemmas.Bool.{cases_lt}
use Rattle.std.proofs.lemmas.List.{drop-append-le, drop_all, drop_at}
use Rattle.std.proofs.lemmas.List.Elements.{All-nil, All-cons, All-head, All-tail, All-push, All-append, All-weaker, All-contains}
use Rattle.pl_term.specs.Tree.{compound}
use Rattle.pl_term.specs.Cells.{compound_cells}
use Rattle.pl_term.specs.Variables.{has}
use Rattle.pl_model.specs.Unify.{Bindings, bound}
use Rattle.term_store.specs.declared.words.Word.{Word}
use Rattle.term_store.specs.declared.words.Word.TheVariants.{Comp}
use Rattle.term_store.specs.declared.words.Meeting.{Meeting}
use Rattle.term_store.specs.declared.words.Pair.{Pair}
use Rattle.term_store.specs.Heap.{Heap, atom_name, words_of, meaning, numbered, pushed}
use Rattle.term_store.specs.Meeting.{IsSmaller, IsJoined, Close, IsMet, Parts}
use Rattle.term_store.specs.Unifying.{Binds, zip_words}
use Rattle.term_store.proofs.Equations.{bound-append}
use Rattle.term_store.specs.Fit.{Fit, no_head}
use Rattle.term_store.proofs.Binding.{meaning-pushed}
use Rattle.term_store.proofs.Occurring.{popped}
use Rattle.term_store.proofs.Opening.{opened, bound-compound}
use Rattle.term_store.proofs.Pairing.{reverse-cons}
use Rattle.term_store.proofs.Planning.{Facing}
use Rattle.term_store.proofs.Visiting.{parts_less}

All-left : {X : Type 0} (P : X → Type 0) (xs ys : List X) → All P (xs ++ ys) → All P xs
All-left P [] ys all = All-nil P
All-left P (x ∷ xs) ys all = All-cons P x xs (All-head P x (xs ++ ys) all) (All-left P xs ys (All-tail P x (xs ++ ys) all))

All-right : {X : Type 0} (P : X → Type 0) (xs ys : List X) → All P (xs ++ ys) → All P ys
All-right P [] ys all = all
All-right P (x ∷ xs) ys all = All-right P xs ys (All-tail P x (xs ++ ys) all)

-- The parts of a pair of compound terms, from a place of the stack on, the last of which is taken off: there was none left,
-- or it was the last one.
module _ (h : Heap) (k l : ℕ) (from : ℕ) (ps : List Pair) (p : Pair) (close : Close h k l (drop from (ps ++ p ∷ []))) where
  none_left : length ps < from → meaning h (Comp k) ≡ meaning h (Comp l)
  none_left lt =
      let none : drop from (ps ++ p ∷ []) ≡ [] = drop_all from (ps ++ p ∷ []) (omega (arith, length-append ps (p ∷ []))) in
      close.closes [] (subst (λ rs. All (IsJoined h []) rs) (sym none) (All-nil (IsJoined h [])))

  last_close : from ≤ length ps → Close h k l (drop from ps ++ p ∷ [])
  last_close le = subst (Close h k l) (drop-append-le from ps (p ∷ []) le) close

-- The last pair is joined.
close_joined : (h : Heap) (k l : ℕ) (ps : List Pair) (p : Pair) → meaning h p.left ≡ meaning h p.right → Close h k l (ps ++ p ∷ []) → Close h k l ps
close_joined h k l ps p e close =
    record {
      smaller = λ bs. (popped (IsSmaller h bs k) (ps ++ p ∷ []) ps p refl (close.smaller bs)).0;
      closes = λ bs all. close.closes bs (All-push (IsJoined h bs) ps p all (ap (bound bs) e));
    }

pub met_joined : (h : Heap) (ps : List Pair) (p : Pair) (m : Meeting) → meaning h p.left ≡ meaning h p.right → IsMet h (ps ++ p ∷ []) m → IsMet h ps m
met_joined h ps p m e (inl same) = inl same
met_joined h ps p m e (inr (from, close)) =
    elim (cases_lt (length ps) from) [
      | inl lt ↦ inl (none_left h m.left m.right from ps p close lt)
      | inr le ↦ inr (from, close_joined h m.left m.right (drop from ps) p e (last_close h m.left m.right from ps p close le))
    ]

pub all_joined : (h : Heap) (ps : List Pair) (p : Pair) (ms : List Meeting) → meaning h p.left ≡ meaning h p.right
    → All (IsMet h (ps ++ p ∷ [])) ms → All (IsMet h ps) ms
all_joined h ps p ms e all = All-weaker (IsMet h (ps ++ p ∷ [])) (IsMet h ps) (λ m met. met_joined h ps p m e met) ms all

-- The pair is one that was come by before.
met_again : (h : Heap) (k l : ℕ) (ps : List Pair) → Close h k l (ps ++ record { left = Comp k; right = Comp l } ∷ []) → meaning h (Comp k) ≡ meaning h (Comp l)
met_again h k l ps close =
    let p : Pair = record { left = Comp k; right = Comp l } in
    let less = (popped (IsSmaller h [] k) (ps ++ p ∷ []) ps p refl (close.smaller [])).1 in
    absurd (omega (arith, less))

pub again : (h : Heap) (k l : ℕ) (ps : List Pair) (ms : List Meeting) → Contains ms (record { left = k; right = l })
    → All (IsMet h (ps ++ record { left = Comp k; right = Comp l } ∷ [])) ms → meaning h (Comp k) ≡ meaning h (Comp l)
again h k l ps ms in_ms all = go (All-contains (IsMet h (ps ++ p ∷ [])) ms (record { left = k; right = l }) all in_ms)
  where
    p : Pair
    p = record { left = Comp k; right = Comp l }

    go : IsMet h (ps ++ p ∷ []) (record { left = k; right = l }) → meaning h (Comp k) ≡ meaning h (Comp l)
    go (inl same) = same
    go (inr (from, close)) =
        elim (cases_lt (length ps) from) [
          | inl lt ↦ none_left h k l from ps p close lt
          | inr le ↦ met_again h k l (drop from ps) (last_close h k l from ps p close le)
        ]

-- The last pair gives way to pairs that are its parts.
close_opened : (h : Heap) (k l i j : ℕ) (ps zs : List Pair) → Close h k l (ps ++ record { left = Comp i; right = Comp j } ∷ []) → Close h i j zs → Close h k l (ps ++ zs)
close_opened h k l i j ps zs close parts =
    let p : Pair = record { left = Comp i; right = Comp j } in
    record {
      smaller = λ bs.
          let both = popped (IsSmaller h bs k) (ps ++ p ∷ []) ps p refl (close.smaller bs) in
          let less = both.1 in
          All-append (IsSmaller h bs k) ps zs both.0
          (All-weaker (IsSmaller h bs i) (IsSmaller h bs k) (λ q lt. omega (arith, lt, less)) zs (parts.smaller bs));
      closes = λ bs all.
          close.closes bs
          (All-push (IsJoined h bs) ps p (All-left (IsJoined h bs) ps zs all) (parts.closes bs (All-right (IsJoined h bs) ps zs all)));
    }

met_opened : (h : Heap) (i j : ℕ) (ps zs : List Pair) (m : Meeting) → Close h i j zs → IsMet h (ps ++ record { left = Comp i; right = Comp j } ∷ []) m → IsMet h (ps ++ zs) m
met_opened h i j ps zs m parts (inl same) = inl same
met_opened h i j ps zs m parts (inr (from, close)) =
    let p : Pair = record { left = Comp i; right = Comp j } in
    elim (cases_lt (length ps) from) [
      | inl lt ↦ inl (none_left h m.left m.right from ps p close lt)
      | inr le ↦
          inr (
            from,
            subst (Close h m.left m.right) (sym (drop-append-le from ps zs le))
                (close_opened h m.left m.right i j (drop from ps) zs (last_close h m.left m.right from ps p close le) parts),
          )
    ]

pub all_opened : (h : Heap) (i j : ℕ) (ps qs : List Pair) (ms : List Meeting) → Parts h i j ps qs
    → All (IsMet h (ps ++ record { left = Comp i; right = Comp j } ∷ [])) ms → All (IsMet h qs) ms
all_opened h i j ps qs ms parts all =
    subst (λ rs. All (IsMet h rs) ms) (sym parts.pushed)
    (All-weaker (IsMet h (ps ++ record { left = Comp i; right = Comp j } ∷ [])) (IsMet h (ps ++ parts.gained))
    (λ m met. met_opened h i j ps parts.gained m parts.close met) ms all)

-- The pair is one that was come by from now on.
pub all_added : (h : Heap) (i j : ℕ) (ps qs : List Pair) (ms : List Meeting) → Parts h i j ps qs → All (IsMet h qs) ms
    → All (IsMet h qs) (ms ++ record { left = i; right = j } ∷ [])
all_added h i j ps qs ms parts all =
    All-push (IsMet h qs) ms (record { left = i; right = j }) all
    (inr (length ps, subst (Close h i j) (sym (ap (drop (length ps)) parts.pushed ∙ drop_at ps parts.gained (length ps) refl)) parts.close))

-- Bindings keep what is known.
module _ (d e : Heap) (made : Bindings) (binds : Binds d made e) where
  later : (bs : Bindings) (w : Word) → bound bs (meaning e w) ≡ bound (made ++ bs) (meaning d w)
  later bs w = ap (bound bs) (binds w) ∙ sym (bound-append made bs (meaning d w))

  close_bound : (k l : ℕ) (ps : List Pair) → Close d k l ps → Close e k l ps
  close_bound k l ps close =
      record {
        smaller = λ bs.
            All-weaker (IsSmaller d (made ++ bs) k) (IsSmaller e bs k)
            (λ p lt. subst (λ t. compound_cells t < compound_cells (bound bs (meaning e (Comp k)))) (sym (later bs p.left))
            (subst (λ t. compound_cells (bound (made ++ bs) (meaning d p.left)) < compound_cells t) (sym (later bs (Comp k))) lt))
            ps (close.smaller (made ++ bs));
        closes = λ bs all.
            later bs (Comp k)
            ∙ close.closes (made ++ bs)
            (All-weaker (IsJoined e bs) (IsJoined d (made ++ bs)) (λ p same. sym (later bs p.left) ∙ same ∙ later bs p.right) ps all)
            ∙ sym (later bs (Comp l));
      }

  met_bound : (ps : List Pair) (m : Meeting) → IsMet d ps m → IsMet e ps m
  met_bound ps m (inl same) = inl (binds (Comp m.left) ∙ ap (bound made) same ∙ sym (binds (Comp m.right)))
  met_bound ps m (inr (from, close)) = inr (from, close_bound m.left m.right (drop from ps) close)

-- The last pair was joined by a binding.
pub all_bound : (h : Heap) (i : ℕ) (w : Word) (ps : List Pair) (p : Pair) (ms : List Meeting) → Facing h (meaning h p.left) (meaning h p.right) i w
    → has (numbered h i) (meaning h w) ≡ false → All (IsMet h (ps ++ p ∷ [])) ms → All (IsMet (pushed h i w) ps) ms
all_bound h i w ps p ms f absent all =
    let e = pushed h i w in
    all_joined e ps p ms (meaning-pushed h i w p.left ∙ f.joins absent ∙ sym (meaning-pushed h i w p.right))
    (All-weaker (IsMet h (ps ++ p ∷ [])) (IsMet e (ps ++ p ∷ []))
    (λ m met. met_bound h e ((numbered h i, meaning h w) ∷ []) (λ u. meaning-pushed h i w u) (ps ++ p ∷ []) m met) ms all)

-- A pair and the pair of the words that its words stand for are the same to what is known.
close_followed : (h : Heap) (k l : ℕ) (ps : List Pair) (p q : Pair) → meaning h q.left ≡ meaning h p.left → meaning h q.right ≡ meaning h p.right
    → Close h k l (ps ++ p ∷ []) → Close h k l (ps ++ q ∷ [])
close_followed h k l ps p q a b close =
    record {
      smaller = λ bs.
          let both = popped (IsSmaller h bs k) (ps ++ p ∷ []) ps p refl (close.smaller bs) in
          All-push (IsSmaller h bs k) ps q both.0 (subst (λ t. compound_cells (bound bs t) < compound_cells (bound bs (meaning h (Comp k)))) (sym a) both.1);
      closes = λ bs all.
          let both = popped (IsJoined h bs) (ps ++ q ∷ []) ps q refl all in
          close.closes bs (All-push (IsJoined h bs) ps p both.0 (sym (ap (bound bs) a) ∙ both.1 ∙ ap (bound bs) b));
    }

met_followed : (h : Heap) (ps : List Pair) (p q : Pair) (m : Meeting) → meaning h q.left ≡ meaning h p.left → meaning h q.right ≡ meaning h p.right
    → IsMet h (ps ++ p ∷ []) m → IsMet h (ps ++ q ∷ []) m
met_followed h ps p q m a b (inl same) = inl same
met_followed h ps p q m a b (inr (from, close)) =
    elim (cases_lt (length ps) from) [
      | inl lt ↦ inl (none_left h m.left m.right from ps p close lt)
      | inr le ↦
          inr (
            from,
            subst (Close h m.left m.right) (sym (drop-append-le from ps (q ∷ []) le))
                (close_followed h m.left m.right (drop from ps) p q a b (last_close h m.left m.right from ps p close le)),
          )
    ]

pub all_followed : (h : Heap) (rs ps : List Pair) (p q : Pair) (ms : List Meeting) → rs ≡ ps ++ p ∷ [] → meaning h q.left ≡ meaning h p.left
    → meaning h q.right ≡ meaning h p.right → All (IsMet h rs) ms → All (IsMet h (ps ++ q ∷ [])) ms
all_followed h rs ps p q ms e a b all =
    All-weaker (IsMet h (ps ++ p ∷ [])) (IsMet h (ps ++ q ∷ [])) (λ m met. met_followed h ps p q m a b met) ms
    (subst (λ ts. All (IsMet h ts) ms) e all)

-- The pairs of the arguments of two compound terms.
module _ (h : Heap) (bs : Bindings) where
  zip_smaller : (k : ℕ) (vs ws : List Word) → All (λ v. compound_cells (bound bs (meaning h v)) < compound_cells (bound bs (meaning h (Comp k)))) vs
      → All (IsSmaller h bs k) (reverse (zip_words vs ws))
  zip_smaller k [] ws all = All-nil (IsSmaller h bs k)
  zip_smaller k (v ∷ vs) [] all = All-nil (IsSmaller h bs k)
  zip_smaller k (v ∷ vs) (w ∷ ws) all =
      let P = λ (u : Word). compound_cells (bound bs (meaning h u)) < compound_cells (bound bs (meaning h (Comp k))) in
      subst (λ ps. All (IsSmaller h bs k) ps) (sym (reverse-cons (record { left = v; right = w }) (zip_words vs ws)))
      (All-push (IsSmaller h bs k) (reverse (zip_words vs ws)) (record { left = v; right = w }) (zip_smaller k vs ws (All-tail P v vs all)) (All-head P v vs all))

  zip_joined : (vs ws : List Word) → length vs ≡ length ws → All (IsJoined h bs) (reverse (zip_words vs ws))
      → map (λ v. bound bs (meaning h v)) vs ≡ map (λ w. bound bs (meaning h w)) ws
  zip_joined [] [] e all = refl
  zip_joined [] (w ∷ ws) e all = cc
  zip_joined (v ∷ vs) [] e all = cc
  zip_joined (v ∷ vs) (w ∷ ws) e all =
      let e' : length vs ≡ length ws = cc in
      let p : Pair = record { left = v; right = w } in
      let both = popped (IsJoined h bs) (reverse (zip_words vs ws) ++ p ∷ []) (reverse (zip_words vs ws)) p refl
      (subst (λ ps. All (IsJoined h bs) ps) (reverse-cons p (zip_words vs ws)) all) in
      ap₂ (λ t ts. t ∷ ts) both.1 (zip_joined vs ws e' both.0)

  -- A compound term under more bindings.
  bound_opened : (k : ℕ) → Fit h → k < length h.heads
      → bound bs (meaning h (Comp k))
      ≡ compound (atom_name (get_or h.heads k no_head).name) (map (λ w. bound bs (meaning h w)) (words_of h.args (get_or h.heads k no_head)))
  bound_opened k fit lt =
      let g = get_or h.heads k no_head in
      ap (bound bs) (opened h k fit lt) ∙ bound-compound bs (atom_name g.name) (map (meaning h) (words_of h.args g))
      ∙ ap (compound (atom_name g.name)) (map_twice (words_of h.args g))
    where
      map_twice : (ws : List Word) → map (bound bs) (map (meaning h) ws) ≡ map (λ w. bound bs (meaning h w)) ws
      map_twice [] = refl
      map_twice (w ∷ ws) = ap (λ ts. bound bs (meaning h w) ∷ ts) (map_twice ws)

pub arguments_close : (h : Heap) (k l : ℕ) → Fit h → k < length h.heads → l < length h.heads
    → (get_or h.heads k no_head).name ≡ (get_or h.heads l no_head).name
    → length (words_of h.args (get_or h.heads k no_head)) ≡ length (words_of h.args (get_or h.heads l no_head))
    → Close h k l (reverse (zip_words (words_of h.args (get_or h.heads k no_head)) (words_of h.args (get_or h.heads l no_head))))
arguments_close h k l fit p q names counts =
    let f = get_or h.heads k no_head in
    let g = get_or h.heads l no_head in
    let vs = words_of h.args f in
    let ws = words_of h.args g in
    record {
      smaller = λ bs.
          zip_smaller h bs k vs ws
          (subst (λ t. All (λ v. compound_cells (bound bs (meaning h v)) < compound_cells t) vs) (sym (bound_opened h bs k fit p))
          (parts_less (λ w. bound bs (meaning h w)) (atom_name f.name) vs));
      closes = λ bs all.
          bound_opened h bs k fit p
          ∙ ap₂ (λ n ts. compound (atom_name n) ts) names (zip_joined h bs vs ws counts all)
          ∙ sym (bound_opened h bs l fit q);
    }
