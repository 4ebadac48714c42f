-- What each step on the heap is in turns of unification.
use Rattle.std.proofs.Common.{◌≡◌, ◌≢◌, ℕ, zero, suc, ◌+◌, ◌<◌, ◌≤◌, Bool, true, false, cond, ◌&&◌, ◌==◌, List, [], ◌∷◌, ◌++◌, length, get_or, map, reverse, take, drop, length-take, length-drop, refl, sym, ap, ap₂, subst, ◌∙◌, arith, zero-add, append-nil, append_assoc}
use Rattle.std.specs.Str.{bytes_eq}
use Rattle.std.specs.List.{All}
use Rattle.std.proofs.lemmas.List.{length-map}
use Rattle.std.proofs.lemmas.List.Elements.{All-append}
use Rattle.pl_term.specs.Tree.{comp, none, more, count, trees}
use Rattle.pl_term.specs.Variables.{has}
use Rattle.pl_term.proofs.Spelled.{count-trees}
use Rattle.pl_model.specs.Unify.{Bindings, bound, solve, clash, or_later, difference, differences}
use Rattle.pl_model.proofs.UnifyReplace.{eqb_other}
use Rattle.pl_model.proofs.UnifyTurns.{solve-skip, solve-open, solve-clash, solve-occurs, solve-binds}
use Rattle.term_store.specs.declared.words.Word.{Word}
use Rattle.term_store.specs.declared.words.Word.TheVariants.{Comp}
use Rattle.term_store.specs.declared.words.Head.{Head}
use Rattle.term_store.specs.declared.words.Pair.{Pair}
use Rattle.term_store.specs.Heap.{Heap, atom_name, words_of, meaning, numbered, pushed}
use Rattle.term_store.specs.Fit.{IsIn, Fit, no_head}
use Rattle.term_store.specs.Meeting.{Parts}
use Rattle.term_store.specs.Unifying.{IsPairIn, lefts, rights, zip_words, Goes, Moves, Unifies, Solves}
use Rattle.term_store.proofs.Equations.{bound-append}
use Rattle.term_store.proofs.Binding.{meaning-pushed}
use Rattle.term_store.proofs.Joining.{arguments_close}
use Rattle.term_store.proofs.Planning.{Facing, IsOpened, is_opened, names-differ}
use Rattle.term_store.proofs.Pairing.{lefts-append, rights-append, lefts-replace, rights-replace, lefts-zip, rights-zip, All-zip}
use Rattle.term_store.proofs.Occurring.{words_inside}

pub goes_same : (h : Heap) (ps : List Pair) (a b : Word) → meaning h a ≡ meaning h b → Goes h ps a b h ps
goes_same h ps a b e =
    record {
      turns = zero;
      made = [];
      binds = λ w. refl;
      same = λ n bs.
          ap (λ m. solve m bs (more (meaning h a) (lefts h ps none)) (more (meaning h b) (rights h ps none))) (zero-add n)
          ∙ ap (λ t. solve n bs (more t (lefts h ps none)) (more (meaning h b) (rights h ps none))) e
          ∙ solve-skip n bs (meaning h b) (lefts h ps none) (rights h ps none)
          ∙ ap (λ cs. solve n cs (lefts h ps none) (rights h ps none)) (sym (append-nil bs));
    }

pub never_clash : (h : Heap) (ps : List Pair) (a b : Word) (d : Heap) (qs : List Pair) → difference (meaning h a) (meaning h b) ≡ clash
    → Moves false h ps a b d qs
never_clash h ps a b d qs e zero bs = refl
never_clash h ps a b d qs e (suc n) bs = solve-clash n bs (meaning h a) (meaning h b) (lefts h ps none) (rights h ps none) e

pub never_occurs : (h : Heap) (ps : List Pair) (a b : Word) (d : Heap) (qs : List Pair) (i : ℕ) (w : Word)
    → Facing h (meaning h a) (meaning h b) i w → has (numbered h i) (meaning h w) ≡ true → Moves false h ps a b d qs
never_occurs h ps a b d qs i w f e zero bs = refl
never_occurs h ps a b d qs i w f e (suc n) bs =
    solve-occurs n bs (meaning h a) (meaning h b) (lefts h ps none) (rights h ps none) (numbered h i) (meaning h w) f.differs e

pub goes_bind : (h : Heap) (ps : List Pair) (a b : Word) (i : ℕ) (w : Word) → Facing h (meaning h a) (meaning h b) i w
    → has (numbered h i) (meaning h w) ≡ false → Goes h ps a b (pushed h i w) ps
goes_bind h ps a b i w f absent =
    let x = numbered h i in
    let s = meaning h w in
    record {
      turns = 1;
      made = (x, s) ∷ [];
      binds = λ u. meaning-pushed h i w u;
      same = λ n bs.
          ap (λ m. solve m bs (more (meaning h a) (lefts h ps none)) (more (meaning h b) (rights h ps none))) (one_more n)
          ∙ solve-binds n bs (meaning h a) (meaning h b) (lefts h ps none) (rights h ps none) x s f.differs absent (f.joins absent)
          ∙ ap₂ (solve n (bs ++ (x, s) ∷ []))
          (lefts-replace h (pushed h i w) x s (λ u. meaning-pushed h i w u) ps none)
          (rights-replace h (pushed h i w) x s (λ u. meaning-pushed h i w u) ps none);
    }
  where
    one_more : (n : ℕ) → 1 + n ≡ suc n
    one_more n = omega arith

-- Two compound terms with the same name and number of arguments give way to their arguments.
pub goes_open : (h : Heap) (ps qs : List Pair) (k l : ℕ) (p : IsOpened h k) (q : IsOpened h l) → p.name ≡ q.name → length p.others ≡ length q.others
    → qs ≡ ps ++ reverse (zip_words (p.first ∷ p.others) (q.first ∷ q.others)) → Goes h ps (Comp k) (Comp l) h qs
goes_open h ps qs k l p q names counts e =
    record {
      turns = zero;
      made = [];
      binds = λ w. refl;
      same = λ n bs.
          ap (λ m. solve m bs (more (meaning h (Comp k)) (lefts h ps none)) (more (meaning h (Comp l)) (rights h ps none))) (zero-add n)
          ∙ ap₂ (λ t u. solve n bs (more t (lefts h ps none)) (more u (rights h ps none)))
          (p.means ∙ ap (λ a. comp (atom_name a) (meaning h p.first) (trees (map (meaning h) p.others))) names) q.means
          ∙ solve-open n bs (atom_name q.name) (meaning h p.first) (meaning h q.first) (trees (map (meaning h) p.others)) (trees (map (meaning h) q.others))
          (lefts h ps none) (rights h ps none) same_count
          ∙ ap₂ (solve n bs)
          (sym (lefts-zip h (p.first ∷ p.others) (q.first ∷ q.others) (lefts h ps none) (ap suc counts))
          ∙ sym (lefts-append h ps (reverse (zip_words (p.first ∷ p.others) (q.first ∷ q.others))) none) ∙ ap (λ rs. lefts h rs none) (sym e))
          (sym (rights-zip h (p.first ∷ p.others) (q.first ∷ q.others) (rights h ps none) (ap suc counts))
          ∙ sym (rights-append h ps (reverse (zip_words (p.first ∷ p.others) (q.first ∷ q.others))) none) ∙ ap (λ rs. rights h rs none) (sym e))
          ∙ ap (λ cs. solve n cs (lefts h qs none) (rights h qs none)) (sym (append-nil bs));
    }
  where
    same_count : count (trees (map (meaning h) p.others)) ≡ count (trees (map (meaning h) q.others))
    same_count =
        count-trees (map (meaning h) p.others) ∙ length-map p.others (meaning h) ∙ counts
        ∙ sym (length-map q.others (meaning h)) ∙ sym (count-trees (map (meaning h) q.others))

and-false : (b : Bool) → (b && false) ≡ false
and-false true = refl
and-false false = refl

pub names_clash : (h : Heap) (k l : ℕ) (p : IsOpened h k) (q : IsOpened h l) → (p.name == q.name) ≡ false
    → difference (meaning h (Comp k)) (meaning h (Comp l)) ≡ clash
names_clash h k l p q e =
    let ts = trees (map (meaning h) p.others) in
    let us = trees (map (meaning h) q.others) in
    ap₂ difference p.means q.means
    ∙ ap (λ b. cond (b && (count ts == count us)) (or_later (difference (meaning h p.first) (meaning h q.first)) (differences ts us)) clash)
    (names-differ p.name q.name e)

pub counts_clash : (h : Heap) (k l : ℕ) (p : IsOpened h k) (q : IsOpened h l) → length p.others ≢ length q.others
    → difference (meaning h (Comp k)) (meaning h (Comp l)) ≡ clash
counts_clash h k l p q ne =
    let ts = trees (map (meaning h) p.others) in
    let us = trees (map (meaning h) q.others) in
    ap₂ difference p.means q.means
    ∙ ap (λ b. cond (bytes_eq (atom_name p.name) (atom_name q.name) && b) (or_later (difference (meaning h p.first) (meaning h q.first)) (differences ts us)) clash)
    (eqb_other (count ts) (count us)
    (λ s. ne (sym (count-trees (map (meaning h) p.others) ∙ length-map p.others (meaning h)) ∙ s ∙ count-trees (map (meaning h) q.others) ∙ length-map q.others (meaning h))))
    ∙ ap (λ b. cond b (or_later (difference (meaning h p.first) (meaning h q.first)) (differences ts us)) clash) (and-false (bytes_eq (atom_name p.name) (atom_name q.name)))

pub begins : (h : Heap) (a b : Word) → Goes h [] a b h (record { left = a; right = b } ∷ [])
begins h a b =
    record {
      turns = zero;
      made = [];
      binds = λ w. refl;
      same = λ n bs.
          ap (λ m. solve m bs (more (meaning h a) none) (more (meaning h b) none)) (zero-add n)
          ∙ ap (λ cs. solve n cs (more (meaning h a) none) (more (meaning h b) none)) (sym (append-nil bs));
    }

-- The last pair of the stack is in front of the others.
in_front : (c d : Heap) (a b : Word) (made : Bindings) (ps rs : List Pair) (p : Pair) (l r : Word) (n : ℕ) → rs ≡ ps ++ p ∷ []
    → meaning d l ≡ meaning d p.left → meaning d r ≡ meaning d p.right
    → solve n made (lefts d rs none) (rights d rs none) ≡ solve n made (more (meaning d l) (lefts d ps none)) (more (meaning d r) (rights d ps none))
in_front c d a b made ps rs p l r n e u v =
    ap (λ qs. solve n made (lefts d qs none) (rights d qs none)) e
    ∙ ap₂ (solve n made) (lefts-append d ps (p ∷ []) none) (rights-append d ps (p ∷ []) none)
    ∙ ap₂ (λ s t. solve n made (more s (lefts d ps none)) (more t (rights d ps none))) (sym u) (sym v)

pub goes_on : (c d e : Heap) (a b l r : Word) (ps rs qs : List Pair) (p : Pair) → Goes c [] a b d rs → rs ≡ ps ++ p ∷ []
    → meaning d l ≡ meaning d p.left → meaning d r ≡ meaning d p.right → Goes d ps l r e qs → Goes c [] a b e qs
goes_on c d e a b l r ps rs qs p g split u v s =
    record {
      turns = g.turns + s.turns;
      made = g.made ++ s.made;
      binds = λ w. s.binds w ∙ ap (bound s.made) (g.binds w) ∙ sym (bound-append g.made s.made (meaning c w));
      same = λ n bs.
          ap (λ m. solve m bs (more (meaning c a) none) (more (meaning c b) none)) (regroup g.turns s.turns n)
          ∙ g.same (s.turns + n) bs
          ∙ in_front c d a b (bs ++ g.made) ps rs p l r (s.turns + n) split u v
          ∙ s.same n (bs ++ g.made)
          ∙ ap (λ cs. solve n cs (lefts e qs none) (rights e qs none)) (append_assoc bs g.made s.made);
    }
  where
    regroup : (i j n : ℕ) → (i + j) + n ≡ i + (j + n)
    regroup i j n = omega arith

pub unifies : (c d : Heap) (a b : Word) (qs : List Pair) → Goes c [] a b d qs → qs ≡ [] → Unifies c a b d
unifies c d a b qs g e =
    record {
      turns = g.turns;
      made = g.made;
      binds = g.binds;
      solved = λ n.
          ap (λ m. solve m [] (more (meaning c a) none) (more (meaning c b) none)) (one_later g.turns n)
          ∙ g.same (suc n) [] ∙ ap (λ rs. solve (suc n) g.made (lefts d rs none) (rights d rs none)) e;
    }
  where
    one_later : (i n : ℕ) → suc (i + n) ≡ i + suc n
    one_later i n = omega arith

pub never_unifies : (c d e : Heap) (a b l r : Word) (ps rs qs : List Pair) (p : Pair) → Goes c [] a b d rs → rs ≡ ps ++ p ∷ []
    → meaning d l ≡ meaning d p.left → meaning d r ≡ meaning d p.right → Moves false d ps l r e qs → Solves false c a b e
never_unifies c d e a b l r ps rs qs p g split u v s =
    (g.turns, λ n. g.same n [] ∙ in_front c d a b g.made ps rs p l r n split u v ∙ s n g.made)

-- The arguments of a compound term are as many as its head says.
pub length-words : (h : Heap) (k : ℕ) → Fit h → k < length h.heads → length (words_of h.args (get_or h.heads k no_head)) ≡ (get_or h.heads k no_head).count
length-words h k fit lt =
    let g = get_or h.heads k no_head in
    omega (arith, length-take g.count (drop g.start h.args), length-drop g.start h.args, (fit.heads k lt).within)

module _ (h : Heap) (k l : ℕ) (fit : Fit h) (p : k < length h.heads) (q : l < length h.heads) (left right : Head)
    (a : left ≡ get_or h.heads k no_head) (b : right ≡ get_or h.heads l no_head) where
  left_open : IsOpened h k
  left_open = is_opened h k fit p

  right_open : IsOpened h l
  right_open = is_opened h l fit q

  left_name : left.name ≡ left_open.name
  left_name = ap (λ g. g.name) a ∙ left_open.named

  right_name : right.name ≡ right_open.name
  right_name = ap (λ g. g.name) b ∙ right_open.named

  left_count : left.count ≡ suc (length left_open.others)
  left_count = ap (λ g. g.count) a ∙ sym (length-words h k fit p) ∙ ap length left_open.words

  right_count : right.count ≡ suc (length right_open.others)
  right_count = ap (λ g. g.count) b ∙ sym (length-words h l fit q) ∙ ap length right_open.words

  pub pair_names : left.name ≢ right.name → difference (meaning h (Comp k)) (meaning h (Comp l)) ≡ clash
  pair_names ne =
      names_clash h k l left_open right_open (eqb_other left_open.name right_open.name (λ s. ne (left_name ∙ s ∙ sym right_name)))

  pub pair_counts : left.count ≢ right.count → difference (meaning h (Comp k)) (meaning h (Comp l)) ≡ clash
  pair_counts ne =
      counts_clash h k l left_open right_open (λ s. ne (left_count ∙ ap suc s ∙ sym right_count))

  left_words : take left.count (drop left.start h.args) ≡ left_open.first ∷ left_open.others
  left_words = ap (words_of h.args) a ∙ left_open.words

  right_words : left.count ≡ right.count → take left.count (drop right.start h.args) ≡ right_open.first ∷ right_open.others
  right_words e = ap (λ n. take n (drop right.start h.args)) e ∙ ap (words_of h.args) b ∙ right_open.words

  pub pair_opens : (ps qs : List Pair) → left.name ≡ right.name → left.count ≡ right.count
      → qs ≡ ps ++ reverse (zip_words (take left.count (drop left.start h.args)) (take left.count (drop right.start h.args)))
      → Goes h ps (Comp k) (Comp l) h qs
  pair_opens ps qs names counts e =
      goes_open h ps qs k l left_open right_open (sym left_name ∙ names ∙ right_name)
      (suc_same (length left_open.others) (length right_open.others) (sym left_count ∙ counts ∙ right_count))
      (e ∙ ap₂ (λ vs ws. ps ++ reverse (zip_words vs ws)) left_words (right_words counts))
    where
      suc_same : (i j : ℕ) → suc i ≡ suc j → i ≡ j
      suc_same i j e = omega arith

  pub pair_inside : (ps qs : List Pair) → left.count ≡ right.count → All (IsPairIn h) ps
      → qs ≡ ps ++ reverse (zip_words (take left.count (drop left.start h.args)) (take left.count (drop right.start h.args)))
      → All (IsPairIn h) qs
  pair_inside ps qs counts all e =
      subst (λ rs. All (IsPairIn h) rs) (sym e)
      (All-append (IsPairIn h) ps _ all
      (All-zip h _ _
      (subst (λ g. All (IsIn h) (words_of h.args g)) (sym a) (words_inside h k fit p))
      (subst (λ n. All (IsIn h) (take n (drop right.start h.args))) (sym counts) (subst (λ g. All (IsIn h) (words_of h.args g)) (sym b) (words_inside h l fit q)))))

  pub pair_parts : (ps qs : List Pair) → left.name ≡ right.name → left.count ≡ right.count
      → qs ≡ ps ++ reverse (zip_words (take left.count (drop left.start h.args)) (take left.count (drop right.start h.args))) → Parts h k l ps qs
  pair_parts ps qs names counts e =
      let f = get_or h.heads k no_head in
      let g = get_or h.heads l no_head in
      record {
        gained = reverse (zip_words (words_of h.args f) (words_of h.args g));
        pushed =
            e
            ∙ ap₂ (λ vs ws. ps ++ reverse (zip_words vs ws)) (ap (words_of h.args) a)
            (ap (λ n. take n (drop right.start h.args)) counts ∙ ap (words_of h.args) b);
        close =
            arguments_close h k l fit p q (sym (ap (λ j. j.name) a) ∙ names ∙ ap (λ j. j.name) b)
            (length-words h k fit p ∙ sym (ap (λ j. j.count) a) ∙ counts ∙ ap (λ j. j.count) b ∙ sym (length-words h l fit q));
      }

  pub left_within : left.start + left.count ≤ length h.args
  left_within = subst (λ g. g.start + g.count ≤ length h.args) (sym a) (fit.heads k p).within

  pub right_within : right.start + right.count ≤ length h.args
  right_within = subst (λ g. g.start + g.count ≤ length h.args) (sym b) (fit.heads l q).within
