-- Heads that are met in goals: the pairs that are still to be made the same, and what was reached.
use Rattle.std.proofs.Common.{◌≡◌, ◌≢◌, ℕ, zero, suc, ◌+◌, ◌<◌, ◌≤◌, Bool, true, false, cond, ◌&&◌, ◌==◌, List, [], ◌∷◌, ◌++◌, length, get_or, map, reverse, take, drop, Some, None, Result, Ok, Err, IfOk, OnOk, refl, sym, ap, ap₂, subst, ◌∙◌, arith, append_assoc}
use Rattle.std.specs.List.{All}
use Rattle.std.specs.Str.{bytes_eq}
use Rattle.std.proofs.lemmas.List.{length-map}
use Rattle.std.proofs.lemmas.List.Elements.{All-nil, All-head, All-tail, All-push, All-append, All-weaker}
use Rattle.pl_term.specs.Tree.{Tree, Trees, comp, none, more, trees, count, join}
use Rattle.pl_term.specs.Variables.{occurrences_all, rename_by}
use Rattle.pl_term.proofs.Spelled.{count-trees}
use Rattle.pl_model.specs.Unify.{Bindings, bound, bound_all, clash, or_later, difference, differences, solve, unify, instance}
use Rattle.pl_model.proofs.UnifyReplace.{eqb_other}
use Rattle.pl_model.proofs.UnifyTurns.{solve-open}
use Rattle.term_store.specs.declared.words.Word.{Word}
use Rattle.term_store.specs.declared.words.Word.TheVariants.{Var, Int, Atom, Comp}
use Rattle.term_store.specs.declared.words.Head.{Head}
use Rattle.term_store.specs.declared.words.Pair.{Pair}
use Rattle.term_store.specs.declared.words.Place.{Place}
use Rattle.term_store.specs.declared.block.Block.{Block}
use Rattle.term_store.specs.Blocks.{IsBlock, block_heap, part_of}
use Rattle.term_store.specs.Contents.{Contents}
use Rattle.term_store.specs.Entering.{BodyEntered, ClauseEntered, Comes, Entered, IsFacing, IsKnown, IsParts, Joined, Joins, Meets, Never, Turned, Turns, entered, faces, value}
use Rattle.term_store.specs.ArgumentKeys.{head_in}
use Rattle.term_store.specs.Heap.{Heap, atom_name, words_of, bindings, meaning}
use Rattle.term_store.specs.Fit.{IsIn, Fit, no_head}
use Rattle.term_store.specs.Nodes.{Gains, StandsFor}
use Rattle.term_store.specs.Unifying.{lefts, zip_words}
use Rattle.term_store.proofs.Copying.{part_inside, part_variable}
use Rattle.term_store.proofs.Entering.{enough, entered_bound, entered_new, never_clashes, never_same}
use Rattle.term_store.proofs.Equations.{bound-int, bound-atom}
use Rattle.term_store.proofs.Instances.{bound_all-more, instances-trees}
use Rattle.term_store.proofs.Knowing.{meets_none, meets_then}
use Rattle.term_store.proofs.Occurring.{words_inside}
use Rattle.term_store.proofs.Pairing.{lefts-append, lefts-zip, reverse-cons}
use Rattle.term_store.proofs.Planning.{IsOpened, is_opened, names-differ}
use Rattle.term_store.proofs.Turning.{length-words}
use Rattle.term_store.proofs.Weighing.{parts_lighter}

pub faces-append : (b : Block) (c : Heap) (from : ℕ) (known : List Word) (ps qs : List Pair) (ts : Trees)
    → faces b c from known (ps ++ qs) ts ≡ faces b c from known qs (faces b c from known ps ts)
faces-append b c from known [] qs ts = refl
faces-append b c from known (p ∷ ps) qs ts = faces-append b c from known ps qs (more (entered b c from known p.right) ts)

faces-zip : (b : Block) (c : Heap) (from : ℕ) (known : List Word) (vs ws : List Word) (us : Trees) → length vs ≡ length ws
    → faces b c from known (reverse (zip_words vs ws)) us ≡ join (trees (map (entered b c from known) ws)) us
faces-zip b c from known [] [] us e = refl
faces-zip b c from known [] (w ∷ ws) us e = cc
faces-zip b c from known (v ∷ vs) [] us e = cc
faces-zip b c from known (v ∷ vs) (w ∷ ws) us e =
    let e' : length vs ≡ length ws = cc in
    ap (λ ps. faces b c from known ps us) (reverse-cons (record { left = v; right = w }) (zip_words vs ws))
    ∙ faces-append b c from known (reverse (zip_words vs ws)) (record { left = v; right = w } ∷ []) us
    ∙ ap (more (entered b c from known w)) (faces-zip b c from known vs ws us e')

facing-zip : (c : Heap) (b : Block) (vs ws : List Word) → All (IsIn c) vs → All (IsIn (block_heap b)) ws → All (IsFacing c b) (reverse (zip_words vs ws))
facing-zip c b [] ws l r = All-nil (IsFacing c b)
facing-zip c b (v ∷ vs) [] l r = All-nil (IsFacing c b)
facing-zip c b (v ∷ vs) (w ∷ ws) l r =
    subst (λ ps. All (IsFacing c b) ps) (sym (reverse-cons (record { left = v; right = w }) (zip_words vs ws)))
    (All-push (IsFacing c b) (reverse (zip_words vs ws)) (record { left = v; right = w })
    (facing-zip c b vs ws (All-tail (IsIn c) v vs l) (All-tail (IsIn (block_heap b)) w ws r))
    (All-head (IsIn c) v vs l, All-head (IsIn (block_heap b)) w ws r))

-- What is left has the bindings in it.
lefts_bound : (b : Block) (c : Heap) (from : ℕ) (known : List Word) (made : Bindings) (d : Heap) (after : List Word) (ps : List Pair) (ts : Trees)
    → Meets c from known made d after → All (IsFacing c b) ps → bound_all made (lefts c ps ts) ≡ lefts d ps (bound_all made ts)
lefts_bound b c from known made d after [] ts m all = refl
lefts_bound b c from known made d after (p ∷ ps) ts m all =
    lefts_bound b c from known made d after ps (more (meaning c p.left) ts) m (All-tail (IsFacing c b) p ps all)
    ∙ ap (lefts d ps)
    (bound_all-more made (meaning c p.left) ts
    ∙ ap (λ t. more t (bound_all made ts)) (sym (m.binds p.left (All-head (IsFacing c b) p ps all).0)))

faces_bound : (b : Block) (c : Heap) (from : ℕ) (known : List Word) (made : Bindings) (d : Heap) (after : List Word) (ps : List Pair) (ts : Trees)
    → Meets c from known made d after → bound_all made (faces b c from known ps ts) ≡ faces b d from after ps (bound_all made ts)
faces_bound b c from known made d after [] ts m = refl
faces_bound b c from known made d after (p ∷ ps) ts m =
    faces_bound b c from known made d after ps (more (entered b c from known p.right) ts) m
    ∙ ap (faces b d from after ps)
    (bound_all-more made (entered b c from known p.right) ts
    ∙ ap (λ t. more t (bound_all made ts)) (sym (entered_bound b c from known made d after p.right m)))

-- A word and a part that were made the same leave the stack as it is.
pub turned_joined : (b : Block) (c : Heap) (from : ℕ) (known : List Word) (w p : Word) (ps : List Pair) (d : Heap) (after : List Word)
    → length after ≤ b.variables → Joined c from known w (entered b c from known p) d after → Turned b c from known w p ps d after ps
turned_joined b c from known w p ps d after few j =
    record {
      made = j.made;
      meets = j.meets;
      known_after = j.known_after;
      few = few;
      gained = [];
      pushed = append-none ps;
      inside = All-nil (IsFacing d b);
      lighter = omega arith;
      comes = j.comes;
    }
  where
    append-none : (xs : List Pair) → xs ≡ xs ++ []
    append-none [] = refl
    append-none (x ∷ xs) = ap (λ ys. x ∷ ys) (append-none xs)

pub turns_joined : (r : Bool) (b : Block) (c : Heap) (from : ℕ) (known : List Word) (w v : Word) (u : Tree) (p : Word) (ps : List Pair) (d : Heap) (after : List Word)
    → (r ≡ true → length after ≤ b.variables) → meaning c v ≡ meaning c w → u ≡ entered b c from known p → Joins r c from known v u d after
    → Turns r b c from known w p ps d after ps
turns_joined true b c from known w v u p ps d after few left right j =
    turned_joined b c from known w p ps d after (few refl)
    (record {
      made = j.made;
      meets = j.meets;
      known_after = j.known_after;
      comes = λ ts us.
          let k = j.comes ts us in
          record {
            turns = k.turns;
            same = λ n bs. ap₂ (λ x y. solve (k.turns + n) bs (more x ts) (more y us)) (sym left) (sym right) ∙ k.same n bs;
          };
    })
turns_joined false b c from known w v u p ps d after few left right never =
    λ ts us n bs. ap₂ (λ x y. solve n bs (more x ts) (more y us)) (sym left) (sym right) ∙ never ts us n bs

-- A compound term of the heap and one of the block.
module _ (b : Block) (block : IsBlock b) (c : Heap) (fit : Fit c) (from : ℕ) (known : List Word) (l k : ℕ) (inside : l < length c.heads) (part : k < length b.heads.items)
    (left right : Head) (at_left : left ≡ get_or c.heads l no_head) (at_right : right ≡ get_or b.heads.items k no_head) where
  left_open : IsOpened c l
  left_open = is_opened c l fit inside

  right_open : IsOpened (block_heap b) k
  right_open = is_opened (block_heap b) k block.fit part

  left_name : left.name ≡ left_open.name
  left_name = ap (λ g. g.name) at_left ∙ left_open.named

  right_name : right.name ≡ right_open.name
  right_name = ap (λ g. g.name) at_right ∙ right_open.named

  left_count : left.count ≡ suc (length left_open.others)
  left_count = ap (λ g. g.count) at_left ∙ sym (length-words c l fit inside) ∙ ap length left_open.words

  right_count : right.count ≡ suc (length right_open.others)
  right_count = ap (λ g. g.count) at_right ∙ sym (length-words (block_heap b) k block.fit part) ∙ ap length right_open.words

  abbrev σ : ℕ → Tree
  σ = value c from known

  map-parts : (ws : List Word) → map (instance σ) (map (part_of b) ws) ≡ map (entered b c from known) ws
  map-parts [] = refl
  map-parts (w ∷ ws) = ap (λ ts. entered b c from known w ∷ ts) (map-parts ws)

  right_means : entered b c from known (Comp k)
      ≡ comp (atom_name right_open.name) (entered b c from known right_open.first) (trees (map (entered b c from known) right_open.others))
  right_means =
      ap (instance σ) right_open.means
      ∙ ap (comp (atom_name right_open.name) (entered b c from known right_open.first))
      (instances-trees σ (map (part_of b) right_open.others) ∙ ap trees (map-parts right_open.others))

  and-false : (q : Bool) → (q && false) ≡ false
  and-false true = refl
  and-false false = refl

  abbrev ts : Trees
  ts = trees (map (meaning c) left_open.others)

  abbrev us : Trees
  us = trees (map (entered b c from known) right_open.others)

  pub names_never : left.name ≢ right.name → Never (meaning c (Comp l)) (entered b c from known (Comp k))
  names_never ne =
      never_clashes (meaning c (Comp l)) (entered b c from known (Comp k))
      (ap₂ difference left_open.means right_means
      ∙ ap (λ q. cond (q && (count ts == count us)) (or_later (difference (meaning c left_open.first) (entered b c from known right_open.first)) (differences ts us)) clash)
      (names-differ left_open.name right_open.name (eqb_other left_open.name right_open.name (λ s. ne (left_name ∙ s ∙ sym right_name)))))

  count_left : count ts ≡ length left_open.others
  count_left = count-trees (map (meaning c) left_open.others) ∙ length-map left_open.others (meaning c)

  count_right : count us ≡ length right_open.others
  count_right = count-trees (map (entered b c from known) right_open.others) ∙ length-map right_open.others (entered b c from known)

  pub counts_never : left.count ≢ right.count → Never (meaning c (Comp l)) (entered b c from known (Comp k))
  counts_never ne =
      never_clashes (meaning c (Comp l)) (entered b c from known (Comp k))
      (ap₂ difference left_open.means right_means
      ∙ ap (λ q. cond (bytes_eq (atom_name left_open.name) (atom_name right_open.name) && q)
      (or_later (difference (meaning c left_open.first) (entered b c from known right_open.first)) (differences ts us)) clash)
      (eqb_other (count ts) (count us) (λ s. ne (left_count ∙ ap suc (sym count_left ∙ s ∙ count_right) ∙ sym right_count)))
      ∙ ap (λ q. cond q (or_later (difference (meaning c left_open.first) (entered b c from known right_open.first)) (differences ts us)) clash)
      (and-false (bytes_eq (atom_name left_open.name) (atom_name right_open.name))))

  abbrev vs : List Word
  vs = left_open.first ∷ left_open.others

  abbrev ws : List Word
  ws = right_open.first ∷ right_open.others

  left_words : take left.count (drop left.start c.args) ≡ vs
  left_words = ap (words_of c.args) at_left ∙ left_open.words

  right_words : left.count ≡ right.count → take left.count (drop right.start b.args.items) ≡ ws
  right_words e = ap (λ n. take n (drop right.start b.args.items)) e ∙ ap (words_of b.args.items) at_right ∙ right_open.words

  pub left_some : 0 < left.count
  left_some = subst (λ g. 0 < g.count) (sym at_left) (fit.heads l inside).some

  pub left_within : left.start + left.count ≤ length c.args
  left_within = subst (λ g. g.start + g.count ≤ length c.args) (sym at_left) (fit.heads l inside).within

  pub right_within : right.start + right.count ≤ length b.args.items
  right_within = subst (λ g. g.start + g.count ≤ length b.args.items) (sym at_right) (block.fit.heads k part).within

  pub part_opens : (ps qs : List Pair) → IsKnown c from known → length known ≤ b.variables → left.name ≡ right.name → left.count ≡ right.count
      → qs ≡ ps ++ reverse (zip_words (take left.count (drop left.start c.args)) (take left.count (drop right.start b.args.items)))
      → Turned b c from known (Comp l) (Comp k) ps c known qs
  part_opens ps qs known_is few names counts e =
      record {
        made = [];
        meets = meets_none c from known;
        known_after = known_is;
        few = few;
        gained = reverse (zip_words vs ws);
        pushed = e ∙ ap₂ (λ xs ys. ps ++ reverse (zip_words xs ys)) left_words (right_words counts);
        inside =
            facing-zip c b vs ws (subst (λ xs. All (IsIn c) xs) left_open.words (words_inside c l fit inside))
            (subst (λ xs. All (IsIn (block_heap b)) xs) right_open.words (words_inside (block_heap b) k block.fit part));
        lighter = parts_lighter b vs k (atom_name right_open.name) right_open.first right_open.others same_length right_open.means;
        comes = λ as₁ bs₁.
            record {
              turns = zero;
              same = λ n bs.
                  ap (λ m. solve m bs (more (meaning c (Comp l)) as₁) (more (entered b c from known (Comp k)) bs₁)) (zero_plus n)
                  ∙ ap₂ (λ x y. solve n bs (more x as₁) (more y bs₁))
                  (left_open.means ∙ ap (λ a. comp (atom_name a) (meaning c left_open.first) ts) (sym left_name ∙ names ∙ right_name)) right_means
                  ∙ solve-open n bs (atom_name right_open.name) (meaning c left_open.first) (entered b c from known right_open.first) ts us as₁ bs₁
                  (count_left ∙ same_others ∙ sym count_right)
                  ∙ ap₂ (solve n bs) (sym (lefts-zip c vs ws as₁ same_length)) (sym (faces-zip b c from known vs ws bs₁ same_length))
                  ∙ ap (λ cs. solve n cs (lefts c (reverse (zip_words vs ws)) as₁) (faces b c from known (reverse (zip_words vs ws)) bs₁)) (none_more bs);
            };
      }
    where
      zero_plus : (n : ℕ) → zero + n ≡ n
      zero_plus n = omega arith

      none_more : (bs : Bindings) → bs ≡ bs ++ []
      none_more [] = refl
      none_more (x ∷ xs) = ap (λ ys. x ∷ ys) (none_more xs)

      suc_same : (i j : ℕ) → suc i ≡ suc j → i ≡ j
      suc_same i j e = omega arith

      same_others : length left_open.others ≡ length right_open.others
      same_others = suc_same (length left_open.others) (length right_open.others) (sym left_count ∙ counts ∙ right_count)

      same_length : length vs ≡ length ws
      same_length = ap suc same_others

-- What was reached from a goal and a head: what is left is on the stack.
pub record Reached (b : Block) (c : Heap) (from : ℕ) (goal head : Word) (d : Heap) (known : List Word) (ps : List Pair) : Type 0 where
  pub made : Bindings
  pub meets : Meets c from [] made d known
  pub known_after : IsKnown d from known
  pub few : length known ≤ b.variables
  pub facing : All (IsFacing d b) ps
  pub comes : Comes (more (meaning c goal) none) (more (entered b c from [] head) none) made (lefts d ps none) (faces b d from known ps none)

pub reached_start : (b : Block) (c : Heap) (from : ℕ) (p : Pair) (known : List Word) (ps : List Pair) → known ≡ [] → ps ≡ p ∷ [] → IsKnown c from []
    → IsFacing c b p → Reached b c from p.left p.right c known ps
reached_start b c from p known ps none_known one known_is facing =
    subst (λ ks. Reached b c from p.left p.right c ks ps) (sym none_known)
    (subst (λ qs. Reached b c from p.left p.right c [] qs) (sym one)
    (record {
      made = [];
      meets = meets_none c from [];
      known_after = known_is;
      few = omega arith;
      facing = All-push (IsFacing c b) [] p (All-nil (IsFacing c b)) facing;
      comes =
          record {
            turns = zero;
            same = λ n bs.
                ap (λ m. solve m bs (more (meaning c p.left) none) (more (entered b c from [] p.right) none)) (zero_plus n)
                ∙ ap (λ cs. solve n cs (more (meaning c p.left) none) (more (entered b c from [] p.right) none)) (none_more bs);
          };
    }))
  where
    zero_plus : (n : ℕ) → zero + n ≡ n
    zero_plus n = omega arith

    none_more : (bs : Bindings) → bs ≡ bs ++ []
    none_more [] = refl
    none_more (x ∷ xs) = ap (λ ys. x ∷ ys) (none_more xs)

-- The last pair of the stack is in front of the others.
in_front : (b : Block) (d : Heap) (from : ℕ) (known : List Word) (made : Bindings) (ps rs : List Pair) (p : Pair) (n : ℕ) → rs ≡ ps ++ p ∷ []
    → solve n made (lefts d rs none) (faces b d from known rs none)
    ≡ solve n made (more (meaning d p.left) (lefts d ps none)) (more (entered b d from known p.right) (faces b d from known ps none))
in_front b d from known made ps rs p n e =
    ap (λ qs. solve n made (lefts d qs none) (faces b d from known qs none)) e
    ∙ ap₂ (solve n made) (lefts-append d ps (p ∷ []) none) (faces-append b d from known ps (p ∷ []) none)

pub reached_more : (b : Block) (c : Heap) (from : ℕ) (goal head : Word) (d : Heap) (known : List Word) (ps rs : List Pair) (p : Pair) (e : Heap) (after : List Word)
    (qs : List Pair) → Reached b c from goal head d known rs → rs ≡ ps ++ p ∷ [] → All (IsFacing d b) ps → Turned b d from known p.left p.right ps e after qs
    → Reached b c from goal head e after qs
reached_more b c from goal head d known ps rs p e after qs r split facing t =
    record {
      made = r.made ++ t.made;
      meets = meets_then c from [] r.made d known t.made e after r.meets t.meets;
      known_after = t.known_after;
      few = t.few;
      facing =
          subst (λ xs. All (IsFacing e b) xs) (sym t.pushed)
          (All-append (IsFacing e b) ps t.gained
          (All-weaker (IsFacing d b) (IsFacing e b) (λ q f. (t.meets.inside q.left f.0, f.1)) ps facing) t.inside);
      comes =
          record {
            turns = r.comes.turns + k.turns;
            same = λ n bs.
                ap (λ m. solve m bs (more (meaning c goal) none) (more (entered b c from [] head) none)) (regroup r.comes.turns k.turns n)
                ∙ r.comes.same (k.turns + n) bs
                ∙ in_front b d from known (bs ++ r.made) ps rs p (k.turns + n) split
                ∙ k.same n (bs ++ r.made)
                ∙ ap₂ (solve n ((bs ++ r.made) ++ t.made))
                (ap (lefts e t.gained) (lefts_bound b d from known t.made e after ps none t.meets facing ∙ ap (lefts e ps) (none_bound t.made))
                ∙ sym (lefts-append e ps t.gained none) ∙ ap (λ xs. lefts e xs none) (sym t.pushed))
                (ap (faces b e from after t.gained) (faces_bound b d from known t.made e after ps none t.meets ∙ ap (faces b e from after ps) (none_bound t.made))
                ∙ sym (faces-append b e from after ps t.gained none) ∙ ap (λ xs. faces b e from after xs none) (sym t.pushed))
                ∙ ap (λ cs. solve n cs (lefts e qs none) (faces b e from after qs none)) (append_assoc bs r.made t.made);
          };
    }
  where
    k : Comes (more (meaning d p.left) (lefts d ps none)) (more (entered b d from known p.right) (faces b d from known ps none))
        t.made (lefts e t.gained (bound_all t.made (lefts d ps none))) (faces b e from after t.gained (bound_all t.made (faces b d from known ps none)))
    k = t.comes (lefts d ps none) (faces b d from known ps none)

    regroup : (i j n : ℕ) → (i + j) + n ≡ i + (j + n)
    regroup i j n = omega arith

    none_bound : (bs : Bindings) → bound_all bs none ≡ none
    none_bound [] = refl
    none_bound (x ∷ xs) = none_bound xs

pub reached_all : (b : Block) (c : Heap) (from : ℕ) (goal head : Word) (d : Heap) (known : List Word) (ps : List Pair) → Reached b c from goal head d known ps
    → ps ≡ [] → Entered b c from goal head d known
reached_all b c from goal head d known ps r e =
    let t : Tree = meaning c goal in
    let u : Tree = entered b c from [] head in
    let n : ℕ = length (occurrences_all (more t none)) + length (occurrences_all (more u none)) in
    record {
      made = r.made;
      unifies =
          ap (unify (meaning c goal)) (sym (entered_new b c from head))
          ∙ sym (enough t u (r.comes.turns + suc n) (omega arith))
          ∙ r.comes.same (suc n) []
          ∙ ap (λ qs. solve (suc n) r.made (lefts d qs none) (faces b d from known qs none)) e;
      meets = r.meets;
      known_after = r.known_after;
      few = r.few;
    }

pub reached_never : (b : Block) (c : Heap) (from : ℕ) (goal head : Word) (d : Heap) (known : List Word) (ps rs : List Pair) (p : Pair)
    → Reached b c from goal head d known rs → rs ≡ ps ++ p ∷ [] → Never (meaning d p.left) (entered b d from known p.right)
    → unify (meaning c goal) (rename_by (λ x. from + x) (part_of b head)) ≡ None
reached_never b c from goal head d known ps rs p r split never =
    let t : Tree = meaning c goal in
    let u : Tree = entered b c from [] head in
    let n : ℕ = length (occurrences_all (more t none)) + length (occurrences_all (more u none)) in
    ap (unify (meaning c goal)) (sym (entered_new b c from head))
    ∙ sym (enough t u (r.comes.turns + suc n) (omega arith))
    ∙ r.comes.same (suc n) []
    ∙ in_front b d from known r.made ps rs p (suc n) split
    ∙ never (lefts d ps none) (faces b d from known ps none) (suc n) r.made

-- The body is made once the head was met.
pub body_entered : (b : Block) (c : Heap) (from : ℕ) (goal head body : Word) (d : Heap) (known : List Word) (e : Heap) (after : List Word) (f : Heap) (w : Word)
    → IsParts b head body → Entered b c from goal head d known → Meets d from known [] e after → Fit e → IsKnown e from after → length after ≤ b.variables
    → Gains e f → StandsFor f (entered b e from after body) w → BodyEntered b c from goal w f
body_entered b c from goal head body d known e after f w parts entered_head m fit known_is few gains s =
    record {
      made = entered_head.made;
      unifies = ap (λ t. unify (meaning c goal) (rename_by (λ x. from + x) t)) (sym parts.head_is) ∙ entered_head.unifies;
      inside = λ v inside. gains.keeps.inside v (to_e.inside v inside);
      binds = λ v inside.
          gains.keeps.means v (to_e.inside v inside) ∙ to_e.binds v inside ∙ ap (λ bs. bound bs (meaning c v)) (none_more entered_head.made);
      body_inside = s.inside;
      body_is =
          s.means ∙ entered_bound b c from [] (entered_head.made ++ []) e after body to_e
          ∙ ap (λ bs. bound bs (entered b c from [] body)) (none_more entered_head.made)
          ∙ ap (bound entered_head.made) (entered_new b c from body ∙ ap (rename_by (λ x. from + x)) parts.body_is);
      below =
          subst (λ ns. All (λ m. m < from + b.variables) ns) (sym gains.numbers)
          (All-weaker (λ m. m < from + length after) (λ m. m < from + b.variables) (λ m lt. omega arith) e.numbers known_is.below);
    }
  where
    none_more : (bs : Bindings) → bs ++ [] ≡ bs
    none_more [] = refl
    none_more (x ∷ xs) = ap (λ ys. x ∷ ys) (none_more xs)

    to_e : Meets c from [] (entered_head.made ++ []) e after
    to_e = meets_then c from [] entered_head.made d known [] e after entered_head.meets m

-- What callers see.
pub clause_entered : (b : Block) (s s' t : Contents) (goal : Place) (from : ℕ) (word : Word) → s' ≡ s → BodyEntered b s'.heap from goal.word word t.heap
    → ClauseEntered s goal from (part_of b b.root) (Some (record { word = word })) t
clause_entered b s s' t goal from word e r =
    subst (λ v. ClauseEntered v goal from (part_of b b.root) (Some (record { word = word })) t) e
    (r.made, (r.unifies, ((λ p held. r.binds p.word held), (r.body_inside, r.body_is))))

pub clause_refused : (b : Block) (s s' t : Contents) (goal : Place) (from : ℕ) → s' ≡ s
    → unify (meaning s'.heap goal.word) (rename_by (λ x. from + x) (head_in (part_of b b.root))) ≡ None → t ≡ s
    → ClauseEntered s goal from (part_of b b.root) None t
clause_refused b s s' t goal from e none_unifies back =
    subst (λ v. ClauseEntered v goal from (part_of b b.root) None t) e (none_unifies, back ∙ sym e)

-- A step by what it answers.
pub turns_if : {E : Type 0} (res : Result Bool E) (b : Block) (c : Heap) (from : ℕ) (known : List Word) (w v : Word) (u : Tree) (p : Word) (ps : List Pair) (d : Heap)
    (after : List Word) (A : Type 0) → (A → length after ≤ b.variables) → meaning c v ≡ meaning c w → u ≡ entered b c from known p → OnOk res A
    → IfOk res (λ r. Joins r c from known v u d after) → IfOk res (λ r. Turns r b c from known w p ps d after ps)
turns_if (Ok r) b c from known w v u p ps d after A few left right a j = turns_joined r b c from known w v u p ps d after (λ _. few a) left right j
turns_if (Err x) b c from known w v u p ps d after A few left right a j = tt

pub turns_same : (r : Bool) (b : Block) (c : Heap) (from : ℕ) (known : List Word) (v w p q : Word) (ps : List Pair) (d : Heap) (after : List Word) (qs : List Pair)
    → meaning c v ≡ meaning c w → p ≡ q → Turns r b c from known v p ps d after qs → Turns r b c from known w q ps d after qs
turns_same true b c from known v w p q ps d after qs left right t =
    subst (λ x. Turned b c from known w x ps d after qs) right
    (record {
      made = t.made;
      meets = t.meets;
      known_after = t.known_after;
      few = t.few;
      gained = t.gained;
      pushed = t.pushed;
      inside = t.inside;
      lighter = t.lighter;
      comes = λ ts us.
          let k = t.comes ts us in
          record { turns = k.turns; same = λ n bs. ap (λ x. solve (k.turns + n) bs (more x ts) (more (entered b c from known p) us)) (sym left) ∙ k.same n bs };
    })
turns_same false b c from known v w p q ps d after qs left right never =
    λ ts us n bs. ap₂ (λ x y. solve n bs (more x ts) (more (entered b c from known y) us)) (sym left) (sym right) ∙ never ts us n bs

-- A constant of the heap against a compound term of the block.
pub constant_never : (b : Block) → IsBlock b → (c : Heap) (from : ℕ) (known : List Word) (a w : Word) (k : ℕ) (p : Word) → k < length b.heads.items
    → ((i : ℕ) → a ≢ Var i) → ((i : ℕ) → a ≢ Comp i) → meaning c a ≡ meaning c w → p ≡ Comp k → Never (meaning c w) (entered b c from known p)
constant_never b block c from known a w k p inside no_variable no_compound left right =
    never_same (meaning c a) (entered b c from known (Comp k)) (meaning c w) (entered b c from known p) left (ap (entered b c from known) (sym right))
    (never_clashes (meaning c a) (entered b c from known (Comp k)) (go a refl))
  where
    q : IsOpened (block_heap b) k
    q = is_opened (block_heap b) k block.fit inside

    go : (x : Word) → a ≡ x → difference (meaning c a) (entered b c from known (Comp k)) ≡ clash
    go (Var i) e = absurd (no_variable i e)
    go (Comp i) e = absurd (no_compound i e)
    go (Int n) e = ap₂ difference (ap (meaning c) e ∙ bound-int (bindings c) n) (ap (instance (value c from known)) q.means)
    go (Atom n) e = ap₂ difference (ap (meaning c) e ∙ bound-atom (bindings c) (atom_name n)) (ap (instance (value c from known)) q.means)

-- A variable of the block.
pub variable_value : (b : Block) (c : Heap) (from : ℕ) (known : List Word) (x : ℕ) (p : Word) → IsIn (block_heap b) p → p ≡ Var x
    → value c from known x ≡ entered b c from known p
variable_value b c from known x p inside e =
    sym (ap (instance (value c from known)) (ap (part_of b) e ∙ part_variable b x (part_inside b x (subst (IsIn (block_heap b)) e inside))))
