-- Words and parts of a clause that are made the same, as turns of unification.
use Rattle.std.proofs.Common.{◌≡◌, ◌≢◌, ℕ, zero, suc, ◌+◌, ◌<◌, ◌≤◌, Bool, true, false, cond, ◌||◌, ◌==◌, List, [], ◌∷◌, ◌++◌, length, get_or, pos, Some, None, refl, sym, ap, ap₂, subst, ◌∙◌, arith, length-append}
use Rattle.std.specs.Ordering.{int_eq}
use Rattle.std.proofs.lemmas.Bool.{false≢true}
use Rattle.std.proofs.lemmas.List.{get_or_append_left}
use Rattle.std.proofs.lemmas.Bool.Decides.{Decides-ltb}
use Rattle.pl_term.specs.Tree.{Tree, Trees, var, int, atom, comp, none, more}
use Rattle.pl_term.specs.Variables.{has, is_in, occurrences, occurrences_all, replace, replace_all, rename_by}
use Rattle.pl_model.specs.Unify.{Bindings, bound_variables, bound, bound_all, same, clash, binds, difference, solve, unify, instance}
use Rattle.pl_model.proofs.UnifyEnough.{turns_enough}
use Rattle.pl_model.proofs.UnifyReplace.{absent_both, eqb_same, eqb_other, replace-absent}
use Rattle.pl_model.proofs.UnifySolved.{solved}
use Rattle.pl_model.proofs.UnifyTurns.{solve-clash, solve-occurs, solve-binds}
use Rattle.term_store.specs.declared.words.Word.{Word}
use Rattle.term_store.specs.declared.words.Word.TheVariants.{Var, Int, Atom, Comp}
use Rattle.term_store.specs.declared.words.Plan.{Plan}
use Rattle.term_store.specs.declared.words.Plan.TheVariants.{Same, Clash, Bind, Open}
use Rattle.term_store.specs.declared.block.Block.{Block}
use Rattle.term_store.specs.Blocks.{block_heap, part_of}
use Rattle.term_store.specs.Cells.{IsFree}
use Rattle.term_store.specs.Heap.{Heap, atom_name, bindings, meaning, numbered, find, pushed}
use Rattle.term_store.specs.Fit.{IsIn, Below, Fit}
use Rattle.term_store.specs.Making.{Longer}
use Rattle.term_store.specs.Nodes.{Gains, StandsFor}
use Rattle.term_store.specs.Unifying.{Grown, Solves, Unifies, plan_of}
use Rattle.term_store.specs.Entering.{Comes, IsConstant, IsKnown, Joined, Joins, Meets, Never, entered, value}
use Rattle.term_store.proofs.Instances.{Agrees, Front, agrees_same, bound_instance, front_first, instance_new, instance_same, never_unified}
use Rattle.term_store.proofs.Knowing.{fresh, fresh_below, known_more, known_same, meets_bound, meets_first, meets_longer, meets_none, meets_pushed, meets_then, unbound, value_known, value_new}
use Rattle.term_store.proofs.Equations.{bound-int, bound-atom, unnamed}
use Rattle.term_store.proofs.Planning.{Facing, Planned, planned}

-- Enough turns.
pub enough : (a b : Tree) (k : ℕ) → length (occurrences_all (more a none)) + length (occurrences_all (more b none)) < k
    → solve k [] (more a none) (more b none) ≡ unify a b
unfolding unify
enough a b k lt = turns_enough k [] (more a none) (more b none) lt

pub agrees_binds : (t u : Tree) (x : ℕ) (s : Tree) → difference t u ≡ binds x s → has x s ≡ false → replace x s t ≡ replace x s u → Agrees t u ((x, s) ∷ [])
agrees_binds t u x s d absent joins ts us =
    record {
      turns = 1;
      same = λ n bs. ap (λ m. solve m bs (more t ts) (more u us)) (one_more n) ∙ solve-binds n bs t u ts us x s d absent joins;
    }
  where
    one_more : (n : ℕ) → 1 + n ≡ suc n
    one_more n = omega arith

pub never_clashes : (t u : Tree) → difference t u ≡ clash → Never t u
never_clashes t u d ts us zero bs = refl
never_clashes t u d ts us (suc n) bs = solve-clash n bs t u ts us d

pub never_holds : (t u : Tree) (x : ℕ) (s : Tree) → difference t u ≡ binds x s → has x s ≡ true → Never t u
never_holds t u x s d held ts us zero bs = refl
never_holds t u x s d held ts us (suc n) bs = solve-occurs n bs t u ts us x s d held

pub never_same : (t u v w : Tree) → t ≡ v → u ≡ w → Never t u → Never v w
never_same t u v w e f never ts us n bs =
    ap₂ (λ a b. solve n bs (more a ts) (more b us)) (sym e) (sym f) ∙ never ts us n bs

pub comes_same : (t u v w : Tree) (ts us : Trees) (made : Bindings) (vs ws : Trees) → t ≡ v → u ≡ w → Comes (more t ts) (more u us) made vs ws
    → Comes (more v ts) (more w us) made vs ws
comes_same t u v w ts us made vs ws e f c =
    record {
      turns = c.turns;
      same = λ n bs. ap₂ (λ a b. solve (c.turns + n) bs (more a ts) (more b us)) (sym e) (sym f) ∙ c.same n bs;
    }

-- What a word of the block becomes.
pub entered_bound : (b : Block) (c : Heap) (from : ℕ) (known : List Word) (made : Bindings) (d : Heap) (after : List Word) (p : Word)
    → Meets c from known made d after → entered b d from after p ≡ bound made (entered b c from known p)
entered_bound b c from known made d after p m =
    instance_same (value d from after) (λ x. bound made (value c from known x)) m.values (part_of b p)
    ∙ sym (bound_instance made (value c from known) (part_of b p))

pub entered_new : (b : Block) (c : Heap) (from : ℕ) (p : Word) → entered b c from [] p ≡ rename_by (λ x. from + x) (part_of b p)
entered_new b c from p =
    instance_same (value c from []) (λ x. var (from + x)) (λ x. value_new c from [] x (none_less x)) (part_of b p) ∙ instance_new (λ x. from + x) (part_of b p)
  where
    none_less : (x : ℕ) → 0 ≤ x
    none_less x = omega arith

-- What was made before a word and a part are made the same.
pub prepared : (c : Heap) (from : ℕ) (known : List Word) (w : Word) (u : Tree) (d : Heap) (then : List Word) (v : Word) (s : Tree) (e : Heap) (after : List Word)
    → Meets c from known [] d then → meaning d v ≡ meaning c w → s ≡ u → Joined d from then v s e after → Joined c from known w u e after
prepared c from known w u d then v s e after m left right j =
    record {
      made = j.made;
      meets = meets_then c from known [] d then j.made e after m j.meets;
      known_after = j.known_after;
      comes = λ ts us. comes_same (meaning d v) s (meaning c w) u ts us j.made (bound_all j.made ts) (bound_all j.made us) left right (j.comes ts us);
    }

pub joined_same : (c : Heap) (from : ℕ) (known : List Word) (w : Word) (u : Tree) → IsKnown c from known → meaning c w ≡ u → Joined c from known w u c known
joined_same c from known w u known_is e =
    record { made = []; meets = meets_none c from known; known_after = known_is; comes = agrees_same (meaning c w) u e }

pub joined_pushed : (c : Heap) (from : ℕ) (known : List Word) (w : Word) (u : Tree) (i : ℕ) (v : Word) → IsKnown c from known → Facing c (meaning c w) u i v
    → has (numbered c i) (meaning c v) ≡ false → Joined c from known w u (pushed c i v) known
joined_pushed c from known w u i v known_is f absent =
    record {
      made = (numbered c i, meaning c v) ∷ [];
      meets = meets_pushed c from known i v known_is f.slot;
      known_after = known_same c (pushed c i v) from known known_is (λ x inside. inside) refl;
      comes = agrees_binds (meaning c w) u (numbered c i) (meaning c v) f.differs absent (f.joins absent);
    }

-- Against a variable of a greater number.
difference_above : (t : Tree) (z : ℕ) → ((y : ℕ) → t ≡ var y → y < z) → difference t (var z) ≡ binds z t
difference_above (var y) z h =
    let lt : y < z = h y refl in
    let ne : y ≢ z = λ s. absurd (omega arith) in
    ap₂ (λ p q. cond p same (cond q (binds z (var y)) (binds y (var z)))) (eqb_other y z ne) ((Decides-ltb y z).1 lt)
difference_above (int i) z h = refl
difference_above (atom a) z h = refl
difference_above (comp f t ts) z h = refl

-- A variable that was not met stands for the word.
pub joined_first : (c : Heap) (from : ℕ) (known : List Word) (w : Word) (x : ℕ) → Fit c → IsKnown c from known → IsIn c w → x ≡ length known
    → Joined c from known w (value c from known x) c (known ++ w ∷ [])
joined_first c from known w x fit known_is inside e =
    let k = length known in
    let t = meaning c w in
    let here : value c from known x ≡ var (from + k) = value_new c from known x (omega (arith, e)) ∙ ap (λ i. var (from + i)) e in
    let absent : has (from + k) t ≡ false = fresh c from known k w fit known_is (omega arith) inside in
    record {
      made = (from + k, t) ∷ [];
      meets = meets_first c from known w fit known_is inside;
      known_after = known_more c from known w known_is inside;
      comes = λ ts us.
          comes_same t (var (from + k)) t (value c from known x) ts us ((from + k, t) ∷ []) (replace_all (from + k) t ts) (replace_all (from + k) t us) refl (sym here)
          (agrees_binds t (var (from + k)) (from + k) t
          (difference_above t (from + k) (λ y is. fresh_below c from known w y fit known_is inside is)) absent
          (replace-absent t (from + k) t absent ∙ sym (ap (λ b. cond b t (var (from + k))) (eqb_same (from + k)))) ts us);
    }

grown_inside : (c d : Heap) → Grown c d → (w : Word) → IsIn c w → IsIn d w
grown_inside c d g w inside = subst (λ h. IsIn h w) (sym g.grown) inside

-- A variable that was met is unified as what it stands for.
pub joined_unified : (c : Heap) (from : ℕ) (known : List Word) (w : Word) (x : ℕ) (d : Heap) → Fit c → IsKnown c from known → IsIn c w → x < length known
    → Grown c d → Unifies c w (get_or known x (Int (pos 0))) d → Joined c from known w (value c from known x) d known
joined_unified c from known w x d fit known_is inside lt grown u =
    record {
      made = u.made;
      meets = meets_bound c from known u.made d known_is (grown_inside c d grown) u.binds (λ y le. unnamed (from + y) u.made (unbound (from + y) u.made (others y le)));
      known_after = known_same c d from known known_is (grown_inside c d grown) (ap (λ h. h.numbers) grown.grown);
      comes = λ ts us.
          comes_same (meaning c w) (meaning c (get_or known x (Int (pos 0)))) (meaning c w) (value c from known x) ts us u.made (bound_all u.made ts) (bound_all u.made us) refl
          (sym (value_known c from known x lt)) (subst (λ m. Agrees (meaning c w) (meaning c (get_or known x (Int (pos 0)))) m) (sym front.parts) front.agrees ts us);
    }
  where
    solves : solve (suc (u.turns + 0)) [] (more (meaning c w) none) (more (meaning c (get_or known x (Int (pos 0)))) none) ≡ Some u.made
    solves = u.solved 0

    front : Front [] u.made (meaning c w) (meaning c (get_or known x (Int (pos 0))))
    front = front_first (suc (u.turns + 0)) [] u.made (meaning c w) (meaning c (get_or known x (Int (pos 0)))) (u.solved 0)

    absent_of : (y : ℕ) → length known ≤ y → (v : Word) → IsIn c v → is_in (from + y) (occurrences_all (more (meaning c v) none)) ≡ false
    absent_of y le v is = absent_both (from + y) (occurrences (meaning c v)) [] (fresh c from known y v fit known_is le is) refl

    others : (y : ℕ) → length known ≤ y → is_in (from + y) (bound_variables u.made) ≡ false
    others y le = go (is_in (from + y) (bound_variables u.made)) refl
      where
        go : (q : Bool) → is_in (from + y) (bound_variables u.made) ≡ q → q ≡ false
        go false e = refl
        go true e =
            let s = solved (suc (u.turns + 0)) [] u.made (more (meaning c w) none) (more (meaning c (get_or known x (Int (pos 0)))) none) solves in
            let here : is_in (from + y) (bound_variables s.later) ≡ true = ap (λ bs. is_in (from + y) (bound_variables bs)) (sym s.parts) ∙ e in
            absurd (false≢true
            (sym (absent_both (from + y) (occurrences_all (more (meaning c w) none)) (occurrences_all (more (meaning c (get_or known x (Int (pos 0)))) none))
            (absent_of y le w inside) (absent_of y le (get_or known x (Int (pos 0))) (known_is.words x (Int (pos 0)) lt)))
            ∙ s.own (from + y) here))

pub never_solved : (c : Heap) (from : ℕ) (known : List Word) (w : Word) (x : ℕ) (d : Heap) → x < length known
    → Solves false c w (get_or known x (Int (pos 0))) d → Never (meaning c w) (value c from known x)
never_solved c from known w x d lt (turns, never) =
    let t = meaning c w in
    let u = meaning c (get_or known x (Int (pos 0))) in
    let n = length (occurrences_all (more t none)) + length (occurrences_all (more u none)) in
    never_same t u t (value c from known x) refl (sym (value_known c from known x lt))
    (never_unified t u (sym (enough t u (turns + suc n) (omega arith)) ∙ never (suc n)))

pub joins_solves : (r : Bool) (c : Heap) (from : ℕ) (known : List Word) (w : Word) (x : ℕ) (d : Heap) → Fit c → IsKnown c from known → IsIn c w → x < length known
    → Grown c d → Solves r c w (get_or known x (Int (pos 0))) d → Joins r c from known w (value c from known x) d known
joins_solves true c from known w x d fit known_is inside lt grown u = joined_unified c from known w x d fit known_is inside lt grown u
joins_solves false c from known w x d fit known_is inside lt grown u = never_solved c from known w x d lt u

-- A variable of the heap against a compound term of the block, which was made.
module _ (c : Heap) (from : ℕ) (known : List Word) (b : Block) (d : Heap) (then : List Word) (e : Heap) (slot k i : ℕ)
    (m : Meets c from known [] d then) (fit_then : Fit d) (known_is : IsKnown d from then) (gains : Gains d e) (fit : Fit e) (slot_in : slot < length e.numbers)
    (free : find slot e.trail ≡ None) (same_slot : meaning e (Var slot) ≡ meaning c (Var slot))
    (made : StandsFor e (entered b d from then (Comp k)) (Comp i)) where
  meets_made : Meets c from known [] e then
  meets_made = meets_then c from known [] d then [] e then m (meets_longer d from then e fit_then known_is gains.longer)

  known_made : IsKnown e from then
  known_made = known_same d e from then known_is gains.keeps.inside gains.numbers

  stands_for : meaning e (Comp i) ≡ entered b c from known (Comp k)
  stands_for = made.means ∙ entered_bound b c from known [] d then (Comp k) m

  facing : Facing e (meaning e (Var slot)) (meaning e (Comp i)) slot (Comp i)
  facing = planned e (Var slot) (Comp i) fit slot_in made.inside free tt

  pub written : has (numbered e slot) (meaning e (Comp i)) ≡ false
      → Joined c from known (Var slot) (entered b c from known (Comp k)) (pushed e slot (Comp i)) then
  written absent =
      prepared c from known (Var slot) (entered b c from known (Comp k)) e then (Var slot) (meaning e (Comp i)) (pushed e slot (Comp i)) then meets_made same_slot
      stands_for (joined_pushed e from then (Var slot) (meaning e (Comp i)) slot (Comp i) known_made facing absent)

  pub not_written : has (numbered e slot) (meaning e (Comp i)) ≡ true → Never (meaning c (Var slot)) (entered b c from known (Comp k))
  not_written held =
      never_same (meaning e (Var slot)) (meaning e (Comp i)) (meaning c (Var slot)) (entered b c from known (Comp k)) same_slot stands_for
      (never_holds (meaning e (Var slot)) (meaning e (Comp i)) (numbered e slot) (meaning e (Comp i)) facing.differs held)

-- What the plan says of a word and a constant.
pub bind_value : (a p : Word) (i : ℕ) (w : Word) → IsConstant p → plan_of a p ≡ Bind i w → w ≡ p
bind_value (Var j) (Int n) i w k e = cc
bind_value (Var j) (Atom b) i w k e = cc
bind_value (Int m) (Int n) i w k e = go (int_eq m n) e
  where
    go : (q : Bool) → cond q Same Clash ≡ Bind i w → w ≡ Int n
    go true e = cc
    go false e = cc
bind_value (Int m) (Atom b) i w k e = cc
bind_value (Atom a) (Int n) i w k e = cc
bind_value (Atom a) (Atom b) i w k e = go (a == b) e
  where
    go : (q : Bool) → cond q Same Clash ≡ Bind i w → w ≡ Atom b
    go true e = cc
    go false e = cc
bind_value (Comp j) (Int n) i w k e = cc
bind_value (Comp j) (Atom b) i w k e = cc
bind_value a (Var j) i w k e = absurd k
bind_value a (Comp j) i w k e = absurd k

pub no_open : (a p : Word) (i j : ℕ) → IsConstant p → plan_of a p ≡ Open i j → ⊥
no_open (Var j) (Int n) i w k e = cc
no_open (Var j) (Atom b) i w k e = cc
no_open (Int m) (Int n) i w k e = go (int_eq m n) e
  where
    go : (q : Bool) → cond q Same Clash ≡ Open i w → ⊥
    go true e = cc
    go false e = cc
no_open (Int m) (Atom b) i w k e = cc
no_open (Atom a) (Int n) i w k e = cc
no_open (Atom a) (Atom b) i w k e = go (a == b) e
  where
    go : (q : Bool) → cond q Same Clash ≡ Open i w → ⊥
    go true e = cc
    go false e = cc
no_open (Comp j) (Int n) i w k e = cc
no_open (Comp j) (Atom b) i w k e = cc
no_open a (Var j) i w k e = absurd k
no_open a (Comp j) i w k e = absurd k

pub constant_absent : (c : Heap) (x : ℕ) (p : Word) → IsConstant p → has x (meaning c p) ≡ false
constant_absent c x (Var j) k = absurd k
constant_absent c x (Int n) k = ap (has x) (bound-int (bindings c) n)
constant_absent c x (Atom a) k = ap (has x) (bound-atom (bindings c) (atom_name a))
constant_absent c x (Comp j) k = absurd k

pub constant_inside : (c : Heap) (p : Word) → IsConstant p → IsIn c p
constant_inside c (Var j) k = absurd k
constant_inside c (Int n) k = tt
constant_inside c (Atom a) k = tt
constant_inside c (Comp j) k = absurd k

pub constant_free : (c : Heap) (p : Word) → IsConstant p → IsFree c p
constant_free c (Var j) k = absurd k
constant_free c (Int n) k = tt
constant_free c (Atom a) k = tt
constant_free c (Comp j) k = absurd k

pub constant_planned : (c : Heap) (a p : Word) (q r : Plan) → Fit c → IsIn c a → IsFree c a → IsConstant p → q ≡ plan_of a p → q ≡ r → Planned c a p r
constant_planned c a p q r fit inside free k e f =
    subst (Planned c a p) (sym e ∙ f) (planned c a p fit inside (constant_inside c p k) free (constant_free c p k))

-- A constant of the block.
pub constant_entered : (b : Block) (c d : Heap) (from : ℕ) (known : List Word) (p : Word) → IsConstant p → meaning d p ≡ entered b c from known p
constant_entered b c d from known (Var x) k = absurd k
constant_entered b c d from known (Int i) k =
    bound-int (bindings d) i ∙ sym (ap (instance (value c from known)) (bound-int (bindings (block_heap b)) i))
constant_entered b c d from known (Atom a) k =
    bound-atom (bindings d) (atom_name a) ∙ sym (ap (instance (value c from known)) (bound-atom (bindings (block_heap b)) (atom_name a)))
constant_entered b c d from known (Comp j) k = absurd k

-- A slot of a heap that has gained variables and compound terms.
pub longer_free : (c d : Heap) (slot : ℕ) → Longer c d → find slot c.trail ≡ None → find slot d.trail ≡ None
longer_free c d slot l free = ap (λ h. find slot h.trail) l.longer ∙ free

pub longer_slot : (c d : Heap) (slot : ℕ) → Longer c d → slot < length c.numbers → slot < length d.numbers
longer_slot c d slot l lt = omega (arith, ap (λ h. length h.numbers) l.longer, length-append c.numbers l.numbers)

pub compound_below : (slot i : ℕ) (w : Word) → w ≡ Comp i → Below slot w
compound_below slot i w e = subst (Below slot) (sym e) tt

-- A variable that was made since does not stand for an older one.
pub new_absent : (h : Heap) (from : ℕ) (known : List Word) (d : Heap) (later : List Word) (e : Heap) (slot x : ℕ) → IsKnown h from known → Meets h from known [] d later
    → IsKnown d from later → Gains d e → Longer h e → slot < length h.numbers → length known ≤ x → x < length later
    → has (numbered e slot) (meaning e (get_or later x (Int (pos 0)))) ≡ false
new_absent h from known d later e slot x old m new gains longer lt le within =
    let w : Word = get_or later x (Int (pos 0)) in
    let means : meaning e w ≡ var (from + x) =
    gains.keeps.means w (new.words x (Int (pos 0)) within) ∙ sym (value_known d from later x within) ∙ m.values x ∙ value_new h from known x le in
    let same : numbered e slot ≡ numbered h slot =
    ap (λ g. numbered g slot) longer.longer ∙ get_or_append_left h.numbers longer.numbers 0 slot lt in
    let below : numbered h slot < from + length known = old.below slot 0 lt in
    ap₂ has same means ∙ ap (λ b. b || false) (eqb_other (numbered h slot) (from + x) (λ s. absurd (omega arith)))
