-- The stack of arguments that are still to be made the same.
use Rattle.std.proofs.Common.{◌≡◌, ◌≢◌, inl, inr, ℕ, zero, suc, ◌+◌, ◌-◌, ◌<◌, ◌≤◌, ◌==◌, Bool, true, false, cond, List, [], ◌∷◌, ◌++◌, length, get_or, reverse, take, drop, pos, Option, Some, None, Result, Ok, Err, IfOk, refl, sym, ap, ap₂, subst, ◌∙◌, arith, append-nil, append_assoc, length-append, length-drop}
use Rattle.std.specs.List.{All}
use Rattle.std.proofs.lemmas.Bool.{false≢true}
use Rattle.std.proofs.lemmas.Bool.Decides.{Decides-eqb}
use Rattle.std.proofs.lemmas.List.{drop-append-le, drop_more, take-append-le}
use Rattle.std.proofs.lemmas.List.Elements.{All-nil, All-head, All-tail, All-push, All-weaker}
use Rattle.pl_term.specs.Tree.{Tree}
use Rattle.term_store.specs.declared.words.Word.{Word}
use Rattle.term_store.specs.declared.words.Word.TheVariants.{Int, Comp}
use Rattle.term_store.specs.declared.words.Head.{Head}
use Rattle.term_store.specs.declared.words.Pair.{Pair}
use Rattle.term_store.specs.declared.words.Rest.{Rest}
use Rattle.term_store.specs.declared.block.Block.{Block}
use Rattle.term_store.specs.Blocks.{IsBlock}
use Rattle.term_store.specs.Entering.{Extends, IsFacing, IsKnown, Joins, Turned, Turns, entered, weight, weights}
use Rattle.term_store.specs.Fit.{Fit, no_head}
use Rattle.term_store.specs.Heap.{Heap, meaning}
use Rattle.term_store.specs.Rests.{AreRests, IsNext, IsRest, Opens, Stepped, Steps, no_rest, pair_at, pairs_of, rest_after, rest_pairs, stacked}
use Rattle.term_store.specs.Unifying.{zip_words}
use Rattle.term_store.proofs.Heading.{Reached, counts_never, left_within, names_never, part_opens, reached_more, right_within, turns_joined, turns_same}
use Rattle.term_store.proofs.Occurring.{popped}
use Rattle.term_store.proofs.Pairing.{reverse-cons}
use Rattle.term_store.proofs.Weighing.{weights-append}

pub pairs_of-append : (args parts : List Word) (rs ss : List Rest) → pairs_of args parts (rs ++ ss) ≡ pairs_of args parts rs ++ pairs_of args parts ss
pairs_of-append args parts [] ss = refl
pairs_of-append args parts (r ∷ rs) ss =
    ap (λ ps. rest_pairs args parts r ++ ps) (pairs_of-append args parts rs ss)
    ∙ sym (append_assoc (rest_pairs args parts r) (pairs_of args parts rs) (pairs_of args parts ss))

-- Words of the heap stay where they are.
words_stay : (n l : ℕ) (xs ys : List Word) → l + n ≤ length xs → take n (drop l (xs ++ ys)) ≡ take n (drop l xs)
words_stay n l xs ys within =
    ap (take n) (drop-append-le l xs ys (omega arith)) ∙ take-append-le n (drop l xs) ys (omega (arith, length-drop l xs))

rest_stays : (args more parts : List Word) (r : Rest) → r.left + r.count ≤ length args → rest_pairs (args ++ more) parts r ≡ rest_pairs args parts r
rest_stays args more parts r within =
    ap (λ vs. reverse (zip_words vs (take r.count (drop r.right parts)))) (words_stay r.count r.left args more within)

pairs_stay : (c : Heap) (b : Block) (more : List Word) (rs : List Rest) → All (IsRest c b) rs
    → pairs_of (c.args ++ more) b.args.items rs ≡ pairs_of c.args b.args.items rs
pairs_stay c b more [] all = refl
pairs_stay c b more (r ∷ rs) all =
    ap₂ (λ ps qs. ps ++ qs) (rest_stays c.args more b.args.items r (All-head (IsRest c b) r rs all).left)
    (pairs_stay c b more rs (All-tail (IsRest c b) r rs all))

args_grow : (c d : Heap) (g : Extends c d) → d.args ≡ c.args ++ g.args
args_grow c d g = ap (λ (h : Heap). h.args) g.extends

rest_grows : (c d : Heap) (b : Block) → Extends c d → (r : Rest) → IsRest c b r → IsRest d b r
rest_grows c d b g r i =
    let left = i.left in
    record {
      left = omega (arith, ap length (args_grow c d g), length-append c.args g.args);
      right = i.right;
    }

pub rests_grow : (c d : Heap) (b : Block) → Extends c d → (rs : List Rest) (r : Rest) → AreRests c b rs r → AreRests d b rs r
rests_grow c d b g rs r a =
    record {
      some = a.some;
      stack = All-weaker (IsRest c b) (IsRest d b) (rest_grows c d b g) rs a.stack;
      hand = rest_grows c d b g r a.hand;
    }

all_rests : (c : Heap) (b : Block) (rs : List Rest) (r : Rest) → AreRests c b rs r → All (IsRest c b) (rs ++ r ∷ [])
all_rests c b rs r a = All-push (IsRest c b) rs r a.stack a.hand

-- The first pair of a rest.
first_off : (n l r : ℕ) (args parts : List Word) → l < length args → r < length parts
    → reverse (zip_words (take (suc n) (drop l args)) (take (suc n) (drop r parts)))
    ≡ reverse (zip_words (take n (drop (l + 1) args)) (take n (drop (r + 1) parts)))
    ++ record { left = get_or args l (Int (pos 0)); right = get_or parts r (Int (pos 0)) } ∷ []
first_off n l r args parts left right =
    ap₂ (λ xs ys. reverse (zip_words (take (suc n) xs) (take (suc n) ys))) (drop_more args l (Int (pos 0)) left) (drop_more parts r (Int (pos 0)) right)
    ∙ reverse-cons (record { left = get_or args l (Int (pos 0)); right = get_or parts r (Int (pos 0)) })
    (zip_words (take n (drop (l + 1) args)) (take n (drop (r + 1) parts)))

-- The arguments in hand without the first ones.
pub hand_on : (c : Heap) (b : Block) (rs : List Rest) (r : Rest) → 0 < r.count → AreRests c b rs r → AreRests c b rs (rest_after r)
hand_on c b rs r some a =
    let left = a.hand.left in
    let right = a.hand.right in
    record { some = a.some; stack = a.stack; hand = record { left = omega arith; right = omega arith } }

-- Their first pair is the last one.
pub rest_off : (args parts : List Word) (rs : List Rest) (r : Rest) → 0 < r.count → r.left + r.count ≤ length args → r.right + r.count ≤ length parts
    → pairs_of args parts (rs ++ r ∷ []) ≡ pairs_of args parts (rs ++ rest_after r ∷ []) ++ pair_at args parts r ∷ []
rest_off args parts rs r some left right =
    let n = r.count - 1 in
    let count : r.count ≡ suc n = omega arith in
    let before = pairs_of args parts rs in
    let last = pair_at args parts r ∷ [] in
    pairs_of-append args parts rs (r ∷ [])
    ∙ ap (λ ps. before ++ ps)
    (append-nil (rest_pairs args parts r)
    ∙ ap (λ k. reverse (zip_words (take k (drop r.left args)) (take k (drop r.right parts)))) count
    ∙ first_off n r.left r.right args parts (omega arith) (omega arith))
    ∙ sym (append_assoc before (rest_pairs args parts (rest_after r)) last)
    ∙ ap (λ ps. ps ++ last)
    (ap (λ ps. before ++ ps) (sym (append-nil (rest_pairs args parts (rest_after r)))) ∙ sym (pairs_of-append args parts rs (rest_after r ∷ [])))

pub hand_off : (c : Heap) (b : Block) (rs : List Rest) (r : Rest) → 0 < r.count → AreRests c b rs r
    → pairs_of c.args b.args.items (rs ++ r ∷ []) ≡ pairs_of c.args b.args.items (rs ++ rest_after r ∷ []) ++ pair_at c.args b.args.items r ∷ []
hand_off c b rs r some a = rest_off c.args b.args.items rs r some a.hand.left a.hand.right

-- Arguments that are none.
pub none_off : (args parts : List Word) (rs : List Rest) (r : Rest) → r.count ≡ zero → pairs_of args parts (rs ++ r ∷ []) ≡ pairs_of args parts rs
none_off args parts rs r none =
    pairs_of-append args parts rs (r ∷ [])
    ∙ ap (λ k. pairs_of args parts rs ++ (reverse (zip_words (take k (drop r.left args)) (take k (drop r.right parts))) ++ [])) none
    ∙ append-nil (pairs_of args parts rs)

-- What is in hand and on the stack once the next ones were taken.
pub record Taken (c : Heap) (b : Block) (rs : List Rest) (r : Rest) (ss : List Rest) (n : Rest) : Type 0 where
  pub some : 0 < n.count
  pub kept : AreRests c b ss n
  pub pairs : pairs_of c.args b.args.items (rs ++ r ∷ []) ≡ pairs_of c.args b.args.items (ss ++ n ∷ [])

pub taken : (c : Heap) (b : Block) (rs : List Rest) (r : Rest) (ss : List Rest) (n : Rest) → AreRests c b rs r → IsNext (Some n) rs r ss → Taken c b rs r ss n
taken c b rs r ss n a (inl (some, (hand, stack))) =
    record {
      some = subst (λ (q : Rest). 0 < q.count) (sym hand) some;
      kept = subst (λ (q : Rest). AreRests c b ss q) (sym hand) (subst (λ xs. AreRests c b xs r) (sym stack) a);
      pairs = ap₂ (λ xs (q : Rest). pairs_of c.args b.args.items (xs ++ q ∷ [])) (sym stack) (sym hand);
    }
taken c b rs r ss n a (inr (none, split)) =
    let each = popped (λ (s : Rest). 0 < s.count) rs ss n split a.some in
    let all = popped (IsRest c b) rs ss n split a.stack in
    record {
      some = each.1;
      kept = record { some = each.0; stack = all.0; hand = all.1 };
      pairs = none_off c.args b.args.items rs r none ∙ ap (pairs_of c.args b.args.items) split;
    }

pub none_taken : (c : Heap) (b : Block) (rs : List Rest) (r : Rest) (ss : List Rest) → IsNext None rs r ss → pairs_of c.args b.args.items (rs ++ r ∷ []) ≡ []
none_taken c b rs r ss (none, empty) = none_off c.args b.args.items rs r none ∙ ap (pairs_of c.args b.args.items) empty

-- The pairs before the one that was met stand in front of those that it leaves.
turned_behind : (b : Block) (c : Heap) (from : ℕ) (known : List Word) (w p : Word) (ps : List Pair) (d : Heap) (after : List Word) (qs rs : List Pair)
    → Turned b c from known w p [] d after qs → rs ≡ ps ++ qs → Turned b c from known w p ps d after rs
turned_behind b c from known w p ps d after qs rs t e =
    record {
      made = t.made;
      meets = t.meets;
      known_after = t.known_after;
      few = t.few;
      gained = t.gained;
      pushed = e ∙ ap (λ xs. ps ++ xs) t.pushed;
      inside = t.inside;
      lighter = t.lighter;
      comes = t.comes;
    }

-- A word and a part that were made the same leave what is left as it is.
pub steps_joined : (r : Bool) (b : Block) (c : Heap) (from : ℕ) (known : List Word) (w p : Word) (rs : List Rest) (next : Rest) (d : Heap) (after : List Word)
    → Turns r b c from known w p [] d after [] → Steps (cond r (Some next) None) b c from known w p rs next d after rs
steps_joined true b c from known w p rs next d after t =
    let ps = pairs_of d.args b.args.items (rs ++ next ∷ []) in
    record { kept = λ a. a; turned = turned_behind b c from known w p ps d after [] ps t (sym (append-nil ps)) }
steps_joined false b c from known w p rs next d after never = never

-- The same, as a step that answers what is in hand then.
pub steps_met : (r : Bool) (q : Option Rest) (b : Block) (c : Heap) (from : ℕ) (known : List Word) (w v : Word) (u : Tree) (p : Word) (rs : List Rest) (next : Rest) (d : Heap)
    (after : List Word) → q ≡ cond r (Some next) None → length after ≤ b.variables → meaning c v ≡ meaning c w → u ≡ entered b c from known p
    → Joins r c from known v u d after → Steps q b c from known w p rs next d after rs
steps_met r q b c from known w v u p rs next d after e few left right j =
    subst (λ x. Steps x b c from known w p rs next d after rs) (sym e)
    (steps_joined r b c from known w p rs next d after (turns_joined r b c from known w v u p [] d after (λ _. few) left right j))

pub steps_same : (r : Option Rest) (b : Block) (c : Heap) (from : ℕ) (known : List Word) (v w p q : Word) (rs : List Rest) (next : Rest) (d : Heap) (after : List Word)
    (ss : List Rest) → meaning c v ≡ meaning c w → p ≡ q → Steps r b c from known v p rs next d after ss → Steps r b c from known w q rs next d after ss
steps_same (Some r) b c from known v w p q rs next d after ss left right s =
    record {
      kept = s.kept;
      turned =
          turns_same true b c from known v w p q (pairs_of d.args b.args.items (rs ++ next ∷ [])) d after (pairs_of d.args b.args.items (ss ++ r ∷ [])) left right s.turned;
    }
steps_same None b c from known v w p q rs next d after ss left right never = turns_same false b c from known v w p q [] d after [] left right never

pub steps_if : {E : Type 0} (res : Result (Option Rest) E) (b : Block) (c : Heap) (from : ℕ) (known : List Word) (v w p q : Word) (rs : List Rest) (next : Rest)
    (d : Heap) (after : List Word) (ss : List Rest) → meaning c v ≡ meaning c w → p ≡ q → IfOk res (λ r. Steps r b c from known v p rs next d after ss)
    → IfOk res (λ r. Steps r b c from known w q rs next d after ss)
steps_if (Ok r) b c from known v w p q rs next d after ss left right s = steps_same r b c from known v w p q rs next d after ss left right s
steps_if (Err e) b c from known v w p q rs next d after ss left right s = tt

-- The same, of a step that does not look at what stands for the clause's variables.
pub steps_if_any : {E : Type 0} (res : Result (Option Rest) E) (b : Block) (c : Heap) (from : ℕ) (known : List Word) (v w p q : Word) (rs : List Rest) (next : Rest)
    (d : Heap) (ss : List Rest) → meaning c v ≡ meaning c w → p ≡ q → IsKnown c from known → length known ≤ b.variables
    → IfOk res (λ r. (i : ℕ) (ks : List Word) → IsKnown c i ks → length ks ≤ b.variables → Steps r b c i ks v p rs next d ks ss)
    → IfOk res (λ r. Steps r b c from known w q rs next d known ss)
steps_if_any (Ok r) b c from known v w p q rs next d ss left right known_is few s =
    steps_same r b c from known v w p q rs next d known ss left right (s from known known_is few)
steps_if_any (Err e) b c from known v w p q rs next d ss left right known_is few s = tt

-- The stack with what was in hand.
pub stacked_pairs : (args parts : List Word) (rs : List Rest) (r : Rest) → pairs_of args parts (stacked rs r) ≡ pairs_of args parts (rs ++ r ∷ [])
stacked_pairs args parts rs r = go (r.count == zero) refl
  where
    go : (q : Bool) → (r.count == zero) ≡ q → pairs_of args parts (cond q rs (rs ++ r ∷ [])) ≡ pairs_of args parts (rs ++ r ∷ [])
    go true e = sym (none_off args parts rs r ((Decides-eqb r.count zero).0 e))
    go false e = refl

stacked_rests : (c : Heap) (b : Block) (rs : List Rest) (next r : Rest) → AreRests c b rs next → IsRest c b r → AreRests c b (stacked rs next) r
stacked_rests c b rs next r a i = go (next.count == zero) refl
  where
    go : (q : Bool) → (next.count == zero) ≡ q → AreRests c b (cond q rs (rs ++ next ∷ [])) r
    go true e = record { some = a.some; stack = a.stack; hand = i }
    go false e =
        let ne : next.count ≢ zero = λ k. false≢true (sym e ∙ (Decides-eqb next.count zero).1 k) in
        record {
          some = All-push (λ (s : Rest). 0 < s.count) rs next a.some (omega arith);
          stack = All-push (IsRest c b) rs next a.stack a.hand;
          hand = i;
        }

-- Two compound terms of the same name and number of arguments.
pub part_steps : (b : Block) (block : IsBlock b) (c : Heap) (fit : Fit c) (from : ℕ) (known : List Word) (l k : ℕ) (inside : l < length c.heads)
    (part : k < length b.heads.items) (left right : Head) (at_left : left ≡ get_or c.heads l no_head) (at_right : right ≡ get_or b.heads.items k no_head)
    (rs : List Rest) (next : Rest) (ss : List Rest) → IsKnown c from known → length known ≤ b.variables → left.name ≡ right.name → left.count ≡ right.count
    → ss ≡ stacked rs next
    → Stepped b c from known (Comp l) (Comp k) rs next c known ss (record { left = left.start; right = right.start; count = left.count })
part_steps b block c fit from known l k inside part left right at_left at_right rs next ss known_is few names counts e =
    let r : Rest = record { left = left.start; right = right.start; count = left.count } in
    let args = c.args in
    let parts = b.args.items in
    let one : IsRest c b r =
    record {
      left = left_within b block c fit from known l k inside part left right at_left at_right;
      right =
          subst (λ n. right.start + n ≤ length b.args.items) (sym counts)
          (right_within b block c fit from known l k inside part left right at_left at_right);
    } in
    record {
      kept = λ a. subst (λ xs. AreRests c b xs r) (sym e) (stacked_rests c b rs next r a one);
      turned =
          part_opens b block c fit from known l k inside part left right at_left at_right (pairs_of args parts (rs ++ next ∷ []))
          (pairs_of args parts (ss ++ r ∷ [])) known_is few names counts
          (ap (λ xs. pairs_of args parts (xs ++ r ∷ [])) e ∙ pairs_of-append args parts (stacked rs next) (r ∷ [])
          ∙ ap₂ (λ ps qs. ps ++ qs) (stacked_pairs args parts rs next) (append-nil (rest_pairs args parts r)));
    }

-- What two compound terms are opened to by their heads.
pub opens_steps : (q : Option Rest) (b : Block) (block : IsBlock b) (c : Heap) (fit : Fit c) (from : ℕ) (known : List Word) (l k : ℕ) (inside : l < length c.heads)
    (part : k < length b.heads.items) (left right : Head) (at_left : left ≡ get_or c.heads l no_head) (at_right : right ≡ get_or b.heads.items k no_head)
    (rs : List Rest) (next : Rest) (ss : List Rest) → IsKnown c from known → length known ≤ b.variables → Opens q left right rs next ss
    → Steps q b c from known (Comp l) (Comp k) rs next c known ss
opens_steps (Some r) b block c fit from known l k inside part left right at_left at_right rs next ss known_is few ((names, counts), (stack, is)) =
    subst (λ x. Stepped b c from known (Comp l) (Comp k) rs next c known ss x) (sym is)
    (part_steps b block c fit from known l k inside part left right at_left at_right rs next ss known_is few names counts stack)
opens_steps None b block c fit from known l k inside part left right at_left at_right rs next ss known_is few (inl names) =
    names_never b block c fit from known l k inside part left right at_left at_right names
opens_steps None b block c fit from known l k inside part left right at_left at_right rs next ss known_is few (inr counts) =
    counts_never b block c fit from known l k inside part left right at_left at_right counts

pub reached_step : (b : Block) (c : Heap) (from : ℕ) (goal head : Word) (d : Heap) (known : List Word) (rs : List Rest) (next : Rest) (p : Pair) (e : Heap)
    (after : List Word) (ss : List Rest) (r : Rest) → Reached b c from goal head d known (pairs_of d.args b.args.items (rs ++ next ∷ []) ++ p ∷ [])
    → AreRests d b rs next → Extends d e → Stepped b d from known p.left p.right rs next e after ss r
    → Reached b c from goal head e after (pairs_of e.args b.args.items (ss ++ r ∷ []))
reached_step b c from goal head d known rs next p e after ss r reached a g s =
    let parts = b.args.items in
    let before = pairs_of d.args parts (rs ++ next ∷ []) in
    let same : pairs_of e.args parts (rs ++ next ∷ []) ≡ before =
    ap (λ xs. pairs_of xs parts (rs ++ next ∷ [])) (args_grow d e g) ∙ pairs_stay d b g.args (rs ++ next ∷ []) (all_rests d b rs next a) in
    let left = pairs_of e.args parts (ss ++ r ∷ []) in
    reached_more b c from goal head d known before (before ++ p ∷ []) p e after left reached refl (popped (IsFacing d b) (before ++ p ∷ []) before p refl reached.facing).0
    (subst (λ ps. Turned b d from known p.left p.right ps e after left) same s.turned)

-- Each step leaves less to be met.
pub step_lighter : (b : Block) (d : Heap) (from : ℕ) (known : List Word) (w p : Word) (rs : List Rest) (next : Rest) (e : Heap) (after : List Word) (ss : List Rest) (r : Rest)
    → AreRests d b rs next → Extends d e → Stepped b d from known w p rs next e after ss r
    → weights b (pairs_of e.args b.args.items (ss ++ r ∷ [])) < weights b (pairs_of d.args b.args.items (rs ++ next ∷ [])) + weight b p
step_lighter b d from known w p rs next e after ss r a g s =
    let parts = b.args.items in
    let before = pairs_of d.args parts (rs ++ next ∷ []) in
    let t = s.turned in
    let same : pairs_of e.args parts (rs ++ next ∷ []) ≡ before =
    ap (λ xs. pairs_of xs parts (rs ++ next ∷ [])) (args_grow d e g) ∙ pairs_stay d b g.args (rs ++ next ∷ []) (all_rests d b rs next a) in
    let left : pairs_of e.args parts (ss ++ r ∷ []) ≡ before ++ t.gained = t.pushed ∙ ap (λ ps. ps ++ t.gained) same in
    let lighter = t.lighter in
    omega (arith, ap (weights b) left, weights-append b before t.gained, lighter)

pub rests_after : (b : Block) (c : Heap) (from : ℕ) (known : List Word) (w p : Word) (rs : List Rest) (next : Rest) (d : Heap) (after : List Word) (ss : List Rest) (r : Rest)
    → AreRests c b rs next → Extends c d → Stepped b c from known w p rs next d after ss r → AreRests d b ss r
rests_after b c from known w p rs next d after ss r a g s = s.kept (rests_grow c d b g rs next a)

pub no_rests : (c : Heap) (b : Block) → AreRests c b [] no_rest
no_rests c b =
    record { some = All-nil (λ (s : Rest). 0 < s.count); stack = All-nil (IsRest c b); hand = record { left = omega arith; right = omega arith } }
