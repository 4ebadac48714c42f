-- Pairs of words of one heap, in hand and on the stack.
use Rattle.std.proofs.Common.{◌≡◌, ◌≢◌, ◌⊎◌, inl, inr, ℕ, ℤ, zero, ◌+◌, ◌<◌, ◌≤◌, ◌==◌, nat_lt, Bool, true, false, cond, List, [], ◌∷◌, ◌++◌, length, get_or, Option, Some, None, Result, Ok, Err, IfOk, refl, sym, ap, ap₂, subst, ◌∙◌, arith, append-nil}
use Rattle.std.specs.Ordering.{int_eq}
use Rattle.std.specs.List.{All}
use Rattle.std.proofs.lemmas.Bool.{false≢true}
use Rattle.std.proofs.lemmas.Bool.Decides.{Decides-eqb}
use Rattle.std.proofs.lemmas.List.Elements.{All-nil, All-push}
use Rattle.pl_term.specs.Tree.{none, more}
use Rattle.pl_term.specs.Variables.{has}
use Rattle.pl_model.specs.Unify.{solve}
use Rattle.pl_model.proofs.UnifyReplace.{eqb_other}
use Rattle.term_store.specs.declared.words.Word.{Word}
use Rattle.term_store.specs.declared.words.Word.TheVariants.{Var, Int, Atom, Comp}
use Rattle.term_store.specs.declared.words.Head.{Head}
use Rattle.term_store.specs.declared.words.Meeting.{Meeting}
use Rattle.term_store.specs.declared.words.Pair.{Pair}
use Rattle.term_store.specs.declared.words.Plan.{Plan}
use Rattle.term_store.specs.declared.words.Plan.TheVariants.{Same, Clash, Bind, Open}
use Rattle.term_store.specs.declared.words.Rest.{Rest}
use Rattle.term_store.specs.declared.older.Older.{Older}
use Rattle.term_store.specs.declared.shorts.Beyond.{Beyond}
use Rattle.term_store.specs.declared.shorts.Short.{Short}
use Rattle.term_store.specs.declared.shorts.Short.TheVariants.{Free, Slot, Number, Name, Term, Wide}
use Rattle.term_store.specs.declared.unify.ShortPlan.{ShortPlan}
use Rattle.term_store.specs.declared.unify.ShortPlan.TheVariants.{Equal, Differ, Join, Give, Part, Longer}
use Rattle.term_store.specs.Apart.{IsApart, NoneFrom}
use Rattle.term_store.specs.Cells.{Followed, IsFree}
use Rattle.term_store.specs.Entering.{IsConstant}
use Rattle.term_store.specs.Fit.{Below, Fit, IsIn, no_head}
use Rattle.term_store.specs.Heap.{Heap, meaning, numbered, find, pushed}
use Rattle.term_store.specs.Meeting.{IsMet}
use Rattle.term_store.specs.Rests.{IsNext, no_rest, pair_at, pairs_of, rest_after, rest_pairs, stacked}
use Rattle.term_store.specs.Shorts.{IsPlain, IsShort, long_word, value_word}
use Rattle.term_store.specs.Unifying.{IsPairIn, Goes, Moves, Solves, lefts, rights, plan_of}
use Rattle.term_store.specs.Waiting.{AreWaiting, IsRestIn, Met, Moved, Opened, Parted, PartedPair, short_plan, waiting}
use Rattle.term_store.proofs.Apartness.{apart_pushed}
use Rattle.term_store.proofs.Entering.{constant_absent}
use Rattle.term_store.proofs.Joining.{all_bound, all_followed, all_joined}
use Rattle.term_store.proofs.Occurring.{has_var, popped}
use Rattle.term_store.proofs.Planning.{Facing, Planned, planned}
use Rattle.term_store.proofs.Resting.{none_off, pairs_of-append, rest_off, stacked_pairs}
use Rattle.term_store.proofs.Turning.{begins, goes_bind, goes_on, goes_same, never_clash, never_unifies, pair_inside, pair_opens, pair_parts, left_within, right_within}

-- The first pair of those in hand is the last one.
pub waiting_off : (h : Heap) (rs : List Rest) (r : Rest) → 0 < r.count → AreWaiting h rs r → waiting h rs r ≡ waiting h rs (rest_after r) ++ pair_at h.args h.args r ∷ []
waiting_off h rs r some a = rest_off h.args h.args rs r some a.hand.left a.hand.right

pub after_off : (h : Heap) (rs : List Rest) (r : Rest) → 0 < r.count → AreWaiting h rs r → AreWaiting h rs (rest_after r)
after_off h rs r some a =
    let left = a.hand.left in
    let right = a.hand.right in
    record {
      some = a.some;
      stack = a.stack;
      hand = record { left = omega arith; right = omega arith };
      pairs = (popped (IsPairIn h) (waiting h rs r) (waiting h rs (rest_after r)) (pair_at h.args h.args r) (waiting_off h rs r some a) a.pairs).0;
    }

pub first_in : (h : Heap) (rs : List Rest) (r : Rest) → 0 < r.count → AreWaiting h rs r → IsPairIn h (pair_at h.args h.args r)
first_in h rs r some a = (popped (IsPairIn h) (waiting h rs r) (waiting h rs (rest_after r)) (pair_at h.args h.args r) (waiting_off h rs r some a) a.pairs).1

-- What is in hand and on the stack once the next ones were taken.
pub record TakenOn (h : Heap) (rs : List Rest) (r : Rest) (ss : List Rest) (n : Rest) : Type 0 where
  pub some : 0 < n.count
  pub kept : AreWaiting h ss n
  pub pairs : waiting h rs r ≡ waiting h ss n

pub taken_on : (h : Heap) (rs : List Rest) (r : Rest) (ss : List Rest) (n : Rest) → AreWaiting h rs r → IsNext (Some n) rs r ss → TakenOn h rs r ss n
taken_on h rs r ss n a (inl (some, (hand, stack))) =
    record {
      some = subst (λ (q : Rest). 0 < q.count) (sym hand) some;
      kept = subst (λ (q : Rest). AreWaiting h ss q) (sym hand) (subst (λ xs. AreWaiting h xs r) (sym stack) a);
      pairs = ap₂ (λ xs (q : Rest). waiting h xs q) (sym stack) (sym hand);
    }
taken_on h rs r ss n a (inr (zero_left, split)) =
    let each = popped (λ (s : Rest). 0 < s.count) rs ss n split a.some in
    let all = popped (IsRestIn h.args) rs ss n split a.stack in
    let same : waiting h rs r ≡ waiting h ss n = none_off h.args h.args rs r zero_left ∙ ap (pairs_of h.args h.args) split in
    record {
      some = each.1;
      kept = record { some = each.0; stack = all.0; hand = all.1; pairs = subst (λ ps. All (IsPairIn h) ps) same a.pairs };
      pairs = same;
    }

pub none_on : (h : Heap) (rs : List Rest) (r : Rest) (ss : List Rest) → IsNext None rs r ss → waiting h rs r ≡ []
none_on h rs r ss (zero_left, empty) = none_off h.args h.args rs r zero_left ∙ ap (pairs_of h.args h.args) empty

-- Nothing is waiting at first.
pub none_waiting : (h : Heap) (rs : List Rest) (r : Rest) → rs ≡ [] → r ≡ record { left = zero; right = zero; count = zero } → AreWaiting h rs r
none_waiting h rs r e f =
    subst (λ (q : Rest). AreWaiting h rs q) (sym f) (subst (λ xs. AreWaiting h xs (record { left = zero; right = zero; count = zero })) (sym e)
    (record {
      some = All-nil (λ (s : Rest). 0 < s.count);
      stack = All-nil (IsRestIn h.args);
      hand = record { left = omega arith; right = omega arith };
      pairs = All-nil (IsPairIn h);
    }))

-- The arguments of two compound terms were taken in hand.
module _ (h : Heap) (k l : ℕ) (fit : Fit h) (p : k < length h.heads) (q : l < length h.heads) (left right : Head)
    (a : left ≡ get_or h.heads k no_head) (b : right ≡ get_or h.heads l no_head) (names : left.name ≡ right.name) (counts : left.count ≡ right.count)
    (rs : List Rest) (next : Rest) (ss : List Rest) (e : ss ≡ stacked rs next) where
  abbrev taken_hand : Rest
  taken_hand = record { left = left.start; right = right.start; count = left.count }

  hand_in : IsRestIn h.args taken_hand
  hand_in =
      record {
        left = left_within h k l fit p q left right a b;
        right = subst (λ n. right.start + n ≤ length h.args) (sym counts) (right_within h k l fit p q left right a b);
      }

  gained : waiting h ss taken_hand ≡ waiting h rs next ++ rest_pairs h.args h.args taken_hand
  gained =
      ap (λ xs. waiting h xs taken_hand) e ∙ pairs_of-append h.args h.args (stacked rs next) (taken_hand ∷ [])
      ∙ ap₂ (λ ps qs. ps ++ qs) (stacked_pairs h.args h.args rs next) (append-nil (rest_pairs h.args h.args taken_hand))

  on_stack : (r : Bool) → (next.count == zero) ≡ r → AreWaiting h rs next
      → All (λ (s : Rest). 0 < s.count) (cond r rs (rs ++ next ∷ [])) × All (IsRestIn h.args) (cond r rs (rs ++ next ∷ []))
  on_stack true z w = (w.some, w.stack)
  on_stack false z w =
      let ne : next.count ≢ zero = λ i. false≢true (sym z ∙ (Decides-eqb next.count zero).1 i) in
      (All-push (λ (s : Rest). 0 < s.count) rs next w.some (omega arith), All-push (IsRestIn h.args) rs next w.stack w.hand)

  pub parted_pair : PartedPair h k l rs next ss (record { left = left.start; right = right.start; count = left.count })
  parted_pair =
      record {
        kept = λ w.
            let on = on_stack (next.count == zero) refl w in
            record {
              some = subst (λ xs. All (λ (s : Rest). 0 < s.count) xs) (sym e) on.0;
              stack = subst (λ xs. All (IsRestIn h.args) xs) (sym e) on.1;
              hand = hand_in;
              pairs = pair_inside h k l fit p q left right a b (waiting h rs next) (waiting h ss taken_hand) counts w.pairs gained;
            };
        goes = pair_opens h k l fit p q left right a b (waiting h rs next) (waiting h ss taken_hand) names counts gained;
        parts = pair_parts h k l fit p q left right a b (waiting h rs next) (waiting h ss taken_hand) names counts gained;
      }

-- A pair that was opened.
pub moved_opened : (r : Option Rest) (h : Heap) (k l : ℕ) (rs : List Rest) (next : Rest) (p : Pair) (ss : List Rest) (ms : List Meeting) (o : Older)
    → p ≡ record { left = Comp k; right = Comp l } → IsApart h o → Opened r h k l rs next ss ms → Moved r h rs next p h ss ms o
moved_opened (Some r) h k l rs next p ss ms o e apart s =
    record {
      apart = apart;
      waits = s.waits;
      goes = subst (λ (q : Pair). Goes h (waiting h rs next) q.left q.right h (waiting h ss r)) (sym e) s.goes;
      met = s.met;
    }
moved_opened None h k l rs next p ss ms o e apart s = subst (λ (q : Pair). Moves false h (waiting h rs next) q.left q.right h []) (sym e) s

-- A pair that has no answer.
pub parted_never : (r : Option Rest) (h : Heap) (k l : ℕ) (rs : List Rest) (next : Rest) (ss : List Rest) → ((n : Rest) → r ≢ Some n) → Parted r h k l rs next ss
    → Moves false h (waiting h rs next) (Comp k) (Comp l) h []
parted_never (Some n) h k l rs next ss other p = absurd (other n refl)
parted_never None h k l rs next ss other p = p

pub parted_some : (r : Option Rest) (n : Rest) (h : Heap) (k l : ℕ) (rs : List Rest) (next : Rest) (ss : List Rest) → r ≡ Some n → Parted r h k l rs next ss
    → PartedPair h k l rs next ss n
parted_some r n h k l rs next ss e p = subst (λ q. Parted q h k l rs next ss) e p

pub moved_never : (r : Option Rest) (h : Heap) (rs : List Rest) (next : Rest) (p : Pair) (d : Heap) (ss : List Rest) (ms : List Meeting) (o : Older)
    → ((n : Rest) → r ≢ Some n) → Moved r h rs next p d ss ms o → Moves false h (waiting h rs next) p.left p.right d []
moved_never (Some n) h rs next p d ss ms o other m = absurd (other n refl)
moved_never None h rs next p d ss ms o other m = m

pub moved_some : (r : Option Rest) (n : Rest) (h : Heap) (rs : List Rest) (next : Rest) (p : Pair) (d : Heap) (ss : List Rest) (ms : List Meeting) (o : Older)
    → r ≡ Some n → Moved r h rs next p d ss ms o → Met h rs next p d ss n ms o
moved_some r n h rs next p d ss ms o e m = subst (λ q. Moved q h rs next p d ss ms o) e m

-- The same pair, by words that mean the same.
pub moves_same : (h : Heap) (ps : List Pair) (p q : Pair) (d : Heap) (qs : List Pair) → meaning h q.left ≡ meaning h p.left → meaning h q.right ≡ meaning h p.right
    → Moves false h ps q.left q.right d qs → Moves false h ps p.left p.right d qs
moves_same h ps p q d qs left right never n bs =
    ap₂ (λ t u. solve n bs (more t (lefts h ps none)) (more u (rights h ps none))) (sym left) (sym right) ∙ never n bs

goes_words : (h : Heap) (ps : List Pair) (p q : Pair) (d : Heap) (qs : List Pair) → meaning h q.left ≡ meaning h p.left → meaning h q.right ≡ meaning h p.right
    → Goes h ps q.left q.right d qs → Goes h ps p.left p.right d qs
goes_words h ps p q d qs left right g =
    record {
      turns = g.turns;
      made = g.made;
      binds = g.binds;
      same = λ n bs.
          ap₂ (λ t u. solve (g.turns + n) bs (more t (lefts h ps none)) (more u (rights h ps none))) (sym left) (sym right) ∙ g.same n bs;
    }

pub moved_same : (r : Option Rest) (h : Heap) (rs : List Rest) (next : Rest) (p q : Pair) (d : Heap) (ss : List Rest) (ms : List Meeting) (o : Older)
    → meaning h q.left ≡ meaning h p.left → meaning h q.right ≡ meaning h p.right → Moved r h rs next q d ss ms o → Moved r h rs next p d ss ms o
moved_same (Some r) h rs next p q d ss ms o left right m =
    record {
      apart = m.apart;
      waits = m.waits;
      goes = goes_words h (waiting h rs next) p q d (waiting d ss r) left right m.goes;
      met = m.met;
    }
moved_same None h rs next p q d ss ms o left right never = moves_same h (waiting h rs next) p q d [] left right never

pub moved_if : {E : Type 0} (res : Result (Option Rest) E) (h : Heap) (rs : List Rest) (next : Rest) (p q : Pair) (d : Heap) (ss : List Rest) (ms : List Meeting) (o : Older)
    → meaning h q.left ≡ meaning h p.left → meaning h q.right ≡ meaning h p.right → IfOk res (λ r. Moved r h rs next q d ss ms o)
    → IfOk res (λ r. Moved r h rs next p d ss ms o)
moved_if (Ok r) h rs next p q d ss ms o left right m = moved_same r h rs next p q d ss ms o left right m
moved_if (Err e) h rs next p q d ss ms o left right m = tt

pub opened_if : {E : Type 0} (res : Result (Option Rest) E) (h : Heap) (k l : ℕ) (rs : List Rest) (next : Rest) (p : Pair) (ss : List Rest) (ms : List Meeting) (o : Older)
    → p ≡ record { left = Comp k; right = Comp l } → IsApart h o → IfOk res (λ r. Opened r h k l rs next ss ms) → IfOk res (λ r. Moved r h rs next p h ss ms o)
opened_if (Ok r) h k l rs next p ss ms o e apart s = moved_opened r h k l rs next p ss ms o e apart s
opened_if (Err x) h k l rs next p ss ms o e apart s = tt

-- A pair that was made equal, with nothing done or by a binding.
pub met_joined : (h : Heap) (rs : List Rest) (next : Rest) (p : Pair) (ms : List Meeting) (o : Older) → meaning h p.left ≡ meaning h p.right → IsApart h o
    → AreWaiting h rs next → All (IsMet h (waiting h rs next ++ p ∷ [])) ms → Met h rs next p h rs next ms o
met_joined h rs next p ms o e apart waits met =
    record { apart = apart; waits = waits; goes = goes_same h (waiting h rs next) p.left p.right e; met = all_joined h (waiting h rs next) p ms e met }

pub met_bound : (h : Heap) (rs : List Rest) (next : Rest) (p : Pair) (i : ℕ) (w : Word) (ms : List Meeting) (o : Older)
    → Facing h (meaning h p.left) (meaning h p.right) i w → has (numbered h i) (meaning h w) ≡ false → IsApart (pushed h i w) o
    → AreWaiting h rs next → All (IsMet h (waiting h rs next ++ p ∷ [])) ms → Met h rs next p (pushed h i w) rs next ms o
met_bound h rs next p i w ms o f absent apart waits met =
    record {
      apart = apart;
      waits = record { some = waits.some; stack = waits.stack; hand = waits.hand; pairs = waits.pairs };
      goes = goes_bind h (waiting h rs next) p.left p.right i w f absent;
      met = all_bound h i w (waiting h rs next) p ms f absent met;
    }

-- What words as they are kept tell of the words that they stand for.
abbrev Told : ShortPlan → Word → Word → Type 0
Told Equal v w = plan_of v w ≡ Same
Told Differ v w = plan_of v w ≡ Clash
Told (Join i j) v w = (plan_of v w ≡ Bind i (Var j)) × ((v ≡ Var j) ⊎ (w ≡ Var j))
Told (Give i s) v w = (plan_of v w ≡ Bind i (long_word [] s)) × (IsPlain s × (IsConstant (long_word [] s) × (value_word [] s ≡ Some (long_word [] s))))
Told (Part k l) v w = (v ≡ Comp k) × (w ≡ Comp l)
Told Longer v w = Unit {0}

told_slots : (i j : ℕ) → Told (short_plan (Slot i) (Slot j)) (Var i) (Var j)
told_slots i j = go (i == j) refl (nat_lt i j) refl
  where
    go : (p : Bool) → (i == j) ≡ p → (q : Bool) → nat_lt i j ≡ q → Told (cond p Equal (cond q (Join j i) (Join i j))) (Var i) (Var j)
    go true e q l = ap (λ b. cond b Same (cond (nat_lt i j) (Bind j (Var i)) (Bind i (Var j)))) e
    go false e true l = (ap₂ (λ b c. cond b Same (cond c (Bind j (Var i)) (Bind i (Var j)))) e l, inl refl)
    go false e false l = (ap₂ (λ b c. cond b Same (cond c (Bind j (Var i)) (Bind i (Var j)))) e l, inr refl)

told_numbers : (n m : ℤ) → Told (short_plan (Number n) (Number m)) (Int n) (Int m)
told_numbers n m = go (int_eq n m) refl
  where
    go : (q : Bool) → int_eq n m ≡ q → Told (cond q Equal Differ) (Int n) (Int m)
    go true e = ap (λ b. cond b Same Clash) e
    go false e = ap (λ b. cond b Same Clash) e

told_names : (a b : ℕ) → Told (short_plan (Name a) (Name b)) (Atom a) (Atom b)
told_names a b = go (a == b) refl
  where
    go : (q : Bool) → (a == b) ≡ q → Told (cond q Equal Differ) (Atom a) (Atom b)
    go true e = ap (λ x. cond x Same Clash) e
    go false e = ap (λ x. cond x Same Clash) e

told_terms : (k l : ℕ) → Told (short_plan (Term k) (Term l)) (Comp k) (Comp l)
told_terms k l = go (k == l) refl
  where
    go : (q : Bool) → (k == l) ≡ q → Told (cond q Equal (Part k l)) (Comp k) (Comp l)
    go true e = ap (λ x. cond x Same (Open k l)) e
    go false e = (refl, refl)

told_words : (bs cs : List Beyond) (s t : Short) → Told (short_plan s t) (long_word bs s) (long_word cs t)
told_words bs cs Free t = tt
told_words bs cs (Slot i) Free = tt
told_words bs cs (Slot i) (Slot j) = told_slots i j
told_words bs cs (Slot i) (Number n) = (refl, (tt, (tt, refl)))
told_words bs cs (Slot i) (Name a) = (refl, (tt, (tt, refl)))
told_words bs cs (Slot i) (Term k) = tt
told_words bs cs (Slot i) (Wide k) = tt
told_words bs cs (Number n) Free = tt
told_words bs cs (Number n) (Slot j) = (refl, (tt, (tt, refl)))
told_words bs cs (Number n) (Number m) = told_numbers n m
told_words bs cs (Number n) (Name a) = refl
told_words bs cs (Number n) (Term k) = refl
told_words bs cs (Number n) (Wide k) = tt
told_words bs cs (Name a) Free = tt
told_words bs cs (Name a) (Slot j) = (refl, (tt, (tt, refl)))
told_words bs cs (Name a) (Number n) = refl
told_words bs cs (Name a) (Name b) = told_names a b
told_words bs cs (Name a) (Term k) = refl
told_words bs cs (Name a) (Wide k) = tt
told_words bs cs (Term k) Free = tt
told_words bs cs (Term k) (Slot j) = tt
told_words bs cs (Term k) (Number n) = refl
told_words bs cs (Term k) (Name a) = refl
told_words bs cs (Term k) (Term l) = told_terms k l
told_words bs cs (Term k) (Wide j) = tt
told_words bs cs (Wide k) t = tt

told : (s t : Short) (v w : Word) → IsShort s v → IsShort t w → Told (short_plan s t) v w
told s t v w left right =
    subst (λ x. Told (short_plan s t) x w) left.is (subst (λ y. Told (short_plan s t) (long_word left.beyond s) y) right.is (told_words left.beyond right.beyond s t))

-- No variable from above a free one on is in it.
none_above : (h : Heap) (j top : ℕ) → Fit h → j < length h.numbers → find j h.trail ≡ None → j < top → NoneFrom top h (meaning h (Var j))
none_above h j top fit inside free lt i above below =
    has_var h j i fit inside below free ∙ eqb_other j i (λ e. absurd (omega arith))

-- No variable is in a constant.
constant_none : (h : Heap) (top : ℕ) (w : Word) → IsConstant w → NoneFrom top h (meaning h w)
constant_none h top w constant i above below = constant_absent h (numbered h i) w constant

-- What is to be known of a word as it is kept to which a variable is bound.
pub record Given (h : Heap) (i : ℕ) (x : Short) : Type 0 where
  pub slot : i < length h.numbers
  pub free : find i h.trail ≡ None
  pub plain : IsPlain x
  pub word : value_word [] x ≡ Some (long_word [] x)
  pub below : Below i (long_word [] x)
  pub inside : IsIn h (long_word [] x)
  pub absent : has (numbered h i) (meaning h (long_word [] x)) ≡ false

-- The first pair of those in hand, whose words were followed.
module _ (h : Heap) (fit : Fit h) (rs : List Rest) (r : Rest) (some : 0 < r.count) (waits : AreWaiting h rs r) (ms : List Meeting)
    (met : All (IsMet h (waiting h rs r)) ms) (o : Older) (apart : IsApart h o) (s t : Short) (f : Followed h s (pair_at h.args h.args r).left)
    (g : Followed h t (pair_at h.args h.args r).right) (plan : ShortPlan) (is_plan : plan ≡ short_plan s t) where
  abbrev followed : Pair
  followed = record { left = f.word; right = g.word }

  next_met : All (IsMet h (waiting h rs (rest_after r) ++ followed ∷ [])) ms
  next_met =
      all_followed h (waiting h rs r) (waiting h rs (rest_after r)) (pair_at h.args h.args r) followed ms (waiting_off h rs r some waits) f.means g.means met

  is_told : (q : ShortPlan) → plan ≡ q → Told q f.word g.word
  is_told q e = subst (λ x. Told x f.word g.word) (sym is_plan ∙ e) (told s t f.word g.word f.short g.short)

  is_planned : (q : Plan) → plan_of f.word g.word ≡ q → Planned h f.word g.word q
  is_planned q e = subst (Planned h f.word g.word) e (planned h f.word g.word fit f.inside g.inside f.free g.free)

  give_faces : (i : ℕ) (x : Short) → plan ≡ Give i x → Facing h (meaning h f.word) (meaning h g.word) i (long_word [] x)
  give_faces i x e = is_planned (Bind i (long_word [] x)) (is_told (Give i x) e).0

  give_absent : (i : ℕ) (x : Short) → plan ≡ Give i x → has (numbered h i) (meaning h (long_word [] x)) ≡ false
  give_absent i x e = constant_absent h (numbered h i) (long_word [] x) (is_told (Give i x) e).1.1.0

  -- What is to be known of a constant to which a variable is bound.
  pub given : (i : ℕ) (x : Short) → plan ≡ Give i x → Given h i x
  given i x e =
      let f = give_faces i x e in
      record {
        slot = f.slot;
        free = f.free;
        plain = (is_told (Give i x) e).1.0;
        word = (is_told (Give i x) e).1.1.1;
        below = f.below;
        inside = f.inside;
        absent = give_absent i x e;
      }

  join_faces : (i j : ℕ) → plan ≡ Join i j → Facing h (meaning h f.word) (meaning h g.word) i (Var j)
  join_faces i j e = is_planned (Bind i (Var j)) (is_told (Join i j) e).0

  join_free : (i j : ℕ) → plan ≡ Join i j → find j h.trail ≡ None
  join_free i j e = elim (is_told (Join i j) e).1 [
    | inl k ↦ subst (IsFree h) k f.free
    | inr k ↦ subst (IsFree h) k g.free
  ]

  join_absent : (i j : ℕ) → plan ≡ Join i j → has (numbered h i) (meaning h (Var j)) ≡ false
  join_absent i j e =
      let f = join_faces i j e in
      let below : j < i = f.below in
      has_var h j i fit f.inside f.slot (join_free i j e) ∙ eqb_other j i (λ k. absurd (omega arith))

  pub joined : (i j : ℕ) → plan ≡ Join i j → Given h i (Slot j)
  joined i j e =
      let f = join_faces i j e in
      record { slot = f.slot; free = f.free; plain = tt; word = refl; below = f.below; inside = f.inside; absent = join_absent i j e }

  seen : (d : Heap) (q : Older) → Met h rs (rest_after r) followed d rs (rest_after r) ms q → Met h rs (rest_after r) (pair_at h.args h.args r) d rs (rest_after r) ms q
  seen d q m = moved_same (Some (rest_after r)) h rs (rest_after r) (pair_at h.args h.args r) followed d rs ms q f.means g.means m

  pub next_equal : plan ≡ Equal → Met h rs (rest_after r) (pair_at h.args h.args r) h rs (rest_after r) ms o
  next_equal e =
      seen h o (met_joined h rs (rest_after r) followed ms o (is_planned Same (is_told Equal e)) apart (after_off h rs r some waits) next_met)

  pub next_differs : (d : Heap) → plan ≡ Differ → Moves false h (waiting h rs (rest_after r)) (pair_at h.args h.args r).left (pair_at h.args h.args r).right d []
  next_differs d e =
      moves_same h (waiting h rs (rest_after r)) (pair_at h.args h.args r) followed d [] f.means g.means
      (never_clash h (waiting h rs (rest_after r)) f.word g.word d [] (is_planned Clash (is_told Differ e)))

  pub next_given : (i : ℕ) (x : Short) → plan ≡ Give i x
      → Met h rs (rest_after r) (pair_at h.args h.args r) (pushed h i (long_word [] x)) rs (rest_after r) ms o
  next_given i x e =
      let w = long_word [] x in
      let inside = (give_faces i x e).slot in
      seen (pushed h i w) o
      (met_bound h rs (rest_after r) followed i w ms o (give_faces i x e) (give_absent i x e)
      (apart_pushed h i w o o apart refl refl (omega arith) (constant_none h o.top w (is_told (Give i x) e).1.1.0))
      (after_off h rs r some waits) next_met)

  pub next_joined : (i j : ℕ) (q : Older) → plan ≡ Join i j → q.slots ≡ o.slots → q.heads ≡ o.heads → o.top ≤ q.top → j < q.top
      → Met h rs (rest_after r) (pair_at h.args h.args r) (pushed h i (Var j)) rs (rest_after r) ms q
  next_joined i j q e slots heads raised above =
      seen (pushed h i (Var j)) q
      (met_bound h rs (rest_after r) followed i (Var j) ms q (join_faces i j e) (join_absent i j e)
      (apart_pushed h i (Var j) o q apart slots heads raised (none_above h j q.top fit (join_faces i j e).inside (join_free i j e) above))
      (after_off h rs r some waits) next_met)

  pub part_left : (k l : ℕ) → plan ≡ Part k l → k < length h.heads
  part_left k l e = subst (IsIn h) (is_told (Part k l) e).0 f.inside

  pub part_right : (k l : ℕ) → plan ≡ Part k l → l < length h.heads
  part_right k l e = subst (IsIn h) (is_told (Part k l) e).1 g.inside

  part_is : (k l : ℕ) → plan ≡ Part k l → followed ≡ record { left = Comp k; right = Comp l }
  part_is k l e = ap₂ (λ v w. record { left = v; right = w }) (is_told (Part k l) e).0 (is_told (Part k l) e).1

  pub part_met : (k l : ℕ) → plan ≡ Part k l → All (IsMet h (waiting h rs (rest_after r) ++ record { left = Comp k; right = Comp l } ∷ [])) ms
  part_met k l e = subst (λ (p : Pair). All (IsMet h (waiting h rs (rest_after r) ++ p ∷ [])) ms) (part_is k l e) next_met

  pub next_parted : {E : Type 0} (res : Result (Option Rest) E) (k l : ℕ) (ss : List Rest) (ns : List Meeting) → plan ≡ Part k l
      → IfOk res (λ n. Opened n h k l rs (rest_after r) ss ns) → IfOk res (λ n. Moved n h rs (rest_after r) (pair_at h.args h.args r) h ss ns o)
  next_parted res k l ss ns e opened =
      moved_if res h rs (rest_after r) (pair_at h.args h.args r) followed h ss ns o f.means g.means
      (opened_if res h k l rs (rest_after r) followed ss ns o (part_is k l e) apart opened)

-- The first pair of all was made equal.
module _ (h : Heap) (rs : List Rest) (p : Pair) (a b : Word) (e : rs ≡ []) (left : meaning h p.left ≡ meaning h a) (right : meaning h p.right ≡ meaning h b) where
  nothing_waits : waiting h rs no_rest ≡ []
  nothing_waits = none_off h.args h.args rs no_rest refl ∙ ap (pairs_of h.args h.args) e

  pub begun : (d : Heap) (ss : List Rest) (r : Rest) (ms : List Meeting) (o : Older) → Met h rs no_rest p d ss r ms o → Goes h [] a b d (waiting d ss r)
  begun d ss r ms o m =
      subst (λ ps. Goes h ps a b d (waiting d ss r)) nothing_waits
      (goes_words h (waiting h rs no_rest) (record { left = a; right = b }) p d (waiting d ss r) left right m.goes)

  pub never_begun : (d : Heap) → Moves false h (waiting h rs no_rest) p.left p.right d [] → Solves false h a b d
  never_begun d never =
      let q : Pair = record { left = a; right = b } in
      never_unifies h h d a b p.left p.right [] (q ∷ []) [] q (begins h a b) refl left right
      (subst (λ ps. Moves false h ps p.left p.right d []) nothing_waits never)

-- One more pair was made equal, or cannot be.
module _ (c d : Heap) (a b : Word) (rs : List Rest) (r : Rest) (ss : List Rest) (n : Rest) (goes : Goes c [] a b d (waiting d rs r)) (t : TakenOn d rs r ss n) where
  next_split : waiting d rs r ≡ waiting d ss (rest_after n) ++ pair_at d.args d.args n ∷ []
  next_split = t.pairs ∙ waiting_off d ss n t.some t.kept

  pub goes_further : (e : Heap) (xs : List Rest) (m : Rest) (ms : List Meeting) (o : Older) → Met d ss (rest_after n) (pair_at d.args d.args n) e xs m ms o
      → Goes c [] a b e (waiting e xs m)
  goes_further e xs m ms o met =
      let p = pair_at d.args d.args n in
      goes_on c d e a b p.left p.right (waiting d ss (rest_after n)) (waiting d rs r) (waiting e xs m) p goes next_split refl refl met.goes

  pub never_further : (e : Heap) → Moves false d (waiting d ss (rest_after n)) (pair_at d.args d.args n).left (pair_at d.args d.args n).right e [] → Solves false c a b e
  never_further e never =
      let p = pair_at d.args d.args n in
      never_unifies c d e a b p.left p.right (waiting d ss (rest_after n)) (waiting d rs r) [] p goes next_split refl refl never

  pub met_taken : (ms : List Meeting) → All (IsMet d (waiting d rs r)) ms → All (IsMet d (waiting d ss n)) ms
  met_taken ms all = subst (λ ps. All (IsMet d ps) ms) t.pairs all
