-- Compound terms that are marked as ground.
use Rattle.std.proofs.Common.{◌≡◌, ◌⊎◌, inl, inr, ℕ, zero, suc, ◌+◌, ◌<◌, ◌≤◌, Bool, true, false, ◌||◌, List, [], ◌∷◌, ◌++◌, length, get_or, take, drop, refl, sym, ap, subst, ◌∙◌, arith, length-append, length-take, length-drop}
use Rattle.std.specs.List.{All}
use Rattle.std.proofs.Math.Seq.{get_or-append_seam, take-length}
use Rattle.std.proofs.lemmas.Bool.{cases_lt, false≢true}
use Rattle.std.proofs.lemmas.List.{get_or_append_left, get_or_past, get_or-take, take-append-drop}
use Rattle.std.proofs.lemmas.List.Elements.{All-cons, All-head, All-nil, All-tail, All-weaker}
use Rattle.pl_term.specs.Variables.{has}
use Rattle.term_store.specs.declared.words.Word.{Word}
use Rattle.term_store.specs.declared.words.Word.TheVariants.{Var, Int, Atom, Comp}
use Rattle.term_store.specs.declared.words.Head.{Head}
use Rattle.term_store.specs.declared.words.Bond.{Bond}
use Rattle.term_store.specs.declared.words.StoreMark.{StoreMark}
use Rattle.term_store.specs.Heap.{Heap, atom_name, bindings, meaning, words_of}
use Rattle.term_store.specs.Fit.{Fit, IsWord, no_head}
use Rattle.term_store.specs.GroundMarks.{AreMarks, IsMarked, IsMarkedToo}
use Rattle.term_store.specs.Making.{with_args}
use Rattle.term_store.specs.Marks.{cut}
use Rattle.term_store.specs.Unifying.{any_has}
use Rattle.term_store.specs.Visits.{IsClear}
use Rattle.term_store.proofs.Building.{words_of-longer}
use Rattle.term_store.proofs.Equations.{bound-atom, bound-int}
use Rattle.term_store.proofs.Occurring.{has-compound, or-false_right}
use Rattle.term_store.proofs.Opening.{opened}
use Rattle.term_store.proofs.Visiting.{less_has-left_out}

abbrev heap : List Head → List Word → List ℕ → List Bond → Heap
heap hs ws ns bs = record { heads = hs; args = ws; numbers = ns; trail = bs }

pub inside_marked : (gs : List Bool) (k : ℕ) → get_or gs k false ≡ true → k < length gs
inside_marked gs k e = go (cases_lt k (length gs))
  where
    go : (k < length gs) ⊎ (length gs ≤ k) → k < length gs
    go (inl lt) = lt
    go (inr le) = absurd (false≢true (sym (get_or_past gs k false le) ∙ e))

pub marks_blank : (gs : List Bool) (h : Heap) → gs ≡ [] → h.heads ≡ [] → AreMarks gs h
marks_blank gs h none blank =
    record {
      long = (let few : length gs ≡ 0 = ap length none in omega (arith, few));
      parts = λ k t. let lt = inside_marked gs k t in let few : length gs ≡ 0 = ap length none in absurd (omega (arith, lt, few));
    }

-- The marks that were there are there still.
marked_more : (k : ℕ) (gs hs : List Bool) → length gs ≤ k → ((j : ℕ) → j < k → get_or hs j false ≡ get_or gs j false) → (w : Word) → IsMarked gs w → IsMarked hs w
marked_more k gs hs long same (Var i) m = absurd m
marked_more k gs hs long same (Int i) m = tt
marked_more k gs hs long same (Atom a) m = tt
marked_more k gs hs long same (Comp j) m = same j (omega (arith, long, inside_marked gs j m)) ∙ m

pub words_within : (args : List Word) (n : ℕ) (g : Head) → g.start + g.count ≤ length (take n args) → words_of (take n args) g ≡ words_of args g
words_within args n g within =
    sym (words_of-longer (take n args) (drop n args) g within) ∙ ap (λ ws. words_of ws g) (take-append-drop n args)

-- One more compound term, which may be marked where its arguments are.
pub marks_made : (gs hs : List Bool) (h : Heap) (name start count : ℕ) (b : Bool) (heads : List Head) → Fit (with_args h (take start h.args)) → start + count ≡ length h.args
    → AreMarks gs (with_args h (take start h.args)) → (b ≡ true → All (IsMarked gs) (drop start h.args)) → IsMarkedToo b (length h.heads) gs hs
    → heads ≡ h.heads ++ record { name = name; start = start; count = count } ∷ [] → AreMarks hs (heap heads h.args h.numbers h.trail)
marks_made gs hs h name start count b heads fit within marks made too e =
    record { long = long; parts = parts }
  where
    g : Head
    g = record { name = name; start = start; count = count }

    long : length hs ≤ length heads
    long = omega (arith, too.long, ap length e, length-append h.heads (g ∷ []))

    wider : (ws : List Word) → All (IsMarked gs) ws → All (IsMarked hs) ws
    wider ws all = All-weaker (IsMarked gs) (IsMarked hs) (marked_more (length h.heads) gs hs marks.long too.others) ws all

    before : (k : ℕ) → k < length h.heads → get_or hs k false ≡ true → All (IsMarked hs) (words_of h.args (get_or heads k no_head))
    before k below t =
        let old = get_or h.heads k no_head in
        let same : get_or heads k no_head ≡ old = ap (λ l. get_or l k no_head) e ∙ get_or_append_left h.heads (g ∷ []) no_head k below in
        subst (λ f. All (IsMarked hs) (words_of h.args f)) (sym same)
        (subst (λ ws. All (IsMarked hs) ws) (words_within h.args start old (fit.heads k below).within)
        (wider (words_of (take start h.args) old) (marks.parts k (sym (too.others k below) ∙ t))))

    last : (k : ℕ) → k ≡ length h.heads → get_or hs k false ≡ true → All (IsMarked hs) (words_of h.args (get_or heads k no_head))
    last k here t =
        let same : get_or heads k no_head ≡ g =
        ap (λ l. get_or l k no_head) e ∙ ap (λ j. get_or (h.heads ++ g ∷ []) j no_head) here ∙ get_or-append_seam h.heads g [] no_head in
        let own : b ≡ true = too.last (ap (λ j. get_or hs j false) (sym here) ∙ t) in
        let counted : count ≡ length (drop start h.args) = omega (arith, within, length-drop start h.args) in
        let words : words_of h.args g ≡ drop start h.args = ap (λ n. take n (drop start h.args)) counted ∙ take-length (drop start h.args) in
        subst (λ f. All (IsMarked hs) (words_of h.args f)) (sym same)
        (subst (λ ws. All (IsMarked hs) ws) (sym words) (wider (drop start h.args) (made own)))

    parts : (k : ℕ) → get_or hs k false ≡ true → All (IsMarked hs) (words_of h.args (get_or heads k no_head))
    parts k t = go (cases_lt k (length h.heads))
      where
        go : (k < length h.heads) ⊎ (length h.heads ≤ k) → All (IsMarked hs) (words_of h.args (get_or heads k no_head))
        go (inl lt) = before k lt t
        go (inr le) = last k (omega (arith, le, inside_marked hs k t, too.long)) t

-- Nothing more is marked.
pub marks_kept : (gs hs : List Bool) (h : Heap) → AreMarks gs h → IsMarkedToo false (length h.heads) gs hs → AreMarks hs h
marks_kept gs hs h marks too =
    record {
      long = too.fits refl;
      parts = λ k t.
          let below : k < length h.heads = omega (arith, inside_marked hs k t, too.fits refl) in
          All-weaker (IsMarked gs) (IsMarked hs) (marked_more (length h.heads) gs hs marks.long too.others) (words_of h.args (get_or h.heads k no_head))
          (marks.parts k (sym (too.others k below) ∙ t));
    }

nothing_past : (gs : List Bool) (k : ℕ) → length gs ≤ k → get_or gs k false ≡ true → ⊥
nothing_past gs k le t = false≢true (sym (get_or_past gs k false le) ∙ t)

-- No compound term is marked beside those that were.
pub marked_none : (b : Bool) (k : ℕ) (gs : List Bool) → length gs ≤ k → IsMarkedToo b k gs gs
marked_none b k gs le =
    record {
      long = omega (arith, le);
      others = λ j lt. refl;
      last = λ t. absurd (nothing_past gs k le t);
      fits = λ f. le;
    }

pub marked_cut : (b : Bool) (k : ℕ) (gs hs : List Bool) → IsMarkedToo b k gs hs → IsMarkedToo false k gs (take k hs)
marked_cut b k gs hs too =
    let few : length (take k hs) ≤ k = omega (arith, length-take k hs) in
    record {
      long = omega (arith, few);
      others = λ j lt. get_or-take k hs j false lt ∙ too.others j lt;
      last = λ t. absurd (nothing_past (take k hs) k few t);
      fits = λ f. few;
    }

-- Putting further marks down.
pub false_behind : (gs : List Bool) (j : ℕ) → get_or (gs ++ false ∷ []) j false ≡ get_or gs j false
false_behind [] zero = refl
false_behind [] (suc j) = refl
false_behind (g ∷ gs) zero = refl
false_behind (g ∷ gs) (suc j) = false_behind gs j

pub marked_same : (k : ℕ) (gs hs : List Bool) → length hs ≤ k → ((j : ℕ) → get_or hs j false ≡ get_or gs j false) → IsMarkedToo false k gs hs
marked_same k gs hs le same =
    record {
      long = omega (arith, le);
      others = λ j lt. same j;
      last = λ t. absurd (nothing_past hs k le t);
      fits = λ f. le;
    }

pub marked_last : (k : ℕ) (gs hs is : List Bool) → length hs ≡ k → ((j : ℕ) → get_or hs j false ≡ get_or gs j false) → is ≡ hs ++ true ∷ [] → IsMarkedToo true k gs is
marked_last k gs hs is long same e =
    record {
      long = omega (arith, ap length e, length-append hs (true ∷ []), long);
      others = λ j lt. ap (λ l. get_or l j false) e ∙ get_or_append_left hs (true ∷ []) false j (omega (arith, lt, long)) ∙ same j;
      last = λ t. refl;
      fits = λ f. absurd (false≢true (sym f));
    }

-- Words of which fewer are there.
prefix : {X : Type 0} (P : X → Type 0) (c s a : ℕ) (xs : List X) → All P (take c (drop s xs)) → All P (take c (drop s (take a xs)))
prefix P zero s a xs all = All-nil P
prefix P (suc c) zero zero xs all = All-nil P
prefix P (suc c) (suc s) zero xs all = All-nil P
prefix P (suc c) zero (suc a) [] all = All-nil P
prefix P (suc c) (suc s) (suc a) [] all = All-nil P
prefix P (suc c) zero (suc a) (x ∷ xs) all =
    All-cons P x (take c (take a xs)) (All-head P x (take c xs) all) (prefix P c zero a xs (All-tail P x (take c xs) all))
prefix P (suc c) (suc s) (suc a) (x ∷ xs) all = prefix P (suc c) s a xs all

-- What is left at a mark.
pub marks_cut : (m : StoreMark) (gs : List Bool) (h : Heap) → Fit h → AreMarks gs h → AreMarks (take m.heads gs) (cut m h)
marks_cut m gs h fit marks =
    record { long = long; parts = parts }
  where
    long : length (take m.heads gs) ≤ length (take m.heads h.heads)
    long = omega (arith, length-take m.heads gs, length-take m.heads h.heads, marks.long)

    kept : (k j : ℕ) → k < m.heads → j < k → get_or gs j false ≡ true → get_or (take m.heads gs) j false ≡ true
    kept k j lt below t = get_or-take m.heads gs j false (omega (arith, lt, below)) ∙ t

    word : (k : ℕ) → k < m.heads → (w : Word) → IsMarked gs w → IsWord (length h.numbers) k w → IsMarked (take m.heads gs) w
    word k lt (Var i) is below = absurd is
    word k lt (Int i) is below = tt
    word k lt (Atom a) is below = tt
    word k lt (Comp j) is below = kept k j lt below is

    words : (k : ℕ) → k < m.heads → (ws : List Word) → All (IsMarked gs) ws → All (IsWord (length h.numbers) k) ws → All (IsMarked (take m.heads gs)) ws
    words k lt [] all below = All-nil (IsMarked (take m.heads gs))
    words k lt (w ∷ ws) all below =
        All-cons (IsMarked (take m.heads gs)) w ws
        (word k lt w (All-head (IsMarked gs) w ws all) (All-head (IsWord (length h.numbers) k) w ws below))
        (words k lt ws (All-tail (IsMarked gs) w ws all) (All-tail (IsWord (length h.numbers) k) w ws below))

    parts : (k : ℕ) → get_or (take m.heads gs) k false ≡ true → All (IsMarked (take m.heads gs)) (words_of (take m.args h.args) (get_or (take m.heads h.heads) k no_head))
    parts k t =
        let inside : k < length (take m.heads gs) = inside_marked (take m.heads gs) k t in
        let lt : k < m.heads = omega (arith, inside, length-take m.heads gs) in
        let there : k < length h.heads = omega (arith, inside, length-take m.heads gs, marks.long) in
        let g = get_or h.heads k no_head in
        let old = marks.parts k (sym (get_or-take m.heads gs k false lt) ∙ t) in
        subst (λ f. All (IsMarked (take m.heads gs)) (words_of (take m.args h.args) f)) (sym (get_or-take m.heads h.heads k no_head lt))
        (prefix (IsMarked (take m.heads gs)) g.count g.start m.args h.args
        (words k lt (words_of h.args g) old (fit.heads k there).earlier))

-- No variable occurs in a compound term that is marked.
pub marked_absent : (gs : List Bool) (h : Heap) → Fit h → AreMarks gs h → (k : ℕ) → get_or gs k false ≡ true → (x : ℕ) → has x (meaning h (Comp k)) ≡ false
marked_absent gs h fit marks k t x = go (suc k) k (omega arith) t
  where
    word : (k : ℕ) → ((j : ℕ) → j < k → get_or gs j false ≡ true → has x (meaning h (Comp j)) ≡ false) → (w : Word) → IsMarked gs w
        → IsWord (length h.numbers) k w → has x (meaning h w) ≡ false
    word k below (Var i) is earlier = absurd is
    word k below (Int i) is earlier = ap (has x) (bound-int (bindings h) i)
    word k below (Atom a) is earlier = ap (has x) (bound-atom (bindings h) (atom_name a))
    word k below (Comp j) is earlier = below j earlier is

    words : (k : ℕ) → ((j : ℕ) → j < k → get_or gs j false ≡ true → has x (meaning h (Comp j)) ≡ false) → (ws : List Word) → All (IsMarked gs) ws
        → All (IsWord (length h.numbers) k) ws → any_has x h ws ≡ false
    words k below [] all earlier = refl
    words k below (w ∷ ws) all earlier =
        ap (λ b. b || any_has x h ws) (word k below w (All-head (IsMarked gs) w ws all) (All-head (IsWord (length h.numbers) k) w ws earlier))
        ∙ words k below ws (All-tail (IsMarked gs) w ws all) (All-tail (IsWord (length h.numbers) k) w ws earlier)

    go : (n k : ℕ) → k < n → get_or gs k false ≡ true → has x (meaning h (Comp k)) ≡ false
    go zero k lt t = absurd (omega (arith, lt))
    go (suc n) k lt t =
        let inside : k < length h.heads = omega (arith, inside_marked gs k t, marks.long) in
        let g = get_or h.heads k no_head in
        ap (has x) (opened h k fit inside) ∙ has-compound x h (atom_name g.name) (words_of h.args g)
        ∙ words k (λ j below is. go n j (omega (arith, lt, below)) is) (words_of h.args g) (marks.parts k t) (fit.heads k inside).earlier

-- A walk need not look into such a term.
pub marked_found : (gs : List Bool) (h : Heap) → Fit h → AreMarks gs h → (k : ℕ) → get_or gs k false ≡ true → (x : ℕ) (ws : List Word)
    → any_has x h ws ≡ (any_has x h ws || has x (meaning h (Comp k)))
marked_found gs h fit marks k t x ws =
    sym (ap (λ b. any_has x h ws || b) (marked_absent gs h fit marks k t x) ∙ or-false_right (any_has x h ws))

pub marked_clear : (gs : List Bool) (h : Heap) → Fit h → AreMarks gs h → (k : ℕ) → get_or gs k false ≡ true → (x : ℕ) (ws : List Word) (ks : List ℕ)
    → All (IsClear x h (ws ++ Comp k ∷ [])) ks → All (IsClear x h ws) ks
marked_clear gs h fit marks k t x ws ks all =
    All-weaker (IsClear x h (ws ++ Comp k ∷ [])) (IsClear x h ws)
    (λ j is e. less_has-left_out x h _ ws (Comp k) (marked_absent gs h fit marks k t x) (is e)) ks all
