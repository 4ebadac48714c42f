-- Compound terms that were found to have no variables have none later on.
use Rattle.std.proofs.Common.{◌≡◌, ◌≢◌, ◌⊎◌, inl, inr, ℕ, zero, suc, ◌-◌, ◌<◌, ◌≤◌, Bool, true, false, not, ◌&&◌, ◌||◌, ◌==◌, List, [], ◌∷◌, ◌++◌, length, get_or, take, drop, refl, sym, ap, ap₂, subst, ◌∙◌, arith, length-append, length-take}
use Rattle.std.specs.List.{All}
use Rattle.std.proofs.Math.Seq.{get_or-append_seam, take-length}
use Rattle.std.proofs.lemmas.Bool.{cases_lt, false≢true}
use Rattle.std.proofs.lemmas.Bool.Decides.{Decides-eqb}
use Rattle.std.proofs.lemmas.List.{get_or_append_left, get_or_default, get_or-take, take-append-drop, take-append-le, take-take, take_all}
use Rattle.std.proofs.lemmas.List.Elements.{All-nil, All-push, All-take, All-weaker}
use Rattle.pl_term.specs.Tree.{Tree}
use Rattle.pl_term.specs.Variables.{has}
use Rattle.pl_model.specs.Unify.{Bindings, bound}
use Rattle.pl_model.proofs.UnifyDifference.{and-true}
use Rattle.pl_model.proofs.UnifyReplace.{replace-absent}
use Rattle.term_store.specs.declared.ground_terms.GroundTerm.{GroundTerm}
use Rattle.term_store.specs.declared.words.Word.{Word}
use Rattle.term_store.specs.declared.words.Word.TheVariants.{Comp}
use Rattle.term_store.specs.declared.words.Bond.{Bond}
use Rattle.term_store.specs.declared.words.Head.{Head}
use Rattle.term_store.specs.declared.words.StoreMark.{StoreMark}
use Rattle.term_store.specs.Apart.{NoneFrom}
use Rattle.term_store.specs.Fit.{Fit, IsBond, IsIn, OnceFrom}
use Rattle.term_store.specs.GroundTerms.{AreGroundTerms, IsEarly, IsGroundTerm, Rise, no_ground_term}
use Rattle.term_store.specs.Heap.{Heap, compounds, equations_of, fair, meaning, named, numbered, pushed, with_trail, word_tree}
use Rattle.term_store.specs.Making.{Longer, with_more}
use Rattle.term_store.specs.Marks.{cut}
use Rattle.term_store.specs.Unifying.{any_has}
use Rattle.term_store.specs.Visits.{IsClear}
use Rattle.term_store.proofs.Apartness.{absent_meaning}
use Rattle.term_store.proofs.Binding.{meaning-pushed}
use Rattle.term_store.proofs.Loading.{keeps_of}
use Rattle.term_store.proofs.Occurring.{or-false_right}
use Rattle.term_store.proofs.Visiting.{less_has-left_out}

abbrev heap : List Head → List Word → List ℕ → List Bond → Heap
heap hs ws ns bs = record { heads = hs; args = ws; numbers = ns; trail = bs }

both_true : (a b : Bool) → a ≡ true → b ≡ true → (a && b) ≡ true
both_true a b d e = ap (λ q. q && b) d ∙ e

once_taken : (n : ℕ) (seen bs : List Bond) → OnceFrom seen bs → OnceFrom seen (take n bs)
once_taken zero seen bs o = tt
once_taken (suc n) seen [] o = tt
once_taken (suc n) seen (b ∷ bs) o = (o.0, once_taken n (seen ++ b ∷ []) bs o.1)

fair_taken : (numbers : List ℕ) (done : List Tree) (n : ℕ) (before : Bindings) (bs : List Bond) → fair before (equations_of numbers done bs) ≡ true
    → fair before (equations_of numbers done (take n bs)) ≡ true
fair_taken numbers done zero before bs f = refl
fair_taken numbers done (suc n) before [] f = refl
fair_taken numbers done (suc n) before (b ∷ bs) f =
    let x : ℕ = get_or numbers b.slot zero in
    let t : Tree = word_tree numbers done b.word in
    let more : Bindings = before ++ (x, bound before t) ∷ [] in
    let p = and-true (not (named x before)) (not (has x (bound before t)) && fair more (equations_of numbers done bs)) f in
    let q = and-true (not (has x (bound before t))) (fair more (equations_of numbers done bs)) p.1 in
    both_true (not (named x before)) (not (has x (bound before t)) && fair more (equations_of numbers done (take n bs))) p.0
    (both_true (not (has x (bound before t))) (fair more (equations_of numbers done (take n bs))) q.0 (fair_taken numbers done n more bs q.1))

-- A heap with the first of its bindings.
pub fit_taken : (h : Heap) (n : ℕ) → Fit h → Fit (with_trail h (take n h.trail))
fit_taken h n fit =
    record {
      heads = fit.heads;
      rises = fit.rises;
      bonds = All-take (IsBond (length h.numbers) (length h.heads)) n h.trail fit.bonds;
      once = once_taken n [] h.trail fit.once;
      fairly = fair_taken h.numbers (compounds h.numbers h.args h.heads) n [] h.trail fit.fairly;
    }

-- Found before, and now.
pub ground_now : (h : Heap) (g : GroundTerm) → IsGroundTerm h g → (x : ℕ) → has x (meaning h (Comp g.term)) ≡ false
ground_now h g s x =
    subst (λ bs. has x (meaning (with_trail h bs) (Comp g.term)) ≡ false) (take-length h.trail) (s.ground (length h.trail) s.bindings (omega arith) x)

pub settled_blank : (gs : List GroundTerm) (h : Heap) → gs ≡ [] → AreGroundTerms gs h
settled_blank gs h e =
    subst (λ l. AreGroundTerms l h) (sym e) (record { all = All-nil (IsGroundTerm h); rise = λ i j lt inside. absurd (omega (arith, inside)) })

-- More compound terms and variables.
pub settled_longer : (gs : List GroundTerm) (h d : Heap) → Fit h → Longer h d → AreGroundTerms gs h → AreGroundTerms gs d
settled_longer gs h d fit longer are =
    record { all = All-weaker (IsGroundTerm h) (IsGroundTerm d) one gs are.all; rise = are.rise }
  where
    more : Heap
    more = with_more h longer.heads longer.args longer.numbers

    grown : (n : ℕ) → Longer (with_trail h (take n h.trail)) (with_trail more (take n h.trail))
    grown n = record { heads = longer.heads; args = longer.args; numbers = longer.numbers; longer = refl }

    one : (g : GroundTerm) → IsGroundTerm h g → IsGroundTerm d g
    one g s =
        subst (λ e. IsGroundTerm e g) (sym longer.longer)
        (record {
          term = s.term;
          heads = omega (arith, s.heads, length-append h.heads longer.heads);
          bindings = s.bindings;
          ground = λ n lo hi x.
              let inside : g.term < length h.heads = omega (arith, s.term, s.heads) in
              ap (has x)
              ((keeps_of (with_trail h (take n h.trail)) (with_trail more (take n h.trail)) (fit_taken h n fit) (grown n)).means (Comp g.term) inside)
              ∙ s.ground n lo hi x;
        })

-- One more binding.
pub settled_pushed : (gs : List GroundTerm) (h : Heap) (i : ℕ) (w : Word) → AreGroundTerms gs h → AreGroundTerms gs (pushed h i w)
settled_pushed gs h i w are =
    record { all = All-weaker (IsGroundTerm h) (IsGroundTerm (pushed h i w)) one gs are.all; rise = are.rise }
  where
    b : Bond
    b = record { slot = i; word = w }

    after : (g : GroundTerm) → IsGroundTerm h g → (x : ℕ) → has x (meaning (pushed h i w) (Comp g.term)) ≡ false
    after g s x =
        ap (has x)
        (meaning-pushed h i w (Comp g.term) ∙ replace-absent (meaning h (Comp g.term)) (numbered h i) (meaning h w) (ground_now h g s (numbered h i)))
        ∙ ground_now h g s x

    ground : (g : GroundTerm) → IsGroundTerm h g → (n : ℕ) → g.bindings ≤ n → (n < suc (length h.trail)) ⊎ (suc (length h.trail) ≤ n) → (x : ℕ)
        → has x (meaning (with_trail h (take n (h.trail ++ b ∷ []))) (Comp g.term)) ≡ false
    ground g s n lo (inl below) x =
        ap (λ bs. has x (meaning (with_trail h bs) (Comp g.term))) (take-append-le n h.trail (b ∷ []) (omega (arith, below)))
        ∙ s.ground n lo (omega (arith, below)) x
    ground g s n lo (inr all) x =
        ap (λ bs. has x (meaning (with_trail h bs) (Comp g.term))) (take_all n (h.trail ++ b ∷ []) (omega (arith, all, length-append h.trail (b ∷ []))))
        ∙ after g s x

    one : (g : GroundTerm) → IsGroundTerm h g → IsGroundTerm (pushed h i w) g
    one g s =
        record {
          term = s.term;
          heads = s.heads;
          bindings = omega (arith, s.bindings, length-append h.trail (b ∷ []));
          ground = λ n lo hi x. ground g s n lo (cases_lt n (suc (length h.trail))) x;
        }

-- What is left at a mark of those that were found before it.
pub settled_cut : (m : StoreMark) (gs : List GroundTerm) (h : Heap) → Fit (cut m h) → AreGroundTerms gs h → All (IsEarly m.heads m.trail) gs
    → AreGroundTerms gs (cut m h)
settled_cut m gs h before are early =
    record { all = λ k d lt. one (get_or gs k d) (are.all k d lt) (early k d lt); rise = are.rise }
  where
    grown : (n : ℕ) → n ≤ m.trail → Longer (with_trail (cut m h) (take n (take m.trail h.trail))) (with_trail h (take n h.trail))
    grown n le =
        record {
          heads = drop m.heads h.heads;
          args = drop m.args h.args;
          numbers = drop m.numbers h.numbers;
          longer =
              sym
              (ap₂ (λ hs ws. heap hs ws (take m.numbers h.numbers ++ drop m.numbers h.numbers) (take n (take m.trail h.trail)))
              (take-append-drop m.heads h.heads) (take-append-drop m.args h.args)
              ∙ ap₂ (heap h.heads h.args) (take-append-drop m.numbers h.numbers) (take-take n m.trail h.trail le));
        }

    one : (g : GroundTerm) → IsGroundTerm h g → IsEarly m.heads m.trail g → IsGroundTerm (cut m h) g
    one g s low =
        record {
          term = s.term;
          heads = omega (arith, s.heads, low.heads, length-take m.heads h.heads);
          bindings = omega (arith, s.bindings, low.bindings, length-take m.trail h.trail);
          ground = λ n lo hi x.
              let le : n ≤ m.trail = omega (arith, hi, length-take m.trail h.trail) in
              let inside : g.term < length (take m.heads h.heads) = omega (arith, s.term, s.heads, low.heads, length-take m.heads h.heads) in
              sym
              (ap (has x)
              ((keeps_of (with_trail (cut m h) (take n (take m.trail h.trail))) (with_trail h (take n h.trail)) (fit_taken (cut m h) n before) (grown n le)).means
              (Comp g.term) inside))
              ∙ s.ground n lo (omega (arith, hi, length-take m.trail h.trail)) x;
        }

pub rise_taken : (n : ℕ) (gs : List GroundTerm) → Rise gs → Rise (take n gs)
rise_taken n gs are i j lt inside =
    let low : j < n = omega (arith, inside, length-take n gs) in
    let r = are i j lt (omega (arith, inside, length-take n gs)) in
    let a = get_or-take n gs i no_ground_term (omega (arith, lt, low)) in
    let b = get_or-take n gs j no_ground_term low in (
      omega (arith, r.0, ap (λ (g : GroundTerm). g.heads) a, ap (λ (g : GroundTerm). g.heads) b),
      omega (arith, r.1, ap (λ (g : GroundTerm). g.bindings) a, ap (λ (g : GroundTerm). g.bindings) b),
    )

pub settled_taken : (gs hs : List GroundTerm) (h : Heap) → (n : ℕ) × (hs ≡ take n gs) → AreGroundTerms gs h → AreGroundTerms hs h
settled_taken gs hs h t are =
    subst (λ l. AreGroundTerms l h) (sym t.1) (record { all = All-take (IsGroundTerm h) t.0 gs are.all; rise = rise_taken t.0 gs are.rise })

-- Where the last one was found early, all were.
pub early_all : (heads bindings : ℕ) (gs : List GroundTerm) → Rise gs
    → (0 < length gs → IsEarly heads bindings (get_or gs (length gs - 1) no_ground_term)) → All (IsEarly heads bindings) gs
early_all heads bindings gs rise last k d lt =
    subst (IsEarly heads bindings) (get_or_default gs k no_ground_term d lt) (go (cases_lt k (length gs - 1)))
  where
    end : IsEarly heads bindings (get_or gs (length gs - 1) no_ground_term)
    end = last (omega (arith, lt))

    go : (k < length gs - 1) ⊎ (length gs - 1 ≤ k) → IsEarly heads bindings (get_or gs k no_ground_term)
    go (inl below) =
        let r = rise k (length gs - 1) below (omega (arith, lt)) in
        record { heads = omega (arith, r.0, end.heads); bindings = omega (arith, r.1, end.bindings) }
    go (inr here) =
        let same : length gs - 1 ≡ k = omega (arith, here, lt) in
        subst (λ n. IsEarly heads bindings (get_or gs n no_ground_term)) same end

-- One more, which was found just now.
pub settled_added : (gs hs : List GroundTerm) (h : Heap) (k : ℕ) → AreGroundTerms gs h
    → hs ≡ gs ++ record { term = k; heads = length h.heads; bindings = length h.trail } ∷ [] → k < length h.heads
    → ((x : ℕ) → has x (meaning h (Comp k)) ≡ false) → AreGroundTerms hs h
settled_added gs hs h k are e inside absent =
    subst (λ l. AreGroundTerms l h) (sym e) (record { all = All-push (IsGroundTerm h) gs g are.all here; rise = λ i j lt within. rise i j lt within (cases_lt j (length gs)) })
  where
    g : GroundTerm
    g = record { term = k; heads = length h.heads; bindings = length h.trail }

    here : IsGroundTerm h g
    here =
        record {
          term = inside;
          heads = omega arith;
          bindings = omega arith;
          ground = λ n lo hi x. ap (λ bs. has x (meaning (with_trail h bs) (Comp k))) (take_all n h.trail (omega (arith, lo))) ∙ absent x;
        }

    rise : (i j : ℕ) → i < j → j < length (gs ++ g ∷ []) → (j < length gs) ⊎ (length gs ≤ j)
        → ((get_or (gs ++ g ∷ []) i no_ground_term).heads ≤ (get_or (gs ++ g ∷ []) j no_ground_term).heads)
        × ((get_or (gs ++ g ∷ []) i no_ground_term).bindings ≤ (get_or (gs ++ g ∷ []) j no_ground_term).bindings)
    rise i j lt within (inl below) =
        let a = get_or_append_left gs (g ∷ []) no_ground_term i (omega (arith, lt, below)) in
        let b = get_or_append_left gs (g ∷ []) no_ground_term j below in
        let r = are.rise i j lt below in (
          omega (arith, r.0, ap (λ (f : GroundTerm). f.heads) a, ap (λ (f : GroundTerm). f.heads) b),
          omega (arith, r.1, ap (λ (f : GroundTerm). f.bindings) a, ap (λ (f : GroundTerm). f.bindings) b),
        )
    rise i j lt within (inr last) =
        let same : j ≡ length gs = omega (arith, within, last, length-append gs (g ∷ [])) in
        let first : i < length gs = omega (arith, lt, same) in
        let a = get_or_append_left gs (g ∷ []) no_ground_term i first in
        let b = ap (λ n. get_or (gs ++ g ∷ []) n no_ground_term) same ∙ get_or-append_seam gs g [] no_ground_term in
        let s = are.all i no_ground_term first in (
          omega (arith, s.heads, ap (λ (f : GroundTerm). f.heads) a, ap (λ (f : GroundTerm). f.heads) b),
          omega (arith, s.bindings, ap (λ (f : GroundTerm). f.bindings) a, ap (λ (f : GroundTerm). f.bindings) b),
        )

-- No variable occurs in such a term.
pub settled_absent : (gs : List GroundTerm) (h : Heap) (k : ℕ) → AreGroundTerms gs h
    → (i : ℕ) × (i < length gs) × ((get_or gs i no_ground_term).term ≡ k) → (x : ℕ) → has x (meaning h (Comp k)) ≡ false
settled_absent gs h k are at x =
    ap (λ j. has x (meaning h (Comp j))) (sym at.2) ∙ ground_now h (get_or gs at.0 no_ground_term) (are.all at.0 no_ground_term at.1) x

-- A walk need not look into a term in which no variable occurs.
pub absent_found : (h : Heap) (k : ℕ) → ((x : ℕ) → has x (meaning h (Comp k)) ≡ false) → (x : ℕ) (ws : List Word)
    → any_has x h ws ≡ (any_has x h ws || has x (meaning h (Comp k)))
absent_found h k absent x ws = sym (ap (λ b. any_has x h ws || b) (absent x) ∙ or-false_right (any_has x h ws))

pub absent_clear : (h : Heap) (k : ℕ) → ((x : ℕ) → has x (meaning h (Comp k)) ≡ false) → (x : ℕ) (ws : List Word) (ks : List ℕ)
    → All (IsClear x h (ws ++ Comp k ∷ [])) ks → All (IsClear x h ws) ks
absent_clear h k absent x ws ks all =
    All-weaker (IsClear x h (ws ++ Comp k ∷ [])) (IsClear x h ws) (λ j is e. less_has-left_out x h _ ws (Comp k) (absent x) (is e)) ks all

-- A number is that of a variable of the heap, or of none.
find_number : (ns : List ℕ) (x : ℕ) → ((i : ℕ) × (i < length ns) × (get_or ns i zero ≡ x)) ⊎ ((j : ℕ) → j < length ns → x ≢ get_or ns j zero)
find_number [] x = inr (λ j lt. absurd (omega (arith, lt)))
find_number (n ∷ ns) x = go (n == x) refl (find_number ns x)
  where
    other : (n == x) ≡ false → ((j : ℕ) → j < length ns → x ≢ get_or ns j zero) → (j : ℕ) → j < length (n ∷ ns) → x ≢ get_or (n ∷ ns) j zero
    other e none zero lt = λ s. false≢true (sym e ∙ (Decides-eqb n x).1 (sym s))
    other e none (suc j) lt = none j (omega (arith, lt))

    go : (q : Bool) → (n == x) ≡ q → ((i : ℕ) × (i < length ns) × (get_or ns i zero ≡ x)) ⊎ ((j : ℕ) → j < length ns → x ≢ get_or ns j zero)
        → ((i : ℕ) × (i < length (n ∷ ns)) × (get_or (n ∷ ns) i zero ≡ x)) ⊎ ((j : ℕ) → j < length (n ∷ ns) → x ≢ get_or (n ∷ ns) j zero)
    go true e found = inl (zero, omega arith, (Decides-eqb n x).0 e)
    go false e (inl at) = inl (suc at.0, omega (arith, at.1), at.2)
    go false e (inr none) = inr (other e none)

-- A term in which no variable of the heap occurs has none.
pub none_at_all : (h : Heap) (w : Word) (top : ℕ) → Fit h → IsIn h w → top ≡ zero → NoneFrom top h (meaning h w) → (x : ℕ) → has x (meaning h w) ≡ false
none_at_all h w top fit inside start none x = go (find_number h.numbers x)
  where
    go : ((i : ℕ) × (i < length h.numbers) × (get_or h.numbers i zero ≡ x)) ⊎ ((j : ℕ) → j < length h.numbers → x ≢ get_or h.numbers j zero)
        → has x (meaning h w) ≡ false
    go (inl at) = subst (λ y. has y (meaning h w) ≡ false) at.2 (none at.0 (omega (arith, start)) at.1)
    go (inr other) = absent_meaning h x fit other w inside
