-- What stands for the variables of a clause that is entered.
use Rattle.std.proofs.Common.{◌≡◌, ◌≢◌, ◌⊎◌, inl, inr, ℕ, ◌+◌, ◌<◌, ◌≤◌, Bool, true, false, cond, ◌==◌, ◌||◌, nat_lt, List, [], ◌∷◌, ◌++◌, length, get_or, pos, None, refl, sym, ap, subst, ◌∙◌, arith, length-append}
use Rattle.std.specs.List.{All}
use Rattle.std.proofs.Math.Seq.{get_or-append_seam}
use Rattle.std.proofs.lemmas.Bool.{false≢true, cases_lt}
use Rattle.std.proofs.lemmas.Bool.Decides.{Decides-eqb, Decides-ltb}
use Rattle.std.proofs.lemmas.List.{get_or_append_left}
use Rattle.std.proofs.lemmas.List.Elements.{All-nil, All-push, All-weaker}
use Rattle.pl_term.specs.Tree.{var}
use Rattle.pl_term.specs.Variables.{has, is_in, replace}
use Rattle.pl_model.specs.Unify.{Bindings, bound, bound_variables}
use Rattle.pl_model.proofs.UnifyReplace.{eqb_same, eqb_other, replace-absent}
use Rattle.term_store.specs.declared.words.Word.{Word}
use Rattle.term_store.specs.declared.words.Word.TheVariants.{Var, Int}
use Rattle.term_store.specs.Heap.{Heap, meaning, numbered, named, find, pushed}
use Rattle.term_store.specs.Fit.{IsIn, IsBond, Fit}
use Rattle.term_store.specs.Making.{Keeps, Longer, with_number}
use Rattle.term_store.specs.Entering.{IsKnown, Meets, value}
use Rattle.term_store.proofs.Apartness.{absent_meaning}
use Rattle.term_store.proofs.Binding.{meaning-pushed}
use Rattle.term_store.proofs.Equations.{bound-append}
use Rattle.term_store.proofs.Following.{stands}
use Rattle.term_store.proofs.Growing.{find_absent}
use Rattle.term_store.proofs.Loading.{keeps_of, longer_numbers}
use Rattle.term_store.proofs.Stacking.{gains_none}

not_less : (x y : ℕ) → y ≤ x → nat_lt x y ≡ false
not_less x y le = go (nat_lt x y) refl
  where
    go : (q : Bool) → nat_lt x y ≡ q → q ≡ false
    go true e = let up : x < y = (Decides-ltb x y).0 e in absurd (omega arith)
    go false e = refl

pub value_known : (c : Heap) (from : ℕ) (known : List Word) (x : ℕ) → x < length known → value c from known x ≡ meaning c (get_or known x (Int (pos 0)))
value_known c from known x lt =
    ap (λ b. cond b (meaning c (get_or known x (Int (pos 0)))) (var (from + x))) ((Decides-ltb x (length known)).1 lt)

pub value_new : (c : Heap) (from : ℕ) (known : List Word) (x : ℕ) → length known ≤ x → value c from known x ≡ var (from + x)
value_new c from known x le =
    ap (λ b. cond b (meaning c (get_or known x (Int (pos 0)))) (var (from + x))) (not_less x (length known) le)

-- With one more word.
pub value_before : (c : Heap) (from : ℕ) (known : List Word) (w : Word) (x : ℕ) → x < length known → value c from (known ++ w ∷ []) x ≡ value c from known x
value_before c from known w x lt =
    value_known c from (known ++ w ∷ []) x (omega (arith, length-append known (w ∷ [])))
    ∙ ap (meaning c) (get_or_append_left known (w ∷ []) (Int (pos 0)) x lt)
    ∙ sym (value_known c from known x lt)

pub value_here : (c : Heap) (from : ℕ) (known : List Word) (w : Word) (x : ℕ) → x ≡ length known → value c from (known ++ w ∷ []) x ≡ meaning c w
value_here c from known w x e =
    value_known c from (known ++ w ∷ []) x (omega (arith, length-append known (w ∷ [])))
    ∙ ap (meaning c) (ap (λ i. get_or (known ++ w ∷ []) i (Int (pos 0))) e ∙ get_or-append_seam known w [] (Int (pos 0)))

pub value_after : (c : Heap) (from : ℕ) (known : List Word) (w : Word) (x : ℕ) → length known < x → value c from (known ++ w ∷ []) x ≡ var (from + x)
value_after c from known w x lt = value_new c from (known ++ w ∷ []) x (omega (arith, length-append known (w ∷ [])))

-- A variable that was not met is in no term of the heap, and what is there has lower numbers.
pub fresh : (c : Heap) (from : ℕ) (known : List Word) (x : ℕ) (w : Word) → Fit c → IsKnown c from known → length known ≤ x → IsIn c w
    → has (from + x) (meaning c w) ≡ false
fresh c from known x w fit known_is le inside =
    absent_meaning c (from + x) fit (λ j lt e. let below : numbered c j < from + length known = known_is.below j 0 lt in absurd (omega arith)) w inside

pub fresh_below : (c : Heap) (from : ℕ) (known : List Word) (w : Word) (y : ℕ) → Fit c → IsKnown c from known → IsIn c w → meaning c w ≡ var y
    → y < from + length known
fresh_below c from known w y fit known_is inside e = go (cases_lt y (from + length known))
  where
    go : (y < from + length known) ⊎ (from + length known ≤ y) → y < from + length known
    go (inl lt) = lt
    go (inr up) =
        absurd (false≢true
        (sym (absent_meaning c y fit (λ j lt e. let below : numbered c j < from + length known = known_is.below j 0 lt in absurd (omega arith)) w inside)
        ∙ ap (has y) e ∙ ap (λ b. b || false) (eqb_same y)))

pub known_more : (c : Heap) (from : ℕ) (known : List Word) (w : Word) → IsKnown c from known → IsIn c w → IsKnown c from (known ++ w ∷ [])
known_more c from known w known_is inside =
    let long = length-append known (w ∷ []) in
    record {
      words = All-push (IsIn c) known w known_is.words inside;
      below =
          All-weaker (λ m. m < from + length known) (λ m. m < from + length (known ++ w ∷ [])) (λ m lt. omega arith) c.numbers known_is.below;
    }

pub known_none : (c : Heap) (from : ℕ) (known : List Word) → known ≡ [] → All (λ m. m < from) c.numbers → IsKnown c from known
known_none c from known e above =
    subst (IsKnown c from) (sym e)
    (record {
      words = All-nil (IsIn c);
      below = All-weaker (λ m. m < from) (λ m. m < from + 0) (λ m lt. omega arith) c.numbers above;
    })

pub meets_none : (c : Heap) (from : ℕ) (known : List Word) → Meets c from known [] c known
meets_none c from known = record { inside = λ w i. i; binds = λ w i. refl; values = λ x. refl }

pub meets_then : (c : Heap) (from : ℕ) (known : List Word) (made : Bindings) (d : Heap) (then : List Word) (more : Bindings) (e : Heap) (after : List Word)
    → Meets c from known made d then → Meets d from then more e after → Meets c from known (made ++ more) e after
meets_then c from known made d then more e after a b =
    record {
      inside = λ w i. b.inside w (a.inside w i);
      binds = λ w i. b.binds w (a.inside w i) ∙ ap (bound more) (a.binds w i) ∙ sym (bound-append made more (meaning c w));
      values = λ x. b.values x ∙ ap (bound more) (a.values x) ∙ sym (bound-append made more (value c from known x));
    }

-- The heap has gained variables or compound terms.
pub meets_longer : (c : Heap) (from : ℕ) (known : List Word) (d : Heap) → Fit c → IsKnown c from known → Longer c d → Meets c from known [] d known
meets_longer c from known d fit known_is longer =
    record { inside = keeps.inside; binds = keeps.means; values = λ x. go x (cases_lt x (length known)) }
  where
    keeps : Keeps c d
    keeps = keeps_of c d fit longer

    go : (x : ℕ) → (x < length known) ⊎ (length known ≤ x) → value d from known x ≡ value c from known x
    go x (inl lt) =
        value_known d from known x lt ∙ keeps.means (get_or known x (Int (pos 0))) (known_is.words x (Int (pos 0)) lt)
        ∙ sym (value_known c from known x lt)
    go x (inr le) = value_new d from known x le ∙ sym (value_new c from known x le)

pub known_same : (c d : Heap) (from : ℕ) (known : List Word) → IsKnown c from known → ((w : Word) → IsIn c w → IsIn d w) → d.numbers ≡ c.numbers → IsKnown d from known
known_same c d from known known_is inside numbers =
    record {
      words = All-weaker (IsIn c) (IsIn d) inside known known_is.words;
      below = subst (λ ns. All (λ m. m < from + length known) ns) (sym numbers) known_is.below;
    }

pub longer_same : (c d : Heap) → d ≡ c → Longer c d
longer_same c d e = subst (Longer c) (sym e) (gains_none c).longer

-- A new variable is unbound.
pub new_means : (h d : Heap) (n : ℕ) (w : Word) → Fit h → Fit d → d ≡ with_number h n → w ≡ Var (length h.numbers) → meaning d w ≡ var n
new_means h d n w fit_before fit made is =
    ap (meaning d) is ∙ stands d (length h.numbers) fit inside free ∙ ap var (ap (λ g. get_or g.numbers (length h.numbers) 0) made ∙ get_or-append_seam h.numbers n [] 0)
  where
    inside : length h.numbers < length d.numbers
    inside = omega (arith, ap (λ g. length g.numbers) made, length-append h.numbers (n ∷ []))

    free : find (length h.numbers) d.trail ≡ None
    free =
        ap (λ g. find (length h.numbers) g.trail) made
        ∙ find_absent (length h.numbers) h.trail
        (All-weaker (IsBond (length h.numbers) (length h.heads)) (λ b. b.slot < length h.numbers) (λ b fits. fits.slot) h.trail fit_before.bonds)

-- A variable stands for a word from now on.
pub meets_first : (c : Heap) (from : ℕ) (known : List Word) (w : Word) → Fit c → IsKnown c from known → IsIn c w
    → Meets c from known ((from + length known, meaning c w) ∷ []) c (known ++ w ∷ [])
meets_first c from known w fit known_is inside =
    let k = length known in
    record {
      inside = λ v i. i;
      binds = λ v i. sym (replace-absent (meaning c v) (from + k) (meaning c w) (fresh c from known k v fit known_is (omega arith) i));
      values = λ x. go x (cases_lt x (length known));
    }
  where
    later : (x : ℕ) → length known ≤ x → (q : Bool) → (length known == x) ≡ q
        → value c from (known ++ w ∷ []) x ≡ replace (from + length known) (meaning c w) (var (from + x))
    later x le true e =
        let same : length known ≡ x = (Decides-eqb (length known) x).0 e in
        value_here c from known w x (sym same)
        ∙ sym (ap (λ y. replace (from + length known) (meaning c w) (var (from + y))) (sym same)
        ∙ ap (λ b. cond b (meaning c w) (var (from + length known))) (eqb_same (from + length known)))
    later x le false e =
        let ne : length known ≢ x = λ s. false≢true (sym e ∙ (Decides-eqb (length known) x).1 s) in
        let lt : length known < x = omega arith in
        value_after c from known w x lt
        ∙ sym (ap (λ b. cond b (meaning c w) (var (from + x))) (eqb_other (from + length known) (from + x) (λ s. absurd (omega arith))))

    go : (x : ℕ) → (x < length known) ⊎ (length known ≤ x)
        → value c from (known ++ w ∷ []) x ≡ replace (from + length known) (meaning c w) (value c from known x)
    go x (inl lt) =
        value_before c from known w x lt
        ∙ sym (replace-absent (value c from known x) (from + length known) (meaning c w)
        (ap (has (from + length known)) (value_known c from known x lt)
        ∙ fresh c from known (length known) (get_or known x (Int (pos 0))) fit known_is (omega arith) (known_is.words x (Int (pos 0)) lt)))
    go x (inr le) = later x le (length known == x) refl ∙ ap (replace (from + length known) (meaning c w)) (sym (value_new c from known x le))

-- A new variable is made for the first one that was not met.
pub meets_new : (c d : Heap) (from : ℕ) (known : List Word) (w : Word) → Fit c → IsKnown c from known → d ≡ with_number c (from + length known)
    → meaning d w ≡ var (from + length known) → Meets c from known [] d (known ++ w ∷ [])
meets_new c d from known w fit known_is made means =
    record { inside = keeps.inside; binds = keeps.means; values = λ x. go x (cases_lt x (length known)) }
  where
    keeps : Keeps c d
    keeps = keeps_of c d fit (longer_numbers c d ((from + length known) ∷ []) made)

    later : (x : ℕ) → length known ≤ x → (q : Bool) → (length known == x) ≡ q → value d from (known ++ w ∷ []) x ≡ var (from + x)
    later x le true e =
        let same : x ≡ length known = sym ((Decides-eqb (length known) x).0 e) in
        value_here d from known w x same ∙ means ∙ ap (λ i. var (from + i)) (sym same)
    later x le false e =
        let ne : length known ≢ x = λ s. false≢true (sym e ∙ (Decides-eqb (length known) x).1 s) in
        value_after d from known w x (omega arith)

    go : (x : ℕ) → (x < length known) ⊎ (length known ≤ x) → value d from (known ++ w ∷ []) x ≡ value c from known x
    go x (inl lt) =
        value_before d from known w x lt ∙ value_known d from known x lt
        ∙ keeps.means (get_or known x (Int (pos 0))) (known_is.words x (Int (pos 0)) lt)
        ∙ sym (value_known c from known x lt)
    go x (inr le) = later x le (length known == x) refl ∙ sym (value_new c from known x le)

-- Bindings of variables that the heap has.
pub meets_bound : (c : Heap) (from : ℕ) (known : List Word) (made : Bindings) (d : Heap) → IsKnown c from known
    → ((w : Word) → IsIn c w → IsIn d w) → ((w : Word) → meaning d w ≡ bound made (meaning c w))
    → ((x : ℕ) → length known ≤ x → bound made (var (from + x)) ≡ var (from + x)) → Meets c from known made d known
meets_bound c from known made d known_is inside binds others =
    record { inside = inside; binds = λ w i. binds w; values = λ x. go x (cases_lt x (length known)) }
  where
    go : (x : ℕ) → (x < length known) ⊎ (length known ≤ x) → value d from known x ≡ bound made (value c from known x)
    go x (inl lt) =
        value_known d from known x lt ∙ binds (get_or known x (Int (pos 0))) ∙ ap (bound made) (sym (value_known c from known x lt))
    go x (inr le) = value_new d from known x le ∙ sym (others x le) ∙ ap (bound made) (sym (value_new c from known x le))

pub meets_pushed : (c : Heap) (from : ℕ) (known : List Word) (i : ℕ) (w : Word) → IsKnown c from known → i < length c.numbers
    → Meets c from known ((numbered c i, meaning c w) ∷ []) (pushed c i w) known
meets_pushed c from known i w known_is slot =
    meets_bound c from known ((numbered c i, meaning c w) ∷ []) (pushed c i w) known_is (λ v inside. inside) (λ v. meaning-pushed c i w v)
    (λ x le.
    let below : numbered c i < from + length known = known_is.below i 0 slot in
    ap (λ b. cond b (meaning c w) (var (from + x))) (eqb_other (numbered c i) (from + x) (λ s. absurd (omega arith))))

-- A variable that is not among those bound is not named by the bindings.
pub unbound : (x : ℕ) (bs : Bindings) → is_in x (bound_variables bs) ≡ false → named x bs ≡ false
unbound x [] e = refl
unbound x (b ∷ bs) e = go (unbound x bs) (x == b.0) e
  where
    go : (is_in x (bound_variables bs) ≡ false → named x bs ≡ false) → (q : Bool) → (q || is_in x (bound_variables bs)) ≡ false → cond q true (named x bs) ≡ false
    go ih true k = absurd (false≢true (sym k))
    go ih false k = ih k
