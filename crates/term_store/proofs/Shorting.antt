-- Words of eight bytes: integers beyond 32 bits that come and go leave the others' words what they are.
use Rattle.std.proofs.Common.{◌≡◌, ◌≢◌, ◌⊎◌, inl, inr, ℕ, ◌<◌, ◌≤◌, ◌==◌, Bool, true, false, List, [], ◌∷◌, ◌++◌, length, get_or, set, map, take, pos, Option, Some, None, refl, sym, ap, subst, ◌∙◌, arith, get_or-set_other, get_or-set_same, length-append, length-take}
use Rattle.std.proofs.Math.ListN.{length-set}
use Rattle.std.proofs.Math.Seq.{get_or-append_seam}
use Rattle.std.proofs.lemmas.Bool.{cases_lt, false≢true}
use Rattle.std.proofs.lemmas.Bool.Decides.{Decides-eqb}
use Rattle.std.proofs.lemmas.List.{ext_get_or, get_or_append_left, get_or-map, get_or-take, length-map, map-append, take-map}
use Rattle.term_store.specs.declared.words.Word.{Word}
use Rattle.term_store.specs.declared.words.Word.TheVariants.{Int}
use Rattle.term_store.specs.declared.shorts.Short.{Short}
use Rattle.term_store.specs.declared.shorts.Short.TheVariants.{Free, Slot, Number, Name, Term, Wide}
use Rattle.term_store.specs.declared.shorts.Beyond.{Beyond}
use Rattle.term_store.specs.Shorts.{AreOwn, IsOwn, IsPlain, IsShort, Stays, StaysBelow, StaysBut, long_word, no_beyond, value_word}

abbrev no_short : Short
no_short = Number (pos 0)

pub stays_below : (n : ℕ) (bs cs : List Beyond) → Stays bs cs → StaysBelow n bs cs
stays_below n bs cs st k lt _ = st k lt

own_below : (n : ℕ) (bs cs : List Beyond) (at : ℕ) (s : Short) → StaysBelow n bs cs → at < n → IsOwn bs at s → IsOwn cs at s
own_below n bs cs at Free st lt own = tt
own_below n bs cs at (Slot i) st lt own = tt
own_below n bs cs at (Number i) st lt own = tt
own_below n bs cs at (Name a) st lt own = tt
own_below n bs cs at (Term k) st lt own = tt
own_below n bs cs at (Wide k) st lt own =
    let q = st k own.0 (subst (λ m. m < n) (sym own.1) lt) in
    (q.0, ap (λ (b : Beyond). b.at) q.1 ∙ own.1)

long_below : (n : ℕ) (bs cs : List Beyond) (at : ℕ) (s : Short) → StaysBelow n bs cs → at < n → IsOwn bs at s → long_word cs s ≡ long_word bs s
long_below n bs cs at Free st lt own = refl
long_below n bs cs at (Slot i) st lt own = refl
long_below n bs cs at (Number i) st lt own = refl
long_below n bs cs at (Name a) st lt own = refl
long_below n bs cs at (Term k) st lt own = refl
long_below n bs cs at (Wide k) st lt own = ap (λ (b : Beyond). Int b.value) (st k own.0 (subst (λ m. m < n) (sym own.1) lt)).1

pub are_below : (n : ℕ) (bs cs : List Beyond) (ss : List Short) → AreOwn bs ss → length ss ≤ n → StaysBelow n bs cs → AreOwn cs ss
are_below n bs cs ss own few st i lt = own_below n bs cs i (get_or ss i no_short) st (omega arith) (own i lt)

pub words_below : (n : ℕ) (bs cs : List Beyond) (ss : List Short) → AreOwn bs ss → length ss ≤ n → StaysBelow n bs cs
    → map (long_word cs) ss ≡ map (long_word bs) ss
words_below n bs cs ss own few st =
    ext_get_or (Int (pos 0)) (map (long_word cs) ss) (map (long_word bs) ss) (length-map ss (long_word cs) ∙ sym (length-map ss (long_word bs)))
    (λ i lt.
    let inside : i < length ss = subst (λ m. i < m) (length-map ss (long_word cs)) lt in
    get_or-map (long_word cs) ss i no_short (Int (pos 0)) inside
    ∙ long_below n bs cs i (get_or ss i no_short) st (omega arith) (own i inside)
    ∙ sym (get_or-map (long_word bs) ss i no_short (Int (pos 0)) inside))

pub own_taken : (bs : List Beyond) (ss : List Short) (n : ℕ) → AreOwn bs ss → AreOwn bs (take n ss)
own_taken bs ss n own i lt =
    let k = length-take n ss in
    subst (IsOwn bs i) (sym (get_or-take n ss i no_short (omega arith))) (own i (omega arith))

-- The first words, where the integers of these stay.
pub words_taken : (n : ℕ) (bs cs : List Beyond) (ss : List Short) → AreOwn bs ss → StaysBelow n bs cs
    → AreOwn cs (take n ss) × (map (long_word cs) (take n ss) ≡ take n (map (long_word bs) ss))
words_taken n bs cs ss own st =
    let few : length (take n ss) ≤ n = omega (arith, length-take n ss) in (
      are_below n bs cs (take n ss) (own_taken bs ss n own) few st,
      words_below n bs cs (take n ss) (own_taken bs ss n own) few st ∙ sym (take-map (long_word bs) n ss),
    )

-- One more word, whose integer is put to those beyond 32 bits.
pub words_pushed : (bs cs : List Beyond) (ss : List Short) (s : Short) (w : Word) → AreOwn bs ss → Stays bs cs → IsOwn cs (length ss) s → long_word cs s ≡ w
    → AreOwn cs (ss ++ s ∷ []) × (map (long_word cs) (ss ++ s ∷ []) ≡ map (long_word bs) ss ++ w ∷ [])
words_pushed bs cs ss s w own st last means = (
  λ i lt. go i lt (cases_lt i (length ss)),
  map-append (long_word cs) ss (s ∷ [])
      ∙ ap (λ ws. ws ++ long_word cs s ∷ []) (words_below (length ss) bs cs ss own (omega arith) (stays_below (length ss) bs cs st))
      ∙ ap (λ v. map (long_word bs) ss ++ v ∷ []) means,
)
  where
    kept : AreOwn cs ss
    kept = are_below (length ss) bs cs ss own (omega arith) (stays_below (length ss) bs cs st)

    go : (i : ℕ) → i < length (ss ++ s ∷ []) → (i < length ss) ⊎ (length ss ≤ i) → IsOwn cs i (get_or (ss ++ s ∷ []) i no_short)
    go i lt (inl below) = subst (IsOwn cs i) (sym (get_or_append_left ss (s ∷ []) no_short i below)) (kept i below)
    go i lt (inr past) =
        let here : i ≡ length ss = omega (arith, length-append ss (s ∷ [])) in
        subst (λ k. IsOwn cs k (get_or (ss ++ s ∷ []) k no_short)) (sym here)
        (subst (IsOwn cs (length ss)) (sym (get_or-append_seam ss s [] no_short)) last)

-- The integers of the word at one place stay.
abbrev StaysAt : ℕ → List Beyond → List Beyond → Type 0
StaysAt n bs cs =
    (k : ℕ) → k < length bs → (get_or bs k no_beyond).at ≡ n → (k < length cs) × (get_or cs k no_beyond ≡ get_or bs k no_beyond)

own_at : (bs cs : List Beyond) (at : ℕ) (s : Short) → StaysAt at bs cs → IsOwn bs at s → IsOwn cs at s
own_at bs cs at Free st own = tt
own_at bs cs at (Slot i) st own = tt
own_at bs cs at (Number i) st own = tt
own_at bs cs at (Name a) st own = tt
own_at bs cs at (Term k) st own = tt
own_at bs cs at (Wide k) st own =
    let q = st k own.0 own.1 in
    (q.0, ap (λ (b : Beyond). b.at) q.1 ∙ own.1)

value_at : (bs cs : List Beyond) (at : ℕ) (s : Short) → StaysAt at bs cs → IsOwn bs at s → value_word cs s ≡ value_word bs s
value_at bs cs at Free st own = refl
value_at bs cs at (Slot i) st own = refl
value_at bs cs at (Number i) st own = refl
value_at bs cs at (Name a) st own = refl
value_at bs cs at (Term k) st own = refl
value_at bs cs at (Wide k) st own = ap (λ (b : Beyond). Some (Int b.value)) (st k own.0 own.1).1

-- One place is written, and the integers of all others stay.
pub values_set : (bs cs : List Beyond) (ss : List Short) (i : ℕ) (s : Short) (w : Option Word) → AreOwn bs ss → i < length ss
    → ((j : ℕ) → j ≢ i → StaysAt j bs cs) → IsOwn cs i s → value_word cs s ≡ w
    → AreOwn cs (set ss i s) × (map (value_word cs) (set ss i s) ≡ set (map (value_word bs) ss) i w)
values_set bs cs ss i s w own inside st here means = (
  λ j lt. owned j (subst (λ n. j < n) (length-set ss i s) lt) (j == i) refl,
  ext_get_or None (map (value_word cs) (set ss i s)) (set (map (value_word bs) ss) i w) long
      (λ j lt. same j (subst (λ n. j < n) (length-map (set ss i s) (value_word cs) ∙ length-set ss i s) lt) (j == i) refl),
)
  where
    long : length (map (value_word cs) (set ss i s)) ≡ length (set (map (value_word bs) ss) i w)
    long =
        length-map (set ss i s) (value_word cs) ∙ length-set ss i s ∙ sym (length-map ss (value_word bs))
        ∙ sym (length-set (map (value_word bs) ss) i w)

    other : (j : ℕ) → (j == i) ≡ false → j ≢ i
    other j e k = false≢true (sym e ∙ (Decides-eqb j i).1 k)

    owned : (j : ℕ) → j < length ss → (q : Bool) → (j == i) ≡ q → IsOwn cs j (get_or (set ss i s) j no_short)
    owned j lt true e =
        subst (λ k. IsOwn cs k (get_or (set ss i s) k no_short)) (sym ((Decides-eqb j i).0 e))
        (subst (IsOwn cs i) (sym (get_or-set_same ss i s no_short inside)) here)
    owned j lt false e =
        subst (IsOwn cs j) (sym (get_or-set_other ss i j s no_short (other j e)))
        (own_at bs cs j (get_or ss j no_short) (st j (other j e)) (own j lt))

    read : (j : ℕ) → j < length ss → get_or (map (value_word cs) (set ss i s)) j None ≡ value_word cs (get_or (set ss i s) j no_short)
    read j lt = get_or-map (value_word cs) (set ss i s) j no_short None (subst (λ n. j < n) (sym (length-set ss i s)) lt)

    same : (j : ℕ) → j < length ss → (q : Bool) → (j == i) ≡ q
        → get_or (map (value_word cs) (set ss i s)) j None ≡ get_or (set (map (value_word bs) ss) i w) j None
    same j lt true e =
        read j lt
        ∙ subst (λ k. value_word cs (get_or (set ss i s) k no_short) ≡ get_or (set (map (value_word bs) ss) i w) k None) (sym ((Decides-eqb j i).0 e))
        (ap (value_word cs) (get_or-set_same ss i s no_short inside) ∙ means
        ∙ sym (get_or-set_same (map (value_word bs) ss) i w None (subst (λ n. i < n) (sym (length-map ss (value_word bs))) inside)))
    same j lt false e =
        read j lt ∙ ap (value_word cs) (get_or-set_other ss i j s no_short (other j e))
        ∙ value_at bs cs j (get_or ss j no_short) (st j (other j e)) (own j lt)
        ∙ sym (get_or-map (value_word bs) ss j no_short None lt)
        ∙ sym (get_or-set_other (map (value_word bs) ss) i j w None (other j e))

-- All integers stay.
pub values_kept : (bs cs : List Beyond) (ss : List Short) → AreOwn bs ss → Stays bs cs → AreOwn cs ss × (map (value_word cs) ss ≡ map (value_word bs) ss)
values_kept bs cs ss own st = (
  are_below (length ss) bs cs ss own (omega arith) (stays_below (length ss) bs cs st),
  ext_get_or None (map (value_word cs) ss) (map (value_word bs) ss) (length-map ss (value_word cs) ∙ sym (length-map ss (value_word bs)))
      (λ i lt.
      let inside : i < length ss = subst (λ m. i < m) (length-map ss (value_word cs)) lt in
      get_or-map (value_word cs) ss i no_short None inside
      ∙ value_at bs cs i (get_or ss i no_short) (λ k below _. st k below) (own i inside)
      ∙ sym (get_or-map (value_word bs) ss i no_short None inside)),
)

-- The variable at a place is bound.
pub values_bound : (bs cs : List Beyond) (ss : List Short) (i : ℕ) (s : Short) (w : Word) → AreOwn bs ss → i < length ss → Stays bs cs → IsOwn cs i s
    → value_word cs s ≡ Some w → AreOwn cs (set ss i s) × (map (value_word cs) (set ss i s) ≡ set (map (value_word bs) ss) i (Some w))
values_bound bs cs ss i s w own inside st here means = values_set bs cs ss i s (Some w) own inside (λ j ne k lt _. st k lt) here means

-- The variable at a place is made unbound.
pub values_cleared : (bs cs : List Beyond) (ss : List Short) (i : ℕ) → AreOwn bs ss → i < length ss → StaysBut i bs cs
    → AreOwn cs (set ss i Free) × (map (value_word cs) (set ss i Free) ≡ set (map (value_word bs) ss) i None)
values_cleared bs cs ss i own inside st = values_set bs cs ss i Free None own inside (λ j ne k lt e. st k lt (λ x. ne (sym e ∙ x))) tt refl

-- One more variable, which is unbound.
pub values_more : (bs : List Beyond) (ss : List Short) → AreOwn bs ss
    → AreOwn bs (ss ++ Free ∷ []) × (map (value_word bs) (ss ++ Free ∷ []) ≡ map (value_word bs) ss ++ None ∷ [])
values_more bs ss own = (λ i lt. go i lt (cases_lt i (length ss)), map-append (value_word bs) ss (Free ∷ []))
  where
    go : (i : ℕ) → i < length (ss ++ Free ∷ []) → (i < length ss) ⊎ (length ss ≤ i) → IsOwn bs i (get_or (ss ++ Free ∷ []) i no_short)
    go i lt (inl below) = subst (IsOwn bs i) (sym (get_or_append_left ss (Free ∷ []) no_short i below)) (own i below)
    go i lt (inr past) =
        let here : i ≡ length ss = omega (arith, length-append ss (Free ∷ [])) in
        subst (λ k. IsOwn bs k (get_or (ss ++ Free ∷ []) k no_short)) (sym here)
        (subst (IsOwn bs (length ss)) (sym (get_or-append_seam ss Free [] no_short)) tt)

pub values_taken : (bs : List Beyond) (ss : List Short) (n : ℕ) → AreOwn bs ss
    → AreOwn bs (take n ss) × (map (value_word bs) (take n ss) ≡ take n (map (value_word bs) ss))
values_taken bs ss n own = (own_taken bs ss n own, sym (take-map (value_word bs) n ss))

pub inside_values : (bs : List Beyond) (ss : List Short) (vs : List (Option Word)) (i : ℕ) → map (value_word bs) ss ≡ vs → i < length vs → i < length ss
inside_values bs ss vs i e lt = subst (λ n. i < n) (ap length (sym e) ∙ length-map ss (value_word bs)) lt

-- A short word that is no integer beyond 32 bits stands for one word whatever integers there are.
pub plain_own : (bs : List Beyond) (at : ℕ) (s : Short) → IsPlain s → IsOwn bs at s
plain_own bs at Free plain = tt
plain_own bs at (Slot i) plain = tt
plain_own bs at (Number i) plain = tt
plain_own bs at (Name a) plain = tt
plain_own bs at (Term k) plain = tt
plain_own bs at (Wide k) plain = absurd plain

pub plain_same : (bs cs : List Beyond) (s : Short) → IsPlain s → long_word bs s ≡ long_word cs s
plain_same bs cs Free plain = refl
plain_same bs cs (Slot i) plain = refl
plain_same bs cs (Number i) plain = refl
plain_same bs cs (Name a) plain = refl
plain_same bs cs (Term k) plain = refl
plain_same bs cs (Wide k) plain = absurd plain

stays_same : (bs : List Beyond) → Stays bs bs
stays_same bs k lt = (lt, refl)

-- One more word, which is no integer beyond 32 bits.
pub plain_pushed : (bs : List Beyond) (ss : List Short) (s : Short) (w : Word) → AreOwn bs ss → IsPlain s → long_word bs s ≡ w
    → AreOwn bs (ss ++ s ∷ []) × (map (long_word bs) (ss ++ s ∷ []) ≡ map (long_word bs) ss ++ w ∷ [])
plain_pushed bs ss s w own plain means = words_pushed bs bs ss s w own (stays_same bs) (plain_own bs (length ss) s plain) means

-- The word at a place of a list.
pub word_of_short : (bs : List Beyond) (ss : List Short) (ws : List Word) (i : ℕ) → map (long_word bs) ss ≡ ws → i < length ws
    → get_or ws i (Int (pos 0)) ≡ long_word bs (get_or ss i no_short)
word_of_short bs ss ws i e lt =
    sym (ap (λ (vs : List Word). get_or vs i (Int (pos 0))) e)
    ∙ get_or-map (long_word bs) ss i no_short (Int (pos 0)) (subst (λ n. i < n) (ap length (sym e) ∙ length-map ss (long_word bs)) lt)

pub plain_value : (bs cs : List Beyond) (s : Short) → IsPlain s → value_word bs s ≡ value_word cs s
plain_value bs cs Free plain = refl
plain_value bs cs (Slot i) plain = refl
plain_value bs cs (Number i) plain = refl
plain_value bs cs (Name a) plain = refl
plain_value bs cs (Term k) plain = refl
plain_value bs cs (Wide k) plain = absurd plain

pub value_of_short : (bs : List Beyond) (ss : List Short) (vs : List (Option Word)) (i : ℕ) → map (value_word bs) ss ≡ vs → i < length vs
    → get_or vs i None ≡ value_word bs (get_or ss i no_short)
value_of_short bs ss vs i e lt =
    sym (ap (λ (us : List (Option Word)). get_or us i None) e)
    ∙ get_or-map (value_word bs) ss i no_short None (inside_values bs ss vs i e lt)

-- One place is written with a word that is no integer beyond 32 bits.
pub values_plain : (bs : List Beyond) (ss : List Short) (i : ℕ) (s : Short) (w : Option Word) → AreOwn bs ss → i < length ss → IsPlain s → value_word bs s ≡ w
    → AreOwn bs (set ss i s) × (map (value_word bs) (set ss i s) ≡ set (map (value_word bs) ss) i w)
values_plain bs ss i s w own inside plain means =
    values_set bs bs ss i s w own inside (λ j ne k lt _. (lt, refl)) (plain_own bs i s plain) means

-- What a short word stands for that is no integer beyond 32 bits.
pub plain_word : (s : Short) (w : Word) → IsPlain s → IsShort s w → long_word [] s ≡ w
plain_word s w plain k = plain_same [] k.beyond s plain ∙ k.is

pub word_is : (s t : Short) (w : Word) → IsPlain t → s ≡ t → IsShort s w → w ≡ long_word [] t
word_is s t w plain e k = sym k.is ∙ ap (long_word k.beyond) e ∙ plain_same k.beyond [] t plain

-- A short word that stands for some word, if it is not the one for none.
pub some_word : (bs : List Beyond) (s : Short) → s ≢ Free → value_word bs s ≡ Some (long_word bs s)
some_word bs Free ne = absurd (ne refl)
some_word bs (Slot i) ne = refl
some_word bs (Number i) ne = refl
some_word bs (Name a) ne = refl
some_word bs (Term k) ne = refl
some_word bs (Wide k) ne = refl
