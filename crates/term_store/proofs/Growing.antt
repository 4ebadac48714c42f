-- A heap that has gained variables and compound terms.
use Rattle.std.proofs.Common.{◌≡◌, ◌⊎◌, inl, inr, ℕ, zero, ◌+◌, ◌-◌, ◌<◌, ◌≤◌, List, [], ◌∷◌, ◌++◌, length, get_or, map, take, drop, Option, Some, None, cond, length-take, length-drop, refl, sym, ap, ap₂, subst, ◌∙◌, arith, length-append, append-nil}
use Rattle.std.specs.List.{All}
use Rattle.std.proofs.Math.Seq.{get_or-append_seam, drop-append_seam, take-length}
use Rattle.std.proofs.lemmas.Bool.{cases_lt}
use Rattle.std.proofs.lemmas.List.{get_or_append_left, get_or-append_right, take-append-drop}
use Rattle.std.proofs.lemmas.List.Elements.{All-head, All-tail, All-nil, All-weaker}
use Rattle.pl_term.specs.Tree.{atom, compound}
use Rattle.pl_model.specs.Unify.{bound}
use Rattle.pl_model.proofs.UnifyReplace.{eqb_other}
use Rattle.term_store.specs.declared.words.Word.{Word}
use Rattle.term_store.specs.declared.words.Word.TheVariants.{Var, Int, Atom, Comp}
use Rattle.term_store.specs.declared.words.Head.{Head}
use Rattle.term_store.specs.declared.words.Bond.{Bond}
use Rattle.term_store.specs.Heap.{Heap, atom_name, words_of, built, compounds, raw, equations_of, solved, bindings, meaning, fair, find}
use Rattle.term_store.specs.Fit.{IsWord, IsIn, IsHead, IsBond, OnceFrom, Fit, IsCache, no_head}
use Rattle.term_store.specs.Making.{with_more, with_args, with_number, Keeps, Made}
use Rattle.term_store.proofs.Building.{built-append, length-built, built-keeps, built-longer, heads_from, word_tree-same, words_of-longer, map-same}
use Rattle.term_store.proofs.Opening.{opened}

compounds-longer : (h : Heap) (gs : List Head) (ws : List Word) (ns : List ℕ) → Fit h → (j : ℕ) → j < length h.heads
    → get_or (compounds (h.numbers ++ ns) (h.args ++ ws) (h.heads ++ gs)) j (atom []) ≡ get_or (compounds h.numbers h.args h.heads) j (atom [])
unfolding compounds
compounds-longer h gs ws ns fit j lt =
    ap (λ ts. get_or ts j (atom [])) (built-append (h.numbers ++ ns) (h.args ++ ws) h.heads gs [])
    ∙ built-keeps (h.numbers ++ ns) (h.args ++ ws) gs (built (h.numbers ++ ns) (h.args ++ ws) h.heads []) j (atom [])
    (omega (arith, length-built (h.numbers ++ ns) (h.args ++ ws) h.heads []))
    ∙ ap (λ ts. get_or ts j (atom []))
    (built-longer h.numbers ns h.args ws h.heads [] (heads_from (length h.numbers) h.args zero h.heads (λ i below. subst (λ k. IsHead (length h.numbers) h.args k (get_or h.heads i no_head)) (from_zero i) (fit.heads i below))))
  where
    from_zero : (i : ℕ) → i ≡ zero + i
    from_zero i = omega arith

pub raw-longer : (h : Heap) (gs : List Head) (ws : List Word) (ns : List ℕ) (w : Word) → Fit h → IsIn h w → raw (with_more h gs ws ns) w ≡ raw h w
raw-longer h gs ws ns w fit inside =
    word_tree-same h.numbers (h.numbers ++ ns) (compounds h.numbers h.args h.heads) (compounds (h.numbers ++ ns) (h.args ++ ws) (h.heads ++ gs))
    (length h.numbers) (length h.heads) w inside (λ i lt. get_or_append_left h.numbers ns 0 i lt) (λ j lt. compounds-longer h gs ws ns fit j lt)

equations_of-longer : (h : Heap) (gs : List Head) (ws : List Word) (ns : List ℕ) (bs : List Bond) → Fit h → All (IsBond (length h.numbers) (length h.heads)) bs
    → equations_of (h.numbers ++ ns) (compounds (h.numbers ++ ns) (h.args ++ ws) (h.heads ++ gs)) bs ≡ equations_of h.numbers (compounds h.numbers h.args h.heads) bs
equations_of-longer h gs ws ns [] fit all = refl
equations_of-longer h gs ws ns (b ∷ bs) fit all =
    let one = All-head (IsBond (length h.numbers) (length h.heads)) b bs all in
    ap₂ (λ e es. e ∷ es)
    (ap₂ (λ x t. (x, t)) (get_or_append_left h.numbers ns 0 b.slot one.slot) (raw-longer h gs ws ns b.word fit one.word))
    (equations_of-longer h gs ws ns bs fit (All-tail (IsBond (length h.numbers) (length h.heads)) b bs all))

bindings-longer : (h : Heap) (gs : List Head) (ws : List Word) (ns : List ℕ) → Fit h → bindings (with_more h gs ws ns) ≡ bindings h
unfolding bindings
bindings-longer h gs ws ns fit = ap (solved []) (equations_of-longer h gs ws ns h.trail fit fit.bonds)

pub meaning-longer : (h : Heap) (gs : List Head) (ws : List Word) (ns : List ℕ) (w : Word) → Fit h → IsIn h w
    → meaning (with_more h gs ws ns) w ≡ meaning h w
meaning-longer h gs ws ns w fit inside =
    ap₂ bound (bindings-longer h gs ws ns fit) (raw-longer h gs ws ns w fit inside)

more_words : (n m k l : ℕ) (w : Word) → n ≤ m → k ≤ l → IsWord n k w → IsWord m l w
more_words n m k l (Var i) a b h = omega arith
more_words n m k l (Int i) a b h = tt
more_words n m k l (Atom i) a b h = tt
more_words n m k l (Comp j) a b h = omega arith

pub inside-longer : (h : Heap) (gs : List Head) (ws : List Word) (ns : List ℕ) (w : Word) → IsIn h w → IsIn (with_more h gs ws ns) w
inside-longer h gs ws ns w inside =
    more_words (length h.numbers) (length (h.numbers ++ ns)) (length h.heads) (length (h.heads ++ gs)) w
    (omega (arith, length-append h.numbers ns)) (omega (arith, length-append h.heads gs)) inside

pub keeps_longer : (h : Heap) (gs : List Head) (ws : List Word) (ns : List ℕ) → Fit h → Keeps h (with_more h gs ws ns)
keeps_longer h gs ws ns fit =
    record { inside = λ w inside. inside-longer h gs ws ns w inside; means = λ w inside. meaning-longer h gs ws ns w fit inside }

head-longer : (n m : ℕ) (args ws : List Word) (k : ℕ) (g : Head) → n ≤ m → IsHead n args k g → IsHead m (args ++ ws) k g
head-longer n m args ws k g le fits =
    record {
      some = fits.some;
      within = omega (arith, fits.within, length-append args ws);
      earlier =
          subst (λ vs. All (IsWord m k) vs) (sym (words_of-longer args ws g fits.within))
          (All-weaker (IsWord n k) (IsWord m k) (λ w inside. more_words n m k k w le (omega arith) inside) (words_of args g) fits.earlier);
    }

bond-longer : (n m k l : ℕ) → n ≤ m → k ≤ l → (b : Bond) → IsBond n k b → IsBond m l b
bond-longer n m k l a b bond fits =
    record { slot = omega (arith, fits.slot); word = more_words n m k l bond.word a b fits.word; falls = fits.falls }

-- The new heads are ones, and the new numbers rise above the others.
pub fit_longer : (h : Heap) (gs : List Head) (ws : List Word) (ns : List ℕ) → Fit h
    → ((j : ℕ) → j < length gs → IsHead (length (h.numbers ++ ns)) (h.args ++ ws) (length h.heads + j) (get_or gs j no_head))
    → ((i j : ℕ) → i < j → j < length (h.numbers ++ ns) → get_or (h.numbers ++ ns) i 0 < get_or (h.numbers ++ ns) j 0)
    → Fit (with_more h gs ws ns)
fit_longer h gs ws ns fit new_heads rises =
    record {
      heads = λ k lt. head_at k lt (cases_lt k (length h.heads));
      rises = rises;
      bonds =
          All-weaker (IsBond (length h.numbers) (length h.heads)) (IsBond (length (h.numbers ++ ns)) (length (h.heads ++ gs)))
          (λ b fits. bond-longer (length h.numbers) (length (h.numbers ++ ns)) (length h.heads) (length (h.heads ++ gs))
          (omega (arith, length-append h.numbers ns)) (omega (arith, length-append h.heads gs)) b fits) h.trail fit.bonds;
      once = fit.once;
      fairly = ap (fair []) (equations_of-longer h gs ws ns h.trail fit fit.bonds) ∙ fit.fairly;
    }
  where
    head_at : (k : ℕ) → k < length (h.heads ++ gs) → (k < length h.heads) ⊎ (length h.heads ≤ k)
        → IsHead (length (h.numbers ++ ns)) (h.args ++ ws) k (get_or (h.heads ++ gs) k no_head)
    head_at k lt (inl below) =
        subst (λ g. IsHead (length (h.numbers ++ ns)) (h.args ++ ws) k g) (sym (get_or_append_left h.heads gs no_head k below))
        (head-longer (length h.numbers) (length (h.numbers ++ ns)) h.args ws k (get_or h.heads k no_head) (omega (arith, length-append h.numbers ns)) (fit.heads k below))
    head_at k lt (inr above) =
        let place : length h.heads + (k - length h.heads) ≡ k = omega arith in
        subst (λ g. IsHead (length (h.numbers ++ ns)) (h.args ++ ws) k g) (sym (get_or-append_right h.heads gs (length h.heads) k no_head refl above))
        (subst (λ j. IsHead (length (h.numbers ++ ns)) (h.args ++ ws) j (get_or gs (k - length h.heads) no_head)) place
        (new_heads (k - length h.heads) (omega (arith, length-append h.heads gs))))

-- One more compound term, whose arguments are these words.
module _ (h : Heap) (name : ℕ) (ws : List Word) where
  abbrev pub with_made : Heap
  with_made = with_more h (record { name = name; start = length h.args; count = length ws } ∷ []) ws []

  made_words : words_of (h.args ++ ws) (record { name = name; start = length h.args; count = length ws }) ≡ ws
  made_words = ap (take (length ws)) (drop-append_seam h.args ws) ∙ take-length ws

  pub fit_made : Fit h → 0 < length ws → All (IsIn h) ws → Fit with_made
  fit_made fit some inside =
      fit_longer h (record { name = name; start = length h.args; count = length ws } ∷ []) ws [] fit
      (λ j lt. only j lt)
      (λ i j lt within. subst (λ ns. get_or ns i 0 < get_or ns j 0) (sym (append-nil h.numbers))
      (fit.rises i j lt (subst (λ ns. j < length ns) (append-nil h.numbers) within)))
    where
      at_zero : (j : ℕ) → j < 1 → j ≡ 0
      at_zero j lt = omega arith

      first_head : IsHead (length (h.numbers ++ [])) (h.args ++ ws) (length h.heads + 0) (record { name = name; start = length h.args; count = length ws })
      first_head =
          record {
            some = some;
            within = omega (arith, length-append h.args ws);
            earlier =
                subst (λ vs. All (IsWord (length (h.numbers ++ [])) (length h.heads + 0)) vs) (sym made_words)
                (All-weaker (IsIn h) (IsWord (length (h.numbers ++ [])) (length h.heads + 0))
                (λ w l. more_words (length h.numbers) (length (h.numbers ++ [])) (length h.heads) (length h.heads + 0) w
                (omega (arith, length-append h.numbers [])) (omega arith) l) ws inside);
          }

      only : (j : ℕ) → j < 1 → IsHead (length (h.numbers ++ [])) (h.args ++ ws) (length h.heads + j)
          (get_or (record { name = name; start = length h.args; count = length ws } ∷ []) j no_head)
      only j lt =
          subst (λ i. IsHead (length (h.numbers ++ [])) (h.args ++ ws) (length h.heads + i)
          (get_or (record { name = name; start = length h.args; count = length ws } ∷ []) i no_head)) (sym (at_zero j lt)) first_head

  pub made : Fit h → 0 < length ws → All (IsIn h) ws → Made h name ws with_made (Comp (length h.heads))
  made fit some inside =
      let d = with_made in
      let g : Head = record { name = name; start = length h.args; count = length ws } in
      let lt : length h.heads < length (h.heads ++ g ∷ []) = omega (arith, length-append h.heads (g ∷ [])) in
      let at : get_or (h.heads ++ g ∷ []) (length h.heads) no_head ≡ g = get_or-append_seam h.heads g [] no_head in
      record {
        longer = record { heads = g ∷ []; args = ws; numbers = []; longer = refl };
        numbers = append-nil h.numbers;
        keeps = keeps_longer h (g ∷ []) ws [] fit;
        inside = lt;
        means =
            opened d (length h.heads) (fit_made fit some inside) lt
            ∙ ap (λ e. compound (atom_name e.name) (map (meaning d) (words_of (h.args ++ ws) e))) at
            ∙ ap (λ vs. compound (atom_name name) (map (meaning d) vs)) made_words
            ∙ ap (compound (atom_name name)) (map-same (meaning d) (meaning h) (IsIn h) ws (λ w l. meaning-longer h (g ∷ []) ws [] w fit l) inside);
      }

abbrev heap : List Head → List Word → List ℕ → List Bond → Heap
heap hs ws ns bs = record { heads = hs; args = ws; numbers = ns; trail = bs }

pub fit_part : (h : Heap) (start : ℕ) → Fit (with_args h (take start h.args)) → Fit h
fit_part h start fit =
    subst Fit (ap₂ (λ hs ws. heap hs ws (h.numbers ++ []) h.trail) (append-nil h.heads) (take-append-drop start h.args) ∙ ap (λ ns. heap h.heads h.args ns h.trail) (append-nil h.numbers))
    (fit_longer (with_args h (take start h.args)) [] (drop start h.args) [] fit (λ j lt. absurd (omega arith))
    (λ i j lt within. subst (λ ns. get_or ns i 0 < get_or ns j 0) (sym (append-nil h.numbers))
    (fit.rises i j lt (subst (λ ns. j < length ns) (append-nil h.numbers) within))))

-- The last words of the arguments are those of a new compound term.
pub finished : (h : Heap) (name start count k : ℕ) (heads : List Head) → Fit (with_args h (take start h.args)) → 0 < count → start + count ≡ length h.args
    → All (IsIn h) (drop start h.args) → heads ≡ h.heads ++ record { name = name; start = start; count = count } ∷ [] → k ≡ length h.heads
    → Fit (heap heads h.args h.numbers h.trail) × Made (with_args h (take start h.args)) name (drop start h.args) (heap heads h.args h.numbers h.trail) (Comp k)
finished h name start count k heads fit some within inside e at = (
  subst Fit same (fit_made before name ws fit some_words inside),
  subst (λ j. Made before name ws (heap heads h.args h.numbers h.trail) (Comp j)) (sym at)
      (subst (λ d. Made before name ws d (Comp (length h.heads))) same (made before name ws fit some_words inside)),
)
  where
    before : Heap
    before = with_args h (take start h.args)

    ws : List Word
    ws = drop start h.args

    length_before : length (take start h.args) ≡ start
    length_before = omega (arith, length-take start h.args)

    length_words : length (drop start h.args) ≡ count
    length_words = omega (arith, length-drop start h.args)

    some_words : 0 < length (drop start h.args)
    some_words = omega (arith, length-drop start h.args)

    same : with_more (with_args h (take start h.args)) (record { name = name; start = length (take start h.args); count = length (drop start h.args) } ∷ []) (drop start h.args) []
        ≡ heap heads h.args h.numbers h.trail
    same =
        ap₂ (λ s n. heap (h.heads ++ record { name = name; start = s; count = n } ∷ []) (take start h.args ++ drop start h.args) (h.numbers ++ []) h.trail)
        length_before length_words
        ∙ ap₂ (λ hs vs. heap hs vs (h.numbers ++ []) h.trail) (sym e) (take-append-drop start h.args)
        ∙ ap (λ ns. heap heads h.args ns h.trail) (append-nil h.numbers)

pub find_absent : (i : ℕ) (bs : List Bond) → All (λ b. b.slot < i) bs → find i bs ≡ None
find_absent i [] all = refl
find_absent i (b ∷ bs) all =
    let lt : b.slot < i = All-head (λ c. c.slot < i) b bs all in
    ap (λ q. cond q (Some b.word) (find i bs)) (eqb_other i b.slot (λ s. absurd (omega arith)))
    ∙ find_absent i bs (All-tail (λ c. c.slot < i) b bs all)

pub fit_number : (h : Heap) (n : ℕ) → Fit h → All (λ m. m < n) h.numbers → Fit (with_number h n)
fit_number h n fit above =
    subst Fit (ap₂ (λ hs ws. heap hs ws (h.numbers ++ n ∷ []) h.trail) (append-nil h.heads) (append-nil h.args))
    (fit_longer h [] [] (n ∷ []) fit (λ j lt. absurd (omega arith)) (λ i j lt within. go i j lt within (cases_lt j (length h.numbers))))
  where
    last : (j : ℕ) → j < length (h.numbers ++ n ∷ []) → length h.numbers ≤ j → j ≡ length h.numbers
    last j a b = omega (arith, length-append h.numbers (n ∷ []))

    go : (i j : ℕ) → i < j → j < length (h.numbers ++ n ∷ []) → (j < length h.numbers) ⊎ (length h.numbers ≤ j)
        → get_or (h.numbers ++ n ∷ []) i 0 < get_or (h.numbers ++ n ∷ []) j 0
    go i j lt within (inl below) =
        let lower : i < length h.numbers = omega arith in
        omega (arith, fit.rises i j lt below, get_or_append_left h.numbers (n ∷ []) 0 i lower, get_or_append_left h.numbers (n ∷ []) 0 j below)
    go i j lt within (inr up) =
        let lower : i < length h.numbers = omega (arith, last j within up) in
        omega (
          arith,
          above i 0 lower,
          get_or_append_left h.numbers (n ∷ []) 0 i lower,
          get_or-append_seam h.numbers n [] 0,
          ap (λ k. get_or (h.numbers ++ n ∷ []) k 0) (last j within up),
        )

pub cache_number : (values : List (Option Word)) (h : Heap) (n : ℕ) → IsCache values h → Fit h → IsCache (values ++ None ∷ []) (with_number h n)
cache_number values h n cache fit =
    record {
      long = omega (arith, length-append values (None ∷ []), length-append h.numbers (n ∷ []), cache.long);
      found = λ i lt. go i lt (cases_lt i (length values));
    }
  where
    slots : All (λ b. b.slot < length values) h.trail
    slots = All-weaker (IsBond (length h.numbers) (length h.heads)) (λ b. b.slot < length values) (λ b fits. omega (arith, fits.slot, cache.long)) h.trail fit.bonds

    go : (i : ℕ) → i < length (values ++ None ∷ []) → (i < length values) ⊎ (length values ≤ i) → get_or (values ++ None ∷ []) i None ≡ find i h.trail
    go i lt (inl below) = get_or_append_left values (None ∷ []) None i below ∙ cache.found i below
    go i lt (inr up) =
        let last : i ≡ length values = omega (arith, length-append values (None ∷ [])) in
        ap (λ k. get_or (values ++ None ∷ []) k None) last ∙ get_or-append_seam values None [] None
        ∙ sym (find_absent (length values) h.trail slots) ∙ ap (λ k. find k h.trail) (sym last)

-- A heap without terms.
pub fit_blank : (values : List (Option Word)) (h : Heap) → h.heads ≡ [] → h.numbers ≡ [] → h.trail ≡ [] → values ≡ [] → Fit h × IsCache values h
fit_blank values h no_heads no_numbers no_bonds no_values = (
  record {
    heads = λ k lt. absurd (omega (arith, ap length no_heads));
    rises = λ i j lt within. absurd (omega (arith, ap length no_numbers));
    bonds = subst (λ bs. All (IsBond (length h.numbers) (length h.heads)) bs) (sym no_bonds) (All-nil (IsBond (length h.numbers) (length h.heads)));
    once = subst (λ bs. OnceFrom [] bs) (sym no_bonds) tt;
    fairly = ap (λ bs. fair [] (equations_of h.numbers (compounds h.numbers h.args h.heads) bs)) no_bonds;
  },
  record {
    long = ap length no_values ∙ sym (ap length no_numbers);
    found = λ i lt. absurd (omega (arith, ap length no_values));
  },
)
