-- What findall/3 has collected, by the definition.
use Rattle.std.proofs.Common.{◌≡◌, ℕ, zero, ◌+◌, ◌≤◌, List, [], ◌∷◌, ◌++◌, length, map, cond, refl, sym, ap, ap₂, subst, ◌∙◌, arith, zero-add}
use Rattle.std.specs.List.{All}
use Rattle.std.proofs.lemmas.Bool.{eq-eqb, ne_eqb}
use Rattle.std.proofs.lemmas.List.{map-append}
use Rattle.std.proofs.lemmas.List.Elements.{All-cons, All-head, All-nil, All-tail}
use Rattle.pl_term.specs.Tree.{Tree}
use Rattle.pl_term.specs.Cells.{cells}
use Rattle.pl_term.specs.Variables.{variables}
use Rattle.pl_model.specs.Resolution.{Choice, Node, findall, collected_cells, sum_of_cells}
use Rattle.pl_model.specs.Control.{copied_into, with_copy}
use Rattle.term_store.specs.declared.words.Place.{Place}
use Rattle.term_store.specs.Contents.{Contents}
use Rattle.iso_search.specs.declared.choices.Alternative.{Alternative}
use Rattle.iso_search.specs.declared.choices.Alternative.TheVariants.{Clauses, Answers, Told, Branch, Barrier, Catch, Findall}
use Rattle.iso_search.specs.declared.copies.Copied.{Copied}
use Rattle.iso_search.specs.Choices.{IsAlternativeIn, choice_at}
use Rattle.iso_search.specs.Collecting.{IsOlder, HoldsNone, IsNoFindall, IsPutAfter, Rise, cells_held, cells_of, copy_of, copy_over}
use Rattle.iso_search.specs.Reading.{View}
use Rattle.iso_search.specs.Spelling.{text_of}
use Rattle.iso_search.proofs.Copying.{cells-renamed, cells-spelled}

-- Cells

pub cells-copy : (v : View) (c : Copied) → cells (copy_of v c) ≡ cells c.term
cells-copy v c = cells-spelled (text_of v.names) (copy_over c) ∙ cells-renamed c.from c.term

pub sum_copies : (v : View) (cs : List Copied) → sum_of_cells (map (copy_of v) cs) ≡ cells_of cs
sum_copies v [] = refl
sum_copies v (c ∷ cs) = ap₂ (λ n m. n + m) (cells-copy v c) (sum_copies v cs)

pub cells_of-push : (cs : List Copied) (c : Copied) → cells_of (cs ++ c ∷ []) ≡ cells_of cs + cells c.term
cells_of-push [] c = omega arith
cells_of-push (x ∷ cs) c = let e = cells_of-push cs c in omega (arith, e)

-- The cells that a choice point holds are those that the definition counts.
pub held_counted : (v : View) (s : Contents) (r : Place → Tree) (n : Node) (a : Alternative) (cs : List Choice) → IsAlternativeIn s a
    → collected_cells (choice_at v r n a ∷ cs) ≡ cells_held a + collected_cells cs
held_counted v s r n (Clauses p w g k) cs i = sym (zero-add (collected_cells cs))
held_counted v s r n (Told w ls line) cs i = sym (zero-add (collected_cells cs))
held_counted v s r n (Answers w line) cs i = sym (zero-add (collected_cells cs))
held_counted v s r n Branch cs i = sym (zero-add (collected_cells cs))
held_counted v s r n Barrier cs i = sym (zero-add (collected_cells cs))
held_counted v s r n (Catch c w) cs i = sym (zero-add (collected_cells cs))
held_counted v s r n (Findall w f) cs i =
    ap (λ k. k + collected_cells cs) (sum_copies v f.copies.items ∙ sym i.1.counted)

pub nothing_held : (s : Contents) (a : Alternative) → IsAlternativeIn s a → HoldsNone a → cells_held a ≡ 0
nothing_held s (Clauses p w g k) i h = refl
nothing_held s (Told w ls line) i h = refl
nothing_held s (Answers w line) i h = refl
nothing_held s Branch i h = refl
nothing_held s Barrier i h = refl
nothing_held s (Catch c w) i h = refl
nothing_held s (Findall w f) i h = i.1.counted ∙ ap cells_of h

-- Numbers of variables

pub rise_later : (low : ℕ) (cs : List Copied) (n m : ℕ) → n ≤ m → Rise low cs n → Rise low cs m
rise_later low [] n m le r = omega (arith, le, r)
rise_later low (c ∷ cs) n m le r = (r.0, rise_later (c.from + length (variables c.term)) cs n m le r.1)

pub older_later : (n m : ℕ) → n ≤ m → (a : Alternative) → IsOlder n a → IsOlder m a
older_later n m le (Clauses p w g k) r = tt
older_later n m le (Told w ls line) r = tt
older_later n m le (Answers w line) r = tt
older_later n m le Branch r = tt
older_later n m le Barrier r = tt
older_later n m le (Catch c w) r = tt
older_later n m le (Findall w f) r = rise_later zero f.copies.items n m le r

pub older_empty : (n : ℕ) (a : Alternative) → HoldsNone a → IsOlder n a
older_empty n (Clauses p w g k) h = tt
older_empty n (Told w ls line) h = tt
older_empty n (Answers w line) h = tt
older_empty n Branch h = tt
older_empty n Barrier h = tt
older_empty n (Catch c w) h = tt
older_empty n (Findall w f) h = subst (λ cs. Rise zero cs n) (sym h) (omega arith)

-- A copy whose numbers begin where the others have ended.
pub rise_push : (low : ℕ) (cs : List Copied) (c : Copied) (n m : ℕ) → c.from ≡ n → n + length (variables c.term) ≤ m → Rise low cs n → Rise low (cs ++ c ∷ []) m
rise_push low [] c n m from le r = (omega (arith, from, r), omega (arith, from, le))
rise_push low (x ∷ cs) c n m from le r = (r.0, rise_push (x.from + length (variables x.term)) cs c n m from le r.1)

pub rise_above : (low : ℕ) (cs : List Copied) (high : ℕ) → Rise low cs high → All (λ c. low ≤ c.from) cs
rise_above low [] high r = All-nil (λ (c : Copied). low ≤ c.from)
rise_above low (c ∷ cs) high r =
    All-cons (λ (x : Copied). low ≤ x.from) c cs r.0
    (weaken cs (rise_above (c.from + length (variables c.term)) cs high r.1))
  where
    weaken : (xs : List Copied) → All (λ (x : Copied). c.from + length (variables c.term) ≤ x.from) xs → All (λ (x : Copied). low ≤ x.from) xs
    weaken [] h = All-nil (λ (x : Copied). low ≤ x.from)
    weaken (x ∷ xs) h =
        let first = All-head (λ (y : Copied). c.from + length (variables c.term) ≤ y.from) x xs h in
        All-cons (λ (y : Copied). low ≤ y.from) x xs (omega (arith, first, r.0))
        (weaken xs (All-tail (λ (y : Copied). c.from + length (variables c.term) ≤ y.from) x xs h))

pub rise_within : (low : ℕ) (cs : List Copied) (high : ℕ) → Rise low cs high → low ≤ high
rise_within low [] high r = r
rise_within low (c ∷ cs) high r =
    let rest = rise_within (c.from + length (variables c.term)) cs high r.1 in omega (arith, r.0, rest)

-- A copy joins those of a choice point

pub joined_into : (v : View) (r : Place → Tree) (n : Node) (c : Copied) (a b : Alternative) → IsPutAfter c a b
    → choice_at v r n b ≡ copied_into (copy_of v c) (choice_at v r n a)
joined_into v r n c (Findall p f) (Findall q g) h =
    ap₂ (λ x ts. findall (r x) ts n) h.0 (ap (map (copy_of v)) h.1.0 ∙ map-append (copy_of v) f.copies.items (c ∷ []))
joined_into v r n c (Findall p f) (Clauses u w g q) h = absurd h
joined_into v r n c (Findall p f) (Told w ls line) h = absurd h
joined_into v r n c (Findall p f) (Answers w line) h = absurd h
joined_into v r n c (Findall p f) Branch h = absurd h
joined_into v r n c (Findall p f) Barrier h = absurd h
joined_into v r n c (Findall p f) (Catch k w) h = absurd h
joined_into v r n c (Clauses u w g q) b h = absurd h
joined_into v r n c (Told w ls line) b h = absurd h
joined_into v r n c (Answers w line) b h = absurd h
joined_into v r n c Branch b h = absurd h
joined_into v r n c Barrier b h = absurd h
joined_into v r n c (Catch k w) b h = absurd h

pub not_joined : (v : View) (r : Place → Tree) (n : Node) (t : Tree) (a : Alternative) → IsNoFindall a → copied_into t (choice_at v r n a) ≡ choice_at v r n a
not_joined v r n t (Clauses p w g k) h = refl
not_joined v r n t (Told w ls line) h = refl
not_joined v r n t (Answers w line) h = refl
not_joined v r n t Branch h = refl
not_joined v r n t Barrier h = refl
not_joined v r n t (Catch c w) h = refl
not_joined v r n t (Findall w f) h = absurd h

pub at_height : (t : Tree) (h : ℕ) (c : Choice) (cs : List Choice) → length cs ≡ h → with_copy t h (c ∷ cs) ≡ copied_into t c ∷ cs
at_height t h c cs e = ap (λ b. cond b (copied_into t c ∷ cs) (c ∷ with_copy t h cs)) (eq-eqb (length cs) h e)

pub past_height : (t : Tree) (h : ℕ) (c : Choice) (cs : List Choice) → (length cs ≡ h → ⊥) → with_copy t h (c ∷ cs) ≡ c ∷ with_copy t h cs
past_height t h c cs ne = ap (λ b. cond b (copied_into t c ∷ cs) (c ∷ with_copy t h cs)) (ne_eqb (length cs) h ne)

-- The cells of the copy are counted with the others.
pub put_cells : (c : Copied) (a b : Alternative) → IsPutAfter c a b → cells_held b ≡ cells_held a + cells c.term
put_cells c (Findall p f) (Findall q g) h = h.1.1
put_cells c (Findall p f) (Clauses u w g q) h = absurd h
put_cells c (Findall p f) (Told w ls line) h = absurd h
put_cells c (Findall p f) (Answers w line) h = absurd h
put_cells c (Findall p f) Branch h = absurd h
put_cells c (Findall p f) Barrier h = absurd h
put_cells c (Findall p f) (Catch k w) h = absurd h
put_cells c (Clauses u w g q) b h = absurd h
put_cells c (Told w ls line) b h = absurd h
put_cells c (Answers w line) b h = absurd h
put_cells c Branch b h = absurd h
put_cells c Barrier b h = absurd h
put_cells c (Catch k w) b h = absurd h
