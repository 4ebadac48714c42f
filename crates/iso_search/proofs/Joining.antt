-- A copy joins those of the choice point at a height.
use Rattle.std.proofs.Common.{◌≡◌, ℕ, zero, suc, ◌+◌, ◌-◌, ◌<◌, ◌≤◌, ◌^◌, true, false, List, [], ◌∷◌, ◌++◌, length, get_or, take, drop, reverse, refl, sym, ap, ap₂, subst, ◌∙◌, ⊎_elim, arith, append_assoc, length-append}
use Rattle.std.specs.List.{All}
use Rattle.std.proofs.lemmas.Bool.{cases_eq}
use Rattle.std.specs.Prelude.{slice_set}
use Rattle.std.proofs.lemmas.List.{drop-set, drop_more, length-reverse, length-take-le, reverse-append, reverse-reverse, set-get_or, take-append-drop, take-set}
use Rattle.std.proofs.lemmas.List.Elements.{All-cons, All-head, All-nil, All-push, All-tail, All-take, All-weaker}
use Rattle.pl_term.specs.Tree.{Tree}
use Rattle.pl_term.specs.Cells.{cells}
use Rattle.pl_term.specs.Variables.{variables}
use Rattle.pl_model.specs.Resolution.{collected_cells}
use Rattle.pl_model.specs.Control.{with_copy}
use Rattle.term_store.specs.declared.words.Place.{Place}
use Rattle.term_store.specs.Contents.{Contents, Holds, IsAbove, back_to}
use Rattle.iso_search.specs.declared.choices.Alternative.{Alternative}
use Rattle.iso_search.specs.declared.choices.Alternative.TheVariants.{Clauses, Answers, Told, Branch, Barrier, Catch, Findall}
use Rattle.iso_search.specs.declared.choices.ChoicePoint.{ChoicePoint}
use Rattle.iso_search.specs.declared.copies.Collection.{Collection}
use Rattle.iso_search.specs.declared.copies.Copied.{Copied}
use Rattle.iso_search.specs.declared.frames.Frame.{Frame}
use Rattle.iso_search.specs.declared.search.Search.{Search}
use Rattle.iso_search.specs.Choices.{AreRests, IsAlternativeIn, choice_at, choices_at, node_behind}
use Rattle.iso_search.specs.Collecting.{CollectsNone, HasCopy, IsJoined, IsNoFindall, IsOlder, IsPutAfter, Rise, cells_held, cells_of, copy_of}
use Rattle.iso_search.specs.Reading.{View, reads}
use Rattle.iso_search.specs.Searching.{IsWhole, choices_of}
use Rattle.iso_search.proofs.Budgets.{base_budget, choices_budget, rests_budget, with_budget}
use Rattle.iso_search.proofs.Collected.{at_height, cells_of-push, held_counted, joined_into, not_joined, past_height, put_cells, older_later, rise_push}
use Rattle.iso_search.proofs.Listing.{All-reverse}
use Rattle.iso_search.proofs.Resting.{length-choices_at}
use Rattle.iso_search.proofs.Wholes.{some_view}

-- No choice point at the height collects.
pub none_joined : (v : View) (ws : List Place) (s : Contents) (fs : List Frame) (ks : List ChoicePoint) (t : Tree) (h : ℕ) → CollectsNone h ks
    → with_copy t h (choices_at v ws s fs ks) ≡ choices_at v ws s fs ks
none_joined v ws s fs [] t h n = refl
none_joined v ws s fs (k ∷ ks) t h n =
    let old = back_to k.mark s in
    let here = choice_at v (reads v old) (node_behind v ws s fs k) k.alternative in
    let others = choices_at v ws old (take k.frames fs) ks in
    let long : length others ≡ length ks = length-choices_at v ws old (take k.frames fs) ks in
    ⊎_elim
    (λ e. at_height t h here others (long ∙ e) ∙ ap (λ c. c ∷ others) (not_joined v (reads v old) (node_behind v ws s fs k) t k.alternative (n.0 e)))
    (λ ne. past_height t h here others (λ e. ne (sym long ∙ e)) ∙ ap (λ cs. here ∷ cs) (none_joined v ws old (take k.frames fs) ks t h n.1))
    (cases_eq (length ks) h)

-- The one at the height has the copy after its others.
module _ (v : View) (c : Copied) (h : ℕ) (was : ChoicePoint) (is : Alternative) (older : List ChoicePoint) (height : length older ≡ h) (put : IsPutAfter c was.alternative is) where
  abbrev now : ChoicePoint
  now = record was { alternative = is }

  pub choices_joined : (ws : List Place) (s : Contents) (fs : List Frame) (newer : List ChoicePoint)
      → choices_at v ws s fs (newer ++ now ∷ older) ≡ with_copy (copy_of v c) h (choices_at v ws s fs (newer ++ was ∷ older))
  choices_joined ws s fs [] =
      let old = back_to was.mark s in
      let others = choices_at v ws old (take was.frames fs) older in
      ap (λ x. x ∷ others) (joined_into v (reads v old) (node_behind v ws s fs was) c was.alternative is put)
      ∙ sym (at_height (copy_of v c) h (choice_at v (reads v old) (node_behind v ws s fs was) was.alternative) others
      (length-choices_at v ws old (take was.frames fs) older ∙ height))
  choices_joined ws s fs (k ∷ newer) =
      let old = back_to k.mark s in
      let here = choice_at v (reads v old) (node_behind v ws s fs k) k.alternative in
      let others = choices_at v ws old (take k.frames fs) (newer ++ was ∷ older) in
      let long : length others ≡ length newer + suc h =
      length-choices_at v ws old (take k.frames fs) (newer ++ was ∷ older) ∙ length-append newer (was ∷ older) ∙ ap (λ n. length newer + suc n) height in
      ap (λ cs. here ∷ cs) (choices_joined ws old (take k.frames fs) newer)
      ∙ sym (past_height (copy_of v c) h here others (λ e. omega (arith, e, long)))

-- Its cells are counted with the others.
module _ (v : View) (c : Copied) (was : ChoicePoint) (is : Alternative) (older : List ChoicePoint) (put : IsPutAfter c was.alternative is) where
  pub cells_joined : (ws : List Place) (s : Contents) (fs : List Frame) (newer : List ChoicePoint)
      → AreRests ws s fs (newer ++ was ∷ older) → AreRests ws s fs (newer ++ record was { alternative = is } ∷ older)
      → collected_cells (choices_at v ws s fs (newer ++ record was { alternative = is } ∷ older))
      ≡ collected_cells (choices_at v ws s fs (newer ++ was ∷ older)) + cells c.term
  cells_joined ws s fs [] r q =
      let old = back_to was.mark s in
      let n = node_behind v ws s fs was in
      let others = choices_at v ws old (take was.frames fs) older in
      let a = held_counted v old (reads v old) n was.alternative others r.0.words in
      let b = held_counted v old (reads v old) n is others q.0.words in
      let more = put_cells c was.alternative is put in
      omega (arith, a, b, more)
  cells_joined ws s fs (k ∷ newer) r q =
      let old = back_to k.mark s in
      let n = node_behind v ws s fs k in
      let a = held_counted v old (reads v old) n k.alternative (choices_at v ws old (take k.frames fs) (newer ++ was ∷ older)) r.0.words in
      let b = held_counted v old (reads v old) n k.alternative (choices_at v ws old (take k.frames fs) (newer ++ record was { alternative = is } ∷ older)) q.0.words in
      let more = cells_joined ws old (take k.frames fs) newer r.1 q.1 in
      omega (arith, a, b, more)

alternative_joined : (s : Contents) (c : Copied) (a b : Alternative) → IsPutAfter c a b → IsAbove c.from s → IsAlternativeIn s a → IsAlternativeIn s b
alternative_joined s c (Findall p f) (Findall q g) h above i = (
  subst (Holds s) (sym h.0) i.0,
  record {
    counted = h.1.1 ∙ ap (λ n. n + cells c.term) i.1.counted ∙ sym (ap cells_of h.1.0 ∙ cells_of-push f.copies.items c);
    above = subst (All (λ (x : Copied). IsAbove x.from s)) (sym h.1.0) (All-push (λ (x : Copied). IsAbove x.from s) f.copies.items c i.1.above above);
  },
)
alternative_joined s c (Findall p f) (Clauses u w g q) h above i = absurd h
alternative_joined s c (Findall p f) (Told w ls line) h above i = absurd h
alternative_joined s c (Findall p f) (Answers w line) h above i = absurd h
alternative_joined s c (Findall p f) Branch h above i = absurd h
alternative_joined s c (Findall p f) Barrier h above i = absurd h
alternative_joined s c (Findall p f) (Catch k w) h above i = absurd h
alternative_joined s c (Clauses u w g q) b h above i = absurd h
alternative_joined s c (Told w ls line) b h above i = absurd h
alternative_joined s c (Answers w line) b h above i = absurd h
alternative_joined s c Branch b h above i = absurd h
alternative_joined s c Barrier b h above i = absurd h
alternative_joined s c (Catch k w) b h above i = absurd h

pub rests_joined : (ws : List Place) (s : Contents) (fs : List Frame) (c : Copied) (was : ChoicePoint) (is : Alternative) (older newer : List ChoicePoint)
    → IsPutAfter c was.alternative is → IsAbove c.from s → AreRests ws s fs (newer ++ was ∷ older)
    → AreRests ws s fs (newer ++ record was { alternative = is } ∷ older)
rests_joined ws s fs c was is older [] put above r = (
  record {
    mark = r.0.mark;
    frames = r.0.frames;
    next = r.0.next;
    base = r.0.base;
    words =
        alternative_joined (back_to was.mark s) c was.alternative is put (All-take (λ m. m < c.from) was.mark.numbers s.heap.numbers above) r.0.words;
  },
  r.1,
)
rests_joined ws s fs c was is older (k ∷ newer) put above r = (
  r.0,
  rests_joined ws (back_to k.mark s) (take k.frames fs) c was is older newer put (All-take (λ m. m < c.from) k.mark.numbers s.heap.numbers above) r.1,
)

older_joined_one : (c : Copied) (n m : ℕ) (a b : Alternative) → c.from ≡ n → n + length (variables c.term) ≤ m → IsPutAfter c a b → IsOlder n a → IsOlder m b
older_joined_one c n m (Findall p f) (Findall q g) from le h o =
    subst (λ cs. Rise zero cs m) (sym h.1.0) (rise_push zero f.copies.items c n m from le o)
older_joined_one c n m (Findall p f) (Clauses u w g q) from le h o = absurd h
older_joined_one c n m (Findall p f) (Told w ls line) from le h o = absurd h
older_joined_one c n m (Findall p f) (Answers w line) from le h o = absurd h
older_joined_one c n m (Findall p f) Branch from le h o = absurd h
older_joined_one c n m (Findall p f) Barrier from le h o = absurd h
older_joined_one c n m (Findall p f) (Catch k w) from le h o = absurd h
older_joined_one c n m (Clauses u w g q) b from le h o = absurd h
older_joined_one c n m (Told w ls line) b from le h o = absurd h
older_joined_one c n m (Answers w line) b from le h o = absurd h
older_joined_one c n m Branch b from le h o = absurd h
older_joined_one c n m Barrier b from le h o = absurd h
older_joined_one c n m (Catch k w) b from le h o = absurd h

pub older_joined : (c : Copied) (n m : ℕ) (was : ChoicePoint) (is : Alternative) (older newer : List ChoicePoint) → c.from ≡ n → n + length (variables c.term) ≤ m
    → IsPutAfter c was.alternative is → All (λ (k : ChoicePoint). IsOlder n k.alternative) (newer ++ was ∷ older)
    → All (λ (k : ChoicePoint). IsOlder m k.alternative) (newer ++ record was { alternative = is } ∷ older)
older_joined c n m was is older [] from le put h =
    let P : ChoicePoint → Type 0 = λ k. IsOlder n k.alternative in
    let Q : ChoicePoint → Type 0 = λ k. IsOlder m k.alternative in
    All-cons Q (record was { alternative = is }) older (older_joined_one c n m was.alternative is from le put (All-head P was older h))
    (All-weaker P Q (λ k o. older_later n m (omega (arith, le)) k.alternative o) older (All-tail P was older h))
older_joined c n m was is older (k ∷ newer) from le put h =
    let P : ChoicePoint → Type 0 = λ x. IsOlder n x.alternative in
    let Q : ChoicePoint → Type 0 = λ x. IsOlder m x.alternative in
    All-cons Q k (newer ++ record was { alternative = is } ∷ older)
    (older_later n m (omega (arith, le)) k.alternative (All-head P k (newer ++ was ∷ older) h))
    (older_joined c n m was is older newer from le put (All-tail P k (newer ++ was ∷ older) h))

-- The choice points from the oldest on

pub turned_split : (xs ys : List ChoicePoint) (k : ChoicePoint) → reverse (xs ++ k ∷ ys) ≡ reverse ys ++ k ∷ reverse xs
turned_split xs ys k =
    reverse-append xs (k ∷ ys) ∙ ap (λ l. l ++ reverse xs) (reverse-append (k ∷ []) ys) ∙ append_assoc (reverse ys) (k ∷ []) (reverse xs)

pub none_below : (h : ℕ) (ks : List ChoicePoint) → length ks ≤ h → CollectsNone h ks
none_below h [] le = tt
none_below h (k ∷ ks) le = ((λ e. absurd (omega (arith, e, le))), none_below h ks (omega (arith, le)))

pub none_at : (h : ℕ) (newer older : List ChoicePoint) (k : ChoicePoint) → length older ≡ h → IsNoFindall k.alternative → CollectsNone h (newer ++ k ∷ older)
none_at h [] older k e none = ((λ _. none), none_below h older (omega (arith, e)))
none_at h (x ∷ newer) older k e none =
    ((λ f. absurd (omega (arith, f, e, length-append newer (k ∷ older)))), none_at h newer older k e none)

-- Each holds no more cells than all together.
pub held_within : (v : View) (ws : List Place) (s : Contents) (fs : List Frame) (ks : List ChoicePoint) → AreRests ws s fs ks
    → All (λ (k : ChoicePoint). cells_held k.alternative ≤ collected_cells (choices_at v ws s fs ks)) ks
held_within v ws s fs [] r = All-nil (λ (k : ChoicePoint). cells_held k.alternative ≤ collected_cells (choices_at v ws s fs []))
held_within v ws s fs (k ∷ ks) r =
    let old = back_to k.mark s in
    let others = choices_at v ws old (take k.frames fs) ks in
    let here = held_counted v old (reads v old) (node_behind v ws s fs k) k.alternative others r.0.words in
    let all = collected_cells (choices_at v ws s fs (k ∷ ks)) in
    All-cons (λ (x : ChoicePoint). cells_held x.alternative ≤ all) k ks (omega (arith, here))
    (All-weaker (λ (x : ChoicePoint). cells_held x.alternative ≤ collected_cells others) (λ (x : ChoicePoint). cells_held x.alternative ≤ all)
    (λ x le. omega (arith, le, here)) ks (held_within v ws old (take k.frames fs) ks r.1))

no_findall : (a : Alternative) → ((p : Place) (f : Collection) → a ≡ Findall p f → ⊥) → IsNoFindall a
no_findall (Clauses p w g k) h = tt
no_findall (Told w ls line) h = tt
no_findall (Answers w line) h = tt
no_findall Branch h = tt
no_findall Barrier h = tt
no_findall (Catch c w) h = tt
no_findall (Findall p f) h = h p f refl

-- The choice point at the height is looked at.
module _ (items : List ChoicePoint) (h : ℕ) (k : ChoicePoint) (lt : h < length items) (at : k ≡ get_or items h k) where
  parted : items ≡ take h items ++ k ∷ drop (h + 1) items
  parted =
      sym (take-append-drop h items) ∙ ap (λ l. take h items ++ l) (drop_more items h k lt ∙ ap (λ x. x ∷ drop (h + 1) items) (sym at))

  height_here : length (reverse (take h items)) ≡ h
  height_here = length-reverse (take h items) ∙ length-take-le h items (omega (arith, lt))

  pub joined_here : (c : Copied) (is : Alternative) → IsPutAfter c k.alternative is
      → IsJoined true c h (reverse items) (reverse (slice_set items h (record k { alternative = is })))
  joined_here c is put =
      let now : ChoicePoint = record k { alternative = is } in
      record {
        newer = reverse (drop (h + 1) items);
        older = reverse (take h items);
        was = k;
        is = is;
        before = ap reverse parted ∙ turned_split (take h items) (drop (h + 1) items) k;
        after =
            ap reverse (sym (take-append-drop h (slice_set items h now)) ∙ ap₂ (λ a b. a ++ b) (take-set items h now) (drop-set items h now lt))
            ∙ turned_split (take h items) (drop (h + 1) items) now;
        height = height_here;
        put = put;
      }

  pub nothing_joined : (c : Copied) → ((p : Place) (f : Collection) → k.alternative ≡ Findall p f → ⊥)
      → IsJoined false c h (reverse items) (reverse (slice_set items h k))
  nothing_joined c other = (
    ap reverse (ap (slice_set items h) at ∙ set-get_or items h k),
    subst (CollectsNone h) (sym (ap reverse parted ∙ turned_split (take h items) (drop (h + 1) items) k))
        (none_at h (reverse (drop (h + 1) items)) (reverse (take h items)) k height_here (no_findall k.alternative other)),
  )

pub none_here : (items : List ChoicePoint) (h : ℕ) (c : Copied) → length items ≤ h → IsJoined false c h (reverse items) (reverse items)
none_here items h c le = (refl, none_below h (reverse items) (omega (arith, length-reverse items, le)))

-- The search after a copy was put to the others.
module _ (e d : Search) (c : Copied) (h next : ℕ) (w : IsWhole e) (j : HasCopy c h (reverse e.choices.items) (reverse d.choices.items))
    (from : c.from ≡ e.next_variable) (le : e.next_variable + length (variables c.term) ≤ next) (room : cells c.term ≤ e.store.budget)
    (kept :
    (let x : Search = record e { store = with_budget e.store (e.store.budget - cells c.term); choices = d.choices; next_variable = next } in d ≡ x)) where
  abbrev ws : List Place
  ws = e.answer.items

  abbrev fs : List Frame
  fs = e.frames.items

  abbrev b : ℕ
  b = e.store.budget - cells c.term

  abbrev put_here : ChoicePoint
  put_here = record j.was { alternative = j.is }

  before_rests : AreRests ws e.store fs (j.newer ++ j.was ∷ j.older)
  before_rests = subst (AreRests ws e.store fs) j.before w.rests

  after_rests : AreRests ws e.store fs (j.newer ++ put_here ∷ j.older)
  after_rests =
      rests_joined ws e.store fs c j.was j.is j.older j.newer j.put (subst (λ n. IsAbove n e.store) (sym from) w.above) before_rests

  joined_cells : (v : View) → b + collected_cells (choices_at v ws (with_budget e.store b) fs (reverse d.choices.items)) ≡ e.budgets.cells
  joined_cells v =
      let was_counted : collected_cells (choices_at v ws e.store fs (j.newer ++ j.was ∷ j.older)) ≡ collected_cells (choices_of v e) =
      ap (λ ks. collected_cells (choices_at v ws e.store fs ks)) (sym j.before) in
      let now_counted : collected_cells (choices_at v ws (with_budget e.store b) fs (reverse d.choices.items)) ≡ collected_cells (choices_at v ws e.store fs (j.newer ++ put_here ∷ j.older)) =
      ap collected_cells (choices_budget v ws e.store fs (reverse d.choices.items) b ∙ ap (choices_at v ws e.store fs) j.after) in
      let more = cells_joined v c j.was j.is j.older j.put ws e.store fs j.newer before_rests after_rests in
      let counted = w.budget v in
      omega (arith, was_counted, now_counted, more, counted, room)

  pub whole_joined : IsWhole d
  whole_joined =
      subst IsWhole (sym kept)
      (record {
        base = base_budget ws e.store fs b w.base;
        rests = subst (AreRests ws (with_budget e.store b) fs) (sym j.after) (rests_budget ws e.store fs (j.newer ++ put_here ∷ j.older) b after_rests);
        budget = joined_cells;
        above = All-weaker (λ m. m < e.next_variable) (λ m. m < next) (λ m lt. omega (arith, lt, le)) e.store.heap.numbers w.above;
        older =
            subst (All (λ (k : ChoicePoint). IsOlder next k.alternative)) (sym j.after)
            (older_joined c e.next_variable next j.was j.is j.older j.newer from le j.put (subst (All (λ (k : ChoicePoint). IsOlder e.next_variable k.alternative)) j.before w.older));
      })

  pub choices_put : (v : View) → choices_of v d ≡ with_copy (copy_of v c) h (choices_of v e)
  choices_put v =
      ap (choices_of v) kept ∙ choices_budget v ws e.store fs (reverse d.choices.items) b ∙ ap (choices_at v ws e.store fs) j.after
      ∙ choices_joined v c h j.was j.is j.older j.height j.put ws e.store fs j.newer
      ∙ ap (λ ks. with_copy (copy_of v c) h (choices_at v ws e.store fs ks)) (sym j.before)

-- The search after a copy was put nowhere.
module _ (e d : Search) (h next : ℕ) (w : IsWhole e) (same : reverse d.choices.items ≡ reverse e.choices.items) (none : CollectsNone h (reverse e.choices.items))
    (le : e.next_variable ≤ next) (kept : (let x : Search = record e { choices = d.choices; next_variable = next } in d ≡ x)) where
  pub whole_unjoined : IsWhole d
  whole_unjoined =
      subst IsWhole (sym kept)
      (record {
        base = w.base;
        rests = subst (AreRests e.answer.items e.store e.frames.items) (sym same) w.rests;
        budget =
            λ v. ap (λ ks. e.store.budget + collected_cells (choices_at v e.answer.items e.store e.frames.items ks)) same ∙ w.budget v;
        above = All-weaker (λ m. m < e.next_variable) (λ m. m < next) (λ m lt. omega (arith, lt, le)) e.store.heap.numbers w.above;
        older =
            subst (All (λ (k : ChoicePoint). IsOlder next k.alternative)) (sym same)
            (All-weaker (λ (k : ChoicePoint). IsOlder e.next_variable k.alternative) (λ (k : ChoicePoint). IsOlder next k.alternative)
            (λ k o. older_later e.next_variable next le k.alternative o) (reverse e.choices.items) w.older);
      })

  pub choices_unjoined : (v : View) (t : Tree) → choices_of v d ≡ with_copy t h (choices_of v e)
  choices_unjoined v t =
      ap (choices_of v) kept ∙ ap (choices_at v e.answer.items e.store e.frames.items) same
      ∙ sym (none_joined v e.answer.items e.store e.frames.items (reverse e.choices.items) t h none)

-- The copy's cells can be counted with those of any choice point.
pub all_countable : (e : Search) (n : ℕ) → IsWhole e → n ≤ e.store.budget → e.budgets.cells < 2 ^ 64
    → All (λ (k : ChoicePoint). cells_held k.alternative + n < 2 ^ 64) e.choices.items
all_countable e n w room few =
    let all = collected_cells (choices_of some_view e) in
    let counted = w.budget some_view in
    let P : ChoicePoint → Type 0 = λ k. cells_held k.alternative + n < 2 ^ 64 in
    subst (All P) (reverse-reverse e.choices.items)
    (All-reverse P (reverse e.choices.items)
    (All-weaker (λ (k : ChoicePoint). cells_held k.alternative ≤ all) P (λ k le. omega (arith, le, counted, room, few)) (reverse e.choices.items)
    (held_within some_view e.answer.items e.store e.frames.items (reverse e.choices.items) w.rests)))
