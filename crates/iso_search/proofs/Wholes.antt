-- Searches that stay whole.
use Rattle.std.proofs.Common.{◌≡◌, ℕ, ◌+◌, ◌<◌, ◌≤◌, ◌^◌, List, [], ◌∷◌, ◌++◌, take, reverse, None, sym, ap, ap₂, subst, ◌∙◌, arith, zero-add}
use Rattle.std.specs.List.{All}
use Rattle.std.proofs.lemmas.List.Elements.{All-cons, All-head, All-tail, All-take, All-weaker}
use Rattle.pl_model.specs.Resolution.{collected_cells}
use Rattle.term_store.specs.declared.words.Place.{Place}
use Rattle.term_store.specs.Contents.{Contents, Adds, IsAbove, back_to}
use Rattle.iso_search.specs.declared.choices.ChoicePoint.{ChoicePoint}
use Rattle.iso_search.specs.declared.frames.Frame.{Frame}
use Rattle.iso_search.specs.declared.search.Search.{Search}
use Rattle.iso_search.specs.Choices.{AreRests, IsAlternativeIn, IsBase, choice_at, choices_at, node_behind}
use Rattle.iso_search.specs.Collecting.{HoldsNone, IsOlder, cells_held}
use Rattle.iso_search.specs.Frames.{tasks}
use Rattle.iso_search.specs.Reading.{View, node_at, reads}
use Rattle.iso_search.specs.Searching.{IsWhole, choices_of, node_of}
use Rattle.iso_search.proofs.Budgets.{base_budget, choices_budget, rests_budget, with_budget}
use Rattle.iso_search.proofs.Collected.{held_counted, nothing_held, older_empty, older_later}
use Rattle.iso_search.proofs.Heights.{newest_first}
use Rattle.iso_search.proofs.Instances.{base_added, choices_kept, rests_kept}
use Rattle.iso_search.proofs.Resting.{older_choices, older_rests}

-- Some view: what holds under every view holds under this one.
pub some_view : View
some_view = record { names = λ a. None; all = λ t g. []; left = λ t g p. [] }

-- The store has gained terms, variables, bindings or cells.
pub whole_added : (e : Search) (s : Contents) (next : ℕ) → Adds e.store s → s.budget ≡ e.store.budget → e.next_variable ≤ next → IsAbove next s → IsWhole e
    → IsWhole (record e { store = s; next_variable = next })
whole_added e s next adds budget le above w =
    record {
      base = base_added e.answer.items e.store s e.frames.items adds w.base;
      rests = rests_kept e.answer.items e.store s e.frames.items (reverse e.choices.items) adds w.rests;
      budget =
          λ v. ap₂ (λ n m. n + m) budget
          (ap collected_cells (choices_kept v e.answer.items e.store s e.frames.items (reverse e.choices.items) adds w.rests))
          ∙ w.budget v;
      above = above;
      older =
          All-weaker (λ k. IsOlder e.next_variable k.alternative) (λ k. IsOlder next k.alternative) (λ k h. older_later e.next_variable next le k.alternative h)
          (reverse e.choices.items) w.older;
    }

moved : (n m k : ℕ) → n + m + k ≡ n + (m + k)
moved n m k = omega arith

-- The newest choice point

module _ (e : Search) (ks : List ChoicePoint) (k : ChoicePoint) (split : e.choices.items ≡ ks ++ k ∷ []) (w : IsWhole e) where
  abbrev ws : List Place
  ws = e.answer.items

  abbrev fs : List Frame
  fs = e.frames.items

  turned : reverse e.choices.items ≡ k ∷ reverse ks
  turned = ap reverse split ∙ newest_first ks k

  pub rests_here : AreRests ws e.store fs (k ∷ reverse ks)
  rests_here = subst (AreRests ws e.store fs) turned w.rests

  older_here : All (λ (x : ChoicePoint). IsOlder e.next_variable x.alternative) (k ∷ reverse ks)
  older_here = subst (All (λ (x : ChoicePoint). IsOlder e.next_variable x.alternative)) turned w.older

  pub newest_older : IsOlder e.next_variable k.alternative
  newest_older = All-head (λ (x : ChoicePoint). IsOlder e.next_variable x.alternative) k (reverse ks) older_here

  pub choices_here : (v : View) → choices_of v e
      ≡ choice_at v (reads v (back_to k.mark e.store)) (node_behind v ws e.store fs k) k.alternative
      ∷ choices_at v ws (back_to k.mark e.store) (take k.frames fs) (reverse ks)
  choices_here v = ap (choices_at v ws e.store fs) turned

  counted_here : (v : View) → e.store.budget + (cells_held k.alternative + collected_cells (choices_at v ws (back_to k.mark e.store) (take k.frames fs) (reverse ks)))
      ≡ e.budgets.cells
  counted_here v =
      ap (λ n. e.store.budget + n)
      (sym (ap collected_cells (choices_here v)
      ∙ held_counted v (back_to k.mark e.store) (reads v (back_to k.mark e.store)) (node_behind v ws e.store fs k) k.alternative
      (choices_at v ws (back_to k.mark e.store) (take k.frames fs) (reverse ks)) rests_here.0.words))
      ∙ w.budget v

  -- The cells that it holds fit in the budget.
  pub release_fits : e.budgets.cells < 2 ^ 64 → e.store.budget + cells_held k.alternative < 2 ^ 64
  release_fits few = let c = counted_here some_view in omega (arith, c, few)

  -- It is dropped.
  pub whole_dropped : (d : Search) → d.choices.items ≡ ks
      → (let x : Search = record e { store = with_budget e.store (e.store.budget + cells_held k.alternative); choices = d.choices } in d ≡ x)
      → IsWhole d
  whole_dropped d left kept =
      let b = e.store.budget + cells_held k.alternative in
      let turned_left : reverse d.choices.items ≡ reverse ks = ap reverse left in
      subst IsWhole (sym kept)
      (record {
        base = base_budget ws e.store fs b w.base;
        rests =
            subst (AreRests ws (with_budget e.store b) fs) (sym turned_left)
            (rests_budget ws e.store fs (reverse ks) b (older_rests ws e.store fs k (reverse ks) rests_here));
        budget =
            λ v.
            let older : choices_at v ws (back_to k.mark e.store) (take k.frames fs) (reverse ks) ≡ choices_at v ws (with_budget e.store b) fs (reverse d.choices.items) =
            older_choices v ws e.store fs k (reverse ks) rests_here ∙ sym (choices_budget v ws e.store fs (reverse ks) b)
            ∙ ap (choices_at v ws (with_budget e.store b) fs) (sym turned_left) in
            ap (λ cs. b + collected_cells cs) (sym older) ∙ moved e.store.budget (cells_held k.alternative) _ ∙ counted_here v;
        above = w.above;
        older =
            subst (All (λ (x : ChoicePoint). IsOlder e.next_variable x.alternative)) (sym turned_left)
            (All-tail (λ (x : ChoicePoint). IsOlder e.next_variable x.alternative) k (reverse ks) older_here);
      })

  -- It is gone back to.
  pub whole_back : (d : Search) → d.choices.items ≡ ks → d.frames.items ≡ take k.frames fs
      → (let x : Search = record e {
        store = with_budget (back_to k.mark e.store) (e.store.budget + cells_held k.alternative);
        frames = d.frames;
        choices = d.choices;
      } in d ≡ x)
      → IsWhole d
  whole_back d left shorter kept =
      let b = e.store.budget + cells_held k.alternative in
      let s = back_to k.mark e.store in
      let turned_left : reverse d.choices.items ≡ reverse ks = ap reverse left in
      let both : (P : List Frame → List ChoicePoint → Type 0) → P (take k.frames fs) (reverse ks) → P d.frames.items (reverse d.choices.items) =
      λ P p. subst (λ l. P l (reverse d.choices.items)) (sym shorter) (subst (P (take k.frames fs)) (sym turned_left) p) in
      subst IsWhole (sym kept)
      (record {
        base = both (λ l cs. IsBase ws (with_budget s b) l) (base_budget ws s (take k.frames fs) b rests_here.0.base);
        rests = both (λ l cs. AreRests ws (with_budget s b) l cs) (rests_budget ws s (take k.frames fs) (reverse ks) b rests_here.1);
        budget =
            λ v. both (λ l cs. b + collected_cells (choices_at v ws (with_budget s b) l cs) ≡ e.budgets.cells)
            (ap (λ cs. b + collected_cells cs) (choices_budget v ws s (take k.frames fs) (reverse ks) b)
            ∙ moved e.store.budget (cells_held k.alternative) _ ∙ counted_here v);
        above = All-take (λ m. m < e.next_variable) k.mark.numbers e.store.heap.numbers w.above;
        older =
            subst (All (λ (x : ChoicePoint). IsOlder e.next_variable x.alternative)) (sym turned_left)
            (All-tail (λ (x : ChoicePoint). IsOlder e.next_variable x.alternative) k (reverse ks) older_here);
      })

  pub choices_back : (d : Search) → d.choices.items ≡ ks → d.frames.items ≡ take k.frames fs
      → (let x : Search = record e {
        store = with_budget (back_to k.mark e.store) (e.store.budget + cells_held k.alternative);
        frames = d.frames;
        choices = d.choices;
      } in d ≡ x)
      → (v : View) → choices_of v e ≡ choice_at v (reads v d.store) (node_of v d k.next) k.alternative ∷ choices_of v d
  choices_back d left shorter kept v =
      let b = e.store.budget + cells_held k.alternative in
      let s = back_to k.mark e.store in
      let x : Search = record e { store = with_budget s b; frames = d.frames; choices = d.choices } in
      choices_here v
      ∙ ap (λ cs. choice_at v (reads v s) (node_behind v ws e.store fs k) k.alternative ∷ cs) (sym (choices_budget v ws s (take k.frames fs) (reverse ks) b))
      ∙ ap₂ (λ l cs. choice_at v (reads v s) (node_at (reads v s) (tasks l k.next) ws k.mark.used) k.alternative ∷ choices_at v ws (with_budget s b) l cs)
      (sym shorter) (sym (ap reverse left))
      ∙ ap (λ (y : Search). choice_at v (reads v y.store) (node_of v y k.next) k.alternative ∷ choices_of v y) (sym kept)

-- A choice point is made.
pub whole_chosen : (e d : Search) (k : ChoicePoint) → (let x : Search = record e { choices = d.choices } in d ≡ x) → d.choices.items ≡ e.choices.items ++ k ∷ []
    → AreRests e.answer.items e.store e.frames.items (k ∷ reverse e.choices.items)
    → HoldsNone k.alternative → IsAlternativeIn e.store k.alternative
    → ((v : View) → choices_of v d ≡ choice_at v (reads v e.store) (node_of v e k.next) k.alternative ∷ choices_of v e)
    → IsWhole e → IsWhole d
whole_chosen e d k kept more rests none inside choices w =
    let turned : reverse d.choices.items ≡ k ∷ reverse e.choices.items = ap reverse more ∙ newest_first e.choices.items k in
    let x : Search = record e { choices = d.choices } in
    subst IsWhole (sym kept)
    (record {
      base = w.base;
      rests = subst (AreRests e.answer.items e.store e.frames.items) (sym turned) rests;
      budget =
          λ v.
          let none_held = nothing_held e.store k.alternative inside none in
          let same : choices_of v x ≡ choices_of v d = ap (choices_of v) (sym kept) in
          let more_cells = ap collected_cells (same ∙ choices v) ∙ held_counted v e.store (reads v e.store) (node_of v e k.next) k.alternative (choices_of v e) inside in
          ap (λ n. e.store.budget + n) (more_cells ∙ ap (λ n. n + collected_cells (choices_of v e)) none_held ∙ zero-add (collected_cells (choices_of v e)))
          ∙ w.budget v;
      above = w.above;
      older =
          subst (All (λ (y : ChoicePoint). IsOlder e.next_variable y.alternative)) (sym turned)
          (All-cons (λ (y : ChoicePoint). IsOlder e.next_variable y.alternative) k (reverse e.choices.items) (older_empty e.next_variable k.alternative none) w.older);
    })
