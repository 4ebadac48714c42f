-- An engine stands for the same where the names alone are held that it has in use. What is held by no name is not shown: two
-- views that give such an atom different texts tell the same state.
use Rattle.std.proofs.Common.{◌≡◌, ◌+◌, ◌≤◌, ◌<◌, ◌^◌, ℕ, zero, suc, true, List, [], ◌∷◌, ◌++◌, flat_map, reverse, Option, Some, None, codes, refl, sym, ap, ap₂, ◌∙◌, arith}
use Rattle.std.specs.List.{All}
use Rattle.std.specs.Str.{all_scalars}
use Rattle.std.proofs.lemmas.Bool.{true≢false}
use Rattle.std.proofs.lemmas.List.Elements.{All-nil, All-cons, All-head, All-tail}
use Rattle.pl_term.specs.Tree.{Chars, Tree, Trees, var, int, atom, comp, none, more}
use Rattle.pl_term.specs.Texts.{size}
use Rattle.pl_model.specs.Resolution as resolution
use Rattle.pl_model.specs.Resolution.{Choice, Output, State}
use Rattle.atom_api.specs.Fixed.{fixed, fixed_texts}
use Rattle.atom_api.specs.FixedNames.{true_name}
use Rattle.atom_api.specs.Names.{FixedStand, Names}
use Rattle.term_store.specs.declared.words.Word.{Word}
use Rattle.term_store.specs.declared.words.Word.TheVariants.{Var, Int, Atom, Comp}
use Rattle.term_store.specs.declared.words.Bond.{Bond}
use Rattle.term_store.specs.declared.words.Place.{Place}
use Rattle.term_store.specs.Heap.{Heap, atom_name}
use Rattle.term_store.specs.NumberedNames.{atoms_in, atoms_in_all, by_number, number_of}
use Rattle.term_store.specs.NumberedNames as numbered
use Rattle.world_api.specs.Texts.{Holds}
use Rattle.world_api.specs.Told.{Told}
use Rattle.iso_search.specs.declared.choices.Alternative.{Alternative}
use Rattle.iso_search.specs.declared.choices.Alternative.TheVariants.{Clauses, Answers, Told as ToldLines, Branch, Barrier, Catch, Findall}
use Rattle.iso_search.specs.declared.choices.ChoicePoint.{ChoicePoint}
use Rattle.iso_search.specs.declared.copies.Copied.{Copied}
use Rattle.iso_search.specs.declared.frames.Frame.{Frame}
use Rattle.iso_search.specs.declared.frames.Task.{Task}
use Rattle.iso_search.specs.declared.frames.Task.TheVariants.{Goal, Commit, Refute, Leave, Collect}
use Rattle.iso_search.specs.declared.told.Constant.{Constant}
use Rattle.iso_search.specs.declared.told.Constant.TheVariants as constants
use Rattle.iso_search.specs.declared.told.Line.{Line}
use Rattle.iso_search.specs.declared.told.Line.TheVariants.{Indicator, Flag, Operator}
use Rattle.iso_search.specs.Reading.{IsView, View}
use Rattle.iso_search.specs.Searching.{choices_of}
use Rattle.iso_search.specs.Spelling.{or_no_text, text_of}
use Rattle.iso_search.proofs.Listing.{All-reverse}
use Rattle.iso_search.proofs.Texts.{texts_apart}
use Rattle.iso_engine.specs.declared.doing.Doing.{Doing}
use Rattle.iso_engine.specs.declared.doing.Doing.TheVariants.{Running, Failing, Throwing, Erasing, Clearing, Answering, Ended}
use Rattle.iso_engine.specs.declared.doing.End.{End}
use Rattle.iso_engine.specs.declared.doing.End.TheVariants.{Solved, NoMore, Threw, Halted, Exited}
use Rattle.iso_engine.specs.declared.doing.Left.{Left}
use Rattle.iso_engine.specs.declared.doing.Left.TheVariants as left
use Rattle.iso_engine.specs.declared.engine.Engine.{Engine}
use Rattle.iso_engine.specs.Ready.{IsAlike, IsReady}
use Rattle.iso_engine.specs.Standing.{doing_of}
use Rattle.iso_engine.specs.Views.{view_of}
use Rattle.iso_engine.proofs.Fresh.{all_left, all_right}
use Rattle.iso_engine.proofs.Solutions.{view_is}
use Rattle.term_store.specs.Live.{cell_atoms, head_atoms, heap_atoms, place_atoms, word_atoms}
use Rattle.iso_search.specs.Live.{alternative_atoms, constant_atoms, line_atoms, search_atoms, task_atoms}
use Rattle.iso_engine.specs.Live.{doing_atoms, end_atoms, engine_atoms, left_atoms}
use Rattle.iso_engine.specs.Kept.{IsKept, StaysKept}
use Rattle.iso_engine.proofs.Naming.{AllNames, AllNamesIn}
use Rattle.iso_engine.proofs.LiveNames.{HeapNamed, WordNamed}
use Rattle.iso_engine.proofs.LiveSearch.{AlternativeNamed, ConstantNamed, LineNamed, PlaceNamed, TaskNamed, choices_seen}
use Rattle.iso_engine.proofs.LiveDoing.{DoingNamed, EndNamed, LeftNamed, doing_seen}

true_is : fixed true_name ≡ Some (codes "true")
unfolding fixed_texts
true_is = refl

-- Texts that are longer than those of atoms.
many : ℕ → Chars
many zero = []
many (suc k) = 97 ∷ many k

many_size : (k : ℕ) → size (many k) ≡ k
unfolding many lib.Utf8.encode
many_size zero = refl
many_size (suc k) = ap suc (many_size k)

many_scalars : (k : ℕ) → all_scalars (many k) ≡ true
unfolding many
many_scalars zero = refl
many_scalars (suc k) = many_scalars k

same_some : (x y : Chars) → Some x ≡ Some y → x ≡ y
same_some x y e = cc

none_some : (x : Chars) → (let o : Option Chars = None in o ≡ Some x) → ⊥
none_some x e = cc

some_none : (x : Chars) → (let o : Option Chars = None in Some x ≡ o) → ⊥
some_none x e = cc

all_reversed : {X : Type 0} (Q : X → Type 0) (xs : List X) → All Q xs → All Q (reverse xs)
all_reversed Q xs a = All-reverse Q xs a

flat_all : {X : Type 0} (Q : ℕ → Type 0) (R : X → Type 0) (f : X → List ℕ) → ((x : X) → All Q (f x) → R x) → (xs : List X) → All Q (flat_map f xs) → All R xs
flat_all Q R f each [] a = All-nil R
flat_all Q R f each (x ∷ xs) a =
    All-cons R x xs (each x (all_left Q (f x) (flat_map f xs) a)) (flat_all Q R f each xs (all_right Q (f x) (flat_map f xs) a))

module _ (m n : Names) (stands : FixedStand m) (unlike : (a b : ℕ) (x : Chars) → m a ≡ Some x → m b ≡ Some x → a ≡ b)
    (finite : (a : ℕ) (x : Chars) → m a ≡ Some x → (a < 2 ^ 32) × (size x ≤ 248) × (all_scalars x ≡ true)) (stay : FixedStand n) (fewer : Holds n m) where
  -- The names by which all atoms that are not held have texts of their own.
  full_text : Option Chars → ℕ → Option Chars
  full_text None a = Some (many (a + 249))
  full_text (Some x) a = Some x

  full : Names
  full a = full_text (m a) a

  full_none : (a : ℕ) → m a ≡ None → full a ≡ Some (many (a + 249))
  unfolding full full_text
  full_none a e = ap (λ o. full_text o a) e

  full_some : (a : ℕ) (x : Chars) → m a ≡ Some x → full a ≡ Some x
  unfolding full full_text
  full_some a x e = ap (λ o. full_text o a) e

  full_unlike : (a b : ℕ) (x : Chars) → full a ≡ Some x → full b ≡ Some x → a ≡ b
  full_unlike a b x h i = go (m a) refl (m b) refl
    where
      long : (k : ℕ) (j : ℕ) → m k ≡ Some (many (j + 249)) → ⊥
      long k j e =
          let le = (finite k (many (j + 249)) e).1
          in let is = many_size (j + 249)
          in absurd (omega (arith, le, is))

      go : (o : Option Chars) → m a ≡ o → (p : Option Chars) → m b ≡ p → a ≡ b
      go (Some y) e (Some z) f =
          let ys : y ≡ x = same_some y x (sym (full_some a y e) ∙ h)
          in let zs : z ≡ x = same_some z x (sym (full_some b z f) ∙ i)
          in unlike a b x (e ∙ ap Some ys) (f ∙ ap Some zs)
      go (Some y) e None f =
          let ys : y ≡ many (b + 249) = same_some y (many (b + 249)) (sym (full_some a y e) ∙ h ∙ sym i ∙ full_none b f)
          in absurd (long a b (e ∙ ap Some ys))
      go None e (Some z) f =
          let zs : z ≡ many (a + 249) = same_some z (many (a + 249)) (sym (full_some b z f) ∙ i ∙ sym h ∙ full_none a e)
          in absurd (long b a (f ∙ ap Some zs))
      go None e None f =
          let same : many (a + 249) ≡ many (b + 249) = same_some (many (a + 249)) (many (b + 249)) (sym (full_none a e) ∙ h ∙ sym i ∙ full_none b f)
          in let sizes : a + 249 ≡ b + 249 = sym (many_size (a + 249)) ∙ ap size same ∙ many_size (b + 249)
          in omega (arith, sizes)

  full_scalars : (a : ℕ) (x : Chars) → full a ≡ Some x → all_scalars x ≡ true
  full_scalars a x h = go (m a) refl
    where
      go : (o : Option Chars) → m a ≡ o → all_scalars x ≡ true
      go None e = ap all_scalars (sym (same_some (many (a + 249)) x (sym (full_none a e) ∙ h))) ∙ many_scalars (a + 249)
      go (Some y) e = ap all_scalars (sym (same_some y x (sym (full_some a y e) ∙ h))) ∙ (finite a y e).2

  full_holds : Holds m full
  full_holds a x e = full_some a x e

  -- What is said of each name of what is in use.
  abbrev Same : ℕ → Type 0
  Same a = n a ≡ m a

  abbrev pub KeepsName : Chars → Type 0
  KeepsName [] = Unit {0}
  KeepsName (a ∷ []) = Same a
  KeepsName (a ∷ (b ∷ bs)) = Unit {0}

  keeps_number : (f : Chars) → Same (number_of f) → KeepsName f
  keeps_number [] h = tt
  keeps_number (a ∷ []) h = h
  keeps_number (a ∷ (b ∷ bs)) h = tt

  knows : (v : View) → Holds n v.names → (f : Chars) → KeepsName f → text_of m f ≡ text_of full f → text_of v.names f ≡ text_of m f
  knows v later [] h e = refl
  knows v later (a ∷ []) h e = go (m a) refl
    where
      go : (o : Option Chars) → m a ≡ o → text_of v.names (a ∷ []) ≡ text_of m (a ∷ [])
      go (Some x) f = ap (or_no_text (a ∷ [])) (later a x (h ∙ f) ∙ sym f)
      go None f =
          let x : text_of m (a ∷ []) ≡ (2 ^ 32 ∷ (a ∷ [])) = ap (or_no_text (a ∷ [])) f
          in let y : text_of full (a ∷ []) ≡ many (a + 249) = ap (or_no_text (a ∷ [])) (full_none a f)
          in let z : (let o : Chars = 2 ^ 32 ∷ (a ∷ []) in o ≡ many (a + 249)) = sym x ∙ e ∙ y
          in absurd (true≢false (sym (many_scalars (a + 249)) ∙ ap all_scalars (sym z)))
  knows v later (a ∷ (b ∷ bs)) h e = refl

  -- Names of terms and places
  mutual
    term_names : (t : Tree) → All Same (atoms_in t) → AllNames KeepsName t
    term_names (var x) h = tt
    term_names (int i) h = tt
    term_names (atom a) h = keeps_number a (All-head Same (number_of a) [] h)
    term_names (comp f t ts) h =
        let inner = All-tail Same (number_of f) (atoms_in t ++ atoms_in_all ts) h
        in (
          keeps_number f (All-head Same (number_of f) (atoms_in t ++ atoms_in_all ts) h),
          (term_names t (all_left Same (atoms_in t) (atoms_in_all ts) inner), terms_names ts (all_right Same (atoms_in t) (atoms_in_all ts) inner)),
        )

    terms_names : (ts : Trees) → All Same (atoms_in_all ts) → AllNamesIn KeepsName ts
    terms_names none h = tt
    terms_names (more t ts) h = (term_names t (all_left Same (atoms_in t) (atoms_in_all ts) h), terms_names ts (all_right Same (atoms_in t) (atoms_in_all ts) h))

  mutual
    number_names : (t : Tree) → All Same (atoms_in t) → AllNames KeepsName (by_number t)
    number_names (var x) h = tt
    number_names (int i) h = tt
    number_names (atom a) h = All-head Same (number_of a) [] h
    number_names (comp f t ts) h =
        let inner = All-tail Same (number_of f) (atoms_in t ++ atoms_in_all ts) h
        in (
          All-head Same (number_of f) (atoms_in t ++ atoms_in_all ts) h,
          (number_names t (all_left Same (atoms_in t) (atoms_in_all ts) inner), numbers_names ts (all_right Same (atoms_in t) (atoms_in_all ts) inner)),
        )

    numbers_names : (ts : Trees) → All Same (atoms_in_all ts) → AllNamesIn KeepsName (numbered.spelled_all (λ f. atom_name (number_of f)) ts)
    numbers_names none h = tt
    numbers_names (more t ts) h =
        (number_names t (all_left Same (atoms_in t) (atoms_in_all ts) h), numbers_names ts (all_right Same (atoms_in t) (atoms_in_all ts) h))

  word_names : (w : Word) → All Same (word_atoms w) → WordNamed KeepsName w
  word_names (Var i) h = tt
  word_names (Int i) h = tt
  word_names (Atom a) h = All-head Same a [] h
  word_names (Comp k) h = tt

  place_names : (p : Place) → All Same (place_atoms p) → PlaceNamed KeepsName p
  place_names p h = word_names p.word h

  heap_names : (h : Heap) → All Same (heap_atoms h) → HeapNamed KeepsName h
  heap_names h a =
      let heads = all_left Same (flat_map head_atoms h.heads) (flat_map word_atoms h.args ++ flat_map (λ b. word_atoms b.word) h.trail) a
      in let rest = all_right Same (flat_map head_atoms h.heads) (flat_map word_atoms h.args ++ flat_map (λ b. word_atoms b.word) h.trail) a
      in record {
        heads = flat_all Same (λ x. KeepsName (atom_name x.name)) head_atoms (λ x k. All-head Same x.name [] k) h.heads heads;
        args = flat_all Same (WordNamed KeepsName) word_atoms word_names h.args (all_left Same (flat_map word_atoms h.args) (flat_map (λ b. word_atoms b.word) h.trail) rest);
        trail =
            flat_all Same (λ (b : Bond). WordNamed KeepsName b.word) (λ b. word_atoms b.word) (λ b k. word_names b.word k) h.trail
            (all_right Same (flat_map word_atoms h.args) (flat_map (λ b. word_atoms b.word) h.trail) rest);
      }

  task_names : (x : Task) → All Same (task_atoms x) → TaskNamed KeepsName x
  task_names (Goal w h) a = place_names w a
  task_names (Commit h) a = tt
  task_names (Refute h) a = tt
  task_names (Leave h) a = tt
  task_names (Collect w h) a = place_names w a

  constant_names : (c : Constant) → All Same (constant_atoms c) → ConstantNamed KeepsName c
  constant_names (constants.Int i) a = tt
  constant_names (constants.Atom x) a = All-head Same x [] a

  line_names : (l : Line) → All Same (line_atoms l) → LineNamed KeepsName l
  line_names (Indicator name arity) a = All-head Same name [] a
  line_names (Flag flag value) a = (All-head Same flag (constant_atoms value) a, constant_names value (All-tail Same flag (constant_atoms value) a))
  line_names (Operator priority specifier name) a =
      (All-head Same specifier (name ∷ []) a, All-head Same name [] (All-tail Same specifier (name ∷ []) a))

  alternative_names : (k : Alternative) → All Same (alternative_atoms k) → AlternativeNamed KeepsName k
  alternative_names (Clauses p w g place) a = place_names w a
  alternative_names (Answers w line) a = place_names w a
  alternative_names (ToldLines w lines line) a = (
    place_names w (all_left Same (place_atoms w) (flat_map line_atoms lines.items) a),
    flat_all Same (LineNamed KeepsName) line_atoms line_names lines.items (all_right Same (place_atoms w) (flat_map line_atoms lines.items) a),
  )
  alternative_names Branch a = tt
  alternative_names Barrier a = tt
  alternative_names (Catch c w) a = (place_names c (all_left Same (place_atoms c) (place_atoms w) a), place_names w (all_right Same (place_atoms c) (place_atoms w) a))
  alternative_names (Findall w found) a = (
    place_names w (all_left Same (place_atoms w) (flat_map (λ c. atoms_in c.term) found.copies.items) a),
    flat_all Same (λ (c : Copied). AllNames KeepsName c.term) (λ c. atoms_in c.term) (λ c k. term_names c.term k) found.copies.items
        (all_right Same (place_atoms w) (flat_map (λ c. atoms_in c.term) found.copies.items) a),
  )

  left_names : (x : Left) → All Same (left_atoms x) → LeftNamed KeepsName x
  left_names left.None a = tt
  left_names (left.Found k f) a = number_names f.clause a
  left_names (left.After place) a = tt

  end_names : (x : End) → All Same (end_atoms x) → EndNamed KeepsName x
  end_names Solved a = tt
  end_names NoMore a = tt
  end_names (Threw b) a = term_names b a
  end_names (Halted k) a = tt
  end_names (Exited b) a = term_names b a

  doing_names : (d : Doing) → All Same (doing_atoms d) → DoingNamed KeepsName d
  doing_names (Running list) a = tt
  doing_names Failing a = tt
  doing_names (Throwing b outer) a = term_names b a
  doing_names (Erasing place list) a = tt
  doing_names (Clearing list g x) a = left_names x a
  doing_names Answering a = tt
  doing_names (Ended x) a = end_names x a

  fewer_unlike : (a b : ℕ) (x : Chars) → n a ≡ Some x → n b ≡ Some x → a ≡ b
  fewer_unlike a b x h i = unlike a b x (fewer a x h) (fewer b x i)

  fewer_finite : (a : ℕ) (x : Chars) → n a ≡ Some x → (a < 2 ^ 32) × (size x ≤ 248) × (all_scalars x ≡ true)
  fewer_finite a x h = finite a x (fewer a x h)

  module _ (t : Told) (e : Engine) (ready : IsReady m t e) (same : All Same (engine_atoms e)) where
    searched : All Same (search_atoms e.search)
    searched = all_left Same (search_atoms e.search) (doing_atoms e.doing) same

    stored : All Same (cell_atoms e.search.store)
    stored =
        all_left Same (cell_atoms e.search.store)
        (flat_map place_atoms e.search.answer.items
        ++ (flat_map (λ f. task_atoms f.task) e.search.frames.items ++ flat_map (λ k. alternative_atoms k.alternative) e.search.choices.items)) searched

    outside : All Same (flat_map place_atoms e.search.answer.items
        ++ (flat_map (λ f. task_atoms f.task) e.search.frames.items ++ flat_map (λ k. alternative_atoms k.alternative) e.search.choices.items))
    outside = all_right Same (cell_atoms e.search.store) _ searched

    inside : HeapNamed KeepsName e.search.store.heap
    inside = heap_names e.search.store.heap stored

    placed : All (PlaceNamed KeepsName) e.search.answer.items
    placed = flat_all Same (PlaceNamed KeepsName) place_atoms place_names e.search.answer.items (all_left Same (flat_map place_atoms e.search.answer.items) _ outside)

    framed : All (λ (f : Frame). TaskNamed KeepsName f.task) e.search.frames.items
    framed =
        flat_all Same (λ (f : Frame). TaskNamed KeepsName f.task) (λ f. task_atoms f.task) (λ f k. task_names f.task k) e.search.frames.items
        (all_left Same (flat_map (λ f. task_atoms f.task) e.search.frames.items) _ (all_right Same (flat_map place_atoms e.search.answer.items) _ outside))

    chosen : All (λ (k : ChoicePoint). AlternativeNamed KeepsName k.alternative) (reverse e.search.choices.items)
    chosen =
        all_reversed (λ (k : ChoicePoint). AlternativeNamed KeepsName k.alternative) e.search.choices.items
        (flat_all Same (λ (k : ChoicePoint). AlternativeNamed KeepsName k.alternative) (λ k. alternative_atoms k.alternative) (λ k a. alternative_names k.alternative a)
        e.search.choices.items
        (all_right Same (flat_map (λ f. task_atoms f.task) e.search.frames.items) _ (all_right Same (flat_map place_atoms e.search.answer.items) _ outside)))

    doings : DoingNamed KeepsName e.doing
    doings = doing_names e.doing (all_right Same (search_atoms e.search) (doing_atoms e.doing) same)

    true_same : Same true_name
    true_same = stay true_name (codes "true") true_is ∙ sym (stands true_name (codes "true") true_is)

    module _ (v : View) (view : IsView v) (alike : IsAlike n t v) where
      by : Names → View
      by k = record { names = k; all = v.all; left = v.left }

      by_all : IsView (by m)
      unfolding by
      by_all = record { fixed = stands; apart = texts_apart m unlike (λ a x h. (finite a x h).2) }

      by_full : IsView (by full)
      unfolding by
      by_full = record { fixed = λ a x h. full_some a x (stands a x h); apart = texts_apart full full_unlike full_scalars }

      alike_all : IsAlike m t (by m)
      unfolding by
      alike_all = record { holds = λ a x h. h; all = alike.all; left = alike.left }

      alike_full : IsAlike m t (by full)
      unfolding by
      alike_full = record { holds = full_holds; all = alike.all; left = alike.left }

      both_choices : choices_of (by m) e.search ≡ choices_of (by full) e.search
      both_choices = (ready.stable (by m) by_all alike_all).0 ∙ sym (ready.stable (by full) by_full alike_full).0

      both_doing : doing_of (by m) e.search e.doing ≡ doing_of (by full) e.search e.doing
      both_doing = (ready.stable (by m) by_all alike_all).1 ∙ sym (ready.stable (by full) by_full alike_full).1

      kept_choices : choices_of v e.search ≡ choices_of (view_of m t) e.search
      unfolding by
      kept_choices =
          choices_seen KeepsName v (by m) (by full) view by_all by_full (knows v alike.holds) tt (λ g k p. refl) e.search.answer.items e.search.store e.search.frames.items
          (reverse e.search.choices.items) inside placed framed chosen both_choices
          ∙ (ready.stable (by m) by_all alike_all).0

      kept_doing : doing_of v e.search e.doing ≡ doing_of (view_of m t) e.search e.doing
      unfolding by
      kept_doing =
          doing_seen KeepsName v (by m) (by full) view by_all by_full (knows v alike.holds) tt true_same (λ g k. refl) (λ g k. refl) (λ g k p. refl) e.search inside framed
          placed e.doing doings both_doing
          ∙ (ready.stable (by m) by_all alike_all).1

    by_fewer : IsView (view_of n t)
    by_fewer = view_is n t stay fewer_unlike fewer_finite

    alike_fewer : IsAlike n t (view_of n t)
    alike_fewer = record { holds = λ a x h. h; all = λ g k may. refl; left = λ g k p may. refl }

    pub kept : IsKept m n t e
    kept =
        let choices = kept_choices (view_of n t) by_fewer alike_fewer
        in let doing = kept_doing (view_of n t) by_fewer alike_fewer
        in record {
          ready =
              record {
                whole = ready.whole;
                stable = λ v view alike. (kept_choices v view alike ∙ sym choices, kept_doing v view alike ∙ sym doing);
              };
          stands =
              λ out.
              ap₂ (λ (d : resolution.Doing) (cs : List Choice).
              let s : State = record { doing = d; choices = cs; next = e.search.next_variable; inferences = e.search.inferences; output = out } in s) doing choices;
        }

pub stays_kept : (e : Engine) → StaysKept e
stays_kept e = λ m n stands unlike finite stay fewer t ready same. kept m n stands unlike finite stay fewer t e ready same
