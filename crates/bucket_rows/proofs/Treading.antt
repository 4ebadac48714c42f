-- The collector's walk, step by step, and the loads of a text.
use Rattle.std.proofs.Common.{◌≡◌, ◌≢◌, ℕ, ◌+◌, ◌-◌, List, [], ◌∷◌, ◌++◌, length, refl, sym, ap, ◌∙◌, subst, inl, inr, ⊎_elim, arith, Some, option_map, length-append, append_assoc, append-nil}
use mathlib.Core.List.{map-append}
use Rattle.atom_words.specs.Layout.{first_of}
use Rattle.atom_words.specs.Texts.{bucket, padded}
use Rattle.atom_words.specs.Chains.{In}
use Rattle.atom_words.specs.Kept.{slots}
use Rattle.atom_words.specs.Kinds.{IsAll, at_hand, starting, going_on, spelling, condemning, with_behind, head_of, view_after, after}
use Rattle.atom_words.specs.Ties.{WalkTied}
use Rattle.atom_words.specs.declared.view.Held.{Held}
use Rattle.atom_words.specs.declared.view.Walk.{Walk}
use Rattle.atom_words.specs.declared.view.Sweeping.{Sweeping}
use Rattle.atom_words.specs.declared.view.View.{View}
use Rattle.atom_words.specs.declared.kind.Kind.TheVariants.{Load, Start, Next, Spell, Condemn, Behind}
use Rattle.atom_words.proofs.Slices.{in_none, in_cases, in_either}
use Rattle.atom_words.proofs.Tied.{walk_head_on, walk_word_on}
use Rattle.bucket_rows.specs.Treads.{spells, nexts, Found, Treads}

-- LOADS OF A TEXT
pub spells_keep : {A : Type 0} (f : View → A) → ((v : View) (x : ℕ) → f (view_after v (Spell x)) ≡ f v) → (v : View) (ws : List ℕ) → f (after v (spells ws)) ≡ f v
spells_keep f same v [] = refl
spells_keep f same v (x ∷ ws) = spells_keep f same (view_after v (Spell x)) ws ∙ same v x

pub spells_more : (v : View) (ws : List ℕ) (x : ℕ) → after v (spells (ws ++ x ∷ [])) ≡ view_after (after v (spells ws)) (Spell x)
spells_more v [] x = refl
spells_more v (w ∷ ws) x = spells_more (view_after v (Spell w)) ws x

pub spells_know : (v : View) (y : Sweeping) (ws : List ℕ) → v.sweep ≡ Some y → (after v (spells ws)).sweep ≡ Some (record y { text = y.text ++ ws })
spells_know v y [] e = e ∙ ap (λ (t : List ℕ). let s : Sweeping = record y { text = t } in Some s) (sym (append-nil y.text))
spells_know v y (x ∷ ws) e = spells_know (view_after v (Spell x)) (spelling x y) ws (ap (option_map (spelling x)) e) ∙ ap (λ (t : List ℕ). let s : Sweeping = record y { text = t } in Some s) (append_assoc y.text (x ∷ []) ws)

pub spells_tied : (v : View) (head word : ℕ) (ws : List ℕ) → WalkTied v head word → WalkTied (after v (spells ws)) head word
spells_tied v head word [] t = t
spells_tied v head word (x ∷ ws) t = spells_tied (view_after v (Spell x)) head word ws (refl, refl, t.2)

-- STEPS OF THE WALK
pub nexts_keep : {A : Type 0} (f : View → A) → ((v : View) (x : ℕ) → f (view_after v (Next x)) ≡ f v) → (v : View) (xs : List ℕ) → f (after v (nexts xs)) ≡ f v
nexts_keep f same v [] = refl
nexts_keep f same v (x ∷ xs) = nexts_keep f same (view_after v (Next x)) xs ∙ same v x

pub nexts_more : (v : View) (xs : List ℕ) (x : ℕ) → after v (nexts (xs ++ x ∷ [])) ≡ view_after (after v (nexts xs)) (Next x)
nexts_more v [] x = refl
nexts_more v (y ∷ xs) x = nexts_more (view_after v (Next y)) xs x

pub nexts_tied : (v : View) (head word : ℕ) (xs : List ℕ) → WalkTied v head word → WalkTied (after v (nexts xs)) head word
nexts_tied v head word [] t = t
nexts_tied v head word (x ∷ xs) t = nexts_tied (view_after v (Next x)) head word xs (walk_head_on (going_on x) v.walk head (λ _. refl) t.0, walk_word_on (going_on x) v.walk word (λ _. refl) t.1, t.2)

-- a slot that the walk goes on from is not the one looked for
pub treads_next : (k x n before p l : ℕ) (v : View) → Treads k x n before p v → p ≢ 0 → p ≢ k + 1 → Treads k x (n + 1) p l (view_after v (Next l))
treads_next k x n before p l v t some_ other = let w : Walk = t.walk in let at = t.place in record {
  sweep = t.sweep;
  sweeps = t.sweeps;
  cursor = t.cursor;
  sure = t.sure;
  whole = t.whole;
  linked = t.linked;
  walk = going_on l w;
  at = ap (option_map (going_on l)) t.at;
  head = t.head;
  word = t.word;
  count = length-append w.seen (at_hand w ∷ []) ∙ ap (λ (i : ℕ). i + 1) t.count;
  place = refl;
  last_seen = inr (w.seen, at_hand w, refl, omega arith);
  first = λ none. absurd (omega arith);
  unseen = λ i. ⊎_elim
      t.unseen
      (λ (one : In k ((w.place - 1) ∷ [])). ⊎_elim (λ (e : w.place - 1 ≡ k). other (omega arith)) (λ (none : In k []). in_none k none) (in_cases k (w.place - 1) [] one))
      (in_either k (slots w.seen) ((w.place - 1) ∷ []) (subst (In k) (map-append (λ (a : Held). a.slot) w.seen (at_hand w ∷ [])) i));
}

-- a walk begins at another word of the same head
pub treads_again : (k x n before p y : ℕ) (v : View) → (t : Treads k x n before p v) → Treads k y 0 0 (first_of y) (view_after v (Start t.walk.head y))
treads_again k x n before p y v t = record {
  sweep = t.sweep;
  sweeps = t.sweeps;
  cursor = t.cursor;
  sure = t.sure;
  whole = t.whole;
  linked = t.linked;
  walk = starting t.walk.head y;
  at = refl;
  head = t.head;
  word = refl;
  count = refl;
  place = refl;
  last_seen = inl (refl, refl);
  first = λ _. refl;
  unseen = λ i. in_none k i;
}

-- the first walk begins at the head of the bucket of the text that was spelled
pub treads_start : (k x n : ℕ) (row : List ℕ) (u v t : View) → Found k u → IsAll row → v ≡ after u (spells row) → t ≡ after v (Load 1 n ∷ []) → u.growing.row ≡ n → Treads k x 0 0 (first_of x) (view_after t (Start (bucket n (padded row)) x))
treads_start k x n row u v t f long is loaded known = let y : Sweeping = record f.0 { text = f.0.text ++ row } in let text : f.0.text ++ row ≡ row = ap (λ (l : List ℕ). l ++ row) f.6 in
    let rows : t.growing.row ≡ n = ap (λ (q : View). q.growing.row) loaded ∙ (ap (λ (q : View). q.growing.row) is ∙ (spells_keep (λ (q : View). q.growing.row) (λ _ _. refl) u row ∙ known)) in record {
      sweep = y;
      sweeps = (ap (λ (q : View). q.sweep) loaded ∙ (ap (λ (q : View). q.sweep) is ∙ spells_know u f.0 row f.1.0), f.1.1);
      cursor = f.4;
      sure = f.5;
      whole = subst IsAll (sym text) long;
      linked = f.3;
      walk = starting (bucket n (padded row)) x;
      at = refl;
      head = (λ i. bucket (rows i) (padded (text i)));
      word = refl;
      count = refl;
      place = refl;
      last_seen = inl (refl, refl);
      first = λ _. refl;
      unseen = λ i. in_none k i;
    }

-- the slot is condemned; its link word is read
pub treads_condemn : (k x n before p : ℕ) (v : View) → (t : Treads k x n before p v) → (u : Treads k x n before p (view_after v Condemn)) × (u.sweep.dying ≡ k + 1) × (u.sweep.head ≡ u.walk.head)
treads_condemn k x n before p v t = (
  record {
    sweep = condemning (head_of v.walk) t.sweep;
    sweeps = (ap (option_map (condemning (head_of v.walk))) t.sweeps.0, t.sweeps.1);
    cursor = t.cursor;
    sure = t.sure;
    whole = t.whole;
    linked = refl;
    walk = t.walk;
    at = t.at;
    head = t.head;
    word = t.word;
    count = t.count;
    place = t.place;
    last_seen = t.last_seen;
    first = t.first;
    unseen = t.unseen;
  },
  ap (λ (i : ℕ). i + 1) t.cursor,
  ap head_of t.at,
)

pub treads_behind : (k x n before p l : ℕ) (v : View) → (t : Treads k x n before p v) → (u : Treads k x n before p (view_after v (Behind l))) × (u.sweep ≡ with_behind l t.sweep) × (u.walk ≡ t.walk)
treads_behind k x n before p l v t = (
  record {
    sweep = with_behind l t.sweep;
    sweeps = (ap (option_map (with_behind l)) t.sweeps.0, t.sweeps.1);
    cursor = t.cursor;
    sure = t.sure;
    whole = t.whole;
    linked = t.linked;
    walk = t.walk;
    at = t.at;
    head = t.head;
    word = t.word;
    count = t.count;
    place = t.place;
    last_seen = t.last_seen;
    first = t.first;
    unseen = t.unseen;
  },
  refl,
  refl,
)

-- a walk that has passed no slot stands at the first
pub at_first : (k x n p : ℕ) (v : View) → Treads k x n 0 p v → p ≡ first_of x
at_first k x n p v t = ⊎_elim
    (λ (e : (0 ≡ 0) × (t.walk.seen ≡ [])). t.first (sym t.count ∙ ap length e.1))
    (λ (e : (front : List Held) × (a : Held) × (t.walk.seen ≡ front ++ a ∷ []) × (0 ≡ a.slot + 1)). absurd (let no = e.3 in omega arith))
    t.last_seen
