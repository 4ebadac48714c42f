-- The atoms that a seat holds, as a map from atoms to texts.
use Rattle.std.proofs.Common.{◌≡◌, ◌≢◌, ℕ, zero, suc, ◌+◌, ◌<◌, ◌≤◌, Bool, true, false, List, [], ◌∷◌, ◌++◌, map, refl, sym, ap, ◌∙◌, subst, inl, inr, ⊎_elim, arith, append_assoc, Option, Some, None, option_map}
use Rattle.std.proofs.Math.Path.{fun_ext}
use Rattle.std.proofs.Math.Dec.{leb}
use Rattle.std.specs.Prelude.{◌==◌, ◌||◌, ◌&&◌, slice_get, if◌then◌else◌}
use Rattle.std.specs.List.{list_any, list_all}
use Rattle.std.specs.Option.{is_some, IsSome}
use Rattle.std.specs.Str.{all_scalars}
use Rattle.std.proofs.lemmas.Bool.{cases_eq, cases_Bool, eq-eqb, ne_eqb, leb-true}
use mathlib.Core.List.{map-append}
use Rattle.std.proofs.lemmas.Option.{same_Some}
use mathlib.Core.Option.{some}
use lib.ListN.{get_elem?}
use Rattle.pl_term.specs.Tree.{Chars}
use Rattle.pl_term.specs.Texts.{size}
use Rattle.atom_words.specs.Chains.{In}
use Rattle.atom_words.specs.Kinds.{after}
use Rattle.atom_words.specs.Seats.{seen, Same, Has}
use Rattle.atom_words.specs.declared.size.Size.{Size}
use Rattle.atom_words.specs.declared.view.Held.{Held}
use Rattle.atom_words.specs.declared.view.View.{View}
use Rattle.atom_words.specs.declared.words.Words.{Words}
use Rattle.atom_words.specs.declared.words.AtomSeat.{AtomSeat}
use Rattle.atom_words.specs.declared.kind.Kind.TheVariants.{Keep}
use Rattle.atom_words.proofs.Slices.{in_later, in_cases, in_append}
use Rattle.bucket_rows.specs.Walks.{spelled}
use Rattle.atom_api.specs.Fixed.{fixed, fixed_texts, numbered}
use Rattle.atom_api.specs.Names.{Names, with_name, cut}
use Rattle.atom_api.specs.Interns.{Interns, asked_with}
use Rattle.atom_api.specs.declared.interned.Interned.{Interned}
use Rattle.atom_api.specs.declared.interned.Interned.TheVariants.{Is, Full, Again, TooLong, Worn, Memory}
use Rattle.atom_table.specs.Holding.{unspelled, Sits, Sound, Answers, asked_after}
use Rattle.atom_table.specs.Opening.{fixed_slot, fixed_slots}
use Rattle.atom_table.specs.Naming.{named, names, requests, those, Lawful}
use Rattle.atom_table.proofs.Settling.{sound_from}
use Rattle.atom_table.proofs.Spelling.{unspelled_spelled}

-- THE MAP, BY ITS FIRST SLOT
named_here : (a : Held) (hs : List Held) (k : ℕ) → k ≡ a.slot → named (a ∷ hs) k ≡ Some (unspelled a.text)
named_here a hs k e = ap (λ (b : Bool). if b then Some (unspelled a.text) else named hs k) (eq-eqb k a.slot e)

named_else : (a : Held) (hs : List Held) (k : ℕ) → k ≢ a.slot → named (a ∷ hs) k ≡ named hs k
named_else a hs k e = ap (λ (b : Bool). if b then Some (unspelled a.text) else named hs k) (ne_eqb k a.slot e)

with_here : (m : Names) (a : ℕ) (t : Chars) (k : ℕ) → k ≡ a → with_name m a t k ≡ Some t
with_here m a t k e = ap (λ (b : Bool). if b then Some t else m k) (eq-eqb k a e)

with_else : (m : Names) (a : ℕ) (t : Chars) (k : ℕ) → k ≢ a → with_name m a t k ≡ m k
with_else m a t k e = ap (λ (b : Bool). if b then Some t else m k) (ne_eqb k a e)

-- a text that the map has is that of a slot of the list
pub named_in : (hs : List Held) (k : ℕ) (t : Chars) → named hs k ≡ Some t → (a : Held) × In a hs × (a.slot ≡ k) × (unspelled a.text ≡ t)
named_in [] k t e = cc
named_in (a ∷ hs) k t e = elim (cases_eq k a.slot) [
  | inl is ↦ (a, (0, refl), sym is, same_Some (unspelled a.text) t (sym (named_here a hs k is) ∙ e))
  | inr ne ↦ let q = named_in hs k t (sym (named_else a hs k ne) ∙ e) in (q.0, in_later q.0 a hs q.1, q.2, q.3)
]

-- the slots of that number have that text
abbrev pub Agree : List Held → ℕ → List ℕ → Type 0
Agree hs k row = (a : Held) → In a hs → a.slot ≡ k → a.text ≡ row

-- one slot more at the end
pub named_snoc : (hs : List Held) (k : ℕ) (row : List ℕ) (q : ℕ) → Agree hs k row → named (hs ++ record { slot = k; text = row } ∷ []) q ≡ with_name (named hs) k (unspelled row) q
named_snoc [] k row q agree = refl
named_snoc (a ∷ hs) k row q agree = let last : Held = record { slot = k; text = row } in elim (cases_eq q a.slot) [
  | inl is ↦ named_here a (hs ++ last ∷ []) q is ∙ elim (cases_eq q k) [
    | inl same ↦ ap (λ (r : List ℕ). Some (unspelled r)) (agree a (0, refl) (sym is ∙ same)) ∙ sym (with_here (named (a ∷ hs)) k (unspelled row) q same)
    | inr ne ↦ sym (with_else (named (a ∷ hs)) k (unspelled row) q ne ∙ named_here a hs q is)
  ]
  | inr ne ↦ named_else a (hs ++ last ∷ []) q ne ∙ (named_snoc hs k row q (λ c j. agree c (in_later c a hs j)) ∙ ap (λ (o : Option Chars). if q == k then Some (unspelled row) else o) (sym (named_else a hs q ne)))
]

-- two lists one after the other
pub append_some : (hs bs : List Held) (k : ℕ) (t : Chars) → named hs k ≡ Some t → named (hs ++ bs) k ≡ Some t
append_some [] bs k t e = cc
append_some (a ∷ hs) bs k t e = elim (cases_eq k a.slot) [
  | inl is ↦ named_here a (hs ++ bs) k is ∙ (sym (named_here a hs k is) ∙ e)
  | inr ne ↦ named_else a (hs ++ bs) k ne ∙ append_some hs bs k t (sym (named_else a hs k ne) ∙ e)
]

pub append_none : (hs bs : List Held) (k : ℕ) → named hs k ≡ None → named (hs ++ bs) k ≡ named bs k
append_none [] bs k e = refl
append_none (a ∷ hs) bs k e = elim (cases_eq k a.slot) [
  | inl is ↦ absurd (let no : Some (unspelled a.text) ≡ None = sym (named_here a hs k is) ∙ e in cc)
  | inr ne ↦ named_else a (hs ++ bs) k ne ∙ append_none hs bs k (sym (named_else a hs k ne) ∙ e)
]

-- ONLY SOME SLOTS
those_in : (live : List ℕ) (hs : List Held) (a : Held) → In a (those live hs) → In a hs
those_in live [] a i = i
those_in live (b ∷ hs) a i = elim (cases_Bool (list_any (λ k. k == b.slot) live)) [
  | inl e ↦ ⊎_elim (λ (is : b ≡ a). subst (λ (x : Held). In x (b ∷ hs)) is (0, refl)) (λ (j : In a (those live hs)). in_later a b hs (those_in live hs a j)) (in_cases a b (those live hs) (subst (In a) (ap (λ (t : Bool). if t then b ∷ those live hs else those live hs) e) i))
  | inr e ↦ in_later a b hs (those_in live hs a (subst (In a) (ap (λ (t : Bool). if t then b ∷ those live hs else those live hs) e) i))
]

pub only_those : (live : List ℕ) (hs : List Held) (a : Held) → In a (those live hs) → In a hs
only_those live hs a i = those_in live hs a i

any_at : (live : List ℕ) (k j : ℕ) (b : Bool) → k ≡ j → list_any (λ i. i == j) live ≡ b → list_any (λ i. i == k) live ≡ b
any_at live k j b same e = ap (λ (q : ℕ). list_any (λ i. i == q) live) same ∙ e

those_named : (live : List ℕ) (hs : List Held) (k : ℕ) → named (those live hs) k ≡ (if list_any (λ j. j == k) live then named hs k else None)
those_named live [] k = elim (cases_Bool (list_any (λ j. j == k) live)) [
  | inl e ↦ sym (ap (λ (b : Bool). if b then named [] k else None) e)
  | inr e ↦ sym (ap (λ (b : Bool). if b then named [] k else None) e)
]
those_named live (a ∷ hs) k =
    let step : (b : Bool) → list_any (λ j. j == a.slot) live ≡ b → named (those live (a ∷ hs)) k ≡ named (if b then a ∷ those live hs else those live hs) k = (λ b e. ap (λ (t : Bool). named (if t then a ∷ those live hs else those live hs) k) e) in
    elim (cases_Bool (list_any (λ j. j == a.slot) live)) [
      | inl e ↦ step true e ∙ elim (cases_eq k a.slot) [
        | inl is ↦ named_here a (those live hs) k is ∙ sym (ap (λ (b : Bool). if b then named (a ∷ hs) k else None) (any_at live k a.slot true is e) ∙ named_here a hs k is)
        | inr ne ↦ named_else a (those live hs) k ne ∙ (those_named live hs k ∙ ap (λ (o : Option Chars). if list_any (λ j. j == k) live then o else None) (sym (named_else a hs k ne)))
      ]
      | inr e ↦ step false e ∙ (those_named live hs k ∙ elim (cases_eq k a.slot) [
        | inl is ↦ ap (λ (b : Bool). if b then named hs k else None) (any_at live k a.slot false is e) ∙ sym (ap (λ (b : Bool). if b then named (a ∷ hs) k else None) (any_at live k a.slot false is e))
        | inr ne ↦ ap (λ (o : Option Chars). if list_any (λ j. j == k) live then o else None) (sym (named_else a hs k ne))
      ])
    ]

-- THE FIXED ATOMS
fixed_named : (n : ℕ) (ts : List Chars) (k : ℕ) → named (map fixed_slot (numbered n ts)) (n + k) ≡ option_map (λ t. unspelled (spelled t)) (slice_get ts k)
fixed_named n [] k = refl
fixed_named n (t ∷ ts) zero = named_here (record { slot = n; text = spelled t }) (map fixed_slot (numbered (n + 1) ts)) (n + 0) (omega arith)
fixed_named n (t ∷ ts) (suc k) = let first : Held = record { slot = n; text = spelled t } in let on : n + suc k ≡ n + 1 + k = omega arith in
    named_else first (map fixed_slot (numbered (n + 1) ts)) (n + suc k) (λ e. omega arith) ∙ (ap (named (map fixed_slot (numbered (n + 1) ts))) on ∙ fixed_named (n + 1) ts k)

both : (a b : Bool) → (a && b) ≡ true → (a ≡ true) × (b ≡ true)
both true b e = (refl, e)
both false b e = cc

abbrev fits : Chars → Bool
fits t = leb (size t) 248 && all_scalars t

all_fit : list_all fits fixed_texts ≡ true
unfolding fixed_texts lib.Utf8.encode
all_fit = refl

fit_at : (ts : List Chars) (k : ℕ) (t : Chars) → list_all fits ts ≡ true → slice_get ts k ≡ Some t → (size t ≤ 248) × (all_scalars t ≡ true)
fit_at [] k t r e = cc
fit_at (u ∷ ts) zero t r e = let f = both (leb (size u) 248) (all_scalars u) (both (fits u) (list_all fits ts) r).0 in subst (λ (x : Chars). (size x ≤ 248) × (all_scalars x ≡ true)) (same_Some u t e) (leb-true (size u) 248 f.0, f.1)
fit_at (u ∷ ts) (suc k) t r e = fit_at ts k t (both (fits u) (list_all fits ts) r).1 e

fixed_some : (k : ℕ) (t : Chars) → fixed k ≡ Some t → named fixed_slots k ≡ Some t
fixed_some k t e = let f = fit_at fixed_texts k t all_fit e in let at : 0 + k ≡ k = omega arith in
    ap (named fixed_slots) (sym at) ∙ (fixed_named 0 fixed_texts k ∙ (ap (option_map (λ u. unspelled (spelled u))) e ∙ ap Some (unspelled_spelled t f.0 f.1)))

fixed_none : (k : ℕ) → fixed k ≡ None → named fixed_slots k ≡ None
fixed_none k e = let at : 0 + k ≡ k = omega arith in ap (named fixed_slots) (sym at) ∙ (fixed_named 0 fixed_texts k ∙ ap (option_map (λ u. unspelled (spelled u))) e)

or_true : (b : Bool) → (b || true) ≡ true
or_true true = refl
or_true false = refl

or_false : (b : Bool) → (b || false) ≡ b
or_false true = refl
or_false false = refl

kept_by : (live : List ℕ) (hs : List Held) (k : ℕ) (o : Option Chars) → fixed k ≡ o → named (fixed_slots ++ those live hs) k ≡ cut live (named (fixed_slots ++ hs)) k
kept_by live hs k (Some t) e = let any : Bool = list_any (λ a. a == k) live in let here = fixed_some k t e in let on : (any || is_some (fixed k)) ≡ true = ap (λ (o : Option Chars). any || is_some o) e ∙ or_true any in
    append_some fixed_slots (those live hs) k t here ∙ sym (ap (λ (b : Bool). if b then named (fixed_slots ++ hs) k else None) on ∙ append_some fixed_slots hs k t here)
kept_by live hs k None e = let any : Bool = list_any (λ a. a == k) live in let here = fixed_none k e in let on : (any || is_some (fixed k)) ≡ any = ap (λ (o : Option Chars). any || is_some o) e ∙ or_false any in
    append_none fixed_slots (those live hs) k here ∙ (those_named live hs k ∙ (ap (λ (b : Bool). if b then named hs k else None) (sym on) ∙ ap (λ (o : Option Chars). if any || is_some (fixed k) then o else None) (sym (append_none fixed_slots hs k here))))

pub kept_named : (live : List ℕ) (hs : List Held) → named (fixed_slots ++ those live hs) ≡ cut live (named (fixed_slots ++ hs))
kept_named live hs = fun_ext (λ k. kept_by live hs k (fixed k) refl)

-- WHAT A SEAT HOLDS
pub has_in : (v : View) (a : Held) → In a (v.fixed ++ v.held) → Has v a
has_in v a i = ⊎_elim (λ (e : get_elem? v.fixed i.0 ≡ some a). inr (i.0, e)) (λ (j : In a v.held). inl j) (in_append v.fixed v.held i.0 a i.1)

-- a slot with a text has that text's words
pub row_of_text : (v : View) (s : Sound v) (a : Held) (t : Chars) → Has v a → unspelled a.text ≡ t → (a.text ≡ spelled t) × (size t ≤ 248) × (all_scalars t ≡ true)
row_of_text v s a t has e = let u = s.texts a has in (u.2 ∙ ap spelled e, subst (λ (x : Chars). size x ≤ 248) e u.0, subst (λ (x : Chars). all_scalars x ≡ true) e u.1)

pub lawful : (words : Words) (s : AtomSeat) → Sits words s → (seen s).fixed ≡ fixed_slots → Lawful (names (seen s))
lawful words s sits fixed_is = let v : View = seen s in let sound = sits.2 in record {
  stand = λ a t e. subst (λ (l : List Held). named (l ++ v.held) a ≡ Some t) (sym fixed_is) (append_some fixed_slots v.held a t (fixed_some a t e));
  unlike = λ a b t x y. let p = named_in (v.fixed ++ v.held) a t x in let q = named_in (v.fixed ++ v.held) b t y in let one = has_in v p.0 p.1 in let two = has_in v q.0 q.1 in
      let same : q.0.slot ≡ p.0.slot = (sound.alone p.0 one q.0 two).1 ((row_of_text v sound q.0 t two q.3).0 ∙ sym (row_of_text v sound p.0 t one p.3).0) in sym p.2 ∙ (sym same ∙ q.2);
  finite = λ a t x. let p = named_in (v.fixed ++ v.held) a t x in let one = has_in v p.0 p.1 in let r = row_of_text v sound p.0 t one p.3 in let at = p.2 in
      let inside : p.0.slot < words.size.slots = subst (λ (z : Size). p.0.slot < z.slots) sits.0.1 (sound.inside p.0 one) in let ok = words.allowed in (omega (arith, ok.1), r.1, r.2);
}

-- THE ANSWERS OF INTERNING
module _ (t : Chars) (scalars : all_scalars t ≡ true) (h : ℕ) (v w : View) (sound : Sound v) (same : w.fixed ≡ v.fixed) where
  unmoved : w.held ≡ v.held → names w ≡ names v
  unmoved held = λ i. named (same i ++ held i)

  pub interns_by : (r : Interned) → Answers t h v r w → Interns (names v) t r (names w)
  interns_by (Is a) e = let back = unspelled_spelled t e.0 scalars in let x : Held = record { slot = a; text = spelled t } in record {
    fits = e.0;
    now = (λ i. named (same i ++ e.1 i)) ∙ (ap named (sym (append_assoc v.fixed v.held (x ∷ []))) ∙ (fun_ext (λ k. named_snoc (v.fixed ++ v.held) a (spelled t) k (λ c j at. (e.2 c (has_in v c j)).0 at)) ∙ ap (with_name (names v) a) back));
    own = λ u m. let p = named_in (v.fixed ++ v.held) a u m in sym p.3 ∙ (ap unspelled ((e.2 p.0 (has_in v p.0 p.1)).0 p.2) ∙ back);
    only = λ b m. let p = named_in (v.fixed ++ v.held) b t m in let has = has_in v p.0 p.1 in sym p.2 ∙ (e.2 p.0 has).1 (row_of_text v sound p.0 t has p.3).0;
  }
  interns_by (Full p) e = (e.0, unmoved e.1)
  interns_by (Again c) e = (e.0, unmoved e.1)
  interns_by (TooLong b) e = (e.0, e.1, ap names e.2)
  interns_by (Worn x) e = (e.0, unmoved e.1)
  interns_by Memory e = absurd e

  more : size t ≤ 248 → w.asked ≡ v.asked ++ spelled t ∷ [] → Some (requests w) ≡ option_map (λ ts. ts ++ t ∷ []) (Some (requests v))
  more short e = ap (λ (l : List (List ℕ)). Some (map unspelled l)) e ∙ ap Some (map-append unspelled v.asked (spelled t ∷ []) ∙ ap (λ (u : Chars). map unspelled v.asked ++ u ∷ []) (unspelled_spelled t short scalars))

  pub asked_by : (r : Interned) → Answers t h v r w → w.asked ≡ asked_after (spelled t) r v.asked → Some (requests w) ≡ asked_with r t (Some (requests v))
  asked_by (Is a) e q = more e.0 q
  asked_by (Full p) e q = more e.0 q
  asked_by (Again c) e q = more e.0 q
  asked_by (TooLong b) e q = ap (λ (l : List (List ℕ)). Some (map unspelled l)) q
  asked_by (Worn x) e q = more e.0 q
  asked_by Memory e q = absurd e

-- a slot that the seat holds, of an atom that the map has
pub held_text : (v : View) (k : ℕ) → IsSome (names v k) → (t : Chars) × (a : Held) × Has v a × (a.slot ≡ k) × (unspelled a.text ≡ t) × (names v k ≡ Some t)
held_text v k some_ = by (names v k) refl some_
  where
    by : (o : Option Chars) → names v k ≡ o → IsSome o → (t : Chars) × (a : Held) × Has v a × (a.slot ≡ k) × (unspelled a.text ≡ t) × (names v k ≡ Some t)
    by None e s = cc
    by (Some t) e s = let p = named_in (v.fixed ++ v.held) k t e in (t, p.0, has_in v p.0 p.1, p.2, p.3, e)

-- AFTER A CUT
pub sits_kept : (words : Words) (live : List ℕ) (s r : AtomSeat) → Same s r → seen r ≡ after (seen s) (Keep (those live (seen s).held) ∷ []) → Sits words s → Sits words r
sits_kept words live s r same e sits = let v : View = seen s in let w : View = seen r in (
  (same.0 ∙ sits.0.0, ap (λ (y : View). y.size) e ∙ sits.0.1, ap (λ (y : View). y.gone) e ∙ sits.0.2),
  ap (λ (y : View). y.own) e ∙ sits.1,
  sound_from v v w (λ a h. ⊎_elim (λ (i : In a w.held). inl (only_those live v.held a (subst (In a) (ap (λ (y : View). y.held) e) i))) (λ (i : In a w.fixed). inr (subst (In a) (ap (λ (y : View). y.fixed) e) i)) h)
      (ap (λ (y : View). y.size) e) (ap (λ (y : View). y.size) e) (λ cs is. sym (ap (λ (y : View). y.counts) e) ∙ is) sits.2 sits.2,
)

pub names_kept : (live : List ℕ) (v w : View) → w ≡ after v (Keep (those live v.held) ∷ []) → v.fixed ≡ fixed_slots → names w ≡ cut live (names v)
names_kept live v w e fixed_is = ap names e ∙ (ap (λ (l : List Held). named (l ++ those live v.held)) fixed_is ∙ (kept_named live v.held ∙ ap (λ (l : List Held). cut live (named (l ++ v.held))) (sym fixed_is)))
