-- What putting and freeing a text does to the map from slots to texts, and to the index.
use Rattle.std.proofs.Common.{◌≡◌, ◌≢◌, ◌<◌, ◌≤◌, ◌+◌, ℕ, zero, suc, Bool, true, false, List, [], ◌∷◌, ◌++◌, length, get_or, Option, Some, None, refl, sym, ap, ◌∙◌, inl, inr, ◌⊎◌, arith, get_or-set_same, get_or-set_other, length-append}
use Rattle.std.proofs.Math.ListN.{set}
use Rattle.std.proofs.Math.Path.{fun_ext}
use Rattle.std.specs.Prelude.{encode_utf8_all, bytes_eq, if◌then◌else◌}
use Rattle.std.specs.Map.{update}
use Rattle.std.specs.Option.{is_some, IsSome}
use Rattle.std.proofs.lemmas.List.{get_or_past}
use Rattle.std.proofs.lemmas.Bool.{cases_lt, cases_eq, cases_Bool, eq-eqb, ne_eqb, true≢false}
use Rattle.std.proofs.lemmas.Slice.Eq.{bytes_eq-Decides}
use Rattle.std.proofs.lemmas.Str.{encodes_same}
use Rattle.std.proofs.lemmas.Option.{same_Some, slice_get-get_or}
use Rattle.std.specs.Str.{all_scalars}
use Rattle.pl_term.specs.Tree.{Chars}
use Rattle.pl_term.specs.Texts.{size}
use Rattle.atom_api.specs.Names.{Names, with_name}
use Rattle.atom_api.specs.Slots.{names_of, Indexed, Fitting, without}

pub with_here : (m : Names) (a : ℕ) (t : Chars) (k : ℕ) → k ≡ a → with_name m a t k ≡ Some t
with_here m a t k e = ap (λ (b : Bool). if b then Some t else m k) (eq-eqb k a e)

pub with_else : (m : Names) (a : ℕ) (t : Chars) (k : ℕ) → k ≢ a → with_name m a t k ≡ m k
with_else m a t k e = ap (λ (b : Bool). if b then Some t else m k) (ne_eqb k a e)

pub without_here : (m : Names) (a k : ℕ) → k ≡ a → without m a k ≡ None
without_here m a k e = ap (λ (b : Bool). if b then None else m k) (eq-eqb k a e)

pub without_else : (m : Names) (a k : ℕ) → k ≢ a → without m a k ≡ m k
without_else m a k e = ap (λ (b : Bool). if b then None else m k) (ne_eqb k a e)

push_free : (xs : List (Option Chars)) (k : ℕ) → get_or (xs ++ None ∷ []) k None ≡ get_or xs k None
push_free [] zero = refl
push_free [] (suc k) = refl
push_free (x ∷ xs) zero = refl
push_free (x ∷ xs) (suc k) = push_free xs k

-- a further free slot changes no text
pub names-push : (xs : List (Option Chars)) → names_of (xs ++ None ∷ []) ≡ names_of xs
names-push xs = fun_ext (push_free xs)

pub names-put : (xs : List (Option Chars)) (a : ℕ) (t : Chars) → a < length xs → names_of (set xs a (Some t)) ≡ with_name (names_of xs) a t
names-put xs a t l =
    fun_ext (λ k. elim (cases_eq k a) [
      | inl e ↦ ap (λ n. get_or (set xs a (Some t)) n None) e ∙ get_or-set_same xs a (Some t) None l ∙ sym (with_here (names_of xs) a t k e)
      | inr e ↦ get_or-set_other xs a k (Some t) None e ∙ sym (with_else (names_of xs) a t k e)
    ])

pub names-free : (xs : List (Option Chars)) (a : ℕ) → a < length xs → names_of (set xs a None) ≡ without (names_of xs) a
names-free xs a l =
    fun_ext (λ k. elim (cases_eq k a) [
      | inl e ↦ ap (λ n. get_or (set xs a None) n None) e ∙ get_or-set_same xs a None None l ∙ sym (without_here (names_of xs) a k e)
      | inr e ↦ get_or-set_other xs a k None None e ∙ sym (without_else (names_of xs) a k e)
    ])

-- a slot that is free already
pub without_free : (m : Names) (a : ℕ) → m a ≡ None → without m a ≡ m
without_free m a f =
    fun_ext (λ k. elim (cases_eq k a) [
      | inl e ↦ without_here m a k e ∙ sym f ∙ ap m (sym e)
      | inr e ↦ without_else m a k e
    ])

-- texts are the same exactly where their bytes are
same_text : (t u : Chars) → ((u ≡ t) × (bytes_eq (encode_utf8_all t) (encode_utf8_all u) ≡ true)) ⊎ ((u ≢ t) × (bytes_eq (encode_utf8_all t) (encode_utf8_all u) ≡ false))
same_text t u =
    elim (cases_Bool (bytes_eq (encode_utf8_all t) (encode_utf8_all u))) [
      | inl e ↦ inl (sym (encodes_same t u ((bytes_eq-Decides (encode_utf8_all t) (encode_utf8_all u)).0 e)), e)
      | inr e ↦ inr (λ s. true≢false (sym ((bytes_eq-Decides (encode_utf8_all t) (encode_utf8_all u)).1 (ap encode_utf8_all (sym s))) ∙ e), e)
    ]

module _ (find found : List ℕ → Option ℕ) (m : Names) (t : Chars) (w : Option ℕ) (h : (cs : List ℕ) → found cs ≡ update bytes_eq find (encode_utf8_all t) w cs) where
  found_here : (u : Chars) → bytes_eq (encode_utf8_all t) (encode_utf8_all u) ≡ true → found (encode_utf8_all u) ≡ w
  found_here u e = h (encode_utf8_all u) ∙ ap (λ (b : Bool). if b then w else find (encode_utf8_all u)) e

  found_else : (u : Chars) → bytes_eq (encode_utf8_all t) (encode_utf8_all u) ≡ false → found (encode_utf8_all u) ≡ find (encode_utf8_all u)
  found_else u e = h (encode_utf8_all u) ∙ ap (λ (b : Bool). if b then w else find (encode_utf8_all u)) e

-- the index after a text is put into a free slot
pub indexed-put : (find found : List ℕ → Option ℕ) (m : Names) (a : ℕ) (t : Chars)
    → Indexed find m
    → m a ≡ None
    → ((k : ℕ) → m k ≢ Some t)
    → ((cs : List ℕ) → found cs ≡ update bytes_eq find (encode_utf8_all t) (Some a) cs)
    → Indexed found (with_name m a t)
indexed-put find found m a t r free new h k u =
    elim (same_text t u) [
      | inl s ↦ (
        (λ e. let here : k ≡ a = same_Some k a (sym e ∙ found_here find found m t (Some a) h u s.1) in with_here m a t k here ∙ ap Some (sym s.0)),
        (λ e. elim (cases_eq k a) [
          | inl here ↦ found_here find found m t (Some a) h u s.1 ∙ ap Some (sym here)
          | inr other ↦ absurd (new k (sym (with_else m a t k other) ∙ e ∙ ap Some s.0))
        ]),
      )
      | inr s ↦ (
        (λ e.
            let at : m k ≡ Some u = (r k u).0 (sym (found_else find found m t (Some a) h u s.1) ∙ e) in
            let other : k ≢ a = λ here. (let no_text : None ≡ Some u = sym free ∙ ap m (sym here) ∙ at in cc) in
            with_else m a t k other ∙ at),
        (λ e. elim (cases_eq k a) [
          | inl here ↦ absurd (s.0 (sym (same_Some t u (sym (with_here m a t k here) ∙ e))))
          | inr other ↦ found_else find found m t (Some a) h u s.1 ∙ (r k u).1 (sym (with_else m a t k other) ∙ e)
        ]),
      )
    ]

-- the index after a slot is freed
pub indexed-free : (find found : List ℕ → Option ℕ) (m : Names) (a : ℕ) (t : Chars)
    → Indexed find m
    → m a ≡ Some t
    → ((cs : List ℕ) → found cs ≡ update bytes_eq find (encode_utf8_all t) None cs)
    → Indexed found (without m a)
indexed-free find found m a t r full h k u =
    elim (same_text t u) [
      | inl s ↦ (
        (λ e. let no_slot : None ≡ Some k = sym (found_here find found m t None h u s.1) ∙ e in cc),
        (λ e. elim (cases_eq k a) [
          | inl here ↦ (let no_text : None ≡ Some u = sym (without_here m a k here) ∙ e in cc)
          | inr other ↦
              let at : m k ≡ Some t = sym (without_else m a k other) ∙ e ∙ ap Some s.0 in
              absurd (other (same_Some k a (sym ((r k t).1 at) ∙ (r a t).1 full)))
        ]),
      )
      | inr s ↦ (
        (λ e.
            let at : m k ≡ Some u = (r k u).0 (sym (found_else find found m t None h u s.1) ∙ e) in
            let other : k ≢ a = λ here. s.0 (same_Some u t (sym at ∙ ap m here ∙ full)) in
            without_else m a k other ∙ at),
        (λ e. elim (cases_eq k a) [
          | inl here ↦ (let no_text : None ≡ Some u = sym (without_here m a k here) ∙ e in cc)
          | inr other ↦ found_else find found m t None h u s.1 ∙ (r k u).1 (sym (without_else m a k other) ∙ e)
        ]),
      )
    ]

pub fitting-put : (m : Names) (a : ℕ) (t : Chars) → Fitting m → size t ≤ 248 → all_scalars t ≡ true → Fitting (with_name m a t)
fitting-put m a t f short scalars k u e =
    elim (cases_eq k a) [
      | inl here ↦ (let same : t ≡ u = same_Some t u (sym (with_here m a t k here) ∙ e) in rw (sym same) (short, scalars))
      | inr other ↦ f k u (sym (with_else m a t k other) ∙ e)
    ]

pub fitting-free : (m : Names) (a : ℕ) → Fitting m → Fitting (without m a)
fitting-free m a f k u e =
    elim (cases_eq k a) [
      | inl here ↦ (let no_text : None ≡ Some u = sym (without_here m a k here) ∙ e in cc)
      | inr other ↦ f k u (sym (without_else m a k other) ∙ e)
    ]

-- what a push leaves, whether or not there was memory
pub names-push_if : (b : Bool) (xs : List (Option Chars)) → names_of (if b then xs ++ None ∷ [] else xs) ≡ names_of xs
names-push_if true xs = names-push xs
names-push_if false xs = refl

pub length-push_if : (b : Bool) (xs : List (Option Chars)) → length (if b then xs ++ None ∷ [] else xs) ≤ length xs + 1
length-push_if true xs = omega (arith, length-append xs (None ∷ []))
length-push_if false xs = omega arith

-- what stands at a place, as it is read there
pub read-at : {X : Type 0} (xs : List X) (k : ℕ) (x d : X) → k < length xs → x ≡ get_or xs k x → get_or xs k d ≡ x
read-at xs k x d l e = same_Some (get_or xs k d) (get_or xs k x) (sym (slice_get-get_or xs k d l) ∙ slice_get-get_or xs k x l) ∙ sym e

pub names-at : (xs : List (Option Chars)) (k : ℕ) (o : Option Chars) → k < length xs → o ≡ get_or xs k o → names_of xs k ≡ o
names-at xs k o l e = read-at xs k o None l e

pub names-inside : (xs : List (Option Chars)) (k : ℕ) → IsSome (names_of xs k) → k < length xs
names-inside xs k h =
    elim (cases_lt k (length xs)) [
      | inl inside ↦ inside
      | inr outside ↦ absurd (true≢false (sym h ∙ ap is_some (get_or_past xs k None outside)))
    ]
