-- Variables found by the hashes of their names.
use Rattle.std.proofs.Common.{◌≡◌, ℕ, zero, suc, ◌+◌, ◌-◌, ◌<◌, ◌≤◌, arith, Bool, true, false, cond, List, [], ◌∷◌, length, drop, take, get_or, Option, Some, None, bytes_eq, refl, sym, ap, subst, ◌∙◌, inl, inr}
use Rattle.std.specs.Prelude.{nat_eq}
use Rattle.std.specs.List.{slice_get}
use Rattle.std.specs.Option.{IfSome}
use Rattle.std.specs.Borrow.{Bor}
use Rattle.std.specs.Slice.{IsItemAt}
use Rattle.std.specs.HashMap as table
use Rattle.std.specs.HashMap.{HashMap}
use Rattle.std.proofs.lemmas.Bool.{cond-true, cond-false, cases_lt, cases_eq}
use Rattle.std.proofs.lemmas.Option.{none-some, same_Some, slice_get_read, slice_get_past}
use Rattle.std.proofs.lemmas.Slice.Eq.{bytes_eq-Decides}
use Rattle.pl_term.specs.Tree.{Chars}
use Rattle.pl_model.specs.Grammar.{number_of}
use Rattle.prolog_reader.specs.declared.names.NamedVariable.{NamedVariable}
use Rattle.prolog_reader.specs.ByHash.{IsFound, hash_of, pairs}
use Rattle.prolog_reader.proofs.NameTexts.{same_name, other_name}

-- No variable has the name.
pub number_of-none : (ns : List NamedVariable) (name : Chars) → ((i : ℕ) (n : NamedVariable) → slice_get ns i ≡ Some n → n.name ≡ name → ⊥) → number_of (pairs ns) name ≡ None
number_of-none [] name h = refl
number_of-none (n ∷ ns) name h =
    cond-false (bytes_eq n.name name) (Some n.variable) (number_of (pairs ns) name) (other_name n.name name (h 0 n refl))
    ∙ number_of-none ns name (λ i m. h (suc i) m)

-- One has it, and none before it.
pub number_of-one : (ns : List NamedVariable) (name : Chars) (k : ℕ) (n : NamedVariable) → slice_get ns k ≡ Some n → n.name ≡ name
    → ((i : ℕ) (m : NamedVariable) → i < k → slice_get ns i ≡ Some m → m.name ≡ name → ⊥) → number_of (pairs ns) name ≡ Some n.variable
number_of-one [] name k n at same h = absurd (none-some n at)
number_of-one (m ∷ ns) name zero n at same h =
    let here : m ≡ n = same_Some m n at in
    cond-true (bytes_eq m.name name) (Some m.variable) (number_of (pairs ns) name) (same_name m.name name (ap (λ (x : NamedVariable). x.name) here ∙ same))
    ∙ ap (λ (x : NamedVariable). Some x.variable) here
number_of-one (m ∷ ns) name (suc k) n at same h =
    cond-false (bytes_eq m.name name) (Some m.variable) (number_of (pairs ns) name) (other_name m.name name (h 0 m (omega arith) refl))
    ∙ number_of-one ns name k n at same (λ i x l. h (suc i) x (omega arith))

slice_get-drop : (k : ℕ) (ns : List NamedVariable) (i : ℕ) → slice_get (drop k ns) i ≡ slice_get ns (k + i)
slice_get-drop zero ns i = ap (slice_get ns) (omega arith)
slice_get-drop (suc k) [] i = none_at i ∙ sym (none_at (suc k + i))
  where
    none_at : (j : ℕ) → slice_get {X = NamedVariable} [] j ≡ None
    none_at zero = refl
    none_at (suc j) = refl
slice_get-drop (suc k) (n ∷ ns) i =
    slice_get-drop k ns i ∙ ap (slice_get (n ∷ ns)) (let e : suc (k + i) ≡ suc k + i = omega arith in e)

-- What stands at a place that was asked for.
pub at_place : (ns : List NamedVariable) (i : ℕ) (r : Option (Bor NamedVariable)) (x : Bor NamedVariable) → r ≡ Some x → IsItemAt ns i r → slice_get ns i ≡ Some x.now
at_place ns i r x e h =
    let g = subst (IsItemAt ns i) e h in
    slice_get_read ns (length ns) i x.now refl g.3.0 g.1

pub no_place : (ns : List NamedVariable) (i : ℕ) (r : Option (Bor NamedVariable)) → r ≡ None → IsItemAt ns i r → slice_get ns i ≡ None
no_place ns i r e h =
    let g = subst (IsItemAt ns i) e h in
    slice_get_past ns i g.3

module _ {S : Type 0} (ns : List NamedVariable) (by_hash : HashMap ℕ ℕ S) (name : Chars) (found : IsFound ns by_hash false) where
  -- Where a variable with the name stands.
  stands : (i : ℕ) (n : NamedVariable) → slice_get (drop 16 ns) i ≡ Some n → n.name ≡ name → table.get nat_eq by_hash (hash_of name) ≡ Some (16 + i)
  stands i n at same =
      let here : slice_get ns (16 + i) ≡ Some n = sym (slice_get-drop 16 ns i) ∙ at in
      ap (λ f. table.get nat_eq by_hash (hash_of f)) (sym same)
      ∙ subst (λ o. IfSome o (λ (m : NamedVariable). table.get nat_eq by_hash (hash_of m.name) ≡ Some (16 + i))) here (found refl (16 + i) (omega arith))

  -- No place is kept under the hash of the name.
  pub none_by_hash : table.get nat_eq by_hash (hash_of name) ≡ None → None ≡ number_of (pairs (drop 16 ns)) name
  none_by_hash none = sym (number_of-none (drop 16 ns) name (λ i n at same. none-some (16 + i) (sym none ∙ stands i n at same)))

  -- The place that is kept is none of a variable behind the first ones, or of one with another name.
  pub other_by_hash : (place : ℕ) → table.get nat_eq by_hash (hash_of name) ≡ Some place
      → ((n : NamedVariable) → 16 ≤ place → slice_get ns place ≡ Some n → n.name ≡ name → ⊥)
      → None ≡ number_of (pairs (drop 16 ns)) name
  other_by_hash place at h =
      sym (number_of-none (drop 16 ns) name (λ i n is same.
      let here : place ≡ 16 + i = same_Some place (16 + i) (sym at ∙ stands i n is same) in
      h n (omega (arith, here)) (ap (slice_get ns) here ∙ sym (slice_get-drop 16 ns i) ∙ is) same))

  -- It is that of the variable with the name.
  pub one_by_hash : (place : ℕ) (n : NamedVariable) → table.get nat_eq by_hash (hash_of name) ≡ Some place → 16 ≤ place → slice_get ns place ≡ Some n → n.name ≡ name
      → Some n.variable ≡ number_of (pairs (drop 16 ns)) name
  one_by_hash place n at above is same =
      sym (number_of-one (drop 16 ns) name (place - 16) n
      (slice_get-drop 16 ns (place - 16) ∙ ap (slice_get ns) (let e : 16 + (place - 16) ≡ place = omega (arith, above) in e) ∙ is) same
      (λ i m l here also.
      let e : place ≡ 16 + i = same_Some place (16 + i) (sym at ∙ stands i m here also) in
      absurd (omega (arith, e, l, above))))
