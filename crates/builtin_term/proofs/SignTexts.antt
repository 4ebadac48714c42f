-- The first argument of compare/3.
use Rattle.std.proofs.Common.{◌≡◌, ℕ, Bool, true, false, if◌then◌else◌, ◌==◌, ◌||◌, [], ◌∷◌, Some, None, codes, refl, sym, ap, ap₂, ◌∙◌}
use Rattle.std.specs.Str.{bytes_eq}
use Rattle.std.specs.declared.cmp.Ordering.{Ordering}
use Rattle.std.specs.declared.cmp.Ordering.TheVariants.{Less, Equal, Greater}
use Rattle.std.proofs.lemmas.Bool.{false≢true}
use Rattle.std.proofs.lemmas.Bool.Decides.{Decides-eqb}
use Rattle.std.proofs.lemmas.Slice.Eq.{bytes_eq-Decides}
use Rattle.pl_term.specs.Tree.{Chars, Tree, var, int, atom, comp}
use Rattle.pl_model.specs.Balls.{type_error}
use Rattle.pl_model.specs.ErrorTerms.{domain_error}
use Rattle.pl_model.specs.Checks.{first_error, atom_error}
use Rattle.pl_model.specs.TermBuiltins.{is_sign, sign, sign_error}
use Rattle.atom_api.specs.Fixed.{fixed}
use Rattle.atom_api.specs.Names.{Names}
use Rattle.builtin_rows.proofs.Balls.{text_is}
use Rattle.term_store.specs.Heap.{atom_name}
use Rattle.world_builtins.specs.Spelling.{spelled, text_of}
use Rattle.builtin_term.specs.TestRows.{AreNames}
use Rattle.builtin_term.specs.Orders.{is_sign_name, sign_at, sign_number}
use Rattle.builtin_term.specs.declared.signs.Sign.TheVariants.{Fits, NoAtom, NoSign}
use Rattle.builtin_term.proofs.Reading.{names_apart}
use Rattle.builtin_term.proofs.FixedNames.{equal_is, greater_is, less_is}

pub sign_is : (o : Ordering) → fixed (sign_number o) ≡ Some (sign o)
sign_is Less = less_is
sign_is Equal = equal_is
sign_is Greater = greater_is

-- One name by its number.

same_bool : (b c : Bool) → (b ≡ true → c ≡ true) → (c ≡ true → b ≡ true) → b ≡ c
same_bool true c f g = sym (f refl)
same_bool false true f g = absurd (false≢true (g refl))
same_bool false false f g = refl

first_of : (a b : ℕ) → (let l : Chars = a ∷ [] in let r : Chars = b ∷ [] in l ≡ r) → a ≡ b
first_of a b e = cc

pub one_name : (a b : ℕ) → (a == b) ≡ bytes_eq (a ∷ []) (b ∷ [])
one_name a b =
    same_bool (a == b) (bytes_eq (a ∷ []) (b ∷ []))
    (λ e. (bytes_eq-Decides (a ∷ []) (b ∷ [])).1 (ap (λ n. n ∷ []) ((Decides-eqb a b).0 e)))
    (λ e. (Decides-eqb a b).1 (first_of a b ((bytes_eq-Decides (a ∷ []) (b ∷ [])).0 e)))

module _ (m : Names) (names : AreNames m) where
  one_text : (f : Chars) (k : ℕ) (t : Chars) → fixed k ≡ Some t → bytes_eq (text_of m f) t ≡ bytes_eq f (atom_name k)
  one_text f k t e = ap (bytes_eq (text_of m f)) (sym (text_is m names.fixed k t e)) ∙ names_apart m names f (atom_name k)

  sign_read : (f : Chars) → is_sign (atom (text_of m f)) ≡ is_sign_name f
  sign_read f =
      ap₂ (λ a b. a || b) (one_text f 14 (codes "<") less_is)
      (ap₂ (λ a b. a || b) (one_text f 16 (codes "=") equal_is) (one_text f 22 (codes ">") greater_is))

  -- What the definition refuses.
  pub no_error : (t : Tree) → sign_at t ≡ Fits
      → first_error (atom_error (spelled (text_of m) t) ∷ (sign_error (spelled (text_of m) t) ∷ [])) ≡ None
  no_error (var x) e = refl
  no_error (int i) e = absurd (cc)
  no_error (comp f t ts) e = absurd (cc)
  no_error (atom f) e = go (is_sign_name f) refl e
    where
      go : (b : Bool) → is_sign_name f ≡ b → (if b then Fits else NoSign) ≡ Fits
          → first_error (sign_error (atom (text_of m f)) ∷ []) ≡ None
      go true is q =
          ap (λ (s : Bool). first_error ((if s then None else Some (domain_error (codes "order") (atom (text_of m f)))) ∷ [])) (sign_read f ∙ is)
      go false is q = absurd (cc)

  pub atom_refused : (t : Tree) → sign_at t ≡ NoAtom
      → first_error (atom_error (spelled (text_of m) t) ∷ (sign_error (spelled (text_of m) t) ∷ []))
      ≡ Some (type_error (codes "atom") (spelled (text_of m) t))
  atom_refused (var x) e = absurd (cc)
  atom_refused (int i) e = refl
  atom_refused (comp f t ts) e = refl
  atom_refused (atom f) e = go (is_sign_name f) e
    where
      go : (b : Bool) → (if b then Fits else NoSign) ≡ NoAtom
          → first_error (atom_error (spelled (text_of m) (atom f)) ∷ (sign_error (spelled (text_of m) (atom f)) ∷ []))
          ≡ Some (type_error (codes "atom") (spelled (text_of m) (atom f)))
      go true q = absurd (cc)
      go false q = absurd (cc)

  pub sign_refused : (t : Tree) → sign_at t ≡ NoSign
      → first_error (atom_error (spelled (text_of m) t) ∷ (sign_error (spelled (text_of m) t) ∷ []))
      ≡ Some (domain_error (codes "order") (spelled (text_of m) t))
  sign_refused (var x) e = absurd (cc)
  sign_refused (int i) e = absurd (cc)
  sign_refused (comp f t ts) e = absurd (cc)
  sign_refused (atom f) e = go (is_sign_name f) refl e
    where
      go : (b : Bool) → is_sign_name f ≡ b → (if b then Fits else NoSign) ≡ NoSign
          → first_error (sign_error (atom (text_of m f)) ∷ []) ≡ Some (domain_error (codes "order") (atom (text_of m f)))
      go true is q = absurd (cc)
      go false is q =
          ap (λ (s : Bool). first_error ((if s then None else Some (domain_error (codes "order") (atom (text_of m f)))) ∷ [])) (sign_read f ∙ is)
