-- Terms over atoms are read by the shared state as by a search.
use Rattle.std.proofs.Common.{◌≡◌, ℕ, Bool, true, false, cond, ◌==◌, List, [], ◌∷◌, Option, Some, None, IsSome, codes, refl, sym, ap, ap₂, ◌∙◌}
use Rattle.std.specs.List.{All}
use Rattle.std.specs.Str.{bytes_eq}
use Rattle.std.proofs.lemmas.Bool.{false≢true}
use Rattle.std.proofs.lemmas.Bool.Decides.{Decides-eqb}
use Rattle.std.proofs.lemmas.Slice.Eq.{bytes_eq-Decides}
use Rattle.std.proofs.lemmas.List.Elements.{All-weaker}
use Rattle.pl_term.specs.Tree.{Chars, Tree, Trees, var, int, atom, comp, none, more}
use Rattle.atom_api.specs.FixedNames.{call_name, neck_name, true_name}
use Rattle.atom_api.specs.Fixed.{fixed, fixed_texts}
use Rattle.atom_api.specs.Names.{Names, FixedStand}
use Rattle.term_store.specs.Heap.{atom_name}
use Rattle.term_store.specs.NumberedNames.{by_number, neck, number_of, term_by, text_by, with_neck}
use Rattle.term_store.specs.NumberedNames as stored
use Rattle.world_api.specs.Texts as worlds
use Rattle.iso_search.specs.Spelling.{spelled, spelled_all, text_of, or_no_text}
use Rattle.iso_engine.specs.Parts.{IsOverAtoms}

pub neck_is : fixed neck_name ≡ Some (codes ":-")
unfolding fixed_texts
neck_is = refl

pub true_is : fixed true_name ≡ Some (codes "true")
unfolding fixed_texts
true_is = refl

pub call_is : fixed call_name ≡ Some (codes "call")
unfolding fixed_texts
call_is = refl

-- The same text of an atom.
pub one_text : (a : ℕ) (o : Option Chars) → worlds.or_no_text a o ≡ (let f : Chars = a ∷ [] in or_no_text f o)
one_text a None = refl
one_text a (Some t) = refl

pub fixed_text : (m : Names) → FixedStand m → (k : ℕ) (t : Chars) → fixed k ≡ Some t → worlds.text_of m k ≡ t
fixed_text m stand k t e = ap (worlds.or_no_text k) (stand k t e)

pub necked : (text : ℕ → Chars) → text neck ≡ codes ":-" → (a : ℕ) → with_neck text a ≡ text a
necked text is a = go (a == neck) (bytes_eq (text a) (codes ":-")) refl refl
  where
    go : (b c : Bool) → (a == neck) ≡ b → bytes_eq (text a) (codes ":-") ≡ c → cond b (codes ":-") (cond c (text neck) (text a)) ≡ text a
    go true c d e = sym is ∙ sym (ap text ((Decides-eqb a neck).0 d))
    go false true d e = is ∙ sym ((bytes_eq-Decides (text a) (codes ":-")).0 e)
    go false false d e = refl

name_read : (m : Names) → FixedStand m → (f : Chars) → text_by (worlds.text_of m) f ≡ text_of m (atom_name (number_of f))
name_read m stand f =
    necked (worlds.text_of m) (fixed_text m stand neck (codes ":-") neck_is) (number_of f) ∙ one_text (number_of f) (m (number_of f))

mutual
  read_by : (m : Names) → FixedStand m → (t : Tree) → term_by (worlds.text_of m) t ≡ spelled (text_of m) (by_number t)
  read_by m stand (var x) = refl
  read_by m stand (int i) = refl
  read_by m stand (atom a) = ap atom (name_read m stand a)
  read_by m stand (comp f t ts) =
      ap₂ (λ h p. comp h p.0 p.1) (name_read m stand f) (ap₂ (λ u us. let p : Tree × Trees = (u, us) in p) (read_by m stand t) (all_read_by m stand ts))

  all_read_by : (m : Names) → FixedStand m → (ts : Trees)
      → stored.spelled_all (text_by (worlds.text_of m)) ts ≡ spelled_all (text_of m) (stored.spelled_all (λ f. atom_name (number_of f)) ts)
  all_read_by m stand none = refl
  all_read_by m stand (more t ts) = ap₂ more (read_by m stand t) (all_read_by m stand ts)

-- A term over atoms.
pub read_over : (m : Names) → FixedStand m → (t : Tree) → IsOverAtoms t → term_by (worlds.text_of m) t ≡ spelled (text_of m) t
read_over m stand t over = read_by m stand t ∙ ap (spelled (text_of m)) over

-- What is held keeps its text.
pub same_text : (m n : Names) → worlds.Holds m n → (a : ℕ) → IsSome (m a) → worlds.text_of n a ≡ worlds.text_of m a
same_text m n grown a held = go (m a) refl held
  where
    go : (o : Option Chars) → m a ≡ o → IsSome o → worlds.text_of n a ≡ worlds.text_of m a
    go None e h = absurd (false≢true h)
    go (Some t) e h = ap (worlds.or_no_text a) (grown a t e) ∙ sym (ap (worlds.or_no_text a) e)

pub same_texts : (m n : Names) → worlds.Holds m n → (as₁ : List ℕ) → All (λ a. IsSome (m a)) as₁
    → All (λ a. worlds.text_of n a ≡ worlds.text_of m a) as₁
same_texts m n grown as₁ held = All-weaker (λ a. IsSome (m a)) (λ a. worlds.text_of n a ≡ worlds.text_of m a) (λ a h. same_text m n grown a h) as₁ held
