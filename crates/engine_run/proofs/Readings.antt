-- Terms over atoms are read by a script as by a search.
use Rattle.std.proofs.Common.{◌≡◌, ℕ, Bool, true, false, cond, ◌==◌, [], ◌∷◌, Option, Some, None, codes, refl, sym, ap, ap₂, ◌∙◌}
use Rattle.std.specs.Str.{bytes_eq}
use Rattle.std.proofs.lemmas.Bool.Decides.{Decides-eqb}
use Rattle.std.proofs.lemmas.Slice.Eq.{bytes_eq-Decides}
use Rattle.pl_term.specs.Tree.{Chars, Tree, Trees, var, int, atom, comp, none, more}
use Rattle.atom_api.specs.Fixed.{fixed, fixed_texts}
use Rattle.atom_api.specs.Names.{Names, FixedStand}
use Rattle.term_store.specs.Heap.{atom_name}
use Rattle.term_store.specs.NumberedNames.{by_number, neck, number_of, term_by, text_by, with_neck}
use Rattle.term_store.specs.NumberedNames as stored
use Rattle.world_api.specs.Texts as worlds
use Rattle.iso_search.specs.Spelling.{spelled, spelled_all, text_of, or_no_text}

neck_is : fixed 12 ≡ Some (codes ":-")
unfolding fixed_texts
neck_is = refl

one_text : (a : ℕ) (o : Option Chars) → worlds.or_no_text a o ≡ (let f : Chars = a ∷ [] in or_no_text f o)
one_text a None = refl
one_text a (Some t) = refl

necked : (text : ℕ → Chars) → text neck ≡ codes ":-" → (a : ℕ) → with_neck text a ≡ text a
necked text is a = go (a == neck) (bytes_eq (text a) (codes ":-")) refl refl
  where
    go : (b c : Bool) → (a == neck) ≡ b → bytes_eq (text a) (codes ":-") ≡ c → cond b (codes ":-") (cond c (text neck) (text a)) ≡ text a
    go true c d e = sym is ∙ sym (ap text ((Decides-eqb a neck).0 d))
    go false true d e = is ∙ sym ((bytes_eq-Decides (text a) (codes ":-")).0 e)
    go false false d e = refl

name_read : (m : Names) → FixedStand m → (f : Chars) → text_by (worlds.text_of m) f ≡ text_of m (atom_name (number_of f))
name_read m stand f =
    necked (worlds.text_of m) (ap (worlds.or_no_text neck) (stand neck (codes ":-") neck_is)) (number_of f) ∙ one_text (number_of f) (m (number_of f))

mutual
  read_by : (m : Names) → FixedStand m → (t : Tree) → term_by (worlds.text_of m) t ≡ spelled (text_of m) (by_number t)
  read_by m stand (var x) = refl
  read_by m stand (int i) = refl
  read_by m stand (atom a) = ap atom (name_read m stand a)
  read_by m stand (comp f t ts) =
      ap₂ (λ h p. comp h p.0 p.1) (name_read m stand f) (ap₂ (λ u us. let p : Tree × Trees = (u, us) in p) (read_by m stand t) (all_read_by m stand ts))

  all_read_by : (m : Names) → FixedStand m → (ts : Trees)
      → stored.spelled_all (text_by (worlds.text_of m)) ts ≡ spelled_all (text_of m) (stored.spelled_all (λ f. atom_name (number_of f)) ts)
  all_read_by m stand none = refl
  all_read_by m stand (more t ts) = ap₂ more (read_by m stand t) (all_read_by m stand ts)

-- A term each of whose names is that of an atom.
pub read_over : (m : Names) → FixedStand m → (t : Tree) → by_number t ≡ t → term_by (worlds.text_of m) t ≡ spelled (text_of m) t
read_over m stand t over = read_by m stand t ∙ ap (spelled (text_of m)) over
