-- Arguments as they are read.
use Rattle.std.proofs.Common.{◌≡◌, ℕ, ◌≤◌, [], ◌++◌, length, take, refl, sym, ap, ap₂, subst, ◌∙◌, append-nil, append_assoc, arith, length-append}
use Rattle.std.proofs.lemmas.Bool.{false≢true}
use Rattle.std.proofs.Math.Seq.{take-append_seam}
use Rattle.pl_term.specs.Texts.{size}
use Rattle.pl_term.specs.Tree.{Chars, atom}
use Rattle.pl_model.specs.Terms.{is_atom}
use Rattle.atom_api.specs.Names.{Names}
use Rattle.term_store.specs.declared.words.Place.{Place}
use Rattle.term_store.specs.declared.views.View.{View}
use Rattle.term_store.specs.declared.views.View.TheVariants.{Atom, Compound, Integer, Variable}
use Rattle.term_store.specs.Contents.{Contents, Views, term_at}
use Rattle.world_builtins.specs.Spelling.{reads}
use Rattle.builtin_atom.proofs.Looks.{read_compound, read_integer, read_variable}
use Rattle.atom_parts.specs.declared.parts.Parts.{Parts}
use Rattle.atom_parts.specs.declared.splits.Splits.{Splits}
use Rattle.atom_parts.specs.Columns.{wanted_tree}
use Rattle.atom_parts.specs.Lined.{AreParts, AreSplits}
use Rattle.atom_parts.specs.Reading.{IsAtom, IsWanted, IsWhole}

-- An atom is seen as one.
pub atom_seen : (m : Names) (s : Contents) (p : Place) (v : View) → Views s (term_at s p) v → IsAtom (reads m s p) → ((a : ℕ) → v ≡ Atom a → ⊥) → ⊥
atom_seen m s p (Variable x) e h other = false≢true (ap is_atom (sym (read_variable m s p x e) ∙ h.1))
atom_seen m s p (Integer i) e h other = false≢true (ap is_atom (sym (read_integer m s p i e) ∙ h.1))
atom_seen m s p (Atom a) e h other = other a refl
atom_seen m s p (Compound f a) e h other = false≢true (ap is_atom (sym (read_compound m s p f a e.0 e.1.0 e.1.1).is ∙ h.1))

module _ (t : Chars) (text added : Chars) (len : ℕ) (grows : text ≡ t ++ added) (many : len ≡ length t) where
  pub front_is : take len text ≡ t
  front_is = ap₂ take many grows ∙ take-append_seam t added

  pub front_within : len ≤ length text
  front_within = omega (arith, many, ap length grows, length-append t added)

pub parts_read : (m : Names) (s : Contents) (whole before count after part : Place) (t text added : Chars) (w : Parts) → IsWhole (reads m s whole) t
    → text ≡ t ++ added → w.length ≡ length t
    → ((n : Names) (u : Chars) → wanted_tree u w.before ≡ reads n s before)
    → ((n : Names) (u : Chars) → wanted_tree u w.count ≡ reads n s count)
    → ((n : Names) (u : Chars) → wanted_tree u w.after ≡ reads n s after)
    → IsWanted (reads m s part) text w.part → AreParts m s whole before count after part text w
parts_read m s whole before count after part t text added w is grows many b c a p =
    let front = front_is t text added w.length grows many in
    record {
      within = front_within t text added w.length grows many;
      small = omega (arith, many, is.few);
      short = subst (λ (u : Chars). size u ≤ 248) (sym front) is.short;
      whole_is = is.is ∙ ap atom (sym front);
      before_is = sym (b m text);
      count_is = sym (c m text);
      after_is = sym (a m text);
      part_is = sym (p []) ∙ ap (λ u. wanted_tree u w.part) (append-nil text);
    }

pub splits_read : (m : Names) (s : Contents) (first second whole : Place) (t one text added more : Chars) (w : Splits) → IsWhole (reads m s whole) t
    → one ≡ t ++ added → text ≡ one ++ more → w.length ≡ length t → IsWanted (reads m s first) one w.first → IsWanted (reads m s second) text w.second
    → AreSplits m s first second whole text w
splits_read m s first second whole t one text added more w is grows again many f g =
    let all : text ≡ t ++ (added ++ more) = again ∙ ap (λ l. l ++ more) grows ∙ append_assoc t added more in
    let front = front_is t text (added ++ more) w.length all many in
    record {
      within = front_within t text (added ++ more) w.length all many;
      small = omega (arith, many, is.few);
      short = subst (λ (u : Chars). size u ≤ 248) (sym front) is.short;
      whole_is = is.is ∙ ap atom (sym front);
      first_is = sym (f more) ∙ ap (λ u. wanted_tree u w.first) (sym again);
      second_is = sym (g []) ∙ ap (λ u. wanted_tree u w.second) (append-nil text);
    }
