-- An atom has a text where its number is that of the text.
use Rattle.std.proofs.Common.{◌≡◌, ℕ, Bool, true, false, ◌==◌, Some, refl, sym, ap, ◌∙◌}
use Rattle.std.specs.Str.{bytes_eq}
use Rattle.std.proofs.lemmas.Bool.{false≢true}
use Rattle.std.proofs.lemmas.Bool.Decides.{Decides-eqb}
use Rattle.std.proofs.lemmas.Slice.Eq.{bytes_eq-Decides}
use Rattle.pl_term.specs.Tree.{Chars}
use Rattle.atom_api.specs.Fixed.{fixed}
use Rattle.builtin_rows.specs.Laws.{AreTexts}

same_bool : (b c : Bool) → (b ≡ true → c ≡ true) → (c ≡ true → b ≡ true) → b ≡ c
same_bool true c f g = sym (f refl)
same_bool false true f g = absurd (false≢true (g refl))
same_bool false false f g = refl

-- An atom has the text of a fixed one where it is that one.
pub is_named : (text : ℕ → Chars) → AreTexts text → (a k : ℕ) (t : Chars) → fixed k ≡ Some t → bytes_eq (text a) t ≡ (a == k)
is_named text is a k t e =
    let stands : text k ≡ t = is.standing k t e in
    same_bool (bytes_eq (text a) t) (a == k)
    (λ h. (Decides-eqb a k).1 (is.apart a k ((bytes_eq-Decides (text a) t).0 h ∙ sym stands)))
    (λ h. (bytes_eq-Decides (text a) t).1 (ap text ((Decides-eqb a k).0 h) ∙ stands))
