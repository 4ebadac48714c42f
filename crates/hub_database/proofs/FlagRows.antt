-- What flags come to, by the numbers of their atoms.
use Rattle.std.proofs.Common.{◌≡◌, ℕ, ◌==◌, List, [], ◌∷◌, ◌++◌, map, Option, Some, None, Bool, true, false, cond, refl, sym, ap, ap₂, subst, ◌∙◌}
use Rattle.std.specs.Prelude.{bytes_eq, codes, IsSome, unwrap_or}
use Rattle.std.specs.List.{All}
use Rattle.std.proofs.lemmas.Bool.Decides.{Decides-eqb}
use Rattle.std.proofs.lemmas.Slice.Eq.{bytes_eq-Decides}
use Rattle.std.proofs.lemmas.List.Elements.{All-nil, All-cons, All-append}
use Rattle.pl_term.specs.Tree.{Chars, Tree}
use Rattle.pl_model.specs.Flags.{Flags, raises, fails, with_flag}
use Rattle.pl_model.specs.declared.grammar.Quotes.TheVariants as quotes
use Rattle.atom_api.specs.Fixed.{fixed, fixed_texts}
use Rattle.atom_api.specs.Names.{FixedStand, Names}
use Rattle.atom_table.specs.Naming.{Lawful}
use Rattle.clause_db.specs.Flags.{flag_name, value_name}
use Rattle.clause_db.specs.declared.flags.Flag.{Flag}
use Rattle.clause_db.specs.declared.flags.Flag.TheVariants.{DoubleQuotes, Unknown}
use Rattle.clause_db.specs.declared.flags.FlagValue.{FlagValue as Setting}
use Rattle.clause_db.specs.declared.flags.FlagValue.TheVariants.{Codes, Chars as Characters, Atom, Error, Fail}
use Rattle.term_store.specs.NumberedNames.{names_of}
use Rattle.world_api.specs.Replies.{all_flag_names}
use Rattle.world_api.specs.Texts.{text_of}
use Rattle.world_api.specs.declared.reply.FlagValue.{FlagValue}
use Rattle.counted_terms.specs.CountedTerms.{said}
use Rattle.counted_terms.proofs.Comparing.{texts_apart}
use Rattle.hub_database.specs.Flags.{IsFlags, numbered_setting}
use Rattle.hub_database.proofs.Heads.{text_is}

pub quotes_fixed : fixed 78 ≡ Some (codes "double_quotes")
unfolding fixed_texts
quotes_fixed = refl

pub codes_fixed : fixed 63 ≡ Some (codes "codes")
unfolding fixed_texts
codes_fixed = refl

pub chars_fixed : fixed 60 ≡ Some (codes "chars")
unfolding fixed_texts
chars_fixed = refl

pub atom_fixed : fixed 45 ≡ Some (codes "atom")
unfolding fixed_texts
atom_fixed = refl

pub unknown_fixed : fixed 181 ≡ Some (codes "unknown")
unfolding fixed_texts
unknown_fixed = refl

pub error_fixed : fixed 80 ≡ Some (codes "error")
unfolding fixed_texts
error_fixed = refl

pub fail_fixed : fixed 88 ≡ Some (codes "fail")
unfolding fixed_texts
fail_fixed = refl

pub bounded_fixed : fixed 52 ≡ Some (codes "bounded")
unfolding fixed_texts
bounded_fixed = refl

pub true_fixed : fixed 176 ≡ Some (codes "true")
unfolding fixed_texts
true_fixed = refl

pub rounding_fixed : fixed 109 ≡ Some (codes "integer_rounding_function")
unfolding fixed_texts
rounding_fixed = refl

pub toward_fixed : fixed 175 ≡ Some (codes "toward_zero")
unfolding fixed_texts
toward_fixed = refl

pub max_fixed : fixed 118 ≡ Some (codes "max_integer")
unfolding fixed_texts
max_fixed = refl

pub min_fixed : fixed 123 ≡ Some (codes "min_integer")
unfolding fixed_texts
min_fixed = refl

-- AN ATOM IS THE FIXED ONE exactly where it has its text
pub text_test : (m : Names) → Lawful m → (a b : ℕ) (t : Chars) → fixed b ≡ Some t → (a == b) ≡ bytes_eq (text_of m a) t
text_test m lawful a b t is = go (a == b) (bytes_eq (text_of m a) t) refl refl
  where
    own : text_of m b ≡ t
    own = text_is m b t (lawful.stand b t is)

    go : (x y : Bool) → (a == b) ≡ x → bytes_eq (text_of m a) t ≡ y → x ≡ y
    go true true d e = refl
    go false false d e = refl
    go true false d e = sym (sym e ∙ (bytes_eq-Decides (text_of m a) t).1 (ap (text_of m) ((Decides-eqb a b).0 d) ∙ own))
    go false true d e = sym d ∙ (Decides-eqb a b).1 (texts_apart m lawful a b ((bytes_eq-Decides (text_of m a) t).0 e ∙ sym own))

-- what a setting makes of the flags
abbrev pub with_setting : Option (Flag × Setting) → Flags → Flags
with_setting None fs = fs
with_setting (Some s) fs = with_flag (flag_name s.0) (value_name s.1) fs

abbrev setting_by : Bool → Bool → Bool → Bool → Bool → Bool → Bool → Option (Flag × Setting)
setting_by q u c s a e f =
    cond q (cond c (Some (DoubleQuotes, Codes)) (cond s (Some (DoubleQuotes, Characters)) (cond a (Some (DoubleQuotes, Atom)) None)))
    (cond u (cond e (Some (Unknown, Error)) (cond f (Some (Unknown, Fail)) None)) None)

abbrev flags_by : Bool → Bool → Bool → Bool → Bool → Bool → Bool → Flags → Flags
flags_by q u c s a e f fs =
    cond q (record fs { double_quotes = unwrap_or (cond c (Some quotes.Codes) (cond s (Some quotes.Chars) (cond a (Some quotes.Atom) None))) fs.double_quotes })
    (cond u (record fs { unknown = unwrap_or (cond e (Some raises) (cond f (Some fails) None)) fs.unknown }) fs)

both_ways : (q u c s a e f : Bool) (fs : Flags) → with_setting (setting_by q u c s a e f) fs ≡ flags_by q u c s a e f fs
both_ways true u true s a e f fs = refl
both_ways true u false true a e f fs = refl
both_ways true u false false true e f fs = refl
both_ways true u false false false e f fs = refl
both_ways false true c s a true f fs = refl
both_ways false true c s a false true fs = refl
both_ways false true c s a false false fs = refl
both_ways false false c s a e f fs = refl

module _ (m : Names) (lawful : Lawful m) where
  -- A FLAG IS SET by the number of its atom as by its text
  pub set_by_number : (f v : ℕ) (fs : Flags) → with_setting (numbered_setting f v) fs ≡ with_flag (text_of m f) (text_of m v) fs
  set_by_number f v fs =
      both_ways (f == 78) (f == 181) (v == 63) (v == 60) (v == 45) (v == 80) (v == 88) fs
      ∙ (λ i. flags_by
      (text_test m lawful f 78 (codes "double_quotes") quotes_fixed i) (text_test m lawful f 181 (codes "unknown") unknown_fixed i)
      (text_test m lawful v 63 (codes "codes") codes_fixed i) (text_test m lawful v 60 (codes "chars") chars_fixed i) (text_test m lawful v 45 (codes "atom") atom_fixed i)
      (text_test m lawful v 80 (codes "error") error_fixed i) (text_test m lawful v 88 (codes "fail") fail_fixed i) fs)

-- THE LIST OF FLAGS
module _ (m : Names) (stand : FixedStand m) where
  pub flags_say : (fs : List (Chars × Tree)) (xs : List (FlagValue Tree)) → IsFlags fs xs → map (λ (x : FlagValue Tree). (text_of m x.flag, said m x.value)) xs ≡ fs
  flags_say [] [] is = refl
  flags_say [] (x ∷ xs) is = absurd is
  flags_say (f ∷ fs) [] is = absurd is
  flags_say (f ∷ fs) (x ∷ xs) is =
      ap₂ (λ (y : Chars × Tree) l. y ∷ l) (ap₂ (λ t u. (t, u)) (text_is m x.flag f.0 (is.0.flag m stand)) (is.0.value m stand)) (flags_say fs xs is.1)

  pub flags_named : (fs : List (Chars × Tree)) (xs : List (FlagValue Tree)) → IsFlags fs xs → All (λ a. IsSome (m a)) (all_flag_names names_of xs)
  flags_named [] [] is = All-nil (λ a. IsSome (m a))
  flags_named [] (x ∷ xs) is = absurd is
  flags_named (f ∷ fs) [] is = absurd is
  flags_named (f ∷ fs) (x ∷ xs) is =
      All-cons (λ a. IsSome (m a)) x.flag (names_of x.value ++ all_flag_names names_of xs) (subst (λ (o : Option Chars). IsSome o) (sym (is.0.flag m stand)) refl)
      (All-append (λ a. IsSome (m a)) (names_of x.value) (all_flag_names names_of xs) (is.0.named m stand) (flags_named fs xs is.1))
