-- What atom_chars/2 and atom_codes/2 come to.
use Rattle.std.proofs.Common.{◌≡◌, ℕ, ℤ, ◌*◌, ◌<◌, ◌≤◌, if◌then◌else◌, List, length, map, Option, Some, None, Result, Ok, Err, codes, sym, ap, ap₂, ◌∙◌}
use Rattle.std.specs.Fmt.{signed_decimal}
use Rattle.std.proofs.lemmas.Bool.{le-ltb, lt-ltb}
use Rattle.pl_term.specs.Texts.{size}
use Rattle.pl_term.specs.Tree.{Chars, Tree, var, int, atom}
use Rattle.pl_model.specs.AtomBuiltins.{all_errors, if_short, spells}
use Rattle.pl_model.specs.Balls.{representation_error, type_error}
use Rattle.pl_model.specs.BuiltinRows as defined
use Rattle.pl_model.specs.BuiltinRows.{error, one_answer}
use Rattle.pl_model.specs.Checks.{elements}
use Rattle.pl_model.specs.Terms.{list_term}
use Rattle.pl_model.specs.TermBuiltins.{makes, on_list, two, unless}
use Rattle.atom_api.specs.Names.{Names}
use Rattle.term_store.specs.Contents.{Contents}
use Rattle.builtin_atom.specs.declared.forms.Form.{Form}
use Rattle.builtin_atom.specs.declared.spelled.Spelled.{Spelled}
use Rattle.builtin_atom.specs.declared.spelled.Spelled.TheVariants.{Text, Open, Broken, Bad}
use Rattle.builtin_atom.specs.Spelled.{AreRead, Spells}
use Rattle.builtin_atom.proofs.Looks.{IsCompound}

-- What the elements of a list are read as, the list spells.
pub read_spells : (form : Form) (m : Names) (s : Contents) (l : Tree) (ts : List Tree) (r : Spelled) → elements l ≡ Ok ts → AreRead form m s ts r → Spells form m s l r
read_spells form m s l ts (Text cs) e h = (ts, (e, h))
read_spells form m s l ts (Bad f) e h = (ts, (e, h))
read_spells form m s l ts Open e h = absurd h
read_spells form m s l ts Broken e h = absurd h

module _ (check : Tree → Option Tree) (from : Tree → ℕ) (to : ℕ → Tree) (a l : Tree) where
  abbrev by : List Tree → defined.Row
  by ts = unless (all_errors check ts) (if_short (map from ts) (one_answer (two (atom (map from ts)) l)))

  of_list : (x : ℕ) → a ≡ var x → (r : Result (List Tree) Tree) → elements l ≡ r → spells check from to a l ≡ on_list r by
  of_list x is r e = ap (λ t. spells check from to t l) is ∙ ap (λ q. on_list q by) e

  pub spells_error : (x : ℕ) → a ≡ var x → (e : Tree) → elements l ≡ Err e → error e ≡ spells check from to a l
  spells_error x is e h = sym (of_list x is (Err e) h)

  pub spells_bad : (x : ℕ) → a ≡ var x → (ts : List Tree) (e : Tree) → elements l ≡ Ok ts → all_errors check ts ≡ Some e → error e ≡ spells check from to a l
  spells_bad x is ts e h bad =
      sym (of_list x is (Ok ts) h ∙ ap (λ o. unless o (if_short (map from ts) (one_answer (two (atom (map from ts)) l)))) bad)

  of_text : (x : ℕ) → a ≡ var x → (ts : List Tree) (cs : Chars) → elements l ≡ Ok ts → all_errors check ts ≡ None → map from ts ≡ cs
      → spells check from to a l ≡ if_short cs (one_answer (two (atom cs) l))
  of_text x is ts cs h good same =
      of_list x is (Ok ts) h ∙ ap (λ o. unless o (if_short (map from ts) (one_answer (two (atom (map from ts)) l)))) good
      ∙ ap (λ t. if_short t (one_answer (two (atom t) l))) same

  pub spells_long : (x : ℕ) → a ≡ var x → (ts : List Tree) (cs : Chars) → elements l ≡ Ok ts → all_errors check ts ≡ None → map from ts ≡ cs → 248 < size cs
      → error (representation_error (codes "max_atom_length")) ≡ spells check from to a l
  spells_long x is ts cs h good same long =
      sym
      (of_text x is ts cs h good same
      ∙ ap (λ b. if b then error (representation_error (codes "max_atom_length")) else one_answer (two (atom cs) l)) (lt-ltb 248 (size cs) long))

  pub spells_short : (x : ℕ) → a ≡ var x → (ts : List Tree) (cs : Chars) → elements l ≡ Ok ts → all_errors check ts ≡ None → map from ts ≡ cs → size cs ≤ 248
      → one_answer (two (atom cs) l) ≡ spells check from to a l
  spells_short x is ts cs h good same short =
      sym
      (of_text x is ts cs h good same
      ∙ ap (λ b. if b then error (representation_error (codes "max_atom_length")) else one_answer (two (atom cs) l)) (le-ltb 248 (size cs) short))

  pub spells_atom : (t cs : Chars) → a ≡ atom t → cs ≡ t → makes (two a (list_term (map to cs))) (3 * length cs) ≡ spells check from to a l
  spells_atom t cs is same =
      ap₂ (λ u ds. makes (two u (list_term (map to ds))) (3 * length ds)) is same ∙ sym (ap (λ u. spells check from to u l) is)

  pub spells_integer : (i : ℤ) (cs : Chars) → a ≡ int i → cs ≡ signed_decimal i → makes (two a (list_term (map to cs))) (3 * length cs) ≡ spells check from to a l
  spells_integer i cs is same =
      ap₂ (λ u ds. makes (two u (list_term (map to ds))) (3 * length ds)) is same ∙ sym (ap (λ u. spells check from to u l) is)

  pub spells_compound : IsCompound a → error (type_error (codes "atomic") a) ≡ spells check from to a l
  spells_compound h = ap (λ u. error (type_error (codes "atomic") u)) h.is ∙ sym (ap (λ u. spells check from to u l) h.is)
