-- Lists, as they stand in a store and as they are read.
use Rattle.std.proofs.Common.{◌≡◌, ℕ, zero, suc, ◌+◌, ◌*◌, ◌<◌, ◌≤◌, ◌^◌, ◌==◌, ◌&&◌, if◌then◌else◌, Bool, true, false, List, [], ◌∷◌, ◌++◌, length, map, Result, Ok, Err, codes, refl, sym, ap, ap₂, subst, ◌∙◌, arith}
use Rattle.std.specs.Prelude.{IsSome, bytes_eq}
use Rattle.std.specs.List.{All}
use Rattle.std.proofs.Math.Bool.{and-true}
use Rattle.std.proofs.lemmas.Bool.{ne_eqb}
use Rattle.std.proofs.lemmas.List.Elements.{All-append, All-cons, All-head, All-nil, All-tail}
use Rattle.pl_term.specs.Tree.{Chars, Tree, var, int, atom, comp, none, more, count}
use Rattle.pl_model.specs.Balls.{type_error}
use Rattle.pl_model.specs.BuiltinRows.{Answer}
use Rattle.pl_model.specs.Checks.{elements_within, with_element}
use Rattle.pl_model.specs.History.{proc}
use Rattle.pl_model.specs.Terms.{is_list_or_partial, list_term}
use Rattle.pl_model.specs.TermBuiltins.{two}
use Rattle.atom_api.specs.FixedNames.{list_cell_name, nil_name}
use Rattle.atom_api.specs.Names.{Names, FixedStand}
use Rattle.term_store.specs.declared.words.Place.{Place}
use Rattle.term_store.specs.Contents.{Contents, Holds, term_at}
use Rattle.builtin_rows.specs.declared.lists.ListEnd.{ListEnd}
use Rattle.builtin_rows.specs.declared.lists.ListEnd.TheVariants.{Closed, Open, Broken}
use Rattle.builtin_rows.specs.declared.row.Places.TheVariants.{Two}
use Rattle.builtin_rows.specs.declared.row.Row.TheVariants as rows
use Rattle.builtin_rows.specs.Lists.{EndsAs, cells_of}
use Rattle.builtin_rows.specs.Rows.{Makes}
use Rattle.builtin_rows.proofs.Balls.{fixed_held, text_is}
use Rattle.builtin_rows.proofs.Listing.{cell_is, nil_is}
use Rattle.world_builtins.specs.Naming.{IsHeldAt, atoms_in}
use Rattle.world_builtins.specs.Spelling.{reads, spelled, text_of}
use Rattle.builtin_term.specs.Giving.{list_row, IsGiven}
use Rattle.builtin_term.proofs.PartAnswers.{all_two, answer_given}

-- Lists and partial lists

-- Whether what is said of the elements of a term is that they are there, or that the list is partial.
abbrev is_said_partial : Result (List Tree) Tree → Bool
is_said_partial (Ok ts) = true
is_said_partial (Err (atom a)) = true
is_said_partial (Err (var x)) = false
is_said_partial (Err (int i)) = false
is_said_partial (Err (comp f t ts)) = false

abbrev no_list : Tree → Result (List Tree) Tree
no_list whole = Err (type_error (codes "list") whole)

said_with : (t : Tree) (r : Result (List Tree) Tree) → is_said_partial (with_element t r) ≡ is_said_partial r
said_with t (Ok ts) = refl
said_with t (Err e) = refl

and_false : (b : Bool) → (b && false) ≡ false
and_false true = refl
and_false false = refl

one_is : (n : ℕ) → (suc n == 1) ≡ (n == 0)
one_is zero = refl
one_is (suc n) = ne_eqb (suc (suc n)) 1 (λ e. omega (arith, e)) ∙ sym (ne_eqb (suc n) 0 (λ e. omega (arith, e)))

said_cell : (whole t : Tree) (b c p : Bool) (r : Result (List Tree) Tree) → p ≡ is_said_partial r
    → (b && (p && c)) ≡ is_said_partial (if b && c then with_element t r else no_list whole)
said_cell whole t true true p r e = and-true p ∙ e ∙ sym (said_with t r)
said_cell whole t true false p r e = and_false p
said_cell whole t false c p r e = refl

said_atom : (whole : Tree) (b : Bool) → b ≡ is_said_partial (if b then Ok [] else no_list whole)
said_atom whole true = refl
said_atom whole false = refl

said_end : (whole t : Tree) (b : Bool) (r : Result (List Tree) Tree) → (b && false) ≡ is_said_partial (if b && false then with_element t r else no_list whole)
said_end whole t true r = refl
said_end whole t false r = refl

partial_said : (whole t : Tree) → is_list_or_partial t ≡ is_said_partial (elements_within whole t)
partial_said whole (var x) = refl
partial_said whole (int i) = refl
partial_said whole (atom a) = said_atom whole (bytes_eq a (codes "[]"))
partial_said whole (comp f t none) = said_end whole t (bytes_eq f (codes ".")) (no_list whole)
partial_said whole (comp f t (more u us)) =
    said_cell whole t (bytes_eq f (codes ".")) (count us == 0) (is_list_or_partial u) (elements_within whole u) (partial_said whole u)
    ∙ ap (λ c. is_said_partial (if bytes_eq f (codes ".") && c then with_element t (elements_within whole u) else no_list whole)) (sym (one_is (count us)))

-- How the walk along a list ends says whether it is a list or a partial list.
abbrev is_end_partial : ListEnd → Bool
is_end_partial Closed = true
is_end_partial Open = true
is_end_partial Broken = false

said_so : (e : ListEnd) (whole : Tree) (ts : List Tree) (r : Result (List Tree) Tree) → EndsAs e whole ts r → is_end_partial e ≡ is_said_partial r
said_so Closed whole ts r h = sym (ap is_said_partial h)
said_so Open whole ts r h = sym (ap is_said_partial h)
said_so Broken whole ts r h = sym (ap is_said_partial h)

pub partial_so : (e : ListEnd) (t : Tree) (ts : List Tree) → EndsAs e t ts (elements_within t t) → is_end_partial e ≡ is_list_or_partial t
partial_so e t ts h = said_so e t ts (elements_within t t) h ∙ sym (partial_said t t)

-- Lists that are made

cells_read : (m : Names) → FixedStand m → (ts : List Tree) → spelled (text_of m) (cells_of ts) ≡ list_term (map (spelled (text_of m)) ts)
cells_read m stands [] = ap atom (text_is m stands nil_name (codes "[]") nil_is)
cells_read m stands (t ∷ ts) =
    ap₂ (λ f u. comp f (spelled (text_of m) t) (more u none)) (text_is m stands list_cell_name (codes ".") cell_is) (cells_read m stands ts)

cells_held : (P : ℕ → Type 0) (ts : List Tree) → P list_cell_name → P nil_name → All (λ t. All P (atoms_in t)) ts → All P (atoms_in (cells_of ts))
cells_held P [] d n h = All-cons P nil_name [] n (All-nil P)
cells_held P (t ∷ ts) d n h =
    let Q : Tree → Type 0 = λ t. All P (atoms_in t) in
    All-cons P list_cell_name (atoms_in t ++ (atoms_in (cells_of ts) ++ [])) d
    (All-append P (atoms_in t) (atoms_in (cells_of ts) ++ []) (All-head Q t ts h)
    (All-append P (atoms_in (cells_of ts)) [] (cells_held P ts d n (All-tail Q t ts h)) (All-nil P)))

pub terms_read : (m : Names) (s : Contents) (ps : List Place) → map (reads m s) ps ≡ map (spelled (text_of m)) (map (term_at s) ps)
terms_read m s [] = refl
terms_read m s (p ∷ ps) = ap (λ ts. reads m s p ∷ ts) (terms_read m s ps)

terms_held : (m : Names) (s : Contents) (ps : List Place) → All (IsHeldAt m s) ps → All (λ t. All (λ a. IsSome (m a)) (atoms_in t)) (map (term_at s) ps)
terms_held m s [] h = All-nil (λ t. All (λ a. IsSome (m a)) (atoms_in t))
terms_held m s (p ∷ ps) h =
    All-cons (λ t. All (λ a. IsSome (m a)) (atoms_in t)) (term_at s p) (map (term_at s) ps) (All-head (IsHeldAt m s) p ps h)
    (terms_held m s ps (All-tail (IsHeldAt m s) p ps h))

module _ (m : Names) (stands : FixedStand m) (s u : Contents) (next : ℕ) (p : Chars) (first list : Place) (items : List Place) (made : ℕ)
    (makes : Makes s next zero made u) (inside : Holds u list) (means : term_at u list ≡ cells_of (map (term_at s) items)) (first_in : Holds s first)
    (first_held : IsHeldAt m s first) (items_held : All (IsHeldAt m s) items) where
  list_reads : list_term (map (reads m s) items) ≡ reads m u list
  list_reads =
      ap list_term (terms_read m s items) ∙ sym (cells_read m stands (map (term_at s) items)) ∙ ap (spelled (text_of m)) (sym means)

  list_held : IsHeldAt m u list
  list_held =
      let P : ℕ → Type 0 = λ a. IsSome (m a) in
      subst (λ t. All P (atoms_in t)) (sym means)
      (cells_held P (map (term_at s) items) (fixed_held m stands list_cell_name (codes ".") cell_is) (fixed_held m stands nil_name (codes "[]") nil_is) (terms_held m s items items_held))

  pub list_given : made ≡ 3 * length items → next < 2 ^ 64 → s.used + made ≤ s.budget
      → IsGiven s next (proc p 2) (list_row m s first items) m u (rows.Answer (Two first list) zero)
  list_given same few fits =
      let P : ℕ → Type 0 = λ a. IsSome (m a) in
      let a : Answer = record { terms = two (reads m s first) (list_term (map (reads m s) items)); fresh = zero; made = 3 * length items } in
      answer_given s next (proc p 2) m u a (Two first list) zero refl (omega (arith, few)) (omega (arith, same, fits))
      (ap₂ two (sym (ap (spelled (text_of m)) (makes.others first first_in))) list_reads)
      (subst (λ k. Makes s next zero k u) same makes)
      (record {
        inside = all_two (Holds u) first list (makes.adds.places first first_in) inside;
        held =
            all_two (IsHeldAt m u) first list (subst (λ t. All P (atoms_in t)) (sym (makes.others first first_in)) first_held) list_held;
      })
