-- A list as the term of its elements.
use Rattle.std.proofs.Common.{◌≡◌, ℕ, zero, ◌+◌, ◌-◌, ◌<◌, ◌≤◌, ◌^◌, ◌==◌, true, false, List, [], ◌∷◌, ◌++◌, length, get_or, map, take, drop, IsSome, codes, refl, sym, ap, ap₂, subst, ◌∙◌, arith}
use Rattle.std.specs.List.{All}
use Rattle.std.proofs.lemmas.Bool.{false≢true}
use Rattle.std.proofs.lemmas.Bool.Decides.{Decides-eqb}
use Rattle.std.proofs.lemmas.List.{length-map, take_all}
use Rattle.std.proofs.lemmas.List.Elements.{All-append, All-cons, All-head, All-map, All-nil, All-tail}
use Rattle.pl_term.specs.Tree.{Chars, Tree, Trees, atom, compound, trees}
use Rattle.pl_model.specs.BuiltinRows.{Answer, error}
use Rattle.pl_model.specs.History.{proc}
use Rattle.pl_model.specs.Terms.{named_term}
use Rattle.pl_model.specs.TermBuiltins.{composes, makes, two}
use Rattle.atom_api.specs.Names.{Names}
use Rattle.term_store.specs.declared.words.Place.{Place}
use Rattle.term_store.specs.Heap.{atom_name}
use Rattle.term_store.specs.Contents.{Contents, Holds, term_at}
use Rattle.world_builtins.specs.Naming.{IsHeldAt, atoms_in, atoms_in_all}
use Rattle.world_builtins.specs.Spelling.{reads, spelled, text_of}
use Rattle.builtin_rows.specs.declared.row.Places.TheVariants.{Two}
use Rattle.builtin_rows.specs.declared.row.Row.{Row}
use Rattle.builtin_rows.specs.declared.row.Row.TheVariants as rows
use Rattle.builtin_rows.specs.Given.{with_room}
use Rattle.builtin_rows.specs.Rows.{ArePlaced, IsRow, Makes, terms_at}
use Rattle.builtin_rows.proofs.Balls.{two_places}
use Rattle.builtin_rows.proofs.Giving.{gives_one}
use Rattle.builtin_rows.proofs.Numbers.{has_room}
use Rattle.builtin_term.proofs.ListTerms.{terms_read}
use Rattle.builtin_term.proofs.Compounds.{spelled_compound}
use Rattle.builtin_term.specs.Giving.{IsGiven}
use Rattle.builtin_term.specs.Composition.{composed_row}

-- The elements of a list: the first, and the rest.
pub first_and_rest : (ps : List Place) (d : Place) → 0 < length ps → ps ≡ get_or ps 0 d ∷ take (length ps - 1) (drop 1 ps)
first_and_rest [] d some = absurd (omega arith)
first_and_rest (p ∷ ps) d some = ap (λ qs. p ∷ qs) (sym (take_all (length (p ∷ ps) - 1) ps (omega arith)))

pub empty_of : (ps : List Place) → true ≡ (length ps == 0) → ps ≡ []
empty_of [] e = refl
empty_of (p ∷ ps) e = absurd (omega (arith, (Decides-eqb (length (p ∷ ps)) 0).0 (sym e)))

pub some_in : (ps : List Place) → false ≡ (length ps == 0) → 0 < length ps
some_in [] e = absurd (false≢true e)
some_in (p ∷ ps) e = omega arith

-- A list of more elements is refused by its first one.
pub longer_refused : (m : Names) (s : Contents) (rest : List Place) (l first e : Tree) → 0 < length rest
    → ((t : Tree) (ts : List Tree) → composes l (first ∷ (t ∷ ts)) ≡ error e) → composes l (first ∷ map (reads m s) rest) ≡ error e
longer_refused m s [] l first e some h = absurd (omega arith)
longer_refused m s (p ∷ ps) l first e some h = h (reads m s p) (map (reads m s) ps)

-- The list has an atom as its name and more elements.
pub named_row : (m : Names) (s : Contents) (first : Place) (f : ℕ) (rest : List Place) (l : Place) → term_at s first ≡ atom (atom_name f) → 0 < length rest
    → composed_row m s f l rest ≡ composes (reads m s l) (reads m s first ∷ map (reads m s) rest)
named_row m s first f [] l e some = absurd (omega arith)
named_row m s first f (p ∷ ps) l e some =
    let g = text_of m in
    let cost : 1 + length (p ∷ ps) ≡ 2 + length (map (reads m s) ps) = omega (arith, length-map ps (reads m s)) in
    ap (makes (two (named_term (g (atom_name f)) (trees (reads m s p ∷ map (reads m s) ps))) (reads m s l))) cost
    ∙ sym (ap (λ u. composes (reads m s l) (spelled g u ∷ (reads m s p ∷ map (reads m s) ps))) e)

-- The atoms of the places
pub both_held : (m : Names) (s : Contents) (p q : Place) → IsHeldAt m s p → IsHeldAt m s q → All (IsHeldAt m s) (p ∷ (q ∷ []))
both_held m s p q h k = All-cons (IsHeldAt m s) p (q ∷ []) h (All-cons (IsHeldAt m s) q [] k (All-nil (IsHeldAt m s)))

pub name_held : (m : Names) (s : Contents) (p : Place) (f : ℕ) → term_at s p ≡ atom (atom_name f) → IsHeldAt m s p → IsSome (m f)
name_held m s p f e held = let P : ℕ → Type 0 = λ a. IsSome (m a) in All-head P f [] (subst (λ t. All P (atoms_in t)) e held)

-- The compound term that was made

named_compound : (f : Chars) (ts : List Tree) → named_term f (trees ts) ≡ compound f ts
named_compound f [] = refl
named_compound f (t ∷ ts) = refl

trees_held : (P : ℕ → Type 0) (ts : List Tree) → All (λ t. All P (atoms_in t)) ts → All P (atoms_in_all (trees ts))
trees_held P [] h = All-nil P
trees_held P (t ∷ ts) h =
    let Q : Tree → Type 0 = λ u. All P (atoms_in u) in
    All-append P (atoms_in t) (atoms_in_all (trees ts)) (All-head Q t ts h) (trees_held P ts (All-tail Q t ts h))

pub compound_held : (P : ℕ → Type 0) (f : ℕ) (ts : List Tree) → P f → All (λ t. All P (atoms_in t)) ts → All P (atoms_in (compound (atom_name f) ts))
compound_held P f [] named h = All-cons P f [] named (All-nil P)
compound_held P f (t ∷ ts) named h = All-cons P f (atoms_in t ++ atoms_in_all (trees ts)) named (trees_held P (t ∷ ts) h)

module _ (m : Names) (s t : Contents) (next f made : ℕ) (list : Place) (arguments : List Place) (cost : made ≡ 1 + length arguments) where
  abbrev pub a : Answer
  a =
      record {
        terms = two (named_term (text_of m (atom_name f)) (trees (map (reads m s) arguments))) (reads m s list);
        fresh = zero;
        made = 1 + length arguments;
      }

  pub composed_refused : (r : Row) → ((ts : Trees) → IsRow s next ts (with_room (proc (codes "=..") 2) next s.used s.budget a) m t r)
      → IsGiven s next (proc (codes "=..") 2) (composed_row m s f list arguments) m t r
  composed_refused r h ts = subst (λ g. IsRow s next ts g m t r) (sym (gives_one (proc (codes "=..") 2) ts next s.used s.budget a)) (h ts)

  module _ (term : Place) (changes : Makes s next zero made t) (inside : Holds t term)
      (means : term_at t term ≡ compound (atom_name f) (map (term_at s) arguments)) (list_in : Holds s list) (list_held : IsHeldAt m s list)
      (named : IsSome (m f)) (held : All (IsHeldAt m s) arguments) where
    abbrev P : ℕ → Type 0
    P k = IsSome (m k)

    term_reads : named_term (text_of m (atom_name f)) (trees (map (reads m s) arguments)) ≡ reads m t term
    term_reads =
        let g = text_of m in
        named_compound (g (atom_name f)) (map (reads m s) arguments) ∙ ap (compound (g (atom_name f))) (terms_read m s arguments)
        ∙ sym (ap (spelled g) means ∙ spelled_compound g (atom_name f) (map (term_at s) arguments))

    list_reads : reads m s list ≡ reads m t list
    list_reads = sym (ap (spelled (text_of m)) (changes.others list list_in))

    term_held : IsHeldAt m t term
    term_held =
        subst (λ u. All P (atoms_in u)) (sym means)
        (compound_held P f (map (term_at s) arguments) named (All-map (λ u. All P (atoms_in u)) (term_at s) arguments held))

    held_still : IsHeldAt m t list
    held_still = subst (λ u. All P (atoms_in u)) (sym (changes.others list list_in)) list_held

    pub composed_given : next + zero < 2 ^ 64 → s.used + made ≤ s.budget
        → IsGiven s next (proc (codes "=..") 2) (composed_row m s f list arguments) m t (rows.Answer (Two term list) zero)
    composed_given few fits ts =
        let q = proc (codes "=..") 2 in
        let there : a.terms ≡ terms_at m t (term ∷ (list ∷ [])) = ap₂ two term_reads list_reads in
        let placed : ArePlaced m t (term ∷ (list ∷ [])) =
        record {
          inside = two_places t term list inside (changes.adds.places list list_in);
          held = both_held m t term list term_held held_still;
        } in
        subst (λ g. IsRow s next ts g m t (rows.Answer (Two term list) zero))
        (sym (gives_one q ts next s.used s.budget a ∙ has_room q next s.used s.budget a few (omega (arith, cost, fits))))
        (ap (λ us. us ∷ []) there, (refl, (subst (λ k. Makes s next zero k t) cost changes, placed)))
