-- Lists, as they stand in a store and as they are read.
use Rattle.std.proofs.Common.{◌≡◌, ◌≢◌, ℕ, ℤ, zero, suc, ◌-◌, ◌<◌, ◌≤◌, ◌==◌, ◌&&◌, Bool, true, false, List, [], ◌∷◌, length, get_or, map, drop, drop-cons, codes, refl, sym, ap, ap₂, ◌∙◌, arith}
use Rattle.std.specs.List.{All}
use Rattle.std.specs.Str.{bytes_eq}
use Rattle.std.proofs.Math.Bool.{and-true}
use Rattle.std.proofs.lemmas.Bool.{ne_eqb}
use Rattle.std.proofs.lemmas.List.Elements.{All-cons, All-nil, All-weaker}
use Rattle.pl_term.specs.Tree.{Chars, Tree, var, int, atom, comp, none, more, compound, count, trees}
use Rattle.pl_model.specs.Terms.{is_list_or_partial, list_term}
use Rattle.term_store.specs.declared.words.Place.{Place}
use Rattle.term_store.specs.Heap.{atom_name}
use Rattle.term_store.specs.Contents.{Adds, Contents, Holds, Makes, numbers_of, term_at}
use Rattle.iso_search.specs.Lists.{IsListed, listed}
use Rattle.iso_search.specs.Reading.{View, IsView, reads}
use Rattle.iso_search.specs.Spelling.{spelled, spelled_all, text_of}
use Rattle.iso_search.proofs.Converting.{grows_again, grows_made, grows_none}
use Rattle.iso_search.proofs.Naming.{dot_is, is_named, nil_is, text_is}

and_false : (b : Bool) → (b && false) ≡ false
and_false true = refl
and_false false = refl

-- Whether a term over numbers of atoms is a list or a partial list, as it is read.

pub variable_partial : (v : View) (t : Tree) (x : ℕ) → t ≡ var x → true ≡ is_list_or_partial (spelled (text_of v.names) t)
variable_partial v t x e = sym (ap (λ u. is_list_or_partial (spelled (text_of v.names) u)) e)

pub integer_partial : (v : View) (t : Tree) (i : ℤ) → t ≡ int i → false ≡ is_list_or_partial (spelled (text_of v.names) t)
integer_partial v t i e = sym (ap (λ u. is_list_or_partial (spelled (text_of v.names) u)) e)

pub atom_partial : (v : View) → IsView v → (t : Tree) (a : ℕ) (b : Bool) → t ≡ atom (atom_name a) → b ≡ (a == 30)
    → b ≡ is_list_or_partial (spelled (text_of v.names) t)
atom_partial v view t a b e is =
    is ∙ sym (is_named v view a 30 (codes "[]") nil_is) ∙ sym (ap (λ u. is_list_or_partial (spelled (text_of v.names) u)) e)

pub name_partial : (v : View) → IsView v → (t : Tree) (f : ℕ) (ts : List Tree) → t ≡ compound (atom_name f) ts → 0 < length ts → (f == 8) ≡ false
    → false ≡ is_list_or_partial (spelled (text_of v.names) t)
name_partial v view t f ts e some ne = sym (ap (λ u. is_list_or_partial (spelled (text_of v.names) u)) e ∙ go ts some)
  where
    go : (us : List Tree) → 0 < length us → is_list_or_partial (spelled (text_of v.names) (compound (atom_name f) us)) ≡ false
    go [] lt = absurd (omega (arith, lt))
    go (u ∷ us) lt = rw (is_named v view f 8 (codes ".") dot_is ∙ ne)

pub count_partial : (v : View) (t : Tree) (f : Chars) (ts : List Tree) → t ≡ compound f ts → 0 < length ts → length ts ≢ 2
    → false ≡ is_list_or_partial (spelled (text_of v.names) t)
count_partial v t f ts e some ne = sym (ap (λ u. is_list_or_partial (spelled (text_of v.names) u)) e ∙ go ts some ne)
  where
    go : (us : List Tree) → 0 < length us → length us ≢ 2 → is_list_or_partial (spelled (text_of v.names) (compound f us)) ≡ false
    go [] lt n = absurd (omega (arith, lt))
    go (u ∷ []) lt n = and_false (bytes_eq (text_of v.names f) (codes "."))
    go (u ∷ (w ∷ [])) lt n = absurd (n refl)
    go (u ∷ (w ∷ (x ∷ us))) lt n =
        let not_zero : (suc (count (spelled_all (text_of v.names) (trees us))) == 0) ≡ false = ne_eqb (suc (count (spelled_all (text_of v.names) (trees us)))) 0 (λ q. omega (arith, q)) in
        ap (λ b. bytes_eq (text_of v.names f) (codes ".") && (is_list_or_partial (spelled (text_of v.names) w) && b)) not_zero
        ∙ ap (λ b. bytes_eq (text_of v.names f) (codes ".") && b) (and_false (is_list_or_partial (spelled (text_of v.names) w)))
        ∙ and_false (bytes_eq (text_of v.names f) (codes "."))

pub cell_partial : (v : View) → IsView v → (s : Contents) (t : Tree) (f : ℕ) (ts : List Tree) (d : Tree) (p : Place) → t ≡ compound (atom_name f) ts → length ts ≡ 2
    → (f == 8) ≡ true → term_at s p ≡ get_or ts 1 d
    → is_list_or_partial (reads v s p) ≡ is_list_or_partial (spelled (text_of v.names) t)
cell_partial v view s t f ts d p e long is at =
    ap (λ u. is_list_or_partial (spelled (text_of v.names) u)) at ∙ sym (ap (λ u. is_list_or_partial (spelled (text_of v.names) u)) e ∙ go ts long)
  where
    go : (us : List Tree) → length us ≡ 2 → is_list_or_partial (spelled (text_of v.names) (compound (atom_name f) us)) ≡ is_list_or_partial (spelled (text_of v.names) (get_or us 1 d))
    go [] q = absurd (omega (arith, q))
    go (u ∷ []) q = absurd (omega (arith, q))
    go (u ∷ (w ∷ [])) q =
        ap (λ b. b && (is_list_or_partial (spelled (text_of v.names) w) && (0 == 0))) (is_named v view f 8 (codes ".") dot_is ∙ is)
        ∙ and-true (is_list_or_partial (spelled (text_of v.names) w))
    go (u ∷ (w ∷ (x ∷ us))) q = absurd (omega (arith, q))

-- Lists that are made

pub listed_none : (s : Contents) (ts : List Tree) (p : Place) → ts ≡ [] → Holds s p → term_at s p ≡ atom (atom_name 30) → IsListed s ts s p
listed_none s ts p e inside is = record { grows = grows_none s s refl; inside = inside; means = is ∙ ap listed (sym e) }

pub item_at : {X Y : Type 0} (f : X → Y) (xs : List X) (j : ℕ) (d : X) (e : Y) → j < length xs → f (get_or xs j d) ≡ get_or (map f xs) j e
item_at f [] j d e lt = absurd (omega (arith, lt))
item_at f (x ∷ xs) zero d e lt = refl
item_at f (x ∷ xs) (suc j) d e lt = item_at f xs j d e (omega (arith, lt))

pub all_two : {X : Type 0} (P : X → Type 0) (x y : X) → P x → P y → All P (x ∷ (y ∷ []))
all_two P x y p q = All-cons P x (y ∷ []) p (All-cons P y [] q (All-nil P))

pub listed_more : (s t u : Contents) (ts : List Tree) (i : ℕ) (item list cell : Place) → 0 < i → i ≤ length ts → IsListed s (drop i ts) t list
    → Holds s item → term_at s item ≡ get_or ts (i - 1) (atom [])
    → Makes t (comp (atom_name 8) (term_at t item) (more (term_at t list) none)) u cell → numbers_of u ≡ numbers_of t → Adds t u
    → IsListed s (drop (i - 1) ts) u cell
listed_more s t u ts i item list cell some within l inside at made numbers adds =
    let up : suc (i - 1) ≡ i = omega arith in
    record {
      grows = grows_again s t u l.grows (grows_made t u (comp (atom_name 8) (term_at t item) (more (term_at t list) none)) cell made numbers adds);
      inside = made.holds;
      means =
          made.means ∙ ap₂ (λ x y. comp (atom_name 8) x (more y none)) (l.grows.stays.others item inside ∙ at) l.means
          ∙ ap listed (sym (drop-cons ts (i - 1) (atom []) (omega arith) ∙ ap (λ k. get_or ts (i - 1) (atom []) ∷ drop k ts) up));
    }

pub listed_read : (v : View) → IsView v → (ts : List Tree) → spelled (text_of v.names) (listed ts) ≡ list_term (map (spelled (text_of v.names)) ts)
listed_read v view [] = ap atom (text_is v view 30 (codes "[]") nil_is)
listed_read v view (t ∷ ts) =
    ap₂ (λ f u. comp f (spelled (text_of v.names) t) (more u none)) (text_is v view 8 (codes ".") dot_is) (listed_read v view ts)

pub holds_still : (s t : Contents) (ps : List Place) → Adds s t → All (Holds s) ps → All (Holds t) ps
holds_still s t ps adds h = All-weaker (Holds s) (Holds t) adds.places ps h
