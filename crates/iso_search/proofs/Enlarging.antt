-- Goals with further arguments, read from a store.
use Rattle.std.proofs.Common.{◌≡◌, ◌≢◌, ℕ, ℤ, zero, suc, ◌+◌, ◌<◌, ◌≤◌, List, [], ◌∷◌, ◌++◌, length, get_or, map, drop, refl, sym, ap, ◌∙◌, arith, append_assoc, append-nil, Result, Err}
use Rattle.std.proofs.lemmas.List.{drop_all, drop_more, length-map, map-append}
use Rattle.pl_term.specs.Tree.{Chars, Tree, Trees, var, int, atom, comp, none, more, count, join, trees, compound}
use Rattle.pl_model.specs.Terms.{extended}
use Rattle.pl_model.specs.Balls.{instantiation_error, not_callable}
use Rattle.pl_model.specs.BodyChecks.{if_callable}
use Rattle.pl_model.specs.Control.{extension_cells}
use Rattle.term_store.specs.declared.words.Place.{Place}
use Rattle.term_store.specs.declared.views.Arguments.{Arguments}
use Rattle.term_store.specs.Heap.{atom_name}
use Rattle.term_store.specs.Contents.{Contents, IsArguments, Makes, arguments_at, term_at}
use Rattle.iso_search.specs.declared.extending.Extended.{Extended}
use Rattle.iso_search.specs.Extending.{IsCallable, IsMadeOf, further}
use Rattle.iso_search.specs.Reading.{View, reads}
use Rattle.iso_search.specs.Spelling.{spelled, spelled_all, text_of}
use Rattle.iso_search.proofs.Constructing.{count-trees, how_many}
use Rattle.iso_search.proofs.Spelt.{count-spelled}

join-spelled : (g : Chars → Chars) (ts us : List Tree) → spelled_all g (trees (ts ++ us)) ≡ join (spelled_all g (trees ts)) (spelled_all g (trees us))
join-spelled g [] us = refl
join-spelled g (t ∷ ts) us = ap (more (spelled g t)) (join-spelled g ts us)

join-none : (ts : Trees) → join ts none ≡ ts
join-none none = refl
join-none (more t ts) = ap (more t) (join-none ts)

counted : (g : Chars → Chars) (ts : List Tree) → count (spelled_all g (trees ts)) ≡ length ts
counted g ts = count-spelled g (trees ts) ∙ count-trees ts

only_first : (ys : List Tree) → length ys ≡ 1 → drop 1 ys ≡ []
only_first [] e = refl
only_first (y ∷ []) e = refl
only_first (y ∷ (z ∷ zs)) e = absurd (omega (arith, e))

atom_with : (g : Chars → Chars) (f : Chars) (ys : List Tree) → 1 < length ys
    → (spelled g (compound f (drop 1 ys)) ≡ extended (spelled g (atom f)) (spelled_all g (trees (drop 1 ys))))
    × (suc (length (drop 1 ys)) ≡ extension_cells (spelled g (atom f)) (spelled_all g (trees (drop 1 ys))))
atom_with g f [] lt = absurd (omega (arith, lt))
atom_with g f (y ∷ []) lt = absurd (omega (arith, lt))
atom_with g f (y ∷ (u ∷ us)) lt = (refl, ap (λ n. suc (suc n)) (sym (counted g us)))

compound_with : (g : Chars → Chars) (f : Chars) (zs ys : List Tree) → 0 < length zs → 1 < length ys
    → (spelled g (compound f (zs ++ drop 1 ys)) ≡ extended (spelled g (compound f zs)) (spelled_all g (trees (drop 1 ys))))
    × (suc (length (zs ++ drop 1 ys)) ≡ extension_cells (spelled g (compound f zs)) (spelled_all g (trees (drop 1 ys))))
compound_with g f [] ys some lt = absurd (omega (arith, some))
compound_with g f (z ∷ zs) [] some lt = absurd (omega (arith, lt))
compound_with g f (z ∷ zs) (y ∷ []) some lt = absurd (omega (arith, lt))
compound_with g f (z ∷ zs) (y ∷ (u ∷ us)) some lt = (
  ap (comp (g f) (spelled g z)) (join-spelled g zs (u ∷ us)),
  ap (λ n. suc (suc n)) (sym (counted g (zs ++ u ∷ us)) ∙ ap count (join-spelled g zs (u ∷ us))),
)

-- A goal that is called alone.
pub alone : (v : View) (s : Contents) (goal : Place) (call : Arguments) (x : Extended) → IsArguments s call → call.count ≡ 1
    → x.goal ≡ goal → x.cells ≡ 0
    → ((r : Result Tree Tree) → if_callable (reads v s goal) r ≡ r)
    → extended (reads v s goal) none ≡ reads v s goal
    → IsCallable v s goal call s x
alone v s goal call x is one at cells callable itself =
    let g = text_of v.names in
    let nothing : further v s call ≡ none = ap (λ l. spelled_all g (trees l)) (only_first (arguments_at s call) (how_many s call is ∙ one)) in
    record {
      stands = ap (reads v s) at ∙ sym (ap (extended (reads v s goal)) nothing ∙ itself);
      cells = cells ∙ sym (ap (extension_cells (reads v s goal)) nothing);
      callable = callable;
    }

pub alone_atom : (g : Chars → Chars) (f : Chars) → extended (spelled g (atom f)) none ≡ spelled g (atom f)
alone_atom g f = refl

pub alone_compound : (g : Chars → Chars) (f : Chars) (zs : List Tree) → 0 < length zs → extended (spelled g (compound f zs)) none ≡ spelled g (compound f zs)
alone_compound g f [] some = absurd (omega (arith, some))
alone_compound g f (z ∷ zs) some = ap (comp (g f) (spelled g z)) (join-none (spelled_all g (trees zs)))

pub callable_compound : (g : Chars → Chars) (f : Chars) (zs : List Tree) → 0 < length zs → (r : Result Tree Tree) → if_callable (spelled g (compound f zs)) r ≡ r
callable_compound g f [] some r = absurd (omega (arith, some))
callable_compound g f (z ∷ zs) some r = refl

-- Read at a place with this term.
pub callable_at : (v : View) (s : Contents) (goal : Place) (u : Tree) → term_at s goal ≡ u
    → ((r : Result Tree Tree) → if_callable (spelled (text_of v.names) u) r ≡ r) → (r : Result Tree Tree) → if_callable (reads v s goal) r ≡ r
callable_at v s goal u e h r = ap (λ x. if_callable (spelled (text_of v.names) x) r) e ∙ h r

pub itself_at : (v : View) (s : Contents) (goal : Place) (u : Tree) → term_at s goal ≡ u
    → extended (spelled (text_of v.names) u) none ≡ spelled (text_of v.names) u → extended (reads v s goal) none ≡ reads v s goal
itself_at v s goal u e h = ap (λ x. extended (spelled (text_of v.names) x) none) e ∙ h ∙ sym (ap (spelled (text_of v.names)) e)

pub atom_extended : (v : View) (s t : Contents) (goal : Place) (call : Arguments) (x : Extended) (name : ℕ) (terms : List Tree) → IsArguments s call → 1 < call.count
    → term_at s goal ≡ atom (atom_name name) → terms ≡ drop 1 (arguments_at s call) → IsMadeOf s name terms t x → IsCallable v s goal call t x
atom_extended v s t goal call x name terms is several at are m =
    let g = text_of v.names in
    let both = atom_with g (atom_name name) (arguments_at s call) (omega (arith, how_many s call is, several)) in
    record {
      stands = ap (spelled g) (m.stands ∙ ap (compound (atom_name name)) are) ∙ both.0 ∙ sym (ap (λ u. extended (spelled g u) (further v s call)) at);
      cells = m.cells ∙ ap (λ l. suc (length l)) are ∙ both.1 ∙ sym (ap (λ u. extension_cells (spelled g u) (further v s call)) at);
      callable = callable_at v s goal (atom (atom_name name)) at (λ r. refl);
    }

pub compound_extended : (v : View) (s t : Contents) (goal : Place) (own call : Arguments) (x : Extended) (name : ℕ) (terms : List Tree)
    → IsArguments s own → 0 < own.count → IsArguments s call → 1 < call.count
    → term_at s goal ≡ compound (atom_name name) (arguments_at s own) → terms ≡ arguments_at s own ++ drop 1 (arguments_at s call)
    → IsMadeOf s name terms t x → IsCallable v s goal call t x
compound_extended v s t goal own call x name terms owns some is several at are m =
    let g = text_of v.names in
    let full : 0 < length (arguments_at s own) = omega (arith, how_many s own owns, some) in
    let both = compound_with g (atom_name name) (arguments_at s own) (arguments_at s call) full (omega (arith, how_many s call is, several)) in
    record {
      stands = ap (spelled g) (m.stands ∙ ap (compound (atom_name name)) are) ∙ both.0 ∙ sym (ap (λ u. extended (spelled g u) (further v s call)) at);
      cells = m.cells ∙ ap (λ l. suc (length l)) are ∙ both.1 ∙ sym (ap (λ u. extension_cells (spelled g u) (further v s call)) at);
      callable = callable_at v s goal (compound (atom_name name) (arguments_at s own)) at (callable_compound g (atom_name name) (arguments_at s own) full);
    }

-- Refusals

pub variable_not_callable : (v : View) (s : Contents) (p : Place) (n : ℕ) → term_at s p ≡ var n → (r : Result Tree Tree)
    → if_callable (reads v s p) r ≡ Err instantiation_error
variable_not_callable v s p n e r = ap (λ u. if_callable (spelled (text_of v.names) u) r) e

pub integer_not_callable : (v : View) (s : Contents) (p : Place) (i : ℤ) → term_at s p ≡ int i → (r : Result Tree Tree)
    → if_callable (reads v s p) r ≡ Err (not_callable (reads v s p))
integer_not_callable v s p i e r =
    ap (λ u. if_callable (spelled (text_of v.names) u) r) e ∙ sym (ap (λ u. Err (not_callable (spelled (text_of v.names) u))) e)

-- The arguments, one after the other

pub argument_pushed : (s : Contents) (ps qs : List Place) (p : Place) (args : List Tree) (i : ℕ) (d : Tree) → i < length args
    → qs ≡ ps ++ p ∷ [] → term_at s p ≡ get_or args i d
    → map (term_at s) qs ++ drop (i + 1) args ≡ map (term_at s) ps ++ drop i args
argument_pushed s ps qs p args i d within e is =
    ap (λ l. map (term_at s) l ++ drop (i + 1) args) e
    ∙ ap (λ l. l ++ drop (i + 1) args) (map-append (term_at s) ps (p ∷ []))
    ∙ append_assoc (map (term_at s) ps) (term_at s p ∷ []) (drop (i + 1) args)
    ∙ ap (λ x. map (term_at s) ps ++ x ∷ drop (i + 1) args) is
    ∙ ap (λ l. map (term_at s) ps ++ l) (sym (drop_more args i d within))

pub all_pushed : (s : Contents) (ps : List Place) (args base : List Tree) (i from : ℕ) → length args ≤ i
    → map (term_at s) ps ++ drop i args ≡ base ++ drop from args → map (term_at s) ps ≡ base ++ drop from args
all_pushed s ps args base i from past is =
    sym (append-nil (map (term_at s) ps)) ∙ ap (λ l. map (term_at s) ps ++ l) (sym (drop_all i args past)) ∙ is

pub made_of : (s t : Contents) (name : ℕ) (ps : List Place) (terms : List Tree) (x : Extended)
    → Makes s (compound (atom_name name) (map (term_at s) ps)) t x.goal → map (term_at s) ps ≡ terms → x.cells ≡ length ps + 1
    → IsMadeOf s name terms t x
made_of s t name ps terms x m are cells =
    record {
      holds = m.holds;
      stands = m.means ∙ ap (compound (atom_name name)) are;
      cells = omega (arith, cells, length-map ps (term_at s), ap length are);
    }

pub more_than_one : (n : ℕ) → 0 < n → n ≢ 1 → 1 < n
more_than_one zero some not_one = absurd (omega (arith, some))
more_than_one (suc zero) some not_one = absurd (not_one refl)
more_than_one (suc (suc n)) some not_one = omega arith
