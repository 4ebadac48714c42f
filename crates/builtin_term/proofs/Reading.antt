-- Unification of terms over atoms, and of the same terms over the texts of these.
use Rattle.std.proofs.Common.{◌≡◌, ℕ, Bool, true, false, List, [], ◌∷◌, map, Option, Some, None, refl, sym, ap, ap₂, ◌∙◌}
use Rattle.std.specs.Prelude.{is_some}
use Rattle.std.specs.List.{All}
use Rattle.std.specs.Option.{option_map}
use Rattle.std.specs.Str.{bytes_eq}
use Rattle.std.proofs.lemmas.List.Elements.{All-weaker}
use Rattle.pl_term.specs.Tree.{Chars, Tree, Trees, var, int, atom, comp, none, more}
use Rattle.pl_term.specs.Variables.{distinct, has, is_in, occurrences}
use Rattle.pl_model.specs.Terms.{is_ground}
use Rattle.pl_model.specs.TermBuiltins.{are_different_variables, renames_only}
use Rattle.pl_model.specs.Unify.{Bindings, bound, unify}
use Rattle.atom_api.specs.Names.{Names}
use Rattle.term_store.specs.declared.words.Place.{Place}
use Rattle.term_store.specs.Contents.{Contents, Unified, term_at}
use Rattle.world_builtins.specs.Spelling.{or_no_text, reads, spelled, spelled_all, text_of}
use Rattle.iso_search.specs.Spelling as search
use Rattle.iso_search.proofs.Spelt.{bound-spelled, occurrences-spelled, unify-spelled}
use Rattle.iso_search.proofs.Texts.{texts_apart}
use Rattle.builtin_term.specs.declared.met_variables.Met.{Met}
use Rattle.builtin_term.specs.TestRows.{AreNames}
use Rattle.builtin_term.specs.Renaming.{IsRenaming, Renames}
use Rattle.builtin_term.specs.TermWalks.{IsMet, numbers}
use Rattle.builtin_term.proofs.Different.{renames_tell}
use Rattle.builtin_term.proofs.TermWalking.{none_left}

mutual
  pub spelled_is : (g : Chars → Chars) (t : Tree) → spelled g t ≡ search.spelled g t
  spelled_is g (var x) = refl
  spelled_is g (int i) = refl
  spelled_is g (atom a) = refl
  spelled_is g (comp f t ts) = ap₂ (comp (g f)) (spelled_is g t) (all_spelled_is g ts)

  all_spelled_is : (g : Chars → Chars) (ts : Trees) → spelled_all g ts ≡ search.spelled_all g ts
  all_spelled_is g none = refl
  all_spelled_is g (more t ts) = ap₂ more (spelled_is g t) (all_spelled_is g ts)

text_is : (m : Names) (f : Chars) → text_of m f ≡ search.text_of m f
text_is m [] = refl
text_is m (a ∷ []) = go (m a)
  where
    go : (o : Option Chars) → or_no_text (a ∷ []) o ≡ search.or_no_text (a ∷ []) o
    go None = refl
    go (Some t) = refl
text_is m (a ∷ (b ∷ bs)) = refl

-- The texts tell the atoms apart.
pub names_apart : (m : Names) → AreNames m → search.TellsApart (text_of m)
names_apart m names a b = ap₂ bytes_eq (text_is m a) (text_is m b) ∙ texts_apart m names.unlike names.texts a b

pub unify_read : (m : Names) → AreNames m → (s : Contents) (a b : Place)
    → unify (reads m s a) (reads m s b) ≡ option_map (search.spelled_bindings (text_of m)) (unify (term_at s a) (term_at s b))
unify_read m names s a b =
    let g = text_of m in
    ap₂ unify (spelled_is g (term_at s a)) (spelled_is g (term_at s b)) ∙ unify-spelled g (names_apart m names) (term_at s a) (term_at s b)

pub occurrences_read : (m : Names) (t : Tree) → occurrences (spelled (text_of m) t) ≡ occurrences t
occurrences_read m t = ap occurrences (spelled_is (text_of m) t) ∙ occurrences-spelled (text_of m) t

pub is_ground-read : (m : Names) (t : Tree) → is_ground (spelled (text_of m) t) ≡ is_ground t
is_ground-read m t = ap none_left (occurrences_read m t)

-- Whether terms unify.

is_some-map : {A B : Type 0} (f : A → B) (o : Option A) → is_some (option_map f o) ≡ is_some o
is_some-map f None = refl
is_some-map f (Some a) = refl

pub unified_tells : (r : Bool) (s t : Contents) (a b : Place) → Unified r s a b t → (m : Names) → AreNames m → r ≡ is_some (unify (reads m s a) (reads m s b))
unified_tells r s t a b u m names =
    go r u ∙ sym (ap is_some (unify_read m names s a b) ∙ is_some-map (search.spelled_bindings (text_of m)) (unify (term_at s a) (term_at s b)))
  where
    go : (r : Bool) → Unified r s a b t → r ≡ is_some (unify (term_at s a) (term_at s b))
    go true v = sym (ap is_some v.1.0)
    go false v = sym (ap is_some v.0)

-- Whether a term subsumes another.

unread_variable : (g : Chars → Chars) (t : Tree) (y : ℕ) → search.spelled g t ≡ var y → t ≡ var y
unread_variable g (var x) y e = e
unread_variable g (int i) y e = cc
unread_variable g (atom a) y e = cc
unread_variable g (comp f t ts) y e = cc

renames_read : (b : Bool) (g : Chars → Chars) (f h : ℕ → Tree) (xs : List ℕ) → ((x : ℕ) → h x ≡ search.spelled g (f x)) → Renames b f xs → Renames b h xs
renames_read true g f h xs e r =
    record {
      owner = r.owner;
      owns = λ x q. let o = r.owns x q in (o.0, (e x ∙ ap (search.spelled g) o.1.0, o.1.1));
    }
renames_read false g f h xs e s =
    record {
      variable = s.variable;
      among = s.among;
      shared =
          λ y q. let o = s.shared y (unread_variable g (f s.variable) y (sym (e s.variable) ∙ q)) in
          (o.0, (o.1.0, (o.1.1.0, e o.0 ∙ ap (search.spelled g) o.1.1.1)));
    }

pub not_subsumed : (s t : Contents) (a b : Place) → Unified false s a b t → (m : Names) → AreNames m
    → false ≡ renames_only (reads m s b) (unify (reads m s a) (reads m s b))
not_subsumed s t a b u m names =
    sym (ap (renames_only (reads m s b)) (unify_read m names s a b ∙ ap (option_map (search.spelled_bindings (text_of m))) u.0))

pub subsumption : (r : Bool) (s t : Contents) (a b : Place) (es : List Met) → Unified true s a b t → All (IsMet s) es
    → ((x : ℕ) → is_in x (numbers es) ≡ has x (term_at s b)) → IsRenaming r t es
    → (m : Names) → AreNames m → r ≡ renames_only (reads m s b) (unify (reads m s a) (reads m s b))
subsumption r s t a b es u met all renaming m names =
    let g = text_of m in
    let bs : Bindings = u.0 in
    let cs : Bindings = search.spelled_bindings g bs in
    let f = λ (x : ℕ). bound bs (var x) in
    let h = λ (x : ℕ). bound cs (var x) in
    let places : All (λ e. term_at t e.place ≡ f e.number) es =
    All-weaker (IsMet s) (λ e. term_at t e.place ≡ f e.number) (λ e i. u.1.1 e.place ∙ ap (bound bs) i.stands) es met in
    let tells : r ≡ are_different_variables [] (map h (distinct (occurrences (term_at s b)))) =
    renames_tell r h (occurrences (term_at s b)) (numbers es) all
    (renames_read r g f h (numbers es) (λ x. bound-spelled g bs (var x)) (renaming f places)) in
    tells ∙ ap (λ xs. are_different_variables [] (map h (distinct xs))) (sym (occurrences_read m (term_at s b)))
    ∙ sym (ap (renames_only (reads m s b)) (unify_read m names s a b ∙ ap (option_map (search.spelled_bindings g)) u.1.0))
