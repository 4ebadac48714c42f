-- Type tests by the kinds of terms that pass them.
use Rattle.std.proofs.Common.{◌≡◌, Bool, Option, Some, None, refl, sym, ap, ◌∙◌}
use Rattle.std.specs.Option.{option_map}
use Rattle.pl_term.specs.Tree.{Chars, Tree, var, int, atom, comp}
use Rattle.pl_model.specs.BuiltinRows.{type_test}
use Rattle.pl_model.specs.Terms.{is_ground}
use Rattle.builtin_rows.specs.declared.predicates.OfOne.{OfOne}
use Rattle.builtin_rows.specs.declared.predicates.OfOne.TheVariants as one
use Rattle.builtin_rows.specs.Predicates.{name_of_one}
use Rattle.atom_api.specs.Names.{Names}
use Rattle.term_store.specs.declared.words.Place.{Place}
use Rattle.term_store.specs.Contents.{Contents, term_at}
use Rattle.world_builtins.specs.Spelling.{reads, spelled, text_of}
use Rattle.builtin_rows.specs.declared.kinds.Kinds.{Kinds}
use Rattle.builtin_term.proofs.Reading.{is_ground-read}
use Rattle.builtin_rows.specs.Kinds.{kinds_of, passes}

-- The test of a kind does not look at names.
pub passes-spelled : (k : Kinds) (g : Chars → Chars) (t : Tree) → passes k (spelled g t) ≡ passes k t
passes-spelled k g (var x) = refl
passes-spelled k g (int i) = refl
passes-spelled k g (atom a) = refl
passes-spelled k g (comp f t ts) = refl

-- What a test of kinds says of a term, by what it says where it is not ground/1.
abbrev told : OfOne → Tree → Option Bool
told p t = option_map (λ k. passes k t) (kinds_of p)

kind_tested : (p : OfOne) (t : Tree) (k : Kinds) → kinds_of p ≡ Some k → type_test (name_of_one p) t ≡ told p t
kind_tested one.Var (var x) k e = refl
kind_tested one.Var (int i) k e = refl
kind_tested one.Var (atom a) k e = refl
kind_tested one.Var (comp f u us) k e = refl
kind_tested one.Nonvar (var x) k e = refl
kind_tested one.Nonvar (int i) k e = refl
kind_tested one.Nonvar (atom a) k e = refl
kind_tested one.Nonvar (comp f u us) k e = refl
kind_tested one.Atom (var x) k e = refl
kind_tested one.Atom (int i) k e = refl
kind_tested one.Atom (atom a) k e = refl
kind_tested one.Atom (comp f u us) k e = refl
kind_tested one.Integer (var x) k e = refl
kind_tested one.Integer (int i) k e = refl
kind_tested one.Integer (atom a) k e = refl
kind_tested one.Integer (comp f u us) k e = refl
kind_tested one.Float (var x) k e = refl
kind_tested one.Float (int i) k e = refl
kind_tested one.Float (atom a) k e = refl
kind_tested one.Float (comp f u us) k e = refl
kind_tested one.Number (var x) k e = refl
kind_tested one.Number (int i) k e = refl
kind_tested one.Number (atom a) k e = refl
kind_tested one.Number (comp f u us) k e = refl
kind_tested one.Atomic (var x) k e = refl
kind_tested one.Atomic (int i) k e = refl
kind_tested one.Atomic (atom a) k e = refl
kind_tested one.Atomic (comp f u us) k e = refl
kind_tested one.Compound (var x) k e = refl
kind_tested one.Compound (int i) k e = refl
kind_tested one.Compound (atom a) k e = refl
kind_tested one.Compound (comp f u us) k e = refl
kind_tested one.Callable (var x) k e = refl
kind_tested one.Callable (int i) k e = refl
kind_tested one.Callable (atom a) k e = refl
kind_tested one.Callable (comp f u us) k e = refl
kind_tested one.Ground t k e = cc

pub kind_some : (p : OfOne) (m : Names) (s : Contents) (place : Place) (k : Kinds) (b : Bool) → kinds_of p ≡ Some k
    → b ≡ passes k (term_at s place) → type_test (name_of_one p) (reads m s place) ≡ Some b
kind_some p m s place k b e is =
    kind_tested p (reads m s place) k e ∙ ap (option_map (λ j. passes j (reads m s place))) e
    ∙ ap Some (passes-spelled k (text_of m) (term_at s place) ∙ sym is)

-- ground/1
ground_tested : (p : OfOne) (t : Tree) → kinds_of p ≡ None → type_test (name_of_one p) t ≡ Some (is_ground t)
ground_tested one.Ground t e = refl
ground_tested one.Var t e = cc
ground_tested one.Nonvar t e = cc
ground_tested one.Atom t e = cc
ground_tested one.Integer t e = cc
ground_tested one.Float t e = cc
ground_tested one.Number t e = cc
ground_tested one.Atomic t e = cc
ground_tested one.Compound t e = cc
ground_tested one.Callable t e = cc

pub ground_passed : (p : OfOne) (m : Names) (s : Contents) (place : Place) (b : Bool) → kinds_of p ≡ None → b ≡ is_ground (term_at s place)
    → type_test (name_of_one p) (reads m s place) ≡ Some b
ground_passed p m s place b e is = ground_tested p (reads m s place) e ∙ ap Some (is_ground-read m (term_at s place) ∙ sym is)
