-- The atoms of a solution are held.
use Rattle.std.proofs.Common.{◌≡◌, ℕ, zero, suc, ◌<◌, ◌≤◌, ◌^◌, true, List, [], ◌∷◌, ◌++◌, Option, Some, IsSome, is_some, codes, length, map, get_or, refl, sym, ap, ◌∙◌, arith}
use Rattle.std.specs.List.{All}
use Rattle.std.specs.Str.{all_scalars}
use Rattle.std.proofs.lemmas.List.Elements.{All-append, All-cons, All-nil, All-weaker}
use Rattle.pl_term.specs.Texts.{size}
use Rattle.pl_term.specs.Tree.{Chars, Tree, Trees, var, int, atom, comp, none, more}
use Rattle.pl_model.specs.Resolution.{Node}
use Rattle.atom_api.specs.FixedNames.{cut_name}
use Rattle.atom_api.specs.Fixed.{fixed, fixed_texts}
use Rattle.atom_api.specs.Names.{FixedStand, Names}
use Rattle.term_store.specs.Contents.{term_at}
use Rattle.world_api.specs.Texts.{Holds}
use Rattle.world_api.specs.Told.{Told}
use Rattle.world_builtins.specs.Naming.{atoms_in, atoms_in_all, number_of}
use Rattle.iso_search.specs.Reading.{IsView, reads}
use Rattle.iso_search.specs.Searching.{node_of}
use Rattle.iso_engine.specs.declared.doing.Doing.TheVariants.{Running}
use Rattle.iso_engine.specs.declared.engine.Engine.{Engine}
use Rattle.iso_engine.specs.Views.{view_of}
use Rattle.iso_engine.specs.Ready.{IsStable}
use Rattle.iso_engine.specs.Slices.{IsAnswerHeld}
use Rattle.iso_engine.specs.Standing.{doing_of}
use Rattle.iso_engine.proofs.Heldness.{held_names, IsHeldName}
use Rattle.iso_engine.proofs.Alike.{alike_view}
use Rattle.iso_engine.proofs.Later.{held_later}
use Rattle.iso_engine.proofs.Naming.{AllNames, AllNamesIn, IsShort, names_short}
use Rattle.iso_engine.proofs.Solutions.{node_in}

each_same : {X Y : Type 0} (f g : X → Y) (xs : List X) → map f xs ≡ map g xs → (k : ℕ) (d : X) → k < length xs → f (get_or xs k d) ≡ g (get_or xs k d)
each_same f g [] e k d lt = absurd (omega arith)
each_same f g (x ∷ xs) e zero d lt = first (f x) (g x) (map f xs) (map g xs) e
  where
    first : {Y : Type 0} (a b : Y) (as₁ bs : List Y) → a ∷ as₁ ≡ b ∷ bs → a ≡ b
    first a b as₁ bs h = cc
each_same f g (x ∷ xs) e (suc k) d lt = each_same f g xs (rest (f x) (g x) (map f xs) (map g xs) e) k d (omega arith)
  where
    rest : {Y : Type 0} (a b : Y) (as₁ bs : List Y) → a ∷ as₁ ≡ b ∷ bs → as₁ ≡ bs
    rest a b as₁ bs h = cc

module _ (m : Names) (first : IsSome (m 0)) where
  abbrev IsHeld : ℕ → Type 0
  IsHeld a = IsSome (m a)

  name_held : (f : Chars) → IsShort f → IsHeldName m f → IsHeld (number_of f)
  name_held [] s h = first
  name_held (a ∷ []) s h = h
  name_held (a ∷ (b ∷ bs)) s h = absurd s

  mutual
    all_held : (t : Tree) → AllNames IsShort t → AllNames (IsHeldName m) t → All IsHeld (atoms_in t)
    all_held (var x) s h = All-nil IsHeld
    all_held (int i) s h = All-nil IsHeld
    all_held (atom f) s h = All-cons IsHeld (number_of f) [] (name_held f s h) (All-nil IsHeld)
    all_held (comp f t ts) s h =
        All-cons IsHeld (number_of f) (atoms_in t ++ atoms_in_all ts) (name_held f s.0 h.0)
        (All-append IsHeld (atoms_in t) (atoms_in_all ts) (all_held t s.1.0 h.1.0) (all_held_in ts s.1.1 h.1.1))

    all_held_in : (ts : Trees) → AllNamesIn IsShort ts → AllNamesIn (IsHeldName m) ts → All IsHeld (atoms_in_all ts)
    all_held_in none s h = All-nil IsHeld
    all_held_in (more t ts) s h = All-append IsHeld (atoms_in t) (atoms_in_all ts) (all_held t s.0 h.0) (all_held_in ts s.1 h.1)

pub zero_text : fixed cut_name ≡ Some (codes "!")
unfolding fixed_texts
zero_text = refl

some_there : (o : Option Chars) → IsSome o → (x : Chars) × (o ≡ Some x)
some_there (Some x) h = (x, refl)
some_there Rattle.std.proofs.Common.None h = absurd (Rattle.std.proofs.lemmas.Bool.true≢false (sym h))

still : (m n : Names) → Holds m n → (a : ℕ) → IsSome (m a) → IsSome (n a)
still m n holds a h = let x = some_there (m a) h in ap is_some (holds a x.0 x.1)

pub answer_held : (m n : Names) (t : Told) (e : Engine) (list : ℕ) → FixedStand m → ((a b : ℕ) (x : Chars) → m a ≡ Some x → m b ≡ Some x → a ≡ b)
    → ((a : ℕ) (x : Chars) → m a ≡ Some x → (a < 2 ^ 32) × (size x ≤ 248) × (all_scalars x ≡ true))
    → e.doing ≡ Running list
    → IsStable m t e.search e.doing
    → Holds m n
    → IsAnswerHeld n e
answer_held m n t e list stands unlike finite doing stable holds k d lt =
    let s = e.search.store
    in let ws = e.search.answer.items
    in let p = get_or ws k d
    in let settled = held_names m stands unlike finite (term_at s p)
    (λ q fixes apart later.
    let view : IsView (view_of q t) = record { fixed = fixes; apart = apart }
    in let same = (stable (view_of q t) view (alike_view m q t t (held_later m q t later))).1
    in let node = ap (node_in (node_of (view_of m t) e.search list)) (sym (ap (doing_of (view_of q t) e.search) doing) ∙ same ∙ ap (doing_of (view_of m t) e.search) doing)
    in each_same (reads (view_of q t) s) (reads (view_of m t) s) ws (ap (λ (x : Node). x.answer) node) k d lt)
    in All-weaker (λ a. IsSome (m a)) (λ a. IsSome (n a)) (still m n holds) (atoms_in (term_at s p)) (all_held m (ap is_some (stands 0 (codes "!") zero_text)) (term_at s p) (names_short s p) settled)
